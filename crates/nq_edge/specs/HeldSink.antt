-- What a clause reads of the sink in memory.
use Rattle.std.specs.Prelude.{ℕ, List}
use Rattle.nq_edge.specs.declared.held_sink.HeldSink.{HeldSink}

-- the bytes so far
abbrev pub sink_bytes : HeldSink → List ℕ
sink_bytes sink = sink.bytes.items

-- how many bytes it takes
abbrev pub sink_room : HeldSink → ℕ
sink_room sink = sink.room

-- how many puts failed
abbrev pub sink_faults : HeldSink → ℕ
sink_faults sink = sink.faults
