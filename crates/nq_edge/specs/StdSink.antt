-- What a clause reads of the sink over a writer.
use Rattle.std.specs.Prelude.{ℕ}
use Rattle.nq_edge.specs.declared.std_sink.StdSink.{StdSink}

-- the writer
abbrev pub sink_writer : {W : Type 0} → StdSink W → W
sink_writer sink = sink.to

-- how many puts failed
abbrev pub sink_faults : {W : Type 0} → StdSink W → ℕ
sink_faults sink = sink.faults
