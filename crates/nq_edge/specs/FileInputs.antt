-- What a clause reads of the inputs over files.
use Rattle.std.specs.Prelude.{ℕ}
use Rattle.nq_edge.specs.declared.file_inputs.FileInputs.{FileInputs}

-- how many calls failed
abbrev pub file_faults : {R File Dir : Type 0} → FileInputs R File Dir → ℕ
file_faults inputs = inputs.faults
