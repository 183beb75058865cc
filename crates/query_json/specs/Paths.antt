-- How paths are written.
use Rattle.std.specs.Prelude.{ℕ, List, ◌++◌, codes}
use Rattle.std.specs.List.{flat_map}
use Rattle.nq_ir.specs.declared.path.Step.{Step}
use Rattle.nq_ir.specs.declared.path.Step.TheVariants.{Down, Field}

-- to the elements of a bag, or to a field of a record
abbrev pub step_text : Step → List ℕ
step_text Down = codes "[]"
step_text (Field label) = codes "." ++ label

abbrev pub path_text : List Step → List ℕ
path_text path = codes "/" ++ flat_map step_text path
