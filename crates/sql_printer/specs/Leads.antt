-- What stands before the parts of a list.
use Rattle.std.specs.Prelude.{ℕ, zero, suc, List}

-- before the part at a place: before the first, or before a further one
abbrev pub lead : ℕ → List ℕ → List ℕ → List ℕ
lead zero first further = first
lead (suc place) first further = further
