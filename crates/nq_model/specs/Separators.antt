-- What stands between the parts of a text.
use Rattle.std.specs.Prelude.{ℕ, zero, suc, List, [], codes}

-- what stands before the field or the element at a place
abbrev pub separator : ℕ → List ℕ
separator zero = []
separator (suc place) = codes ", "
