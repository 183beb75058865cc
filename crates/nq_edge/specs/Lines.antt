-- What is put of a line.
use Rattle.std.specs.Prelude.{◌≡◌, ℕ, List, Option}
use Rattle.nq_edge.specs.Edge.{Rose, TellsMore, AppendsPrefix}

-- the whole line was put and the count stayed, or a prefix of it was put and the count rose
pub data PutsLine (old new : Option (List ℕ)) (before now : ℕ) (line : List ℕ) : Type 0 where
  whole : TellsMore old new line → now ≡ before → PutsLine old new before now line
  part : AppendsPrefix old new line → Rose before now → PutsLine old new before now line
