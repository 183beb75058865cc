-- What is taken from a reader and given to a writer, where they tell their bytes.
use Rattle.std.specs.Prelude.{◌≡◌, ◌≤◌, ℕ, List, ◌++◌, length, Option, Result, Ok, Err}
use Rattle.std.specs.Io.KnownBytes.{Appends, Consumes}
use Rattle.nq_edge.specs.declared.sink.PutFault.{PutFault}
use Rattle.nq_edge.specs.declared.sink.PutFault.TheVariants.{Failed}

-- known bytes lost at most so many of their first ones
abbrev pub LosesAtMost : ℕ → Option (List ℕ) → Option (List ℕ) → Type 0
LosesAtMost most old new = (bytes : List ℕ) × (length bytes ≤ most) × Consumes old new bytes

-- known bytes grew by those of the bytes that stand before the rest
pub record WritesBefore (old new : Option (List ℕ)) (bytes rest : List ℕ) : Type 0 where
  pub front : List ℕ
  pub whole : bytes ≡ front ++ rest
  pub appended : Appends old new front

-- known bytes grew by all of the bytes, or by a prefix of them where the put failed
abbrev pub Writes : {T : Type 0} → Option (List ℕ) → Option (List ℕ) → List ℕ → Result T PutFault → Type 0
Writes old new bytes (Ok _) = Appends old new bytes
Writes old new bytes (Err Failed) = (rest : List ℕ) × WritesBefore old new bytes rest
