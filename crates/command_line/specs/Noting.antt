-- What is noted of an answer.
use Rattle.std.specs.Prelude.{◌≡◌, ℕ, List, Option, Result, Ok, Err}
use Rattle.nq_edge.specs.Lines.{PutsLine}
use Rattle.command_line.specs.Refusals.{note_of}
use Rattle.command_line.specs.declared.refusal.Refusal.{Refusal}

-- nothing was put
pub record PutsNothing (old new : Option (List ℕ)) (before now : ℕ) : Type 0 where
  pub untouched : new ≡ old
  pub uncounted : now ≡ before

-- the note line of a refusal, and nothing else
abbrev pub Notes : {T : Type 0} → Option (List ℕ) → Option (List ℕ) → ℕ → ℕ → Result T Refusal
    → Type 0
Notes old new before now (Ok _) = PutsNothing old new before now
Notes old new before now (Err r) = PutsLine old new before now (note_of r)
