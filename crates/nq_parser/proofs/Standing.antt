-- The unfinished forms of a state that is not at the end of its text.
use Rattle.std.proofs.Common.{◌≡◌, ℕ, List, refl}
use Rattle.nq_parser.specs.Machine.{Frame}
use Rattle.nq_parser.specs.Needs.{open_forms}
use Rattle.nq_parser.specs.States.{position_view}
use Rattle.nq_parser.specs.declared.part.Part.{Part}
use Rattle.nq_parser.specs.declared.state.Position.{Position}
use Rattle.nq_parser.specs.declared.state.Position.TheVariants as at

pub stands_in : (p : Position) (k : List Frame) → ((s : Part) (q : ℕ) → p ≡ at.Ready s q → ⊥) → open_forms (position_view p k) ≡ k
stands_in (at.Ready s q) k h = absurd (h s q refl)
stands_in p k h = refl
