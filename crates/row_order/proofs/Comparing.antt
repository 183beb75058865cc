-- Two comparisons, one after the other.
use Rattle.std.proofs.Common.{◌≡◌, refl, ap}
use Rattle.std.specs.declared.cmp.Ordering.{Ordering}
use Rattle.std.specs.declared.cmp.Ordering.TheVariants.{Less, Equal, Greater}
use Rattle.std.specs.Ordering.{ordering_then}

pub then_equal : (o r : Ordering) → o ≡ Equal → ordering_then o r ≡ r
then_equal o r e = ap (λ (x : Ordering). ordering_then x r) e

pub then_other : (o r : Ordering) → (o ≡ Equal → ⊥) → ordering_then o r ≡ o
then_other Less r other = refl
then_other Equal r other = absurd (other refl)
then_other Greater r other = refl
