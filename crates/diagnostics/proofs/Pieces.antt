-- Pieces that are put behind one another.
use Rattle.std.proofs.Common.{◌≡◌, ℕ, List, ◌++◌, Result, Ok, Err, OnOk, ap, ◌∙◌, append_assoc}

-- what follows of a success
pub on_ok : {A E P Q : Type 0} (r : Result A E) → (P → Q) → OnOk r P → OnOk r Q
on_ok (Ok x) f h = f h
on_ok (Err e) f h = tt

pub put_two : (old now new first put second : List ℕ) → now ≡ old ++ first → put ≡ second → new
    ≡ now ++ put → new ≡ old ++ (first ++ second)
put_two old now new first put second e f g =
    g ∙ ap (λ (l : List ℕ). now ++ l) f ∙ ap (λ (l : List ℕ). l ++ second) e
    ∙ append_assoc old first second
