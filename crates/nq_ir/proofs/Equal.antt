-- Tests of equality, as facts.
use Rattle.std.proofs.Common.{◌≡◌, ℕ, List, Bool, true, false, nat_eq, refl, ap, sym, ◌∙◌}
use Rattle.std.specs.declared.cmp.Ordering.TheVariants.{Less, Greater}
use Rattle.std.specs.Ordering.{ordering_reverse}
use Rattle.nq_model.specs.Orders.{label_cmp}
use Rattle.nq_model.proofs.Canonical.{label_order}
use Rattle.std.specs.Str.{bytes_eq}
use Rattle.std.proofs.lemmas.Bool.Decides.{Decides-eqb}
use Rattle.std.proofs.lemmas.Slice.Eq.{bytes_eq-Decides}

pub bytes_same : (a b : List ℕ) → a ≡ b → bytes_eq a b ≡ true
bytes_same a b e = (bytes_eq-Decides a b).1 e

pub bytes_differ : (a b : List ℕ) → (a ≡ b → ⊥) → bytes_eq a b ≡ false
bytes_differ a b h = go (bytes_eq a b) refl
  where
    go : (t : Bool) → bytes_eq a b ≡ t → t ≡ false
    go true e = absurd (h ((bytes_eq-Decides a b).0 e))
    go false e = refl

pub bytes_turned : (a b : List ℕ) → bytes_eq a b ≡ bytes_eq b a
bytes_turned a b = go (bytes_eq a b) refl (bytes_eq b a) refl
  where
    go : (x : Bool) → bytes_eq a b ≡ x → (y : Bool) → bytes_eq b a ≡ y → x ≡ y
    go true e true f = refl
    go true e false f = let w : true ≡ false = sym ((bytes_eq-Decides b a).1 (sym ((bytes_eq-Decides a b).0 e))) ∙ f in w
    go false e true f = let w : false ≡ true = sym e ∙ (bytes_eq-Decides a b).1 (sym ((bytes_eq-Decides b a).0 f)) in w
    go false e false f = refl

pub nat_same : (a b : ℕ) → a ≡ b → nat_eq a b ≡ true
nat_same a b e = (Decides-eqb a b).1 e

pub nat_differ : (a b : ℕ) → (a ≡ b → ⊥) → nat_eq a b ≡ false
nat_differ a b h = go (nat_eq a b) refl
  where
    go : (t : Bool) → nat_eq a b ≡ t → t ≡ false
    go true e = absurd (h ((Decides-eqb a b).0 e))
    go false e = refl

-- a label is not below itself
pub not_below_self : (l : List ℕ) → label_cmp l l ≡ Less → ⊥
not_below_self l h =
    let e : label_cmp l l ≡ ordering_reverse (label_cmp l l) = label_order.total.antisymm l l in
    let f : ordering_reverse (label_cmp l l) ≡ Greater = ap ordering_reverse h in
    let g : Less ≡ Greater = sym h ∙ e ∙ f in
    absurd (cc)
