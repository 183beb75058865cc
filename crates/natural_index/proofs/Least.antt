-- The generator with the least number of some, list by list.
use Rattle.std.proofs.Common.{◌≡◌, ℕ, ◌+◌, ◌<◌, ◌≤◌, List, [], ◌∷◌, ◌++◌, refl, sym, ap, ◌∙◌, Bool, true, false, cond, flat_map, map, nat_eq, nat_le, arith, drop, length, slice_index_or, Option, None, Some}
use Rattle.std.proofs.lemmas.Bool.{leb-true, leb-false}
use Rattle.std.proofs.lemmas.List.{drop_more}
use Rattle.nq_model.specs.Meaning.{is_none}
use Rattle.nq_model.specs.Types.{type_tree}
use Rattle.nq_model.specs.declared.table.TableShape.{TableShape}
use Rattle.nq_ir.specs.Parts.{slots}
use Rattle.nq_ir.specs.Shredded.{shredded_tree}
use Rattle.nq_ir.specs.Spots.{strand_tree}
use Rattle.nq_ir.specs.declared.base.Gen.{Gen}
use Rattle.nq_ir.specs.declared.shredded.Shredded.{Shredded}
use Rattle.nq_ir.specs.declared.shredded.Strand.{Strand}
use Rattle.natural_keys.specs.Layouts.{table_key}
use Rattle.natural_index.specs.Naming.{keyless, least, lesser, lesser_of, naming_at}

le_true : (m n : ℕ) → m ≤ n → nat_le m n ≡ true
le_true m n h = go (nat_le m n) refl
  where
    go : (b : Bool) → nat_le m n ≡ b → b ≡ true
    go true e = refl
    go false e = absurd (let l : n < m = leb-false m n e in omega (arith, h, l))

le_false : (m n : ℕ) → n < m → nat_le m n ≡ false
le_false m n h = go (nat_le m n) refl
  where
    go : (b : Bool) → nat_le m n ≡ b → b ≡ false
    go true e = absurd (let l : m ≤ n = leb-true m n e in omega (arith, h, l))
    go false e = refl

step : (a b c : Bool) (g h k : Gen) → (a ≡ true → b ≡ true → c ≡ true)
    → (a ≡ false → b ≡ false → c ≡ false) → cond (cond a c b) (cond a g h) k
    ≡ cond (cond b a c) g (cond b h k)
step true true c g h k both neither = ap (λ z. cond z g k) (both refl refl)
step true false c g h k both neither = refl
step false true c g h k both neither = refl
step false false c g h k both neither = sym (ap (λ z. cond z g k) (neither refl refl))

lesser_assoc : (g h k : Gen) → lesser (lesser g (Some h)) (Some k)
    ≡ lesser g (Some (lesser h (Some k)))
lesser_assoc g h k =
    let a = nat_le g.number h.number in
    let b = nat_le h.number k.number in
    let c = nat_le g.number k.number in
    ap (λ z. cond z (cond a g h) k) (left a)
    ∙ step a b c g h k
    (λ p q. let u : g.number ≤ h.number = leb-true g.number h.number p in let v : h.number ≤ k.number = leb-true h.number k.number q in le_true g.number k.number (omega (arith, u, v)))
    (λ p q. let u : h.number < g.number = leb-false g.number h.number p in let v : k.number < h.number = leb-false h.number k.number q in le_false g.number k.number (omega (arith, u, v)))
    ∙ sym (ap (λ z. cond z g (cond b h k)) (right b))
  where
    left : (a : Bool) → nat_le (cond a g h).number k.number
        ≡ cond a (nat_le g.number k.number) (nat_le h.number k.number)
    left true = refl
    left false = refl

    right : (b : Bool) → nat_le g.number (cond b h k).number
        ≡ cond b (nat_le g.number h.number) (nat_le g.number k.number)
    right true = refl
    right false = refl

pub lesser_of_assoc : (f g h : Option Gen) → lesser_of (lesser_of f g) h
    ≡ lesser_of f (lesser_of g h)
lesser_of_assoc None g h = refl
lesser_of_assoc (Some f) None h = refl
lesser_of_assoc (Some f) (Some g) None = refl
lesser_of_assoc (Some f) (Some g) (Some h) = ap Some (lesser_assoc f g h)

pub lesser_of_none : (f : Option Gen) → lesser_of f None ≡ f
lesser_of_none None = refl
lesser_of_none (Some f) = refl

-- the least of two lists
pub least_append : (S : List TableShape) (xs ys : List Gen) → least (keyless S (xs ++ ys))
    ≡ lesser_of (least (keyless S xs)) (least (keyless S ys))
least_append S [] ys = refl
least_append S (g ∷ xs) ys = go (is_none (table_key S g.table)) (least_append S xs ys)
  where
    go : (b : Bool) → least (keyless S (xs ++ ys)) ≡ lesser_of (least (keyless S xs))
        (least (keyless S ys)) → least (cond b (g ∷ keyless S (xs ++ ys)) (keyless S (xs ++ ys)))
        ≡ lesser_of (least (cond b (g ∷ keyless S xs) (keyless S xs))) (least (keyless S ys))
    go true e = ap (lesser_of (Some g)) e ∙ sym (lesser_of_assoc (Some g) (least (keyless S xs))
        (least (keyless S ys)))
    go false e = e

-- one generator more, with a key and without
pub keyed_more : (S : List TableShape) (f : Option Gen) (g : Gen) (gens : List Gen)
    → is_none (table_key S g.table) ≡ false → lesser_of f (least (keyless S (g ∷ gens)))
    ≡ lesser_of f (least (keyless S gens))
keyed_more S f g gens e = ap
    (λ b. lesser_of f (least (cond b (g ∷ keyless S gens) (keyless S gens)))) e

pub keyless_more : (S : List TableShape) (f n : Option Gen) (g : Gen) (gens : List Gen)
    → is_none (table_key S g.table) ≡ true → n ≡ lesser_of f (Some g)
    → lesser_of n (least (keyless S gens)) ≡ lesser_of f (least (keyless S (g ∷ gens)))
keyless_more S f n g gens e is =
    ap (λ z. lesser_of z (least (keyless S gens))) is
    ∙ lesser_of_assoc f (Some g) (least (keyless S gens))
    ∙ sym (ap (λ b. lesser_of f (least (cond b (g ∷ keyless S gens) (keyless S gens)))) e)

-- one list more
pub list_more : (S : List TableShape) (f n : Option Gen) (xs ys : List Gen) → n
    ≡ lesser_of f (least (keyless S xs)) → lesser_of n (least (keyless S ys))
    ≡ lesser_of f (least (keyless S (xs ++ ys)))
list_more S f n xs ys is =
    ap (λ z. lesser_of z (least (keyless S ys))) is
    ∙ lesser_of_assoc f (least (keyless S xs)) (least (keyless S ys))
    ∙ sym (ap (lesser_of f) (least_append S xs ys))

abbrev gens_of : List Strand → List Gen
gens_of parts = flat_map (λ d. d.gens) (map strand_tree parts)

-- the own generators of one comprehension more
pub part_more : (S : List TableShape) (parts : List Strand) (i : ℕ) (p : Strand) (f n : Option Gen)
    (gens : List Gen) → i < length parts → p ≡ slice_index_or parts i p → gens ≡ p.gens → n
    ≡ lesser_of f (least (keyless S gens)) → lesser_of n
    (least (keyless S (gens_of (drop (i + 1) parts)))) ≡ lesser_of f
    (least (keyless S (gens_of (drop i parts))))
part_more S parts i p f n gens h at own is =
    let rest : List Gen = gens_of (drop (i + 1) parts) in
    list_more S f n gens rest is
    ∙ ap (λ (l : List Gen). lesser_of f (least (keyless S (l ++ rest))))
    (own ∙ ap (λ (d : Strand). d.gens) at)
    ∙ sym (ap (λ (ds : List Strand). lesser_of f (least (keyless S (gens_of ds))))
    (drop_more parts i p h))

abbrev named_by : Shredded → List Gen
named_by x = cond (nat_eq (slots (type_tree x.element)) 0) [] (gens_of x.parts)

abbrev naming_of : List Shredded → List Gen
naming_of forms = flat_map (λ form. naming_at form.element form.parts) (map shredded_tree forms)

module _ (S : List TableShape) (forms : List Shredded) (i : ℕ) (x : Shredded) (f n : Option Gen)
    (h : i < length forms) (at : x ≡ slice_index_or forms i x) where
  form_step : (gens : List Gen) → gens ≡ named_by x → n ≡ lesser_of f (least (keyless S gens))
      → lesser_of n (least (keyless S (naming_of (drop (i + 1) forms))))
      ≡ lesser_of f (least (keyless S (naming_of (drop i forms))))
  form_step gens own is =
      let rest : List Gen = naming_of (drop (i + 1) forms) in
      list_more S f n gens rest is
      ∙ ap (λ (l : List Gen). lesser_of f (least (keyless S (l ++ rest)))) (own ∙ ap named_by at)
      ∙ sym (ap (λ (ss : List Shredded). lesser_of f (least (keyless S (naming_of ss))))
      (drop_more forms i x h))

  -- one form more, whose elements hold a bag
  pub form_more : (parts : List Strand) → nat_eq (slots (type_tree x.element)) 0 ≡ false → parts
      ≡ x.parts → n ≡ lesser_of f (least (keyless S (gens_of parts)))
      → lesser_of n (least (keyless S (naming_of (drop (i + 1) forms))))
      ≡ lesser_of f (least (keyless S (naming_of (drop i forms))))
  form_more parts some own is =
      form_step (gens_of parts)
      (ap gens_of own ∙ sym (ap (λ (b : Bool). cond b [] (gens_of x.parts)) some)) is

  -- one form more, whose elements hold none
  pub form_passed : nat_eq (slots (type_tree x.element)) 0 ≡ true → n ≡ f
      → lesser_of n (least (keyless S (naming_of (drop (i + 1) forms))))
      ≡ lesser_of f (least (keyless S (naming_of (drop i forms))))
  form_passed none is =
      form_step [] (sym (ap (λ (b : Bool). cond b [] (gens_of x.parts)) none))
      (is ∙ sym (lesser_of_none f))
