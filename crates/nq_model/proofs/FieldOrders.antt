-- Record types whatever the order of fields, and their labels in byte order.
use Rattle.std.proofs.Common.{◌≡◌, ℕ, Bool, true, false, cond, List, [], ◌∷◌, map, refl, ap, sym, ◌∙◌, subst, true≢false}
use Rattle.std.specs.List.{AllByRecursion as Each}
use Rattle.std.specs.declared.cmp.Ordering.{Ordering}
use Rattle.std.specs.declared.cmp.Ordering.TheVariants.{Less, Equal, Greater}
use Rattle.std.specs.Ordering.{is_gt, ordering_reverse}
use Rattle.std.specs.Cmp.{upto}
use Rattle.nq_model.specs.Bags.{Pick, here, there, Reordered}
use Rattle.nq_model.specs.Orders.{label_cmp, AreDistinct, AreRising}
use Rattle.nq_model.specs.Types.{TypeTree, FieldTypes}
use Rattle.nq_model.specs.Terms.{TermTree, term_fields_of}
use Rattle.nq_model.specs.Typing.{HasType, HaveTypes, put_type}
use Rattle.nq_model.specs.Proper.{labels_of}
use Rattle.nq_model.proofs.Canonical.{label_order}
use Rattle.nq_model.specs.declared.table.Schema.{Schema}

reversed : (r : Ordering) → is_gt r ≡ true → ordering_reverse r ≡ Less
reversed Less e = absurd (true≢false (sym e))
reversed Equal e = absurd (true≢false (sym e))
reversed Greater e = refl

-- of two labels that differ, the one that is not above is below
below : (l m : List ℕ) → (l ≡ m → ⊥) → (r : Ordering) → label_cmp l m ≡ r → is_gt r ≡ false → label_cmp l m ≡ Less
below l m ne Less e h = e
below l m ne Equal e h = absurd (ne (label_order.ties l m e))
below l m ne Greater e h = absurd (true≢false h)

pub not_above : (l m : List ℕ) → (l ≡ m → ⊥) → is_gt (label_cmp l m) ≡ false → label_cmp l m ≡ Less
not_above l m ne h = below l m ne (label_cmp l m) refl h

pub above_less : (l m : List ℕ) → is_gt (label_cmp l m) ≡ true → label_cmp m l ≡ Less
above_less l m h = label_order.total.antisymm m l ∙ reversed (label_cmp l m) h

less_above : (l m : List ℕ) → label_cmp l m ≡ Less → is_gt (label_cmp m l) ≡ true
less_above l m h = ap is_gt (label_order.total.antisymm m l ∙ ap ordering_reverse h)

other_way : (l m : List ℕ) → is_gt (label_cmp l m) ≡ true → is_gt (label_cmp m l) ≡ false
other_way l m h = ap is_gt (above_less l m h)

this_way : (l m : List ℕ) → (l ≡ m → ⊥) → is_gt (label_cmp l m) ≡ false → is_gt (label_cmp m l) ≡ true
this_way l m ne h = less_above l m (not_above l m ne h)

-- x is not above z, and y is: so y is above x
between : (x y z : List ℕ) → is_gt (label_cmp x z) ≡ false → is_gt (label_cmp y z) ≡ true → is_gt (label_cmp y x) ≡ true
between x y z h k = by (is_gt (label_cmp y x)) refl
  where
    by : (b : Bool) → is_gt (label_cmp y x) ≡ b → b ≡ true
    by true e = refl
    by false e = absurd (true≢false (sym k ∙ upto label_order.total y x z e h))

put_cases : (l : List ℕ) (a : TypeTree) (z : List ℕ) (c : TypeTree) (fs : FieldTypes) (b : Bool) → is_gt (label_cmp l z) ≡ b →
    put_type l a (FieldTypes.field z c fs) ≡ cond b (FieldTypes.field z c (put_type l a fs)) (FieldTypes.field l a (FieldTypes.field z c fs))
put_cases l a z c fs b e = ap (λ x. cond x (FieldTypes.field z c (put_type l a fs)) (FieldTypes.field l a (FieldTypes.field z c fs))) e

-- two fields may be put in either order
pub put_type_twice : (l : List ℕ) (a : TypeTree) (m : List ℕ) (b : TypeTree) (fs : FieldTypes) → (l ≡ m → ⊥) →
    put_type l a (put_type m b fs) ≡ put_type m b (put_type l a fs)
put_type_twice l a m b FieldTypes.none ne = ends (is_gt (label_cmp l m)) refl
  where
    ends : (t : Bool) → is_gt (label_cmp l m) ≡ t → put_type l a (FieldTypes.field m b FieldTypes.none) ≡ put_type m b (FieldTypes.field l a FieldTypes.none)
    ends true e = put_cases l a m b FieldTypes.none true e ∙ sym (put_cases m b l a FieldTypes.none false (other_way l m e))
    ends false e = put_cases l a m b FieldTypes.none false e ∙ sym (put_cases m b l a FieldTypes.none true (this_way l m ne e))
put_type_twice l a m b (FieldTypes.field z c fs) ne = go (is_gt (label_cmp l z)) (is_gt (label_cmp m z)) refl refl (put_type_twice l a m b fs ne)
  where
    both_first : (t : Bool) → is_gt (label_cmp l m) ≡ t → is_gt (label_cmp l z) ≡ false → is_gt (label_cmp m z) ≡ false →
        put_type l a (FieldTypes.field m b (FieldTypes.field z c fs)) ≡ put_type m b (FieldTypes.field l a (FieldTypes.field z c fs))
    both_first true e h k =
        put_cases l a m b (FieldTypes.field z c fs) true e ∙ ap (FieldTypes.field m b) (put_cases l a z c fs false h)
        ∙ sym (put_cases m b l a (FieldTypes.field z c fs) false (other_way l m e))
    both_first false e h k =
        put_cases l a m b (FieldTypes.field z c fs) false e
        ∙ sym (put_cases m b l a (FieldTypes.field z c fs) true (this_way l m ne e) ∙ ap (FieldTypes.field l a) (put_cases m b z c fs false k))

    go : (s t : Bool) → is_gt (label_cmp l z) ≡ s → is_gt (label_cmp m z) ≡ t → put_type l a (put_type m b fs) ≡ put_type m b (put_type l a fs) →
        put_type l a (put_type m b (FieldTypes.field z c fs)) ≡ put_type m b (put_type l a (FieldTypes.field z c fs))
    go true true h k later =
        ap (put_type l a) (put_cases m b z c fs true k) ∙ put_cases l a z c (put_type m b fs) true h
        ∙ ap (FieldTypes.field z c) later
        ∙ sym (ap (put_type m b) (put_cases l a z c fs true h) ∙ put_cases m b z c (put_type l a fs) true k)
    go true false h k later =
        ap (put_type l a) (put_cases m b z c fs false k) ∙ put_cases l a m b (FieldTypes.field z c fs) true (between m l z k h)
        ∙ ap (FieldTypes.field m b) (put_cases l a z c fs true h)
        ∙ sym (ap (put_type m b) (put_cases l a z c fs true h) ∙ put_cases m b z c (put_type l a fs) false k)
    go false true h k later =
        ap (put_type l a) (put_cases m b z c fs true k) ∙ put_cases l a z c (put_type m b fs) false h
        ∙ sym (ap (put_type m b) (put_cases l a z c fs false h) ∙ put_cases m b l a (FieldTypes.field z c fs) true (between l m z h k)
        ∙ ap (FieldTypes.field l a) (put_cases m b z c fs true k))
    go false false h k later =
        ap (put_type l a) (put_cases m b z c fs false k)
        ∙ both_first (is_gt (label_cmp l m)) refl h k
        ∙ sym (ap (put_type m b) (put_cases l a z c fs false h))

-- what holds of the label of a field that is picked
picked_label : {X : Type 0} (P : List ℕ → Type 0) {y : List ℕ × X} {ys rest : List (List ℕ × X)} → Pick y ys rest → Each P (map (λ f. f.0) ys) → P y.0
picked_label P here all = all.0
picked_label P (there p) all = picked_label P p all.1

left_labels : {X : Type 0} (P : List ℕ → Type 0) {y : List ℕ × X} {ys rest : List (List ℕ × X)} → Pick y ys rest → Each P (map (λ f. f.0) ys) → Each P (map (λ f. f.0) rest)
left_labels P here all = all.1
left_labels P (there p) all = (all.0, left_labels P p all.1)

left_distinct : {X : Type 0} {y : List ℕ × X} {ys rest : List (List ℕ × X)} → Pick y ys rest → AreDistinct (map (λ f. f.0) ys) → AreDistinct (map (λ f. f.0) rest)
left_distinct here d = d.1
left_distinct (there {z = z} p) d = (left_labels (λ l. z.0 ≡ l → ⊥) p d.0, left_distinct p d.1)

module _ (schema : Schema) (cx : List TypeTree) where
  picked_type : {y : List ℕ × TermTree} {ys rest : List (List ℕ × TermTree)} → Pick y ys rest → AreDistinct (map (λ f. f.0) ys) →
      (fields : FieldTypes) → HaveTypes schema cx (term_fields_of ys) fields →
      (k : TypeTree) × (left : FieldTypes) × HasType schema cx y.1 k × HaveTypes schema cx (term_fields_of rest) left × (fields ≡ put_type y.0 k left)
  picked_type here d fields h = h
  picked_type {y = y} (there {z = z} p) d fields h =
      let i = picked_type p d.1 h.1 h.3 in
      let ne = picked_label (λ l. z.0 ≡ l → ⊥) p d.0 in
      (i.0, put_type z.0 h.0 i.1, i.2, (h.0, i.1, h.2, i.3, refl), h.4 ∙ ap (put_type z.0 h.0) i.4 ∙ put_type_twice z.0 h.0 y.0 i.0 i.1 ne)

  pub any_order : (fs gs : List (List ℕ × TermTree)) (fields : FieldTypes) → Reordered fs gs → AreDistinct (map (λ f. f.0) gs) →
      HaveTypes schema cx (term_fields_of gs) fields → HaveTypes schema cx (term_fields_of fs) fields
  any_order [] gs fields m d h =
      let P : List (List ℕ × TermTree) → Type 0 = λ x. HaveTypes schema cx (term_fields_of x) fields in subst P m h
  any_order (f ∷ fs) gs fields m d h =
      let i = picked_type m.2 d fields h in
      let rest = any_order fs m.1 i.1 m.4 (left_distinct m.2 d) i.3 in
      let P : (List ℕ × TermTree) → Type 0 = λ x. HasType schema cx x.1 i.0 in
      let Q : (List ℕ × TermTree) → Type 0 = λ x. fields ≡ put_type x.0 i.0 i.1 in
      (i.0, i.1, subst P (sym m.3) i.2, rest, subst Q (sym m.3) i.4)

-- what holds of each label holds with one more
pub each_label_put : (P : List ℕ → Type 0) (l : List ℕ) (k : TypeTree) (fs : FieldTypes) → P l → Each P (labels_of fs) → Each P (labels_of (put_type l k fs))
each_label_put P l k FieldTypes.none h all = (h, tt)
each_label_put P l k (FieldTypes.field m j fs) h all =
    cond_of (λ x. Each P (labels_of x)) (is_gt (label_cmp l m)) _ _ (all.0, each_label_put P l k fs h all.1) (h, all)
  where
    cond_of : (Q : FieldTypes → Type 0) (b : Bool) (x y : FieldTypes) → Q x → Q y → Q (cond b x y)
    cond_of Q true x y p q = p
    cond_of Q false x y p q = q

each_less : (l m : List ℕ) (ls : List (List ℕ)) → label_cmp l m ≡ Less → Each (λ x. label_cmp m x ≡ Less) ls → Each (λ x. label_cmp l x ≡ Less) ls
each_less l m [] h all = tt
each_less l m (x ∷ xs) h all = (label_order.total.trans l m x h all.0, each_less l m xs h all.1)

-- a label that none of the others is, put among labels in byte order
pub rising_put : (l : List ℕ) (k : TypeTree) (fs : FieldTypes) → Each (λ m. l ≡ m → ⊥) (labels_of fs) → AreRising (labels_of fs) → AreRising (labels_of (put_type l k fs))
rising_put l k FieldTypes.none ne up = (tt, tt)
rising_put l k (FieldTypes.field m j fs) ne up = by (is_gt (label_cmp l m)) refl (rising_put l k fs ne.1 up.1)
  where
    by : (b : Bool) → is_gt (label_cmp l m) ≡ b → AreRising (labels_of (put_type l k fs)) → AreRising (labels_of (put_type l k (FieldTypes.field m j fs)))
    by true e later =
        let P : FieldTypes → Type 0 = λ x. AreRising (labels_of x) in
        subst P (sym (put_cases l k m j fs true e)) (each_label_put (λ x. label_cmp m x ≡ Less) l k fs (above_less l m e) up.0, later)
    by false e later =
        let P : FieldTypes → Type 0 = λ x. AreRising (labels_of x) in
        let less = not_above l m ne.0 e in
        subst P (sym (put_cases l k m j fs false e)) ((less, each_less l m (labels_of fs) less up.0), up)
