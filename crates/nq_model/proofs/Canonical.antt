-- Laws of the canonical order and form.
use Rattle.std.proofs.Common.{◌≡◌, ℕ, List, [], ◌∷◌, map, refl, sym, ap, ap₂, ◌∙◌, subst, Bool, true, false, cond}
use Rattle.std.specs.declared.cmp.Ordering.{Ordering}
use Rattle.std.specs.declared.cmp.Ordering.TheVariants.{Less, Equal, Greater}
use Rattle.std.specs.Ordering.{is_gt, ordering_reverse, ordering_then, nat_cmp}
use Rattle.std.specs.Cmp.{ranked}
use Rattle.std.specs.Cmp.Lexicographic.{slice_cmp, nat_list_cmp_total, lists_total}
use Rattle.nq_model.specs.Bags.{Pick, here, there, Matched, Reordered}
use Rattle.nq_model.specs.Orders.{put_by, sorted_by, label_cmp}
use Rattle.nq_model.specs.Cells.{cell_cmp}
use Rattle.nq_model.specs.CellLaws.{cell_total, cells_tie}
use Rattle.nq_model.specs.Values.{Nested, base, rec, bag, Elements, end, more, Fields, none, field, labels, elements, elements_of, bag_of, Same, SameFields, SameElements}
use Rattle.nq_model.specs.Canonical.{value_cmp, fields_cmp, elements_cmp, canonical, canonical_fields, canonical_elements}
use Rattle.nq_model.proofs.Orders.{IsStrictOrder, sorted_pick}
use Rattle.nq_model.proofs.Sameness.{elements_back, same_trans, same_sym, same_matched}

-- two comparisons, one after the other
then_ties : (r s : Ordering) → ordering_then r s ≡ Equal → (r ≡ Equal) × (s ≡ Equal)
then_ties Less s e = absurd (cc)
then_ties Equal s e = (refl, e)
then_ties Greater s e = absurd (cc)

then_turned : (r s r' s' : Ordering) → r ≡ ordering_reverse r' → s ≡ ordering_reverse s' → ordering_then r s ≡ ordering_reverse (ordering_then r' s')
then_turned r s Less s' e f = ap (λ x. ordering_then x s) e
then_turned r s Equal s' e f = ap (λ x. ordering_then x s) e ∙ f
then_turned r s Greater s' e f = ap (λ x. ordering_then x s) e

-- r, s and t compare the first parts of three things pair by pair; x, y and z the second
then_chain : (r s t x y z : Ordering) → (r ≡ Less → s ≡ Less → t ≡ Less) → (r ≡ Equal → t ≡ s) → (s ≡ Equal → t ≡ r) → (x ≡ Less → y ≡ Less → z ≡ Less)
    → ordering_then r x ≡ Less → ordering_then s y ≡ Less → ordering_then t z ≡ Less
then_chain Less Less t x y z less left right later p q = ap (λ w. ordering_then w z) (less refl refl)
then_chain Less Equal t x y z less left right later p q = ap (λ w. ordering_then w z) (right refl)
then_chain Less Greater t x y z less left right later p q = absurd (cc)
then_chain Equal Less t x y z less left right later p q = ap (λ w. ordering_then w z) (left refl)
then_chain Equal Equal t x y z less left right later p q = ap (λ w. ordering_then w z) (left refl) ∙ later p q
then_chain Equal Greater t x y z less left right later p q = absurd (cc)
then_chain Greater s t x y z less left right later p q = absurd (cc)

-- lists tie only where they are one, if their elements do
pub lists_tie : {A : Type 0} (cmp : A → A → Ordering) → ((x y : A) → cmp x y ≡ Equal → x ≡ y) → (xs ys : List A) → slice_cmp cmp xs ys ≡ Equal → xs ≡ ys
lists_tie cmp ties [] [] e = refl
lists_tie cmp ties [] (y ∷ ys) e = absurd (cc)
lists_tie cmp ties (x ∷ xs) [] e = absurd (cc)
lists_tie {A} cmp ties (x ∷ xs) (y ∷ ys) e =
    let parts = then_ties (cmp x y) (slice_cmp cmp xs ys) e in
    ap₂ (λ z (l : List A). z ∷ l) (ties x y parts.0) (lists_tie cmp ties xs ys parts.1)

pub label_order : IsStrictOrder label_cmp
label_order = record { total = nat_list_cmp_total; ties = lists_tie nat_cmp (λ x y e. ranked x y Equal (sym e)) }

label_lists_order : IsStrictOrder (slice_cmp label_cmp)
label_lists_order = record { total = lists_total nat_list_cmp_total; ties = lists_tie label_cmp label_order.ties }

pub cell_order : IsStrictOrder cell_cmp
cell_order = record { total = cell_total; ties = cells_tie }

mutual
  values_turned : (v w : Nested) → value_cmp v w ≡ ordering_reverse (value_cmp w v)
  values_turned (base c) (base d) = cell_total.antisymm c d
  values_turned (base c) (rec gs) = refl
  values_turned (base c) (bag ws) = refl
  values_turned (rec fs) (base d) = refl
  values_turned (rec fs) (rec gs) =
      then_turned (slice_cmp label_cmp (labels fs) (labels gs)) (fields_cmp fs gs) (slice_cmp label_cmp (labels gs) (labels fs)) (fields_cmp gs fs) (label_lists_order.total.antisymm (labels fs) (labels gs)) (fields_turned fs gs)
  values_turned (rec fs) (bag ws) = refl
  values_turned (bag vs) (base d) = refl
  values_turned (bag vs) (rec gs) = refl
  values_turned (bag vs) (bag ws) = elements_turned vs ws

  fields_turned : (fs gs : Fields) → fields_cmp fs gs ≡ ordering_reverse (fields_cmp gs fs)
  fields_turned none none = refl
  fields_turned none (field m w gs) = refl
  fields_turned (field l v fs) none = refl
  fields_turned (field l v fs) (field m w gs) =
      then_turned (value_cmp v w) (fields_cmp fs gs) (value_cmp w v) (fields_cmp gs fs) (values_turned v w) (fields_turned fs gs)

  elements_turned : (vs ws : Elements) → elements_cmp vs ws ≡ ordering_reverse (elements_cmp ws vs)
  elements_turned end end = refl
  elements_turned end (more w ws) = refl
  elements_turned (more v vs) end = refl
  elements_turned (more v vs) (more w ws) =
      then_turned (value_cmp v w) (elements_cmp vs ws) (value_cmp w v) (elements_cmp ws vs) (values_turned v w) (elements_turned vs ws)

mutual
  pub values_tie : (v w : Nested) → value_cmp v w ≡ Equal → v ≡ w
  values_tie (base c) (base d) e = ap base (cells_tie c d e)
  values_tie (base c) (rec gs) e = absurd (cc)
  values_tie (base c) (bag ws) e = absurd (cc)
  values_tie (rec fs) (base d) e = absurd (cc)
  values_tie (rec fs) (rec gs) e =
      let parts = then_ties (slice_cmp label_cmp (labels fs) (labels gs)) (fields_cmp fs gs) e in
      ap rec (fields_tie fs gs (label_lists_order.ties (labels fs) (labels gs) parts.0) parts.1)
  values_tie (rec fs) (bag ws) e = absurd (cc)
  values_tie (bag vs) (base d) e = absurd (cc)
  values_tie (bag vs) (rec gs) e = absurd (cc)
  values_tie (bag vs) (bag ws) e = ap bag (elements_tie vs ws e)

  fields_tie : (fs gs : Fields) → labels fs ≡ labels gs → fields_cmp fs gs ≡ Equal → fs ≡ gs
  fields_tie none none l e = refl
  fields_tie none (field m w gs) l e = absurd (cc)
  fields_tie (field k v fs) none l e = absurd (cc)
  fields_tie (field k v fs) (field m w gs) l e =
      let parts = then_ties (value_cmp v w) (fields_cmp fs gs) e in
      let first : k ≡ m = cc in
      let others : labels fs ≡ labels gs = cc in
      let one : v ≡ w = values_tie v w parts.0 in
      let rest : fs ≡ gs = fields_tie fs gs others parts.1 in
      cc

  elements_tie : (vs ws : Elements) → elements_cmp vs ws ≡ Equal → vs ≡ ws
  elements_tie end end e = refl
  elements_tie end (more w ws) e = absurd (cc)
  elements_tie (more v vs) end e = absurd (cc)
  elements_tie (more v vs) (more w ws) e =
      let parts = then_ties (value_cmp v w) (elements_cmp vs ws) e in
      ap₂ more (values_tie v w parts.0) (elements_tie vs ws parts.1)

mutual
  values_chain : (u v w : Nested) → value_cmp u v ≡ Less → value_cmp v w ≡ Less → value_cmp u w ≡ Less
  values_chain (base c) (base d) (base e) p q = cell_total.trans c d e p q
  values_chain (rec fs) (rec gs) (rec hs) p q =
      then_chain (slice_cmp label_cmp (labels fs) (labels gs)) (slice_cmp label_cmp (labels gs) (labels hs)) (slice_cmp label_cmp (labels fs) (labels hs)) (fields_cmp fs gs) (fields_cmp gs hs) (fields_cmp fs hs)
      (label_lists_order.total.trans (labels fs) (labels gs) (labels hs))
      (λ e. ap (λ (l : List (List ℕ)). slice_cmp label_cmp l (labels hs)) (label_lists_order.ties (labels fs) (labels gs) e))
      (λ e. ap (λ (l : List (List ℕ)). slice_cmp label_cmp (labels fs) l) (sym (label_lists_order.ties (labels gs) (labels hs) e)))
      (fields_chain fs gs hs) p q
  values_chain (bag us) (bag vs) (bag ws) p q = elements_chain us vs ws p q
  values_chain (base a) (base b) (rec c) p q = cc
  values_chain (base a) (base b) (bag c) p q = cc
  values_chain (base a) (rec b) (base c) p q = cc
  values_chain (base a) (rec b) (rec c) p q = cc
  values_chain (base a) (rec b) (bag c) p q = cc
  values_chain (base a) (bag b) (base c) p q = cc
  values_chain (base a) (bag b) (rec c) p q = cc
  values_chain (base a) (bag b) (bag c) p q = cc
  values_chain (rec a) (base b) (base c) p q = cc
  values_chain (rec a) (base b) (rec c) p q = cc
  values_chain (rec a) (base b) (bag c) p q = cc
  values_chain (rec a) (rec b) (base c) p q = cc
  values_chain (rec a) (rec b) (bag c) p q = cc
  values_chain (rec a) (bag b) (base c) p q = cc
  values_chain (rec a) (bag b) (rec c) p q = cc
  values_chain (rec a) (bag b) (bag c) p q = cc
  values_chain (bag a) (base b) (base c) p q = cc
  values_chain (bag a) (base b) (rec c) p q = cc
  values_chain (bag a) (base b) (bag c) p q = cc
  values_chain (bag a) (rec b) (base c) p q = cc
  values_chain (bag a) (rec b) (rec c) p q = cc
  values_chain (bag a) (rec b) (bag c) p q = cc
  values_chain (bag a) (bag b) (base c) p q = cc
  values_chain (bag a) (bag b) (rec c) p q = cc

  fields_chain : (fs gs hs : Fields) → fields_cmp fs gs ≡ Less → fields_cmp gs hs ≡ Less → fields_cmp fs hs ≡ Less
  fields_chain (field k u fs) (field l v gs) (field m w hs) p q =
      then_chain (value_cmp u v) (value_cmp v w) (value_cmp u w) (fields_cmp fs gs) (fields_cmp gs hs) (fields_cmp fs hs)
      (values_chain u v w) (λ e. ap (λ x. value_cmp x w) (values_tie u v e)) (λ e. ap (value_cmp u) (sym (values_tie v w e)))
      (fields_chain fs gs hs) p q
  fields_chain none none none p q = cc
  fields_chain none none (field m w hs) p q = cc
  fields_chain none (field l v gs) none p q = cc
  fields_chain none (field l v gs) (field m w hs) p q = cc
  fields_chain (field k u fs) none none p q = cc
  fields_chain (field k u fs) none (field m w hs) p q = cc
  fields_chain (field k u fs) (field l v gs) none p q = cc

  elements_chain : (us vs ws : Elements) → elements_cmp us vs ≡ Less → elements_cmp vs ws ≡ Less → elements_cmp us ws ≡ Less
  elements_chain (more u us) (more v vs) (more w ws) p q =
      then_chain (value_cmp u v) (value_cmp v w) (value_cmp u w) (elements_cmp us vs) (elements_cmp vs ws) (elements_cmp us ws)
      (values_chain u v w) (λ e. ap (λ x. value_cmp x w) (values_tie u v e)) (λ e. ap (value_cmp u) (sym (values_tie v w e)))
      (elements_chain us vs ws) p q
  elements_chain end end end p q = cc
  elements_chain end end (more w ws) p q = cc
  elements_chain end (more v vs) end p q = cc
  elements_chain end (more v vs) (more w ws) p q = cc
  elements_chain (more u us) end end p q = cc
  elements_chain (more u us) end (more w ws) p q = cc
  elements_chain (more u us) (more v vs) end p q = cc

-- the canonical order is a strict total order
pub value_order : IsStrictOrder value_cmp
value_order = record {
  total = record { antisymm = values_turned; trans = values_chain; congr = λ x y z e. ap (λ w. value_cmp w z) (values_tie x y e) };
  ties = values_tie;
}

-- the elements of a canonical bag are the canonical elements, sorted
pub canonical_sorted : (vs : Elements) → canonical_elements vs ≡ sorted_by value_cmp (map canonical (elements vs))
canonical_sorted end = refl
canonical_sorted (more v vs) = ap (put_by value_cmp (canonical v)) (canonical_sorted vs)

-- an element put into a sorted list stands there for a picked one
pub put_picked : {A : Type 0} (cmp : A → A → Ordering) (x : A) (ys : List A) → Pick x (put_by cmp x ys) ys
put_picked cmp x [] = here
put_picked {A} cmp x (y ∷ ys) = go (is_gt (cmp x y)) (put_picked cmp x ys)
  where
    go : (b : Bool) → Pick x (put_by cmp x ys) ys → Pick x (cond b (y ∷ put_by cmp x ys) (x ∷ y ∷ ys)) (y ∷ ys)
    go true p = there p
    go false p = here

-- a sorted list has the elements of the list, in some order
pub reordered_sorted : {A : Type 0} (cmp : A → A → Ordering) (xs : List A) → Reordered xs (sorted_by cmp xs)
reordered_sorted cmp [] = refl
reordered_sorted cmp (x ∷ xs) = (x, sorted_by cmp xs, put_picked cmp x (sorted_by cmp xs), refl, reordered_sorted cmp xs)

-- the canonical form of a value is the same nested multiset
mutual
  pub same_canonical : (v : Nested) → Same v (canonical v)
  same_canonical (base c) = refl
  same_canonical (rec fs) = fields_canonical fs
  same_canonical (bag vs) =
      same_matched vs (elements (elements_of (canonical_elements vs))) (subst (λ (l : List Nested). Matched Same (elements vs) l) (sym (elements_back (canonical_elements vs))) (elements_canonical vs))

  fields_canonical : (fs : Fields) → SameFields fs (canonical_fields fs)
  fields_canonical none = tt
  fields_canonical (field l v fs) = (refl, same_canonical v, fields_canonical fs)

  elements_canonical : (vs : Elements) → Matched Same (elements vs) (canonical_elements vs)
  elements_canonical end = refl
  elements_canonical (more v vs) =
      (canonical v, canonical_elements vs, put_picked value_cmp (canonical v) (canonical_elements vs), same_canonical v, elements_canonical vs)

picked_map : {y : Nested} {ys rest : List Nested} → Pick y ys rest → Pick (canonical y) (map canonical ys) (map canonical rest)
picked_map here = here
picked_map (there p) = there (picked_map p)

-- and is determined by sameness
mutual
  pub canonical_same : (v w : Nested) → Same v w → canonical v ≡ canonical w
  canonical_same (base c) (base d) s = ap base s
  canonical_same (rec fs) (rec gs) s = ap rec (fields_same fs gs s)
  canonical_same (bag vs) (bag ws) s = ap bag_of (elements_same vs (elements ws) s ∙ sym (canonical_sorted ws))
  canonical_same v w s = absurd s

  fields_same : (fs gs : Fields) → SameFields fs gs → canonical_fields fs ≡ canonical_fields gs
  fields_same none none s = refl
  fields_same (field l v fs) (field m w gs) s =
      let first : l ≡ m = s.0 in
      let one : canonical v ≡ canonical w = canonical_same v w s.1 in
      let rest : canonical_fields fs ≡ canonical_fields gs = fields_same fs gs s.2 in
      cc
  fields_same fs gs s = absurd s

  elements_same : (vs : Elements) (ws : List Nested) → SameElements vs ws → canonical_elements vs ≡ sorted_by value_cmp (map canonical ws)
  elements_same end ws s = ap (λ (l : List Nested). sorted_by value_cmp (map canonical l)) (sym s)
  elements_same (more v vs) ws s =
      ap (put_by value_cmp (canonical v)) (elements_same vs s.1 s.4)
      ∙ ap (λ x. put_by value_cmp x (sorted_by value_cmp (map canonical s.1))) (canonical_same v s.0 s.3)
      ∙ sym (sorted_pick value_cmp value_order (picked_map s.2))

-- values are the same exactly where their canonical forms are equal
pub same_by_canonical : (v w : Nested) → canonical v ≡ canonical w → Same v w
same_by_canonical v w e =
    same_trans v (canonical v) w (same_canonical v) (subst (λ x. Same x w) (sym e) (same_sym w (canonical w) (same_canonical w)))
