-- Types under more binders, and types of fields.
use Rattle.std.proofs.Common.{◌≡◌, ℕ, zero, suc, ◌+◌, ◌-◌, ◌<◌, ◌≤◌, max, cond, Bool, true, false, ◌&&◌, List, [], ◌∷◌, ◌++◌, length, Option, Some, refl, sym, ap, ◌∙◌, subst as along, nat_lt, nat_eq, bytes_eq, arith}
use Rattle.std.specs.Prelude.{slice_get}
use Rattle.std.specs.Ordering.{is_gt, ordering_reverse}
use Rattle.std.specs.declared.cmp.Ordering.{Ordering}
use Rattle.std.specs.declared.cmp.Ordering.TheVariants.{Less, Equal, Greater}
use Rattle.std.specs.Cmp.Lexicographic.{same_text, nat_list_cmp_total}
use Rattle.nq_model.specs.Orders.{label_cmp}
use Rattle.nq_model.specs.Types.{TypeTree, FieldTypes, is_plain, are_plain, is_well_formed, are_well_formed}
use Rattle.nq_model.specs.Terms.{TermTree, TermFields}
use Rattle.nq_model.specs.Substitution.{shift_tree, shift_tree_fields}
use Rattle.nq_model.specs.Tables.{base_type}
use Rattle.nq_model.specs.Typing.{type_at, put_type, HasType, HaveTypes}
use Rattle.nq_model.specs.declared.table.Schema.{Schema}
use Rattle.nq_model.specs.declared.table.ColumnType.{ColumnType}
use Rattle.nq_model.specs.declared.table.ColumnType.TheVariants as column
use Rattle.unfold.specs.Hereditary.{rank, ranks}

pub lt_true : (a b : ℕ) → nat_lt a b ≡ true → a < b
lt_true a b e = grind arith

pub lt_false : (a b : ℕ) → nat_lt a b ≡ false → b ≤ a
lt_false a b e = grind arith

pub eq_true : (a b : ℕ) → nat_eq a b ≡ true → a ≡ b
eq_true a b e = grind arith

pub eq_false : (a b : ℕ) → nat_eq a b ≡ false → a ≡ b → ⊥
eq_false a b e f = grind arith

pub left : {A : Type 0} (d x y : List A) (j : ℕ) → j < length d → slice_get (d ++ x) j ≡ slice_get (d ++ y) j
left [] x y j h = absurd (omega arith)
left (c ∷ d) x y zero h = refl
left (c ∷ d) x y (suc j) h = left d x y j (omega arith)

pub right : {A : Type 0} (d x : List A) (j : ℕ) → slice_get (d ++ x) (length d + j) ≡ slice_get x j
right [] x j = let e : 0 + j ≡ j = omega arith in ap (slice_get x) e
right (c ∷ d) x j =
    let e : suc (length d) + j ≡ suc (length d + j) = omega arith in
    ap (slice_get (c ∷ (d ++ x))) e ∙ right d x j

pub one_more : (c n : ℕ) → c ≡ n → c + 1 ≡ suc n
one_more c n e = omega (arith, e)

shift_var : {A : Type 0} (d e g : List A) (j : ℕ) (k : A) → slice_get (d ++ g) j ≡ Some k → (b : Bool) → nat_lt j (length d) ≡ b → slice_get (d ++ (e ++ g)) (cond b j (j + length e)) ≡ Some k
shift_var d e g j k h true l = sym (left d g (e ++ g) j (lt_true j (length d) l)) ∙ h
shift_var d e g j k h false l =
    let m = lt_false j (length d) l in
    let f : j ≡ length d + (j - length d) = omega (arith, m) in
    let s : j + length e ≡ length d + (length e + (j - length d)) = omega (arith, m) in
    ap (slice_get (d ++ (e ++ g))) s ∙ right d (e ++ g) (length e + (j - length d)) ∙ right e g (j - length d) ∙ sym (right d g (j - length d)) ∙ ap (slice_get (d ++ g)) (sym f) ∙ h

module _ (schema : Schema) (e g : List TypeTree) (m : ℕ) (em : m ≡ length e) where
  mutual
    pub shift_has : (d : List TypeTree) (c : ℕ) → c ≡ length d → (t : TermTree) (k : TypeTree) → HasType schema (d ++ g) t k → HasType schema (d ++ (e ++ g)) (shift_tree m c t) k
    shift_has d c q (TermTree.var j) k h = rw (q, em) (shift_var d e g j k h (nat_lt j (length d)) refl)
    shift_has d c q (TermTree.int n) k h = h
    shift_has d c q (TermTree.bool b) k h = h
    shift_has d c q (TermTree.text t) k h = h
    shift_has d c q (TermTree.table l) k h = h
    shift_has d c q (TermTree.unary op t) k h = (h.0, h.1, shift_has d c q t (base_type h.0) h.2, h.3, h.4)
    shift_has d c q (TermTree.binary op t u) k h = (h.0, h.1, h.2, shift_has d c q t (base_type h.0) h.3, shift_has d c q u (base_type h.1) h.4, h.5, h.6)
    shift_has d c q (TermTree.choose t u v) k h = (shift_has d c q t TypeTree.bool h.0, shift_has d c q u k h.1, shift_has d c q v k h.2)
    shift_has d c q (TermTree.fun a t) k h = (h.0, h.1, shift_has (a ∷ d) (c + 1) (one_more c (length d) q) t h.0 h.2, h.3)
    shift_has d c q (TermTree.apply t u) k h = (h.0, shift_has d c q t (TypeTree.fun h.0 k) h.1, shift_has d c q u h.0 h.2)
    shift_has d c q (TermTree.rec fs) k h = (h.0, shift_have d c q fs h.0 h.1, h.2)
    shift_has d c q (TermTree.field t l) k h = (h.0, shift_has d c q t (TypeTree.rec h.0) h.1, h.2)
    shift_has d c q (TermTree.aggregate o t) k h = (h.0, shift_has d c q t (TypeTree.bag h.0) h.1, h.2)
    shift_has d c q (TermTree.single t) k h = (h.0, shift_has d c q t h.0 h.1, h.2, h.3)
    shift_has d c q (TermTree.nil a) k h = h
    shift_has d c q (TermTree.union t u) k h = (h.0, h.1, shift_has d c q t k h.2, shift_has d c q u k h.3)
    shift_has d c q (TermTree.for t u) k h = (h.0, h.1, shift_has d c q t (TypeTree.bag h.0) h.2, shift_has (h.0 ∷ d) (c + 1) (one_more c (length d) q) u k h.3, h.4)
    shift_has d c q (TermTree.guard t u) k h = (h.0, shift_has d c q t TypeTree.bool h.1, shift_has d c q u k h.2, h.3)
    shift_has d c q (TermTree.bind t u) k h = (h.0, shift_has d c q t h.0 h.1, shift_has (h.0 ∷ d) (c + 1) (one_more c (length d) q) u k h.2)

    shift_have : (d : List TypeTree) (c : ℕ) → c ≡ length d → (fs : TermFields) (ks : FieldTypes) → HaveTypes schema (d ++ g) fs ks → HaveTypes schema (d ++ (e ++ g)) (shift_tree_fields m c fs) ks
    shift_have d c q TermFields.none ks h = h
    shift_have d c q (TermFields.with_field l t fs) ks h = (h.0, h.1, shift_has d c q t h.0 h.2, shift_have d c q fs h.1 h.3, h.4)

-- base types
pub base_plain : (c : ColumnType) → is_plain (base_type c) ≡ true
base_plain column.Int = refl
base_plain column.Bool = refl
base_plain column.Text = refl

pub base_no_fun : {X : Type 0} (c : ColumnType) (a b : TypeTree) → TypeTree.fun a b ≡ base_type c → X
base_no_fun column.Int a b e = absurd (cc)
base_no_fun column.Bool a b e = absurd (cc)
base_no_fun column.Text a b e = absurd (cc)

pub base_no_rec : {X : Type 0} (c : ColumnType) (fs : FieldTypes) → TypeTree.rec fs ≡ base_type c → X
base_no_rec column.Int fs e = absurd (cc)
base_no_rec column.Bool fs e = absurd (cc)
base_no_rec column.Text fs e = absurd (cc)

-- the order of labels
self_turned : (o : Ordering) → o ≡ ordering_reverse o → is_gt o ≡ false
self_turned Less e = refl
self_turned Equal e = refl
self_turned Greater e = cc

label_self : (m : List ℕ) → is_gt (label_cmp m m) ≡ false
label_self m = self_turned (label_cmp m m) (nat_list_cmp_total.antisymm m m)

swap : {A : Type 0} (p q : Bool) (x y z : A) → (p ≡ true → q ≡ true → ⊥) → cond p x (cond q y z) ≡ cond q y (cond p x z)
swap true true x y z h = absurd (h refl refl)
swap true false x y z h = refl
swap false q x y z h = refl

put_type_at_by : (l m n : List ℕ) (j i : TypeTree) (ks : FieldTypes) → type_at l (put_type m j ks) ≡ cond (bytes_eq l m) (Some j) (type_at l ks) → (b : Bool) → is_gt (label_cmp m n) ≡ b → type_at l (cond b (FieldTypes.field n i (put_type m j ks)) (FieldTypes.field m j (FieldTypes.field n i ks))) ≡ cond (bytes_eq l m) (Some j) (type_at l (FieldTypes.field n i ks))
put_type_at_by l m n j i ks ih false e = refl
put_type_at_by l m n j i ks ih true e =
    ap (λ o. cond (bytes_eq l n) (Some i) o) ih ∙ swap (bytes_eq l n) (bytes_eq l m) (Some i) (Some j) (type_at l ks) (λ p q.
    let s : n ≡ m = sym (same_text l n (sym p)) ∙ same_text l m (sym q) in
    let f : is_gt (label_cmp m m) ≡ true = along (λ z. is_gt (label_cmp m z) ≡ true) s e in
    let g : is_gt (label_cmp m m) ≡ false = label_self m in
    absurd (cc))

pub put_type_at : (l m : List ℕ) (j : TypeTree) (ks : FieldTypes) → type_at l (put_type m j ks) ≡ cond (bytes_eq l m) (Some j) (type_at l ks)
put_type_at l m j FieldTypes.none = refl
put_type_at l m j (FieldTypes.field n i ks) = put_type_at_by l m n j i ks (put_type_at l m j ks) (is_gt (label_cmp m n)) refl

-- the rank of a field and of a record with one more field
field_rank_by : (b : Bool) (j k : TypeTree) (ks : FieldTypes) (o : Option TypeTree) → (o ≡ Some k → rank k ≤ ranks ks) → cond b (Some j) o ≡ Some k → rank k ≤ max (rank j) (ranks ks)
field_rank_by true j k ks o h e = let s : j ≡ k = cc in along (λ z. rank z ≤ max (rank j) (ranks ks)) s (omega arith)
field_rank_by false j k ks o h e = let s = h e in omega (arith, s)

pub field_rank : (l : List ℕ) (k : TypeTree) (ks : FieldTypes) → type_at l ks ≡ Some k → rank k ≤ ranks ks
field_rank l k FieldTypes.none e = absurd (cc)
field_rank l k (FieldTypes.field m j ks) e = field_rank_by (bytes_eq l m) j k ks (type_at l ks) (λ f. field_rank l k ks f) e

put_rank_by : (m n : List ℕ) (k j : TypeTree) (ks : FieldTypes) (b : Bool) → ranks (put_type m k ks) ≤ max (rank k) (ranks ks) → ranks (cond b (FieldTypes.field n j (put_type m k ks)) (FieldTypes.field m k (FieldTypes.field n j ks))) ≤ max (rank k) (max (rank j) (ranks ks))
put_rank_by m n k j ks true h = omega (arith, h)
put_rank_by m n k j ks false h = omega arith

pub put_rank : (m : List ℕ) (k : TypeTree) (ks : FieldTypes) → ranks (put_type m k ks) ≤ max (rank k) (ranks ks)
put_rank m k FieldTypes.none = omega arith
put_rank m k (FieldTypes.field n j ks) = put_rank_by m n k j ks (is_gt (label_cmp m n)) (put_rank m k ks)

-- plain and well-formed types
pub and_split : (a b : Bool) → (a && b) ≡ true → (a ≡ true) × (b ≡ true)
and_split true b e = (refl, e)
and_split false b e = cc

pub both : (a b : Bool) → a ≡ true → b ≡ true → (a && b) ≡ true
both a b p q = rw (p, q) refl

and_swap : (a b c : Bool) → (a && (b && c)) ≡ (b && (a && c))
and_swap true b c = refl
and_swap false true c = refl
and_swap false false c = refl

put_all_by : (f : TypeTree → Bool) (fs : FieldTypes → Bool) → ((l : List ℕ) (k : TypeTree) (ks : FieldTypes) → fs (FieldTypes.field l k ks) ≡ (f k && fs ks)) → (m n : List ℕ) (k j : TypeTree) (ks : FieldTypes) (b : Bool) → fs (put_type m k ks) ≡ (f k && fs ks) → fs (cond b (FieldTypes.field n j (put_type m k ks)) (FieldTypes.field m k (FieldTypes.field n j ks))) ≡ (f k && fs (FieldTypes.field n j ks))
put_all_by f fs is m n k j ks true h = is n j (put_type m k ks) ∙ ap (λ b. f j && b) h ∙ and_swap (f j) (f k) (fs ks) ∙ ap (λ b. f k && b) (sym (is n j ks))
put_all_by f fs is m n k j ks false h = is m k (FieldTypes.field n j ks)

pub put_all : (f : TypeTree → Bool) (fs : FieldTypes → Bool) → ((l : List ℕ) (k : TypeTree) (ks : FieldTypes) → fs (FieldTypes.field l k ks) ≡ (f k && fs ks)) → (m : List ℕ) (k : TypeTree) (ks : FieldTypes) → fs (put_type m k ks) ≡ (f k && fs ks)
put_all f fs is m k FieldTypes.none = is m k FieldTypes.none
put_all f fs is m k (FieldTypes.field n j ks) = put_all_by f fs is m n k j ks (is_gt (label_cmp m n)) (put_all f fs is m k ks)

pub put_plain : (m : List ℕ) (k : TypeTree) (ks : FieldTypes) → are_plain (put_type m k ks) ≡ (is_plain k && are_plain ks)
put_plain m k ks = put_all is_plain are_plain (λ l k ks. refl) m k ks

pub put_well : (m : List ℕ) (k : TypeTree) (ks : FieldTypes) → are_well_formed (put_type m k ks) ≡ (is_well_formed k && are_well_formed ks)
put_well m k ks = put_all is_well_formed are_well_formed (λ l k ks. refl) m k ks

field_all_by : (f : TypeTree → Bool) (b : Bool) (j k : TypeTree) (o : Option TypeTree) → f j ≡ true → (o ≡ Some k → f k ≡ true) → cond b (Some j) o ≡ Some k → f k ≡ true
field_all_by f true j k o p h e = let s : j ≡ k = cc in along (λ z. f z ≡ true) s p
field_all_by f false j k o p h e = h e

pub field_plain : (l : List ℕ) (k : TypeTree) (ks : FieldTypes) → are_plain ks ≡ true → type_at l ks ≡ Some k → is_plain k ≡ true
field_plain l k FieldTypes.none p e = absurd (cc)
field_plain l k (FieldTypes.field m j ks) p e =
    let s = and_split (is_plain j) (are_plain ks) p in
    field_all_by is_plain (bytes_eq l m) j k (type_at l ks) s.0 (λ f. field_plain l k ks s.1 f) e

pub field_well : (l : List ℕ) (k : TypeTree) (ks : FieldTypes) → are_well_formed ks ≡ true → type_at l ks ≡ Some k → is_well_formed k ≡ true
field_well l k FieldTypes.none p e = absurd (cc)
field_well l k (FieldTypes.field m j ks) p e =
    let s = and_split (is_well_formed j) (are_well_formed ks) p in
    field_all_by is_well_formed (bytes_eq l m) j k (type_at l ks) s.0 (λ f. field_well l k ks s.1 f) e

mutual
  pub plain_well : (k : TypeTree) → is_plain k ≡ true → is_well_formed k ≡ true
  plain_well TypeTree.int p = refl
  plain_well TypeTree.bool p = refl
  plain_well TypeTree.text p = refl
  plain_well (TypeTree.rec ks) p = plains_well ks p
  plain_well (TypeTree.bag a) p = p
  plain_well (TypeTree.fun a b) p = cc

  plains_well : (ks : FieldTypes) → are_plain ks ≡ true → are_well_formed ks ≡ true
  plains_well FieldTypes.none p = refl
  plains_well (FieldTypes.field l k ks) p =
      let s = and_split (is_plain k) (are_plain ks) p in
      both (is_well_formed k) (are_well_formed ks) (plain_well k s.0) (plains_well ks s.1)

mutual
  pub plain_rank : (k : TypeTree) → is_plain k ≡ true → rank k ≡ 0
  plain_rank TypeTree.int p = refl
  plain_rank TypeTree.bool p = refl
  plain_rank TypeTree.text p = refl
  plain_rank (TypeTree.rec ks) p = plains_rank ks p
  plain_rank (TypeTree.bag a) p = refl
  plain_rank (TypeTree.fun a b) p = cc

  plains_rank : (ks : FieldTypes) → are_plain ks ≡ true → ranks ks ≡ 0
  plains_rank FieldTypes.none p = refl
  plains_rank (FieldTypes.field l k ks) p =
      let s = and_split (is_plain k) (are_plain ks) p in
      let a = plain_rank k s.0 in
      let b = plains_rank ks s.1 in
      omega (arith, a, b)
