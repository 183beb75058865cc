-- Laws of the typing rules: one type, well formed, whatever the order of fields.
use Rattle.std.proofs.Common.{◌≡◌, ℕ, zero, suc, ◌&&◌, Bool, true, false, cond, bytes_eq, List, [], ◌∷◌, Option, Some, slice_get, map, ◌⊎◌, inl, inr, refl, ap, sym, ◌∙◌, subst}
use Rattle.std.specs.List.{AllByRecursion as Each}
use Rattle.std.specs.Ordering.{is_gt}
use Rattle.nq_model.specs.Orders.{label_cmp, put_by, by_label}
use Rattle.nq_model.specs.Types.{TypeTree, FieldTypes, field_types_of, is_plain, are_plain, is_well_formed, are_well_formed}
use Rattle.nq_model.specs.Terms.{TermTree, TermFields, Aggregate, Emptiness, Count, Sum}
use Rattle.nq_model.specs.Tables.{Columns, base_type}
use Rattle.nq_model.specs.Typing.{HasType, HaveTypes, type_at, put_type, aggregate_type}
use Rattle.nq_model.proofs.Types.{and_split, both, plain_well_formed}
use Rattle.nq_model.proofs.TypeOf.{has_type}
use Rattle.nq_model.specs.declared.table.ColumnType.{ColumnType}
use Rattle.nq_model.specs.declared.table.ColumnType.TheVariants as column
use Rattle.nq_model.specs.declared.table.Schema.{Schema}

-- what is asked of a bag is of a base type
pub aggregate_base : (g : Aggregate) (a k : TypeTree) → aggregate_type g a ≡ Some k → (c : ColumnType) × (k ≡ base_type c)
aggregate_base Emptiness a k e = (column.Bool, cc)
aggregate_base Count a k e = (column.Int, cc)
aggregate_base Sum TypeTree.int k e = (column.Int, cc)
aggregate_base Sum _ k e = absurd (cc)

-- a term has at most one type
pub one_type : (schema : Schema) (cx : List TypeTree) (t : TermTree) (a b : TypeTree) → HasType schema cx t a → HasType schema cx t b → a ≡ b
one_type schema cx t a b h k = let e = sym (has_type schema cx t a h) ∙ has_type schema cx t b k in cc

pub each_get : {A : Type 0} (P : A → Type 0) (xs : List A) (n : ℕ) (x : A) → Each P xs → slice_get xs n ≡ Some x → P x
each_get P [] n x all e = cc
each_get P (y ∷ ys) zero x all e = let h : y ≡ x = cc in subst P h all.0
each_get P (y ∷ ys) (suc n) x all e = each_get P ys n x all.1 e

base_plain : (c : ColumnType) → is_plain (base_type c) ≡ true
base_plain column.Int = refl
base_plain column.Bool = refl
base_plain column.Text = refl

base_well_formed : (c : ColumnType) → is_well_formed (base_type c) ≡ true
base_well_formed column.Int = refl
base_well_formed column.Bool = refl
base_well_formed column.Text = refl

pub cond_both : (P : FieldTypes → Type 0) (b : Bool) (x y : FieldTypes) → P x → P y → P (cond b x y)
cond_both P true x y p q = p
cond_both P false x y p q = q

-- one more field, put where it belongs
pub put_type_list : (l : List ℕ) (k : TypeTree) (fs : List (List ℕ × TypeTree)) →
    field_types_of (put_by (λ f g. label_cmp f.0 g.0) (l, k) fs) ≡ put_type l k (field_types_of fs)
put_type_list l k [] = refl
put_type_list l k (f ∷ fs) =
    either (is_gt (label_cmp l f.0)) (f ∷ put_by (λ f g. label_cmp f.0 g.0) (l, k) fs) ((l, k) ∷ f ∷ fs)
    ∙ ap (λ x. cond (is_gt (label_cmp l f.0)) (FieldTypes.field f.0 f.1 x) (FieldTypes.field l k (FieldTypes.field f.0 f.1 (field_types_of fs)))) (put_type_list l k fs)
  where
    either : (b : Bool) (us vs : List (List ℕ × TypeTree)) → field_types_of (cond b us vs) ≡ cond b (field_types_of us) (field_types_of vs)
    either true us vs = refl
    either false us vs = refl

put_plain : (l : List ℕ) (k : TypeTree) (fs : FieldTypes) → is_plain k ≡ true → are_plain fs ≡ true → are_plain (put_type l k fs) ≡ true
put_plain l k FieldTypes.none h all = both (is_plain k) true h refl
put_plain l k (FieldTypes.field m j fs) h all =
    let s = and_split (is_plain j) (are_plain fs) all in
    cond_both (λ x. are_plain x ≡ true) (is_gt (label_cmp l m)) _ _
    (both (is_plain j) (are_plain (put_type l k fs)) s.0 (put_plain l k fs h s.1))
    (both (is_plain k) (is_plain j && are_plain fs) h all)

put_well_formed : (l : List ℕ) (k : TypeTree) (fs : FieldTypes) → is_well_formed k ≡ true → are_well_formed fs ≡ true → are_well_formed (put_type l k fs) ≡ true
put_well_formed l k FieldTypes.none h all = both (is_well_formed k) true h refl
put_well_formed l k (FieldTypes.field m j fs) h all =
    let s = and_split (is_well_formed j) (are_well_formed fs) all in
    cond_both (λ x. are_well_formed x ≡ true) (is_gt (label_cmp l m)) _ _
    (both (is_well_formed j) (are_well_formed (put_type l k fs)) s.0 (put_well_formed l k fs h s.1))
    (both (is_well_formed k) (is_well_formed j && are_well_formed fs) h all)

columns_plain : (columns : Columns) → are_plain (field_types_of (by_label (map (λ column. (column.0, base_type column.1)) columns))) ≡ true
columns_plain [] = refl
columns_plain (c ∷ cs) =
    ap are_plain (put_type_list c.0 (base_type c.1) (by_label (map (λ column. (column.0, base_type column.1)) cs)))
    ∙ put_plain c.0 (base_type c.1) _ (base_plain c.1) (columns_plain cs)

pub either_some : {A : Type 0} (b : Bool) (x k : A) (o : Option A) → cond b (Some x) o ≡ Some k → (x ≡ k) ⊎ (o ≡ Some k)
either_some true x k o e = inl (cc)
either_some false x k o e = inr e

field_well_formed : (l : List ℕ) (fs : FieldTypes) (k : TypeTree) → are_well_formed fs ≡ true → type_at l fs ≡ Some k → is_well_formed k ≡ true
field_well_formed l FieldTypes.none k all e = cc
field_well_formed l (FieldTypes.field m j fs) k all e =
    let s = and_split (is_well_formed j) (are_well_formed fs) all in
    elim (either_some (bytes_eq l m) j k (type_at l fs) e) [ inl h ↦ ap is_well_formed (sym h) ∙ s.0 | inr h ↦ field_well_formed l fs k s.1 h ]

-- the type of a term is well formed, where the types of the variables are
module _ (schema : Schema) where
  mutual
    pub well_formed_type : (cx : List TypeTree) (t : TermTree) (k : TypeTree) → Each (λ a. is_well_formed a ≡ true) cx → HasType schema cx t k → is_well_formed k ≡ true
    well_formed_type cx (TermTree.var n) k all h = each_get (λ a. is_well_formed a ≡ true) cx n k all h
    well_formed_type cx (TermTree.int n) k all h = ap is_well_formed h
    well_formed_type cx (TermTree.bool b) k all h = ap is_well_formed h
    well_formed_type cx (TermTree.text t) k all h = ap is_well_formed h
    well_formed_type cx (TermTree.table l) k all h = ap is_well_formed h.2 ∙ columns_plain h.0.columns
    well_formed_type cx (TermTree.unary op t) k all h = ap is_well_formed h.4 ∙ base_well_formed h.1
    well_formed_type cx (TermTree.binary op t u) k all h = ap is_well_formed h.6 ∙ base_well_formed h.2
    well_formed_type cx (TermTree.choose x t u) k all h = well_formed_type cx t k all h.1
    well_formed_type cx (TermTree.fun a t) k all h =
        ap is_well_formed h.3 ∙ both (is_well_formed a) (is_well_formed h.0) h.1 (well_formed_type (a ∷ cx) t h.0 (h.1, all) h.2)
    well_formed_type cx (TermTree.apply t u) k all h =
        (and_split (is_well_formed h.0) (is_well_formed k) (well_formed_type cx t (TypeTree.fun h.0 k) all h.1)).1
    well_formed_type cx (TermTree.rec fs) k all h = ap is_well_formed h.2 ∙ well_formed_types cx fs h.0 all h.1
    well_formed_type cx (TermTree.field t l) k all h = field_well_formed l h.0 k (well_formed_type cx t (TypeTree.rec h.0) all h.1) h.2
    well_formed_type cx (TermTree.aggregate g t) k all h =
        let b = aggregate_base g h.0 k h.2 in ap is_well_formed b.1 ∙ base_well_formed b.0
    well_formed_type cx (TermTree.single t) k all h = ap is_well_formed h.3 ∙ h.2
    well_formed_type cx (TermTree.nil a) k all h = ap is_well_formed h.1 ∙ h.0
    well_formed_type cx (TermTree.union t u) k all h = well_formed_type cx t k all h.2
    well_formed_type cx (TermTree.for t u) k all h =
        well_formed_type (h.0 ∷ cx) u k (plain_well_formed h.0 (well_formed_type cx t (TypeTree.bag h.0) all h.2), all) h.3
    well_formed_type cx (TermTree.guard x u) k all h = well_formed_type cx u k all h.2
    well_formed_type cx (TermTree.bind t u) k all h = well_formed_type (h.0 ∷ cx) u k (well_formed_type cx t h.0 all h.1, all) h.2

    well_formed_types : (cx : List TypeTree) (fs : TermFields) (fields : FieldTypes) → Each (λ a. is_well_formed a ≡ true) cx → HaveTypes schema cx fs fields → are_well_formed fields ≡ true
    well_formed_types cx TermFields.none fields all h = ap are_well_formed h
    well_formed_types cx (TermFields.with_field l t fs) fields all h =
        ap are_well_formed h.4 ∙ put_well_formed l h.0 h.1 (well_formed_type cx t h.0 all h.2) (well_formed_types cx fs h.1 all h.3)
