-- The types of bodies where a column counts how many generators stand between, and that the body of a term has its type.
use Rattle.nq_model.specs.declared.term.Binary.TheVariants.{Add}
use Rattle.std.proofs.Common.{◌≡◌, ℕ, zero, suc, ◌+◌, List, [], ◌∷◌, ◌++◌, map, refl, sym, ap, ◌∙◌, subst, subst₂, Bool, true, false, cond, length, get_or, arith, Option, Some, None, slice_get, IsSome, bytes_eq, ⊎_elim}
use Rattle.std.specs.List.{AllByRecursion as Each}
use Rattle.std.specs.Ordering.{is_gt}
use Rattle.nq_model.specs.Cells.{column_type_of}
use Rattle.nq_model.specs.Operators.{unary_type, binary_type}
use Rattle.nq_model.specs.Orders.{label_cmp, by_label, AreDistinct}
use Rattle.nq_model.specs.Proper.{IsProperTerm, AreProperTerms, IsPlainTerm, ArePlainTerms}
use Rattle.nq_model.specs.Tables.{Columns, names_of, base_type, IsProperShape}
use Rattle.nq_model.specs.Terms.{TermTree, TermFields, Aggregate, Emptiness, Count, Sum}
use Rattle.nq_model.specs.Types.{TypeTree, FieldTypes, field_types_of}
use Rattle.nq_model.specs.Typing.{HasType, HaveTypes, shape_named, type_at, put_type, aggregate_type}
use Rattle.nq_model.specs.declared.table.ColumnType.{ColumnType}
use Rattle.nq_model.specs.declared.table.ColumnType.TheVariants as column_type
use Rattle.nq_model.specs.declared.table.Schema.{Schema}
use Rattle.nq_model.specs.declared.table.TableShape.{TableShape}
use Rattle.nq_model.specs.declared.term.Unary.TheVariants.{Not}
use Rattle.nq_model.proofs.Typing.{put_type_list, either_some}
use Rattle.nq_model.specs.NamedRows.{Label}
use Rattle.nq_ir.specs.WellFormed.{columns_or_none, table_columns, IsLiteral, column_type_in}
use Rattle.nq_ir.specs.RawForms.{RawBase, raw_literal, raw_column, raw_unary, raw_binary, raw_choose, raw_empty, RawConds, no_raw, and_raw, RawTests, no_raw_test, raw_test, RawBody, raw_plain, raw_rec, raw_bag, RawFields, no_raw_field, raw_field, RawComps, no_raw_comp, raw_comp, up_index, up_base, up_bases, up_tests, up_body, up_fields, up_comps, raw_base_in, raw_comps_in, raw_field_among, raw_field_in, put_raw, both_raw, append_raw, inside, where_raw, choice, choice_of_fields, raw_tests_of, columns_body, each_comp, no_raw_body, raw_form, raw_fields, raw_total, of_each, raw_count, raw_sum, plus_each, plus_all, raw_aggregate}
use Rattle.nq_ir.proofs.Distinct.{each_join}
use Rattle.nq_ir.proofs.Equal.{bytes_same, bytes_differ}

-- the tables of the generators in scope, the innermost first, after these generators
abbrev pub under : List Label → List Label → List Label
under [] sc = sc
under (t ∷ gs) sc = under gs (t ∷ sc)

abbrev pub Known : List TableShape → Label → Type 0
Known S t = IsSome (shape_named t S)

abbrev pub RawColumnHas : List TableShape → List Label → ℕ → Label → ColumnType → Type 0
RawColumnHas S [] i l T = ⊥
RawColumnHas S (t ∷ sc) zero l T = column_type_in l (table_columns S t) ≡ Some T
RawColumnHas S (t ∷ sc) (suc i) l T = RawColumnHas S sc i l T

abbrev mutual
  pub RawBaseHas : List TableShape → List Label → RawBase → ColumnType → Type 0
  RawBaseHas S sc (raw_literal c) T = (column_type_of c ≡ T) × IsLiteral c
  RawBaseHas S sc (raw_column i l) T = RawColumnHas S sc i l T
  RawBaseHas S sc (raw_unary op b) T = (U : ColumnType) × RawBaseHas S sc b U × (unary_type op U ≡ Some T)
  RawBaseHas S sc (raw_binary op a b) T =
      (U : ColumnType) × (V : ColumnType) × RawBaseHas S sc a U × RawBaseHas S sc b V × (binary_type op U V ≡ Some T)
  RawBaseHas S sc (raw_choose x a b) T = RawBaseHas S sc x column_type.Bool × RawBaseHas S sc a T × RawBaseHas S sc b T
  RawBaseHas S sc (raw_empty xs) T = (T ≡ column_type.Bool) × RawTestsHave S sc xs
  RawBaseHas S sc (raw_total g gs bs b) T =
      (T ≡ column_type.Int) × Each (Known S) gs × RawCondsHave S (under gs sc) bs × RawBaseHas S (under gs sc) b column_type.Int

  pub RawCondsHave : List TableShape → List Label → RawConds → Type 0
  RawCondsHave S sc no_raw = Unit {0}
  RawCondsHave S sc (and_raw b bs) = RawBaseHas S sc b column_type.Bool × RawCondsHave S sc bs

  pub RawTestsHave : List TableShape → List Label → RawTests → Type 0
  RawTestsHave S sc no_raw_test = Unit {0}
  RawTestsHave S sc (raw_test gs bs xs) = Each (Known S) gs × RawCondsHave S (under gs sc) bs × RawTestsHave S sc xs

abbrev mutual
  pub RawBodyHas : List TableShape → List Label → RawBody → TypeTree → Type 0
  RawBodyHas S sc (raw_plain b) A = (T : ColumnType) × RawBaseHas S sc b T × (A ≡ base_type T)
  RawBodyHas S sc (raw_rec fs) A = (gs : FieldTypes) × RawFieldsHave S sc fs gs × (A ≡ TypeTree.rec gs)
  RawBodyHas S sc (raw_bag cs) A = (B : TypeTree) × RawCompsHave S sc cs B × (A ≡ TypeTree.bag B)

  pub RawFieldsHave : List TableShape → List Label → RawFields → FieldTypes → Type 0
  RawFieldsHave S sc no_raw_field gs = gs ≡ FieldTypes.none
  RawFieldsHave S sc (raw_field l b fs) gs =
      (A : TypeTree) × (rest : FieldTypes) × RawBodyHas S sc b A × RawFieldsHave S sc fs rest × (gs ≡ FieldTypes.field l A rest)

  pub RawCompsHave : List TableShape → List Label → RawComps → TypeTree → Type 0
  RawCompsHave S sc no_raw_comp B = Unit {0}
  RawCompsHave S sc (raw_comp gs bs b cs) B =
      Each (Known S) gs × RawCondsHave S (under gs sc) bs × RawBodyHas S (under gs sc) b B × RawCompsHave S sc cs B

-- each variable's body has its type
abbrev pub EachHas : List TableShape → List Label → List RawBody → List TypeTree → Type 0
EachHas S sc es [] = Unit {0}
EachHas S sc [] (A ∷ g) = ⊥
EachHas S sc (b ∷ es) (A ∷ g) = RawBodyHas S sc b A × EachHas S sc es g

under_append : (gs front sc : List Label) → under gs (front ++ sc) ≡ under gs front ++ sc
under_append [] front sc = refl
under_append (t ∷ gs) front sc = under_append gs (t ∷ front) sc

under_length : (gs sc : List Label) → length (under gs sc) ≡ length gs + length sc
under_length [] sc = omega arith
under_length (t ∷ gs) sc = let h = under_length gs (t ∷ sc) in omega arith

under_both : (gs hs sc : List Label) → under (gs ++ hs) sc ≡ under hs (under gs sc)
under_both [] hs sc = refl
under_both (t ∷ gs) hs sc = under_both gs hs (t ∷ sc)

module _ (S : List TableShape) (mid sc : List Label) where
  column_up : (front : List Label) (i : ℕ) (l : Label) (T : ColumnType) → RawColumnHas S (front ++ sc) i l T → RawColumnHas S (front ++ (mid ++ sc)) (up_index (length mid) (length front) i) l T
  column_up [] i l T h = over mid
    where
      over : (m : List Label) → RawColumnHas S (m ++ sc) (length m + i) l T
      over [] = let e : i ≡ 0 + i = omega arith in subst (λ k. RawColumnHas S sc k l T) e h
      over (t ∷ m) = let e : suc (length m + i) ≡ suc (length m) + i = omega arith in subst (λ k. RawColumnHas S (t ∷ (m ++ sc)) k l T) e (over m)
  column_up (t ∷ front) zero l T h = h
  column_up (t ∷ front) (suc i) l T h = column_up front i l T h

  mutual
    base_up : (b : RawBase) (front : List Label) (T : ColumnType) → RawBaseHas S (front ++ sc) b T → RawBaseHas S (front ++ (mid ++ sc)) (up_base (length mid) (length front) b) T
    base_up (raw_literal x) front T h = h
    base_up (raw_column i l) front T h = column_up front i l T h
    base_up (raw_unary o b) front T h = (h.0, base_up b front h.0 h.1, h.2)
    base_up (raw_binary o a b) front T h = (h.0, h.1, base_up a front h.0 h.2, base_up b front h.1 h.3, h.4)
    base_up (raw_choose x a b) front T h = (base_up x front column_type.Bool h.0, base_up a front T h.1, base_up b front T h.2)
    base_up (raw_empty xs) front T h = (h.0, tests_up xs front h.1)
    base_up (raw_total g gs bs b) front T h =
        (h.0, h.1, subst₂ (λ (z : List Label) n. RawCondsHave S z (up_bases (length mid) n bs)) (sym (under_append gs front (mid ++ sc))) (under_length gs front) (bases_up bs (under gs front) (subst (λ (z : List Label). RawCondsHave S z bs) (under_append gs front sc) h.2)), subst₂ (λ (z : List Label) n. RawBaseHas S z (up_base (length mid) n b) column_type.Int) (sym (under_append gs front (mid ++ sc))) (under_length gs front) (base_up b (under gs front) column_type.Int (subst (λ (z : List Label). RawBaseHas S z b column_type.Int) (under_append gs front sc) h.3)))

    bases_up : (bs : RawConds) (front : List Label) → RawCondsHave S (front ++ sc) bs → RawCondsHave S (front ++ (mid ++ sc)) (up_bases (length mid) (length front) bs)
    bases_up no_raw front h = tt
    bases_up (and_raw b bs) front h = (base_up b front column_type.Bool h.0, bases_up bs front h.1)

    tests_up : (xs : RawTests) (front : List Label) → RawTestsHave S (front ++ sc) xs → RawTestsHave S (front ++ (mid ++ sc)) (up_tests (length mid) (length front) xs)
    tests_up no_raw_test front h = tt
    tests_up (raw_test gs bs xs) front h =
        (h.0, subst₂ (λ (z : List Label) n. RawCondsHave S z (up_bases (length mid) n bs)) (sym (under_append gs front (mid ++ sc))) (under_length gs front) (bases_up bs (under gs front) (subst (λ (z : List Label). RawCondsHave S z bs) (under_append gs front sc) h.1)), tests_up xs front h.2)

  mutual
    body_up : (b : RawBody) (front : List Label) (A : TypeTree) → RawBodyHas S (front ++ sc) b A → RawBodyHas S (front ++ (mid ++ sc)) (up_body (length mid) (length front) b) A
    body_up (raw_plain b) front A h = (h.0, base_up b front h.0 h.1, h.2)
    body_up (raw_rec fs) front A h = (h.0, fields_up fs front h.0 h.1, h.2)
    body_up (raw_bag cs) front A h = (h.0, comps_up cs front h.0 h.1, h.2)

    fields_up : (fs : RawFields) (front : List Label) (gs : FieldTypes) → RawFieldsHave S (front ++ sc) fs gs → RawFieldsHave S (front ++ (mid ++ sc)) (up_fields (length mid) (length front) fs) gs
    fields_up no_raw_field front gs h = h
    fields_up (raw_field l b fs) front gs h = (h.0, h.1, body_up b front h.0 h.2, fields_up fs front h.1 h.3, h.4)

    comps_up : (cs : RawComps) (front : List Label) (B : TypeTree) → RawCompsHave S (front ++ sc) cs B → RawCompsHave S (front ++ (mid ++ sc)) (up_comps (length mid) (length front) cs) B
    comps_up no_raw_comp front B h = tt
    comps_up (raw_comp gs bs b cs) front B h = (
      h.0,
      subst₂ (λ (z : List Label) n. RawCondsHave S z (up_bases (length mid) n bs)) (sym (under_append gs front (mid ++ sc))) (under_length gs front) (bases_up bs (under gs front) (subst (λ (z : List Label). RawCondsHave S z bs) (under_append gs front sc) h.1)),
      subst₂ (λ (z : List Label) n. RawBodyHas S z (up_body (length mid) n b) B) (sym (under_append gs front (mid ++ sc))) (under_length gs front) (body_up b (under gs front) B (subst (λ (z : List Label). RawBodyHas S z b B) (under_append gs front sc) h.2)),
      comps_up cs front B h.3,
    )

module _ (S : List TableShape) where
  no_front : (hs : List Label) → length (under hs []) ≡ length hs
  no_front hs = under_length hs [] ∙ (let k : length hs + 0 ≡ length hs = omega arith in k)

  -- under the generators hs the conditions of a scope stand one scope deeper
  bases_under : (hs sc : List Label) (bs : RawConds) → RawCondsHave S sc bs → RawCondsHave S (under hs sc) (up_bases (length hs) 0 bs)
  bases_under hs sc bs h =
      subst₂ (λ (z : List Label) n. RawCondsHave S z (up_bases n 0 bs)) (sym (under_append hs [] sc)) (no_front hs) (bases_up S (under hs []) sc bs [] h)

  body_under : (hs sc : List Label) (b : RawBody) (A : TypeTree) → RawBodyHas S sc b A → RawBodyHas S (under hs sc) (up_body (length hs) 0 b) A
  body_under hs sc b A h =
      subst₂ (λ (z : List Label) n. RawBodyHas S z (up_body n 0 b) A) (sym (under_append hs [] sc)) (no_front hs) (body_up S (under hs []) sc b [] A h)

  pub bodies_under : (hs sc : List Label) (es : List RawBody) (g : List TypeTree) → EachHas S sc es g → EachHas S (under hs sc) (map (up_body (length hs) 0) es) g
  bodies_under hs sc es [] h = tt
  bodies_under hs sc [] (A ∷ g) h = absurd h
  bodies_under hs sc (b ∷ es) (A ∷ g) h = (body_under hs sc b A h.0, bodies_under hs sc es g h.1)

  both_have : (sc : List Label) (xs ys : RawConds) → RawCondsHave S sc xs → RawCondsHave S sc ys → RawCondsHave S sc (both_raw xs ys)
  both_have sc no_raw ys g h = h
  both_have sc (and_raw x xs) ys g h = (g.0, both_have sc xs ys g.1 h)

  append_has : (sc : List Label) (cs ds : RawComps) (B : TypeTree) → RawCompsHave S sc cs B → RawCompsHave S sc ds B → RawCompsHave S sc (append_raw cs ds) B
  append_has sc no_raw_comp ds B g h = h
  append_has sc (raw_comp gs bs b cs) ds B g h = (g.0, g.1, g.2, append_has sc cs ds B g.3 h)

  inside_has : (sc gs : List Label) (bs : RawConds) (ds : RawComps) (B : TypeTree) → Each (Known S) gs → RawCondsHave S (under gs sc) bs → RawCompsHave S (under gs sc) ds B → RawCompsHave S sc (inside gs bs ds) B
  inside_has sc gs bs no_raw_comp B k g h = tt
  inside_has sc gs bs (raw_comp hs cs b ds) B k g h =
      let e = sym (under_both gs hs sc) in (
        each_join (Known S) gs hs k h.0,
        subst (λ (z : List Label). RawCondsHave S z (both_raw (up_bases (length hs) 0 bs) cs)) e (both_have (under hs (under gs sc)) (up_bases (length hs) 0 bs) cs (bases_under hs (under gs sc) bs g) h.1),
        subst (λ (z : List Label). RawBodyHas S z b B) e h.2,
        inside_has sc gs bs ds B k g h.3,
      )

  where_has : (sc : List Label) (x : RawBase) (cs : RawComps) (B : TypeTree) → RawBaseHas S sc x column_type.Bool → RawCompsHave S sc cs B → RawCompsHave S sc (where_raw x cs) B
  where_has sc x cs B g h = inside_has sc [] (and_raw x no_raw) cs B tt (g, tt) h

  each_comp_has : (sc : List Label) (cs : RawComps) (rest : List Label → RawBody → RawComps) (A B : TypeTree) → RawCompsHave S sc cs A → ((gs : List Label) (b : RawBody) → RawBodyHas S (under gs sc) b A → RawCompsHave S (under gs sc) (rest gs b) B) → RawCompsHave S sc (each_comp cs rest) B
  each_comp_has sc no_raw_comp rest A B h t = tt
  each_comp_has sc (raw_comp gs bs b cs) rest A B h t =
      append_has sc (inside gs bs (rest gs b)) (each_comp cs rest) B (inside_has sc gs bs (rest gs b) B h.0 h.1 (t gs b h.2)) (each_comp_has sc cs rest A B h.3 t)

  tests_have : (sc : List Label) (cs : RawComps) (B : TypeTree) → RawCompsHave S sc cs B → RawTestsHave S sc (raw_tests_of cs)
  tests_have sc no_raw_comp B h = tt
  tests_have sc (raw_comp gs bs b cs) B h = (h.0, h.1, tests_have sc cs B h.3)

  plus_each_has : (sc : List Label) (a : RawBase) (bs : List RawBase) → RawBaseHas S sc a column_type.Int → Each (λ b. RawBaseHas S sc b column_type.Int) bs → RawBaseHas S sc (plus_each a bs) column_type.Int
  plus_each_has sc a [] h e = h
  plus_each_has sc a (b ∷ bs) h e = plus_each_has sc (raw_binary Add a b) bs (column_type.Int, column_type.Int, h, e.0, refl) e.1

  plus_all_has : (sc : List Label) (bs : List RawBase) → Each (λ b. RawBaseHas S sc b column_type.Int) bs → RawBaseHas S sc (plus_all bs) column_type.Int
  plus_all_has sc [] e = (refl, record { digits = 0; value = refl; small = omega arith })
  plus_all_has sc (b ∷ bs) e = plus_each_has sc b bs e.0 e.1

  counts_have : (sc : List Label) (cs : RawComps) (B : TypeTree) → RawCompsHave S sc cs B → Each (λ b. RawBaseHas S sc b column_type.Int) (of_each raw_count cs)
  counts_have sc no_raw_comp B h = tt
  counts_have sc (raw_comp gs bs b cs) B h = ((refl, h.0, h.1, (refl, record { digits = 1; value = refl; small = omega arith })), counts_have sc cs B h.3)

pub not_record : (A : TypeTree) (T : ColumnType) (gs : FieldTypes) → A ≡ base_type T → A ≡ TypeTree.rec gs → ⊥
not_record A column_type.Int gs e f = let u : TypeTree.int ≡ TypeTree.rec gs = sym e ∙ f in cc
not_record A column_type.Bool gs e f = let u : TypeTree.bool ≡ TypeTree.rec gs = sym e ∙ f in cc
not_record A column_type.Text gs e f = let u : TypeTree.text ≡ TypeTree.rec gs = sym e ∙ f in cc

pub not_bag : (A : TypeTree) (T : ColumnType) (B : TypeTree) → A ≡ base_type T → A ≡ TypeTree.bag B → ⊥
not_bag A column_type.Int B e f = let u : TypeTree.int ≡ TypeTree.bag B = sym e ∙ f in cc
not_bag A column_type.Bool B e f = let u : TypeTree.bool ≡ TypeTree.bag B = sym e ∙ f in cc
not_bag A column_type.Text B e f = let u : TypeTree.text ≡ TypeTree.bag B = sym e ∙ f in cc

pub mixed : (gs : FieldTypes) (A B : TypeTree) → A ≡ TypeTree.rec gs → A ≡ TypeTree.bag B → ⊥
mixed gs A B e f = let u : TypeTree.rec gs ≡ TypeTree.bag B = sym e ∙ f in cc

-- a base type as a type says which
pub one_base : (T U : ColumnType) → base_type T ≡ base_type U → T ≡ U
one_base column_type.Int column_type.Int e = refl
one_base column_type.Int column_type.Bool e = cc
one_base column_type.Int column_type.Text e = cc
one_base column_type.Bool column_type.Int e = cc
one_base column_type.Bool column_type.Bool e = refl
one_base column_type.Bool column_type.Text e = cc
one_base column_type.Text column_type.Int e = cc
one_base column_type.Text column_type.Bool e = cc
one_base column_type.Text column_type.Text e = refl

module _ (S : List TableShape) (sc : List Label) where
  base_has : (b : RawBody) (A : TypeTree) (T : ColumnType) → A ≡ base_type T → RawBodyHas S sc b A → RawBaseHas S sc (raw_base_in b) T
  base_has (raw_plain b) A T e h =
      let t = one_base h.0 T (sym h.2 ∙ e) in
      subst (λ (z : ColumnType). RawBaseHas S sc b z) t h.1
  base_has (raw_rec fs) A T e h = absurd (not_record A T h.0 e h.2)
  base_has (raw_bag cs) A T e h = absurd (not_bag A T h.0 e h.2)

  pub comps_have : (b : RawBody) (A B : TypeTree) → A ≡ TypeTree.bag B → RawBodyHas S sc b A → RawCompsHave S sc (raw_comps_in b) B
  comps_have (raw_plain b) A B e h = absurd (not_bag A h.0 B h.2 e)
  comps_have (raw_rec fs) A B e h = absurd (mixed h.0 A B h.2 e)
  comps_have (raw_bag cs) A B e h =
      let u : TypeTree.bag h.0 ≡ TypeTree.bag B = sym h.2 ∙ e in
      let v : h.0 ≡ B = cc in
      subst (λ (z : TypeTree). RawCompsHave S sc cs z) v h.1

  put_has : (l : Label) (b : RawBody) (B : TypeTree) (fs : RawFields) (gs : FieldTypes) → RawBodyHas S sc b B → RawFieldsHave S sc fs gs → RawFieldsHave S sc (put_raw l b fs) (put_type l B gs)
  put_has l b B no_raw_field gs h k = subst (λ (z : FieldTypes). RawFieldsHave S sc (raw_field l b no_raw_field) (put_type l B z)) (sym k) (B, FieldTypes.none, h, refl, refl)
  put_has l b B (raw_field j d fs) gs h k =
      subst (λ (z : FieldTypes). RawFieldsHave S sc (put_raw l b (raw_field j d fs)) (put_type l B z)) (sym k.4) (go (is_gt (label_cmp l j)) (put_has l b B fs k.1 h k.3))
    where
      go : (t : Bool) → RawFieldsHave S sc (put_raw l b fs) (put_type l B k.1) → RawFieldsHave S sc (cond t (raw_field j d (put_raw l b fs)) (raw_field l b (raw_field j d fs))) (cond t (FieldTypes.field j k.0 (put_type l B k.1)) (FieldTypes.field l B (FieldTypes.field j k.0 k.1)))
      go true i = (k.0, put_type l B k.1, k.2, i, refl)
      go false i = (B, FieldTypes.field j k.0 k.1, h, (k.0, k.1, k.2, k.3, refl), refl)

  field_found_has : (l : Label) (fs : RawFields) (gs : FieldTypes) (A : TypeTree) → RawFieldsHave S sc fs gs → type_at l gs ≡ Some A → RawBodyHas S sc (raw_field_among l fs) A
  field_found_has l no_raw_field gs A h e =
      let u : type_at l gs ≡ None = ap (type_at l) h in
      let v : None ≡ Some A = sym u ∙ e in
      absurd (cc)
  field_found_has l (raw_field k b fs) gs A h e = go (bytes_eq l k) (sym (ap (type_at l) h.4) ∙ e) (λ i. field_found_has l fs h.1 A h.3 i)
    where
      go : (t : Bool) → cond t (Some h.0) (type_at l h.1) ≡ Some A → (type_at l h.1 ≡ Some A → RawBodyHas S sc (raw_field_among l fs) A) → RawBodyHas S sc (cond t b (raw_field_among l fs)) A
      go true i r = let v : h.0 ≡ A = cc in subst (λ (z : TypeTree). RawBodyHas S sc b z) v h.2
      go false i r = r i

  field_has : (l : Label) (b : RawBody) (gs : FieldTypes) (A T : TypeTree) → T ≡ TypeTree.rec gs → RawBodyHas S sc b T → type_at l gs ≡ Some A → RawBodyHas S sc (raw_field_in l b) A
  field_has l (raw_plain b) gs A T w h e = absurd (not_record T h.0 gs h.2 w)
  field_has l (raw_rec fs) gs A T w h e =
      let u : TypeTree.rec h.0 ≡ TypeTree.rec gs = sym h.2 ∙ w in
      let v : h.0 ≡ gs = cc in
      field_found_has l fs gs A (subst (λ (z : FieldTypes). RawFieldsHave S sc fs z) v h.1) e
  field_has l (raw_bag cs) gs A T w h e = absurd (mixed gs T h.0 w h.2)

  mutual
    choose_has : (x : RawBase) (a b : RawBody) (A : TypeTree) → RawBaseHas S sc x column_type.Bool → RawBodyHas S sc a A → RawBodyHas S sc b A → RawBodyHas S sc (choice x a b) A
    choose_has x (raw_plain a) (raw_plain b) A t g h =
        let e = one_base h.0 g.0 (sym h.2 ∙ g.2) in
        (g.0, (t, g.1, subst (λ (z : ColumnType). RawBaseHas S sc b z) e h.1), g.2)
    choose_has x (raw_plain a) (raw_rec gs) A t g h = g
    choose_has x (raw_plain a) (raw_bag ds) A t g h = g
    choose_has x (raw_rec fs) (raw_plain b) A t g h = g
    choose_has x (raw_rec fs) (raw_rec gs) A t g h =
        let u : TypeTree.rec h.0 ≡ TypeTree.rec g.0 = sym h.2 ∙ g.2 in
        let v : h.0 ≡ g.0 = cc in
        (g.0, choose_fields_have x fs gs g.0 t g.1 (subst (λ (z : FieldTypes). RawFieldsHave S sc gs z) v h.1), g.2)
    choose_has x (raw_rec fs) (raw_bag ds) A t g h = g
    choose_has x (raw_bag cs) (raw_plain b) A t g h = g
    choose_has x (raw_bag cs) (raw_rec gs) A t g h = g
    choose_has x (raw_bag cs) (raw_bag ds) A t g h =
        let u : TypeTree.bag h.0 ≡ TypeTree.bag g.0 = sym h.2 ∙ g.2 in
        let v : h.0 ≡ g.0 = cc in
        (g.0, append_has S sc (where_raw x cs) (where_raw (raw_unary Not x) ds) g.0 (where_has S sc x cs g.0 t g.1) (where_has S sc (raw_unary Not x) ds g.0 (column_type.Bool, t, refl) (subst (λ (z : TypeTree). RawCompsHave S sc ds z) v h.1)), g.2)

    choose_fields_have : (x : RawBase) (fs gs : RawFields) (us : FieldTypes) → RawBaseHas S sc x column_type.Bool → RawFieldsHave S sc fs us → RawFieldsHave S sc gs us → RawFieldsHave S sc (choice_of_fields x fs gs) us
    choose_fields_have x no_raw_field gs us t g h = g
    choose_fields_have x (raw_field l a fs) no_raw_field us t g h = g
    choose_fields_have x (raw_field l a fs) (raw_field k b gs) us t g h =
        let u : FieldTypes.field k h.0 h.1 ≡ FieldTypes.field l g.0 g.1 = sym h.4 ∙ g.4 in
        let v : h.0 ≡ g.0 = cc in
        let w : h.1 ≡ g.1 = cc in
        (g.0, g.1, choose_has x a b g.0 t g.2 (subst (λ (z : TypeTree). RawBodyHas S sc b z) v h.2), choose_fields_have x fs gs g.1 t g.3 (subst (λ (z : FieldTypes). RawFieldsHave S sc gs z) w h.3), g.4)

-- the columns of a table, each found under its name
columns_found : (whole : Columns) → AreDistinct (names_of whole) → Each (λ d. column_type_in d.0 whole ≡ Some d.1) whole
columns_found [] h = tt
columns_found (d ∷ ds) h = (here_found, over ds h.0 (columns_found ds h.1))
  where
    here_found : cond (bytes_eq d.0 d.0) (Some d.1) (column_type_in d.0 ds) ≡ Some d.1
    here_found = ap (λ b. cond b (Some d.1) (column_type_in d.0 ds)) (bytes_same d.0 d.0 refl)

    over : (xs : Columns) → Each (λ y. d.0 ≡ y → ⊥) (names_of xs) → Each (λ y. column_type_in y.0 ds ≡ Some y.1) xs → Each (λ y. cond (bytes_eq y.0 d.0) (Some d.1) (column_type_in y.0 ds) ≡ Some y.1) xs
    over [] g k = tt
    over (y ∷ xs) g k = (ap (λ b. cond b (Some d.1) (column_type_in y.0 ds)) (bytes_differ y.0 d.0 (λ e. g.0 (sym e))) ∙ k.0, over xs g.1 k.1)

-- the record of the columns of a table, as types
abbrev pub column_fields : Columns → FieldTypes
column_fields columns = field_types_of (by_label (map (λ column. (column.0, base_type column.1)) columns))

module _ (S : List TableShape) (t : Label) (sc : List Label) where
  columns_have : (xs : Columns) → Each (λ d. column_type_in d.0 (table_columns S t) ≡ Some d.1) xs → RawFieldsHave S (t ∷ sc) (columns_body xs) (column_fields xs)
  columns_have [] h = refl
  columns_have (d ∷ xs) h =
      subst (λ (z : FieldTypes). RawFieldsHave S (t ∷ sc) (columns_body (d ∷ xs)) z) (sym (put_type_list d.0 (base_type d.1) (by_label (map (λ column. (column.0, base_type column.1)) xs)))) (put_has S (t ∷ sc) d.0 (raw_plain (raw_column 0 d.0)) (base_type d.1) (columns_body xs) (column_fields xs) (d.1, h.0, refl) (columns_have xs h.1))

-- what holds of each shape holds of one that is found
pub shape_found : (P : TableShape → Type 0) (l : Label) (shapes : List TableShape) (shape : TableShape) → Each P shapes → shape_named l shapes ≡ Some shape → P shape
shape_found P l [] shape all e = absurd (cc)
shape_found P l (s ∷ shapes) shape all e =
    ⊎_elim (λ h. subst P h all.0) (λ h. shape_found P l shapes shape all.1 h) (either_some (bytes_eq l s.name) s shape (shape_named l shapes) e)

pub is_known : (o : Option TableShape) (shape : TableShape) → o ≡ Some shape → IsSome o
is_known o shape e = subst IsSome (sym e) refl

var_has : (S : List TableShape) (sc : List Label) (g : List TypeTree) (es : List RawBody) (k : ℕ) (A : TypeTree) → slice_get g k ≡ Some A → EachHas S sc es g → RawBodyHas S sc (get_or es k no_raw_body) A
var_has S sc [] es k A h e = absurd (cc)
var_has S sc (B ∷ g) [] k A h e = absurd e
var_has S sc (B ∷ g) (b ∷ es) zero A h e = let v : B ≡ A = cc in subst (λ (z : TypeTree). RawBodyHas S sc b z) v e.0
var_has S sc (B ∷ g) (b ∷ es) (suc k) A h e = var_has S sc g es k A h e.1

module _ (S : List TableShape) where
  sums_have : (sc : List Label) (cs : RawComps) → RawCompsHave S sc cs TypeTree.int → Each (λ b. RawBaseHas S sc b column_type.Int) (of_each raw_sum cs)
  sums_have sc no_raw_comp h = tt
  sums_have sc (raw_comp gs bs b cs) h = ((refl, h.0, h.1, base_has S (under gs sc) b TypeTree.int column_type.Int refl h.2), sums_have sc cs h.3)

  aggregate_has : (sc : List Label) (g : Aggregate) (cs : RawComps) (B A : TypeTree) → RawCompsHave S sc cs B → aggregate_type g B ≡ Some A → RawBodyHas S sc (raw_plain (raw_aggregate g cs)) A
  aggregate_has sc Emptiness cs B A h e = (column_type.Bool, (refl, tests_have S sc cs B h), cc)
  aggregate_has sc Count cs B A h e = (column_type.Int, plus_all_has S sc (of_each raw_count cs) (counts_have S sc cs B h), cc)
  aggregate_has sc Sum cs TypeTree.int A h e = (column_type.Int, plus_all_has S sc (of_each raw_sum cs) (sums_have sc cs h), cc)
  aggregate_has sc Sum cs _ A h e = absurd (cc)

module _ (schema : Schema) (proper : Each IsProperShape schema.tables) where
  mutual
    -- the body of a typed term has its type, and each column names a generator in scope
    pub raw_has : (m : TermTree) (g : List TypeTree) (A : TypeTree) → IsProperTerm m → IsPlainTerm m → HasType schema g m A → (es : List RawBody) (sc : List Label) → EachHas schema.tables sc es g → RawBodyHas schema.tables sc (raw_form schema.tables m es) A
    raw_has (TermTree.var k) g A p q h es sc e = var_has schema.tables sc g es k A h e
    raw_has (TermTree.int n) g A p q h es sc e = (column_type.Int, (refl, p), h)
    raw_has (TermTree.bool b) g A p q h es sc e = (column_type.Bool, (refl, tt), h)
    raw_has (TermTree.text t) g A p q h es sc e = (column_type.Text, (refl, tt), h)
    raw_has (TermTree.table t) g A p q h es sc e =
        let cols : table_columns schema.tables t ≡ h.0.columns = ap columns_or_none h.1 in
        let good = shape_found IsProperShape t schema.tables h.0 proper h.1 in
        let found = columns_found h.0.columns good.columns_differ in
        let body : RawFieldsHave schema.tables (t ∷ sc) (columns_body h.0.columns) (column_fields h.0.columns) = columns_have schema.tables t sc h.0.columns (subst (λ (z : Columns). Each (λ d. column_type_in d.0 z ≡ Some d.1) h.0.columns) (sym cols) found) in
        (TypeTree.rec (column_fields h.0.columns), ((is_known (shape_named t schema.tables) h.0 h.1, tt), tt, (column_fields h.0.columns, subst (λ (z : Columns). RawFieldsHave schema.tables (t ∷ sc) (columns_body z) (column_fields h.0.columns)) (sym cols) body, refl), tt), h.2)
    raw_has (TermTree.unary op a) g A p q h es sc e =
        (h.1, (h.0, base_has schema.tables sc (raw_form schema.tables a es) (base_type h.0) h.0 refl (raw_has a g (base_type h.0) p q h.2 es sc e), h.3), h.4)
    raw_has (TermTree.binary op a b) g A p q h es sc e =
        (h.2, (h.0, h.1, base_has schema.tables sc (raw_form schema.tables a es) (base_type h.0) h.0 refl (raw_has a g (base_type h.0) p.0 q.0 h.3 es sc e), base_has schema.tables sc (raw_form schema.tables b es) (base_type h.1) h.1 refl (raw_has b g (base_type h.1) p.1 q.1 h.4 es sc e), h.5), h.6)
    raw_has (TermTree.choose x a b) g A p q h es sc e =
        choose_has schema.tables sc (raw_base_in (raw_form schema.tables x es)) (raw_form schema.tables a es) (raw_form schema.tables b es) A (base_has schema.tables sc (raw_form schema.tables x es) TypeTree.bool column_type.Bool refl (raw_has x g TypeTree.bool p.0 q.0 h.0 es sc e)) (raw_has a g A p.1 q.1 h.1 es sc e) (raw_has b g A p.2 q.2 h.2 es sc e)
    raw_has (TermTree.rec fs) g A p q h es sc e = (h.0, fields_have fs g h.0 p.1 q h.1 es sc e, h.2)
    raw_has (TermTree.field a l) g A p q h es sc e =
        field_has schema.tables sc l (raw_form schema.tables a es) h.0 A (TypeTree.rec h.0) refl (raw_has a g (TypeTree.rec h.0) p.0 q h.1 es sc e) h.2
    raw_has (TermTree.aggregate f a) g A p q h es sc e =
        aggregate_has schema.tables sc f (raw_comps_in (raw_form schema.tables a es)) h.0 A (comps_have schema.tables sc (raw_form schema.tables a es) (TypeTree.bag h.0) h.0 refl (raw_has a g (TypeTree.bag h.0) p q h.1 es sc e)) h.2
    raw_has (TermTree.single a) g A p q h es sc e = (h.0, (tt, tt, raw_has a g h.0 p q h.1 es sc e, tt), h.3)
    raw_has (TermTree.nil B) g A p q h es sc e = (B, tt, h.1)
    raw_has (TermTree.union a b) g A p q h es sc e =
        (h.0, append_has schema.tables sc (raw_comps_in (raw_form schema.tables a es)) (raw_comps_in (raw_form schema.tables b es)) h.0 (comps_have schema.tables sc (raw_form schema.tables a es) A h.0 h.1 (raw_has a g A p.0 q.0 h.2 es sc e)) (comps_have schema.tables sc (raw_form schema.tables b es) A h.0 h.1 (raw_has b g A p.1 q.1 h.3 es sc e)), h.1)
    raw_has (TermTree.for a b) g A p q h es sc e =
        (h.1, each_comp_has schema.tables sc (raw_comps_in (raw_form schema.tables a es)) (λ gs d. raw_comps_in (raw_form schema.tables b (d ∷ map (up_body (length gs) 0) es))) h.0 h.1 (comps_have schema.tables sc (raw_form schema.tables a es) (TypeTree.bag h.0) h.0 refl (raw_has a g (TypeTree.bag h.0) p.0 q.0 h.2 es sc e)) (λ gs d k. comps_have schema.tables (under gs sc) (raw_form schema.tables b (d ∷ map (up_body (length gs) 0) es)) A h.1 h.4 (raw_has b (h.0 ∷ g) A p.1 q.1 h.3 (d ∷ map (up_body (length gs) 0) es) (under gs sc) (k, bodies_under schema.tables gs sc es g e))), h.4)
    raw_has (TermTree.guard x a) g A p q h es sc e =
        (h.0, where_has schema.tables sc (raw_base_in (raw_form schema.tables x es)) (raw_comps_in (raw_form schema.tables a es)) h.0 (base_has schema.tables sc (raw_form schema.tables x es) TypeTree.bool column_type.Bool refl (raw_has x g TypeTree.bool p.0 q.0 h.1 es sc e)) (comps_have schema.tables sc (raw_form schema.tables a es) A h.0 h.3 (raw_has a g A p.1 q.1 h.2 es sc e)), h.3)
    raw_has (TermTree.fun a t) g A p q h es sc e = absurd q
    raw_has (TermTree.apply a b) g A p q h es sc e = absurd q
    raw_has (TermTree.bind a b) g A p q h es sc e = absurd q

    fields_have : (fs : TermFields) (g : List TypeTree) (gs : FieldTypes) → AreProperTerms fs → ArePlainTerms fs → HaveTypes schema g fs gs → (es : List RawBody) (sc : List Label) → EachHas schema.tables sc es g → RawFieldsHave schema.tables sc (raw_fields schema.tables fs es) gs
    fields_have TermFields.none g gs p q h es sc e = h
    fields_have (TermFields.with_field l a fs) g gs p q h es sc e =
        subst (λ (z : FieldTypes). RawFieldsHave schema.tables sc (put_raw l (raw_form schema.tables a es) (raw_fields schema.tables fs es)) z) (sym h.4) (put_has schema.tables sc l (raw_form schema.tables a es) h.0 (raw_fields schema.tables fs es) h.1 (raw_has a g h.0 p.1 q.0 h.2 es sc e) (fields_have fs g h.1 p.2 q.1 h.3 es sc e))
