-- The term as which a form prints is legible where the form is well formed and its words are words.
use Rattle.std.proofs.Common.{◌≡◌, ℕ, ◌&&◌, inl, inr, Bool, true, false, cond, nat_eq, List, [], ◌∷◌, ◌++◌, Some, refl, sym, ap, ap₂, ◌∙◌, subst}
use Rattle.std.specs.List.{AllByRecursion as Each}
use Rattle.std.proofs.lemmas.Bool.Decides.{Decides-eqb}
use Rattle.nq_model.specs.NamedRows.{Label}
use Rattle.nq_model.specs.Proper.{IsQueryWord, IsOrdered, AreOrdered, labels_of}
use Rattle.nq_model.specs.Totals.{HowMany, SumOf}
use Rattle.nq_model.specs.Types.{TypeTree, int, bool, text, rec, bag, fun, FieldTypes, none, field, is_plain, are_plain}
use Rattle.nq_model.specs.declared.table.ColumnType.{ColumnType}
use Rattle.nq_model.specs.declared.table.ColumnType.TheVariants as column_type
use Rattle.nq_model.specs.declared.table.TableShape.{TableShape}
use Rattle.nq_model.specs.declared.term.Binary.TheVariants.{And}
use Rattle.nq_ir.specs.declared.base.Gen.{Gen}
use Rattle.nq_ir.specs.Trees.{BaseTree, literal, column, unary, binary, choose, empty, total, Conds, no_cond, and_cond, Tests, no_test, test, BodyTree, plain_body, rec_body, bag_body, Bodies, no_body, with_body, Comps, no_comp, comp, FormTree}
use Rattle.nq_ir.specs.Printed.{NamedTerm, under_gens, unit_bag, named_base, named_where, and_then, named_tests, tests_then, named_body, named_fields, named_comps, comps_then, named_form}
use Rattle.nq_ir.specs.WellFormed.{BaseHas, CondsHave, TestsHave, BodyHas, BodiesHave, CompsHave, IsNumber, column_type_in, gen_columns, table_columns, numbers, base_numbers, conds_numbers, tests_numbers, body_numbers, bodies_numbers, comps_numbers}
use Rattle.nq_ir.specs.Words.{TypeWords, FieldsWords, GensWords, BaseWords, CondsWords, TestsWords, BodyWords, BodiesWords, CompsWords}
use Rattle.nq_ir.proofs.Distinct.{each_join, each_left, each_right}
use Rattle.nq_ir.proofs.Numbered.{each_weaker}
use Rattle.normal_printer.specs.Parts.{comp_term}
use Rattle.normal_printer.specs.Spellable.{IsSpellable}
use Rattle.normal_printer.proofs.Legible.{Apart, IsBound, Legible, LegibleFields, LegibleType, LegibleTypes, named_labels, rising_apart}

and_left : (a b : Bool) → (a && b) ≡ true → a ≡ true
and_left true b e = refl
and_left false b e = absurd (cc)

and_right : (a b : Bool) → (a && b) ≡ true → b ≡ true
and_right true b e = e
and_right false b e = absurd (cc)

mutual
  type_legible : (a : TypeTree) → IsOrdered a → is_plain a ≡ true → TypeWords IsQueryWord a → LegibleType a
  type_legible int o p w = tt
  type_legible bool o p w = tt
  type_legible text o p w = tt
  type_legible (rec fs) o p w = (o.0, types_legible fs o.1 p w)
  type_legible (bag a) o p w = type_legible a o p w
  type_legible (fun a b) o p w = absurd (cc)

  types_legible : (fs : FieldTypes) → AreOrdered fs → are_plain fs ≡ true → FieldsWords IsQueryWord fs → LegibleTypes fs
  types_legible none o p w = tt
  types_legible (field l a fs) o p w = (w.0, type_legible a o.0 (and_left (is_plain a) (are_plain fs) p) w.1, types_legible fs o.1 (and_right (is_plain a) (are_plain fs) p) w.2)

-- the names in scope behind generators
abbrev names_behind : List Gen → List ℕ → List ℕ
names_behind [] sc = sc
names_behind (g ∷ gens) sc = names_behind gens (g.number ∷ sc)

-- each generator in scope has its name
abbrev Covers : List ℕ → List Gen → Type 0
Covers sc scope = Each (λ g. IsBound sc g.number) scope

still_bound : (gens : List Gen) (sc : List ℕ) (k : ℕ) → IsBound sc k → IsBound (names_behind gens sc) k
still_bound [] sc k b = b
still_bound (g ∷ gens) sc k b = still_bound gens (g.number ∷ sc) k (inr b)

still_covers : (gens : List Gen) (sc : List ℕ) (scope : List Gen) → Covers sc scope → Covers (names_behind gens sc) scope
still_covers gens sc scope c = each_weaker (λ (g : Gen). IsBound sc g.number) (λ g. IsBound (names_behind gens sc) g.number) (λ g b. still_bound gens sc g.number b) scope c

covers_own : (gens : List Gen) (sc : List ℕ) → Covers (names_behind gens sc) gens
covers_own [] sc = tt
covers_own (g ∷ gens) sc = (still_bound gens (g.number ∷ sc) g.number (inl refl), covers_own gens (g.number ∷ sc))

covers_both : (gens : List Gen) (sc : List ℕ) (scope : List Gen) → Covers sc scope → Covers (names_behind gens sc) (gens ++ scope)
covers_both gens sc scope c = each_join (λ (g : Gen). IsBound (names_behind gens sc) g.number) gens scope (covers_own gens sc) (still_covers gens sc scope c)

column_bound : (S : List TableShape) (scope : List Gen) (sc : List ℕ) (g : ℕ) (l : Label) (T : ColumnType) → Covers sc scope → column_type_in l (gen_columns S scope g) ≡ Some T → IsBound sc g
column_bound S [] sc g l T c h = absurd (cc)
column_bound S (k ∷ scope) sc g l T c h = go (nat_eq g k.number) refl h (λ i. column_bound S scope sc g l T c.1 i)
  where
    go : (b : Bool) → nat_eq g k.number ≡ b → column_type_in l (cond b (table_columns S k.table) (gen_columns S scope g)) ≡ Some T → (column_type_in l (gen_columns S scope g) ≡ Some T → IsBound sc g) → IsBound sc g
    go true e i f = subst (IsBound sc) (sym ((Decides-eqb g k.number).0 e)) c.0
    go false e i f = f i

under_legible : (gens : List Gen) (sc : List ℕ) (s : NamedTerm) → GensWords IsQueryWord gens → Each IsNumber (numbers gens) → Legible (names_behind gens sc) s → Legible sc (under_gens gens s)
under_legible [] sc s w n h = h
under_legible (g ∷ gens) sc s w n h = (n.0.1, w.0, under_legible gens (g.number ∷ sc) s w.1 n.1 h)

module _ (S : List TableShape) where
  mutual
    base_legible : (b : BaseTree) (sc : List ℕ) (scope : List Gen) (T : ColumnType) → BaseHas S scope b T → BaseWords IsQueryWord b → Each IsNumber (base_numbers b) → Covers sc scope → Legible sc (named_base b)
    base_legible (literal c) sc scope T h w n c' = h.1
    base_legible (column g l) sc scope T h w n c = (column_bound S scope sc g l T c h, w)
    base_legible (unary o b) sc scope T h w n c = base_legible b sc scope h.0 h.1 w n c
    base_legible (binary o a b) sc scope T h w n c = (
      base_legible a sc scope h.0 h.2 w.0 (each_left IsNumber (base_numbers a) (base_numbers b) n) c,
      base_legible b sc scope h.1 h.3 w.1 (each_right IsNumber (base_numbers a) (base_numbers b) n) c,
    )
    base_legible (choose x a b) sc scope T h w n c =
        let m = each_right IsNumber (base_numbers x) (base_numbers a ++ base_numbers b) n in (
          base_legible x sc scope column_type.Bool h.0 w.0 (each_left IsNumber (base_numbers x) (base_numbers a ++ base_numbers b) n) c,
          base_legible a sc scope T h.1 w.1 (each_left IsNumber (base_numbers a) (base_numbers b) m) c,
          base_legible b sc scope T h.2 w.2 (each_right IsNumber (base_numbers a) (base_numbers b) m) c,
        )
    base_legible (empty xs) sc scope T h w n c = tests_legible xs sc scope h.1 w n c
    base_legible (total HowMany gens bs b) sc scope T h w n c =
        let m = each_right IsNumber (numbers gens) (conds_numbers bs ++ base_numbers b) n in
        under_legible gens sc (named_where bs unit_bag) w.0 (each_left IsNumber (numbers gens) (conds_numbers bs ++ base_numbers b) n)
        (where_legible bs unit_bag (names_behind gens sc) (gens ++ scope) h.2 w.1 (each_left IsNumber (conds_numbers bs) (base_numbers b) m) (covers_both gens sc scope c) (tt, tt))
    base_legible (total SumOf gens bs b) sc scope T h w n c =
        let m = each_right IsNumber (numbers gens) (conds_numbers bs ++ base_numbers b) n in
        let all = covers_both gens sc scope c in
        under_legible gens sc (named_where bs (NamedTerm.single (named_base b))) w.0 (each_left IsNumber (numbers gens) (conds_numbers bs ++ base_numbers b) n)
        (where_legible bs (NamedTerm.single (named_base b)) (names_behind gens sc) (gens ++ scope) h.2 w.1 (each_left IsNumber (conds_numbers bs) (base_numbers b) m) all
        (base_legible b (names_behind gens sc) (gens ++ scope) column_type.Int h.3 w.2 (each_right IsNumber (conds_numbers bs) (base_numbers b) m) all))

    where_legible : (bs : Conds) (s : NamedTerm) (sc : List ℕ) (scope : List Gen) → CondsHave S scope bs → CondsWords IsQueryWord bs → Each IsNumber (conds_numbers bs) → Covers sc scope → Legible sc s → Legible sc (named_where bs s)
    where_legible no_cond s sc scope h w n c l = l
    where_legible (and_cond b bs) s sc scope h w n c l = (
      and_legible bs (named_base b) sc scope h.1 w.1 (each_right IsNumber (base_numbers b) (conds_numbers bs) n) c (base_legible b sc scope column_type.Bool h.0 w.0 (each_left IsNumber (base_numbers b) (conds_numbers bs) n) c),
      l,
    )

    and_legible : (bs : Conds) (x : NamedTerm) (sc : List ℕ) (scope : List Gen) → CondsHave S scope bs → CondsWords IsQueryWord bs → Each IsNumber (conds_numbers bs) → Covers sc scope → Legible sc x → Legible sc (and_then x bs)
    and_legible no_cond x sc scope h w n c l = l
    and_legible (and_cond b bs) x sc scope h w n c l =
        and_legible bs (NamedTerm.binary And x (named_base b)) sc scope h.1 w.1 (each_right IsNumber (base_numbers b) (conds_numbers bs) n) c (l, base_legible b sc scope column_type.Bool h.0 w.0 (each_left IsNumber (base_numbers b) (conds_numbers bs) n) c)

    tests_legible : (xs : Tests) (sc : List ℕ) (scope : List Gen) → TestsHave S scope xs → TestsWords IsQueryWord xs → Each IsNumber (tests_numbers xs) → Covers sc scope → Legible sc (named_tests xs)
    tests_legible no_test sc scope h w n c = (tt, tt)
    tests_legible (test gens bs xs) sc scope h w n c =
        let m = each_right IsNumber (numbers gens) (conds_numbers bs ++ tests_numbers xs) n in
        tests_then_legible xs (under_gens gens (named_where bs unit_bag)) sc scope h.2 w.2 (each_right IsNumber (conds_numbers bs) (tests_numbers xs) m) c
        (under_legible gens sc (named_where bs unit_bag) w.0 (each_left IsNumber (numbers gens) (conds_numbers bs ++ tests_numbers xs) n)
        (where_legible bs unit_bag (names_behind gens sc) (gens ++ scope) h.1 w.1 (each_left IsNumber (conds_numbers bs) (tests_numbers xs) m)
        (covers_both gens sc scope c) (tt, tt)))

    tests_then_legible : (xs : Tests) (s : NamedTerm) (sc : List ℕ) (scope : List Gen) → TestsHave S scope xs → TestsWords IsQueryWord xs → Each IsNumber (tests_numbers xs) → Covers sc scope → Legible sc s → Legible sc (tests_then s xs)
    tests_then_legible no_test s sc scope h w n c l = l
    tests_then_legible (test gens bs xs) s sc scope h w n c l =
        let m = each_right IsNumber (numbers gens) (conds_numbers bs ++ tests_numbers xs) n in
        tests_then_legible xs (NamedTerm.union s (under_gens gens (named_where bs unit_bag))) sc scope h.2 w.2 (each_right IsNumber (conds_numbers bs) (tests_numbers xs) m) c (
          l,
          under_legible gens sc (named_where bs unit_bag) w.0 (each_left IsNumber (numbers gens) (conds_numbers bs ++ tests_numbers xs) n)
              (where_legible bs unit_bag (names_behind gens sc) (gens ++ scope) h.1 w.1 (each_left IsNumber (conds_numbers bs) (tests_numbers xs) m)
              (covers_both gens sc scope c) (tt, tt)),
        )

  -- the labels of a record are those of its type
  labels_same : (fs : Bodies) (gs : FieldTypes) (scope : List Gen) → BodiesHave S scope fs gs → named_labels (named_fields fs) ≡ labels_of gs
  labels_same no_body none scope h = refl
  labels_same no_body (field k a gs) scope h = absurd h
  labels_same (with_body l b fs) none scope h = absurd h
  labels_same (with_body l b fs) (field k a gs) scope h = ap₂ (λ x (xs : List Label). x ∷ xs) h.0 (labels_same fs gs scope h.2)

  -- a comprehension, from its conditions and its body
  comp_legible : (gens : List Gen) (bs : Conds) (body : NamedTerm) (sc : List ℕ) (scope : List Gen) → GensWords IsQueryWord gens → Each IsNumber (numbers gens) → CondsHave S (scope ++ gens) bs → CondsWords IsQueryWord bs → Each IsNumber (conds_numbers bs) → Covers sc scope
      → (Covers (names_behind gens sc) (scope ++ gens) → Legible (names_behind gens sc) body) → Legible sc (comp_term gens bs body)
  comp_legible gens bs body sc scope w n h u m c f =
      let all = each_join (λ (g : Gen). IsBound (names_behind gens sc) g.number) scope gens (still_covers gens sc scope c) (covers_own gens sc) in
      under_legible gens sc (named_where bs (NamedTerm.single body)) w n (where_legible bs (NamedTerm.single body) (names_behind gens sc) (scope ++ gens) h u m all (f all))

  mutual
    body_legible : (b : BodyTree) (a : TypeTree) (sc : List ℕ) (scope : List Gen) → BodyHas S scope b a → IsOrdered a → is_plain a ≡ true → BodyWords IsQueryWord b → Each IsNumber (body_numbers b) → Covers sc scope → Legible sc (named_body b)
    body_legible (plain_body b) int sc scope h o p w n c = base_legible b sc scope column_type.Int h w n c
    body_legible (plain_body b) bool sc scope h o p w n c = base_legible b sc scope column_type.Bool h w n c
    body_legible (plain_body b) text sc scope h o p w n c = base_legible b sc scope column_type.Text h w n c
    body_legible (plain_body b) (rec gs) sc scope h o p w n c = absurd h
    body_legible (plain_body b) (bag a) sc scope h o p w n c = absurd h
    body_legible (plain_body b) (fun a d) sc scope h o p w n c = absurd h
    body_legible (rec_body fs) int sc scope h o p w n c = absurd h
    body_legible (rec_body fs) bool sc scope h o p w n c = absurd h
    body_legible (rec_body fs) text sc scope h o p w n c = absurd h
    body_legible (rec_body fs) (rec gs) sc scope h o p w n c = (
      subst (Apart []) (sym (labels_same fs gs scope h)) (rising_apart (labels_of gs) [] tt o.0),
      bodies_legible fs gs sc scope h o.1 p w n c,
    )
    body_legible (rec_body fs) (bag a) sc scope h o p w n c = absurd h
    body_legible (rec_body fs) (fun a d) sc scope h o p w n c = absurd h
    body_legible (bag_body e cs) int sc scope h o p w n c = absurd h
    body_legible (bag_body e cs) bool sc scope h o p w n c = absurd h
    body_legible (bag_body e cs) text sc scope h o p w n c = absurd h
    body_legible (bag_body e cs) (rec gs) sc scope h o p w n c = absurd h
    body_legible (bag_body e cs) (bag a) sc scope h o p w n c =
        comps_legible cs e sc scope (subst (λ z. CompsHave S scope cs z) (sym h.0) h.1) (subst IsOrdered (sym h.0) o) (ap is_plain h.0 ∙ p) w.0 w.1 n c
    body_legible (bag_body e cs) (fun a d) sc scope h o p w n c = absurd h

    bodies_legible : (fs : Bodies) (gs : FieldTypes) (sc : List ℕ) (scope : List Gen) → BodiesHave S scope fs gs → AreOrdered gs → are_plain gs ≡ true → BodiesWords IsQueryWord fs → Each IsNumber (bodies_numbers fs) → Covers sc scope → LegibleFields sc (named_fields fs)
    bodies_legible no_body gs sc scope h o p w n c = tt
    bodies_legible (with_body l b fs) none sc scope h o p w n c = absurd h
    bodies_legible (with_body l b fs) (field k a gs) sc scope h o p w n c = (
      w.0,
      body_legible b a sc scope h.1 o.0 (and_left (is_plain a) (are_plain gs) p) w.1 (each_left IsNumber (body_numbers b) (bodies_numbers fs) n) c,
      bodies_legible fs gs sc scope h.2 o.1 (and_right (is_plain a) (are_plain gs) p) w.2 (each_right IsNumber (body_numbers b) (bodies_numbers fs) n) c,
    )

    comps_legible : (cs : Comps) (a : TypeTree) (sc : List ℕ) (scope : List Gen) → CompsHave S scope cs a → IsOrdered a → is_plain a ≡ true → TypeWords IsQueryWord a → CompsWords IsQueryWord cs → Each IsNumber (comps_numbers cs) → Covers sc scope → Legible sc (named_comps a cs)
    comps_legible no_comp a sc scope h o p u w n c = type_legible a o p u
    comps_legible (comp t gens bs b cs) a sc scope h o p u w n c =
        let m = each_right IsNumber (numbers gens) (conds_numbers bs ++ (body_numbers b ++ comps_numbers cs)) n in
        let k = each_right IsNumber (conds_numbers bs) (body_numbers b ++ comps_numbers cs) m in
        comps_then_legible cs a (comp_term gens bs (named_body b)) sc scope h.3 o p w.3 (each_right IsNumber (body_numbers b) (comps_numbers cs) k) c
        (comp_legible gens bs (named_body b) sc scope w.0 (each_left IsNumber (numbers gens) (conds_numbers bs ++ (body_numbers b ++ comps_numbers cs)) n) h.1 w.1 (each_left IsNumber (conds_numbers bs) (body_numbers b ++ comps_numbers cs) m) c
        (λ all. body_legible b a (names_behind gens sc) (scope ++ gens) h.2 o p w.2 (each_left IsNumber (body_numbers b) (comps_numbers cs) k) all))

    comps_then_legible : (cs : Comps) (a : TypeTree) (s : NamedTerm) (sc : List ℕ) (scope : List Gen) → CompsHave S scope cs a → IsOrdered a → is_plain a ≡ true → CompsWords IsQueryWord cs → Each IsNumber (comps_numbers cs) → Covers sc scope → Legible sc s → Legible sc (comps_then s cs)
    comps_then_legible no_comp a s sc scope h o p w n c l = l
    comps_then_legible (comp t gens bs b cs) a s sc scope h o p w n c l =
        let m = each_right IsNumber (numbers gens) (conds_numbers bs ++ (body_numbers b ++ comps_numbers cs)) n in
        let k = each_right IsNumber (conds_numbers bs) (body_numbers b ++ comps_numbers cs) m in
        comps_then_legible cs a (NamedTerm.union s (comp_term gens bs (named_body b))) sc scope h.3 o p w.3 (each_right IsNumber (body_numbers b) (comps_numbers cs) k) c (
          l,
          comp_legible gens bs (named_body b) sc scope w.0 (each_left IsNumber (numbers gens) (conds_numbers bs ++ (body_numbers b ++ comps_numbers cs)) n) h.1 w.1 (each_left IsNumber (conds_numbers bs) (body_numbers b ++ comps_numbers cs) m) c
              (λ all. body_legible b a (names_behind gens sc) (scope ++ gens) h.2 o p w.2 (each_left IsNumber (body_numbers b) (comps_numbers cs) k) all),
        )

pub form_legible : (form : FormTree) → IsSpellable form → Legible [] (named_form form)
form_legible form s =
    let f = s.well_formed in
    comps_legible s.schema.tables form.comps form.element [] [] f.typed f.labels_rise f.element_plain s.words.0 s.words.1 f.numbers_fit tt
