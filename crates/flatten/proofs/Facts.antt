-- What is known of the strands of a well-formed form.
use Rattle.std.proofs.Common.{◌≡◌, ℕ, suc, ◌<◌, ◌^◌, List, [], ◌∷◌, ◌++◌, refl, sym, ap, ap₂, ◌∙◌, subst, Bool, true, false, cond, nat_eq, append_assoc, arith, Some, Contains, IsSome}
use Rattle.std.specs.List.{AllByRecursion as Each}
use Rattle.std.specs.Str.{bytes_eq}
use Rattle.std.proofs.lemmas.Bool.Decides.{Decides-eqb}
use Rattle.std.proofs.lemmas.Slice.Eq.{bytes_eq-Decides}
use Rattle.std.proofs.lemmas.List.Elements.{recursion_from_All}
use Rattle.nq_model.specs.NamedRows.{Label}
use Rattle.nq_model.specs.Tables.{IsProperSchema, IsProperShape}
use Rattle.nq_model.specs.Types.{TypeTree, int, bool, text, rec, bag, fun, FieldTypes, none, field}
use Rattle.nq_model.specs.Typing.{shape_named}
use Rattle.nq_model.specs.declared.table.ColumnType.{ColumnType}
use Rattle.nq_model.specs.declared.table.ColumnType.TheVariants as column_type
use Rattle.nq_model.specs.declared.table.Schema.{Schema}
use Rattle.nq_model.specs.declared.table.TableShape.{TableShape}
use Rattle.nq_model.proofs.Numberings.{each_map}
use Rattle.nq_ir.specs.declared.base.Gen.{Gen}
use Rattle.nq_ir.specs.Trees.{BaseTree, literal, column, unary, binary, choose, empty, Conds, no_cond, and_cond, Tests, no_test, test, BodyTree, plain_body, rec_body, bag_body, Bodies, no_body, with_body, Comps, no_comp, comp, ShapeTree, plain_shape, rec_shape, index_shape, Shapes, no_shape, with_shape, total}
use Rattle.nq_ir.specs.Spots.{StrandTree, shaped, both, shape_of, shape_of_fields, shape_leaves, shape_leaves_in}
use Rattle.nq_ir.specs.WellFormed.{IsNumber, body_tags, bodies_tags, comps_tags, BaseHas, CondsHave, TestsHave, BodyHas, BodiesHave, CompsHave, AreTables, column_type_in, gen_columns, table_columns, numbers, base_numbers, conds_numbers, tests_numbers, body_numbers, bodies_numbers, comps_numbers}
use Rattle.nq_ir.proofs.Distinct.{Apart, Distinct, Sub, among_left, among_right, distinct_apart, distinct_sub, each_among, each_join, each_left, each_right, each_sub, first, later, sub_append, sub_before, sub_left, sub_refl, sub_right}
use Rattle.nq_ir.proofs.Equal.{nat_same}
use Rattle.nq_ir.proofs.Levels.{AllBody, AllComps, AllFields}
use Rattle.nq_ir.proofs.Scopes.{Inside, inside_append, distinct_join, from_inside, numbers_append}
use Rattle.flatten.specs.Emitted.{in_gens}
use Rattle.flatten.proofs.Apart.{NoDot}
use Rattle.flatten.proofs.Exprs.{Inner, InnerAll, InnerTests}
use Rattle.flatten.proofs.Agree.{TablesDotless, Dotless, DotlessAll, DotlessTests}

-- the generators of each test inside differ
abbrev mutual
  pub TestsApart : BaseTree → Type 0
  TestsApart (literal c) = Unit {0}
  TestsApart (column g l) = Unit {0}
  TestsApart (unary o b) = TestsApart b
  TestsApart (binary o a b) = TestsApart a × TestsApart b
  TestsApart (choose t a b) = TestsApart t × TestsApart a × TestsApart b
  TestsApart (empty xs) = TestsApartIn xs
  TestsApart (total g gens conds b) = Distinct (numbers gens) × TestsApartAll conds × TestsApart b

  pub TestsApartAll : Conds → Type 0
  TestsApartAll no_cond = Unit {0}
  TestsApartAll (and_cond b bs) = TestsApart b × TestsApartAll bs

  pub TestsApartIn : Tests → Type 0
  TestsApartIn no_test = Unit {0}
  TestsApartIn (test gens conds xs) = Distinct (numbers gens) × TestsApartAll conds × TestsApartIn xs

mutual
  distinct_tests : (b : BaseTree) → Distinct (base_numbers b) → TestsApart b
  distinct_tests (literal c) d = tt
  distinct_tests (column g l) d = tt
  distinct_tests (unary o b) d = distinct_tests b d
  distinct_tests (binary o a b) d = (distinct_tests a (distinct_sub (sub_left (base_numbers a) (base_numbers b)) d), distinct_tests b (distinct_sub (sub_right (base_numbers a) (base_numbers b)) d))
  distinct_tests (choose t a b) d =
      let r = distinct_sub (sub_right (base_numbers t) (base_numbers a ++ base_numbers b)) d in
      (distinct_tests t (distinct_sub (sub_left (base_numbers t) (base_numbers a ++ base_numbers b)) d), distinct_tests a (distinct_sub (sub_left (base_numbers a) (base_numbers b)) r), distinct_tests b (distinct_sub (sub_right (base_numbers a) (base_numbers b)) r))
  distinct_tests (empty xs) d = distinct_tests_in xs d
  distinct_tests (total g gens conds b) d =
      let r = distinct_sub (sub_right (numbers gens) (conds_numbers conds ++ base_numbers b)) d in
      (distinct_sub (sub_left (numbers gens) (conds_numbers conds ++ base_numbers b)) d, distinct_tests_all conds (distinct_sub (sub_left (conds_numbers conds) (base_numbers b)) r), distinct_tests b (distinct_sub (sub_right (conds_numbers conds) (base_numbers b)) r))

  distinct_tests_all : (bs : Conds) → Distinct (conds_numbers bs) → TestsApartAll bs
  distinct_tests_all no_cond d = tt
  distinct_tests_all (and_cond b bs) d = (distinct_tests b (distinct_sub (sub_left (base_numbers b) (conds_numbers bs)) d), distinct_tests_all bs (distinct_sub (sub_right (base_numbers b) (conds_numbers bs)) d))

  distinct_tests_in : (xs : Tests) → Distinct (tests_numbers xs) → TestsApartIn xs
  distinct_tests_in no_test d = tt
  distinct_tests_in (test gens conds xs) d =
      let r = distinct_sub (sub_right (numbers gens) (conds_numbers conds ++ tests_numbers xs)) d in
      (distinct_sub (sub_left (numbers gens) (conds_numbers conds ++ tests_numbers xs)) d, distinct_tests_all conds (distinct_sub (sub_left (conds_numbers conds) (tests_numbers xs)) r), distinct_tests_in xs (distinct_sub (sub_right (conds_numbers conds) (tests_numbers xs)) r))

each_number : (P : ℕ → Type 0) (gens : List Gen) → Each P (numbers gens) → Each (λ g. P g.number) gens
each_number P [] h = tt
each_number P (g ∷ gens) h = (h.0, each_number P gens h.1)

mutual
  inner_from : (outer : ℕ → Bool) (b : BaseTree) → Each (λ n. outer n ≡ false) (base_numbers b) → Inner outer b
  inner_from outer (literal c) h = tt
  inner_from outer (column g l) h = tt
  inner_from outer (unary f b) h = inner_from outer b h
  inner_from outer (binary f a b) h = (inner_from outer a (each_left (λ n. outer n ≡ false) (base_numbers a) (base_numbers b) h), inner_from outer b (each_right (λ n. outer n ≡ false) (base_numbers a) (base_numbers b) h))
  inner_from outer (choose t a b) h =
      let r = each_right (λ n. outer n ≡ false) (base_numbers t) (base_numbers a ++ base_numbers b) h in
      (inner_from outer t (each_left (λ n. outer n ≡ false) (base_numbers t) (base_numbers a ++ base_numbers b) h), inner_from outer a (each_left (λ n. outer n ≡ false) (base_numbers a) (base_numbers b) r), inner_from outer b (each_right (λ n. outer n ≡ false) (base_numbers a) (base_numbers b) r))
  inner_from outer (empty xs) h = inner_tests_from outer xs h
  inner_from outer (total g gens conds b) h =
      let r = each_right (λ n. outer n ≡ false) (numbers gens) (conds_numbers conds ++ base_numbers b) h in
      (each_number (λ n. outer n ≡ false) gens (each_left (λ n. outer n ≡ false) (numbers gens) (conds_numbers conds ++ base_numbers b) h), inner_all_from outer conds (each_left (λ n. outer n ≡ false) (conds_numbers conds) (base_numbers b) r), inner_from outer b (each_right (λ n. outer n ≡ false) (conds_numbers conds) (base_numbers b) r))

  inner_all_from : (outer : ℕ → Bool) (bs : Conds) → Each (λ n. outer n ≡ false) (conds_numbers bs) → InnerAll outer bs
  inner_all_from outer no_cond h = tt
  inner_all_from outer (and_cond b bs) h = (inner_from outer b (each_left (λ n. outer n ≡ false) (base_numbers b) (conds_numbers bs) h), inner_all_from outer bs (each_right (λ n. outer n ≡ false) (base_numbers b) (conds_numbers bs) h))

  inner_tests_from : (outer : ℕ → Bool) (xs : Tests) → Each (λ n. outer n ≡ false) (tests_numbers xs) → InnerTests outer xs
  inner_tests_from outer no_test h = tt
  inner_tests_from outer (test gens conds xs) h =
      let r = each_right (λ n. outer n ≡ false) (numbers gens) (conds_numbers conds ++ tests_numbers xs) h in
      (each_number (λ n. outer n ≡ false) gens (each_left (λ n. outer n ≡ false) (numbers gens) (conds_numbers conds ++ tests_numbers xs) h), inner_all_from outer conds (each_left (λ n. outer n ≡ false) (conds_numbers conds) (tests_numbers xs) r), inner_tests_from outer xs (each_right (λ n. outer n ≡ false) (conds_numbers conds) (tests_numbers xs) r))

-- the base parts of a body, and the numbers in them
abbrev leaves_of : BodyTree → List BaseTree
leaves_of b = shape_leaves (shape_of b)

abbrev leaves_in_fields : Bodies → List BaseTree
leaves_in_fields fs = shape_leaves_in (shape_of_fields fs)

mutual
  leaf_numbers : (P : ℕ → Type 0) (b : BodyTree) → Each P (body_numbers b) → Each (λ x. Each P (base_numbers x)) (leaves_of b)
  leaf_numbers P (plain_body b) h = (h, tt)
  leaf_numbers P (rec_body fs) h = leaf_numbers_in P fs h
  leaf_numbers P (bag_body e cs) h = tt

  leaf_numbers_in : (P : ℕ → Type 0) (fs : Bodies) → Each P (bodies_numbers fs) → Each (λ x. Each P (base_numbers x)) (leaves_in_fields fs)
  leaf_numbers_in P no_body h = tt
  leaf_numbers_in P (with_body l b fs) h =
      each_join (λ x. Each P (base_numbers x)) (leaves_of b) (leaves_in_fields fs) (leaf_numbers P b (each_left P (body_numbers b) (bodies_numbers fs) h)) (leaf_numbers_in P fs (each_right P (body_numbers b) (bodies_numbers fs) h))

mutual
  leaf_tests : (b : BodyTree) → Distinct (body_numbers b) → Each TestsApart (leaves_of b)
  leaf_tests (plain_body b) d = (distinct_tests b d, tt)
  leaf_tests (rec_body fs) d = leaf_tests_in fs d
  leaf_tests (bag_body e cs) d = tt

  leaf_tests_in : (fs : Bodies) → Distinct (bodies_numbers fs) → Each TestsApart (leaves_in_fields fs)
  leaf_tests_in no_body d = tt
  leaf_tests_in (with_body l b fs) d = each_join TestsApart (leaves_of b) (leaves_in_fields fs) (leaf_tests b (distinct_sub (sub_left (body_numbers b) (bodies_numbers fs)) d)) (leaf_tests_in fs (distinct_sub (sub_right (body_numbers b) (bodies_numbers fs)) d))

-- a name without a dot
pub no_dots : (l : Label) → (Contains l 46 → ⊥) → NoDot l
no_dots [] h = tt
no_dots (c ∷ l) h = (go (nat_eq c 46) refl, no_dots l (λ (k, within, is). h (suc k, omega (arith, within), is)))
  where
    go : (b : Bool) → nat_eq c 46 ≡ b → b ≡ false
    go true e = absurd (h (0, omega arith, (Decides-eqb c 46).0 e))
    go false e = refl

named_dotless : (shapes : List TableShape) → Each IsProperShape shapes → (t : Label) → IsSome (shape_named t shapes) → NoDot t
named_dotless [] p t h = absurd (cc)
named_dotless (s ∷ ss) p t h = go (bytes_eq t s.name) refl h (named_dotless ss p.1 t)
  where
    go : (b : Bool) → bytes_eq t s.name ≡ b → IsSome (cond b (Some s) (shape_named t ss)) → (IsSome (shape_named t ss) → NoDot t) → NoDot t
    go true e h f = subst NoDot (sym ((bytes_eq-Decides t s.name).0 e)) (no_dots s.name p.0.named.no_dot)
    go false e h f = f h

-- a table of a proper schema has no dot in its name
pub table_dotless : (schema : Schema) → IsProperSchema schema → (t : Label) → IsSome (shape_named t schema.tables) → NoDot t
table_dotless schema p t h = named_dotless schema.tables (recursion_from_All IsProperShape schema.tables p.proper) t h

module _ (schema : Schema) (proper : IsProperSchema schema) where
  pub gens_dotless : (gens : List Gen) → AreTables schema.tables gens → TablesDotless gens
  gens_dotless gens h = each_map (λ g. IsSome (shape_named g.table schema.tables)) (λ g. NoDot g.table) (λ g k. table_dotless schema proper g.table k) gens h

  mutual
    pub base_dotless : (sc : List Gen) (b : BaseTree) (T : ColumnType) → BaseHas schema.tables sc b T → Dotless b
    base_dotless sc (literal c) T h = tt
    base_dotless sc (column g l) T h = tt
    base_dotless sc (unary o b) T h = base_dotless sc b h.0 h.1
    base_dotless sc (binary o a b) T h = (base_dotless sc a h.0 h.2, base_dotless sc b h.1 h.3)
    base_dotless sc (choose t a b) T h = (base_dotless sc t column_type.Bool h.0, base_dotless sc a T h.1, base_dotless sc b T h.2)
    base_dotless sc (empty xs) T h = tests_dotless sc xs h.1
    base_dotless sc (total g gens conds b) T h = (gens_dotless gens h.1, conds_dotless (gens ++ sc) conds h.2, base_dotless (gens ++ sc) b column_type.Int h.3)

    pub conds_dotless : (sc : List Gen) (bs : Conds) → CondsHave schema.tables sc bs → DotlessAll bs
    conds_dotless sc no_cond h = tt
    conds_dotless sc (and_cond b bs) h = (base_dotless sc b column_type.Bool h.0, conds_dotless sc bs h.1)

    tests_dotless : (sc : List Gen) (xs : Tests) → TestsHave schema.tables sc xs → DotlessTests xs
    tests_dotless sc no_test h = tt
    tests_dotless sc (test gens conds xs) h = (gens_dotless gens h.0, conds_dotless (gens ++ sc) conds h.1, tests_dotless sc xs h.2)

-- a generator that comes later is no outer one
pub fresh : (og : List Gen) (seen : List ℕ) → Inside (numbers og) seen → (n : ℕ) → Each (λ v. nat_eq v n ≡ false) seen → in_gens og n ≡ false
fresh [] seen i n e = refl
fresh (g ∷ og) seen i n e =
    ap₂ (λ x y. cond x true y) (go (nat_eq n g.number) refl) (fresh og seen (λ k m. i k (later m)) n e)
  where
    go : (b : Bool) → nat_eq n g.number ≡ b → b ≡ false
    go true f = let s : n ≡ g.number = (Decides-eqb n g.number).0 f in let w : true ≡ false = sym (nat_same g.number n (sym s)) ∙ each_among (λ v. nat_eq v n ≡ false) (i g.number first) e in w
    go false f = refl

-- from each of V on the left to each of W on the right
pub turned : (V W : List ℕ) → Apart V W → Each (λ n. Each (λ v. nat_eq v n ≡ false) V) W
turned V [] a = tt
turned V (w ∷ W) a = (each_map (λ v. Each (λ y. nat_eq v y ≡ false) (w ∷ W)) (λ v. nat_eq v w ≡ false) (λ v h. h.0) V a, turned V W (each_map (λ v. Each (λ y. nat_eq v y ≡ false) (w ∷ W)) (λ v. Each (λ y. nat_eq v y ≡ false) W) (λ v h. h.1) V a))

module _ (S : List TableShape) where
  -- a type in a scope is one in a longer scope
  more_columns : (sc tc : List Gen) (g : ℕ) (l : Label) (T : ColumnType) → column_type_in l (gen_columns S sc g) ≡ Some T → gen_columns S (sc ++ tc) g ≡ gen_columns S sc g
  more_columns [] tc g l T h = absurd (cc)
  more_columns (k ∷ sc) tc g l T h = go (nat_eq g k.number) h (more_columns sc tc g l T)
    where
      go : (b : Bool) → column_type_in l (cond b (table_columns S k.table) (gen_columns S sc g)) ≡ Some T → (column_type_in l (gen_columns S sc g) ≡ Some T → gen_columns S (sc ++ tc) g ≡ gen_columns S sc g) → cond b (table_columns S k.table) (gen_columns S (sc ++ tc) g) ≡ cond b (table_columns S k.table) (gen_columns S sc g)
      go true h f = refl
      go false h f = f h

  mutual
    typed_more : (sc tc : List Gen) (b : BaseTree) (T : ColumnType) → BaseHas S sc b T → BaseHas S (sc ++ tc) b T
    typed_more sc tc (literal c) T h = h
    typed_more sc tc (column g l) T h = ap (column_type_in l) (more_columns sc tc g l T h) ∙ h
    typed_more sc tc (unary o b) T h = (h.0, typed_more sc tc b h.0 h.1, h.2)
    typed_more sc tc (binary o a b) T h = (h.0, h.1, typed_more sc tc a h.0 h.2, typed_more sc tc b h.1 h.3, h.4)
    typed_more sc tc (choose t a b) T h = (typed_more sc tc t column_type.Bool h.0, typed_more sc tc a T h.1, typed_more sc tc b T h.2)
    typed_more sc tc (empty xs) T h = (h.0, tests_more sc tc xs h.1)
    typed_more sc tc (total g gens conds b) T h =
        (h.0, h.1, subst (λ (z : List Gen). CondsHave S z conds) (append_assoc gens sc tc) (conds_more (gens ++ sc) tc conds h.2), subst (λ (z : List Gen). BaseHas S z b column_type.Int) (append_assoc gens sc tc) (typed_more (gens ++ sc) tc b column_type.Int h.3))

    conds_more : (sc tc : List Gen) (bs : Conds) → CondsHave S sc bs → CondsHave S (sc ++ tc) bs
    conds_more sc tc no_cond h = tt
    conds_more sc tc (and_cond b bs) h = (typed_more sc tc b column_type.Bool h.0, conds_more sc tc bs h.1)

    tests_more : (sc tc : List Gen) (xs : Tests) → TestsHave S sc xs → TestsHave S (sc ++ tc) xs
    tests_more sc tc no_test h = tt
    tests_more sc tc (test gens conds xs) h = (h.0, subst (λ (z : List Gen). CondsHave S z conds) (append_assoc gens sc tc) (conds_more (gens ++ sc) tc conds h.1), tests_more sc tc xs h.2)

  typed_both : (og gens : List Gen) (oc conds : Conds) → CondsHave S og oc → CondsHave S (og ++ gens) conds → CondsHave S (og ++ gens) (both oc conds)
  typed_both og gens no_cond conds h k = k
  typed_both og gens (and_cond b oc) conds h k = (typed_more og gens b column_type.Bool h.0, typed_both og gens oc conds h.1 k)

  apart_both : (xs ys : Conds) → TestsApartAll xs → TestsApartAll ys → TestsApartAll (both xs ys)
  apart_both no_cond ys h k = k
  apart_both (and_cond x xs) ys h k = (h.0, apart_both xs ys h.1 k)

  -- what is known of generators and conditions together
  pub record ScopeFacts (gens : List Gen) (conds : Conds) : Type 0 where
    pub tables : AreTables S gens
    pub differ : Distinct (numbers gens)
    pub typed : CondsHave S gens conds
    pub tests : TestsApartAll conds

  -- what is known of a strand, the types of its base parts apart
  pub record StrandFacts (d : StrandTree) : Type 0 where
    pub around : ScopeFacts d.outer_gens d.outer_conds
    pub inside : ScopeFacts (d.outer_gens ++ d.gens) (both d.outer_conds d.conds)
    pub tables : AreTables S d.gens
    pub differ : Distinct (numbers (d.outer_gens ++ d.gens))
    pub conds_typed : CondsHave S (d.outer_gens ++ d.gens) d.conds
    pub inner_conds : InnerAll (in_gens d.outer_gens) d.conds
    pub inner_leaves : Each (Inner (in_gens d.outer_gens)) (shape_leaves d.shape)
    pub conds_tests : TestsApartAll d.conds
    pub leaves_tests : Each TestsApart (shape_leaves d.shape)

  mutual
    facts_comps : (p : ℕ) (og : List Gen) (oc : Conds) (seen : List ℕ) (cs : Comps) (a : TypeTree) → ScopeFacts og oc → Inside (numbers og) seen → Distinct (seen ++ comps_numbers cs) → CompsHave S og cs a → AllComps (λ c. StrandFacts (shaped c)) p og oc cs
    facts_comps p og oc seen no_comp a s i d h = tt
    facts_comps p og oc seen (comp t gens conds b cs) a s i d h =
        let G = numbers gens in
        let C = conds_numbers conds in
        let B = body_numbers b in
        let R = comps_numbers cs in
        let more : List ℕ = G ++ (C ++ (B ++ R)) in
        let gens2 = og ++ gens in
        let conds2 = both oc conds in
        let seen2 = seen ++ (G ++ C) in
        let away : Apart seen more = distinct_apart seen more d in
        let news : Each (λ n. in_gens og n ≡ false) more = each_map (λ n. Each (λ v. nat_eq v n ≡ false) seen) (λ n. in_gens og n ≡ false) (λ n e. fresh og seen i n e) more (turned seen more away) in
        let news_conds : Each (λ n. in_gens og n ≡ false) C = each_sub (λ n. in_gens og n ≡ false) (sub_before G (sub_left C (B ++ R))) news in
        let news_body : Each (λ n. in_gens og n ≡ false) B = each_sub (λ n. in_gens og n ≡ false) (sub_before G (sub_before C (sub_left B R))) news in
        let away_gens : Apart seen G = each_map (λ v. Each (λ n. nat_eq v n ≡ false) more) (λ v. Each (λ n. nat_eq v n ≡ false) G) (λ v e. each_sub (λ n. nat_eq v n ≡ false) (sub_left G (C ++ (B ++ R))) e) seen away in
        let own_distinct : Distinct G = distinct_sub (sub_before seen (sub_left G (C ++ (B ++ R)))) d in
        let og_away : Apart (numbers og) G = from_inside (numbers og) seen G i away_gens in
        let differ : Distinct (numbers gens2) = subst Distinct (sym (numbers_append og gens)) (distinct_join (numbers og) G s.differ own_distinct og_away) in
        let inside2 : Inside (numbers gens2) seen2 = subst (λ (z : List ℕ). Inside z seen2) (sym (numbers_append og gens)) (inside_append (numbers og) G seen2 (λ n m. among_left (G ++ C) (i n m)) (λ n m. among_right seen (among_left C m))) in
        let conds_tests = distinct_tests_all conds (distinct_sub (sub_before seen (sub_before G (sub_left C (B ++ R)))) d) in
        let inner : ScopeFacts gens2 conds2 = record {
          tables = each_join (λ g. IsSome (shape_named g.table S)) og gens s.tables h.0;
          differ = differ;
          typed = typed_both og gens oc conds s.typed h.1;
          tests = apart_both oc conds s.tests conds_tests;
        } in
        let d2 : Distinct (seen2 ++ B) = distinct_sub (subst (λ (z : List ℕ). Sub z (seen ++ more)) (sym (append_assoc seen (G ++ C) B)) (sub_append (sub_refl seen) (subst (λ (z : List ℕ). Sub z more) (sym (append_assoc G C B)) (sub_append (sub_refl G) (sub_append (sub_refl C) (sub_left B R)))))) d in
        let d3 : Distinct (seen ++ R) = distinct_sub (sub_append (sub_refl seen) (sub_before G (sub_before C (sub_right B R)))) d in (
          record {
            around = s;
            inside = inner;
            tables = h.0;
            differ = differ;
            conds_typed = h.1;
            inner_conds = inner_all_from (in_gens og) conds news_conds;
            inner_leaves = each_map (λ x. Each (λ n. in_gens og n ≡ false) (base_numbers x)) (Inner (in_gens og)) (λ x e. inner_from (in_gens og) x e) (leaves_of b) (leaf_numbers (λ n. in_gens og n ≡ false) b news_body);
            conds_tests = conds_tests;
            leaves_tests = leaf_tests b (distinct_sub (sub_before seen (sub_before G (sub_before C (sub_left B R)))) d);
          },
          facts_body t gens2 conds2 seen2 b a inner inside2 d2 h.2,
          facts_comps p og oc seen cs a s i d3 h.3,
        )

    facts_body : (p : ℕ) (og : List Gen) (oc : Conds) (seen : List ℕ) (b : BodyTree) (a : TypeTree) → ScopeFacts og oc → Inside (numbers og) seen → Distinct (seen ++ body_numbers b) → BodyHas S og b a → AllBody (λ c. StrandFacts (shaped c)) p og oc b
    facts_body p og oc seen (plain_body b) a s i d h = tt
    facts_body p og oc seen (rec_body fs) int s i d h = absurd h
    facts_body p og oc seen (rec_body fs) bool s i d h = absurd h
    facts_body p og oc seen (rec_body fs) text s i d h = absurd h
    facts_body p og oc seen (rec_body fs) (rec gs) s i d h = facts_fields p og oc seen fs gs s i d h
    facts_body p og oc seen (rec_body fs) (bag a) s i d h = absurd h
    facts_body p og oc seen (rec_body fs) (fun a b) s i d h = absurd h
    facts_body p og oc seen (bag_body e cs) int s i d h = absurd h
    facts_body p og oc seen (bag_body e cs) bool s i d h = absurd h
    facts_body p og oc seen (bag_body e cs) text s i d h = absurd h
    facts_body p og oc seen (bag_body e cs) (rec gs) s i d h = absurd h
    facts_body p og oc seen (bag_body e cs) (bag a) s i d h = facts_comps p og oc seen cs a s i d h.1
    facts_body p og oc seen (bag_body e cs) (fun a b) s i d h = absurd h

    facts_fields : (p : ℕ) (og : List Gen) (oc : Conds) (seen : List ℕ) (fs : Bodies) (gs : FieldTypes) → ScopeFacts og oc → Inside (numbers og) seen → Distinct (seen ++ bodies_numbers fs) → BodiesHave S og fs gs → AllFields (λ c. StrandFacts (shaped c)) p og oc fs
    facts_fields p og oc seen no_body gs s i d h = tt
    facts_fields p og oc seen (with_body l b fs) none s i d h = absurd h
    facts_fields p og oc seen (with_body l b fs) (field k a gs) s i d h = (
      facts_body p og oc seen b a s i (distinct_sub (sub_append (sub_refl seen) (sub_left (body_numbers b) (bodies_numbers fs))) d) h.1,
      facts_fields p og oc seen fs gs s i (distinct_sub (sub_append (sub_refl seen) (sub_right (body_numbers b) (bodies_numbers fs))) d) h.2,
    )

  pub form_facts : (cs : Comps) (a : TypeTree) → Distinct (comps_numbers cs) → CompsHave S [] cs a → AllComps (λ c. StrandFacts (shaped c)) 0 [] no_cond cs
  form_facts cs a d h = facts_comps 0 [] no_cond [] cs a (record { tables = tt; differ = tt; typed = tt; tests = tt }) (λ n m. m) d h

-- the numbers of a scope fit
pub record FitScope (gens : List Gen) (conds : Conds) : Type 0 where
  pub gens_fit : Each IsNumber (numbers gens)
  pub conds_fit : Each IsNumber (conds_numbers conds)

-- the tags and numbers of a strand fit
pub record FitStrand (d : StrandTree) : Type 0 where
  pub around : FitScope d.outer_gens d.outer_conds
  pub inside : FitScope (d.outer_gens ++ d.gens) (both d.outer_conds d.conds)
  pub parent : d.parent < 2 ^ 63
  pub tag : d.tag < 2 ^ 63
  pub own_gens : Each IsNumber (numbers d.gens)
  pub own_conds : Each IsNumber (conds_numbers d.conds)
  pub leaves : Each (λ b. Each IsNumber (base_numbers b)) (shape_leaves d.shape)

fit_both : (xs ys : Conds) → Each IsNumber (conds_numbers xs) → Each IsNumber (conds_numbers ys) → Each IsNumber (conds_numbers (both xs ys))
fit_both no_cond ys h k = k
fit_both (and_cond x xs) ys h k = each_join IsNumber (base_numbers x) (conds_numbers (both xs ys)) (each_left IsNumber (base_numbers x) (conds_numbers xs) h) (fit_both xs ys (each_right IsNumber (base_numbers x) (conds_numbers xs) h) k)

mutual
  fit_comps : (p : ℕ) (og : List Gen) (oc : Conds) (cs : Comps) → p < 2 ^ 63 → FitScope og oc → Each IsNumber (comps_tags cs) → Each IsNumber (comps_numbers cs) → AllComps (λ c. FitStrand (shaped c)) p og oc cs
  fit_comps p og oc no_comp b s t n = tt
  fit_comps p og oc (comp u gens conds body cs) b s t n =
      let G = numbers gens in
      let C = conds_numbers conds in
      let B = body_numbers body in
      let R = comps_numbers cs in
      let own_gens = each_left IsNumber G (C ++ (B ++ R)) n in
      let n1 = each_right IsNumber G (C ++ (B ++ R)) n in
      let own_conds = each_left IsNumber C (B ++ R) n1 in
      let n2 = each_right IsNumber C (B ++ R) n1 in
      let inner : FitScope (og ++ gens) (both oc conds) = record { gens_fit = subst (Each IsNumber) (sym (numbers_append og gens)) (each_join IsNumber (numbers og) G s.gens_fit own_gens); conds_fit = fit_both oc conds s.conds_fit own_conds } in (
        record { around = s; inside = inner; parent = b; tag = t.0.1; own_gens = own_gens; own_conds = own_conds; leaves = leaf_numbers IsNumber body (each_left IsNumber B R n2) },
        fit_body u (og ++ gens) (both oc conds) body t.0.1 inner (each_left IsNumber (body_tags body) (comps_tags cs) t.1) (each_left IsNumber B R n2),
        fit_comps p og oc cs b s (each_right IsNumber (body_tags body) (comps_tags cs) t.1) (each_right IsNumber B R n2),
      )

  fit_body : (p : ℕ) (og : List Gen) (oc : Conds) (body : BodyTree) → p < 2 ^ 63 → FitScope og oc → Each IsNumber (body_tags body) → Each IsNumber (body_numbers body) → AllBody (λ c. FitStrand (shaped c)) p og oc body
  fit_body p og oc (plain_body x) b s t n = tt
  fit_body p og oc (rec_body fs) b s t n = fit_fields p og oc fs b s t n
  fit_body p og oc (bag_body e cs) b s t n = fit_comps p og oc cs b s t n

  fit_fields : (p : ℕ) (og : List Gen) (oc : Conds) (fs : Bodies) → p < 2 ^ 63 → FitScope og oc → Each IsNumber (bodies_tags fs) → Each IsNumber (bodies_numbers fs) → AllFields (λ c. FitStrand (shaped c)) p og oc fs
  fit_fields p og oc no_body b s t n = tt
  fit_fields p og oc (with_body l x fs) b s t n =
      (fit_body p og oc x b s (each_left IsNumber (body_tags x) (bodies_tags fs) t) (each_left IsNumber (body_numbers x) (bodies_numbers fs) n), fit_fields p og oc fs b s (each_right IsNumber (body_tags x) (bodies_tags fs) t) (each_right IsNumber (body_numbers x) (bodies_numbers fs) n))

pub form_fits : (cs : Comps) → Each IsNumber (comps_tags cs) → Each IsNumber (comps_numbers cs) → AllComps (λ c. FitStrand (shaped c)) 0 [] no_cond cs
form_fits cs t n = fit_comps 0 [] no_cond cs (omega arith) (record { gens_fit = tt; conds_fit = tt }) t n

-- A shape has the element type in a scope.
abbrev mutual
  pub ShapeHas : List TableShape → List Gen → ShapeTree → TypeTree → Type 0
  ShapeHas S sc (plain_shape b) int = BaseHas S sc b column_type.Int
  ShapeHas S sc (plain_shape b) bool = BaseHas S sc b column_type.Bool
  ShapeHas S sc (plain_shape b) text = BaseHas S sc b column_type.Text
  ShapeHas S sc (plain_shape b) (rec gs) = ⊥
  ShapeHas S sc (plain_shape b) (bag a) = ⊥
  ShapeHas S sc (plain_shape b) (fun a c) = ⊥
  ShapeHas S sc (rec_shape fs) int = ⊥
  ShapeHas S sc (rec_shape fs) bool = ⊥
  ShapeHas S sc (rec_shape fs) text = ⊥
  ShapeHas S sc (rec_shape fs) (rec gs) = ShapesHave S sc fs gs
  ShapeHas S sc (rec_shape fs) (bag a) = ⊥
  ShapeHas S sc (rec_shape fs) (fun a c) = ⊥
  ShapeHas S sc index_shape int = ⊥
  ShapeHas S sc index_shape bool = ⊥
  ShapeHas S sc index_shape text = ⊥
  ShapeHas S sc index_shape (rec gs) = ⊥
  ShapeHas S sc index_shape (bag a) = Unit {0}
  ShapeHas S sc index_shape (fun a c) = ⊥

  pub ShapesHave : List TableShape → List Gen → Shapes → FieldTypes → Type 0
  ShapesHave S sc no_shape none = Unit {0}
  ShapesHave S sc no_shape (field k a gs) = ⊥
  ShapesHave S sc (with_shape l s fs) none = ⊥
  ShapesHave S sc (with_shape l s fs) (field k a gs) = (l ≡ k) × ShapeHas S sc s a × ShapesHave S sc fs gs

mutual
  pub shape_typed : (S : List TableShape) (sc : List Gen) (b : BodyTree) (a : TypeTree) → BodyHas S sc b a → ShapeHas S sc (shape_of b) a
  shape_typed S sc (plain_body b) int h = h
  shape_typed S sc (plain_body b) bool h = h
  shape_typed S sc (plain_body b) text h = h
  shape_typed S sc (plain_body b) (rec gs) h = absurd h
  shape_typed S sc (plain_body b) (bag a) h = absurd h
  shape_typed S sc (plain_body b) (fun a c) h = absurd h
  shape_typed S sc (rec_body fs) int h = absurd h
  shape_typed S sc (rec_body fs) bool h = absurd h
  shape_typed S sc (rec_body fs) text h = absurd h
  shape_typed S sc (rec_body fs) (rec gs) h = shapes_typed S sc fs gs h
  shape_typed S sc (rec_body fs) (bag a) h = absurd h
  shape_typed S sc (rec_body fs) (fun a c) h = absurd h
  shape_typed S sc (bag_body e cs) int h = absurd h
  shape_typed S sc (bag_body e cs) bool h = absurd h
  shape_typed S sc (bag_body e cs) text h = absurd h
  shape_typed S sc (bag_body e cs) (rec gs) h = absurd h
  shape_typed S sc (bag_body e cs) (bag a) h = tt
  shape_typed S sc (bag_body e cs) (fun a c) h = absurd h

  shapes_typed : (S : List TableShape) (sc : List Gen) (fs : Bodies) (gs : FieldTypes) → BodiesHave S sc fs gs → ShapesHave S sc (shape_of_fields fs) gs
  shapes_typed S sc no_body none h = tt
  shapes_typed S sc no_body (field k a gs) h = absurd h
  shapes_typed S sc (with_body l b fs) none h = absurd h
  shapes_typed S sc (with_body l b fs) (field k a gs) h = (h.0, shape_typed S sc b a h.1, shapes_typed S sc fs gs h.2)
