-- Every label, table and column of a typed form stands in its element type or in the schema.
use Rattle.std.proofs.Common.{◌≡◌, ℕ, List, [], ◌∷◌, ◌++◌, refl, sym, subst, Bool, true, false, cond, nat_eq, Some, IsSome, map, bytes_eq, ⊎_elim}
use Rattle.std.specs.List.{AllByRecursion as Each}
use Rattle.std.specs.Ordering.{is_gt}
use Rattle.std.proofs.lemmas.Slice.Eq.{bytes_eq-Decides}
use Rattle.nq_model.specs.NamedRows.{Label}
use Rattle.nq_model.specs.Orders.{label_cmp, by_label}
use Rattle.nq_model.specs.Tables.{Columns, names_of, base_type, table_type}
use Rattle.nq_model.specs.Terms.{TermTree, TermFields}
use Rattle.nq_model.specs.Types.{TypeTree, FieldTypes, bag, bool, field, fun, int, none, rec, text}
use Rattle.nq_model.specs.Typing.{HasType, HaveTypes, shape_named, type_at, put_type}
use Rattle.nq_model.specs.declared.table.ColumnType.{ColumnType}
use Rattle.nq_model.specs.declared.table.ColumnType.TheVariants as column_type
use Rattle.nq_model.specs.declared.table.Schema.{Schema}
use Rattle.nq_model.specs.declared.table.TableShape.{TableShape}
use Rattle.nq_model.proofs.Typing.{cond_both, each_get, either_some, put_type_list, aggregate_base}
use Rattle.nq_ir.specs.declared.base.Gen.{Gen}
use Rattle.nq_ir.specs.Trees.{BaseTree, literal, column, unary, binary, choose, empty, Conds, no_cond, and_cond, Tests, no_test, test, BodyTree, plain_body, rec_body, bag_body, Bodies, no_body, with_body, Comps, no_comp, comp, total}
use Rattle.nq_ir.specs.WellFormed.{AreTables, BaseHas, BodiesHave, BodyHas, CompsHave, CondsHave, TestsHave, column_type_in, columns_or_none, gen_columns, table_columns}
use Rattle.nq_ir.specs.Words.{SchemaWords, TypeWords, FieldsWords, TermWords, TermFieldsWords, GensWords, BaseWords, CondsWords, TestsWords, BodyWords, BodiesWords, CompsWords}
use Rattle.nq_ir.proofs.RawTypes.{column_fields, shape_found}

module _ (Word : Label → Type 0) (S : List TableShape) (words : SchemaWords Word S) where
  column_found : (l : Label) (T : ColumnType) (xs : Columns) → Each Word (names_of xs) → column_type_in l xs ≡ Some T → Word l
  column_found l T [] h e = absurd (cc)
  column_found l T (d ∷ xs) h e = go (bytes_eq l d.0) refl e (λ i. column_found l T xs h.1 i)
    where
      go : (t : Bool) → bytes_eq l d.0 ≡ t → cond t (Some d.1) (column_type_in l xs) ≡ Some T → (column_type_in l xs ≡ Some T → Word l) → Word l
      go true q i f = subst Word (sym ((bytes_eq-Decides l d.0).0 q)) h.0
      go false q i f = f i

  columns_words : (t : Label) → Each Word (names_of (table_columns S t))
  columns_words t = over S words
    where
      over : (shapes : List TableShape) → SchemaWords Word shapes → Each Word (names_of (columns_or_none (shape_named t shapes)))
      over [] h = tt
      over (s ∷ shapes) h = go (bytes_eq t s.name) h.0.1 (over shapes h.1)
        where
          go : (b : Bool) → Each Word (names_of s.columns) → Each Word (names_of (columns_or_none (shape_named t shapes))) → Each Word (names_of (columns_or_none (cond b (Some s) (shape_named t shapes))))
          go true g k = g
          go false g k = k

  table_word : (t : Label) (shapes : List TableShape) → SchemaWords Word shapes → IsSome (shape_named t shapes) → Word t
  table_word t [] h e = absurd (let w : false ≡ true = e in cc)
  table_word t (s ∷ shapes) h e = go (bytes_eq t s.name) refl e (λ i. table_word t shapes h.1 i)
    where
      go : (b : Bool) → bytes_eq t s.name ≡ b → IsSome (cond b (Some s) (shape_named t shapes)) → (IsSome (shape_named t shapes) → Word t) → Word t
      go true q i f = subst Word (sym ((bytes_eq-Decides t s.name).0 q)) h.0.0
      go false q i f = f i

  number_words : (sc : List Gen) (g : ℕ) (l : Label) (T : ColumnType) → column_type_in l (gen_columns S sc g) ≡ Some T → Word l
  number_words [] g l T h = absurd (cc)
  number_words (k ∷ sc) g l T h = go (nat_eq g k.number) h (number_words sc g l T)
    where
      go : (b : Bool) → column_type_in l (cond b (table_columns S k.table) (gen_columns S sc g)) ≡ Some T → (column_type_in l (gen_columns S sc g) ≡ Some T → Word l) → Word l
      go true i f = column_found l T (table_columns S k.table) (columns_words k.table) i
      go false i f = f i

  gens_words : (gens : List Gen) → AreTables S gens → GensWords Word gens
  gens_words [] h = tt
  gens_words (g ∷ gens) h = (table_word g.table S words h.0, gens_words gens h.1)

  mutual
    base_words : (b : BaseTree) (sc : List Gen) (T : ColumnType) → BaseHas S sc b T → BaseWords Word b
    base_words (literal c) sc T h = tt
    base_words (column g l) sc T h = number_words sc g l T h
    base_words (unary op b) sc T h = base_words b sc h.0 h.1
    base_words (binary op a b) sc T h = (base_words a sc h.0 h.2, base_words b sc h.1 h.3)
    base_words (choose x a b) sc T h = (base_words x sc column_type.Bool h.0, base_words a sc T h.1, base_words b sc T h.2)
    base_words (empty xs) sc T h = tests_words xs sc h.1
    base_words (total g gens conds b) sc T h = (gens_words gens h.1, conds_words conds (gens ++ sc) h.2, base_words b (gens ++ sc) column_type.Int h.3)

    conds_words : (bs : Conds) (sc : List Gen) → CondsHave S sc bs → CondsWords Word bs
    conds_words no_cond sc h = tt
    conds_words (and_cond b bs) sc h = (base_words b sc column_type.Bool h.0, conds_words bs sc h.1)

    tests_words : (xs : Tests) (sc : List Gen) → TestsHave S sc xs → TestsWords Word xs
    tests_words no_test sc h = tt
    tests_words (test gens conds xs) sc h = (gens_words gens h.0, conds_words conds (gens ++ sc) h.1, tests_words xs sc h.2)

  mutual
    body_words : (b : BodyTree) (sc : List Gen) (A : TypeTree) → BodyHas S sc b A → TypeWords Word A → BodyWords Word b
    body_words (plain_body b) sc int h r = base_words b sc column_type.Int h
    body_words (plain_body b) sc bool h r = base_words b sc column_type.Bool h
    body_words (plain_body b) sc text h r = base_words b sc column_type.Text h
    body_words (plain_body b) sc (rec gs) h r = absurd h
    body_words (plain_body b) sc (bag A) h r = absurd h
    body_words (plain_body b) sc (fun A B) h r = absurd h
    body_words (rec_body fs) sc int h r = absurd h
    body_words (rec_body fs) sc bool h r = absurd h
    body_words (rec_body fs) sc text h r = absurd h
    body_words (rec_body fs) sc (rec gs) h r = bodies_words fs sc gs h r
    body_words (rec_body fs) sc (bag A) h r = absurd h
    body_words (rec_body fs) sc (fun A B) h r = absurd h
    body_words (bag_body e cs) sc int h r = absurd h
    body_words (bag_body e cs) sc bool h r = absurd h
    body_words (bag_body e cs) sc text h r = absurd h
    body_words (bag_body e cs) sc (rec gs) h r = absurd h
    body_words (bag_body e cs) sc (bag A) h r = (subst (TypeWords Word) (sym h.0) r, comps_words cs sc A h.1 r)
    body_words (bag_body e cs) sc (fun A B) h r = absurd h

    bodies_words : (fs : Bodies) (sc : List Gen) (gs : FieldTypes) → BodiesHave S sc fs gs → FieldsWords Word gs → BodiesWords Word fs
    bodies_words no_body sc gs h r = tt
    bodies_words (with_body l b fs) sc none h r = absurd h
    bodies_words (with_body l b fs) sc (field k A gs) h r =
        (subst Word (sym h.0) r.0, body_words b sc A h.1 r.1, bodies_words fs sc gs h.2 r.2)

    pub comps_words : (cs : Comps) (sc : List Gen) (A : TypeTree) → CompsHave S sc cs A → TypeWords Word A → CompsWords Word cs
    comps_words no_comp sc A h r = tt
    comps_words (comp t gens conds b cs) sc A h r =
        (gens_words gens h.0, conds_words conds (sc ++ gens) h.1, body_words b (sc ++ gens) A h.2 r, comps_words cs sc A h.3 r)

module _ (Word : Label → Type 0) where
  words_of : (A B : TypeTree) → A ≡ B → TypeWords Word B → TypeWords Word A
  words_of A B e h = subst (TypeWords Word) (sym e) h

  base_type_words : (T : ColumnType) → TypeWords Word (base_type T)
  base_type_words column_type.Int = tt
  base_type_words column_type.Bool = tt
  base_type_words column_type.Text = tt

  put_words : (l : Label) (A : TypeTree) (fs : FieldTypes) → Word l → TypeWords Word A → FieldsWords Word fs → FieldsWords Word (put_type l A fs)
  put_words l A none w h r = (w, h, tt)
  put_words l A (field k B fs) w h r =
      cond_both (λ x. FieldsWords Word x) (is_gt (label_cmp l k)) (field k B (put_type l A fs)) (field l A (field k B fs)) (r.0, r.1, put_words l A fs w h r.2) (w, h, r)

  table_words : (xs : Columns) → Each Word (names_of xs) → FieldsWords Word (column_fields xs)
  table_words [] h = tt
  table_words (d ∷ xs) h =
      subst (FieldsWords Word) (sym (put_type_list d.0 (base_type d.1) (by_label (map (λ c. (c.0, base_type c.1)) xs)))) (put_words d.0 (base_type d.1) (column_fields xs) h.0 (base_type_words d.1) (table_words xs h.1))

  found_words : (l : Label) (fs : FieldTypes) (A : TypeTree) → FieldsWords Word fs → type_at l fs ≡ Some A → TypeWords Word A
  found_words l none A r e = absurd (cc)
  found_words l (field k B fs) A r e =
      ⊎_elim (λ h. subst (TypeWords Word) h r.1) (λ h. found_words l fs A r.2 h) (either_some (bytes_eq l k) B A (type_at l fs) e)

  module _ (schema : Schema) (words : SchemaWords Word schema.tables) where
    mutual
      -- the labels of a term's type stand in the term or in the schema
      pub type_words : (cx : List TypeTree) (t : TermTree) (A : TypeTree) → Each (TypeWords Word) cx → TermWords Word t → HasType schema cx t A → TypeWords Word A
      type_words cx (TermTree.var k) A r w h = each_get (TypeWords Word) cx k A r h
      type_words cx (TermTree.int n) A r w h = words_of A int h tt
      type_words cx (TermTree.bool b) A r w h = words_of A bool h tt
      type_words cx (TermTree.text t) A r w h = words_of A text h tt
      type_words cx (TermTree.table l) A r w h =
          words_of A (table_type h.0.columns) h.2 (table_words h.0.columns (shape_found (λ s. Word s.name × Each Word (names_of s.columns)) l schema.tables h.0 words h.1).1)
      type_words cx (TermTree.unary op t) A r w h = words_of A (base_type h.1) h.4 (base_type_words h.1)
      type_words cx (TermTree.binary op t u) A r w h = words_of A (base_type h.2) h.6 (base_type_words h.2)
      type_words cx (TermTree.choose x t u) A r w h = type_words cx t A r w.1 h.1
      type_words cx (TermTree.fun a t) A r w h = words_of A (fun a h.0) h.3 (w.0, type_words (a ∷ cx) t h.0 (w.0, r) w.1 h.2)
      type_words cx (TermTree.apply t u) A r w h = (type_words cx t (fun h.0 A) r w.0 h.1).1
      type_words cx (TermTree.rec fs) A r w h = words_of A (rec h.0) h.2 (fields_words cx fs h.0 r w h.1)
      type_words cx (TermTree.field t l) A r w h = found_words l h.0 A (type_words cx t (rec h.0) r w.0 h.1) h.2
      type_words cx (TermTree.aggregate g t) A r w h = let b = aggregate_base g h.0 A h.2 in words_of A (base_type b.0) b.1 (base_type_words b.0)
      type_words cx (TermTree.single t) A r w h = words_of A (bag h.0) h.3 (type_words cx t h.0 r w h.1)
      type_words cx (TermTree.nil a) A r w h = words_of A (bag a) h.1 w
      type_words cx (TermTree.union t u) A r w h = type_words cx t A r w.0 h.2
      type_words cx (TermTree.for t u) A r w h = type_words (h.0 ∷ cx) u A (type_words cx t (bag h.0) r w.0 h.2, r) w.1 h.3
      type_words cx (TermTree.guard x u) A r w h = type_words cx u A r w.1 h.2
      type_words cx (TermTree.bind t u) A r w h = type_words (h.0 ∷ cx) u A (type_words cx t h.0 r w.0 h.1, r) w.1 h.2

      fields_words : (cx : List TypeTree) (fs : TermFields) (gs : FieldTypes) → Each (TypeWords Word) cx → TermFieldsWords Word fs → HaveTypes schema cx fs gs → FieldsWords Word gs
      fields_words cx TermFields.none gs r w h = subst (FieldsWords Word) (sym h) tt
      fields_words cx (TermFields.with_field l t fs) gs r w h =
          subst (FieldsWords Word) (sym h.4) (put_words l h.0 h.1 w.0 (type_words cx t h.0 r w.1 h.2) (fields_words cx fs h.1 r w.2 h.3))
