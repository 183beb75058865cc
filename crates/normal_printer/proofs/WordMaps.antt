-- What holds of all words of a form, and words that are told by a test.
use Rattle.std.proofs.Common.{◌≡◌, ℕ, suc, ◌≤◌, Bool, true, false, ◌&&◌, nat_le, List, [], ◌∷◌, length, refl, ap₂, arith}
use Rattle.std.specs.List.{AllByRecursion as Each}
use Rattle.std.proofs.lemmas.Bool.Decides.{nat_tests}
use Rattle.nq_model.specs.NamedRows.{Label}
use Rattle.nq_model.specs.Proper.{IsQueryWord, IsProperTerm, AreProperTerms, HasWords, HaveWords}
use Rattle.nq_model.specs.SchemaTokens.{begins_word, is_word_byte}
use Rattle.nq_model.specs.Tables.{names_of}
use Rattle.nq_model.specs.Terms.{TermTree, TermFields}
use Rattle.nq_model.specs.Types.{TypeTree, FieldTypes}
use Rattle.nq_model.specs.declared.table.Schema.{Schema}
use Rattle.nq_model.specs.declared.table.TableShape.{TableShape}
use Rattle.nq_ir.specs.declared.base.Gen.{Gen}
use Rattle.nq_ir.specs.Trees.{BaseTree, Conds, no_cond, and_cond, Tests, no_test, test, BodyTree, plain_body, rec_body, bag_body, Bodies, no_body, with_body, Comps, no_comp, comp, FormTree}
use Rattle.nq_ir.specs.WellFormed.{IsWellFormed}
use Rattle.nq_ir.specs.Words.{SchemaWords, TypeWords, FieldsWords, TermWords, TermFieldsWords, GensWords, BaseWords, CondsWords, TestsWords, BodyWords, BodiesWords, CompsWords, FormWords}
use Rattle.nq_ir.proofs.Numbered.{each_weaker}
use Rattle.normal_printer.specs.Spellable.{IsSpellable}

-- whether all bytes are bytes of words
abbrev are_word_bytes : List ℕ → Bool
are_word_bytes [] = true
are_word_bytes (b ∷ bs) = is_word_byte b && are_word_bytes bs

abbrev is_query_word : Label → Bool
is_query_word [] = false
is_query_word (b ∷ bs) = begins_word b && (are_word_bytes bs && nat_le (suc (length bs)) 64)

both_true : (a b : Bool) → (a && b) ≡ true → (a ≡ true) × (b ≡ true)
both_true true b e = (refl, e)
both_true false b e = absurd (cc)

join_true : (a b : Bool) → a ≡ true → b ≡ true → (a && b) ≡ true
join_true a b e f = ap₂ (λ s t. s && t) e f

told_word : (l : Label) → is_query_word l ≡ true → IsQueryWord l
told_word [] e = absurd (cc)
told_word (b ∷ bs) e =
    let p = both_true (begins_word b) (are_word_bytes bs && nat_le (suc (length bs)) 64) e in
    let q = both_true (are_word_bytes bs) (nat_le (suc (length bs)) 64) p.1 in
    let few = q.1 in
    record { word = (p.0, bytes bs q.0); short = (let h : suc (length bs) ≤ 64 = grind (arith, nat_tests, few) in h) }
  where
    bytes : (bs : List ℕ) → are_word_bytes bs ≡ true → Each (λ c. is_word_byte c ≡ true) bs
    bytes [] e = tt
    bytes (b ∷ bs) e = let p = both_true (is_word_byte b) (are_word_bytes bs) e in (p.0, bytes bs p.1)

word_told : (l : Label) → IsQueryWord l → is_query_word l ≡ true
word_told [] w = absurd w.word
word_told (b ∷ bs) w =
    let short = w.short in
    join_true (begins_word b) (are_word_bytes bs && nat_le (suc (length bs)) 64) w.word.0
    (join_true (are_word_bytes bs) (nat_le (suc (length bs)) 64) (bytes bs w.word.1) (let h : nat_le (suc (length bs)) 64 ≡ true = grind (arith, nat_tests, short) in h))
  where
    bytes : (bs : List ℕ) → Each (λ c. is_word_byte c ≡ true) bs → are_word_bytes bs ≡ true
    bytes [] e = refl
    bytes (b ∷ bs) e = join_true (is_word_byte b) (are_word_bytes bs) e.0 (bytes bs e.1)

module _ (P Q : Label → Type 0) (weaker : (l : Label) → P l → Q l) where
  schema_map : (shapes : List TableShape) → SchemaWords P shapes → SchemaWords Q shapes
  schema_map shapes h = each_weaker (λ (s : TableShape). P s.name × Each P (names_of s.columns)) (λ s. Q s.name × Each Q (names_of s.columns)) (λ s w. (weaker s.name w.0, each_weaker P Q weaker (names_of s.columns) w.1)) shapes h

  mutual
    type_map : (a : TypeTree) → TypeWords P a → TypeWords Q a
    type_map TypeTree.int h = tt
    type_map TypeTree.bool h = tt
    type_map TypeTree.text h = tt
    type_map (TypeTree.rec fs) h = types_map fs h
    type_map (TypeTree.bag a) h = type_map a h
    type_map (TypeTree.fun a b) h = (type_map a h.0, type_map b h.1)

    types_map : (fs : FieldTypes) → FieldsWords P fs → FieldsWords Q fs
    types_map FieldTypes.none h = tt
    types_map (FieldTypes.field l a fs) h = (weaker l h.0, type_map a h.1, types_map fs h.2)

  gens_map : (gens : List Gen) → GensWords P gens → GensWords Q gens
  gens_map gens h = each_weaker (λ (g : Gen). P g.table) (λ g. Q g.table) (λ g w. weaker g.table w) gens h

  mutual
    base_map : (b : BaseTree) → BaseWords P b → BaseWords Q b
    base_map (BaseTree.literal c) h = tt
    base_map (BaseTree.column g l) h = weaker l h
    base_map (BaseTree.unary op b) h = base_map b h
    base_map (BaseTree.binary op a b) h = (base_map a h.0, base_map b h.1)
    base_map (BaseTree.choose x a b) h = (base_map x h.0, base_map a h.1, base_map b h.2)
    base_map (BaseTree.empty xs) h = tests_map xs h
    base_map (BaseTree.total g gens bs b) h = (gens_map gens h.0, conds_map bs h.1, base_map b h.2)

    conds_map : (bs : Conds) → CondsWords P bs → CondsWords Q bs
    conds_map no_cond h = tt
    conds_map (and_cond b bs) h = (base_map b h.0, conds_map bs h.1)

    tests_map : (xs : Tests) → TestsWords P xs → TestsWords Q xs
    tests_map no_test h = tt
    tests_map (test gens bs xs) h = (gens_map gens h.0, conds_map bs h.1, tests_map xs h.2)

  mutual
    body_map : (b : BodyTree) → BodyWords P b → BodyWords Q b
    body_map (plain_body b) h = base_map b h
    body_map (rec_body fs) h = bodies_map fs h
    body_map (bag_body a cs) h = (type_map a h.0, comps_map cs h.1)

    bodies_map : (fs : Bodies) → BodiesWords P fs → BodiesWords Q fs
    bodies_map no_body h = tt
    bodies_map (with_body l b fs) h = (weaker l h.0, body_map b h.1, bodies_map fs h.2)

    comps_map : (cs : Comps) → CompsWords P cs → CompsWords Q cs
    comps_map no_comp h = tt
    comps_map (comp t gens bs b cs) h = (gens_map gens h.0, conds_map bs h.1, body_map b h.2, comps_map cs h.3)

  form_map : (form : FormTree) → FormWords P form → FormWords Q form
  form_map form h = (type_map form.element h.0, comps_map form.comps h.1)

-- the words of a proper term
mutual
  proper_type_words : (a : TypeTree) → HasWords a → TypeWords IsQueryWord a
  proper_type_words TypeTree.int h = tt
  proper_type_words TypeTree.bool h = tt
  proper_type_words TypeTree.text h = tt
  proper_type_words (TypeTree.rec fs) h = proper_types_words fs h
  proper_type_words (TypeTree.bag a) h = proper_type_words a h
  proper_type_words (TypeTree.fun a b) h = (proper_type_words a h.0, proper_type_words b h.1)

  proper_types_words : (fs : FieldTypes) → HaveWords fs → FieldsWords IsQueryWord fs
  proper_types_words FieldTypes.none h = tt
  proper_types_words (FieldTypes.field l a fs) h = (h.0, proper_type_words a h.1, proper_types_words fs h.2)

module _ (Q : Label → Type 0) (holds : (l : Label) → IsQueryWord l → Q l) where
  mutual
    term_words : (t : TermTree) → IsProperTerm t → TermWords Q t
    term_words (TermTree.var k) h = tt
    term_words (TermTree.int n) h = tt
    term_words (TermTree.bool b) h = tt
    term_words (TermTree.text t) h = tt
    term_words (TermTree.table l) h = holds l h
    term_words (TermTree.unary op t) h = term_words t h
    term_words (TermTree.binary op t u) h = (term_words t h.0, term_words u h.1)
    term_words (TermTree.choose x t u) h = (term_words x h.0, term_words t h.1, term_words u h.2)
    term_words (TermTree.fun a t) h = (type_map IsQueryWord Q holds a (proper_type_words a h.0.words), term_words t h.1)
    term_words (TermTree.apply t u) h = (term_words t h.0, term_words u h.1)
    term_words (TermTree.rec fs) h = term_fields_words fs h.1
    term_words (TermTree.field t l) h = (term_words t h.0, holds l h.1)
    term_words (TermTree.aggregate g t) h = term_words t h
    term_words (TermTree.single t) h = term_words t h
    term_words (TermTree.nil a) h = type_map IsQueryWord Q holds a (proper_type_words a h.words)
    term_words (TermTree.union t u) h = (term_words t h.0, term_words u h.1)
    term_words (TermTree.for t u) h = (term_words t h.0, term_words u h.1)
    term_words (TermTree.guard x u) h = (term_words x h.0, term_words u h.1)
    term_words (TermTree.bind t u) h = (term_words t h.0, term_words u h.1)

    term_fields_words : (fs : TermFields) → AreProperTerms fs → TermFieldsWords Q fs
    term_fields_words TermFields.none h = tt
    term_fields_words (TermFields.with_field l t fs) h = (holds l h.0, term_words t h.1, term_fields_words fs h.2)

-- a form can be spelled that has no words but those of a schema and of a proper term
pub spellable : (schema : Schema) (term : TermTree) (form : FormTree) → SchemaWords IsQueryWord schema.tables → IsProperTerm term → IsWellFormed schema.tables form
    → ((holds : Label → Bool) → SchemaWords (λ l. holds l ≡ true) schema.tables → TermWords (λ l. holds l ≡ true) term → FormWords (λ l. holds l ≡ true) form) → IsSpellable form
spellable schema term form words proper well has = record {
  words = form_map (λ l. is_query_word l ≡ true) IsQueryWord told_word form
      (has is_query_word (schema_map IsQueryWord (λ l. is_query_word l ≡ true) word_told schema.tables words) (term_words (λ l. is_query_word l ≡ true) word_told term proper));
  schema = schema;
  well_formed = well;
}
