-- The normal form of a typed plain term is well formed, and means what the term means.
use Rattle.std.proofs.Common.{◌≡◌, ℕ, zero, suc, ◌+◌, ◌<◌, ◌≤◌, ◌^◌, List, [], ◌∷◌, refl, sym, ap, ◌∙◌, subst, true, length, arith, Some, find, Bool, false, cond}
use Rattle.std.specs.List.{AllByRecursion as Each}
use Rattle.std.specs.Str.{bytes_eq}
use Rattle.std.proofs.lemmas.List.Elements.{recursion_from_All}
use Rattle.nq_model.specs.Databases.{FilledTable, filled, database}
use Rattle.nq_model.specs.Meaning.{meaning}
use Rattle.nq_model.specs.Numberings.{count_from}
use Rattle.nq_model.specs.Orders.{AreDistinct}
use Rattle.nq_model.specs.Proper.{IsProperTerm, IsPlainTerm}
use Rattle.nq_model.specs.Cells.{RowFits}
use Rattle.nq_model.specs.SchemaTables.{AreTablesOf}
use Rattle.nq_model.specs.Tables.{IsProperShape, IsProperSchema, names_of, types_of}
use Rattle.nq_model.specs.Terms.{TermTree}
use Rattle.nq_model.specs.Types.{TypeTree}
use Rattle.nq_model.specs.Typing.{HasType, shape_named}
use Rattle.nq_model.specs.Values.{Nested, bag_of, Same}
use Rattle.nq_model.specs.declared.table.Cell.{Cell}
use Rattle.nq_model.specs.declared.table.Schema.{Schema}
use Rattle.nq_model.specs.declared.table.TableShape.{TableShape}
use Rattle.nq_model.proofs.ProperTypes.{ordered_type}
use Rattle.nq_model.proofs.Typing.{well_formed_type}
use Rattle.nq_model.specs.NamedRows.{Label, named}
use Rattle.nq_ir.specs.Meanings.{rows_in, comps_meaning, form_meaning}
use Rattle.nq_ir.specs.RawForms.{RawBody, raw_plain, raw_rec, raw_bag, raw_comps_in, raw_form}
use Rattle.nq_ir.specs.NormalForms.{number_comps, normal_form, tags_in_comps, gens_in_comps}
use Rattle.nq_ir.specs.WellFormed.{IsWellFormed, comps_tags, comps_numbers}
use Rattle.nq_ir.specs.Words.{SchemaWords, TermWords, FormWords}
use Rattle.nq_ir.proofs.Words.{comps_words, type_words}
use Rattle.nq_ir.proofs.Dealt.{tags_in_order, numbers_in_order, counted_differ}
use Rattle.nq_ir.proofs.Numbered.{form_numbered}
use Rattle.nq_ir.proofs.NumberedTypes.{form_typed}
use Rattle.nq_ir.proofs.RawMeanings.{raw_meaning}
use Rattle.nq_ir.proofs.RawTypes.{RawBodyHas, comps_have, raw_has, not_bag, mixed}
use Rattle.nq_ir.proofs.Equal.{bytes_turned}
use Rattle.nq_ir.proofs.TermForms.{AreFilled, raw_means}

counted_length : (a k : ℕ) → length (count_from a k) ≡ k
counted_length a zero = refl
counted_length a (suc k) = ap suc (counted_length (suc a) k)

counted_within : (a k m : ℕ) → 1 ≤ a → a + k ≤ m → Each (λ y. (1 ≤ y) × (y < m)) (count_from a k)
counted_within a zero m h l = tt
counted_within a (suc k) m h l = ((h, omega arith), counted_within (suc a) k m (omega arith) (omega arith))

from_one : (xs : List ℕ) (k m : ℕ) → xs ≡ count_from 1 k → length xs < m → Each (λ y. (1 ≤ y) × (y < m)) xs
from_one xs k m e l =
    let n : length xs ≡ k = ap length e ∙ counted_length 1 k in
    subst (λ (z : List ℕ). Each (λ y. (1 ≤ y) × (y < m)) z) (sym e) (counted_within 1 k m (omega arith) (omega arith))

-- a list that counts from 1 counts as far as it is long
counts_on : (xs : List ℕ) (k : ℕ) → xs ≡ count_from 1 k → xs ≡ count_from 1 (length xs)
counts_on xs k e = e ∙ ap (count_from 1) (sym (ap length e ∙ counted_length 1 k))

-- its tags count from 1, and so do its generator numbers
pub tags_count : (shapes : List TableShape) (a : TypeTree) (m : TermTree) → comps_tags (normal_form shapes a m).comps ≡ count_from 1 (length (comps_tags (normal_form shapes a m).comps))
tags_count shapes a m =
    let cs = raw_comps_in (raw_form shapes m []) in
    counts_on (comps_tags (number_comps 1 1 [] a cs)) (tags_in_comps cs) (tags_in_order cs a)

pub numbers_count : (shapes : List TableShape) (a : TypeTree) (m : TermTree) → comps_numbers (normal_form shapes a m).comps ≡ count_from 1 (length (comps_numbers (normal_form shapes a m).comps))
numbers_count shapes a m =
    let cs = raw_comps_in (raw_form shapes m []) in
    counts_on (comps_numbers (number_comps 1 1 [] a cs)) (gens_in_comps cs) (numbers_in_order cs a)

module _ (schema : Schema) (proper : IsProperSchema schema) where
  proper_shapes : Each IsProperShape schema.tables
  proper_shapes = recursion_from_All IsProperShape schema.tables proper.proper

  -- it is well formed over the schema
  pub normal_well : (a : TypeTree) (m : TermTree) → IsPlainTerm m → IsProperTerm m → HasType schema [] m (TypeTree.bag a) → length (comps_tags (normal_form schema.tables a m).comps) < 2 ^ 63 → length (comps_numbers (normal_form schema.tables a m).comps) < 2 ^ 63 → IsWellFormed schema.tables (normal_form schema.tables a m)
  normal_well a m q p h few_tags few_gens =
      let cs = raw_comps_in (raw_form schema.tables m []) in
      let has = comps_have schema.tables [] (raw_form schema.tables m []) (TypeTree.bag a) a refl (raw_has schema proper_shapes m [] (TypeTree.bag a) p q h [] [] tt) in
      record {
        element_plain = well_formed_type schema [] m (TypeTree.bag a) tt h;
        labels_rise = ordered_type schema proper [] m (TypeTree.bag a) tt p h;
        typed = form_typed schema.tables cs a has;
        tags_differ = subst (λ (z : List ℕ). AreDistinct z) (sym (tags_in_order cs a)) (counted_differ 1 (tags_in_comps cs));
        tags_fit = from_one (comps_tags (number_comps 1 1 [] a cs)) (tags_in_comps cs) (2 ^ 63) (tags_in_order cs a) few_tags;
        numbers_differ = subst (λ (z : List ℕ). AreDistinct z) (sym (numbers_in_order cs a)) (counted_differ 1 (gens_in_comps cs));
        numbers_fit = from_one (comps_numbers (number_comps 1 1 [] a cs)) (gens_in_comps cs) (2 ^ 63) (numbers_in_order cs a) few_gens;
      }

  -- it means what the term means, over tables that are there
  pub normal_means : (tables : List FilledTable) → AreFilled schema.tables tables → (a : TypeTree) (m : TermTree) → IsPlainTerm m → IsProperTerm m → HasType schema [] m (TypeTree.bag a) → Same (meaning tables [] m) (form_meaning (rows_in tables) (normal_form schema.tables a m))
  normal_means tables there a m q p h =
      go (raw_form schema.tables m []) (raw_has schema proper_shapes m [] (TypeTree.bag a) p q h [] [] tt) (raw_means schema proper_shapes tables there m [] (TypeTree.bag a) p q h [] [] [] [] tt tt)
    where
      go : (b : RawBody) → RawBodyHas schema.tables [] b (TypeTree.bag a) → Same (meaning tables [] m) (raw_meaning (rows_in tables) b []) → Same (meaning tables [] m) (bag_of (comps_meaning (rows_in tables) (number_comps 1 1 [] a (raw_comps_in b)) []))
      go (raw_plain b) k s = absurd (not_bag (TypeTree.bag a) k.0 a k.2 refl)
      go (raw_rec fs) k s = absurd (mixed k.0 (TypeTree.bag a) a k.2 refl)
      go (raw_bag cs) k s = subst (λ (l : List Nested). Same (meaning tables [] m) (bag_of l)) (form_numbered (rows_in tables) cs a) s

-- what holds of every label, table and column of the term and the schema holds of those of the form
pub normal_words : (Word : Label → Type 0) (schema : Schema) → IsProperSchema schema → SchemaWords Word schema.tables → (a : TypeTree) (m : TermTree) → IsPlainTerm m → IsProperTerm m → HasType schema [] m (TypeTree.bag a) → TermWords Word m → FormWords Word (normal_form schema.tables a m)
normal_words Word schema proper words a m q p h w =
    let cs = raw_comps_in (raw_form schema.tables m []) in
    let element = type_words Word schema words [] m (TypeTree.bag a) tt w h in
    (element, comps_words Word schema.tables words (number_comps 1 1 [] a cs) [] a (form_typed schema.tables cs a (comps_have schema.tables [] (raw_form schema.tables m []) (TypeTree.bag a) a refl (raw_has schema (recursion_from_All IsProperShape schema.tables proper.proper) m [] (TypeTree.bag a) p q h [] [] tt))) element)

-- tables of the schema are there, each with its rows
pub tables_there : (shapes : List TableShape) (tables : List (List (List Cell))) → AreTablesOf shapes tables → AreFilled shapes (database shapes tables)
tables_there [] tables h t shape e = absurd (cc)
tables_there (s ∷ shapes) [] h t shape e = absurd h
tables_there (s ∷ shapes) (own ∷ tables) h t shape e = go (bytes_eq t s.name) (bytes_eq s.name t) (bytes_turned t s.name) e (λ i. tables_there shapes tables h.1 t shape i)
  where
    go : (b d : Bool) → b ≡ d → cond b (Some s) (shape_named t shapes) ≡ Some shape → (shape_named t shapes ≡ Some shape → (rows : List (List Cell)) × (find (λ (x : FilledTable). bytes_eq x.name t) (database shapes tables) ≡ Some (filled shape rows)) × (rows_in (database shapes tables) t ≡ named (names_of shape.columns) rows) × Each (RowFits (types_of shape.columns)) rows) → (rows : List (List Cell)) × (cond d (Some (filled s own)) (find (λ (x : FilledTable). bytes_eq x.name t) (database shapes tables)) ≡ Some (filled shape rows)) × (cond b (named (names_of s.columns) own) (rows_in (database shapes tables) t) ≡ named (names_of shape.columns) rows) × Each (RowFits (types_of shape.columns)) rows
    go true true q i later =
        let same : s ≡ shape = cc in
        (own, ap (λ (z : TableShape). Some (filled z own)) same, ap (λ (z : TableShape). named (names_of z.columns) own) same, subst (λ (z : TableShape). Each (RowFits (types_of z.columns)) own) same (recursion_from_All (RowFits (types_of s.columns)) own h.0.fit))
    go true false q i later = absurd (cc)
    go false true q i later = absurd (cc)
    go false false q i later = later i
