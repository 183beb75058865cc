-- The normal form of a typed plain term, over tables with numbers, has the traced meaning of the
-- term.
use Rattle.std.proofs.Common.{◌≡◌, List, [], refl, ◌∙◌, subst}
use Rattle.std.proofs.lemmas.List.Elements.{recursion_from_All}
use Rattle.nq_ir.proofs.Numbered.{form_numbered}
use Rattle.nq_ir.proofs.RawMeanings.{raw_meaning, raw_comps_meaning}
use Rattle.nq_ir.proofs.RawTypes.{RawBodyHas, raw_has, not_bag, mixed}
use Rattle.nq_ir.specs.Meanings.{Tables}
use Rattle.nq_ir.specs.NormalForms.{number_comps, normal_form}
use Rattle.nq_ir.specs.RawForms.{RawBody, raw_plain, raw_rec, raw_bag, RawComps, raw_comps_in, raw_form}
use Rattle.nq_model.specs.Databases.{database}
use Rattle.nq_model.specs.Proper.{IsPlainTerm, IsProperTerm}
use Rattle.nq_model.specs.SchemaTables.{AreTablesOf}
use Rattle.nq_model.specs.Tables.{IsProperShape, IsProperSchema}
use Rattle.nq_model.specs.Terms.{TermTree}
use Rattle.nq_model.specs.Types.{TypeTree}
use Rattle.nq_model.specs.Typing.{HasType}
use Rattle.nq_model.specs.Values.{Nested, bag_of, Same}
use Rattle.nq_model.specs.declared.table.Cell.{Cell}
use Rattle.nq_model.specs.declared.table.Schema.{Schema}
use Rattle.traced_meaning.proofs.Tables.{no_numbers, traced_rows_in, tables_traced, tables_numbered}
use Rattle.traced_meaning.proofs.Terms.{wrapped_means}
use Rattle.traced_meaning.proofs.TracedForms.{comps_mean}
use Rattle.traced_meaning.proofs.Wrapped.{wrapped, wrapped_comps}
use Rattle.traced_meaning.specs.NumberedTables.{HasNoNumbers}
use Rattle.traced_meaning.specs.TracedForms.{traced_comps, traced_meaning}
use Rattle.traced_meaning.specs.Traces.{trace}

pub form_traced : (schema : Schema) → IsProperSchema schema → HasNoNumbers schema
    → (a : TypeTree) (m : TermTree) → IsPlainTerm m → IsProperTerm m
    → HasType schema [] m (TypeTree.bag a) → (tables : List (List (List Cell)))
    → AreTablesOf schema.tables tables → Same (trace (database schema.tables tables) [] m)
    (traced_meaning (traced_rows_in schema.tables tables) (normal_form schema.tables a m))
form_traced schema proper free a m q p h tables held =
    let shapes = recursion_from_All IsProperShape schema.tables proper.proper in
    let none = no_numbers schema free in
    let ts : Tables = traced_rows_in schema.tables tables in
    let all = tables_numbered schema.tables tables none held in
    let whole = wrapped_means schema shapes none (database schema.tables tables) ts all
    (tables_traced schema.tables tables held) m [] (TypeTree.bag a) p q h [] [] [] [] tt tt in
    go ts (λ cs. form_numbered ts (wrapped_comps [] cs) a
    ∙ comps_mean ts all cs 1 1 1 1 [] a a [] refl tt) (raw_form schema.tables m [])
    (raw_has schema shapes m [] (TypeTree.bag a) p q h [] [] tt) whole
  where
    go : (ts : Tables) → ((cs : RawComps) → raw_comps_meaning ts (wrapped_comps [] cs) []
        ≡ traced_comps ts (number_comps 1 1 [] a cs) []) → (b : RawBody)
        → RawBodyHas schema.tables [] b (TypeTree.bag a)
        → Same (trace (database schema.tables tables) [] m) (raw_meaning ts (wrapped b) [])
        → Same (trace (database schema.tables tables) [] m)
        (bag_of (traced_comps ts (number_comps 1 1 [] a (raw_comps_in b)) []))
    go ts numbered (raw_plain b) k s = absurd (not_bag (TypeTree.bag a) k.0 a k.2 refl)
    go ts numbered (raw_rec fs) k s = absurd (mixed k.0 (TypeTree.bag a) a k.2 refl)
    go ts numbered (raw_bag cs) k s = subst (λ (l : List Nested). Same
        (trace (database schema.tables tables) [] m) (bag_of l)) (numbered cs) s
