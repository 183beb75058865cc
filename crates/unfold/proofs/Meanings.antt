-- What an accepted query means, by the term to which it unfolds.
use Rattle.std.proofs.Common.{◌≡◌, List, [], refl, sym, subst}
use Rattle.nq_model.specs.Databases.{FilledTable, database}
use Rattle.nq_model.specs.Meaning.{meaning}
use Rattle.nq_model.specs.Proper.{IsProperTerm}
use Rattle.nq_model.specs.QueryMeaning.{Means}
use Rattle.nq_model.specs.SchemaTables.{AreTablesOf}
use Rattle.nq_model.specs.Tables.{IsProperSchema}
use Rattle.nq_model.specs.Terms.{PlacedTerm, bare}
use Rattle.nq_model.specs.Types.{TypeTree}
use Rattle.nq_model.specs.Typing.{IsAccepted}
use Rattle.nq_model.specs.ValueTypes.{IsOfType}
use Rattle.nq_model.specs.Values.{Nested, IsProper}
use Rattle.nq_model.specs.declared.table.Cell.{Cell}
use Rattle.nq_model.specs.declared.table.Schema.{Schema}
use Rattle.nq_model.proofs.ProperTypes.{ordered_type}
use Rattle.nq_model.proofs.ValueTypes.{typed_meaning, proper_value, one_meaning}
use Rattle.unfold.specs.Hereditary.{unfolded}
use Rattle.unfold.proofs.Whole.{is_unfolding}

-- the value that is computed from the unfolded term
means : (schema : Schema) (t : PlacedTerm) (a : TypeTree) → IsAccepted schema (bare t) a → (tables : List FilledTable)
    → Means tables t (meaning tables [] (bare (unfolded t)))
means schema t a h tables =
    let u = is_unfolding schema t a h in record { plain_term = unfolded t; unfolds = u.unfolds; plain = u.plain; is = refl }

pub one_value : (schema : Schema) (t : PlacedTerm) (a : TypeTree) → IsAccepted schema (bare t) a → (tables : List FilledTable)
    → (v : Nested) × Means tables t v × ((w : Nested) → Means tables t w → w ≡ v)
one_value schema t a h tables =
    let v = meaning tables [] (bare (unfolded t)) in
    (v, means schema t a h tables, λ w m. one_meaning tables t w v m (means schema t a h tables))

pub value_typed : (schema : Schema) (t : PlacedTerm) (a : TypeTree) → IsProperSchema schema → IsProperTerm (bare t) → IsAccepted schema (bare t) a
    → (tables : List (List (List Cell))) → AreTablesOf schema.tables tables
    → (v : Nested) → Means (database schema.tables tables) t v → IsOfType a v × IsProper v
value_typed schema t a proper term h tables held v m =
    let u = is_unfolding schema t a h in
    let of_unfolded = typed_meaning schema tables held [] [] tt (bare (unfolded t)) a (u.proper term) u.plain (u.keeps a h.typed) in
    let same = one_meaning (database schema.tables tables) t v (meaning (database schema.tables tables) [] (bare (unfolded t))) m (means schema t a h (database schema.tables tables)) in
    let typed = subst (IsOfType a) (sym same) of_unfolded in
    (typed, proper_value a v (ordered_type schema proper [] (bare t) a tt term h.typed) typed)
