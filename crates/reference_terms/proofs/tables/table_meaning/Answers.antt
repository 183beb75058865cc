use Rattle.std.proofs.Common.{◌≡◌, ◌∙◌, ap, sym, add-one, drop, false, arith, bytes_eq, map}
use Rattle.nq_model.specs.Databases.{database, table_meaning}
use Rattle.rows.specs.Tables.{rows_of}
use Rattle.nq_model.specs.Values.{nested, bag_of}
use Rattle.nq_model.proofs.Trees.{nested_bag}
use Rattle.reference_terms.proofs.TableRows.{table_later, table_nowhere}
use Rattle.reference_terms.proofs.tables.table_meaning.Goals as goal

pub loop-place-preserved : goal.loop-place-preserved
loop-place-preserved c =
    let shapes = c.as_slice-shapes.result.now in
    let tables = c.args.tables.now in
    let name = c.args.name.now in
    let shape = c.index-shapes-place.result in
    let other : bytes_eq shape.name name ≡ false =
    ap (λ s. bytes_eq s name) (ap (λ s. s.name) c.index-shapes-place.is ∙ sym c.as_str.ensures.value) ∙ sym c.eq.ensures ∙ c.if-eq.false in
    ap (λ i. table_meaning (database (drop i shapes) (rows_of (drop i tables))) name) (add-one c.loop-place.place)
    ∙ table_later shapes tables name c.loop-place.place shape (omega arith) (omega arith) c.index-shapes-place.is other
    ∙ c.loop-place.invariant

pub returns : goal.returns
returns c =
    let shapes = c.as_slice-shapes.result.now in
    let tables = c.args.tables.now in
    let name = c.args.name.now in
    nested_bag c.new.result
    ∙ ap (λ vs. bag_of (map nested vs)) c.new.ensures
    ∙ sym (table_nowhere shapes tables name c.loop-place.place (omega arith))
    ∙ c.loop-place.invariant
    ∙ ap (λ ss. table_meaning (database ss (rows_of tables)) name) c.as_slice-shapes.ensures
