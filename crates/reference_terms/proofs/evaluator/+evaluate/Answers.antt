use Rattle.std.proofs.Common.{◌∙◌, ◌∷◌, ◌++◌, ap, ap₂, sym, map, flat_map, List, FitsSigned, of_z, to_z, rules}
use Rattle.std.specs.Int.{w64}
use Rattle.std.proofs.lemmas.Int.{to_z-of_z}
use Rattle.std.proofs.lemmas.List.{map-append}
use Rattle.nq_model.specs.Databases.{database}
use Rattle.rows.specs.Tables.{rows_of}
use Rattle.nq_model.specs.Meaning.{meaning, field_meanings, elements_in, is_none, cell_of}
use Rattle.nq_model.specs.Terms.{bare_node, node_tree, term_tree, term_fields_of, fields_view as terms_view}
use Rattle.nq_model.specs.Totals.{count_of, sum_of}
use Rattle.nq_model.specs.Values.{Nested, nested, base, bag_of, rec_of}
use Rattle.nq_model.proofs.Terms.{node_tree_record, node_empty, node_count, node_sum, node_union, node_for}
use Rattle.nq_model.proofs.Trees.{nested_record, nested_bag}
use Rattle.nq_model.specs.declared.table.Cell.TheVariants as cell
use Rattle.reference_terms.specs.Scopes.{values}
use Rattle.reference_terms.proofs.Loops.{loop_ends}
use Rattle.reference_terms.proofs.Trees.{term_node, nested_number, nested_truth, is_empty}
use Rattle.reference_terms.proofs.evaluator.+evaluate.Goals as goal

pub evaluate-returns-in_ok-evaluate_fields-in-Rec :
    goal.evaluate-returns-in_ok-evaluate_fields-in-Rec
evaluate-returns-in_ok-evaluate_fields-in-Rec t c =
    let tables = database c.args.schema.now.tables (rows_of c.args.tables.now) in
    let env = values c.args.scope.now in
    let tree = term_node c.args.term.now ∙ ap node_tree c.in-Rec.is ∙ node_tree_record c.in-Rec.fields in
    nested_record c.in_ok-evaluate_fields-in-Rec.field-0
    ∙ ap rec_of (c.in_ok-evaluate_fields-in-Rec.ensures ∙ ap (λ fs. field_meanings tables env (term_fields_of (terms_view fs))) c.as_slice.ensures)
    ∙ sym (ap (meaning tables env) tree)

pub evaluate-returns-in_ok-evaluate-in-Empty :
    goal.evaluate-returns-in_ok-evaluate-in-Empty
evaluate-returns-in_ok-evaluate-in-Empty t c =
    let tables = database c.args.schema.now.tables (rows_of c.args.tables.now) in
    let env = values c.args.scope.now in
    let tree = term_node c.args.term.now ∙ ap node_tree c.in-Empty.is ∙ ap bare_node (node_empty c.in-Empty.of) in
    nested_truth c.is_empty.result
    ∙ ap (λ b. base (cell.Bool b)) (is_empty c.is_empty.result c.elements_in-elements.result c.is_empty.ensures
    ∙ ap is_none (c.elements_in-elements.ensures ∙ ap elements_in (c.in_ok-evaluate-in-Empty.ensures ∙ ap (λ u. meaning tables env (term_tree u)) c.deref-in-Empty.ensures)))
    ∙ sym (ap (meaning tables env) tree)

pub evaluate-returns-in_ok-evaluate-in-Count :
    goal.evaluate-returns-in_ok-evaluate-in-Count
evaluate-returns-in_ok-evaluate-in-Count t c =
    let tables = database c.args.schema.now.tables (rows_of c.args.tables.now) in
    let env = values c.args.scope.now in
    let tree = term_node c.args.term.now ∙ ap node_tree c.in-Count.is ∙ ap bare_node (node_count c.in-Count.of) in
    let own : FitsSigned w64 c.count.result = search rules in
    nested_number (to_z w64 (of_z w64 c.count.result))
    ∙ ap (λ n. base (cell.Int n)) (to_z-of_z w64 c.count.result own ∙ c.count.ensures
    ∙ ap (λ (vs : List Nested). count_of vs) (c.elements_in-elements-in-Count.ensures ∙ ap elements_in (c.in_ok-evaluate-in-Count.ensures ∙ ap (λ u. meaning tables env (term_tree u)) c.deref-in-Count.ensures)))
    ∙ sym (ap (meaning tables env) tree)

pub evaluate-returns-in_ok-evaluate-in-Sum :
    goal.evaluate-returns-in_ok-evaluate-in-Sum
evaluate-returns-in_ok-evaluate-in-Sum t c =
    let tables = database c.args.schema.now.tables (rows_of c.args.tables.now) in
    let env = values c.args.scope.now in
    let tree = term_node c.args.term.now ∙ ap node_tree c.in-Sum.is ∙ ap bare_node (node_sum c.in-Sum.of) in
    let own : FitsSigned w64 c.sum.result = search rules in
    nested_number (to_z w64 (of_z w64 c.sum.result))
    ∙ ap (λ n. base (cell.Int n)) (to_z-of_z w64 c.sum.result own ∙ c.sum.ensures
    ∙ ap (λ (vs : List Nested). sum_of (map cell_of vs)) (c.elements_in-elements-in-Sum.ensures ∙ ap elements_in (c.in_ok-evaluate-in-Sum.ensures ∙ ap (λ u. meaning tables env (term_tree u)) c.deref-in-Sum.ensures)))
    ∙ sym (ap (meaning tables env) tree)

pub evaluate-returns-in_ok-append-in-Union :
    goal.evaluate-returns-in_ok-append-in-Union
evaluate-returns-in_ok-append-in-Union t c =
    let tables = database c.args.schema.now.tables (rows_of c.args.tables.now) in
    let env = values c.args.scope.now in
    let tree = term_node c.args.term.now ∙ ap node_tree c.in-Union.is ∙ ap bare_node (node_union c.in-Union.left c.in-Union.right) in
    nested_bag c.append.new.all
    ∙ ap (λ vs. bag_of (map nested vs)) c.in_ok-append-in-Union.ensures
    ∙ ap bag_of (map-append nested c.elements_in-elements-in-Union.result c.elements_in-more.result
    ∙ ap₂ (λ (vs ws : List Nested). vs ++ ws)
    (c.elements_in-elements-in-Union.ensures ∙ ap elements_in (c.in_ok-evaluate-in-Union.ensures ∙ ap (λ u. meaning tables env (term_tree u)) c.deref-in-Union.ensures))
    (c.elements_in-more.ensures ∙ ap elements_in (c.in_ok-evaluate-in-Union-2.ensures ∙ ap (λ u. meaning tables env (term_tree u)) c.deref-in-Union-2.ensures)))
    ∙ sym (ap (meaning tables env) tree)

pub evaluate-returns-after-loop-value : goal.evaluate-returns-after-loop-value
evaluate-returns-after-loop-value t c =
    let tables = database c.args.schema.now.tables (rows_of c.args.tables.now) in
    let env = values c.args.scope.now in
    let gives : Nested → List Nested = λ v. elements_in (meaning tables (v ∷ env) (term_tree c.in-For.body.value)) in
    let items = c.as_slice-value-items.result.now in
    let tree = term_node c.args.term.now ∙ ap node_tree c.in-For.is ∙ ap bare_node (node_for c.in-For.source c.in-For.body) in
    nested_bag c.loop-value.all
    ∙ ap bag_of (loop_ends nested gives items (flat_map gives (map nested items)) (map nested c.loop-value.all) c.loop-value.value-index c.loop-value.invariant c.loop-value-test.false
    ∙ ap (λ vs. flat_map gives (map nested vs)) c.as_slice-value-items.ensures
    ∙ ap (flat_map gives) (c.elements_in-source.ensures ∙ ap elements_in (c.in_ok-evaluate-in-For.ensures ∙ ap (λ u. meaning tables env (term_tree u)) c.deref-in-For.ensures)))
    ∙ sym (ap (meaning tables env) tree)
