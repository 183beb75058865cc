use Rattle.std.proofs.Common.{rules, ◌≡◌, ◌∷◌, [], ap, ap₂, sym, ◌∙◌, map, length, List, option_map, Some}
use Rattle.std.proofs.lemmas.Result.{IfOk-weaker}
use Rattle.nq_model.specs.NamedRows.{Label}
use Rattle.nq_model.specs.Orders.{by_label}
use Rattle.nq_model.specs.Terms.{TermTree, bare, bare_node, node_tree, term_tree, fields_view as terms_view}
use Rattle.nq_model.specs.declared.term.Term.{Term}
use Rattle.nq_model.proofs.Terms.{placed_term, node_choose, node_guard, node_tree_record, node_union}
use Rattle.nq_ir.specs.RawForms.{RawBase, RawBody, RawComps, and_raw, append_raw, choice, each_comp, no_raw, no_raw_comp, no_raw_test, of_each, plus_all, raw_bag, raw_base_in, raw_binary, raw_comp, raw_comps_in, raw_empty, raw_field_in, raw_form, raw_plain, raw_rec, raw_sum, raw_test, raw_tests_of, raw_unary, up_body, where_raw}
use Rattle.normalise.specs.Raw.{append_tests, fields_of, moved_base, moved_body, raw_comps, raw_tests, where_tests}
use Rattle.normalise.specs.declared.raw.RawComp.{RawComp as CodeComp}
use Rattle.normalise.specs.declared.raw.RawTest.{RawTest as CodeTest}
use Rattle.normalise.specs.Scopes.{bodies}
use Rattle.normalise.specs.BagTests.{bag_tests, choice_of_tests}
use Rattle.normalise.specs.Totals.{counts_of}
use Rattle.normalise.proofs.FieldFacts.{fields_are}
use Rattle.normalise.proofs.Lists.{tests_of_append, tests_of_inside}
use Rattle.normalise.proofs.Scopes.{scope_inner, scope_under}
use Rattle.normalise.proofs.BagTests.{choice_tests, tests_found}
use Rattle.normalise.proofs.TermForms.{form_binary, form_bool, form_choose, form_count, form_empty, form_field, form_for, form_guard, form_nil, form_single, form_sum, form_table, form_text, form_unary, form_union, form_var}
use Rattle.normalise.proofs.Sums.{counts_each}
use Rattle.normalise.proofs.Views.{base_bool}
use Rattle.normalise.proofs.Walks.{loop_step, tests_step}
use Rattle.normalise.proofs.walk.+body.Goals as goal

pub body-returns-in-Var : goal.body-returns-in-Var
body-returns-in-Var t c =
    let S = c.args.schema.now.tables in
    let es = bodies c.args.scope.now in
    IfOk-weaker c.variable.result _ _ (λ b e. e ∙ sym (form_var S es c.args.term.now c.in-Var.k c.in-Var.is)) c.variable.ensures

pub body-returns-in-Bool : goal.body-returns-in-Bool
body-returns-in-Bool t c =
    let S = c.args.schema.now.tables in
    let es = bodies c.args.scope.now in
    IfOk-weaker c.plain-in-Bool.result _ _ (λ b e. e ∙ ap raw_plain (base_bool c.in-Bool.truth) ∙ sym (form_bool S es c.args.term.now c.in-Bool.truth c.in-Bool.is)) c.plain-in-Bool.ensures

pub body-returns-in-Text : goal.body-returns-in-Text
body-returns-in-Text t c =
    let S = c.args.schema.now.tables in
    let es = bodies c.args.scope.now in
    IfOk-weaker c.text.result _ _ (λ b e. e ∙ sym (form_text S es c.args.term.now c.in-Text.of c.in-Text.is)) c.text.ensures

pub body-returns-in-Table : goal.body-returns-in-Table
body-returns-in-Table t c =
    let S = c.args.schema.now.tables in
    let es = bodies c.args.scope.now in
    IfOk-weaker c.table_body.result _ _ (λ b e. e ∙ sym (form_table S es c.args.term.now c.in-Table.name c.in-Table.is)) c.table_body.ensures

pub body-returns-in-Nil : goal.body-returns-in-Nil
body-returns-in-Nil t c =
    let S = c.args.schema.now.tables in
    let es = bodies c.args.scope.now in
    IfOk-weaker c.bag.result _ _ (λ b e. e ∙ ap (λ (l : List CodeComp). raw_bag (raw_comps l)) c.new.ensures ∙ sym (form_nil S es c.args.term.now _ c.in-Nil.is)) c.bag.ensures

pub body-returns-in_ok-fields-in-Rec : goal.body-returns-in_ok-fields-in-Rec
body-returns-in_ok-fields-in-Rec t c =
    let S = c.args.schema.now.tables in
    let es = bodies c.args.scope.now in
    let e = ap bare (placed_term c.args.term.now) ∙ ap node_tree c.in-Rec.is ∙ node_tree_record c.in-Rec.fields in
    let h = rw c.as_slice.ensures at c.in_ok-fields-in-Rec.ensures in
    IfOk-weaker c.with_fields.result _ _ (λ b g. g ∙ ap (λ l. raw_rec (fields_of (by_label l))) h ∙ ap raw_rec (fields_are S es (terms_view c.in-Rec.fields)) ∙ sym (ap (λ z. raw_form S z es) e)) c.with_fields.ensures

pub body-returns-in_ok-of-in-Unary : goal.body-returns-in_ok-of-in-Unary
body-returns-in_ok-of-in-Unary t c =
    let S = c.args.schema.now.tables in
    let es = bodies c.args.scope.now in
    IfOk-weaker c.unary.result _ _
    (λ b e. e
    ∙ ap (λ z. raw_plain (raw_unary c.in-Unary.op z)) (c.in_ok-of-in-Unary.ensures ∙ ap (λ (u : Term). raw_base_in (raw_form S (term_tree u) es)) c.deref.ensures)
    ∙ sym (form_unary S es c.args.term.now c.in-Unary.op c.in-Unary.of c.in-Unary.is))
    c.unary.ensures

pub body-returns-in_ok-right-in-Binary : goal.body-returns-in_ok-right-in-Binary
body-returns-in_ok-right-in-Binary t c =
    let S = c.args.schema.now.tables in
    let es = bodies c.args.scope.now in
    IfOk-weaker c.binary.result _ _
    (λ b e. e
    ∙ ap₂ (λ y z. raw_plain (raw_binary c.in-Binary.op y z)) (c.in_ok-left-in-Binary.ensures ∙ ap (λ (u : Term). raw_base_in (raw_form S (term_tree u) es)) c.deref-in-Binary.ensures) (c.in_ok-right-in-Binary.ensures ∙ ap (λ (u : Term). raw_base_in (raw_form S (term_tree u) es)) c.deref-in-Binary-2.ensures)
    ∙ sym (form_binary S es c.args.term.now c.in-Binary.op c.in-Binary.left c.in-Binary.right c.in-Binary.is))
    c.binary.ensures

pub body-returns-in_ok-no-in-If : goal.body-returns-in_ok-no-in-If
body-returns-in_ok-no-in-If t c =
    let S = c.args.schema.now.tables in
    let es = bodies c.args.scope.now in
    IfOk-weaker c.chosen.result _ _
    (λ b e. e
    ∙ ap (λ x. choice x (moved_body c.in_ok-yes-in-If.yes) (moved_body c.in_ok-no-in-If.no)) (c.in_ok-test-in-If.ensures ∙ ap (λ (u : Term). raw_base_in (raw_form S (term_tree u) es)) c.deref-in-If.ensures)
    ∙ ap₂ (choice (raw_base_in (raw_form S (term_tree c.in-If.test.value) es))) (c.in_ok-yes-in-If.ensures ∙ ap (λ (u : Term). raw_form S (term_tree u) es) c.deref-in-If-2.ensures) (c.in_ok-no-in-If.ensures ∙ ap (λ (u : Term). raw_form S (term_tree u) es) c.deref-in-If-3.ensures)
    ∙ sym (form_choose S es c.args.term.now c.in-If.test c.in-If.yes c.in-If.no c.in-If.is))
    c.chosen.ensures

pub body-returns-in_ok-of-in-Field : goal.body-returns-in_ok-of-in-Field
body-returns-in_ok-of-in-Field t c =
    let S = c.args.schema.now.tables in
    let es = bodies c.args.scope.now in
    IfOk-weaker c.field_in.result _ _
    (λ b e. e
    ∙ ap (raw_field_in c.in-Field.label) (c.in_ok-of-in-Field.ensures ∙ ap (λ (u : Term). raw_form S (term_tree u) es) c.deref-in-Field.ensures)
    ∙ sym (form_field S es c.args.term.now c.in-Field.of c.in-Field.label c.in-Field.is))
    c.field_in.ensures

pub body-returns-in_ok-tests-in-Empty : goal.body-returns-in_ok-tests-in-Empty
body-returns-in_ok-tests-in-Empty t c =
    let S = c.args.schema.now.tables in
    let es = bodies c.args.scope.now in
    IfOk-weaker c.emptiness.result _ _
    (λ b e. e
    ∙ ap (λ z. raw_plain (raw_empty z)) (c.in_ok-tests-in-Empty.ensures ∙ ap (λ (u : Term). raw_tests_of (raw_comps_in (raw_form S (term_tree u) es))) c.deref-in-Empty.ensures)
    ∙ sym (form_empty S es c.args.term.now _ c.in-Empty.is))
    c.emptiness.ensures

pub body-returns-in_ok-tests-in-Count : goal.body-returns-in_ok-tests-in-Count
body-returns-in_ok-tests-in-Count t c =
    let S = c.args.schema.now.tables in
    let es = bodies c.args.scope.now in
    IfOk-weaker c.count.result _ _
    (λ b e. e
    ∙ ap (λ z. raw_plain (plus_all (counts_of z))) (c.in_ok-tests-in-Count.ensures ∙ ap (λ (u : Term). raw_tests_of (raw_comps_in (raw_form S (term_tree u) es))) c.deref-in-Count.ensures)
    ∙ ap (λ (l : List RawBase). raw_plain (plus_all l)) (counts_each (raw_comps_in (raw_form S (term_tree c.in-Count.of.value) es)))
    ∙ sym (form_count S es c.args.term.now _ c.in-Count.is))
    c.count.ensures

pub body-returns-in_ok-comps-in-Sum : goal.body-returns-in_ok-comps-in-Sum
body-returns-in_ok-comps-in-Sum t c =
    let S = c.args.schema.now.tables in
    let es = bodies c.args.scope.now in
    IfOk-weaker c.sum.result _ _
    (λ b e. e
    ∙ ap (λ (z : RawComps). raw_plain (plus_all (of_each raw_sum z))) (c.in_ok-comps-in-Sum.ensures ∙ ap (λ (u : Term). raw_comps_in (raw_form S (term_tree u) es)) c.deref-in-Sum.ensures)
    ∙ sym (form_sum S es c.args.term.now _ c.in-Sum.is))
    c.sum.ensures

pub body-returns-in_ok-body-in-Single : goal.body-returns-in_ok-body-in-Single
body-returns-in_ok-body-in-Single t c =
    let S = c.args.schema.now.tables in
    let es = bodies c.args.scope.now in
    IfOk-weaker c.single.result _ _
    (λ b e. e
    ∙ ap (λ z. raw_bag (raw_comp [] no_raw z no_raw_comp)) (c.in_ok-body-in-Single.ensures ∙ ap (λ (u : Term). raw_form S (term_tree u) es) c.deref-in-Single.ensures)
    ∙ sym (form_single S es c.args.term.now _ c.in-Single.is))
    c.single.ensures

pub body-returns-in_ok-right-in-Union : goal.body-returns-in_ok-right-in-Union
body-returns-in_ok-right-in-Union t c =
    let S = c.args.schema.now.tables in
    let es = bodies c.args.scope.now in
    IfOk-weaker c.union.result _ _
    (λ b e. e
    ∙ ap₂ (λ y z. raw_bag (append_raw y z)) (c.in_ok-left-in-Union.ensures ∙ ap (λ (u : Term). raw_comps_in (raw_form S (term_tree u) es)) c.deref-in-Union.ensures) (c.in_ok-right-in-Union.ensures ∙ ap (λ (u : Term). raw_comps_in (raw_form S (term_tree u) es)) c.deref-in-Union-2.ensures)
    ∙ sym (form_union S es c.args.term.now c.in-Union.left c.in-Union.right c.in-Union.is))
    c.union.ensures

pub body-returns-in_ok-rest-in-Guard : goal.body-returns-in_ok-rest-in-Guard
body-returns-in_ok-rest-in-Guard t c =
    let S = c.args.schema.now.tables in
    let es = bodies c.args.scope.now in
    IfOk-weaker c.guard.result _ _
    (λ b e. e
    ∙ ap₂ (λ y z. raw_bag (where_raw y z)) (c.in_ok-test-in-Guard.ensures ∙ ap (λ (u : Term). raw_base_in (raw_form S (term_tree u) es)) c.deref-in-Guard.ensures) (c.in_ok-rest-in-Guard.ensures ∙ ap (λ (u : Term). raw_comps_in (raw_form S (term_tree u) es)) c.deref-in-Guard-2.ensures)
    ∙ sym (form_guard S es c.args.term.now c.in-Guard.test c.in-Guard.rest c.in-Guard.is))
    c.guard.ensures

pub body-returns-in_ok-for_comps-in-For : goal.body-returns-in_ok-for_comps-in-For
body-returns-in_ok-for_comps-in-For t c =
    let S = c.args.schema.now.tables in
    let es = bodies c.args.scope.now in
    IfOk-weaker c.bag-in-For.result _ _
    (λ b e. e
    ∙ ap raw_bag (c.in_ok-for_comps-in-For.ensures
    ∙ ap₂ (λ (y : RawComps) (u : Term). each_comp y (λ gs e. raw_comps_in (raw_form S (term_tree u) (e ∷ map (up_body (length gs) 0) es)))) (c.in_ok-source-in-For.ensures ∙ ap (λ (u : Term). raw_comps_in (raw_form S (term_tree u) es)) c.deref-in-For.ensures) c.deref-in-For-2.ensures)
    ∙ sym (form_for S es c.args.term.now c.in-For.source c.in-For.rest c.in-For.is))
    c.bag-in-For.ensures

pub for_comps-loop-comp-preserved : goal.for_comps-loop-comp-preserved
for_comps-loop-comp-preserved t c =
    let S = c.args.schema.now.tables in
    let es = bodies c.args.scope.now in
    let rest : List Label → RawBody → RawComps = λ gs e. raw_comps_in (raw_form S (term_tree c.args.rest.now) (e ∷ map (up_body (length gs) 0) es)) in
    let x = c.in-Some.comp in
    let many : c.len.result ≡ length x.tables = search rules in
    let made = c.in_ok-parts.ensures ∙ ap (λ (s : List RawBody). raw_comps_in (raw_form S (term_tree c.args.rest.now) s)) (scope_inner _ _ ∙ ap (λ (z : List RawBody). moved_body x.body ∷ z) (scope_under _ _ ∙ ap (λ k. map (up_body k 0) es) many)) in
    loop_step rest c.loop-comp.yielded x c.test_in.result c.loop-comp.all c.put_inside.new.all c.in_ok-parts.parts c.test_in.ensures c.loop-comp.invariant c.in_ok-put_inside.ensures made

pub for_tests-loop-comp-preserved : goal.for_tests-loop-comp-preserved
for_tests-loop-comp-preserved t c =
    let S = c.args.schema.now.tables in
    let es = bodies c.args.scope.now in
    let rest : List Label → RawBody → RawComps = λ gs e. raw_comps_in (raw_form S (term_tree c.args.rest.now) (e ∷ map (up_body (length gs) 0) es)) in
    let x = c.in-Some.comp in
    let many : c.len.result ≡ length x.tables = search rules in
    let made = c.in_ok-parts.ensures ∙ ap (λ (s : List RawBody). raw_tests_of (raw_comps_in (raw_form S (term_tree c.args.rest.now) s))) (scope_inner _ _ ∙ ap (λ (z : List RawBody). moved_body x.body ∷ z) (scope_under _ _ ∙ ap (λ k. map (up_body k 0) es) many)) in
    tests_step rest c.loop-comp.yielded x c.test_in.result c.loop-comp.all c.put_tests_inside.new.all c.in_ok-parts.parts c.test_in.ensures c.loop-comp.invariant c.in_ok-put_tests_inside.ensures made

pub tests-returns-in-Some : goal.tests-returns-in-Some
tests-returns-in-Some t c =
    tests_found (raw_form c.args.schema.now.tables (term_tree c.args.term.now) (bodies c.args.scope.now)) (raw_tests c.in-Some.tests) (rw c.in-Some.is at c.in_ok-tests.ensures)

pub bag_tests-returns-in_ok-test_of_table-in-Table : goal.bag_tests-returns-in_ok-test_of_table-in-Table
bag_tests-returns-in_ok-test_of_table-in-Table t c =
    let S = c.args.schema.now.tables in
    let es = bodies c.args.scope.now in
    ap Some c.in_ok-test_of_table-in-Table.ensures ∙ sym (ap bag_tests (form_table S es c.args.term.now c.in-Table.name c.in-Table.is))

pub bag_tests-returns-in_ok-one_test-in-Single : goal.bag_tests-returns-in_ok-one_test-in-Single
bag_tests-returns-in_ok-one_test-in-Single t c =
    let S = c.args.schema.now.tables in
    let es = bodies c.args.scope.now in
    ap Some (c.in_ok-one_test-in-Single.ensures ∙ ap (λ (l : List Label). raw_test l no_raw no_raw_test) c.new.ensures)
    ∙ sym (ap bag_tests (form_single S es c.args.term.now _ c.in-Single.is))

pub bag_tests-returns-in-Nil : goal.bag_tests-returns-in-Nil
bag_tests-returns-in-Nil t c =
    let S = c.args.schema.now.tables in
    let es = bodies c.args.scope.now in
    ap (λ (l : List CodeTest). Some (raw_tests l)) c.new-in-Nil.ensures ∙ sym (ap bag_tests (form_nil S es c.args.term.now _ c.in-Nil.is))

pub bag_tests-returns-in_ok-for_tests-in-For : goal.bag_tests-returns-in_ok-for_tests-in-For
bag_tests-returns-in_ok-for_tests-in-For t c =
    let S = c.args.schema.now.tables in
    let es = bodies c.args.scope.now in
    let source = c.in_ok-source-in-For.ensures ∙ ap (λ (u : Term). raw_comps_in (raw_form S (term_tree u) es)) c.deref-in-For.ensures in
    ap Some (c.in_ok-for_tests-in-For.ensures
    ∙ ap₂ (λ (y : RawComps) (u : Term). raw_tests_of (each_comp y (λ gs e. raw_comps_in (raw_form S (term_tree u) (e ∷ map (up_body (length gs) 0) es))))) source c.deref-in-For-2.ensures)
    ∙ sym (ap bag_tests (form_for S es c.args.term.now c.in-For.source c.in-For.rest c.in-For.is))

pub bag_tests-returns-in_ok-body-in-Var : goal.bag_tests-returns-in_ok-body-in-Var
bag_tests-returns-in_ok-body-in-Var t c =
    IfOk-weaker c.opened_tests.result _ _ (λ found e. e ∙ ap bag_tests c.in_ok-body-in-Var.ensures) c.opened_tests.ensures

pub bag_tests-returns-in_ok-append_tests-in-Union : goal.bag_tests-returns-in_ok-append_tests-in-Union
bag_tests-returns-in_ok-append_tests-in-Union t c =
    let S = c.args.schema.now.tables in
    let es = bodies c.args.scope.now in
    let one = c.in-Union.left in
    let two = c.in-Union.right in
    let left : raw_tests c.in_ok-left-in-Union.left ≡ raw_tests_of (raw_comps_in (raw_form S (term_tree one.value) es)) = c.in_ok-left-in-Union.ensures ∙ ap (λ (u : Term). raw_tests_of (raw_comps_in (raw_form S (term_tree u) es))) c.deref.ensures in
    let right : raw_tests c.in_ok-right-in-Union.right ≡ raw_tests_of (raw_comps_in (raw_form S (term_tree two.value) es)) = c.in_ok-right-in-Union.ensures ∙ ap (λ (u : Term). raw_tests_of (raw_comps_in (raw_form S (term_tree u) es))) c.deref-in-Union.ensures in
    let tree : term_tree c.args.term.now ≡ TermTree.union (term_tree one.value) (term_tree two.value) = ap bare (placed_term c.args.term.now) ∙ ap node_tree c.in-Union.is ∙ ap bare_node (node_union one two) in
    ap Some
    (c.in_ok-append_tests-in-Union.ensures
    ∙ ap₂ append_tests left right
    ∙ sym (tests_of_append (raw_comps_in (raw_form S (term_tree one.value) es)) (raw_comps_in (raw_form S (term_tree two.value) es))))
    ∙ sym (ap (λ z. bag_tests (raw_form S z es)) tree)

pub bag_tests-returns-in_ok-guarded_tests-in-Guard : goal.bag_tests-returns-in_ok-guarded_tests-in-Guard
bag_tests-returns-in_ok-guarded_tests-in-Guard t c =
    let S = c.args.schema.now.tables in
    let es = bodies c.args.scope.now in
    let one = c.in-Guard.test in
    let two = c.in-Guard.rest in
    let cond : moved_base c.in_ok-test-in-Guard.test ≡ raw_base_in (raw_form S (term_tree one.value) es) = c.in_ok-test-in-Guard.ensures ∙ ap (λ (u : Term). raw_base_in (raw_form S (term_tree u) es)) c.deref-in-Guard.ensures in
    let rest : raw_tests c.in_ok-rest-in-Guard.rest ≡ raw_tests_of (raw_comps_in (raw_form S (term_tree two.value) es)) = c.in_ok-rest-in-Guard.ensures ∙ ap (λ (u : Term). raw_tests_of (raw_comps_in (raw_form S (term_tree u) es))) c.deref-in-Guard-2.ensures in
    let tree : term_tree c.args.term.now ≡ TermTree.guard (term_tree one.value) (term_tree two.value) = ap bare (placed_term c.args.term.now) ∙ ap node_tree c.in-Guard.is ∙ ap bare_node (node_guard one two) in
    ap Some
    (c.in_ok-guarded_tests-in-Guard.ensures
    ∙ ap₂ where_tests cond rest
    ∙ sym (tests_of_inside [] (and_raw (raw_base_in (raw_form S (term_tree one.value) es)) no_raw) (raw_comps_in (raw_form S (term_tree two.value) es))))
    ∙ sym (ap (λ z. bag_tests (raw_form S z es)) tree)

pub bag_tests-returns-in_ok-no-in-If : goal.bag_tests-returns-in_ok-no-in-If
bag_tests-returns-in_ok-no-in-If t c =
    let S = c.args.schema.now.tables in
    let es = bodies c.args.scope.now in
    let one = c.in-If.test in
    let two = c.in-If.yes in
    let three = c.in-If.no in
    let cond : moved_base c.in_ok-test-in-If.test ≡ raw_base_in (raw_form S (term_tree one.value) es) = c.in_ok-test-in-If.ensures ∙ ap (λ (u : Term). raw_base_in (raw_form S (term_tree u) es)) c.deref-in-If.ensures in
    let yes : option_map raw_tests c.in_ok-yes-in-If.yes ≡ bag_tests (raw_form S (term_tree two.value) es) = c.in_ok-yes-in-If.ensures ∙ ap (λ (u : Term). bag_tests (raw_form S (term_tree u) es)) c.deref-in-If-2.ensures in
    let no : option_map raw_tests c.in_ok-no-in-If.no ≡ bag_tests (raw_form S (term_tree three.value) es) = c.in_ok-no-in-If.ensures ∙ ap (λ (u : Term). bag_tests (raw_form S (term_tree u) es)) c.deref-in-If-3.ensures in
    let tree : term_tree c.args.term.now ≡ TermTree.choose (term_tree one.value) (term_tree two.value) (term_tree three.value) = ap bare (placed_term c.args.term.now) ∙ ap node_tree c.in-If.is ∙ ap bare_node (node_choose one two three) in
    IfOk-weaker c.chosen_tests.result _ _
    (λ found e. e
    ∙ ap (λ x. choice_of_tests x (option_map raw_tests c.in_ok-yes-in-If.yes) (option_map raw_tests c.in_ok-no-in-If.no)) cond
    ∙ ap₂ (choice_of_tests (raw_base_in (raw_form S (term_tree one.value) es))) yes no
    ∙ sym (choice_tests (raw_base_in (raw_form S (term_tree one.value) es)) (raw_form S (term_tree two.value) es) (raw_form S (term_tree three.value) es))
    ∙ sym (ap (λ z. bag_tests (raw_form S z es)) tree))
    c.chosen_tests.ensures
