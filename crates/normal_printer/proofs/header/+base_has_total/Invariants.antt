use Rattle.std.proofs.Common.{◌≡◌, drop}
use Rattle.std.specs.List.{list_any}
use Rattle.nq_ir.specs.Printed.{has_total, named_base}
use Rattle.nq_ir.specs.Trees.{base_tree}
use Rattle.normal_printer.specs.Parts.{test_term}
use Rattle.normal_printer.proofs.header.+base_has_total.Given as goal

abbrev pub invariant-conds_have_total-loop-cond : goal.invariant-conds_have_total-loop-cond
invariant-conds_have_total-loop-cond l =
    list_any (λ b. has_total (named_base (base_tree b))) (drop l.cond-index l.conds) ≡ list_any (λ b. has_total (named_base (base_tree b))) l.conds

abbrev pub invariant-tests_have_total-loop-test : goal.invariant-tests_have_total-loop-test
invariant-tests_have_total-loop-test l =
    list_any (λ t. has_total (test_term t)) (drop l.test-index l.tests) ≡ list_any (λ t. has_total (test_term t)) l.tests
