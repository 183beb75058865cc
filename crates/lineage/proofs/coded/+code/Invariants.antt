use Rattle.std.proofs.Common.{◌≡◌, map}
use Rattle.nq_model.specs.Values.{nested, fields_view}
use Rattle.lineage.specs.TracedTrees.{traced_element, traced_fields}
use Rattle.lineage.proofs.coded.+code.Given as goal

abbrev pub invariant-coded_fields-loop-label : goal.invariant-coded_fields-loop-label
invariant-coded_fields-loop-label l = fields_view l.values ≡ traced_fields l.yielded

abbrev pub invariant-coded_elements-loop-element : goal.invariant-coded_elements-loop-element
invariant-coded_elements-loop-element l = map nested l.values ≡ map traced_element l.yielded
