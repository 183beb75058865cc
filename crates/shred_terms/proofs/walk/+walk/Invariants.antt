use Rattle.std.proofs.Common.{◌≡◌, ◌++◌, drop, map}
use Rattle.nq_ir.specs.Spots.{shaped, strand_tree}
use Rattle.shred_terms.specs.Placed.{at_field, below}
use Rattle.shred_terms.proofs.walk.+walk.Given as goal

abbrev pub invariant-push_below-loop-comp : goal.invariant-push_below-loop-comp
invariant-push_below-loop-comp l =
    map strand_tree l.strands ++ map shaped (below l.around (drop l.comp-index l.comps) l.steps)
    ≡ map strand_tree l.initial.strands ++ map shaped (below l.around l.comps l.steps)

abbrev pub invariant-push_in_field-loop-field : goal.invariant-push_in_field-loop-field
invariant-push_in_field-loop-field l =
    (l.strands ≡ l.initial.strands) × (at_field l.around (drop l.field-index l.fields) l.label l.steps ≡ at_field l.around l.fields l.label l.steps)
