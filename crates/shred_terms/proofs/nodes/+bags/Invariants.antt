use Rattle.std.proofs.Common.{◌≡◌, ◌++◌, drop}
use Rattle.shred_terms.specs.Levels.{bags_view, field_bags}
use Rattle.shred_terms.proofs.nodes.+bags.Given as goal

abbrev pub invariant-push_field_bags-loop-field : goal.invariant-push_field_bags-loop-field
invariant-push_field_bags-loop-field l =
    bags_view l.bags.items ++ field_bags (drop l.field-index l.fields)
    ≡ bags_view l.initial.bags.items ++ field_bags l.fields
