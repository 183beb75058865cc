use Rattle.std.proofs.Common.{ap, ◌∙◌}
use Rattle.nq_model.specs.Terms.{bare, node_tree}
use Rattle.nq_model.proofs.Terms.{placed_term, node_tree_record}
use Rattle.unfold.proofs.fuel.+fuel.Goals as goal

pub more_fuel-returns-in-Rec : goal.more_fuel-returns-in-Rec
more_fuel-returns-in-Rec t c =
    let e = ap bare (placed_term c.args.term.now) ∙ ap node_tree c.in-Rec.is ∙ node_tree_record c.in-Rec.fields in
    rw e (rw c.as_slice.ensures at c.more_fuel_of_fields.ensures)
