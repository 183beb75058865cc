use Rattle.std.proofs.Common.{ap, sym, ◌∙◌, ◌+◌}
use Rattle.std.proofs.lemmas.Result.{IfOk-weaker}
use Rattle.nq_model.specs.Terms.{bare, node_tree}
use Rattle.nq_model.proofs.Terms.{placed_term, node_tree_record}
use Rattle.unfold.specs.Depths.{term_depth}
use Rattle.unfold.proofs.built.+depth.Goals as goal

pub depth-returns-in_ok-fields_depth-in-Rec : goal.depth-returns-in_ok-fields_depth-in-Rec
depth-returns-in_ok-fields_depth-in-Rec t c =
    let e = ap bare (placed_term c.args.term.now) ∙ ap node_tree c.in-Rec.is ∙ node_tree_record c.in-Rec.fields in
    let h = rw c.as_slice.ensures at c.in_ok-fields_depth-in-Rec.ensures in
    IfOk-weaker c.one_more-in-Rec.result _ _ (λ n g. g ∙ ap (λ x. x + 1) h ∙ ap term_depth (sym e)) c.one_more-in-Rec.ensures
