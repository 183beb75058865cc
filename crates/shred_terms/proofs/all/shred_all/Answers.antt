use Rattle.std.proofs.Common.{◌≡◌, ◌∙◌, map, ap₂}
use Rattle.std.proofs.lemmas.Result.{IfOk-weaker}
use Rattle.nq_model.specs.Types.{bag}
use Rattle.nq_ir.proofs.Whole.{strands_at_paths}
use Rattle.nq_ir.specs.Paths.{paths}
use Rattle.nq_ir.specs.Shredded.{shredded, shredded_tree}
use Rattle.nq_ir.specs.Spots.{strands}
use Rattle.nq_ir.specs.Trees.{form_tree}
use Rattle.shred_terms.specs.Levels.{levels_view, paired}
use Rattle.shred_terms.proofs.AllPaths.{paired_is}
use Rattle.shred_terms.proofs.all.shred_all.Goals as goal

pub returns : goal.returns
returns c = λ schema w.
    let form = form_tree c.args.normal.now in
    let a = bag form.element in
    IfOk-weaker c.forms_of.result
    (λ all. map shredded_tree all ≡ paired a (map (λ p. p.steps) c.in_ok-places.places) (levels_view c.in_ok-levels.levels.items))
    (λ all. map shredded_tree all ≡ map (shredded form) (paths a))
    (λ all e. e ∙ ap₂ (paired a) c.in_ok-places.ensures c.in_ok-levels.ensures ∙ paired_is form (paths a) (strands form.element form.comps) (strands_at_paths schema form w))
    c.forms_of.ensures
