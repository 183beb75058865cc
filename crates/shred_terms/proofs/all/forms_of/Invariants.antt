use Rattle.std.proofs.Common.{◌≡◌, map}
use Rattle.nq_ir.specs.Shredded.{shredded_tree}
use Rattle.nq_ir.specs.Trees.{form_tree}
use Rattle.nq_model.specs.Types.{bag}
use Rattle.shred_terms.specs.Levels.{levels_view, paired}
use Rattle.shred_terms.proofs.all.forms_of.Given as goal

abbrev pub invariant-loop-strands : goal.invariant-loop-strands
invariant-loop-strands l =
    map shredded_tree l.forms ≡ paired (bag (form_tree l.normal).element) (map (λ p. p.steps) l.places) (levels_view l.yielded)
