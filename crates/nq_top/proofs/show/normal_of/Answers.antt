use Rattle.nq_model.specs.Terms.{placed}
use Rattle.nq_ir.specs.Trees.{form_tree}
use Rattle.nq_top.proofs.Showings.{form_shown}
use Rattle.nq_top.proofs.show.normal_of.Goals as goal

pub returns : goal.returns
returns c = λ reader type read.
    form_shown c.args.schema.now (placed c.args.term) (placed c.in_ok-plain.plain) (form_tree c.in_ok-normal.normal)
    c.in_ok-plain.ensures.reached c.in_ok-normal.ensures.of_type c.in_ok-normal.ensures.form reader type read
