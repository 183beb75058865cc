use Rattle.std.proofs.Common.{◌≡◌, ◌≢◌, ◌∙◌, ap, subst, None, Option, IfErr, OnOk}
use Rattle.nq_model.specs.Types.{type_tree}
use Rattle.stitcher.specs.Linked.{LinkFault}
use Rattle.stitcher.specs.Stitching.{rows_of}
use Rattle.foreign_answers.specs.Faults.{told}
use Rattle.foreign_answers.specs.declared.faults.LinkFault.TheVariants as fault
use Rattle.foreign_answers.proofs.Whole.{same_fault, can_judge}
use Rattle.foreign_answers.proofs.linked.links.Goals as goal

pub all-requires : goal.all-requires
all-requires c =
    can_judge (type_tree c.args.of.now) _ c.as_slice-2.result.now c.as_slice-3.result.now (rows_of c.as_slice.result.now) (rows_of c.args.answers.now)
    c.in_ok-scheme.ensures (c.as_slice-2.ensures ∙ c.in_ok-homes.ensures) (c.as_slice-3.ensures ∙ c.in_ok-columns.ensures) (ap rows_of c.as_slice.ensures)
    c.requires.bag.0 c.requires.bag.1 c.requires.answers

pub returns-clause-linked : goal.returns-clause-linked
returns-clause-linked c =
    subst (λ (z : Option LinkFault). OnOk c.all.result (z ≡ None))
    (same_fault (type_tree c.args.of.now) _ c.as_slice-2.result.now c.as_slice-3.result.now (rows_of c.as_slice.result.now) (rows_of c.args.answers.now)
    c.in_ok-scheme.ensures (c.as_slice-2.ensures ∙ c.in_ok-homes.ensures) (c.as_slice-3.ensures ∙ c.in_ok-columns.ensures) (ap rows_of c.as_slice.ensures)) c.all.ensures.none

pub returns-clause-fault : goal.returns-clause-fault
returns-clause-fault c =
    subst (λ (z : Option LinkFault). IfErr c.all.result (λ e. e ≢ fault.Memory → z ≡ told e))
    (same_fault (type_tree c.args.of.now) _ c.as_slice-2.result.now c.as_slice-3.result.now (rows_of c.as_slice.result.now) (rows_of c.args.answers.now)
    c.in_ok-scheme.ensures (c.as_slice-2.ensures ∙ c.in_ok-homes.ensures) (c.as_slice-3.ensures ∙ c.in_ok-columns.ensures) (ap rows_of c.as_slice.ensures)) c.all.ensures.fault
