use Rattle.std.proofs.Common.{◌∙◌, ap, cond, Some}
use Rattle.std.specs.BTreeMap.{get}
use Rattle.answer_text.specs.Indexes.{index_cmp}
use Rattle.answer_text.proofs.Listing.{index_ties}
use Rattle.answer_text.proofs.spans.put_other.Goals as goal

pub returns : goal.returns
returns c = λ i.
    c.in_ok-insert.ensures.updates.0 i
    ∙ ap (λ b. cond b (Some c.args.span) (get index_cmp c.args.others.now i))
    (index_ties c.args.index i)
