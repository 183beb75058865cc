use Rattle.std.proofs.lemmas.List.Elements.{recursion_from_All}
use Rattle.answer_text.specs.Spans.{AreEmpty}
use Rattle.answer_text.specs.declared.spans.Spans.{Spans}
use Rattle.answer_text.proofs.Listing.{none_under}
use Rattle.answer_text.proofs.spans.Spans.for_rows.Goals as goal

pub returns : goal.returns
returns c =
    let listed = c.in_ok-listed.listed in
    let spans : Spans = record { listed = listed; others = c.new.result } in
    none_under spans (recursion_from_All AreEmpty listed.items c.in_ok-listed.ensures)
    c.new.ensures.empty
