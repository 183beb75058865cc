use Rattle.std.proofs.Common.{refl, sym, ◌∙◌}
use Rattle.answer_text.specs.declared.spans.Spans.{Spans}
use Rattle.answer_text.proofs.Listing.{put_other}
use Rattle.answer_text.proofs.spans.Spans.put_span.Goals as goal

pub returns-in_ok-put_other-in-None : goal.returns-in_ok-put_other-in-None
returns-in_ok-put_other-in-None c =
    let spans : Spans = c.args.self.now in
    let more : Spans = record { listed = spans.listed; others = c.put_other.new.others } in
    put_other spans more c.args.index c.args.span (sym c.place.ensures
    ∙ c.in-None.is) refl c.in_ok-put_other-in-None.ensures
