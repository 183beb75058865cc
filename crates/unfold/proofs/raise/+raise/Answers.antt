use Rattle.std.proofs.Common.{◌≡◌, ◌∙◌, refl, reverse, ap}
use Rattle.nq_model.specs.Terms.{placed}
use Rattle.nq_model.specs.Substitution.{shift, shift_fields}
use Rattle.nq_model.proofs.Substitution.{record_done, shift_fields-of}
use Rattle.unfold.proofs.Facts.{turned}
use Rattle.unfold.proofs.raise.+raise.Goals as goal

pub raise-returns-in_ok-raise_fields-in-Rec : goal.raise-returns-in_ok-raise_fields-in-Rec
raise-returns-in_ok-raise_fields-in-Rec t c =
    record_done (shift c.args.by c.args.from) (shift_fields c.args.by c.args.from) (λ p fs. refl) (shift_fields-of c.args.by c.args.from) c.args.term _ c.in-Rec.fields c.in_ok-raise_fields-in-Rec.field-0 c.in-Rec.is refl refl c.in_ok-raise_fields-in-Rec.ensures

pub raise_fields-returns : goal.raise_fields-returns
raise_fields-returns t c =
    let i = c.loop-last.invariant.1 in
    let b : c.from_vec.result ≡ reverse c.loop-last.all = c.from_vec.ensures ∙ c.reverse.ensures.items ∙ ap reverse c.into_vec-turned.ensures in
    turned (λ f. (f.0, placed f.1)) (λ f. (f.0, placed f.1)) (λ f. (f.0, shift c.args.by c.args.from f.1)) c.loop-last.all c.from_vec.result c.loop-last.rest c.args.fields (c.in_default.ensures.0) b i
