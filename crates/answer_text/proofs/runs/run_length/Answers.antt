use Rattle.std.proofs.Common.{◌≡◌, ℕ, ℤ, true, ap, sym, ◌∙◌}
use Rattle.std.proofs.lemmas.List.Elements.{All-more}
use Rattle.answer_text.specs.Indexes.{is_index}
use Rattle.answer_text.specs.Spans.{index_of}
use Rattle.answer_text.proofs.runs.run_length.Goals as goal

pub loop-at-preserved : goal.loop-at-preserved
loop-at-preserved c =
    let P : ℕ → Type 0 = λ place. is_index (index_of c.args.rows.now place) c.args.index ≡ true in
    All-more P c.args.places.now c.loop-at.at 0 c.loop-at-test.true c.loop-at.invariant
    (ap (λ (k : ℤ × ℤ). is_index k c.args.index) (sym c.index_at.ensures) ∙ sym c.is_index.ensures
    ∙ c.if-not-is_index.false)
