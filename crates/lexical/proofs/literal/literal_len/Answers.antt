use Rattle.std.proofs.Common.{◌≡◌, ◌+◌, ◌&&◌, ◌∙◌, sym, ap, ap₂, not, false, get_or, drop, option_map, add-one, arith}
use Rattle.nq_model.specs.QueryTokens.{is_quote, literal_len}
use Rattle.lexical.proofs.Fronts.{literal_step}
use Rattle.lexical.proofs.literal.literal_len.Goals as goal

pub loop-i-preserved : goal.loop-i-preserved
loop-i-preserved c =
    let bytes = c.args.bytes.now in
    let i = c.loop-i.i in
    let after = c.loop-i.after_quote in
    let goes_on : (after && not (is_quote (get_or bytes i 0))) ≡ false =
    ap (λ q. after && not q) (sym c.is_quote-quote.ensures) ∙ sym c.ends.ensures ∙ c.if-ends.false in
    ap₂ (λ b k. option_map (λ n. i + 1 + n) (literal_len b (drop k bytes))) (c.may_close-after_quote.ensures ∙ ap (λ q. not after && q) c.is_quote-quote.ensures) (add-one i)
    ∙ sym (literal_step after bytes i (omega arith) goes_on)
    ∙ c.loop-i.invariant
