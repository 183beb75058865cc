use Rattle.std.proofs.Common.{ap, sym, ◌∙◌, get_or, ℕ, List}
use Rattle.std.proofs.lemmas.Result.{IfOk-weaker}
use Rattle.normalise.specs.Numbers.{numbers}
use Rattle.normalise.proofs.Moves.{found_without}
use Rattle.normalise.proofs.Numbering.{numbers_dealt, numbers_without, found_inside, found_outside}
use Rattle.normalise.proofs.numbers.Numbers.+at.Goals as goal

pub returns-then-back-count : goal.returns-then-back-count
returns-then-back-count t c =
    let is = ap numbers c.in-Dealt.is ∙ numbers_dealt c.in-Dealt.first c.in-Dealt.count c.in-Dealt.outer in
    IfOk-weaker c.plus.result _ _ (λ m e. found_inside c.in-Dealt.count c.in-Dealt.first c.args.back m (numbers c.in-Dealt.outer.now) c.if-back-count.true e ∙ ap (λ (l : List ℕ). get_or l c.args.back 0) (sym is)) c.plus.ensures

pub returns-else-back-count : goal.returns-else-back-count
returns-else-back-count t c =
    let is = ap numbers c.in-Dealt.is ∙ numbers_dealt c.in-Dealt.first c.in-Dealt.count c.in-Dealt.outer in
    IfOk-weaker c.at.result _ _ (λ m e. e ∙ found_outside c.in-Dealt.count c.in-Dealt.first c.args.back (numbers c.in-Dealt.outer.now) c.if-back-count.false ∙ ap (λ (l : List ℕ). get_or l c.args.back 0) (sym is)) c.at.ensures

pub returns-in_ok-index_under-in-Without : goal.returns-in_ok-index_under-in-Without
returns-in_ok-index_under-in-Without t c =
    let is = ap numbers c.in-Without.is ∙ numbers_without c.in-Without.from c.in-Without.count c.in-Without.outer in
    let outer = numbers c.in-Without.outer.now in
    IfOk-weaker c.at-in-Without.result _ _
    (λ n e. e
    ∙ ap (λ i. get_or outer i 0) c.in_ok-index_under-in-Without.ensures
    ∙ found_without c.in-Without.count c.in-Without.from c.args.back outer
    ∙ ap (λ (l : List ℕ). get_or l c.args.back 0) (sym is))
    c.at-in-Without.ensures
