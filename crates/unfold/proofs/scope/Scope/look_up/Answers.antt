use Rattle.std.proofs.Common.{◌≡◌, ◌∙◌, sym, ap, ◌-◌, ◌<◌, length, arith}
use Rattle.std.proofs.lemmas.Result.{IfOk-weaker}
use Rattle.unfold.proofs.Facts.{got}
use Rattle.unfold.proofs.Scopes.{looked_past, looked_inside}
use Rattle.unfold.proofs.scope.Scope.look_up.Goals as goal

pub returns-then-outwards-count : goal.returns-then-outwards-count
returns-then-outwards-count c =
    let bs = c.args.self.now.binders in
    let n : c.len-count.result ≡ length bs.items = c.len-count.ensures ∙ bs.ok.0 in
    IfOk-weaker c.outer.result _ _ (λ b h es s. (h ∙ looked_past c.args.level c.args.place c.len-count.result bs.items es c.args.k s n c.if-outwards-count.true, s)) c.outer.ensures

pub returns : goal.returns
returns c =
    let bs = c.args.self.now.binders in
    let i = c.len-count.result - 1 - c.args.k in
    let n : c.len-count.result ≡ length bs.items = c.len-count.ensures ∙ bs.ok.0 in
    let k : c.args.k < length bs.items = omega (arith, n, c.if-outwards-count.false) in
    let l : i < length bs.items = omega (arith, n, c.if-outwards-count.false) in
    let q : i ≡ length bs.items - 1 - c.args.k = ap (λ z. z - 1 - c.args.k) n in
    let g = got bs.items i c.index_mut.result.now c.index_mut.result.now l c.index_mut.ensures.value in
    IfOk-weaker c.put_binder.result _ _ (λ b h es s.
    let r = looked_inside c.args.level c.args.place bs.items es c.args.k i c.index_mut.result.now s k q g in
    let w = h r.0 r.2 in
    (w.0 ∙ sym r.1, r.3 c.put_binder.new.binder w.1)) c.put_binder.ensures
