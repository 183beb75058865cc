use Rattle.std.proofs.Common.{◌≡◌, suc, length, Result, Ok, Err, OnOk, ap, ◌∙◌, arith}
use Rattle.std.proofs.lemmas.Grind.{common_steps}
use Rattle.std.specs.Option.{unwrap_or}
use Rattle.stitcher.proofs.Grouping.{put_in_front}
use Rattle.stitcher.proofs.groups.Groups.push_front.Goals as goal

on_ok : {A E P Q : Type 0} (r : Result A E) → (P → Q) → OnOk r P → OnOk r Q
on_ok (Ok x) f h = f h
on_ok (Err e) f h = h

pub returns : goal.returns
returns g c =
    let at : c.in_ok-place.place ≡ suc (length c.args.self.now.nexts) = grind (arith, common_steps) in
    on_ok c.push.result
    (λ is. put_in_front g.I.PartialEq.eq g.I.Ord.cmp g.met.I.Ord.matches_eq c.args.self.now.firsts c.insert.new.self
    c.args.self.now.nexts c.push.new.self c.args.index c.in_ok-place.place c.unwrap_or-next.result at
    (c.unwrap_or-next.ensures ∙ ap (λ o. unwrap_or o 0) c.in_ok-insert.ensures.old) is c.in_ok-insert.ensures.updates.0)
    c.push.ensures.ok
