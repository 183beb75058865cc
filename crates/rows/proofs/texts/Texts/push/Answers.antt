use Rattle.std.proofs.Common.{◌≡◌, ◌+◌, ◌++◌, length, refl, arith, rules}
use Rattle.rows.proofs.PackedTexts.{texts_stay, texts_more, texts_pushed}
use Rattle.rows.proofs.texts.Texts.push.Goals as goal

pub invariant_of-self : goal.invariant_of-self
invariant_of-self c =
    let ends = c.self.inside.ends.items in
    texts_stay ends ends c.self.inside.bytes.items c.reserve.new.self.items c.self.invariant refl
    (search rules)

pub invariant_of-self-in_err-push : goal.invariant_of-self-in_err-push
invariant_of-self-in_err-push c =
    texts_stay c.self.inside.ends.items c.push.new.self.items c.self.inside.bytes.items
    c.reserve.new.self.items c.self.invariant (search rules) (search rules)

grown : (c : goal.In_ok-extend_from_slice) → c.extend_from_slice.new.self.items
    ≡ c.self.inside.bytes.items ++ c.args.text.now
grown c = search rules

last : (c : goal.In_ok-extend_from_slice) → c.in_ok-end.end
    ≡ length c.self.inside.bytes.items + length c.args.text.now
last c =
    let is = c.in_ok-end.ensures in
    omega (arith, c.saturating_add.ensures, c.len.ensures)

pub invariant_of-self-2 : goal.invariant_of-self-2
invariant_of-self-2 c =
    texts_more c.self.inside.ends.items c.push.new.self.items c.self.inside.bytes.items
    c.args.text.now c.extend_from_slice.new.self.items c.in_ok-end.end c.self.invariant
    c.utf8.text (grown c) (last c) c.in_ok-push.ensures.items

pub returns-clause-ok : goal.returns-clause-ok
returns-clause-ok c =
    texts_pushed c.self.inside.ends.items c.push.new.self.items c.self.inside.bytes.items
    c.args.text.now c.extend_from_slice.new.self.items c.in_ok-end.end c.args.self.now
    c.self.invariant c.self.view_is (grown c) (last c) c.in_ok-push.ensures.items
