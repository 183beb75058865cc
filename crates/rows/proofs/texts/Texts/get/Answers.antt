use Rattle.std.proofs.Common.{◌≡◌, ◌<◌, ◌≤◌, ◌∙◌, ℕ, List, [], All, sym, ap}
use Rattle.std.proofs.Common.{subst, arith, length, get_or, slice_range}
use Rattle.std.specs.Str.{IsUtf8}
use Rattle.std.proofs.lemmas.List.{get_or_read}
use Rattle.rows.specs.Packed.{start_of}
use Rattle.rows.proofs.PackedTexts.{piece_there, read_order, read_within, read_piece}
use Rattle.rows.proofs.texts.Texts.get.Goals as goal

there : (c : goal.After-as_slice) → c.args.at < length c.self.inside.ends.items
there c =
    piece_there c.self.inside.ends.items c.self.inside.bytes.items c.args.self.now c.args.at
    c.self.view_is c.requires

known : (c : goal.After-as_slice-2) → c.args.at < length c.self.inside.ends.items
known c =
    piece_there c.self.inside.ends.items c.self.inside.bytes.items c.args.self.now c.args.at
    c.self.view_is c.requires

pub start_of-start-requires : goal.start_of-start-requires
start_of-start-requires c = omega (arith, there c, ap length c.as_slice.ensures.value)

begins : (c : goal.After-as_slice-2) → c.start_of-start.result
    ≡ start_of c.self.inside.ends.items c.args.at
begins c =
    c.start_of-start.ensures
    ∙ ap (λ (ends : List ℕ). start_of ends c.args.at) c.as_slice.ensures.value

ends : (c : goal.After-as_slice-2) → c.index.result.now
    ≡ get_or c.self.inside.ends.items c.args.at 0
ends c =
    get_or_read c.self.inside.ends.items c.args.at c.index.result.now (known c) c.index.ensures 0

pub index-requires : goal.index-requires
index-requires c = omega (arith, there c.before, c.self.inside.ends.ok)

pub part-requires-clause-order : goal.part-requires-clause-order
part-requires-clause-order c =
    read_order c.self.inside.ends.items c.self.inside.bytes.items c.args.self.now c.args.at
    c.start_of-start.result c.index.result.now c.self.view_is c.self.invariant.0 (known c)
    (begins c) (ends c)

pub part-requires-clause-within : goal.part-requires-clause-within
part-requires-clause-within c =
    let end = read_within c.self.inside.ends.items c.self.inside.bytes.items c.args.self.now
    c.args.at c.start_of-start.result c.index.result.now c.self.view_is c.self.invariant.0
    (known c) (begins c) (ends c) in
    subst (λ (l : List ℕ). c.index.result.now ≤ length l) (sym c.as_slice-2.ensures.value) end

is_piece : (c : goal.After-part) → c.part.result.now ≡ get_or c.args.self.now c.args.at []
is_piece c =
    c.part.ensures
    ∙ ap (λ (l : List ℕ). slice_range l c.start_of-start.result c.index.result.now)
    c.as_slice-2.ensures.value
    ∙ read_piece c.self.inside.ends.items c.self.inside.bytes.items c.args.self.now c.args.at
    c.start_of-start.result c.index.result.now c.self.view_is c.self.invariant.0
    (known c.before) (begins c.before) (ends c.before)

pub text_of-requires : goal.text_of-requires
text_of-requires c =
    let all : All IsUtf8 c.args.self.now = subst (All IsUtf8) c.self.view_is c.self.invariant.1 in
    let here : IsUtf8 (get_or c.args.self.now c.args.at []) = all c.args.at [] c.requires in
    subst IsUtf8 (sym (is_piece c)) here

pub returns : goal.returns
returns c = c.text_of.ensures ∙ is_piece c.before
