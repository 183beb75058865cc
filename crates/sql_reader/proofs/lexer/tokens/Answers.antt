use Rattle.std.proofs.Common.{◌∙◌, ◌∷◌, [], ap, sym, suc, ◌+◌, drop, get_or, length, map, ◌<◌, ◌^◌, rules, arith}
use Rattle.std.proofs.Math.Seq.{drop-cons}
use Rattle.std.proofs.lemmas.List.{drop-drop, length-drop, map-append}
use Rattle.sql_profile.specs.Tokens as sql
use Rattle.sql_profile.specs.Tokens.{front}
use Rattle.sql_reader.specs.Fronts.{front_view}
use Rattle.sql_reader.specs.Symbols.{symbol_view, token_view}
use Rattle.sql_reader.proofs.Cutting.{behind, behind_more, rest_of, after_gap, after_token, after_stop, gap_moves, token_moves}
use Rattle.sql_reader.proofs.lexer.tokens.Goals as goal

pub overflow_add-place : goal.overflow_add-place
overflow_add-place c =
    let text = c.args.text.now in
    let p = c.loop-place.place in
    let there = drop-cons text p 0 c.loop-place-test.true in
    let f = sym (c.front_at.ensures (get_or text p 0) (drop (suc p) text) there) ∙ ap front_view c.in-Gap.is in
    let moves = (gap_moves p (get_or text p 0) (drop (suc p) text) c.in-Gap.size f).1 in
    let long = length-drop (suc p) text in
    let before = c.loop-place-test.true in
    let fits : length text < 2 ^ 64 = search rules in
    omega (arith, moves, long, before, fits)

pub loop-place-smaller-in-Gap : goal.loop-place-smaller-in-Gap
loop-place-smaller-in-Gap c =
    let text = c.args.text.now in
    let p = c.loop-place.place in
    let there = drop-cons text p 0 c.loop-place-test.true in
    let f = sym (c.front_at.ensures (get_or text p 0) (drop (suc p) text) there) ∙ ap front_view c.in-Gap.is in
    let moves = (gap_moves p (get_or text p 0) (drop (suc p) text) c.in-Gap.size f).0 in
    let before = c.loop-place-test.true in
    omega (arith, moves, before)

pub loop-place-preserved-in-Gap : goal.loop-place-preserved-in-Gap
loop-place-preserved-in-Gap c =
    let text = c.args.text.now in
    let p = c.loop-place.place in
    let size = c.in-Gap.size in
    let b = get_or text p 0 in
    let rest = drop (suc p) text in
    let there = drop-cons text p 0 c.loop-place-test.true in
    let f = sym (c.front_at.ensures b rest there) ∙ ap front_view c.in-Gap.is in
    let moves = (gap_moves p b rest size f).1 in
    let long = length-drop (suc p) text in
    let before = c.loop-place-test.true in
    let done = behind (map token_view c.loop-place.tokens) in (
      omega (arith, moves, long, before),
      ap (λ l. done (rest_of (p + size) l)) (sym (drop-drop size p text) ∙ ap (drop size) there)
          ∙ ap done (sym (after_gap p b rest size f))
          ∙ ap (λ l. done (rest_of p l)) (sym there)
          ∙ c.loop-place.invariant.1,
    )

pub overflow_add-place-in-Takes : goal.overflow_add-place-in-Takes
overflow_add-place-in-Takes c =
    let text = c.args.text.now in
    let p = c.loop-place.place in
    let there = drop-cons text p 0 c.loop-place-test.true in
    let f = sym (c.front_at.ensures (get_or text p 0) (drop (suc p) text) there) ∙ ap front_view c.in-Takes.is in
    let moves = (token_moves p (get_or text p 0) (drop (suc p) text) c.in-Takes.size (λ q. symbol_view q c.in-Takes.symbol) f).1 in
    let long = length-drop (suc p) text in
    let before = c.loop-place-test.true in
    let fits : length text < 2 ^ 64 = search rules in
    omega (arith, moves, long, before, fits)

pub loop-place-smaller : goal.loop-place-smaller
loop-place-smaller c =
    let text = c.args.text.now in
    let p = c.loop-place.place in
    let there = drop-cons text p 0 c.loop-place-test.true in
    let f = sym (c.front_at.ensures (get_or text p 0) (drop (suc p) text) there) ∙ ap front_view c.in-Takes.is in
    let moves = (token_moves p (get_or text p 0) (drop (suc p) text) c.in-Takes.size (λ q. symbol_view q c.in-Takes.symbol) f).0 in
    let before = c.loop-place-test.true in
    omega (arith, moves, before)

pub loop-place-preserved : goal.loop-place-preserved
loop-place-preserved c =
    let text = c.args.text.now in
    let p = c.loop-place.place in
    let size = c.in-Takes.size in
    let b = get_or text p 0 in
    let rest = drop (suc p) text in
    let there = drop-cons text p 0 c.loop-place-test.true in
    let f = sym (c.front_at.ensures b rest there) ∙ ap front_view c.in-Takes.is in
    let moves = (token_moves p b rest size (λ q. symbol_view q c.in-Takes.symbol) f).1 in
    let long = length-drop (suc p) text in
    let before = c.loop-place-test.true in
    let known = map token_view c.loop-place.tokens in
    let token = symbol_view p c.in-Takes.symbol in
    let left = rest_of (p + size) (drop size (b ∷ rest)) in (
      omega (arith, moves, long, before),
      ap (λ l. behind (map token_view c.push.new.self) (rest_of (p + size) l)) (sym (drop-drop size p text) ∙ ap (drop size) there)
          ∙ ap (λ ts. behind (map token_view ts) left) c.in_ok-push-in-Takes.ensures.ok
          ∙ ap (λ ts. behind ts left) (map-append token_view c.loop-place.tokens (record { place = p; symbol = c.in-Takes.symbol } ∷ []))
          ∙ sym (behind_more known token left)
          ∙ ap (behind known) (sym (after_token p b rest size (λ q. symbol_view q c.in-Takes.symbol) f))
          ∙ ap (λ l. behind known (rest_of p l)) (sym there)
          ∙ c.loop-place.invariant.1,
    )

pub returns-in-NoToken : goal.returns-in-NoToken
returns-in-NoToken c =
    let text = c.args.text.now in
    let p = c.loop-place.place in
    let there = drop-cons text p 0 c.loop-place-test.true in
    let f = sym (c.front_at.ensures (get_or text p 0) (drop (suc p) text) there) ∙ ap front_view c.in-NoToken.is in
    sym c.loop-place.invariant.1
    ∙ ap (behind (map token_view c.loop-place.tokens)) (ap (rest_of p) there ∙ after_stop p (get_or text p 0) (drop (suc p) text) sql.NoToken f)

pub returns-in-TooLarge : goal.returns-in-TooLarge
returns-in-TooLarge c =
    let text = c.args.text.now in
    let p = c.loop-place.place in
    let there = drop-cons text p 0 c.loop-place-test.true in
    let f = sym (c.front_at.ensures (get_or text p 0) (drop (suc p) text) there) ∙ ap front_view c.in-TooLarge.is in
    sym c.loop-place.invariant.1
    ∙ ap (behind (map token_view c.loop-place.tokens)) (ap (rest_of p) there ∙ after_stop p (get_or text p 0) (drop (suc p) text) sql.TooLarge f)
