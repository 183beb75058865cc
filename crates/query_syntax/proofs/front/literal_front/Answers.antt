use Rattle.std.proofs.Common.{◌∙◌, ◌+◌, sym, arith}
use Rattle.std.proofs.lemmas.Str.{IsCharBoundary-after_ascii, IsCharBoundary-before_ascii}
use Rattle.lexical.proofs.Literals.{closing}
use Rattle.query_syntax.proofs.front.literal_front.Goals as goal

pub overflow_add-result : goal.overflow_add-result
overflow_add-result c =
    let e = closing c.args.text.now c.args.rest.now c.args.place c.in-Some.size c.requires.rest c.requires.within (sym c.literal_len.ensures ∙ c.in-Some.is) in
    let within = e.1 in
    let fits = c.requires.fits in
    omega (arith, within, fits)

pub overflow_add-place-in-Some : goal.overflow_add-place-in-Some
overflow_add-place-in-Some c =
    let e = closing c.args.text.now c.args.rest.now c.args.place c.in-Some.size c.requires.rest c.requires.within (sym c.literal_len.ensures ∙ c.in-Some.is) in
    let within = e.1 in
    let fits = c.requires.fits in
    omega (arith, within, fits)

pub range-requires-clause-start_boundary :
    goal.range-requires-clause-start_boundary
range-requires-clause-start_boundary c =
    let quote = c.requires.quote in
    λ h. IsCharBoundary-after_ascii c.args.text.now c.args.place c.utf8.text c.requires.within (omega (arith, quote))

pub range-requires-clause-end_boundary : goal.range-requires-clause-end_boundary
range-requires-clause-end_boundary c =
    let e = closing c.args.text.now c.args.rest.now c.args.place c.in-Some.size c.requires.rest c.requires.within (sym c.literal_len.ensures ∙ c.in-Some.is) in
    let closes = e.2 in
    IsCharBoundary-before_ascii c.args.text.now (c.args.place + c.in-Some.size) e.1 (omega (arith, closes))
