use Rattle.std.proofs.Common.{◌+◌, arith}
use Rattle.std.proofs.lemmas.Str.{IsCharBoundary-after_ascii, IsCharBoundary-before_ascii}
use Rattle.sql_reader.proofs.Fronts.{name_closes}
use Rattle.sql_reader.proofs.front.name_front.Goals as goal

pub range-requires-clause-start_boundary :
    goal.range-requires-clause-start_boundary
range-requires-clause-start_boundary c =
    let quote = c.requires.quote in
    λ h. IsCharBoundary-after_ascii c.args.text.now c.args.place c.utf8.text c.requires.within (omega (arith, quote))

pub range-requires-clause-end_boundary : goal.range-requires-clause-end_boundary
range-requires-clause-end_boundary c =
    let e = name_closes c.args.text.now c.args.rest.now c.args.place c.name_len-size.result c.requires.rest c.requires.within c.name_len-size.ensures (omega arith) in
    let closes = e.1 in
    IsCharBoundary-before_ascii c.args.text.now (c.args.place + 1 + c.name_len-size.result) e.0 (omega (arith, closes))
