use Rattle.std.proofs.Common.{◌≡◌, ◌+◌, true, ◌&&◌, leb, max, length, sym, ◌∙◌, ap, arith}
use Rattle.std.proofs.lemmas.Bool.Decides.{nat_tests}
use Rattle.nq_parser.specs.Forms.{needs, needs_types}
use Rattle.nq_parser.specs.Needs.{hole, hole_types, open_forms}
use Rattle.nq_parser.specs.Stacks.{frames}
use Rattle.nq_parser.specs.States.{state_view}
use Rattle.nq_parser.proofs.Needs.{fits_over}
use Rattle.nq_parser.proofs.Standing.{stands_in}
use Rattle.nq_parser.proofs.fits.fits.Goals as goal

pub returns-then-deep-limit : goal.returns-then-deep-limit
returns-then-deep-limit c =
    let state = c.args.state.now in
    let st = state_view state in
    let k = frames state.stack.levels in
    let inside : open_forms st ≡ k = stands_in state.at k c.in_default.not-Ready in
    let high : length k ≡ c.height.result = sym c.height.ensures in
    let deep : c.max-deep.result ≡ max (needs (open_forms st)) (hole st + length (open_forms st)) =
    rw inside (omega (arith, c.max-deep.ensures, c.needs.ensures, c.in-Some.ensures, c.in_ok-hole.ensures.depth, high)) in
    let types : c.max-types.result ≡ max (needs_types (open_forms st)) (hole_types st) =
    rw inside (omega (arith, c.max-types.ensures, c.types.ensures, c.in_ok-hole.ensures.types)) in
    let below : leb c.max-deep.result c.args.limit ≡ true = grind (arith, nat_tests, c.if-deep-limit.true) in
    ap (λ b. b && leb c.max-types.result c.args.limit) (sym below) ∙ fits_over c.args.limit st c.max-deep.result c.max-types.result deep types
