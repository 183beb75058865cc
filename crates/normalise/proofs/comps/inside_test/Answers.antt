use Rattle.std.proofs.Common.{rules, ◌≡◌, ap, ◌∙◌, map, length}
use Rattle.nq_ir.specs.RawForms.{up_base}
use Rattle.normalise.specs.Raw.{moved_base}
use Rattle.normalise.specs.declared.raw.RawTest.{out-RawTest}
use Rattle.normalise.proofs.Lists.{test_inside_is}
use Rattle.normalise.proofs.comps.inside_test.Goals as goal

pub returns : goal.returns
returns c =
    let o = c.args.outer in
    let x = c.args.part in
    let more : c.len-more.result ≡ length (out-RawTest x).tables = search rules in
    let f = c.in_ok-around.ensures ∙ ap (λ n. map (up_base n 0) (map moved_base (out-RawTest o).conds)) more in
    test_inside_is o x c.in_ok-tables.tables c.in_ok-around.around c.in_ok-conds.conds _ c.in_ok-tables.ensures c.in_ok-conds.ensures f
