use Rattle.std.proofs.Common.{ap, ◌∙◌, map, List}
use Rattle.nq_ir.specs.RawForms.{up_base}
use Rattle.normalise.specs.Raw.{moved_base}
use Rattle.normalise.specs.declared.raw.MovedBase.{MovedBase}
use Rattle.normalise.proofs.Lists.{test_same}
use Rattle.normalise.proofs.Moves.{all_same}
use Rattle.normalise.proofs.raw_copy.shared_test.Goals as goal

pub returns : goal.returns
returns c =
    let conds = c.in_ok-conds.ensures ∙ ap (λ (bs : List MovedBase). map (up_base 0 0) (map moved_base bs)) c.as_slice-2.ensures ∙ all_same _ in
    test_same c.args.test.now c.in_ok-tables.tables c.in_ok-conds.conds _ (c.in_ok-tables.ensures ∙ c.as_slice.ensures) conds
