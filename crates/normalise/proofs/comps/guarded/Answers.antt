use Rattle.std.proofs.Common.{◌++◌, ap, ◌∙◌, map, List}
use Rattle.normalise.specs.Raw.{comp_part, inside_part, moved_base, test_part}
use Rattle.normalise.specs.declared.raw.RawComp.{RawComp as CodeComp}
use Rattle.normalise.proofs.Lists.{guarded_is}
use Rattle.normalise.proofs.comps.guarded.Goals as goal

pub returns : goal.returns
returns c =
    let o = test_part c.in_ok-outer.outer in
    let added = map (inside_part o.tables o.conds) (map comp_part c.args.parts) in
    guarded_is (moved_base c.args.cond) o c.args.parts c.put_inside.new.all c.in_ok-outer.ensures (c.in_ok-put_inside.ensures ∙ ap (λ (z : List CodeComp). map comp_part z ++ added) c.in_ok-all.ensures)
