use Rattle.std.proofs.Common.{◌∙◌, option_copied}
use Rattle.natural_index.proofs.Least.{part_more}
use Rattle.natural_index.proofs.keyless.least_of_parts.Goals as goal

pub loop-part-preserved : goal.loop-part-preserved
loop-part-preserved c =
    part_more c.args.schema.now.tables c.args.parts.now c.loop-part.part-index c.part-item.result
    (option_copied c.loop-part.found) (option_copied c.least_of_gens-found.result)
    c.as_slice.result.now c.loop-part-test.true c.part-item.is c.as_slice.ensures
    c.least_of_gens-found.ensures
    ∙ c.loop-part.invariant
