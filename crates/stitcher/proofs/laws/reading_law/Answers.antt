use Rattle.stitcher.proofs.Stitched.{read_is_mean}
use Rattle.stitcher.proofs.laws.reading_law.Goals as goal

pub returns : goal.returns
returns g c = λ scheme schema form ts ans w r. read_is_mean (g.S.IndexScheme.scheme scheme) schema form ts ans w r
