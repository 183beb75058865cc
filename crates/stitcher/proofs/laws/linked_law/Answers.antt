use Rattle.stitcher.proofs.Linked.{links_linked, linked_links}
use Rattle.stitcher.proofs.laws.linked_law.Goals as goal

pub returns : goal.returns
returns c = λ type ans. (linked_links type ans, links_linked type ans)
