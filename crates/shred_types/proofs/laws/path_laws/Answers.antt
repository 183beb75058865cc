use Rattle.nq_ir.proofs.Paths.{paths_count, elements_are, proper}
use Rattle.shred_types.proofs.Bags.{bag_is_at_path}
use Rattle.shred_types.proofs.laws.path_laws.Goals as goal

pub returns : goal.returns
returns c = record {
  counted = paths_count;
  typed = λ a rise. elements_are a (proper a rise);
  found = bag_is_at_path;
}
