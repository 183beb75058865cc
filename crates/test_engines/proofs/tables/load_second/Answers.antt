use Rattle.test_engines.proofs.Names.{other_name}
use Rattle.test_engines.proofs.tables.load_second.Goals as goal

pub load_at_last-requires : goal.load_at_last-requires
load_at_last-requires g c = other_name _ c.requires
