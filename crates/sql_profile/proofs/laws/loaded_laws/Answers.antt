use Rattle.sql_profile.proofs.HeldTables.{shapes_same, held_filled}
use Rattle.sql_profile.proofs.laws.loaded_laws.Goals as goal

pub returns : goal.returns
returns c = record { shapes = shapes_same; filled = held_filled }
