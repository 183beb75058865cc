use Rattle.std.proofs.Common.{ℕ, List, ap₂}
use Rattle.sql_profile.specs.Trees.{PlacedItem}
use Rattle.sql_reader.specs.Parts.{Begun}
use Rattle.sql_reader.specs.Views.{begun_view}
use Rattle.sql_reader.proofs.Putting.{items_put}
use Rattle.sql_reader.proofs.lists.add_item.Goals as goal

abbrev holding : Begun → List PlacedItem → ℕ → Begun
holding g items depth = record { before = g.before; place = g.place; items = items; depth = depth }

pub returns : goal.returns
returns c =
    ap₂ (holding (begun_view c.args.begun)) (items_put c.args.begun.items c.push.new.self _ c.in_ok-push.ensures.ok) c.greater-begun.ensures
