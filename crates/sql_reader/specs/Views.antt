-- What the reader holds as what it keeps.
use Rattle.std.specs.Prelude.{map, Box, Option}
use Rattle.std.specs.declared.alloc.Global.{Global}
use Rattle.std.specs.Option.{option_map}
use Rattle.sql_profile.specs.declared.tree.Expr.{Expr}
use Rattle.sql_profile.specs.Trees.{PlacedExpr, PlacedKeep, keep_of, placed_expr, placed_value, placed_item, placed_select, placed_with}
use Rattle.sql_reader.specs.Parts as kept
use Rattle.sql_reader.specs.Parts.{named}
use Rattle.sql_reader.specs.declared.part.Part.{Part}
use Rattle.sql_reader.specs.declared.lists.Name.{Name}
use Rattle.sql_reader.specs.declared.lists.Selects.{Selects}
use Rattle.sql_reader.specs.declared.lists.Keys.{Keys}
use Rattle.sql_reader.specs.declared.lists.Begun.{Begun}
use Rattle.sql_reader.specs.declared.lists.Ranged.{Ranged}
use Rattle.sql_reader.specs.declared.lists.Ranged.TheVariants as ranged
use Rattle.sql_reader.specs.declared.lists.Scalar.{Scalar}
use Rattle.sql_reader.specs.declared.lists.Value.{Value}
use Rattle.sql_reader.specs.declared.lists.Base.{Base}

abbrev pub name_view : Name → kept.Named
name_view n = named n.place n.label

abbrev pub part_view : Part → kept.Part
part_view p = record { tree = placed_expr p.expr.value; level = p.level; depth = p.extent.depth }

abbrev pub selects_view : Selects → kept.Selects
selects_view q = record { selects = map placed_select q.selects; depth = q.extent.depth }

abbrev pub keys_view : Keys → kept.Keys
keys_view ks = record { keys = map placed_expr ks.keys; depth = ks.extent.depth }

abbrev pub begun_view : Begun → kept.Begun
begun_view g = record { before = selects_view g.before; place = g.place; items = map placed_item g.items; depth = g.extent.depth }

abbrev pub boxed_tree : Box Expr Global → PlacedExpr
boxed_tree e = placed_expr e.value

abbrev pub scalar_view : Scalar → kept.Scalar
scalar_view s = record { place = s.place; summed = option_map boxed_tree s.value; depth = s.extent.depth }

abbrev pub ranged_view : Ranged → kept.Ranged
ranged_view (ranged.Select g) = kept.OfSelect (begun_view g)
ranged_view (ranged.Scalar s) = kept.OfScalar (scalar_view s)

abbrev pub value_view : Value → kept.Value
value_view v = record { value = placed_value v.value; depth = v.extent.depth }

abbrev pub base_view : Base → kept.Base
base_view b = record { withs = map placed_with b.withs; depth = b.extent.depth; name = option_map name_view b.name }

-- what a SELECT keeps
abbrev pub kept_tree : Option Expr → PlacedKeep
kept_tree keep = keep_of (option_map placed_expr keep)
