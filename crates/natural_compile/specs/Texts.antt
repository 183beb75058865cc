-- The printed natural texts of a normal form, and what holds of the normal form of a query.
use Rattle.std.specs.Prelude.{◌≡◌, ℕ, List, length, map}
use Rattle.nq_model.specs.Terms.{PlacedTerm, bare}
use Rattle.nq_model.specs.Types.{TypeTree, bag}
use Rattle.nq_model.specs.Typing.{IsAccepted}
use Rattle.nq_model.specs.Unfolding.{Unfolds}
use Rattle.nq_model.specs.declared.table.Schema.{Schema}
use Rattle.nq_model.specs.declared.table.TableShape.{TableShape}
use Rattle.nq_ir.specs.NormalForms.{normal_form}
use Rattle.nq_ir.specs.Trees.{FormTree}
use Rattle.sql_profile.specs.Printed.{printed}
use Rattle.sql_profile.specs.Texts.{Spells}
use Rattle.sql_profile.specs.Tokens.{First}
use Rattle.sql_profile.specs.Trees.{PlacedSql, SqlTree, bare as bare_sql}
use Rattle.natural_index.specs.Trees.{natural_trees}

-- the natural trees of a form, printed
abbrev pub keyed_texts : List TableShape → FormTree → List (List ℕ)
keyed_texts S form = map printed (natural_trees S form)

-- a tree as it is printed spells it, at a depth of its own bytes
abbrev pub SpellsTree : SqlTree → Type 0
SpellsTree tree =
    (spelled : PlacedSql) × Spells First (length (printed tree)) (printed tree) spelled
    × (bare_sql spelled ≡ tree)

-- of the normal form of the plain term to which an accepted query unfolds this holds
abbrev pub OfForm : Schema → PlacedTerm → (FormTree → Type 0) → Type 0
OfForm schema query Holds =
    (element : TypeTree) (plain : PlacedTerm) → IsAccepted schema (bare query) (bag element)
    → Unfolds query plain → Holds (normal_form schema.tables element (bare plain))
