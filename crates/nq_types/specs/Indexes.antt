-- The places of tables by name.
use Rattle.std.specs.Prelude.{◌≡◌, ℕ, ◌+◌, cond, List, [], ◌∷◌, Option, Some, None}
use Rattle.std.specs.Str.{bytes_eq}
use Rattle.std.specs.BTreeMap.{BTreeMap, get_by_text}
use Rattle.std.specs.declared.string.String.{String}
use Rattle.std.specs.declared.alloc.Global.{Global}
use Rattle.nq_model.specs.declared.table.TableShape.{TableShape}

-- the place of the first of these tables that has the name, where the first place is this
abbrev pub place_from : ℕ → List ℕ → List TableShape → Option ℕ
place_from first name [] = None
place_from first name (shape ∷ shapes) = cond (bytes_eq name shape.name) (Some first) (place_from (first + 1) name shapes)

-- the map tells of each name the place of the first of these tables that has it
abbrev pub TellsPlaces : ℕ → List TableShape → BTreeMap (String Global) ℕ → Type 0
TellsPlaces first shapes places = (name : List ℕ) → get_by_text places name ≡ place_from first name shapes
