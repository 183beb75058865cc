-- Where the bags at a path stand in the answer around: each row of that answer holds one of them,
-- under a tag and a number.
use Rattle.std.specs.Prelude.{ℕ, suc, ◌+◌, List, [], ◌∷◌, ◌++◌, Option, Some, None}
use Rattle.nq_model.specs.Types.{TypeTree, int, bool, text, rec, bag, fun, FieldTypes, none, field}
use Rattle.nq_ir.specs.Parts.{bags}
use Rattle.shred_types.specs.Places.{width}
use Rattle.query_json.specs.declared.parents.Parent.{Parent}

-- The parents of the bags in an element, in path order. The answer around is that to the text of
-- this number, and has the element from this column on; the first of the bags has the text of the
-- number `next`. All are counted from 1, and behind the two columns of the outer index an element
-- begins with the third.
abbrev mutual
  pub parents_in : TypeTree → (around column next : ℕ) → List (Option Parent)
  parents_in int around column next = []
  parents_in bool around column next = []
  parents_in text around column next = []
  parents_in (rec fs) around column next = field_parents fs around column next
  parents_in (bag a) around column next =
      Some (record { text = around; column = column }) ∷ parents_in a next 3 (suc next)
  parents_in (fun a b) around column next = []

  pub field_parents : FieldTypes → (around column next : ℕ) → List (Option Parent)
  field_parents none around column next = []
  field_parents (field l a fs) around column next =
      parents_in a around column next ++ field_parents fs around (column + width a) (next + bags a)

-- those of the bags of a bag type: the outermost has none
abbrev pub parents : TypeTree → List (Option Parent)
parents (bag a) = None ∷ parents_in a 1 3 2
parents other = []
