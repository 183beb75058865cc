-- The parents of the bags in an element: there are as many as bags.
use Rattle.std.proofs.Common.{◌≡◌, Option, ◌+◌, ℕ, suc, ◌<◌, get_or, drop-cons, List, ◌∷◌, ◌++◌, length, drop, refl, sym, ap, ap₂, ◌∙◌, arith, append_assoc, length-append}
use Rattle.nq_ir.specs.NormalForms.{element_type}
use Rattle.nq_ir.specs.Parts.{bags, bags_in}
use Rattle.nq_model.specs.Types.{TypeTree, int, bool, text, rec, bag, fun, FieldTypes, none, field, field_types_of, fields_view, type_tree}
use Rattle.nq_model.specs.declared.ty.Ty.{Ty}
use Rattle.shred_types.specs.Columns.{element_columns, fields_columns}
use Rattle.shred_types.specs.Places.{width}
use Rattle.query_json.specs.Parents.{parents, parents_in, field_parents}
use Rattle.query_json.specs.declared.parents.Parent.{Parent}

mutual
  pub parents_counted : (a : TypeTree) (around column next : ℕ) → length (parents_in a around column next) ≡ bags a
  parents_counted int around column next = refl
  parents_counted bool around column next = refl
  parents_counted text around column next = refl
  parents_counted (rec fs) around column next = field_parents_counted fs around column next
  parents_counted (bag a) around column next = ap suc (parents_counted a next 3 (suc next))
  parents_counted (fun a b) around column next = refl

  field_parents_counted : (fs : FieldTypes) (around column next : ℕ) → length (field_parents fs around column next) ≡ bags_in fs
  field_parents_counted none around column next = refl
  field_parents_counted (field l a fs) around column next =
      length-append (parents_in a around column next) (field_parents fs around (column + width a) (next + bags a))
      ∙ ap₂ (λ m n. m + n) (parents_counted a around column next) (field_parents_counted fs around (column + width a) (next + bags a))

-- one field more, behind the parents of those before
pub parents_more : (f : List ℕ × Ty) (rest : List (List ℕ × Ty)) (around column after : ℕ) (old new : List (Option Parent))
    → new ≡ old ++ parents_in (type_tree f.1) around column (length old + 1) → after ≡ column + width (type_tree f.1)
    → new ++ field_parents (field_types_of (fields_view rest)) around after (length new + 1)
    ≡ old ++ field_parents (field_types_of (fields_view (f ∷ rest))) around column (length old + 1)
parents_more f rest around column after old new put wide =
    let a = type_tree f.1 in
    let own = parents_in a around column (length old + 1) in
    let fs = field_types_of (fields_view rest) in
    let long : length new ≡ length old + length own = ap length put ∙ length-append old own in
    let count : length own ≡ bags a = parents_counted a around column (length old + 1) in
    let number : length new + 1 ≡ length old + 1 + bags a = omega (arith, long, count) in
    ap₂ (λ (l : List (Option Parent)) n. l ++ field_parents fs around after n) put number
    ∙ ap (λ (c : ℕ). (old ++ own) ++ field_parents fs around c (length old + 1 + bags a)) wide
    ∙ append_assoc old own (field_parents fs around (column + width a) (length old + 1 + bags a))

module _ (fields : List (List ℕ × Ty)) (i next_index : ℕ) (f : List ℕ × Ty) (below : i < length fields) (is : f ≡ get_or fields i f) (next_is : next_index ≡ suc i) where
  whole : drop i fields ≡ f ∷ drop next_index fields
  whole =
      drop-cons fields i f below
      ∙ ap₂ (λ (x : List ℕ × Ty) (n : ℕ). x ∷ drop n fields) (sym is) (sym next_is)

  -- the invariant of a walk over fields, one field on
  pub walk_parents : (around column after : ℕ) (old new all : List (Option Parent))
      → new ≡ old ++ parents_in (type_tree f.1) around column (length old + 1) → after ≡ column + width (type_tree f.1)
      → old ++ field_parents (field_types_of (fields_view (drop i fields))) around column (length old + 1) ≡ all
      → new ++ field_parents (field_types_of (fields_view (drop next_index fields))) around after (length new + 1) ≡ all
  walk_parents around column after old new all put wide was =
      parents_more f (drop next_index fields) around column after old new put wide
      ∙ ap (λ (fs : List (List ℕ × Ty)). old ++ field_parents (field_types_of (fields_view fs)) around column (length old + 1)) (sym whole)
      ∙ was

  pub walk_columns : (column after all : ℕ) → after ≡ column + width (type_tree f.1)
      → column + length (fields_columns (field_types_of (fields_view (drop i fields)))) ≡ all
      → after + length (fields_columns (field_types_of (fields_view (drop next_index fields)))) ≡ all
  walk_columns column after all wide was =
      let rest = fields_columns (field_types_of (fields_view (drop next_index fields))) in
      let long : length (fields_columns (field_types_of (fields_view (drop i fields)))) ≡ width (type_tree f.1) + length rest =
      ap (λ (fs : List (List ℕ × Ty)). length (fields_columns (field_types_of (fields_view fs)))) whole ∙ length-append (element_columns (type_tree f.1)) rest in
      omega (arith, wide, long, was)

-- a bag type has as many parents as bags
pub parents_long : (a : TypeTree) → a ≡ bag (element_type a) → length (parents a) ≡ bags a
parents_long int is = cc
parents_long bool is = cc
parents_long text is = cc
parents_long (rec fs) is = cc
parents_long (bag a) is = ap suc (parents_counted a 1 3 2)
parents_long (fun a b) is = cc
