-- No float stands in the JSON form of a query.
use Rattle.std.proofs.Common.{◌≡◌, Option, ◌||◌, ℕ, suc, false, List, [], ◌∷◌, Some, None, refl}
use Rattle.nq_model.specs.Types.{TypeTree, int, bool, text, rec, bag, fun, FieldTypes, none, field}
use Rattle.nq_model.specs.declared.table.ColumnType.{ColumnType}
use Rattle.nq_ir.specs.Paths.{paths}
use Rattle.nq_ir.specs.declared.path.Step.{Step}
use Rattle.shred_types.specs.Columns.{columns_at}
use Rattle.serde_json.specs.View.{items_of}
use Rattle.serde_json.specs.Written.{has_float, items_have_float, members_have_float}
use Rattle.nq_json.proofs.Floats.{either, no_float_put}
use Rattle.query_json.specs.Parents.{parents}
use Rattle.query_json.specs.QueryForms.{columns_from, parent_json, text_json, texts_json, query_json}
use Rattle.query_json.specs.TypeForms.{type_json, fields_json}
use Rattle.query_json.specs.declared.parents.Parent.{Parent}

mutual
  type_whole : (a : TypeTree) → has_float (type_json a) ≡ false
  type_whole int = refl
  type_whole bool = refl
  type_whole text = refl
  type_whole (rec fs) = either (members_have_float (fields_json fs)) false (fields_whole fs) refl
  type_whole (bag a) = either (has_float (type_json a)) false (type_whole a) refl
  type_whole (fun a b) =
      either (has_float (type_json a) || (has_float (type_json b) || false)) false
      (either (has_float (type_json a)) (has_float (type_json b) || false) (type_whole a) (either (has_float (type_json b)) false (type_whole b) refl)) refl

  fields_whole : (fs : FieldTypes) → members_have_float (fields_json fs) ≡ false
  fields_whole none = refl
  fields_whole (field l a fs) = no_float_put l (type_json a) (fields_json fs) (type_whole a) (fields_whole fs)

columns_whole : (place : ℕ) (types : List ColumnType) → items_have_float (items_of (columns_from place types)) ≡ false
columns_whole place [] = refl
columns_whole place (type ∷ types) = columns_whole (suc place) types

parent_whole : (parent : Option Parent) → has_float (parent_json parent) ≡ false
parent_whole None = refl
parent_whole (Some parent) = refl

text_whole : (columns : List ColumnType) (parent : Option Parent) (path : List Step) (sql : List ℕ) → has_float (text_json columns parent path sql) ≡ false
text_whole columns parent path sql =
    either (items_have_float (items_of (columns_from 0 columns))) (has_float (parent_json parent) || false) (columns_whole 0 columns)
    (either (has_float (parent_json parent)) false (parent_whole parent) refl)

texts_whole : (type : TypeTree) (ps : List (List Step)) (es : List (Option Parent)) (ss : List (List ℕ)) → items_have_float (items_of (texts_json type ps es ss)) ≡ false
texts_whole type [] es ss = refl
texts_whole type (p ∷ ps) [] ss = refl
texts_whole type (p ∷ ps) (e ∷ es) [] = refl
texts_whole type (p ∷ ps) (e ∷ es) (s ∷ ss) =
    either (has_float (text_json (columns_at type p) e p s)) (items_have_float (items_of (texts_json type ps es ss)))
    (text_whole (columns_at type p) e p s) (texts_whole type ps es ss)

pub query_whole : (type : TypeTree) (texts : List (List ℕ)) → has_float (query_json type texts) ≡ false
query_whole type texts =
    either (items_have_float (items_of (texts_json type (paths type) (parents type) texts))) (has_float (type_json type) || false)
    (texts_whole type (paths type) (parents type) texts) (either (has_float (type_json type)) false (type_whole type) refl)
