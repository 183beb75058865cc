-- Values as JSON: items, and members put in from the last field on.
use Rattle.std.proofs.Common.{◌≡◌, ◌≤◌, ℕ, suc, Bool, false, ◌+◌, ◌-◌, ◌<◌, List, [], ◌∷◌, length, map, drop, take, get_or, refl, sym, ap, ap₂, ◌∙◌, String, Global, drop-cons, arith, string_bytes, string_cmp}
use Rattle.std.specs.BTreeMap.{insert_entry}
use Rattle.nq_model.specs.Values.{Nested, nested, fields_of, fields_view, elements_of}
use Rattle.nq_model.specs.declared.value.Value.{Value}
use Rattle.serde_json.specs.Data.{item, put}
use Rattle.std.proofs.lemmas.List.{take_all}
use Rattle.nq_model.specs.Values.{base, rec, bag, Fields, none, field, Elements, end, more}
use Rattle.nq_model.specs.declared.table.Cell.TheVariants as cell
use Rattle.std.proofs.Common.{pos, negsuc}
use Rattle.serde_json.specs.Written.{has_float, items_have_float, members_have_float}
use Rattle.serde_json.specs.View.{view, items_view, items_of, members_view}
use Rattle.serde_json.specs.declared.value.Value.{Value as Json}
use Rattle.serde_json.proofs.Views.{members_view-insert_entry}
use Rattle.nq_json.specs.Json.{json, members_json, items_json}
use Rattle.nq_json.proofs.Floats.{either, no_float_put}

pub items_are : (vs : List Nested) → items_of (map json vs) ≡ items_json (elements_of vs)
items_are [] = refl
items_are (v ∷ vs) = ap (item (json v)) (items_are vs)

abbrev Field : Type 0
Field = List ℕ × Value

-- one field more, in front
pub member_more : (fields : List Field) (done k : ℕ) (f : Field) (old new : List (String Global × Json)) (name : String Global) (form : Json)
    → done < length fields → k ≡ length fields - 1 - done → f ≡ get_or fields k f
    → string_bytes name ≡ f.0 → view form ≡ json (nested f.1) → new ≡ insert_entry string_cmp old name form
    → members_view old ≡ members_json (fields_of (fields_view (drop (length fields - done) fields)))
    → members_view new ≡ members_json (fields_of (fields_view (drop (length fields - (done + 1)) fields)))
member_more fields done k f old new name form below at is named formed inserted was =
    let i = length fields - (done + 1) in
    let first : drop i fields ≡ get_or fields i f ∷ drop (suc i) fields = drop-cons fields i f (omega (arith, below)) in
    let same : k ≡ i = omega (arith, at) in
    let own : f ≡ get_or fields i f = is ∙ ap (λ n. get_or fields n f) same in
    let rest : suc i ≡ length fields - done = omega (arith, below) in
    let whole : drop i fields ≡ f ∷ drop (length fields - done) fields = first ∙ ap₂ (λ (x : Field) n. x ∷ drop n fields) (sym own) rest in
    ap members_view inserted ∙ members_view-insert_entry old name form
    ∙ ap₂ (λ l d. put l d (members_view old)) named formed ∙ ap (put f.0 (json (nested f.1))) was
    ∙ sym (ap (λ (fs : List Field). members_json (fields_of (fields_view fs))) whole)

-- all elements
pub items_all : (elements : List Value) (k : ℕ) (items : List Json) → length elements ≤ k → map view items ≡ map json (map nested (take k elements)) → items_view items ≡ items_json (elements_of (map nested elements))
items_all elements k items high was = ap items_of was ∙ ap (λ (vs : List Value). items_of (map json (map nested vs))) (take_all k elements high) ∙ items_are (map nested elements)

-- no value is a float
mutual
  pub no_float : (v : Nested) → has_float (json v) ≡ false
  no_float (base (cell.Int (pos n))) = refl
  no_float (base (cell.Int (negsuc n))) = refl
  no_float (base (cell.Bool b)) = refl
  no_float (base (cell.Text t)) = refl
  no_float (rec fs) = no_float_fields fs
  no_float (bag vs) = no_float_elements vs

  no_float_fields : (fs : Fields) → members_have_float (members_json fs) ≡ false
  no_float_fields none = refl
  no_float_fields (field l v fs) = no_float_put l (json v) (members_json fs) (no_float v) (no_float_fields fs)

  no_float_elements : (vs : Elements) → items_have_float (items_json vs) ≡ false
  no_float_elements end = refl
  no_float_elements (more v vs) = either (has_float (json v)) (items_have_float (items_json vs)) (no_float v) (no_float_elements vs)
