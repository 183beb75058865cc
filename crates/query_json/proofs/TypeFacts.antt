-- Record types as JSON: members put in from the last field on.
use Rattle.std.proofs.Common.{◌≡◌, ◌+◌, ◌-◌, ◌<◌, ℕ, suc, List, ◌∷◌, length, drop, get_or, sym, ap, ap₂, ◌∙◌, String, Global, drop-cons, arith, string_bytes, string_cmp}
use Rattle.std.specs.BTreeMap.{insert_entry}
use Rattle.nq_model.specs.Types.{field_types_of, fields_view, type_tree}
use Rattle.nq_model.specs.declared.ty.Ty.{Ty}
use Rattle.serde_json.specs.Data.{put}
use Rattle.serde_json.specs.View.{view, members_view}
use Rattle.serde_json.specs.declared.value.Value.{Value as Json}
use Rattle.serde_json.proofs.Views.{members_view-insert_entry}
use Rattle.query_json.specs.TypeForms.{type_json, fields_json}

abbrev Field : Type 0
Field = List ℕ × Ty

-- one field more, in front
pub field_more : (fields : List Field) (done k : ℕ) (f : Field) (old new : List (String Global × Json)) (name : String Global) (form : Json)
    → done < length fields → k ≡ length fields - 1 - done → f ≡ get_or fields k f
    → string_bytes name ≡ f.0 → view form ≡ type_json (type_tree f.1) → new ≡ insert_entry string_cmp old name form
    → members_view old ≡ fields_json (field_types_of (fields_view (drop (length fields - done) fields)))
    → members_view new ≡ fields_json (field_types_of (fields_view (drop (length fields - (done + 1)) fields)))
field_more fields done k f old new name form below at is named formed inserted was =
    let i = length fields - (done + 1) in
    let first : drop i fields ≡ get_or fields i f ∷ drop (suc i) fields = drop-cons fields i f (omega (arith, below)) in
    let same : k ≡ i = omega (arith, at) in
    let own : f ≡ get_or fields i f = is ∙ ap (λ n. get_or fields n f) same in
    let rest : suc i ≡ length fields - done = omega (arith, below) in
    let whole : drop i fields ≡ f ∷ drop (length fields - done) fields = first ∙ ap₂ (λ (x : Field) n. x ∷ drop n fields) (sym own) rest in
    ap members_view inserted ∙ members_view-insert_entry old name form
    ∙ ap₂ (λ l d. put l d (members_view old)) named formed ∙ ap (put f.0 (type_json (type_tree f.1))) was
    ∙ sym (ap (λ (fs : List Field). fields_json (field_types_of (fields_view fs))) whole)
