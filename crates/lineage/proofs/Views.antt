-- Traced values, types, bodies and comprehensions by their parts.
use Rattle.std.proofs.Common.{◌≡◌, ℕ, suc, ℤ, Bool, List, [], ◌∷◌, ◌++◌, map, refl, sym, ap, ◌∙◌}
use Rattle.nq_ir.specs.Trees.{BodyTree, bodies_of, with_body, comps_of, comp, CompPart, FormTree}
use Rattle.nq_ir.specs.Trees.{form_tree, comp_part, body_layer, comp_layer, normal_layer}
use Rattle.nq_ir.proofs.Forms.{body_plain, body_rec, body_bag, form_is}
use Rattle.nq_ir.specs.declared.normal.Comp.{Comp}
use Rattle.nq_ir.specs.declared.normal.Normal.{fold-roll-Normal, roll-Normal}
use Rattle.nq_model.specs.declared.ty.Ty.{Ty, Ty-F, fold-roll-Ty}
use Rattle.nq_model.specs.declared.ty.Ty.TheVariants as ty
use Rattle.nq_model.proofs.Sameness.{elements_back}
use Rattle.nq_model.proofs.Trees.{nested_record, nested_bag}
use Rattle.nq_model.specs.NamedRows.{Label}
use Rattle.nq_model.specs.Types.{TypeTree, field_types_of, field as type_field, type_tree}
use Rattle.nq_model.specs.Types.{type_layer}
use Rattle.nq_model.specs.Values.{Nested, base, rec, rec_of, bag_of, field, fields_of, elements_of}
use Rattle.nq_model.specs.Values.{more}
use Rattle.nq_model.specs.declared.table.Cell.TheVariants as cell
use Rattle.traced_meaning.specs.TracedValues.{element_of, rows_value, erased, erased_fields}
use Rattle.traced_meaning.specs.TracedValues.{erased_elements, erased_element}
use Rattle.lineage.specs.Decoding.{decoded, decoded_fields, decoded_elements, decoded_element}
use Rattle.lineage.specs.ListedTables.{ByTag}
use Rattle.lineage.specs.Places.{inside, under, tags_in}
use Rattle.lineage.specs.TraceForms.{type_traced, types_traced, body_traced, bodies_traced}
use Rattle.lineage.specs.TraceForms.{comps_traced, part_traced, whole_label, row_label, row_fields}
use Rattle.lineage.specs.TracedTrees.{row_name, traced, traced_element, traced_fields, traced_layer}
use Rattle.lineage.specs.TracedTrees.{element_layer}
use Rattle.lineage.specs.declared.traced.Traced.{Traced, Traced-F, fold-roll-Traced}
use Rattle.lineage.specs.declared.traced.Traced.TheVariants as value
use Rattle.lineage.specs.declared.traced.TracedElement.{TracedElement, fold-roll-TracedElement}

-- traced values
pub traced_int : (n : ℤ) → traced (value.Int n) ≡ base (cell.Int n)
traced_int n = ap traced (sym (value.rolls-Int n))
    ∙ fold-roll-Traced Nested Nested traced_layer element_layer (Traced-F.Int n)

pub traced_bool : (b : Bool) → traced (value.Bool b) ≡ base (cell.Bool b)
traced_bool b = ap traced (sym (value.rolls-Bool b))
    ∙ fold-roll-Traced Nested Nested traced_layer element_layer (Traced-F.Bool b)

pub traced_text : (t : List ℕ) → traced (value.Text t) ≡ base (cell.Text t)
traced_text t = ap traced (sym (value.rolls-Text t))
    ∙ fold-roll-Traced Nested Nested traced_layer element_layer (Traced-F.Text t)

pub traced_record : (fs : List (Label × Traced)) → traced (value.Rec fs) ≡ rec_of (traced_fields fs)
traced_record fs = ap traced (sym (value.rolls-Rec fs))
    ∙ fold-roll-Traced Nested Nested traced_layer element_layer (Traced-F.Rec fs)

pub traced_bag : (vs : List TracedElement) → traced (value.Bag vs) ≡ bag_of (map traced_element vs)
traced_bag vs = ap traced (sym (value.rolls-Bag vs))
    ∙ fold-roll-Traced Nested Nested traced_layer element_layer (Traced-F.Bag vs)

pub element_is : (e : TracedElement) → traced_element e
    ≡ element_of (traced e.value) (rows_value (map row_name e.rows))
element_is e = fold-roll-TracedElement Nested Nested traced_layer element_layer (record {
  value =
      e.value;
  rows = e.rows;
})

-- types, bodies and comprehensions of the traced form
pub types_listed : (here : List BodyTree) (fs : List (Label × TypeTree))
    → types_traced here (field_types_of fs)
    ≡ field_types_of (map (λ f. (f.0, type_traced (under f.0 here) f.1)) fs)
types_listed here [] = refl
types_listed here (f ∷ fs) =
    ap (type_field f.0 (type_traced (under f.0 here) f.1)) (types_listed here fs)

pub bodies_listed : (here : List BodyTree) (fs : List (Label × BodyTree))
    → bodies_traced here (bodies_of fs)
    ≡ bodies_of (map (λ f. (f.0, body_traced (under f.0 here) f.1)) fs)
bodies_listed here [] = refl
bodies_listed here (f ∷ fs) =
    ap (with_body f.0 (body_traced (under f.0 here) f.1)) (bodies_listed here fs)

pub comps_listed : (n : ℕ) (here : List BodyTree) (cs : List CompPart)
    → comps_traced n here (comps_of cs) ≡ comps_of (map (part_traced n here) cs)
comps_listed n here [] = refl
comps_listed n here (c ∷ cs) =
    ap (comp c.tag c.gens c.conds (part_traced n here c).body) (comps_listed n here cs)

-- what records and bags are decoded to
pub fields_listed : (es : ByTag) (here : List BodyTree) (fs : List (Label × Nested))
    → decoded_fields es here (fields_of fs)
    ≡ fields_of (map (λ f. (f.0, decoded es (under f.0 here) f.1)) fs)
fields_listed es here [] = refl
fields_listed es here (f ∷ fs) =
    ap (field f.0 (decoded es (under f.0 here) f.1)) (fields_listed es here fs)

pub elements_listed : (es : ByTag) (ts : List ℕ) (here : List BodyTree) (vs : List Nested)
    → decoded_elements es ts here (elements_of vs)
    ≡ elements_of (map (decoded_element es ts here) vs)
elements_listed es ts here [] = refl
elements_listed es ts here (v ∷ vs) =
    ap (more (decoded_element es ts here v)) (elements_listed es ts here vs)

pub decoded_record : (es : ByTag) (here : List BodyTree) (fs : List (Label × Nested))
    → decoded es here (rec_of fs) ≡ rec_of (map (λ f. (f.0, decoded es (under f.0 here) f.1)) fs)
decoded_record es here fs = ap rec (fields_listed es here fs)

pub decoded_bag : (es : ByTag) (here : List BodyTree) (vs : List Nested)
    → decoded es here (bag_of vs)
    ≡ bag_of (map (decoded_element es (tags_in here) (under whole_label (inside here))) vs)
decoded_bag es here vs =
    ap Nested.bag (elements_listed es (tags_in here) (under whole_label (inside here)) vs)

-- and what they are without their rows
pub erased_record : (fs : List (Label × Nested)) → erased (rec_of fs)
    ≡ rec_of (map (λ f. (f.0, erased f.1)) fs)
erased_record fs = ap rec (go fs)
  where
    go : (fs : List (Label × Nested)) → erased_fields (fields_of fs)
        ≡ fields_of (map (λ f. (f.0, erased f.1)) fs)
    go [] = refl
    go (f ∷ fs) = ap (field f.0 (erased f.1)) (go fs)

pub erased_bag : (vs : List Nested) → erased (bag_of vs) ≡ bag_of (map erased_element vs)
erased_bag vs = ap Nested.bag (go vs)
  where
    go : (vs : List Nested) → erased_elements (elements_of vs) ≡ elements_of (map erased_element vs)
    go [] = refl
    go (v ∷ vs) = ap (more (erased_element v)) (go vs)

-- the numbers of an element, and what stands behind them
pub rows_then : {A : Type 0} (k : ℕ) (rs : List A) (last : List (Label × A))
    → row_fields k rs [] ++ last ≡ row_fields k rs last
rows_then k [] last = refl
rows_then {A} k (r ∷ rs) last =
    ap (λ (l : List (Label × A)). (row_label k, r) ∷ l) (rows_then (suc k) rs last)

pub form_made : (element : Ty) (parts : List Comp)
    → form_tree (roll-Normal (record { element = element; parts = parts }))
    ≡ record { element = type_tree element; comps = comps_of (map comp_part parts) }
form_made element parts =
    fold-roll-Normal BodyTree CompPart FormTree body_layer comp_layer normal_layer
    (record { element = element; parts = parts })

pub type_int : type_tree ty.Int ≡ TypeTree.int
type_int = ap type_tree (sym ty.rolls-Int) ∙ fold-roll-Ty TypeTree type_layer Ty-F.Int

-- the equations by which a function takes apart what it walks
pub ruleset body_forms = (body_plain, body_rec, body_bag, form_is)

pub ruleset listed_forms = (body_plain, body_rec, body_bag, form_is, bodies_listed, comps_listed)

pub ruleset read_forms = (nested_record, nested_bag, elements_back)

pub ruleset traced_forms = (
  nested_record,
  nested_bag,
  traced_record,
  traced_bag,
  traced_int,
  traced_bool,
  traced_text,
)

pub ruleset decoded_forms = (decoded_record, decoded_bag)

pub ruleset erased_forms = (erased_record, erased_bag)

pub ruleset element_forms = (nested_record, nested_bag, traced_bool, element_is)
