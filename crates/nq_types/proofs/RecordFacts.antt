-- The verdict on a record, from the types of its fields in the order of the text.
use Rattle.std.proofs.Common.{◌≡◌, ℕ, List, ◌∷◌, Result, Ok, Err, IsErrAnd, refl, ap, sym, ◌∙◌, subst}
use Rattle.nq_model.specs.Orders.{by_label}
use Rattle.nq_model.specs.Types.{TypeTree, FieldTypes, type_tree, field_types_of, fields_view as types_view}
use Rattle.nq_model.specs.Terms.{PlacedFields, placed_node, placed_fields}
use Rattle.nq_model.specs.Typing.{put_type}
use Rattle.nq_model.specs.Judging.{Verdict, judged, node_judged, fields_judged, then_judge}
use Rattle.nq_model.proofs.Terms.{node_record, type_of_record}
use Rattle.nq_model.proofs.Typing.{put_type_list}
use Rattle.nq_model.specs.declared.ty.Ty.{Ty}
use Rattle.nq_model.specs.declared.ty.Ty.TheVariants.{Rec as TyRec}
use Rattle.nq_model.specs.declared.term.Term.{Term}
use Rattle.nq_model.specs.declared.term.Node.{Node}
use Rattle.nq_model.specs.declared.term.Node.TheVariants.{Rec as NodeRec}
use Rattle.nq_model.specs.declared.table.Schema.{Schema}
use Rattle.nq_types.specs.declared.fault.CheckFault.{CheckFault}
use Rattle.nq_types.specs.declared.fault.CheckFault.TheVariants.{Memory, Ill}
use Rattle.nq_types.specs.Steps.{Faults, Gives, listed}

abbrev in_order : List (List ℕ × TypeTree) → FieldTypes
in_order types = field_types_of (by_label types)

-- one more field, at the verdicts on it and on the others
one_more : (l : List ℕ) (v : Verdict TypeTree) (fields : Verdict FieldTypes) (w : Verdict (List (List ℕ × TypeTree))) → fields ≡ then_judge w (λ types. Ok (in_order types)) →
    then_judge v (λ k. then_judge fields (λ rest. Ok (put_type l k rest)))
    ≡ then_judge (then_judge v (λ k. then_judge w (λ rest. Ok ((l, k) ∷ rest)))) (λ types. Ok (in_order types))
one_more l (Err e) fields w is = refl
one_more l (Ok k) fields (Err e) is = ap (λ x. then_judge x (λ rest. Ok (put_type l k rest))) is
one_more l (Ok k) fields (Ok types) is =
    ap (λ x. then_judge x (λ rest. Ok (put_type l k rest))) is ∙ ap Ok (sym (put_type_list l k (by_label types)))

module _ (schema : Schema) (cx : List TypeTree) where
  fields_listed : (fs : PlacedFields) → fields_judged schema cx fs ≡ then_judge (listed schema cx fs) (λ types. Ok (in_order types))
  fields_listed PlacedFields.none = refl
  fields_listed (PlacedFields.with_field l t fs) = one_more l (judged schema cx t) (fields_judged schema cx fs) (listed schema cx fs) (fields_listed fs)

  record_judged : (place : ℕ) (node : Node) (fs : List (List ℕ × Term)) → node ≡ NodeRec fs →
      node_judged schema cx place (placed_node node) ≡ then_judge (then_judge (listed schema cx (placed_fields fs)) (λ types. Ok (in_order types))) (λ fields. Ok (TypeTree.rec fields))
  record_judged place node fs is =
      ap (λ n. node_judged schema cx place (placed_node n)) is ∙ ap (node_judged schema cx place) (node_record fs)
      ∙ ap (λ v. then_judge v (λ fields. Ok (TypeTree.rec fields))) (fields_listed (placed_fields fs))

  -- the type of a record whose fields have these types
  pub record_given : (place : ℕ) (node : Node) (fs : List (List ℕ × Term)) (types sorted : List (List ℕ × Ty)) → node ≡ NodeRec fs →
      listed schema cx (placed_fields fs) ≡ Ok (types_view types) → types_view sorted ≡ by_label (types_view types) →
      node_judged schema cx place (placed_node node) ≡ Ok (type_tree (TyRec sorted))
  record_given place node fs types sorted is all order =
      record_judged place node fs is
      ∙ ap (λ v. then_judge (then_judge v (λ types. Ok (in_order types))) (λ fields. Ok (TypeTree.rec fields))) all
      ∙ ap (λ l. Ok (TypeTree.rec (field_types_of l))) (sym order) ∙ ap Ok (sym (type_of_record sorted))

  -- a fault in a field is the record's
  pub record_faults : (place : ℕ) (node : Node) (fs : List (List ℕ × Term)) (e : CheckFault) → node ≡ NodeRec fs →
      Faults (listed schema cx (placed_fields fs)) e → Faults (node_judged schema cx place (placed_node node)) e
  record_faults place node fs Memory is h = tt
  record_faults place node fs (Ill rule at) is h =
      record_judged place node fs is
      ∙ ap (λ v. then_judge (then_judge v (λ types. Ok (in_order types))) (λ fields. Ok (TypeTree.rec fields))) h

-- the fault that a `?` hands on
pub handed_on : (r : Result Ty CheckFault) (e : CheckFault) (v : Verdict TypeTree) → IsErrAnd r (λ x. x ≡ e) → Faults v e → Gives r v
handed_on (Ok ty) e v is h = absurd is
handed_on (Err x) e v is h = let P : CheckFault → Type 0 = λ y. Faults v y in subst P (sym is) h
