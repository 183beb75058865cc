use Rattle.std.proofs.Common.{rules, refl, subst, ◌≡◌, ◌++◌, ◌∷◌, [], Err, Ok, ap, sym, ◌∙◌, append_assoc}
use Rattle.std.specs.Vec.Iter.{into_iter_items}
use Rattle.nq_model.specs.QueryScope.{among}
use Rattle.nq_model.specs.Types.{type_tree, fields_view}
use Rattle.query_syntax.specs.Lowering.{type_lowered}
use Rattle.query_syntax.specs.Trees.{type_view}
use Rattle.query_syntax.proofs.LoweringLists.{WantOr, types_so_far, types_seen, types_more, types_seen_more, record_type_fault, first_type_fault, label_fault, value_fault, value_more, fields_view_push, given}
use Rattle.query_syntax.specs.declared.syntax.FieldName.{FieldName}
use Rattle.query_syntax.specs.declared.syntax.TypeSyntax.{TypeSyntax as CodeType}
use Rattle.query_syntax.proofs.lower_type.+lower_type.Goals as goal

pub lower_type_fields-returns-in_err-put : goal.lower_type_fields-returns-in_err-put
lower_type_fields-returns-in_err-put t c = λ s h.
    let x : FieldName × CodeType = (c.in-Some.name, c.in-Some.syntax) in
    let before = c.loop-name.yielded in
    let rest = into_iter_items c.next.new.self in
    let step : into_iter_items c.loop-name.name-iterator ≡ x ∷ rest = (rw c.in-Some.is at c.next.ensures.steps).0 in
    let all : before ++ x ∷ rest ≡ c.args.others = ap (λ r. before ++ r) (sym step) ∙ c.loop-name.invariant.rest in
    let e = c.in_err-put.field-0.0 in
    let is : c.from_residual-in_err-put.result ≡ Err e = search rules in
    given fields_view c.from_residual-in_err-put.result _ _ e is refl
    (label_fault (λ (s : CodeType). type_lowered (type_view s)) (types_so_far c.args.first_name s) (types_seen c.args.first_name s) (types_more c.args.first_name s) before rest c.args.others x _ e all (c.loop-name.invariant.so_far s h)
    (c.in_err-put.ensures.gives (types_seen c.args.first_name s before) (c.loop-name.invariant.known s)))

pub lower_type_fields-returns-in_err-ty : goal.lower_type_fields-returns-in_err-ty
lower_type_fields-returns-in_err-ty t c = λ s h.
    let x : FieldName × CodeType = (c.in-Some.name, c.in-Some.syntax) in
    let before = c.loop-name.yielded in
    let rest = into_iter_items c.next.new.self in
    let step : into_iter_items c.loop-name.name-iterator ≡ x ∷ rest = (rw c.in-Some.is at c.next.ensures.steps).0 in
    let all : before ++ x ∷ rest ≡ c.args.others = ap (λ r. before ++ r) (sym step) ∙ c.loop-name.invariant.rest in
    let e = c.in_err-ty.field-0.0 in
    let is : c.from_residual-in_err-ty.result ≡ Err e = search rules in
    given fields_view c.from_residual-in_err-ty.result _ _ e is refl
    (value_fault (λ (s : CodeType). type_lowered (type_view s)) (types_so_far c.args.first_name s) (types_seen c.args.first_name s) (types_more c.args.first_name s) before rest c.args.others x _ e all (c.loop-name.invariant.so_far s h)
    (c.in_ok-put.ensures.gives (types_seen c.args.first_name s before) (c.loop-name.invariant.known s)) c.in_err-ty.ensures)

pub lower_type_fields-loop-name-preserved : goal.lower_type_fields-loop-name-preserved
lower_type_fields-loop-name-preserved t c =
    let x : FieldName × CodeType = (c.in-Some.name, c.in-Some.syntax) in
    let before = c.loop-name.yielded in
    let rest = into_iter_items c.next.new.self in
    let step : into_iter_items c.loop-name.name-iterator ≡ x ∷ rest = (rw c.in-Some.is at c.next.ensures.steps).0 in
    let all : before ++ x ∷ rest ≡ c.args.others = ap (λ r. before ++ r) (sym step) ∙ c.loop-name.invariant.rest in
    record {
      rest = append_assoc before (x ∷ []) rest ∙ all;
      so_far = λ s h.
          value_more (λ (s : CodeType). type_lowered (type_view s)) (types_so_far c.args.first_name s) (types_seen c.args.first_name s) (types_more c.args.first_name s) before x (fields_view c.loop-name.lowered) (type_tree c.in_ok-ty.ty) (c.loop-name.invariant.so_far s h)
          (c.in_ok-put.ensures.gives (types_seen c.args.first_name s before) (c.loop-name.invariant.known s)) c.in_ok-ty.ensures
          ∙ ap Ok (sym (ap fields_view c.in_ok-push-2.ensures.ok ∙ fields_view_push c.loop-name.lowered c.in-Some.name.label c.in_ok-ty.ty));
      known = λ s q. c.in_ok-put.ensures.tells (types_seen c.args.first_name s before) (c.loop-name.invariant.known s) q ∙ ap (λ names. among q names) (sym (types_seen_more c.args.first_name s before x));
    }

pub lower_type-returns-in_err-first-in-Rec : goal.lower_type-returns-in_err-first-in-Rec
lower_type-returns-in_err-first-in-Rec t c =
    let first : CodeType = c.in-Rec.first.value in
    let e = c.in_err-first-in-Rec.field-0.0 in
    let is : c.from_residual-in_err-first-in-Rec.result ≡ Err e = search rules in
    record_type_fault c.from_residual-in_err-first-in-Rec.result c.args.syntax c.in-Rec.first_name c.in-Rec.first c.in-Rec.others c.in-Rec.closing e is c.in-Rec.is
    (first_type_fault c.in-Rec.first_name (type_view first) c.in-Rec.others e
    (subst (λ (s : CodeType). WantOr e (type_lowered (type_view s) ≡ Err e)) c.into_inner-in-Rec.ensures c.in_err-first-in-Rec.ensures))
