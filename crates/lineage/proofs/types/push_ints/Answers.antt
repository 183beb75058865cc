use Rattle.std.proofs.Common.{◌≡◌, ◌++◌, ◌+◌, ◌-◌, ◌∷◌, [], List, ap, ap₂, ◌∙◌, subst, arith}
use Rattle.std.proofs.lemmas.List.{map-append}
use Rattle.nq_model.specs.NamedRows.{Label}
use Rattle.nq_model.specs.Types.{TypeTree, int, type_tree, fields_view}
use Rattle.nq_model.specs.declared.ty.Ty.{Ty}
use Rattle.nq_model.specs.declared.ty.Ty.TheVariants as ty
use Rattle.lineage.proofs.Steps.{ints_step, pushed}
use Rattle.lineage.proofs.Views.{type_int}
use Rattle.lineage.specs.TraceForms.{row_label, row_fields, ints}
use Rattle.lineage.proofs.types.push_ints.Goals as goal

pub loop-place-preserved : goal.loop-place-preserved
loop-place-preserved c =
    let k = c.loop-place.place in
    let n = c.args.count in
    let before = c.loop-place.fields.items in
    let all : List (Label × TypeTree) =
    fields_view c.args.fields.now.items ++ row_fields 1 (ints n) [] in
    let new : fields_view c.push.new.self.items
    ≡ fields_view before ++ (row_label (k + 1), int) ∷ [] =
    ap fields_view c.in_ok-push.ensures.items
    ∙ map-append (λ (f : Label × Ty). (f.0, type_tree f.1)) before ((
      c.in_ok-row_label.field-0,
      ty.Int,
    ) ∷ [])
    ∙ ap₂ (λ (l : Label) (a : TypeTree). fields_view before ++ (l, a) ∷ [])
    c.in_ok-row_label.ensures type_int in
    pushed (fields_view before) (fields_view c.push.new.self.items) all k int (ints (n - (k + 1)))
    new
    (subst (λ (rs : List TypeTree). fields_view before ++ row_fields (k + 1) rs [] ≡ all)
    (ints_step n k (omega (arith, c.loop-place-test.true))) c.loop-place.invariant)
