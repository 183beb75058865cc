use Rattle.std.proofs.Common.{◌≡◌, ◌++◌, ◌+◌, ◌-◌, ◌∷◌, [], List, ap, ap₂, ◌∙◌, subst, arith, drop}
use Rattle.std.proofs.Common.{slice_get}
use Rattle.std.proofs.lemmas.List.{map-append}
use Rattle.nq_ir.specs.Trees.{BodyTree, body_tree}
use Rattle.nq_ir.specs.declared.normal.Body.{Body}
use Rattle.nq_model.specs.NamedRows.{Label}
use Rattle.lineage.proofs.Steps.{numbers_step, pushed, looked}
use Rattle.lineage.specs.Places.{bodies_view}
use Rattle.lineage.specs.TraceForms.{row_label, row_fields, number_body, number_bodies}
use Rattle.lineage.proofs.bodies.push_numbers.Goals as goal

pub loop-place-preserved : goal.loop-place-preserved
loop-place-preserved c =
    let k = c.loop-place.place in
    let n = c.args.count in
    let gens = c.args.gens.now in
    let before = c.loop-place.fields.items in
    let all : List (Label × BodyTree) =
    bodies_view c.args.fields.now.items ++ row_fields 1 (number_bodies n gens) [] in
    let own : body_tree c.in_ok-number.number ≡ number_body (slice_get gens k) =
    c.in_ok-number.ensures ∙ ap number_body (looked gens k c.get.result c.get.ensures.lookup.3) in
    let new : bodies_view c.push.new.self.items
    ≡ bodies_view before ++ (row_label (k + 1), number_body (slice_get gens k)) ∷ [] =
    ap bodies_view c.in_ok-push.ensures.items
    ∙ map-append (λ (f : Label × Body). (f.0, body_tree f.1)) before
    ((c.in_ok-row_label.field-0, c.in_ok-number.number) ∷ [])
    ∙ ap₂ (λ (l : Label) (b : BodyTree). bodies_view before ++ (l, b) ∷ [])
    c.in_ok-row_label.ensures own in
    pushed (bodies_view before) (bodies_view c.push.new.self.items) all k
    (number_body (slice_get gens k)) (number_bodies (n - (k + 1)) (drop (k + 1) gens)) new
    (subst (λ (rs : List BodyTree). bodies_view before ++ row_fields (k + 1) rs [] ≡ all)
    (numbers_step n k gens (omega (arith, c.loop-place-test.true))) c.loop-place.invariant)
