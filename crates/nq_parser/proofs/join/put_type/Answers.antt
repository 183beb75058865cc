use Rattle.std.proofs.Common.{◌≡◌, ◌∷◌, ◌++◌, [], max, ap}
use Rattle.nq_model.specs.QueryGrammar.{type_depth, type_fields_depth}
use Rattle.query_syntax.specs.Trees.{type_fields, typed, type_view}
use Rattle.query_syntax.specs.declared.syntax.FieldName.{FieldName}
use Rattle.nq_parser.proofs.Joining.{types_put}
use Rattle.nq_parser.proofs.join.put_type.Goals as goal

pub invariant_of-result-in-Next : goal.invariant_of-result-in-Next
invariant_of-result-in-Next c =
    let f = c.in-Next.before.first_name in
    let e = type_view c.in-Next.before.first.value in
    let xs = c.in-Next.before.others in
    let ys = c.push.new.self in
    let t = c.args.last.ty in
    let name : FieldName = record { before = c.in-Next.comma; place = c.args.place; label = c.args.label; mark = c.args.mark } in
    let longer : ys ≡ xs ++ (name, t) ∷ [] = c.in_ok-push-in-Next.ensures.ok in
    let more = types_put f e xs ys name t longer in
    let d : type_fields_depth (type_fields f e (typed ys)) ≡ max (type_fields_depth (type_fields f e (typed xs))) (type_depth (type_view t)) = ap type_fields_depth more in
    record { measured = cc }

pub returns-in_ok-push-in-Next : goal.returns-in_ok-push-in-Next
returns-in_ok-push-in-Next c =
    let f = c.in-Next.before.first_name in
    let e = type_view c.in-Next.before.first.value in
    let name : FieldName = record { before = c.in-Next.comma; place = c.args.place; label = c.args.label; mark = c.args.mark } in
    rw c.in-Next.is (types_put f e c.in-Next.before.others c.push.new.self name c.args.last.ty c.in_ok-push-in-Next.ensures.ok)
