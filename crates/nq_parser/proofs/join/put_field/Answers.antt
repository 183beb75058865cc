use Rattle.std.proofs.Common.{◌≡◌, ◌∷◌, ◌++◌, [], max, ap, ◌∙◌}
use Rattle.nq_model.specs.QueryGrammar.{More, depth, deepest, fields_depth, fields_deepest}
use Rattle.query_syntax.specs.Trees.{fields as record_fields, named, syntax_view}
use Rattle.query_syntax.specs.declared.syntax.FieldName.{FieldName}
use Rattle.nq_parser.specs.Forms.{part_view}
use Rattle.nq_parser.proofs.Joining.{fields_put, one_put}
use Rattle.nq_parser.proofs.join.put_field.Goals as goal

pub invariant_of-result-in-Next : goal.invariant_of-result-in-Next
invariant_of-result-in-Next c =
    let f = c.in-Next.before.first_name in
    let e = syntax_view c.in-Next.before.first.value in
    let xs = c.in-Next.before.others in
    let ys = c.push.new.self in
    let s = c.into_inner-syntax.result in
    let name : FieldName = record { before = c.in-Next.comma; place = c.args.place; label = c.args.label; mark = c.args.mark } in
    let longer : ys ≡ xs ++ (name, s) ∷ [] = c.in_ok-push-in-Next.ensures.ok in
    let more = fields_put f e xs ys name s longer in
    let d : fields_depth (record_fields f e (named ys)) ≡ max (fields_depth (record_fields f e (named xs))) (depth (syntax_view s)) = ap fields_depth more in
    let t : fields_deepest (record_fields f e (named ys)) ≡ max (fields_deepest (record_fields f e (named xs))) (deepest (syntax_view s)) = ap fields_deepest more in
    record { measured = cc; types_measured = cc }

pub returns-in_ok-push-in-Next : goal.returns-in_ok-push-in-Next
returns-in_ok-push-in-Next c =
    let f = c.in-Next.before.first_name in
    let e = syntax_view c.in-Next.before.first.value in
    let xs = c.in-Next.before.others in
    let s = c.into_inner-syntax.result in
    let name : FieldName = record { before = c.in-Next.comma; place = c.args.place; label = c.args.label; mark = c.args.mark } in
    let same : s ≡ c.args.last.syntax.value = c.into_inner-syntax.ensures in
    rw c.in-Next.is
    (fields_put f e xs c.push.new.self name s c.in_ok-push-in-Next.ensures.ok
    ∙ ap (λ z. More (record_fields f e (named xs)) c.in-Next.comma c.args.place c.args.label c.args.mark (syntax_view z)) same)

pub returns-in-First : goal.returns-in-First
returns-in-First c =
    let name : FieldName = record { before = c.in-First.opening; place = c.args.place; label = c.args.label; mark = c.args.mark } in
    rw c.in-First.is (one_put c.new.result name (part_view c.args.last) c.new.ensures)
