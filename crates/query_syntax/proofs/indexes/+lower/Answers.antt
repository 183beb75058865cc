use Rattle.std.proofs.Common.{rules, refl, ◌≡◌, ◌++◌, ◌∷◌, [], Err, Ok, ap, sym, ◌∙◌, append_assoc, reverse, subst as along, List, ℕ}
use Rattle.std.specs.Vec.Iter.{into_iter_items}
use Rattle.nq_model.specs.QueryScope.{among}
use Rattle.nq_model.specs.Terms.{PlacedNode, at, placed, placed_fields_of}
use Rattle.nq_model.proofs.Terms.{node_record}
use Rattle.query_syntax.specs.Lowering.{lowered, places_view}
use Rattle.query_syntax.specs.Trees.{syntax_view}
use Rattle.query_syntax.proofs.LoweringLists.{WantOr, terms_so_far, terms_seen, terms_more, terms_seen_more, record_fault, record_whole, first_fault, label_fault, value_fault, value_more, places_view_push, given}
use Rattle.query_syntax.specs.declared.syntax.FieldName.{FieldName}
use Rattle.query_syntax.specs.declared.syntax.Syntax.{Syntax as CodeSyntax}
use Rattle.query_syntax.proofs.indexes.+lower.Goals as goal

pub lower_fields-returns-in_err-put-clause-gives : goal.lower_fields-returns-in_err-put-clause-gives
lower_fields-returns-in_err-put-clause-gives t c = λ s h.
    let x : FieldName × CodeSyntax = (c.in-Some.name, c.in-Some.syntax) in
    let before = c.loop-name.yielded in
    let rest = into_iter_items c.next.new.self in
    let step : into_iter_items c.loop-name.name-iterator ≡ x ∷ rest = (rw c.in-Some.is at c.next.ensures.steps).0 in
    let all : before ++ x ∷ rest ≡ c.args.others = ap (λ r. before ++ r) (sym step) ∙ c.loop-name.invariant.rest in
    let e = c.in_err-put.field-0.0 in
    let is : c.from_residual-in_err-put.result ≡ Err e = search rules in
    given places_view c.from_residual-in_err-put.result _ _ e is refl
    (label_fault (λ (s : CodeSyntax). lowered (syntax_view s) (reverse c.args.scope.now)) (terms_so_far (reverse c.args.scope.now) c.args.first_name s) (terms_seen c.args.first_name s) (terms_more (reverse c.args.scope.now) c.args.first_name s) before rest c.args.others x _ e all (c.loop-name.invariant.so_far s h)
    (c.in_err-put.ensures.gives (terms_seen c.args.first_name s before) (c.loop-name.invariant.known s)))

pub lower_fields-returns-in_err-term-clause-gives : goal.lower_fields-returns-in_err-term-clause-gives
lower_fields-returns-in_err-term-clause-gives t c = λ s h.
    let x : FieldName × CodeSyntax = (c.in-Some.name, c.in-Some.syntax) in
    let before = c.loop-name.yielded in
    let rest = into_iter_items c.next.new.self in
    let step : into_iter_items c.loop-name.name-iterator ≡ x ∷ rest = (rw c.in-Some.is at c.next.ensures.steps).0 in
    let all : before ++ x ∷ rest ≡ c.args.others = ap (λ r. before ++ r) (sym step) ∙ c.loop-name.invariant.rest in
    let e = c.in_err-term.field-0.0 in
    let is : c.from_residual-in_err-term.result ≡ Err e = search rules in
    let scope : c.loop-name.scope ≡ c.args.scope.now = c.loop-name.invariant.kept in
    given places_view c.from_residual-in_err-term.result _ _ e is refl
    (value_fault (λ (s : CodeSyntax). lowered (syntax_view s) (reverse c.args.scope.now)) (terms_so_far (reverse c.args.scope.now) c.args.first_name s) (terms_seen c.args.first_name s) (terms_more (reverse c.args.scope.now) c.args.first_name s) before rest c.args.others x _ e all (c.loop-name.invariant.so_far s h)
    (c.in_ok-put.ensures.gives (terms_seen c.args.first_name s before) (c.loop-name.invariant.known s)) (along (λ (xs : List (List ℕ)). WantOr e (lowered (syntax_view c.in-Some.syntax) (reverse xs) ≡ Err e)) scope c.in_err-term.ensures.gives))

pub lower_fields-loop-name-preserved : goal.lower_fields-loop-name-preserved
lower_fields-loop-name-preserved t c =
    let x : FieldName × CodeSyntax = (c.in-Some.name, c.in-Some.syntax) in
    let before = c.loop-name.yielded in
    let rest = into_iter_items c.next.new.self in
    let step : into_iter_items c.loop-name.name-iterator ≡ x ∷ rest = (rw c.in-Some.is at c.next.ensures.steps).0 in
    let all : before ++ x ∷ rest ≡ c.args.others = ap (λ r. before ++ r) (sym step) ∙ c.loop-name.invariant.rest in
    let scope : c.loop-name.scope ≡ c.args.scope.now = c.loop-name.invariant.kept in
    record {
      rest = append_assoc before (x ∷ []) rest ∙ all;
      so_far = λ s h.
          value_more (λ (s : CodeSyntax). lowered (syntax_view s) (reverse c.args.scope.now)) (terms_so_far (reverse c.args.scope.now) c.args.first_name s) (terms_seen c.args.first_name s) (terms_more (reverse c.args.scope.now) c.args.first_name s) before x (places_view c.loop-name.lowered) (placed c.in_ok-term.term) (c.loop-name.invariant.so_far s h)
          (c.in_ok-put.ensures.gives (terms_seen c.args.first_name s before) (c.loop-name.invariant.known s)) (along (λ (xs : List (List ℕ)). lowered (syntax_view c.in-Some.syntax) (reverse xs) ≡ Ok (placed c.in_ok-term.term)) scope c.in_ok-term.ensures.gives)
          ∙ ap Ok (sym (ap places_view c.in_ok-push-2.ensures.ok ∙ places_view_push c.loop-name.lowered c.in-Some.name.label c.in_ok-term.term));
      known = λ s q. c.in_ok-put.ensures.tells (terms_seen c.args.first_name s before) (c.loop-name.invariant.known s) q ∙ ap (λ names. among q names) (sym (terms_seen_more c.args.first_name s before x));
      kept = c.in_ok-term.ensures.scope ∙ scope;
    }

pub lower_under-returns-in_err-first-in-Rec-clause-gives : goal.lower_under-returns-in_err-first-in-Rec-clause-gives
lower_under-returns-in_err-first-in-Rec-clause-gives t c =
    let first : CodeSyntax = c.in-Rec.first.value in
    let scope = reverse c.args.scope.now in
    let e = c.in_err-first-in-Rec.field-0.0 in
    let is : c.from_residual-in_err-first-in-Rec.result ≡ Err e = search rules in
    record_fault scope c.from_residual-in_err-first-in-Rec.result c.args.syntax c.in-Rec.first_name c.in-Rec.first c.in-Rec.others c.in-Rec.closing e is c.in-Rec.is
    (first_fault scope c.in-Rec.first_name (syntax_view first) c.in-Rec.others e
    (along (λ (s : CodeSyntax). WantOr e (lowered (syntax_view s) scope ≡ Err e)) c.into_inner-in-Rec.ensures c.in_err-first-in-Rec.ensures.gives))

pub lower_under-returns-in_ok-fields-in-Rec-clause-gives : goal.lower_under-returns-in_ok-fields-in-Rec-clause-gives
lower_under-returns-in_ok-fields-in-Rec-clause-gives t c =
    let f : FieldName = c.in-Rec.first_name in
    let first : CodeSyntax = c.in-Rec.first.value in
    let now = c.args.scope.now in
    let parts = places_view c.in_ok-fields-in-Rec.fields in
    let known : lowered (syntax_view first) (reverse now) ≡ Ok (placed c.in_ok-first-in-Rec.first) =
    along (λ (s : CodeSyntax). lowered (syntax_view s) (reverse now) ≡ Ok (placed c.in_ok-first-in-Rec.first)) c.into_inner-in-Rec.ensures c.in_ok-first-in-Rec.ensures.gives in
    let fields : terms_so_far (reverse now) f (syntax_view first) c.in-Rec.others ≡ Ok parts =
    along (λ (xs : List (List ℕ)). lowered (syntax_view first) (reverse xs) ≡ Ok (placed c.in_ok-first-in-Rec.first) → terms_so_far (reverse xs) f (syntax_view first) c.in-Rec.others ≡ Ok parts)
    c.in_ok-first-in-Rec.ensures.scope (c.in_ok-fields-in-Rec.ensures.gives (syntax_view first)) known in
    let whole : placed c.term-in-Rec.result ≡ at f.before (PlacedNode.rec (placed_fields_of parts)) = c.term-in-Rec.ensures ∙ ap (at f.before) (node_record c.in_ok-fields-in-Rec.fields) in
    record_whole (reverse now) c.args.syntax f c.in-Rec.first c.in-Rec.others c.in-Rec.closing parts c.in-Rec.is fields ∙ ap Ok (sym whole)
