-- One field more.
use Rattle.std.proofs.Common.{◌≡◌, List, [], ◌∷◌, ◌++◌, ◌∙◌, ap}
use Rattle.nq_model.specs.QueryGrammar.{Syntax, TypeSyntax, One, More, TOne, TMore}
use Rattle.query_syntax.specs.Trees.{syntax_view, type_view, fields, named, type_fields, typed}
use Rattle.query_syntax.proofs.Views.{fields_push, types_push}
use Rattle.query_syntax.specs.declared.syntax.FieldName.{FieldName}
use Rattle.query_syntax.specs.declared.syntax.Syntax.{Syntax as CodeSyntax}
use Rattle.query_syntax.specs.declared.syntax.TypeSyntax.{TypeSyntax as CodeType}

pub fields_put : (f : FieldName) (e : Syntax) (xs ys : List (FieldName × CodeSyntax)) (n : FieldName) (s : CodeSyntax) → ys ≡ xs ++ (n, s) ∷ []
    → fields f e (named ys) ≡ More (fields f e (named xs)) n.before n.place n.label n.mark (syntax_view s)
fields_put f e xs ys n s h = ap (λ z. fields f e (named z)) h ∙ fields_push f e xs (n, s)

pub one_put : (ys : List (FieldName × CodeSyntax)) (n : FieldName) (e : Syntax) → ys ≡ [] → fields n e (named ys) ≡ One n.before n.place n.label n.mark e
one_put ys n e h = ap (λ z. fields n e (named z)) h

pub types_put : (f : FieldName) (t : TypeSyntax) (xs ys : List (FieldName × CodeType)) (n : FieldName) (s : CodeType) → ys ≡ xs ++ (n, s) ∷ []
    → type_fields f t (typed ys) ≡ TMore (type_fields f t (typed xs)) n.before n.place n.label n.mark (type_view s)
types_put f t xs ys n s h = ap (λ z. type_fields f t (typed z)) h ∙ types_push f t xs (n, s)

pub one_type_put : (ys : List (FieldName × CodeType)) (n : FieldName) (t : TypeSyntax) → ys ≡ [] → type_fields n t (typed ys) ≡ TOne n.before n.place n.label n.mark t
one_type_put ys n t h = ap (λ z. type_fields n t (typed z)) h
