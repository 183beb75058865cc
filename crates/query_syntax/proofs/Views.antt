-- The views of the reader's trees, form by form.
use Rattle.std.proofs.Common.{◌≡◌, ℕ, Bool, List, [], ◌∷◌, ◌++◌, refl, sym, ap, ◌∙◌, Box, Global}
use Rattle.std.proofs.lemmas.List.{map-append}
use Rattle.nq_model.specs.QueryTokens.{Number, Literal}
use Rattle.nq_model.specs.QueryGrammar.{TypeSyntax, TBase, TBag, TParen, TNoFields, TRec, TFun, Syntax, Const, Truth, Var, Table, Aggregated, Paren, NoFields, Rec, Bag, Nil, For, Where, If, Fun, Let, Prefix, Infix, Apply, Field, Fields, One, More, TypeFields, TOne, TMore}
use Rattle.nq_model.specs.declared.term.Unary.{Unary as UnaryOp}
use Rattle.nq_model.specs.declared.table.ColumnType.{ColumnType}
use Rattle.query_syntax.specs.Symbols.{operator_view}
use Rattle.query_syntax.specs.Trees.{aggregate_view, grow_types, type_fields, type_layer, type_view, typed, grow, fields, layer, syntax_view, named}
use Rattle.query_syntax.specs.declared.symbol.Operator.{Operator as CodeOperator}
use Rattle.query_syntax.specs.declared.symbol.Whole.{Whole}
use Rattle.query_syntax.specs.declared.syntax.Aggregate.{Aggregate as CodeAggregate}
use Rattle.query_syntax.specs.declared.syntax.FieldName.{FieldName}
use Rattle.query_syntax.specs.declared.syntax.Variable.{Variable}
use Rattle.query_syntax.specs.declared.syntax.TypeSyntax.{TypeSyntax as CodeType, TypeSyntax-F, fold-roll-TypeSyntax}
use Rattle.query_syntax.specs.declared.syntax.TypeSyntax.TheVariants as types
use Rattle.query_syntax.specs.declared.syntax.Syntax.{Syntax as CodeSyntax, Syntax-F, fold-roll-Syntax}
use Rattle.query_syntax.specs.declared.syntax.Syntax.TheVariants as forms

pub type_base : (p : ℕ) (b : ColumnType) → type_view (types.Base p b) ≡ TBase p b
type_base p b = ap type_view (sym (types.rolls-Base p b)) ∙ fold-roll-TypeSyntax TypeSyntax type_layer (TypeSyntax-F.Base p b)

pub type_bag : (p : ℕ) (t : Box CodeType Global) (q : ℕ) → type_view (types.Bag p t q) ≡ TBag p (type_view t.value) q
type_bag p t q = ap type_view (sym (types.rolls-Bag p t q)) ∙ fold-roll-TypeSyntax TypeSyntax type_layer (TypeSyntax-F.Bag p t q)

pub type_paren : (p : ℕ) (t : Box CodeType Global) (q : ℕ) → type_view (types.Paren p t q) ≡ TParen p (type_view t.value) q
type_paren p t q = ap type_view (sym (types.rolls-Paren p t q)) ∙ fold-roll-TypeSyntax TypeSyntax type_layer (TypeSyntax-F.Paren p t q)

pub type_nofields : (p q : ℕ) → type_view (types.NoFields p q) ≡ TNoFields p q
type_nofields p q = ap type_view (sym (types.rolls-NoFields p q)) ∙ fold-roll-TypeSyntax TypeSyntax type_layer (TypeSyntax-F.NoFields p q)

pub type_rec : (x : FieldName) (t : Box CodeType Global) (fs : List (FieldName × CodeType)) (q : ℕ) → type_view (types.Rec x t fs q) ≡ TRec (type_fields x (type_view t.value) (typed fs)) q
type_rec x t fs q = ap type_view (sym (types.rolls-Rec x t fs q)) ∙ fold-roll-TypeSyntax TypeSyntax type_layer (TypeSyntax-F.Rec x t fs q)

pub type_fun : (a : Box CodeType Global) (p : ℕ) (t : Box CodeType Global) → type_view (types.Fun a p t) ≡ TFun (type_view a.value) p (type_view t.value)
type_fun a p t = ap type_view (sym (types.rolls-Fun a p t)) ∙ fold-roll-TypeSyntax TypeSyntax type_layer (TypeSyntax-F.Fun a p t)

pub form_number : (p : ℕ) (n : Whole) → syntax_view (forms.Number p n) ≡ Const p (Number n.value n.digits)
form_number p n = ap syntax_view (sym (forms.rolls-Number p n)) ∙ fold-roll-Syntax Syntax layer (Syntax-F.Number p n)

pub form_literal : (p : ℕ) (t : List ℕ) → syntax_view (forms.Literal p t) ≡ Const p (Literal t)
form_literal p t = ap syntax_view (sym (forms.rolls-Literal p t)) ∙ fold-roll-Syntax Syntax layer (Syntax-F.Literal p t)

pub form_truth : (p : ℕ) (b : Bool) → syntax_view (forms.Truth p b) ≡ Truth p b
form_truth p b = ap syntax_view (sym (forms.rolls-Truth p b)) ∙ fold-roll-Syntax Syntax layer (Syntax-F.Truth p b)

pub form_var : (p : ℕ) (x : List ℕ) → syntax_view (forms.Var p x) ≡ Var p x
form_var p x = ap syntax_view (sym (forms.rolls-Var p x)) ∙ fold-roll-Syntax Syntax layer (Syntax-F.Var p x)

pub form_table : (p v : ℕ) (l : List ℕ) → syntax_view (forms.Table p v l) ≡ Table p v l
form_table p v l = ap syntax_view (sym (forms.rolls-Table p v l)) ∙ fold-roll-Syntax Syntax layer (Syntax-F.Table p v l)

pub form_aggregated : (g : CodeAggregate) (p o : ℕ) (e : Box CodeSyntax Global) (c : ℕ) → syntax_view (forms.Aggregated g p o e c) ≡ Aggregated (aggregate_view g) p o (syntax_view e.value) c
form_aggregated g p o e c = ap syntax_view (sym (forms.rolls-Aggregated g p o e c)) ∙ fold-roll-Syntax Syntax layer (Syntax-F.Aggregated g p o e c)

pub form_paren : (p : ℕ) (e : Box CodeSyntax Global) (q : ℕ) → syntax_view (forms.Paren p e q) ≡ Paren p (syntax_view e.value) q
form_paren p e q = ap syntax_view (sym (forms.rolls-Paren p e q)) ∙ fold-roll-Syntax Syntax layer (Syntax-F.Paren p e q)

pub form_nofields : (p q : ℕ) → syntax_view (forms.NoFields p q) ≡ NoFields p q
form_nofields p q = ap syntax_view (sym (forms.rolls-NoFields p q)) ∙ fold-roll-Syntax Syntax layer (Syntax-F.NoFields p q)

pub form_rec : (x : FieldName) (e : Box CodeSyntax Global) (fs : List (FieldName × CodeSyntax)) (q : ℕ) → syntax_view (forms.Rec x e fs q) ≡ Rec (fields x (syntax_view e.value) (named fs)) q
form_rec x e fs q = ap syntax_view (sym (forms.rolls-Rec x e fs q)) ∙ fold-roll-Syntax Syntax layer (Syntax-F.Rec x e fs q)

pub form_bag : (p : ℕ) (e : Box CodeSyntax Global) (q : ℕ) → syntax_view (forms.Bag p e q) ≡ Bag p (syntax_view e.value) q
form_bag p e q = ap syntax_view (sym (forms.rolls-Bag p e q)) ∙ fold-roll-Syntax Syntax layer (Syntax-F.Bag p e q)

pub form_nil : (p c : ℕ) (t : CodeType) (q : ℕ) → syntax_view (forms.Nil p c t q) ≡ Nil p c (type_view t) q
form_nil p c t q = ap syntax_view (sym (forms.rolls-Nil p c t q)) ∙ fold-roll-Syntax Syntax layer (Syntax-F.Nil p c t q)

pub form_for : (p o : ℕ) (x : Variable) (a : ℕ) (m : Box CodeSyntax Global) (c : ℕ) (n : Box CodeSyntax Global) → syntax_view (forms.For p o x a m c n) ≡ For p o x.place x.name a (syntax_view m.value) c (syntax_view n.value)
form_for p o x a m c n = ap syntax_view (sym (forms.rolls-For p o x a m c n)) ∙ fold-roll-Syntax Syntax layer (Syntax-F.For p o x a m c n)

pub form_where : (p o : ℕ) (t : Box CodeSyntax Global) (c : ℕ) (n : Box CodeSyntax Global) → syntax_view (forms.Where p o t c n) ≡ Where p o (syntax_view t.value) c (syntax_view n.value)
form_where p o t c n = ap syntax_view (sym (forms.rolls-Where p o t c n)) ∙ fold-roll-Syntax Syntax layer (Syntax-F.Where p o t c n)

pub form_if : (p : ℕ) (t : Box CodeSyntax Global) (q : ℕ) (y : Box CodeSyntax Global) (r : ℕ) (n : Box CodeSyntax Global) → syntax_view (forms.If p t q y r n) ≡ If p (syntax_view t.value) q (syntax_view y.value) r (syntax_view n.value)
form_if p t q y r n = ap syntax_view (sym (forms.rolls-If p t q y r n)) ∙ fold-roll-Syntax Syntax layer (Syntax-F.If p t q y r n)

pub form_fun : (p o : ℕ) (x : Variable) (c : ℕ) (t : CodeType) (z a : ℕ) (n : Box CodeSyntax Global) → syntax_view (forms.Fun p o x c t z a n) ≡ Fun p o x.place x.name c (type_view t) z a (syntax_view n.value)
form_fun p o x c t z a n = ap syntax_view (sym (forms.rolls-Fun p o x c t z a n)) ∙ fold-roll-Syntax Syntax layer (Syntax-F.Fun p o x c t z a n)

pub form_let : (p : ℕ) (x : Variable) (a : ℕ) (m : Box CodeSyntax Global) (s : ℕ) (n : Box CodeSyntax Global) → syntax_view (forms.Let p x a m s n) ≡ Let p x.place x.name a (syntax_view m.value) s (syntax_view n.value)
form_let p x a m s n = ap syntax_view (sym (forms.rolls-Let p x a m s n)) ∙ fold-roll-Syntax Syntax layer (Syntax-F.Let p x a m s n)

pub form_prefix : (p : ℕ) (u : UnaryOp) (e : Box CodeSyntax Global) → syntax_view (forms.Prefix p u e) ≡ Prefix p u (syntax_view e.value)
form_prefix p u e = ap syntax_view (sym (forms.rolls-Prefix p u e)) ∙ fold-roll-Syntax Syntax layer (Syntax-F.Prefix p u e)

pub form_infix : (l : Box CodeSyntax Global) (p : ℕ) (op : CodeOperator) (r : Box CodeSyntax Global) → syntax_view (forms.Infix l p op r) ≡ Infix (syntax_view l.value) p (operator_view op) (syntax_view r.value)
form_infix l p op r = ap syntax_view (sym (forms.rolls-Infix l p op r)) ∙ fold-roll-Syntax Syntax layer (Syntax-F.Infix l p op r)

pub form_apply : (f : Box CodeSyntax Global) (p : ℕ) (a : Box CodeSyntax Global) (q : ℕ) → syntax_view (forms.Apply f p a q) ≡ Apply (syntax_view f.value) p (syntax_view a.value) q
form_apply f p a q = ap syntax_view (sym (forms.rolls-Apply f p a q)) ∙ fold-roll-Syntax Syntax layer (Syntax-F.Apply f p a q)

pub form_field : (e : Box CodeSyntax Global) (p v : ℕ) (l : List ℕ) → syntax_view (forms.Field e p v l) ≡ Field (syntax_view e.value) p v l
form_field e p v l = ap syntax_view (sym (forms.rolls-Field e p v l)) ∙ fold-roll-Syntax Syntax layer (Syntax-F.Field e p v l)

-- one more field at the end
grow_push : (fs : Fields) (xs : List (FieldName × Syntax)) (x : FieldName × Syntax) → grow fs (xs ++ x ∷ []) ≡ More (grow fs xs) x.0.before x.0.place x.0.label x.0.mark x.1
grow_push fs [] x = refl
grow_push fs (y ∷ xs) x = grow_push (More fs y.0.before y.0.place y.0.label y.0.mark y.1) xs x

pub fields_push : (f : FieldName) (e : Syntax) (xs : List (FieldName × CodeSyntax)) (x : FieldName × CodeSyntax)
    → fields f e (named (xs ++ x ∷ [])) ≡ More (fields f e (named xs)) x.0.before x.0.place x.0.label x.0.mark (syntax_view x.1)
fields_push f e xs x =
    ap (fields f e) (map-append (λ f. (f.0, syntax_view f.1)) xs (x ∷ []))
    ∙ grow_push (One f.before f.place f.label f.mark e) (named xs) (x.0, syntax_view x.1)

grow_types_push : (fs : TypeFields) (xs : List (FieldName × TypeSyntax)) (x : FieldName × TypeSyntax) → grow_types fs (xs ++ x ∷ []) ≡ TMore (grow_types fs xs) x.0.before x.0.place x.0.label x.0.mark x.1
grow_types_push fs [] x = refl
grow_types_push fs (y ∷ xs) x = grow_types_push (TMore fs y.0.before y.0.place y.0.label y.0.mark y.1) xs x

pub types_push : (f : FieldName) (t : TypeSyntax) (xs : List (FieldName × CodeType)) (x : FieldName × CodeType)
    → type_fields f t (typed (xs ++ x ∷ [])) ≡ TMore (type_fields f t (typed xs)) x.0.before x.0.place x.0.label x.0.mark (type_view x.1)
types_push f t xs x =
    ap (type_fields f t) (map-append (λ f. (f.0, type_view f.1)) xs (x ∷ []))
    ∙ grow_types_push (TOne f.before f.place f.label f.mark t) (typed xs) (x.0, type_view x.1)
