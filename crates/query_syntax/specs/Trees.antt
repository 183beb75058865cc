-- Syntax trees of the reader, without where they lie in memory.
use Rattle.std.specs.Prelude.{List, [], ◌∷◌, map}
use Rattle.nq_model.specs.QueryTokens.{Number, Literal}
use Rattle.nq_model.specs.QueryGrammar.{TypeSyntax, TBase, TBag, TParen, TNoFields, TRec, TFun, TypeFields, TOne, TMore, Syntax, Const, Truth, Var, Table, Aggregated, Paren, NoFields, Rec, Bag, Nil, For, Where, If, Fun, Let, Prefix, Infix, Apply, Field, Fields, One, More}
use Rattle.nq_model.specs.Terms as asked
use Rattle.query_syntax.specs.Symbols.{operator_view}
use Rattle.query_syntax.specs.declared.syntax.Aggregate.{Aggregate}
use Rattle.query_syntax.specs.declared.syntax.Aggregate.TheVariants as aggregates
use Rattle.query_syntax.specs.declared.syntax.FieldName.{FieldName}
use Rattle.query_syntax.specs.declared.syntax.TypeSyntax.{TypeSyntax as CodeType, fold-TypeSyntax}
use Rattle.query_syntax.specs.declared.syntax.TypeSyntax.TheOpen.{TypeSyntax-F}
use Rattle.query_syntax.specs.declared.syntax.Syntax.{Syntax as CodeSyntax, fold-Syntax}
use Rattle.query_syntax.specs.declared.syntax.Syntax.TheOpen.{Syntax-F}

-- the fields that these are behind those so far
abbrev pub grow_types : TypeFields → List (FieldName × TypeSyntax) → TypeFields
grow_types fs [] = fs
grow_types fs (x ∷ xs) = grow_types (TMore fs x.0.before x.0.place x.0.label x.0.mark x.1) xs

-- the fields of a record type: the first, and the others
abbrev pub type_fields : FieldName → TypeSyntax → List (FieldName × TypeSyntax) → TypeFields
type_fields x t xs = grow_types (TOne x.before x.place x.label x.mark t) xs

abbrev pub type_layer : TypeSyntax-F TypeSyntax → TypeSyntax
type_layer (TypeSyntax-F.Base p b) = TBase p b
type_layer (TypeSyntax-F.Bag p t q) = TBag p t.value q
type_layer (TypeSyntax-F.Paren p t q) = TParen p t.value q
type_layer (TypeSyntax-F.NoFields p q) = TNoFields p q
type_layer (TypeSyntax-F.Rec x t fs q) = TRec (type_fields x t.value fs) q
type_layer (TypeSyntax-F.Fun a p t) = TFun a.value p t.value

abbrev pub type_view : CodeType → TypeSyntax
type_view = fold-TypeSyntax TypeSyntax type_layer

abbrev pub aggregate_view : Aggregate → asked.Aggregate
aggregate_view aggregates.Emptiness = asked.Emptiness
aggregate_view aggregates.Count = asked.Count
aggregate_view aggregates.Sum = asked.Sum

abbrev pub grow : Fields → List (FieldName × Syntax) → Fields
grow fs [] = fs
grow fs (x ∷ xs) = grow (More fs x.0.before x.0.place x.0.label x.0.mark x.1) xs

-- the fields of a record: the first, and the others
abbrev pub fields : FieldName → Syntax → List (FieldName × Syntax) → Fields
fields x e xs = grow (One x.before x.place x.label x.mark e) xs

abbrev pub layer : Syntax-F Syntax → Syntax
layer (Syntax-F.Number p n) = Const p (Number n.value n.digits)
layer (Syntax-F.Literal p spelled) = Const p (Literal spelled)
layer (Syntax-F.Truth p b) = Truth p b
layer (Syntax-F.Var p x) = Var p x
layer (Syntax-F.Table p v l) = Table p v l
layer (Syntax-F.Aggregated g p o e c) = Aggregated (aggregate_view g) p o e.value c
layer (Syntax-F.Paren p e q) = Paren p e.value q
layer (Syntax-F.NoFields p q) = NoFields p q
layer (Syntax-F.Rec x e fs q) = Rec (fields x e.value fs) q
layer (Syntax-F.Bag p e q) = Bag p e.value q
layer (Syntax-F.Nil p c t q) = Nil p c (type_view t) q
layer (Syntax-F.For p o x a m c n) = For p o x.place x.name a m.value c n.value
layer (Syntax-F.Where p o t c n) = Where p o t.value c n.value
layer (Syntax-F.If p t q y r n) = If p t.value q y.value r n.value
layer (Syntax-F.Fun p o x c t z a n) = Fun p o x.place x.name c (type_view t) z a n.value
layer (Syntax-F.Let p x a m s n) = Let p x.place x.name a m.value s n.value
layer (Syntax-F.Prefix p u e) = Prefix p u e.value
layer (Syntax-F.Infix l p op r) = Infix l.value p (operator_view op) r.value
layer (Syntax-F.Apply f p a q) = Apply f.value p a.value q
layer (Syntax-F.Field e p v l) = Field e.value p v l

abbrev pub syntax_view : CodeSyntax → Syntax
syntax_view = fold-Syntax Syntax layer

-- each field's name and type
abbrev pub typed : List (FieldName × CodeType) → List (FieldName × TypeSyntax)
typed fs = map (λ f. (f.0, type_view f.1)) fs

-- each field's name and expression
abbrev pub named : List (FieldName × CodeSyntax) → List (FieldName × Syntax)
named fs = map (λ f. (f.0, syntax_view f.1)) fs
