-- The term of a syntax tree, or the first fault of its names, by one walk from left to right.
use Rattle.std.specs.Prelude.{map, ◌≡◌, ℕ, Bool, true, false, List, [], ◌∷◌, ◌++◌, Option, Some, None, if◌then◌else◌, Result, Ok, Err, ◌⊎◌, ⊤}
use Rattle.std.specs.BTreeSet.{BTreeSet, contains_text}
use Rattle.std.specs.declared.string.String.{String}
use Rattle.std.specs.declared.alloc.Global.{Global}
use Rattle.nq_model.specs.Orders.{by_label}
use Rattle.nq_model.specs.Tables.{base_type}
use Rattle.nq_model.specs.Types.{TypeTree, field_types_of}
use Rattle.nq_model.specs.Terms.{PlacedTerm, PlacedNode, PlacedFields, at, placed, placed_fields_of}
use Rattle.nq_model.specs.QueryGrammar.{TypeSyntax, TBase, TBag, TParen, TNoFields, TRec, TFun, TypeFields, TOne, TMore, Syntax, Const, Truth, Var, Table, Aggregated, Paren, NoFields, Rec, Bag, Nil, For, Where, If, Fun, Let, Prefix, Infix, Apply, Field, Fields, One, More}
use Rattle.nq_model.specs.QueryScope.{Name, among, number_of, constant_node, operator_node, fields_place, type_labels, labels, Wrong, Unbound, TwiceLabel, wrongs, term_of}
use Rattle.nq_model.specs.declared.term.Term.{Term}
use Rattle.query_syntax.specs.declared.fault.SyntaxFault.{SyntaxFault}
use Rattle.query_syntax.specs.declared.fault.SyntaxFault.TheVariants as code

-- what comes next, unless there is a fault already
infixl 10 ◌>>=◌
abbrev pub ◌>>=◌ : {A B : Type 0} → Result A SyntaxFault → (A → Result B SyntaxFault) → Result B SyntaxFault
(Ok x) >>= f = f x
(Err e) >>= f = Err e

-- a label that stands earlier is a fault at its place
abbrev pub new_label : Bool → ℕ → Result ⊤ SyntaxFault
new_label true v = Err (code.TwiceLabel v)
new_label false v = Ok tt

abbrev mutual
  pub type_lowered : TypeSyntax → Result TypeTree SyntaxFault
  type_lowered (TBase p c) = Ok (base_type c)
  type_lowered (TBag p t q) = do
    a ← type_lowered t
    Ok (TypeTree.bag a)
  type_lowered (TParen p t q) = type_lowered t
  type_lowered (TNoFields p q) = Ok (TypeTree.rec (field_types_of []))
  type_lowered (TRec fs q) = do
    parts ← type_fields_lowered fs
    Ok (TypeTree.rec (field_types_of (by_label parts)))
  type_lowered (TFun s p t) = do
    a ← type_lowered s
    b ← type_lowered t
    Ok (TypeTree.fun a b)

  -- the fields as they are written
  pub type_fields_lowered : TypeFields → Result (List (Name × TypeTree)) SyntaxFault
  type_fields_lowered (TOne p v l c t) = do
    a ← type_lowered t
    Ok ((l, a) ∷ [])
  type_fields_lowered (TMore fs q v l c t) = do
    others ← type_fields_lowered fs
    u ← new_label (among l (type_labels fs)) v
    a ← type_lowered t
    Ok (others ++ (l, a) ∷ [])

-- how many binders stand inside the innermost one of this name, if there is one
abbrev pub index_of : Name → List Name → Option ℕ
index_of x xs = if among x xs then Some (number_of x xs) else None

abbrev pub bound : ℕ → Option ℕ → Result PlacedTerm SyntaxFault
bound p (Some k) = Ok (at p (PlacedNode.var k))
bound p None = Err (code.Unbound p)

abbrev mutual
  -- the term under these binders, the innermost first
  pub lowered : Syntax → List Name → Result PlacedTerm SyntaxFault
  lowered (Const p c) xs = Ok (at p (constant_node c))
  lowered (Truth p b) xs = Ok (at p (PlacedNode.bool b))
  lowered (Var p x) xs = bound p (index_of x xs)
  lowered (Table p v l) xs = Ok (at p (PlacedNode.table l))
  lowered (Aggregated g p o e c) xs = do
    a ← lowered e xs
    Ok (at p (PlacedNode.aggregate g a))
  lowered (Paren p e q) xs = lowered e xs
  lowered (NoFields p q) xs = Ok (at p (PlacedNode.rec PlacedFields.none))
  lowered (Rec fs q) xs = do
    parts ← fields_lowered fs xs
    Ok (at (fields_place fs) (PlacedNode.rec (placed_fields_of parts)))
  lowered (Bag p e q) xs = do
    a ← lowered e xs
    Ok (at p (PlacedNode.single a))
  lowered (Nil p c t q) xs = do
    a ← type_lowered t
    Ok (at p (PlacedNode.nil a))
  lowered (For p o v x a m c n) xs = do
    source ← lowered m xs
    body ← lowered n (x ∷ xs)
    Ok (at p (PlacedNode.for source body))
  lowered (Where p o t c n) xs = do
    test ← lowered t xs
    body ← lowered n xs
    Ok (at p (PlacedNode.guard test body))
  lowered (If p t q y r n) xs = do
    test ← lowered t xs
    sure ← lowered y xs
    other ← lowered n xs
    Ok (at p (PlacedNode.choose test sure other))
  lowered (Fun p o v x c t z a n) xs = do
    taken ← type_lowered t
    body ← lowered n (x ∷ xs)
    Ok (at p (PlacedNode.fun taken body))
  lowered (Let p v x a m s n) xs = do
    value ← lowered m xs
    body ← lowered n (x ∷ xs)
    Ok (at p (PlacedNode.bind value body))
  lowered (Prefix p u e) xs = do
    a ← lowered e xs
    Ok (at p (PlacedNode.unary u a))
  lowered (Infix l p op r) xs = do
    left ← lowered l xs
    right ← lowered r xs
    Ok (at p (operator_node op left right))
  lowered (Apply f p e q) xs = do
    func ← lowered f xs
    arg ← lowered e xs
    Ok (at p (PlacedNode.apply func arg))
  lowered (Field e p v l) xs = do
    of ← lowered e xs
    Ok (at p (PlacedNode.field of l))

  -- the fields, in the order of the text
  pub fields_lowered : Fields → List Name → Result (List (Name × PlacedTerm)) SyntaxFault
  fields_lowered (One p v l a e) xs = do
    t ← lowered e xs
    Ok ((l, t) ∷ [])
  fields_lowered (More fs c v l a e) xs = do
    others ← fields_lowered fs xs
    u ← new_label (among l (labels fs)) v
    t ← lowered e xs
    Ok (others ++ (l, t) ∷ [])

-- each field's label and term
abbrev pub places_view : List (List ℕ × Term) → List (List ℕ × PlacedTerm)
places_view fs = map (λ f. (f.0, placed f.1)) fs

-- an answer of the code, seen by `view`, is this result; want of memory is free
abbrev pub Gives : {A B : Type 0} → (A → B) → Result A SyntaxFault → Result B SyntaxFault → Type 0
Gives view (Ok x) r = r ≡ Ok (view x)
Gives view (Err e) r = (e ≡ code.Memory) ⊎ (r ≡ Err e)

abbrev pub fault_of : Wrong → SyntaxFault
fault_of (Unbound p) = code.Unbound p
fault_of (TwiceLabel v) = code.TwiceLabel v

-- the fault is the first of these
abbrev pub IsFirst : SyntaxFault → List Wrong → Type 0
IsFirst e ws = (w : Wrong) × (rest : List Wrong) × (ws ≡ w ∷ rest) × (e ≡ fault_of w)

-- the answer is the term of the tree, with whose names nothing is wrong, or the first fault of its names; want of
-- memory is free
abbrev pub Lowered : Result Term SyntaxFault → Syntax → Type 0
Lowered (Ok t) s = (wrongs s [] ≡ []) × (placed t ≡ term_of s [])
Lowered (Err e) s = (e ≡ code.Memory) ⊎ IsFirst e (wrongs s [])

-- the set has these names and no others
abbrev pub TellsNames : List Name → BTreeSet (String Global) → Type 0
TellsNames names set = (x : Name) → contains_text set x ≡ among x names
