-- The term of a syntax tree, and what is wrong with its names.
--
-- Variables become numbers, after de Bruijn, 1972.
use Rattle.std.specs.Prelude.{ℕ, suc, pos, Bool, true, false, ◌||◌, if◌then◌else◌, List, [], ◌∷◌, ◌++◌}
use Rattle.std.specs.Str.{bytes_eq}
use Rattle.nq_model.specs.Orders.{by_label}
use Rattle.nq_model.specs.Types.{TypeTree, field_types_of}
use Rattle.nq_model.specs.Tables.{base_type}
use Rattle.nq_model.specs.Terms.{PlacedTerm, PlacedNode, PlacedFields, at}
use Rattle.nq_model.specs.QueryTokens.{is_quote, Operator, Union, Of, Constant, Number, Literal}
use Rattle.nq_model.specs.QueryGrammar.{TypeSyntax, TBase, TBag, TParen, TNoFields, TRec, TFun, TypeFields, TOne, TMore, Syntax, Const, Truth, Var, Table, Aggregated, Paren, NoFields, Rec, Bag, Nil, For, Where, If, Fun, Let, Prefix, Infix, Apply, Field, Fields, One, More}

abbrev pub Name : Type 0
Name = List ℕ

-- whether the name is among these
abbrev pub among : Name → List Name → Bool
among x [] = false
among x (y ∷ ys) = bytes_eq x y || among x ys

-- how many binders stand inside the innermost one of this name
abbrev pub number_of : Name → List Name → ℕ
number_of x [] = 0
number_of x (y ∷ ys) = if bytes_eq x y then 0 else suc (number_of x ys)

-- a spelled literal with one quote for each two; whether the byte before is a quote that was kept
abbrev pub undoubled : Bool → List ℕ → List ℕ
undoubled kept [] = []
undoubled false (b ∷ bs) = b ∷ undoubled (is_quote b) bs
undoubled true (b ∷ bs) = undoubled false bs

-- the type that is written, in which the fields of a record stand in the byte order of their labels
abbrev mutual
  pub type_of : TypeSyntax → TypeTree
  type_of (TBase p c) = base_type c
  type_of (TBag p t q) = TypeTree.bag (type_of t)
  type_of (TParen p t q) = type_of t
  type_of (TNoFields p q) = TypeTree.rec (field_types_of [])
  type_of (TRec fs q) = TypeTree.rec (field_types_of (by_label (typed_fields fs [])))
  type_of (TFun a p t) = TypeTree.fun (type_of a) (type_of t)

  -- the fields as they are written, and then the rest
  pub typed_fields : TypeFields → List (Name × TypeTree) → List (Name × TypeTree)
  typed_fields (TOne p v l c t) rest = (l, type_of t) ∷ rest
  typed_fields (TMore fs q v l c t) rest = typed_fields fs ((l, type_of t) ∷ rest)

abbrev pub constant_node : Constant → PlacedNode
constant_node (Number n digits) = PlacedNode.int (pos n)
constant_node (Literal spelled) = PlacedNode.text (undoubled false spelled)

abbrev pub operator_node : Operator → PlacedTerm → PlacedTerm → PlacedNode
operator_node Union l r = PlacedNode.union l r
operator_node (Of b) l r = PlacedNode.binary b l r

-- the place of the `(` of a record
abbrev pub fields_place : Fields → ℕ
fields_place (One p v l a e) = p
fields_place (More fs c v l a e) = fields_place fs

-- the term of an expression under these binders, the innermost first; parentheses leave no trace, and the
-- fields of a record keep their order
abbrev mutual
  pub term_of : Syntax → List Name → PlacedTerm
  term_of (Const p c) xs = at p (constant_node c)
  term_of (Truth p b) xs = at p (PlacedNode.bool b)
  term_of (Var p x) xs = at p (PlacedNode.var (number_of x xs))
  term_of (Table p v l) xs = at p (PlacedNode.table l)
  term_of (Aggregated g p o e c) xs = at p (PlacedNode.aggregate g (term_of e xs))
  term_of (Paren p e q) xs = term_of e xs
  term_of (NoFields p q) xs = at p (PlacedNode.rec PlacedFields.none)
  term_of (Rec fs q) xs = at (fields_place fs) (PlacedNode.rec (fields_of fs xs PlacedFields.none))
  term_of (Bag p e q) xs = at p (PlacedNode.single (term_of e xs))
  term_of (Nil p c t q) xs = at p (PlacedNode.nil (type_of t))
  term_of (For p o v x a m c n) xs = at p (PlacedNode.for (term_of m xs) (term_of n (x ∷ xs)))
  term_of (Where p o t c n) xs = at p (PlacedNode.guard (term_of t xs) (term_of n xs))
  term_of (If p t q y r n) xs = at p (PlacedNode.choose (term_of t xs) (term_of y xs) (term_of n xs))
  term_of (Fun p o v x c t z a n) xs = at p (PlacedNode.fun (type_of t) (term_of n (x ∷ xs)))
  term_of (Let p v x a m s n) xs = at p (PlacedNode.bind (term_of m xs) (term_of n (x ∷ xs)))
  term_of (Prefix p u e) xs = at p (PlacedNode.unary u (term_of e xs))
  term_of (Infix l p op r) xs = at p (operator_node op (term_of l xs) (term_of r xs))
  term_of (Apply f p a q) xs = at p (PlacedNode.apply (term_of f xs) (term_of a xs))
  term_of (Field e p v l) xs = at p (PlacedNode.field (term_of e xs) l)

  -- the fields, and then the rest
  pub fields_of : Fields → List Name → PlacedFields → PlacedFields
  fields_of (One p v l a e) xs rest = PlacedFields.with_field l (term_of e xs) rest
  fields_of (More fs c v l a e) xs rest = fields_of fs xs (PlacedFields.with_field l (term_of e xs) rest)

-- a variable without a binder, or a label that stands earlier in the same record or record type; with its place
pub data Wrong : Type 0 where
  Unbound : ℕ → Wrong
  TwiceLabel : ℕ → Wrong

abbrev pub if_unbound : Bool → ℕ → List Wrong
if_unbound true p = []
if_unbound false p = Unbound p ∷ []

abbrev pub if_twice : Bool → ℕ → List Wrong
if_twice true v = TwiceLabel v ∷ []
if_twice false v = []

abbrev pub type_labels : TypeFields → List Name
type_labels (TOne p v l c t) = l ∷ []
type_labels (TMore fs q v l c t) = l ∷ type_labels fs

abbrev pub labels : Fields → List Name
labels (One p v l a e) = l ∷ []
labels (More fs c v l a e) = l ∷ labels fs

-- what is wrong in a type, in the order of the text
abbrev mutual
  pub type_wrongs : TypeSyntax → List Wrong
  type_wrongs (TBase p c) = []
  type_wrongs (TBag p t q) = type_wrongs t
  type_wrongs (TParen p t q) = type_wrongs t
  type_wrongs (TNoFields p q) = []
  type_wrongs (TRec fs q) = type_fields_wrongs fs
  type_wrongs (TFun a p t) = type_wrongs a ++ type_wrongs t

  pub type_fields_wrongs : TypeFields → List Wrong
  type_fields_wrongs (TOne p v l c t) = type_wrongs t
  type_fields_wrongs (TMore fs q v l c t) = type_fields_wrongs fs ++ (if_twice (among l (type_labels fs)) v ++ type_wrongs t)

-- what is wrong in an expression under these binders, in the order of the text
abbrev mutual
  pub wrongs : Syntax → List Name → List Wrong
  wrongs (Const p c) xs = []
  wrongs (Truth p b) xs = []
  wrongs (Var p x) xs = if_unbound (among x xs) p
  wrongs (Table p v l) xs = []
  wrongs (Aggregated g p o e c) xs = wrongs e xs
  wrongs (Paren p e q) xs = wrongs e xs
  wrongs (NoFields p q) xs = []
  wrongs (Rec fs q) xs = fields_wrongs fs xs
  wrongs (Bag p e q) xs = wrongs e xs
  wrongs (Nil p c t q) xs = type_wrongs t
  wrongs (For p o v x a m c n) xs = wrongs m xs ++ wrongs n (x ∷ xs)
  wrongs (Where p o t c n) xs = wrongs t xs ++ wrongs n xs
  wrongs (If p t q y r n) xs = wrongs t xs ++ (wrongs y xs ++ wrongs n xs)
  wrongs (Fun p o v x c t z a n) xs = type_wrongs t ++ wrongs n (x ∷ xs)
  wrongs (Let p v x a m s n) xs = wrongs m xs ++ wrongs n (x ∷ xs)
  wrongs (Prefix p u e) xs = wrongs e xs
  wrongs (Infix l p op r) xs = wrongs l xs ++ wrongs r xs
  wrongs (Apply f p a q) xs = wrongs f xs ++ wrongs a xs
  wrongs (Field e p v l) xs = wrongs e xs

  pub fields_wrongs : Fields → List Name → List Wrong
  fields_wrongs (One p v l a e) xs = wrongs e xs
  fields_wrongs (More fs c v l a e) xs = fields_wrongs fs xs ++ (if_twice (among l (labels fs)) v ++ wrongs e xs)
