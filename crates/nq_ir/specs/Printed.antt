-- The text of a normal form: a term of the query language with the variable xk for the generator k.
use Rattle.std.specs.Prelude.{ℕ, suc, List, [], ◌∷◌, ◌++◌, Bool, true, false, ◌||◌, cond, nat_eq, nat_le, codes}
use Rattle.std.specs.Fmt.{decimal}
use Rattle.nq_model.specs.Canonical.{cell_text}
use Rattle.nq_model.specs.Terms.{TermTree, TermFields, Aggregate, Emptiness, Count, Sum}
use Rattle.nq_model.specs.Totals.{HowMany, SumOf}
use Rattle.nq_model.specs.QueryGrammar.{aggregate_word}
use Rattle.nq_model.specs.Types.{TypeTree, FieldTypes}
use Rattle.nq_model.specs.declared.table.Cell.{Cell}
use Rattle.nq_model.specs.declared.table.Cell.TheVariants as cell
use Rattle.nq_model.specs.declared.term.Binary.{Binary}
use Rattle.nq_model.specs.declared.term.Binary.TheVariants.{Add, Sub, Mul, Eq, Ne, Lt, Le, Gt, Ge, And, Or}
use Rattle.nq_model.specs.declared.term.Unary.{Unary}
use Rattle.nq_model.specs.declared.term.Unary.TheVariants.{Minus, Not}
use Rattle.nq_ir.specs.declared.base.Gen.{Gen}
use Rattle.nq_model.specs.NamedRows.{Label}
use Rattle.nq_ir.specs.Trees.{BaseTree, Conds, no_cond, and_cond, Tests, no_test, test, BodyTree, plain_body, rec_body, bag_body, Bodies, no_body, with_body, Comps, no_comp, comp, FormTree}

-- a term whose variables have numbers for names
mutual
  pub data NamedTerm : Type 0 where
    var : ℕ → NamedTerm
    constant : Cell → NamedTerm
    unary : Unary → NamedTerm → NamedTerm
    binary : Binary → NamedTerm → NamedTerm → NamedTerm
    choose : NamedTerm → NamedTerm → NamedTerm → NamedTerm
    table : Label → NamedTerm
    rec : NamedFields → NamedTerm
    field : NamedTerm → Label → NamedTerm
    single : NamedTerm → NamedTerm
    nil : TypeTree → NamedTerm
    union : NamedTerm → NamedTerm → NamedTerm
    for : ℕ → NamedTerm → NamedTerm → NamedTerm
    guard : NamedTerm → NamedTerm → NamedTerm
    aggregate : Aggregate → NamedTerm → NamedTerm

  pub data NamedFields : Type 0 where
    no_field : NamedFields
    with_field : Label → NamedTerm → NamedFields → NamedFields

-- the number of binders inside the innermost one that binds xk
abbrev pub place_of : ℕ → List ℕ → ℕ
place_of k [] = 0
place_of k (g ∷ sc) = cond (nat_eq k g) 0 (suc (place_of k sc))

abbrev pub constant_term : Cell → TermTree
constant_term (cell.Int n) = TermTree.int n
constant_term (cell.Bool b) = TermTree.bool b
constant_term (cell.Text t) = TermTree.text t

-- the term under binders of these names, the innermost first
abbrev mutual
  pub bound : List ℕ → NamedTerm → TermTree
  bound sc (var k) = TermTree.var (place_of k sc)
  bound sc (constant c) = constant_term c
  bound sc (unary op a) = TermTree.unary op (bound sc a)
  bound sc (binary op a b) = TermTree.binary op (bound sc a) (bound sc b)
  bound sc (choose x a b) = TermTree.choose (bound sc x) (bound sc a) (bound sc b)
  bound sc (table t) = TermTree.table t
  bound sc (rec fs) = TermTree.rec (bound_fields sc fs)
  bound sc (field a l) = TermTree.field (bound sc a) l
  bound sc (single a) = TermTree.single (bound sc a)
  bound sc (nil a) = TermTree.nil a
  bound sc (union a b) = TermTree.union (bound sc a) (bound sc b)
  bound sc (for k a b) = TermTree.for (bound sc a) (bound (k ∷ sc) b)
  bound sc (guard x a) = TermTree.guard (bound sc x) (bound sc a)
  bound sc (aggregate g a) = TermTree.aggregate g (bound sc a)

  pub bound_fields : List ℕ → NamedFields → TermFields
  bound_fields sc no_field = TermFields.none
  bound_fields sc (with_field l a fs) = TermFields.with_field l (bound sc a) (bound_fields sc fs)

-- `for (xk <- table t)` for each generator
abbrev pub under_gens : List Gen → NamedTerm → NamedTerm
under_gens [] s = s
under_gens (g ∷ gs) s = for g.number (table g.table) (under_gens gs s)

abbrev pub unit_bag : NamedTerm
unit_bag = single (rec no_field)

abbrev mutual
  pub named_base : BaseTree → NamedTerm
  named_base (BaseTree.literal c) = constant c
  named_base (BaseTree.column g l) = field (var g) l
  named_base (BaseTree.unary op b) = unary op (named_base b)
  named_base (BaseTree.binary op a b) = binary op (named_base a) (named_base b)
  named_base (BaseTree.choose x a b) = choose (named_base x) (named_base a) (named_base b)
  named_base (BaseTree.empty xs) = aggregate Emptiness (named_tests xs)
  named_base (BaseTree.total HowMany gens bs b) = aggregate Count (under_gens gens (named_where bs unit_bag))
  named_base (BaseTree.total SumOf gens bs b) = aggregate Sum (under_gens gens (named_where bs (single (named_base b))))

  -- `where`, with the conditions joined from the left, and nothing where there are none
  pub named_where : Conds → NamedTerm → NamedTerm
  named_where no_cond s = s
  named_where (and_cond b bs) s = guard (and_then (named_base b) bs) s

  pub and_then : NamedTerm → Conds → NamedTerm
  and_then x no_cond = x
  and_then x (and_cond b bs) = and_then (binary And x (named_base b)) bs

  -- the comprehensions of a test give records without fields, in a union joined from the left
  pub named_tests : Tests → NamedTerm
  named_tests no_test = nil (TypeTree.rec FieldTypes.none)
  named_tests (test gens bs xs) = tests_then (under_gens gens (named_where bs unit_bag)) xs

  pub tests_then : NamedTerm → Tests → NamedTerm
  tests_then s no_test = s
  tests_then s (test gens bs xs) = tests_then (union s (under_gens gens (named_where bs unit_bag))) xs

abbrev mutual
  pub named_body : BodyTree → NamedTerm
  named_body (plain_body b) = named_base b
  named_body (rec_body fs) = rec (named_fields fs)
  named_body (bag_body a cs) = named_comps a cs

  pub named_fields : Bodies → NamedFields
  named_fields no_body = no_field
  named_fields (with_body l b fs) = with_field l (named_body b) (named_fields fs)

  -- a union joined from the left; of none it is the empty bag of the element type
  pub named_comps : TypeTree → Comps → NamedTerm
  named_comps a no_comp = nil a
  named_comps a (comp t gens bs b cs) = comps_then (under_gens gens (named_where bs (single (named_body b)))) cs

  pub comps_then : NamedTerm → Comps → NamedTerm
  comps_then s no_comp = s
  comps_then s (comp t gens bs b cs) = comps_then (union s (under_gens gens (named_where bs (single (named_body b))))) cs

abbrev pub named_form : FormTree → NamedTerm
named_form form = named_comps form.element form.comps

-- the term as which a form prints
abbrev pub printed_term : FormTree → TermTree
printed_term form = bound [] (named_form form)

abbrev mutual
  pub type_text : TypeTree → List ℕ
  type_text TypeTree.int = codes "int"
  type_text TypeTree.bool = codes "bool"
  type_text TypeTree.text = codes "text"
  type_text (TypeTree.rec FieldTypes.none) = codes "()"
  type_text (TypeTree.rec (FieldTypes.field l A gs)) = codes "(" ++ (l ++ (codes ": " ++ (type_text A ++ more_types gs)))
  type_text (TypeTree.bag A) = codes "[" ++ (type_text A ++ codes "]")
  type_text (TypeTree.fun A B) = []

  pub more_types : FieldTypes → List ℕ
  more_types FieldTypes.none = codes ")"
  more_types (FieldTypes.field l A gs) = codes ", " ++ (l ++ (codes ": " ++ (type_text A ++ more_types gs)))

abbrev pub sign_of : Unary → List ℕ
sign_of Minus = codes "-"
sign_of Not = codes "!"

abbrev pub word_of : Binary → List ℕ
word_of Add = codes " + "
word_of Sub = codes " - "
word_of Mul = codes " * "
word_of Eq = codes " == "
word_of Ne = codes " != "
word_of Lt = codes " < "
word_of Le = codes " <= "
word_of Gt = codes " > "
word_of Ge = codes " >= "
word_of And = codes " && "
word_of Or = codes " || "

-- the level of an operator, and the level that its left position asks for; the right one asks for the next
abbrev pub level_of : Binary → ℕ
level_of Add = 6
level_of Sub = 6
level_of Mul = 7
level_of Eq = 5
level_of Ne = 5
level_of Lt = 5
level_of Le = 5
level_of Gt = 5
level_of Ge = 5
level_of And = 4
level_of Or = 3

abbrev pub left_level : Binary → ℕ
left_level Add = 6
left_level Sub = 6
left_level Mul = 7
left_level Eq = 6
left_level Ne = 6
left_level Lt = 6
left_level Le = 6
left_level Gt = 6
left_level Ge = 6
left_level And = 4
left_level Or = 3

abbrev pub level : NamedTerm → ℕ
level (var k) = 10
level (constant x) = 10
level (unary o a) = 8
level (binary o a b) = level_of o
level (choose x a b) = 1
level (table t) = 10
level (rec fs) = 10
level (field a l) = 9
level (single a) = 10
level (nil A) = 10
level (union a b) = 2
level (for k a b) = 1
level (guard x a) = 1
level (aggregate g a) = 10

abbrev pub name_text : ℕ → List ℕ
name_text k = codes "x" ++ decimal k

-- in parentheses where the level is weaker than the one asked for
abbrev pub fenced : Bool → List ℕ → List ℕ
fenced true t = t
fenced false t = codes "(" ++ (t ++ codes ")")

abbrev mutual
  pub text_of : NamedTerm → List ℕ
  text_of (var k) = name_text k
  text_of (constant x) = cell_text x
  text_of (unary o a) = sign_of o ++ fenced (nat_le 8 (level a)) (text_of a)
  text_of (binary o a b) =
      fenced (nat_le (left_level o) (level a)) (text_of a) ++ (word_of o ++ fenced (nat_le (suc (level_of o)) (level b)) (text_of b))
  text_of (choose x a b) = codes "if " ++ (text_of x ++ (codes " then " ++ (text_of a ++ (codes " else " ++ text_of b))))
  text_of (table t) = codes "table " ++ t
  text_of (rec no_field) = codes "()"
  text_of (rec (with_field l a fs)) = codes "(" ++ (l ++ (codes " = " ++ (text_of a ++ more_text fs)))
  text_of (field a l) = fenced (nat_le 9 (level a)) (text_of a) ++ (codes "." ++ l)
  text_of (single a) = codes "[" ++ (text_of a ++ codes "]")
  text_of (nil A) = codes "[: " ++ (type_text A ++ codes "]")
  text_of (union a b) =
      fenced (nat_le 2 (level a)) (text_of a) ++ (codes " ++ " ++ fenced (nat_le 3 (level b)) (text_of b))
  text_of (for k a b) = codes "for (" ++ (name_text k ++ (codes " <- " ++ (text_of a ++ (codes ") " ++ text_of b))))
  text_of (guard x a) = codes "where (" ++ (text_of x ++ (codes ") " ++ text_of a))
  text_of (aggregate g a) = aggregate_word g ++ (codes "(" ++ (text_of a ++ codes ")"))

  pub more_text : NamedFields → List ℕ
  more_text no_field = codes ")"
  more_text (with_field l a fs) = codes ", " ++ (l ++ (codes " = " ++ (text_of a ++ more_text fs)))

-- whether a count or a sum stands in the term
abbrev mutual
  pub has_total : NamedTerm → Bool
  has_total (var k) = false
  has_total (constant c) = false
  has_total (unary op a) = has_total a
  has_total (binary op a b) = has_total a || has_total b
  has_total (choose x a b) = has_total x || (has_total a || has_total b)
  has_total (table t) = false
  has_total (rec fs) = have_total fs
  has_total (field a l) = has_total a
  has_total (single a) = has_total a
  has_total (nil a) = false
  has_total (union a b) = has_total a || has_total b
  has_total (for k a b) = has_total a || has_total b
  has_total (guard x a) = has_total x || has_total a
  has_total (aggregate Emptiness a) = has_total a
  has_total (aggregate Count a) = true
  has_total (aggregate Sum a) = true

  pub have_total : NamedFields → Bool
  have_total no_field = false
  have_total (with_field l a fs) = has_total a || have_total fs

-- the second edition's header, where a count or a sum stands in the form
abbrev pub header_text : FormTree → List ℕ
header_text form = cond (has_total (named_form form)) (codes "nq 2; ") []

-- the text as which a form prints
abbrev pub printed_text : FormTree → List ℕ
printed_text form = header_text form ++ text_of (named_form form)
