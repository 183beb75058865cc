-- The unfinished forms of the reader as those of the machine, and how deep they make what they hold.
use Rattle.std.specs.Prelude.{ℕ, suc, ◌+◌, max, List, [], ◌∷◌, length}
use Rattle.nq_model.specs.QueryGrammar.{Syntax, Fields, TypeFields, type_depth, type_fields_depth, depth, fields_depth, deepest, fields_deepest}
use Rattle.nq_parser.specs.Machine.{FieldHead, AtFirst, AtNext, TypeHead, TAtFirst, TAtNext, Frame, InParen, InBag, InAggregate, InSource, InBody, InTest, InGuarded, InIf, InThen, InElse, InFunBody, InValue, InLetBody, InPrefix, InRight, InArg, InField, TypeFrame, TInBag, TInParen, TInRight, TInField, Around, InNil, InFun}
use Rattle.query_syntax.specs.Symbols.{operator_view}
use Rattle.query_syntax.specs.Trees.{aggregate_view, syntax_view, type_view, fields, named, type_fields, typed}
use Rattle.nq_parser.specs.declared.part.Fields.{Fields as CodeFields}
use Rattle.nq_parser.specs.declared.part.Part.{Part}
use Rattle.nq_parser.specs.declared.part.TypeFields.{TypeFields as CodeTypeFields}
use Rattle.nq_parser.specs.declared.form.FieldHead.{FieldHead as CodeHead}
use Rattle.nq_parser.specs.declared.form.FieldHead.TheVariants as head
use Rattle.nq_parser.specs.declared.form.TypeHead.{TypeHead as CodeTypeHead}
use Rattle.nq_parser.specs.declared.form.TypeHead.TheVariants as type_head
use Rattle.nq_parser.specs.declared.form.Form.{Form}
use Rattle.nq_parser.specs.declared.form.Form.TheVariants as form
use Rattle.nq_parser.specs.declared.form.TypeForm.{TypeForm}
use Rattle.nq_parser.specs.declared.form.TypeForm.TheVariants as type_form
use Rattle.nq_parser.specs.declared.form.Around.{Around as CodeAround}
use Rattle.nq_parser.specs.declared.form.Around.TheVariants as around

abbrev pub part_view : Part → Syntax
part_view p = syntax_view p.syntax.value

abbrev pub fields_view : CodeFields → Fields
fields_view fs = fields fs.first_name (syntax_view fs.first.value) (named fs.others)

abbrev pub head_view : CodeHead → FieldHead
head_view (head.First p) = AtFirst p
head_view (head.Next fs c) = AtNext (fields_view fs) c

abbrev pub type_fields_view : CodeTypeFields → TypeFields
type_fields_view fs = type_fields fs.first_name (type_view fs.first.value) (typed fs.others)

abbrev pub type_head_view : CodeTypeHead → TypeHead
type_head_view (type_head.First p) = TAtFirst p
type_head_view (type_head.Next fs c) = TAtNext (type_fields_view fs) c

abbrev pub form_view : Form → Frame
form_view (form.Paren p) = InParen p
form_view (form.Bag p) = InBag p
form_view (form.Aggregate a p o) = InAggregate (aggregate_view a) p o
form_view (form.Source p o x a) = InSource p o x.place x.name a
form_view (form.ForBody p o x a m c) = InBody p o x.place x.name a (part_view m) c
form_view (form.Test p o) = InTest p o
form_view (form.Guarded p o t c) = InGuarded p o (part_view t) c
form_view (form.If p) = InIf p
form_view (form.Then p t q) = InThen p (part_view t) q
form_view (form.Else p t q y r) = InElse p (part_view t) q (part_view y) r
form_view (form.FunBody p o x c t z a) = InFunBody p o x.place x.name c (type_view t.ty) z a
form_view (form.LetValue p x a) = InValue p x.place x.name a
form_view (form.LetBody p x a m s) = InLetBody p x.place x.name a (part_view m) s
form_view (form.Prefix p u) = InPrefix p u
form_view (form.Right l p op) = InRight (part_view l) p (operator_view op)
form_view (form.Argument f p) = InArg (part_view f) p
form_view (form.Field h v l a) = InField (head_view h) v l a

abbrev pub type_form_view : TypeForm → TypeFrame
type_form_view (type_form.Bag p) = TInBag p
type_form_view (type_form.Paren p) = TInParen p
type_form_view (type_form.Right t a) = TInRight (type_view t.ty) a
type_form_view (type_form.Field h v l c) = TInField (type_head_view h) v l c

abbrev pub around_view : CodeAround → Around
around_view (around.Nil p c) = InNil p c
around_view (around.Fun p o x c) = InFun p o x.place x.name c

-- how deep the deepest expression is that a form holds
abbrev pub head_held : FieldHead → ℕ
head_held (AtFirst p) = 0
head_held (AtNext fs c) = fields_depth fs

abbrev pub held : Frame → ℕ
held (InBody p o v y a m c) = depth m
held (InGuarded p o t c) = depth t
held (InThen p t q) = depth t
held (InElse p t q y r) = max (depth t) (depth y)
held (InLetBody p v y a m s) = depth m
held (InRight l p op) = depth l
held (InArg f p) = depth f
held (InField h v l a) = head_held h
held _ = 0

-- how deep the deepest type is that a form holds
abbrev pub head_types : FieldHead → ℕ
head_types (AtFirst p) = 0
head_types (AtNext fs c) = fields_deepest fs

abbrev pub held_types : Frame → ℕ
held_types (InBody p o v y a m c) = deepest m
held_types (InGuarded p o t c) = deepest t
held_types (InThen p t q) = deepest t
held_types (InElse p t q y r) = max (deepest t) (deepest y)
held_types (InFunBody p o v y c t z a) = type_depth t
held_types (InLetBody p v y a m s) = deepest m
held_types (InRight l p op) = deepest l
held_types (InArg f p) = deepest f
held_types (InField h v l a) = head_types h
held_types _ = 0

-- how deep a program is at least that these forms stand in, the innermost first, whatever it goes on with
abbrev pub needs : List Frame → ℕ
needs [] = 0
needs (f ∷ k) = max (needs k) (suc (held f + length k))

-- how deep the deepest type is that these forms hold
abbrev pub needs_types : List Frame → ℕ
needs_types [] = 0
needs_types (f ∷ k) = max (needs_types k) (held_types f)

abbrev pub type_head_held : TypeHead → ℕ
type_head_held (TAtFirst p) = 0
type_head_held (TAtNext fs q) = type_fields_depth fs

abbrev pub type_held : TypeFrame → ℕ
type_held (TInRight t a) = type_depth t
type_held (TInField h v l c) = type_head_held h
type_held _ = 0

-- how deep a type is at least that these forms stand in, the innermost first
abbrev pub type_needs : List TypeFrame → ℕ
type_needs [] = 0
type_needs (f ∷ j) = max (type_needs j) (suc (type_held f + length j))
