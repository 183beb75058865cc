-- How deep a program is at least that begins with what was read.
use Rattle.std.specs.Prelude.{ℕ, suc, ◌+◌, max, List, [], ◌∷◌, length}
use Rattle.nq_model.specs.QueryGrammar.{type_depth, type_fields_depth, depth, fields_depth, deepest, fields_deepest}
use Rattle.nq_parser.specs.Machine.{Frame, InParen, InBag, TypeFrame, TInParen, Around, InNil, InFun, State, Want, AtWord, AtTable, AtAggregate, AtFor, AtForOpen, AtForName, AtWhere, AtFun, AtFunOpen, AtFunName, AtFunClose, AtLet, AtLetName, AtComma, AtLabel, AtDot, WantType, AtTypeWord, AtTypeComma, AtTypeLabel, HaveType, Have, Ready}
use Rattle.nq_parser.specs.Forms.{type_needs}

-- the unfinished forms of a state
abbrev pub open_forms : State → List Frame
open_forms (Want k) = k
open_forms (AtWord p v w k) = k
open_forms (AtTable p k) = k
open_forms (AtAggregate a p k) = k
open_forms (AtFor p k) = k
open_forms (AtForOpen p o k) = k
open_forms (AtForName p o v y k) = k
open_forms (AtWhere p k) = k
open_forms (AtFun p k) = k
open_forms (AtFunOpen p o k) = k
open_forms (AtFunName p o v y k) = k
open_forms (AtFunClose p o v y c t z k) = k
open_forms (AtLet p k) = k
open_forms (AtLetName p v y k) = k
open_forms (AtComma fs c k) = k
open_forms (AtLabel fs c v l k) = k
open_forms (AtDot s p k) = k
open_forms (WantType j o k) = k
open_forms (AtTypeWord p v w j o k) = k
open_forms (AtTypeComma fs q j o k) = k
open_forms (AtTypeLabel fs q v l j o k) = k
open_forms (HaveType t j o k) = k
open_forms (Have s k) = k
open_forms (Ready s q) = []

-- behind `(` and `[` nothing has to come that is deeper than they are
abbrev pub want_depth : List Frame → ℕ
want_depth (InParen p ∷ k) = 0
want_depth (InBag p ∷ k) = 0
want_depth k = 1

-- behind `[` the least is a type
abbrev pub want_types : List Frame → ℕ
want_types (InBag p ∷ k) = 1
want_types k = 0

abbrev pub want_type_depth : List TypeFrame → ℕ
want_type_depth (TInParen p ∷ j) = 0
want_type_depth j = 1

abbrev pub around_depth : Around → ℕ
around_depth (InNil p c) = 1
around_depth (InFun p o v y c) = 2

-- how deep the expression is at least that was begun inside the unfinished forms
abbrev pub hole : State → ℕ
hole (Want k) = want_depth k
hole (AtWord p v w k) = 2
hole (AtTable p k) = 1
hole (AtAggregate a p k) = 2
hole (AtFor p k) = 2
hole (AtForOpen p o k) = 2
hole (AtForName p o v y k) = 2
hole (AtWhere p k) = 2
hole (AtFun p k) = 2
hole (AtFunOpen p o k) = 2
hole (AtFunName p o v y k) = 2
hole (AtFunClose p o v y c t z k) = 2
hole (AtLet p k) = 2
hole (AtLetName p v y k) = 2
hole (AtComma fs c k) = suc (fields_depth fs)
hole (AtLabel fs c v l k) = suc (fields_depth fs)
hole (AtDot s p k) = suc (depth s)
hole (WantType j o k) = around_depth o
hole (AtTypeWord p v w j o k) = around_depth o
hole (AtTypeComma fs q j o k) = around_depth o
hole (AtTypeLabel fs q v l j o k) = around_depth o
hole (HaveType t j o k) = around_depth o
hole (Have s k) = depth s
hole (Ready s q) = depth s

-- how deep a type is at least that was begun, with the unfinished forms in which it stands
abbrev pub over_types : List TypeFrame → ℕ → ℕ
over_types j n = max (type_needs j) (n + length j)

-- how deep the deepest type is at least in the expression that was begun
abbrev pub hole_types : State → ℕ
hole_types (Want k) = want_types k
hole_types (AtFun p k) = 1
hole_types (AtFunOpen p o k) = 1
hole_types (AtFunName p o v y k) = 1
hole_types (AtFunClose p o v y c t z k) = type_depth t
hole_types (AtComma fs c k) = fields_deepest fs
hole_types (AtLabel fs c v l k) = fields_deepest fs
hole_types (AtDot s p k) = deepest s
hole_types (WantType j o k) = over_types j (want_type_depth j)
hole_types (AtTypeWord p v w j o k) = over_types j 2
hole_types (AtTypeComma fs q j o k) = over_types j (suc (type_fields_depth fs))
hole_types (AtTypeLabel fs q v l j o k) = over_types j (suc (type_fields_depth fs))
hole_types (HaveType t j o k) = over_types j (type_depth t)
hole_types (Have s k) = deepest s
hole_types (Ready s q) = deepest s
hole_types _ = 0
