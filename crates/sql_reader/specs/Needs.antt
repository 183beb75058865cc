-- How deep a text is at least that begins with what was read, by numbers that are kept with the unfinished forms.
use Rattle.std.specs.Prelude.{ℕ, suc, ◌+◌, max, Bool, leb, List, [], ◌∷◌, Option, Some, None}
use Rattle.sql_reader.specs.Parts.{Begun, Base, Named, Ranged, OfSelect, OfScalar}
use Rattle.sql_reader.specs.Steps.{Form, Paren, Then, Else, Right, Item, OrderKey, Where, NotExists, Head, BehindCoalesce, BehindCoalesceOpen, BehindSum, Position, WantSelect, AtUnion, Want, AtCase, AtExists, Have, AtRow, AtRowOpen, AtRowClose, AtOver, InOver, AtValue, AtAs, HaveItems, AtSource, AtSourceName, AtSourceAs, AtHead, AtTail, AtSemi, Ready, State, On}

-- how many levels a form is: the query of NOT EXISTS is one of its own
abbrev pub size : Form → ℕ
size (NotExists p) = 2
size f = 1

-- the levels round what the forms stand round, that of the outermost query included
abbrev pub height : List Form → ℕ
height [] = 1
height (f ∷ k) = size f + height k

-- how deep the query is with this SELECT, when nothing comes any more
abbrev pub begun_depth : Begun → ℕ
begun_depth g = max g.before.depth (suc g.depth)

-- the same of a SELECT or a scalar query
abbrev pub ranged_depth : Ranged → ℕ
ranged_depth (OfSelect g) = begun_depth g
ranged_depth (OfScalar s) = suc s.depth

-- how deep the form is at least for what it holds
abbrev pub held : Form → ℕ
held (Then p t) = suc t.depth
held (Else p t y) = suc (max t.depth y.depth)
held (Right l p op) = suc l.depth
held (Item g) = begun_depth g
held (OrderKey ks g) = max (begun_depth g) (suc ks.depth)
held (Where g from) = ranged_depth g
held f = 0

-- how deep a text is at least that the forms stand in, the innermost first
abbrev pub needs : List Form → ℕ
needs [] = 0
needs (f ∷ k) = max (needs k) (held f + height k)

-- behind the WITH query that is being read a main query has to come
abbrev pub named_needs : Option Named → ℕ
named_needs None = 0
named_needs (Some n) = 2

abbrev pub base_needs : Base → ℕ
base_needs b = max b.depth (named_needs b.name)

-- where an expression has to begin: a numbering is less, behind SELECT or a comma, and a count in the place of parentheses
abbrev pub want_hole : List Form → ℕ
want_hole (Item g ∷ k) = 0
want_hole (Paren p ∷ k) = 0
want_hole k = 1

-- how deep a scalar query is at least that begins so
abbrev pub head_hole : Head → ℕ
head_hole BehindCoalesce = 2
head_hole BehindCoalesceOpen = 2
head_hole BehindSum = 2
head_hole h = 1

-- how deep what was begun inside the forms is at least
abbrev pub hole : Position → List Form → ℕ
hole (WantSelect q) k = max q.depth 1
hole (AtUnion q) k = max q.depth 1
hole Want k = want_hole k
hole (AtCase p) k = 2
hole (AtExists p) k = 3
hole (Have s) k = s.depth
hole AtRow k = 0
hole AtRowOpen k = 0
hole AtRowClose k = 0
hole AtOver k = 0
hole InOver k = 0
hole (AtValue v) k = v.depth
hole (AtAs v) k = v.depth
hole (HaveItems g from) k = ranged_depth g
hole (AtSource g from) k = ranged_depth g
hole (AtSourceName g from n) k = ranged_depth g
hole (AtSourceAs g from n) k = ranged_depth g
hole (AtHead p h) k = head_hole h
hole (AtTail s z) k = suc s.depth
hole (AtSemi q) k = q.depth
hole (Ready q) k = q.depth
hole at k = 1

abbrev pub least_depth : State → ℕ
least_depth (On b k at) = max (base_needs b) (max (needs k) (hole at k + height k))

abbrev pub fits : ℕ → State → Bool
fits d st = leb (least_depth st) d
