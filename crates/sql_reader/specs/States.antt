-- The states of the reader as what it keeps.
use Rattle.std.specs.Prelude.{◌≡◌, ⊤, List, Option, Some, None, Result, Ok, Err}
use Rattle.nq_model.specs.declared.memory.Memory.{Memory}
use Rattle.sql_reader.specs.Stacks.{forms}
use Rattle.sql_reader.specs.Parts.{Base}
use Rattle.sql_reader.specs.Steps as reader
use Rattle.sql_reader.specs.Steps.{Form}
use Rattle.sql_reader.specs.Views.{base_view, name_view, part_view, ranged_view, scalar_view, selects_view, value_view}
use Rattle.sql_reader.specs.declared.state.Head.{Head}
use Rattle.sql_reader.specs.declared.state.Head.TheVariants as heads
use Rattle.sql_reader.specs.declared.state.Tail.{Tail}
use Rattle.sql_reader.specs.declared.state.Tail.TheVariants as tails
use Rattle.sql_reader.specs.declared.state.Position.{Position}
use Rattle.sql_reader.specs.declared.state.Position.TheVariants as at
use Rattle.sql_reader.specs.declared.state.State.{State}

abbrev pub head_view : Head → reader.Head
head_view heads.Select = reader.BehindSelect
head_view heads.Count = reader.BehindCount
head_view heads.CountOpen = reader.BehindCountOpen
head_view heads.CountStar = reader.BehindCountStar
head_view heads.Coalesce = reader.BehindCoalesce
head_view heads.CoalesceOpen = reader.BehindCoalesceOpen
head_view heads.Sum = reader.BehindSum

abbrev pub tail_view : Tail → reader.Tail
tail_view tails.Close = reader.BehindClose
tail_view tails.Comma = reader.BehindComma
tail_view tails.Zero = reader.BehindZero

abbrev pub position_view : Position → reader.Position
position_view at.AtStart = reader.AtStart
position_view at.BehindWith = reader.BehindWith
position_view at.AtDef = reader.AtDef
position_view (at.AtDefName n) = reader.AtDefName (name_view n)
position_view (at.AtDefAs n) = reader.AtDefAs (name_view n)
position_view (at.WantSelect q) = reader.WantSelect (selects_view q)
position_view (at.AtUnion q) = reader.AtUnion (selects_view q)
position_view at.Want = reader.Want
position_view (at.AtName n) = reader.AtName (name_view n)
position_view (at.AtDot n) = reader.AtDot (name_view n)
position_view (at.AtCase p) = reader.AtCase p
position_view (at.AtExists p) = reader.AtExists p
position_view (at.Have s) = reader.Have (part_view s)
position_view at.AtRow = reader.AtRow
position_view at.AtRowOpen = reader.AtRowOpen
position_view at.AtRowClose = reader.AtRowClose
position_view at.AtOver = reader.AtOver
position_view at.InOver = reader.InOver
position_view at.AtOrder = reader.AtOrder
position_view (at.AtValue v) = reader.AtValue (value_view v)
position_view (at.AtAs v) = reader.AtAs (value_view v)
position_view (at.HaveItems g from) = reader.HaveItems (ranged_view g) from
position_view (at.AtSource g from) = reader.AtSource (ranged_view g) from
position_view (at.AtSourceName g from n) = reader.AtSourceName (ranged_view g) from (name_view n)
position_view (at.AtSourceAs g from n) = reader.AtSourceAs (ranged_view g) from (name_view n)
position_view (at.AtHead p h) = reader.AtHead p (head_view h)
position_view (at.AtTail s z) = reader.AtTail (scalar_view s) (tail_view z)
position_view (at.AtSemi q) = reader.AtSemi (selects_view q)
position_view (at.Ready q) = reader.Ready (selects_view q)

abbrev pub state_view : State → reader.State
state_view s = reader.On (base_view s.base) (forms s.stack.levels) (position_view s.at)

-- what stands round a position
abbrev pub Withs : Type 0
Withs = Base

abbrev pub Forms : Type 0
Forms = List Form

-- the position behind a token, inside these forms, or none where the token may not stand there
abbrev pub Leads : Option Position → Base → List Form → Option reader.State → Type 0
Leads (Some p) b k o = o ≡ Some (reader.On b k (position_view p))
Leads None b k o = o ≡ None

-- the same of what may take memory, want of which is free
abbrev pub Turns : Result (Option Position) Memory → Base → List Form → Option reader.State → Type 0
Turns (Ok r) b k o = Leads r b k o
Turns (Err e) b k o = ⊤
