-- The states of the reader as those of the machine.
use Rattle.std.specs.Prelude.{◌≡◌, ⊤, List, Option, Some, None, Result, Ok, Err}
use Rattle.nq_model.specs.declared.memory.Memory.{Memory}
use Rattle.nq_parser.specs.Machine.{Frame, State, Want, AtWord, AtTable, AtAggregate, AtFor, AtForOpen, AtForName, AtWhere, AtFun, AtFunOpen, AtFunName, AtFunClose, AtLet, AtLetName, AtComma, AtLabel, AtDot, WantType, AtTypeWord, AtTypeComma, AtTypeLabel, HaveType, Have, Ready}
use Rattle.nq_parser.specs.Forms.{part_view, fields_view, type_fields_view, around_view}
use Rattle.nq_parser.specs.Stacks.{frames}
use Rattle.nq_parser.specs.TypeStacks.{type_frames}
use Rattle.query_syntax.specs.Trees.{aggregate_view, type_view}
use Rattle.nq_parser.specs.declared.state.Position.{Position}
use Rattle.nq_parser.specs.declared.state.Position.TheVariants as at
use Rattle.nq_parser.specs.declared.state.State.{State as CodeState}

-- the position inside these forms, the innermost first
abbrev pub position_view : Position → List Frame → State
position_view at.Want k = Want k
position_view (at.AtWord p w) k = AtWord p w.place w.name k
position_view (at.AtTable p) k = AtTable p k
position_view (at.AtAggregate a p) k = AtAggregate (aggregate_view a) p k
position_view (at.AtFor p) k = AtFor p k
position_view (at.AtForOpen p o) k = AtForOpen p o k
position_view (at.AtForName p o x) k = AtForName p o x.place x.name k
position_view (at.AtWhere p) k = AtWhere p k
position_view (at.AtFun p) k = AtFun p k
position_view (at.AtFunOpen p o) k = AtFunOpen p o k
position_view (at.AtFunName p o x) k = AtFunName p o x.place x.name k
position_view (at.AtFunClose p o x c t z) k = AtFunClose p o x.place x.name c (type_view t.ty) z k
position_view (at.AtLet p) k = AtLet p k
position_view (at.AtLetName p x) k = AtLetName p x.place x.name k
position_view (at.AtComma fs c) k = AtComma (fields_view fs) c k
position_view (at.AtLabel fs c l) k = AtLabel (fields_view fs) c l.place l.name k
position_view (at.AtDot s p) k = AtDot (part_view s) p k
position_view (at.WantType t) k = WantType (type_frames t.forms.levels) (around_view t.around) k
position_view (at.AtTypeWord p w t) k = AtTypeWord p w.place w.name (type_frames t.forms.levels) (around_view t.around) k
position_view (at.AtTypeComma fs q t) k = AtTypeComma (type_fields_view fs) q (type_frames t.forms.levels) (around_view t.around) k
position_view (at.AtTypeLabel fs q l t) k = AtTypeLabel (type_fields_view fs) q l.place l.name (type_frames t.forms.levels) (around_view t.around) k
position_view (at.HaveType t s) k = HaveType (type_view t.ty) (type_frames s.forms.levels) (around_view s.around) k
position_view (at.Have s) k = Have (part_view s) k
position_view (at.Ready s q) k = Ready (part_view s) q

abbrev pub state_view : CodeState → State
state_view s = position_view s.at (frames s.stack.levels)

-- the answer of a step: the state behind the token, or none where it may not stand; want of memory is free
abbrev pub Steps : Result (Option CodeState) Memory → Option State → Type 0
Steps (Ok (Some s)) o = o ≡ Some (state_view s)
Steps (Ok None) o = o ≡ None
Steps (Err e) o = ⊤

-- the same of the position behind the token, inside these forms
abbrev pub Leads : Result (Option Position) Memory → List Frame → Option State → Type 0
Leads (Ok (Some at)) k o = o ≡ Some (position_view at k)
Leads (Ok None) k o = o ≡ None
Leads (Err e) k o = ⊤

-- the same of a step that takes no memory
abbrev pub Stands : Option Position → List Frame → Option State → Type 0
Stands (Some at) k o = o ≡ Some (position_view at k)
Stands None k o = o ≡ None
