-- What an answer of the reader says of the machine's.
use Rattle.std.specs.Prelude.{◌≡◌, ℕ, ⊤, true, false, List, Option, Some, None, Result, Ok, Err}
use Rattle.nq_model.specs.OpenLists.{Unexpected, Deep}
use Rattle.nq_model.specs.Machines.{Reached, Faulty}
use Rattle.nq_model.specs.QueryTokens.{Token, place_of}
use Rattle.nq_model.specs.QueryGrammar.{Edition}
use Rattle.nq_parser.specs.Machine.{State, Ready, step, fits, run, start_state}
use Rattle.nq_parser.specs.States.{state_view}
use Rattle.query_syntax.specs.Trees.{syntax_view}
use Rattle.query_syntax.specs.declared.fault.SyntaxFault.{SyntaxFault}
use Rattle.query_syntax.specs.declared.fault.SyntaxFault.TheVariants as code
use Rattle.nq_parser.specs.declared.state.State.{State as CodeState}
use Rattle.query_syntax.specs.declared.syntax.Syntax.{Syntax as CodeSyntax}

-- the state behind the token, or why it does not go on; want of memory is free
abbrev pub Advances : Edition → Result CodeState SyntaxFault → ℕ → State → Token → Type 0
Advances ed (Ok next) d st t = (step ed st t ≡ Some (state_view next)) × (fits d (state_view next) ≡ true)
Advances ed (Err code.Memory) d st t = ⊤
Advances ed (Err (code.Unexpected p)) d st t = (p ≡ place_of t) × (step ed st t ≡ None)
Advances ed (Err (code.Deep p)) d st t = (p ≡ place_of t) × ((next : State) × (step ed st t ≡ Some next) × (fits d next ≡ false))
Advances ed (Err _) d st t = ⊥

-- the tree that the machine reaches, or its fault; want of memory is free
abbrev pub ReadsBody : Edition → Result CodeSyntax SyntaxFault → ℕ → List Token → Type 0
ReadsBody ed (Ok s) d ts = (q : ℕ) × (run ed d ts start_state ≡ Reached (Ready (syntax_view s) q))
ReadsBody ed (Err code.Memory) d ts = ⊤
ReadsBody ed (Err (code.Unexpected p)) d ts = (t : Token) × (p ≡ place_of t) × (run ed d ts start_state ≡ Faulty t Unexpected)
ReadsBody ed (Err (code.Deep p)) d ts = (t : Token) × (p ≡ place_of t) × (run ed d ts start_state ≡ Faulty t Deep)
ReadsBody ed (Err _) d ts = ⊥

-- at the end of a text
abbrev pub IsReady : State → Type 0
IsReady (Ready s q) = ⊤
IsReady _ = ⊥

-- the program, where the text has ended
abbrev pub IsProgramOf : Option CodeSyntax → State → Type 0
IsProgramOf (Some s) st = (q : ℕ) × (st ≡ Ready (syntax_view s) q)
IsProgramOf None st = IsReady st → ⊥
