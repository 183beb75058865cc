-- What serving a plan says of the server: the tables that it was loaded with, the texts that it was
-- asked, and its answers.
use Rattle.std.specs.Prelude.{◌≡◌, ◌<◌, ◌≤◌, ◌⊎◌, ℕ, suc, Bool, true, List, [], ◌∷◌, ◌++◌, All, Option, length, take, zip, get_or, Result, Ok, Err}
use Rattle.std.specs.Option.{option_map}
use Rattle.nq_model.specs.Cells.{RowFits}
use Rattle.nq_model.specs.declared.table.ColumnType.{ColumnType}
use Rattle.nq_ir.specs.Meanings.{EachBoth}
use Rattle.sql_profile.specs.Fits.{IsFirstMisfit}
use Rattle.sql_profile.specs.Servers.{Asks, RoseBelow}
use Rattle.sql_profile.specs.Texts.{TextAllows}
use Rattle.sql_profile.specs.Tokens.{First}
use Rattle.sql_profile.specs.declared.answer.Answer.{Answer}
use Rattle.sql_profile.specs.declared.server.Loaded.{Loaded}
use Rattle.stitcher.specs.Stitching.{rows_of}
use Rattle.nq_execute.specs.Plans.{Plan, finished}
use Rattle.nq_execute.specs.declared.refusal.ServerRefusal.{ServerRefusal}
use Rattle.nq_execute.specs.declared.refusal.ServerRefusal.TheVariants as server

-- what a server holds, and the asks that it tells
pub record ServerState : Type 0 where
  pub loaded : List Loaded
  pub asks : Option Asks

abbrev pub server_state : List Loaded → Option Asks → ServerState
server_state loaded asks = record { loaded = loaded; asks = asks }

-- the count of faults rose where the server failed, and else stayed
abbrev pub RefusalCounts : ℕ → ℕ → ℕ → ServerRefusal → Type 0
RefusalCounts bound before now server.Memory = now ≡ before
RefusalCounts bound before now (server.TableFailed name) = RoseBelow bound before now
RefusalCounts bound before now (server.TextFailed text) = RoseBelow bound before now
RefusalCounts bound before now (server.BadAnswer text row column) = now ≡ before

abbrev pub ServerCounts : {T : Type 0} → ℕ → ℕ → ℕ → Result T ServerRefusal → Type 0
ServerCounts bound before now (Ok _) = now ≡ before
ServerCounts bound before now (Err r) = RefusalCounts bound before now r

-- told asks, with more
abbrev pub with_asks : Asks → Option Asks → Option Asks
with_asks more told = option_map (λ asks. asks ++ more) told

-- each answer has rows of its columns' types alone
abbrev pub Fit : List (List ColumnType) → List Answer → Type 0
Fit columns answers = EachBoth (λ types answer. All (RowFits types) answer.rows) columns answers

-- SQL allows each answer to its text
abbrev pub Allowed : List Loaded → List (List ℕ) → List Answer → Type 0
Allowed tables texts answers =
    EachBoth (λ text answer. TextAllows First tables text answer.rows) texts answers

-- asked the first texts of a plan and nothing else, the server gave these answers, one to each,
-- which fit and, where it is honest, are ones that SQL allows
pub record HasAnswered (plan : Plan) (old new : Option Asks) (honest : Bool)
    (answers : List Answer) : Type 0 where
  pub told : new ≡ with_asks (zip plan.texts answers) old
  pub fit : Fit (take (length answers) plan.columns) answers
  pub allowed : honest ≡ true → Allowed plan.tables (take (length answers) plan.texts) answers

-- the server holds the tables and answered each text, and the text that is given is the one of its
-- answers
pub record ServesText (plan : Plan) (old new : ServerState) (honest : Bool)
    (text : List ℕ) : Type 0 where
  pub answers : List Answer
  pub all : length answers ≡ length plan.texts
  pub holds : new.loaded ≡ plan.tables
  pub answered : HasAnswered plan old.asks new.asks honest answers
  pub is : text ≡ finished plan.finish (rows_of answers)

-- the server holds first tables of the plan, and was not asked
pub record HoldsSome (plan : Plan) (old new : ServerState) : Type 0 where
  pub later : List Loaded
  pub all : plan.tables ≡ new.loaded ++ later
  pub untold : new.asks ≡ old.asks

-- the server holds all tables, and answered first texts
pub record AnswersSome (plan : Plan) (old new : ServerState) (honest : Bool) : Type 0 where
  pub answers : List Answer
  pub there : length answers ≤ length plan.texts
  pub holds : new.loaded ≡ plan.tables
  pub answered : HasAnswered plan old.asks new.asks honest answers

-- the server holds the tables before the named one, and was not asked
pub record FailsTable (plan : Plan) (old new : ServerState) (name : List ℕ) : Type 0 where
  pub table : Loaded
  pub later : List Loaded
  pub all : plan.tables ≡ new.loaded ++ table ∷ later
  pub named : name ≡ table.name
  pub untold : new.asks ≡ old.asks

-- the server holds all tables and answered the texts before the one of this number, counted from 1
pub record FailsText (plan : Plan) (old new : ServerState) (honest : Bool)
    (number : ℕ) : Type 0 where
  pub answers : List Answer
  pub numbered : number ≡ suc (length answers)
  pub there : length answers < length plan.texts
  pub holds : new.loaded ≡ plan.tables
  pub answered : HasAnswered plan old.asks new.asks honest answers

-- the server holds all tables, its answers before the one to the text of this number fit, and that
-- one does not, first at this row and column; and it is not honest
pub record AnswersBadly (plan : Plan) (old new : ServerState) (honest : Bool)
    (number row column : ℕ) : Type 0 where
  pub answers : List Answer
  pub bad : Answer
  pub numbered : number ≡ suc (length answers)
  pub there : length answers < length plan.texts
  pub holds : new.loaded ≡ plan.tables
  pub told : new.asks ≡ with_asks (zip plan.texts (answers ++ bad ∷ [])) old.asks
  pub fit : Fit (take (length answers) plan.columns) answers
  pub misfit : IsFirstMisfit bad.rows (get_or plan.columns (length answers) [])
      (record { row = row; column = column })
  pub blamed : honest ≡ true → ⊥

-- why there is no text; where memory ran out, the server holds first tables and was not asked, or
-- holds all and answered first texts
abbrev pub RefusalServes : Plan → ServerState → ServerState → Bool → ServerRefusal → Type 0
RefusalServes plan old new honest server.Memory =
    HoldsSome plan old new ⊎ AnswersSome plan old new honest
RefusalServes plan old new honest (server.TableFailed name) = FailsTable plan old new name
RefusalServes plan old new honest (server.TextFailed text) = FailsText plan old new honest text
RefusalServes plan old new honest (server.BadAnswer text row column) =
    AnswersBadly plan old new honest text row column

abbrev pub ServeTells : Plan → ServerState → ServerState → Bool → Result (List ℕ) ServerRefusal
    → Type 0
ServeTells plan old new honest (Ok text) = ServesText plan old new honest text
ServeTells plan old new honest (Err r) = RefusalServes plan old new honest r
