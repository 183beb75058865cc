-- What asking texts says of the server: of one text, and of all texts of a plan.
use Rattle.std.specs.Prelude.{◌≡◌, ℕ, Bool, true, List, All, Option, length, Result, Ok, Err}
use Rattle.nq_model.specs.Cells.{RowFits}
use Rattle.nq_model.specs.Tables.{types_of}
use Rattle.nq_model.specs.declared.table.ColumnType.{ColumnType}
use Rattle.sql_profile.specs.Fits.{IsFirstMisfit}
use Rattle.sql_profile.specs.Servers.{Asks, with_ask}
use Rattle.sql_profile.specs.Texts.{TextAllows}
use Rattle.sql_profile.specs.Tokens.{First}
use Rattle.sql_profile.specs.declared.answer.Answer.{Answer}
use Rattle.sql_profile.specs.declared.server.Loaded.{Loaded}
use Rattle.nq_execute.specs.Plans.{Finish, Plan}
use Rattle.nq_execute.specs.Serving.{ServerState, HasAnswered, RefusalServes}
use Rattle.nq_execute.specs.declared.refusal.ServerRefusal.{ServerRefusal}
use Rattle.nq_execute.specs.declared.refusal.ServerRefusal.TheVariants as server

-- the rows of each table fit its columns
abbrev pub HaveFittingRows : List Loaded → Type 0
HaveFittingRows tables = All (λ table. All (RowFits (types_of table.columns)) table.rows) tables

-- asked this text and nothing else, the server gave this answer, which fits and, where it is
-- honest, is one that SQL allows
pub record AnswersText (held : List Loaded) (types : List ColumnType) (text : List ℕ)
    (old new : Option Asks) (honest : Bool) (answer : Answer) : Type 0 where
  pub told : new ≡ with_ask text answer old
  pub fit : All (RowFits types) answer.rows
  pub allowed : honest ≡ true → TextAllows First held text answer.rows

-- asked this text and nothing else, the server gave an answer that does not fit, first at this row
-- and column; and it is not honest
pub record MisfitsText (types : List ColumnType) (text : List ℕ) (old new : Option Asks)
    (honest : Bool) (row column : ℕ) : Type 0 where
  pub bad : Answer
  pub told : new ≡ with_ask text bad old
  pub misfit : IsFirstMisfit bad.rows types (record { row = row; column = column })
  pub blamed : honest ≡ true → ⊥

-- why the text of this number has no answer that fits: it has none, or one that does not fit
abbrev pub TextRefused : List ColumnType → List ℕ → ℕ → Option Asks → Option Asks → Bool
    → ServerRefusal → Type 0
TextRefused types text number old new honest server.Memory = new ≡ old
TextRefused types text number old new honest (server.TableFailed name) = ⊥
TextRefused types text number old new honest (server.TextFailed failed) =
    (failed ≡ number) × (new ≡ old)
TextRefused types text number old new honest (server.BadAnswer failed row column) =
    (failed ≡ number) × MisfitsText types text old new honest row column

abbrev pub TextTells : List Loaded → List ColumnType → List ℕ → ℕ → Option Asks → Option Asks → Bool
    → Result Answer ServerRefusal → Type 0
TextTells held types text number old new honest (Ok answer) =
    AnswersText held types text old new honest answer
TextTells held types text number old new honest (Err r) =
    TextRefused types text number old new honest r

-- texts and the types of their columns as a plan over the tables that a server holds, however it is
-- finished
abbrev pub plan_over : List Loaded → List (List ℕ) → List (List ColumnType) → Finish → Plan
plan_over held texts columns finish =
    record { tables = held; texts = texts; columns = columns; finish = finish }

-- an answer to each text of a plan, or why there are none
abbrev pub AskTells : Plan → ServerState → ServerState → Bool → Result (List Answer) ServerRefusal
    → Type 0
AskTells plan old new honest (Ok answers) =
    (length answers ≡ length plan.texts) × HasAnswered plan old.asks new.asks honest answers
AskTells plan old new honest (Err r) = RefusalServes plan old new honest r
