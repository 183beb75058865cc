-- How tables are loaded into a server, one after the other.
use Rattle.std.specs.Prelude.{◌≡◌, ℕ, List, ◌∷◌, ◌++◌, All, Result, Ok, Err}
use Rattle.nq_model.specs.Cells.{RowFits}
use Rattle.nq_model.specs.Orders.{AreDistinct}
use Rattle.nq_model.specs.Tables.{names_of, types_of}
use Rattle.sql_profile.specs.Servers.{table_names}
use Rattle.sql_profile.specs.declared.server.Loaded.{Loaded}
use Rattle.nq_execute.specs.declared.refusal.ServerRefusal.{ServerRefusal}
use Rattle.nq_execute.specs.declared.refusal.ServerRefusal.TheVariants as server

-- these tables may be loaded, in order, into a server that holds those
pub record CanLoad (held tables : List Loaded) : Type 0 where
  pub names_differ : AreDistinct (table_names (held ++ tables))
  pub columns_differ : All (λ table. AreDistinct (names_of table.columns)) tables
  pub fit : All (λ table. All (RowFits (types_of table.columns)) table.rows) tables

-- first tables were loaded
pub record LoadedSome (old new tables : List Loaded) : Type 0 where
  pub front : List Loaded
  pub later : List Loaded
  pub all : tables ≡ front ++ later
  pub holds : new ≡ old ++ front

-- the tables before the named one were loaded
pub record LoadedBefore (old new tables : List Loaded) (name : List ℕ) : Type 0 where
  pub front : List Loaded
  pub table : Loaded
  pub later : List Loaded
  pub all : tables ≡ front ++ table ∷ later
  pub named : name ≡ table.name
  pub holds : new ≡ old ++ front

abbrev pub LoadFails : List Loaded → List Loaded → List Loaded → ServerRefusal → Type 0
LoadFails old new tables server.Memory = LoadedSome old new tables
LoadFails old new tables (server.TableFailed name) = LoadedBefore old new tables name
LoadFails old new tables (server.TextFailed text) = ⊥
LoadFails old new tables (server.BadAnswer text row column) = ⊥

-- all tables were loaded; or first ones, up to the one that failed
abbrev pub LoadTells : {T : Type 0} → List Loaded → List Loaded → List Loaded
    → Result T ServerRefusal → Type 0
LoadTells old new tables (Ok _) = new ≡ old ++ tables
LoadTells old new tables (Err r) = LoadFails old new tables r
