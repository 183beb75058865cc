-- Laws of tables that are loaded one after the other.
use Rattle.std.proofs.Common.{◌≡◌, ◌≢◌, ◌<◌, ℕ, zero, suc, List, [], ◌∷◌, ◌++◌, length, Result, Ok, Err, refl, sym, ap, ◌∙◌, subst, arith, append_assoc, append-nil, All, Contains, reverse, get_or}
use Rattle.std.specs.List.{AllByRecursion as Each}
use Rattle.std.proofs.lemmas.List.{map-append, reverse-append}
use Rattle.std.proofs.lemmas.List.Elements.{All-head, All-tail}
use Rattle.nq_model.specs.Cells.{RowFits}
use Rattle.nq_model.specs.Orders.{AreDistinct}
use Rattle.nq_model.specs.Tables.{names_of, types_of}
use Rattle.sql_profile.specs.Servers.{table_names}
use Rattle.sql_profile.specs.declared.server.Loaded.{Loaded}
use Rattle.nq_execute.specs.Loading.{CanLoad, LoadTells, LoadedSome}
use Rattle.nq_execute.specs.declared.refusal.ServerRefusal.{ServerRefusal}
use Rattle.nq_execute.specs.declared.refusal.ServerRefusal.TheVariants as server

each_middle : (x y : List ℕ) (xs ys : List (List ℕ)) → Each (λ z. x ≢ z) (xs ++ y ∷ ys) → x ≢ y
each_middle x y [] ys e = e.0
each_middle x y (z ∷ xs) ys e = each_middle x y xs ys e.1

-- a name is not among those before it
fresh_at : (xs ys : List (List ℕ)) (y : List ℕ) (k : ℕ) → AreDistinct (xs ++ y ∷ ys) → k < length xs → get_or xs k y ≡ y → ⊥
fresh_at [] ys y k d within e = absurd (omega (arith, within))
fresh_at (x ∷ xs) ys y zero d within e = each_middle x y xs ys d.0 e
fresh_at (x ∷ xs) ys y (suc k) d within e = fresh_at xs ys y k d.1 (omega (arith, within)) e

pub fresh : (held : List Loaded) (table : Loaded) (later : List Loaded) → CanLoad held (table ∷ later) → Contains (table_names held) table.name → ⊥
fresh held table later can (k, within, is) =
    let P : List (List ℕ) → Type 0 = AreDistinct in
    fresh_at (table_names held) (table_names later) table.name k (subst P (map-append (λ (t : Loaded). t.name) held (table ∷ later)) can.names_differ) within is

pub can_load_more : (held : List Loaded) (table : Loaded) (later : List Loaded) → CanLoad held (table ∷ later) → CanLoad (held ++ table ∷ []) later
can_load_more held table later can =
    let P : List Loaded → Type 0 = λ tables. AreDistinct (table_names tables) in
    record {
      names_differ = subst P (sym (append_assoc held (table ∷ []) later)) can.names_differ;
      columns_differ = All-tail (λ (t : Loaded). AreDistinct (names_of t.columns)) table later can.columns_differ;
      fit = All-tail (λ (t : Loaded). All (RowFits (types_of t.columns)) t.rows) table later can.fit;
    }

pub can_load_held : (held new : List Loaded) (table : Loaded) (later : List Loaded) → CanLoad held (table ∷ later) → new ≡ held ++ table ∷ [] → CanLoad new later
can_load_held held new table later can is =
    let P : List Loaded → Type 0 = λ tables. CanLoad tables later in
    subst P (sym is) (can_load_more held table later can)

pub can_load_columns : (held : List Loaded) (table : Loaded) (later : List Loaded) → CanLoad held (table ∷ later) → AreDistinct (names_of table.columns)
can_load_columns held table later can = All-head (λ (t : Loaded). AreDistinct (names_of t.columns)) table later can.columns_differ

pub can_load_rows : (held : List Loaded) (table : Loaded) (later : List Loaded) → CanLoad held (table ∷ later) → All (RowFits (types_of table.columns)) table.rows
can_load_rows held table later can =
    All-head (λ (t : Loaded). All (RowFits (types_of t.columns)) t.rows) table later can.fit

-- what is told of the tables after one that was loaded
pub load_after : {T : Type 0} (held new : List Loaded) (table : Loaded) (later : List Loaded) (result : Result T ServerRefusal)
    → LoadTells (held ++ table ∷ []) new later result → LoadTells held new (table ∷ later) result
load_after held new table later (Ok x) tells = tells ∙ append_assoc held (table ∷ []) later
load_after held new table later (Err server.Memory) tells =
    record { front = table ∷ tells.front; later = tells.later; all = ap (λ (ts : List Loaded). table ∷ ts) tells.all; holds = tells.holds ∙ append_assoc held (table ∷ []) tells.front }
load_after held new table later (Err (server.TableFailed name)) tells =
    record { front = table ∷ tells.front; table = tells.table; later = tells.later; all = ap (λ (ts : List Loaded). table ∷ ts) tells.all; named = tells.named; holds = tells.holds ∙ append_assoc held (table ∷ []) tells.front }
load_after held new table later (Err (server.TextFailed text)) tells = tells
load_after held new table later (Err (server.BadAnswer text row column)) tells = tells

-- none was loaded
pub none_loaded : (held new tables : List Loaded) → new ≡ held → LoadedSome held new tables
none_loaded held new tables same = record { front = []; later = tables; all = refl; holds = same ∙ sym (append-nil held) }

-- a load that failed
pub load_failed : (held new : List Loaded) (table : Loaded) (later : List Loaded) (name : List ℕ) → new ≡ held → name ≡ table.name
    → LoadTells {T = Unit {0}} held new (table ∷ later) (Err (server.TableFailed name))
load_failed held new table later name same named =
    record { front = []; table = table; later = later; all = refl; named = named; holds = same ∙ sym (append-nil held) }

-- a list that was reversed, without its last element
pub reversed_rest : {A : Type 0} (old new : List A) (x : A) → old ≡ new ++ x ∷ [] → reverse old ≡ x ∷ reverse new
reversed_rest old new x is = ap reverse is ∙ reverse-append new (x ∷ [])

pub ruleset load_rules = (load_after, none_loaded, load_failed, can_load_columns, can_load_rows, fresh, reversed_rest)
