-- What is explained of the text of a table.
use Rattle.std.proofs.Common.{◌≡◌, ◌≢◌, ℕ, List, Result, Ok, Err, IfOk, sym, subst}
use Rattle.nq_model.specs.declared.table.Cell.{Cell}
use Rattle.nq_model.specs.declared.table.Schema.{Schema}
use Rattle.nq_model.specs.declared.table.TableShape.{TableShape}
use Rattle.table_explanations.specs.Explanations.{ExplainsTable}
use Rattle.table_reader.specs.Tables.{table_of}
use Rattle.table_reader.specs.declared.TableFault.{TableFault}
use Rattle.table_reader.specs.declared.TableFault.TheVariants as fault
use Rattle.nq_top.specs.Judging.{rows_or_cause, table_query, typed_or_explained}
use Rattle.nq_top.specs.Steps.{Says}

-- the type of the rows that a text gives is said
pub rows_say : {E : Type 0} (schema : Schema) (shape : TableShape) (name text : List ℕ)
    (rows : List (List Cell)) (result : Result (List ℕ) E) → table_of shape text ≡ Ok rows
    → IfOk result (Says (typed_or_explained schema name text (Ok (table_query shape.name))))
    → IfOk result (Says (rows_or_cause schema shape name text (table_of shape text)))
rows_say schema shape name text rows (Err e) is says = tt
rows_say schema shape name text rows (Ok made) is says =
    let P : Result (List (List Cell)) TableFault → Type 0 = λ r.
    Says (rows_or_cause schema shape name text r) made in
    subst P (sym is) says

-- a fault that is explained is no want of memory
no_want : (name text made : List ℕ) (shape : TableShape) (e : TableFault)
    → ExplainsTable name text shape e made → e ≢ fault.Memory
no_want name text made shape e says is =
    subst (λ (f : TableFault). ExplainsTable name text shape f made) is says

-- or its fault is explained
pub fault_says : {E : Type 0} (schema : Schema) (shape : TableShape) (name text : List ℕ)
    (e : TableFault) (result : Result (List ℕ) E)
    → (e ≢ fault.Memory → table_of shape text ≡ Err e)
    → IfOk result (ExplainsTable name text shape e)
    → IfOk result (Says (rows_or_cause schema shape name text (table_of shape text)))
fault_says schema shape name text e (Err r) is says = tt
fault_says schema shape name text e (Ok made) is says =
    let P : Result (List (List Cell)) TableFault → Type 0 = λ r.
    Says (rows_or_cause schema shape name text r) made in
    subst P (sym (is (no_want name text made shape e says))) says
