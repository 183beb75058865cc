-- Texts of answers: tables without a key.
use Rattle.std.proofs.Common.{◌≡◌, ℕ, suc, List, [], ◌∷◌, ◌++◌, refl, sym, ap, ◌∙◌, subst, All, Err, get_or, drop, drop-cons, length, append_assoc, ◌<◌}
use Rattle.nq_model.specs.Cells.{RowFits}
use Rattle.nq_model.specs.NamedRows.{Label}
use Rattle.nq_model.specs.SchemaTables.{IsTableOf}
use Rattle.nq_model.specs.Tables.{Columns, types_of}
use Rattle.nq_model.specs.declared.table.Cell.{Cell}
use Rattle.nq_model.specs.declared.table.ColumnType.{ColumnType}
use Rattle.table_reader.specs.declared.TableFault.TheVariants as fault
use Rattle.table_reader.specs.Records.{records_of}
use Rattle.table_reader.specs.Tables.{table_of}
use Rattle.table_reader.proofs.TableFacts.{under_wrong}
use Rattle.flatten.specs.Emitted.{answer_shape_from, answer_shape}
use Rattle.flatten.specs.Names.{answer_name}
use Rattle.foreign_answers.specs.Shapes.{shape_of}

-- the columns have the types
types_named : (k : ℕ) (types : List ColumnType) → types_of (answer_shape_from k types) ≡ types
types_named k [] = refl
types_named k (type ∷ types) = ap (λ (l : List ColumnType). type ∷ l) (types_named (suc k) types)

pub rows_fit : (types : List ColumnType) (rows : List (List Cell)) → IsTableOf (shape_of types) rows → All (RowFits types) rows
rows_fit types rows h = subst (λ (l : List ColumnType). All (RowFits l) rows) (types_named 0 types) h.fit

-- no row has the key of another, as there is no key
pub no_twin : (types : List ColumnType) (text : List ℕ) (row earlier : ℕ) → table_of (shape_of types) text ≡ Err (fault.TwiceKey row earlier) → ⊥
unfolding table_of
no_twin types text row earlier e =
    let f = under_wrong (shape_of types) (records_of text) (fault.TwiceKey row earlier) e in
    f.wrong.2.keyed refl

-- one column more has its name
pub name_more : (named : Columns) (types : List ColumnType) (k : ℕ) (name : Label) (type : ColumnType) → k < length types → type ≡ get_or types k type → name ≡ answer_name k
    → named ++ answer_shape_from k (drop k types) ≡ answer_shape types → (named ++ (name, type) ∷ []) ++ answer_shape_from (suc k) (drop (suc k) types) ≡ answer_shape types
name_more named types k name type h is called e =
    append_assoc named ((name, type) ∷ []) (answer_shape_from (suc k) (drop (suc k) types))
    ∙ ap (λ (l : Label). named ++ (l, type) ∷ answer_shape_from (suc k) (drop (suc k) types)) called
    ∙ ap (λ (t : ColumnType). named ++ (answer_name k, t) ∷ answer_shape_from (suc k) (drop (suc k) types)) is
    ∙ ap (λ (l : List ColumnType). named ++ answer_shape_from k l) (sym (drop-cons types k type h))
    ∙ e
