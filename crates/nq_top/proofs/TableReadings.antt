-- How the judgement of the tables follows from their fetches.
use Rattle.std.proofs.Common.{◌≡◌, ◌-◌, ℕ, List, [], ◌∷◌, ◌++◌, length, Some, None, Option, Result, Ok, Err, refl, sym, ap, subst, ◌∙◌, append_assoc, append-nil, IfSome}
use Rattle.nq_model.specs.SchemaTables.{IsTableOf}
use Rattle.nq_model.specs.declared.table.Cell.{Cell}
use Rattle.nq_model.specs.declared.table.TableShape.{TableShape}
use Rattle.nq_edge.specs.Edge.{Files, bytes_at, TellsMore}
use Rattle.sql_profile.specs.declared.server.Loaded.{Loaded}
use Rattle.command_line.specs.declared.refusal.InputRefusal.{InputRefusal}
use Rattle.command_line.specs.declared.refusal.InputRefusal.TheVariants as input
use Rattle.nq_top.specs.Gathering.{Told, RefusalTells}
use Rattle.nq_top.specs.Judging.{Judgement, Verdict, after, fetched_then, read_then, loaded_as, tables_judged}
use Rattle.nq_top.specs.Lines.{file_by}
use Rattle.nq_top.specs.Plans.{AreReadFor}
use Rattle.nq_top.specs.Reading.{rows_read}
use Rattle.nq_top.specs.declared.tables.TableTexts.{TableTexts}
use Rattle.nq_top.specs.Steps.{TablesTell, ReadsBehind, FetchedWithin, Refuses}
use Rattle.nq_top.proofs.Steps.{tells_then, tells_nothing, refusal_through, leads_after, fetch_next, fetch_refused, read_next, read_refused}

pub refusal_after : (name : List ℕ) (later : Judgement) (old mid new : Told) (r : InputRefusal) → TellsMore old mid (name ∷ [])
    → RefusalTells later mid new r → RefusalTells (after name later) old new r
refusal_after name later old mid new r told tells =
    refusal_through (after name later) later old mid new r (leads_after name later old mid told) tells

-- the rows of a table
pub rows_next : (kind : TableTexts) (shape : TableShape) (text : List ℕ) (rows : List (List Cell)) (next : List (List Cell) → Judgement) → rows_read kind shape text ≡ Ok rows
    → read_then (rows_read kind shape text) next ≡ next rows
rows_next kind shape text rows next e = read_next (rows_read kind shape text) rows next e

pub rows_refused : (kind : TableTexts) (shape : TableShape) (text : List ℕ) (next : List (List Cell) → Judgement) (old new : Told) (r : InputRefusal)
    → Refuses (rows_read kind shape text) r → new ≡ old → RefusalTells (read_then (rows_read kind shape text) next) old new r
rows_refused kind shape text next old new r refuses same = read_refused (rows_read kind shape text) next old new r refuses same

-- what the reading of tables tells of what came after a fetch, it tells of the whole
pub tables_after : (name : List ℕ) (later : Judgement) (next : List Loaded → Verdict) (old mid new : Told) (result : Result (List Loaded) InputRefusal) → TellsMore old mid (name ∷ [])
    → TablesTell later next mid new result → TablesTell (after name later) next old new result
tables_after name later next old mid new (Ok tables) first tells =
    record { comes_to = tells.comes_to; fetched = tells_then old mid new (name ∷ []) later.names first tells.fetched }
tables_after name later next old mid new (Err r) first tells = refusal_after name later old mid new r first tells

-- One table text is fetched and read.
module _ (files : Files) (kind : TableTexts) (folder name text : List ℕ) (shape : TableShape) (shapes : List TableShape) (left : ℕ) (done : List Loaded) (next : List Loaded → Verdict) (named : name ≡ file_by kind folder shape.name) (within : FetchedWithin (bytes_at files name) left text) where
  abbrev later : List ℕ → List (List Cell) → Judgement
  later given rows = tables_judged files kind folder shapes (left - length given) (done ++ loaded_as shape rows ∷ []) next

  abbrev step : List ℕ → Judgement
  step given = read_then (rows_read kind shape given) (later given)

  abbrev whole : Judgement
  whole = tables_judged files kind folder (shape ∷ shapes) left done next

  whole_is : whole ≡ after name (step text)
  whole_is = ap (λ (n : List ℕ). fetched_then files n left step) (sym named) ∙ fetch_next files name left step text within

  -- the others are read after it
  table_told : (rows : List (List Cell)) (old mid new : Told) (result : Result (List Loaded) InputRefusal) → TellsMore old mid (name ∷ []) → rows_read kind shape text ≡ Ok rows
      → TablesTell (later text rows) next mid new result → TablesTell whole next old new result
  table_told rows old mid new result told read tells =
      let goes : step text ≡ later text rows = read_next (rows_read kind shape text) rows (later text) read in
      let P : Judgement → Type 0 = λ j. TablesTell j next old new result in
      let Q : Judgement → Type 0 = λ j. TablesTell j next mid new result in
      subst P (sym whole_is) (tables_after name (step text) next old mid new result told (subst Q (sym goes) tells))

  -- memory wants after it
  table_ends : (old mid : Told) → TellsMore old mid (name ∷ []) → RefusalTells whole old mid input.Memory
  table_ends old mid told =
      record { front = name ∷ []; back = (step text).names; all = ap (λ (j : Judgement). j.names) whole_is; fetched = told }

pub table_goes : (held mid_held : Option Files) (kind : TableTexts) (folder name text : List ℕ) (shape : TableShape) (shapes : List TableShape) (left rest : ℕ) (done more : List Loaded) (rows : List (List Cell)) (old mid new : Told) (result : Result (List Loaded) InputRefusal)
    → name ≡ file_by kind folder shape.name → mid_held ≡ held → IfSome held (λ files. FetchedWithin (bytes_at files name) left text) → TellsMore old mid (name ∷ [])
    → rows_read kind shape text ≡ Ok rows → rest ≡ left - length text → more ≡ done ++ loaded_as shape rows ∷ []
    → IfSome mid_held (λ files. (next : List Loaded → Verdict) → TablesTell (tables_judged files kind folder shapes rest more next) next mid new result)
    → IfSome held (λ files. (next : List Loaded → Verdict) → TablesTell (tables_judged files kind folder (shape ∷ shapes) left done next) next old new result)
table_goes None mid_held kind folder name text shape shapes left rest done more rows old mid new result named same within told read fewer longer tells = tt
table_goes (Some files) mid_held kind folder name text shape shapes left rest done more rows old mid new result named same within told read fewer longer tells = λ next.
    let H : Option Files → Type 0 = λ h. IfSome h (λ fs. (next : List Loaded → Verdict) → TablesTell (tables_judged fs kind folder shapes rest more next) next mid new result) in
    let here = subst H same tells next in
    let P : ℕ → Type 0 = λ n. TablesTell (tables_judged files kind folder shapes n more next) next mid new result in
    let Q : List Loaded → Type 0 = λ d. TablesTell (tables_judged files kind folder shapes (left - length text) d next) next mid new result in
    table_told files kind folder name text shape shapes left done next named within rows old mid new result told read (subst Q longer (subst P fewer here))

pub table_wants : (held : Option Files) (kind : TableTexts) (folder name text : List ℕ) (shape : TableShape) (shapes : List TableShape) (left : ℕ) (done : List Loaded) (old mid : Told)
    → name ≡ file_by kind folder shape.name → IfSome held (λ files. FetchedWithin (bytes_at files name) left text) → TellsMore old mid (name ∷ [])
    → IfSome held (λ files. (next : List Loaded → Verdict) → TablesTell (tables_judged files kind folder (shape ∷ shapes) left done next) next old mid (Err input.Memory))
table_wants None kind folder name text shape shapes left done old mid named within told = tt
table_wants (Some files) kind folder name text shape shapes left done old mid named within told = λ next.
    table_ends files kind folder name text shape shapes left done next named within old mid told

-- no table is left to be read
pub reads_none : (done : List Loaded) → ReadsBehind done [] done
reads_none done = record { rest = []; all = sym (append-nil done); read = record { rows = []; stored = tt; is = refl } }

-- one more table was read
pub reads_more : (done more tables : List Loaded) (shape : TableShape) (shapes : List TableShape) (rows : List (List Cell)) → more ≡ done ++ loaded_as shape rows ∷ [] → IsTableOf shape rows
    → ReadsBehind more shapes tables → ReadsBehind done (shape ∷ shapes) tables
reads_more done more tables shape shapes rows is stored reads = record {
  rest = loaded_as shape rows ∷ reads.rest;
  all = reads.all ∙ ap (λ (d : List Loaded). d ++ reads.rest) is ∙ append_assoc done (loaded_as shape rows ∷ []) reads.rest;
  read = record {
    rows = rows ∷ reads.read.rows;
    stored = (stored, reads.read.stored);
    is = ap (λ (d : List Loaded). loaded_as shape rows ∷ d) reads.read.is;
  };
}

-- tables behind none are those that were read
pub reads_all : (done tables : List Loaded) (shapes : List TableShape) → done ≡ [] → ReadsBehind done shapes tables → AreReadFor shapes tables
reads_all done tables shapes empty reads =
    let same : tables ≡ reads.rest = reads.all ∙ ap (λ (d : List Loaded). d ++ reads.rest) empty in
    subst (λ (ts : List Loaded). AreReadFor shapes ts) (sym same) reads.read

pub ruleset table_rules = (tables_after, refusal_after, fetch_next, fetch_refused, rows_next, rows_refused, reads_none, reads_more, tells_nothing)
