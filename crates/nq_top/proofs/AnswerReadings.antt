-- How the judgement of answers that were made elsewhere follows from their fetches.
use Rattle.std.proofs.Common.{◌≡◌, ◌≢◌, ◌+◌, ◌-◌, ◌<◌, ℕ, List, [], ◌∷◌, ◌++◌, length, Some, None, Option, Result, Ok, Err, refl, sym, ap, subst, ◌∙◌, append_assoc, append-nil, length-append, arith, IfSome, All}
use Rattle.std.proofs.lemmas.List.Elements.{All-tail}
use Rattle.nq_model.specs.Cells.{RowFits}
use Rattle.nq_model.specs.Types.{TypeTree}
use Rattle.nq_model.specs.declared.table.ColumnType.{ColumnType}
use Rattle.nq_edge.specs.Edge.{Files, bytes_at, TellsMore}
use Rattle.foreign_answers.specs.Faults.{as_table_fault, told}
use Rattle.foreign_answers.specs.Shapes.{shape_of}
use Rattle.foreign_answers.specs.declared.faults.AnswerFault.{AnswerFault}
use Rattle.foreign_answers.specs.declared.faults.AnswerFault.TheVariants as answer
use Rattle.foreign_answers.specs.declared.faults.LinkFault.{LinkFault}
use Rattle.foreign_answers.specs.declared.faults.LinkFault.TheVariants as link
use Rattle.sql_profile.specs.declared.answer.Answer.{Answer}
use Rattle.stitcher.specs.Linked.{link_fault}
use Rattle.stitcher.specs.Stitching.{rows_of}
use Rattle.table_reader.specs.Tables.{table_of}
use Rattle.command_line.specs.declared.refusal.Refused.TheVariants.{Answer as AnswerRefused, Links}
use Rattle.command_line.specs.declared.refusal.InputRefusal.{InputRefusal}
use Rattle.command_line.specs.declared.refusal.InputRefusal.TheVariants as input
use Rattle.nq_top.specs.Foreign.{AnswersBehind}
use Rattle.nq_top.specs.Gathering.{Told, RefusalTells}
use Rattle.nq_top.specs.Judging.{Judgement, fetched_then, read_then, answers_then}
use Rattle.nq_top.specs.Lines.{answer_file_of}
use Rattle.nq_top.specs.Reading.{answer_fault, answer_as, answer_read, linked_as, links_read}
use Rattle.nq_top.specs.Steps.{Leads, StepTells, FetchedWithin, FetchNames, FetchSays, Refuses}
use Rattle.nq_top.proofs.Steps.{tells_then, tells_nothing, refusal_through, leads_after, fetch_next, fetch_refused, read_next, read_refused}

-- 1. one answer

same_fault : (e : AnswerFault) → answer_fault (as_table_fault e) ≡ e
same_fault answer.Memory = refl
same_fault answer.Header = refl
same_fault (answer.Width row) = refl
same_fault (answer.NotUtf8 row column) = refl
same_fault (answer.BadInt row column) = refl
same_fault (answer.BadBool row column) = refl

pub answer_given : (number : ℕ) (types : List ColumnType) (text : List ℕ) (given : Answer) → table_of (shape_of types) text ≡ Ok given.rows → answer_read number types text ≡ Ok given
unfolding answer_read
answer_given number types text given is = ap (answer_as number) is

pub answer_faulty : (number : ℕ) (types : List ColumnType) (text : List ℕ) (e : AnswerFault) → table_of (shape_of types) text ≡ Err (as_table_fault e) → answer_read number types text ≡ Err (AnswerRefused number e)
unfolding answer_read
answer_faulty number types text e is =
    ap (answer_as number) is ∙ ap (λ (f : AnswerFault). Err (AnswerRefused number f)) (same_fault e)

pub ruleset answer_rules = (answer_given, answer_faulty)

-- 2. links

pub answers_linked : (type : TypeTree) (answers : List Answer) → link_fault type (rows_of answers) ≡ None → links_read type answers ≡ Ok answers
unfolding links_read
answers_linked type answers is = ap (linked_as answers) is

pub answers_unlinked : (type : TypeTree) (answers : List Answer) (e : LinkFault) → e ≢ link.Memory → link_fault type (rows_of answers) ≡ told e → links_read type answers ≡ Err (Links e)
unfolding links_read
answers_unlinked type answers link.Memory certain is = absurd (certain refl)
answers_unlinked type answers (link.Dangling number row) certain is = ap (linked_as answers) is
answers_unlinked type answers (link.Twice number row column earlier) certain is = ap (linked_as answers) is

pub ruleset link_rules = (answers_linked, answers_unlinked)

-- 3. steps

-- what leads on leads to what is led on to
leads_then : (whole middle rest : Judgement) (old mid new : Told) → Leads whole middle old mid → Leads middle rest mid new → Leads whole rest old new
leads_then whole middle rest old mid new first later = record {
  front = first.front ++ later.front;
  names = first.names ∙ ap (λ (ns : List (List ℕ)). first.front ++ ns) later.names ∙ sym (append_assoc first.front later.front rest.names);
  verdict = first.verdict ∙ later.verdict;
  fetched = tells_then old mid new first.front later.front first.fetched later.fetched;
}

step_through : {B : Type 0} (whole middle : Judgement) (next : B → Judgement) (old mid new : Told) (result : Result B InputRefusal) → Leads whole middle old mid
    → StepTells middle next mid new result → StepTells whole next old new result
step_through whole middle next old mid new (Ok b) leads tells = leads_then whole middle (next b) old mid new leads tells
step_through whole middle next old mid new (Err r) leads tells = refusal_through whole middle old mid new r leads tells

-- what the reading of answers tells, whatever comes of them
abbrev pub AnswersTold : Option Files → List ℕ → List (List ColumnType) → ℕ → List Answer → Told → Told → Result (List Answer) InputRefusal → Type 0
AnswersTold held folder columns left done old new result =
    IfSome held (λ files. (next : List Answer → Judgement) → StepTells (answers_then files folder columns left done next) next old new result)

-- no answer is left to be read
pub answers_end : (held : Option Files) (folder : List ℕ) (left : ℕ) (done : List Answer) (old : Told) → AnswersTold held folder [] left done old old (Ok done)
answers_end None folder left done old = tt
answers_end (Some files) folder left done old = λ next. record { front = []; names = refl; verdict = refl; fetched = tells_nothing old old refl }

-- memory wants before the fetch
pub answers_want : (held : Option Files) (folder : List ℕ) (columns : List (List ColumnType)) (left : ℕ) (done : List Answer) (old : Told) → AnswersTold held folder columns left done old old (Err input.Memory)
answers_want None folder columns left done old = tt
answers_want (Some files) folder columns left done old = λ next.
    record { front = []; back = (answers_then files folder columns left done next).names; all = refl; fetched = tells_nothing old old refl }

-- One answer text is fetched.
module _ (folder name : List ℕ) (number : ℕ) (types : List ColumnType) (columns : List (List ColumnType)) (left : ℕ) (done : List Answer)
    (counted : number ≡ length done + 1) (named : name ≡ answer_file_of folder number) where
  abbrev step : Files → (List Answer → Judgement) → List ℕ → Judgement
  step files next text =
      read_then (answer_read (length done + 1) types text) (λ given. answers_then files folder columns (left - length text) (done ++ given ∷ []) next)

  whole_is : (files : Files) (next : List Answer → Judgement) → answers_then files folder (types ∷ columns) left done next ≡ fetched_then files name left (step files next)
  whole_is files next = ap (λ (n : List ℕ). fetched_then files n left (step files next)) (sym (named ∙ ap (answer_file_of folder) counted))

  -- the fetch is refused
  pub answer_unfetched : (held : Option Files) (old new : Told) (r : InputRefusal) → IfSome held (λ files. FetchSays (bytes_at files name) name left (Err r)) → FetchNames {T = List ℕ} name old new (Err r)
      → AnswersTold held folder (types ∷ columns) left done old new (Err r)
  answer_unfetched None old new r says names = tt
  answer_unfetched (Some files) old new r says names = λ next.
      let P : Judgement → Type 0 = λ j. RefusalTells j old new r in
      subst P (sym (whole_is files next)) (fetch_refused files name left (step files next) old new r says names)

  module _ (text : List ℕ) where
    leads_on : (files : Files) (next : List Answer → Judgement) (old mid : Told) → FetchedWithin (bytes_at files name) left text → TellsMore old mid (name ∷ [])
        → Leads (answers_then files folder (types ∷ columns) left done next) (step files next text) old mid
    leads_on files next old mid within told =
        let P : Judgement → Type 0 = λ j. Leads j (step files next text) old mid in
        subst P (sym (whole_is files next ∙ fetch_next files name left (step files next) text within)) (leads_after name (step files next text) old mid told)

    -- its text is refused
    pub answer_stops : (held : Option Files) (old mid : Told) (r : InputRefusal) → IfSome held (λ files. FetchedWithin (bytes_at files name) left text) → TellsMore old mid (name ∷ [])
        → Refuses (answer_read number types text) r → AnswersTold held folder (types ∷ columns) left done old mid (Err r)
    answer_stops None old mid r within told refuses = tt
    answer_stops (Some files) old mid r within told refuses = λ next.
        let N : ℕ → Type 0 = λ n. Refuses (answer_read n types text) r in
        refusal_through (answers_then files folder (types ∷ columns) left done next) (step files next text) old mid mid r (leads_on files next old mid within told)
        (read_refused (answer_read (length done + 1) types text) (λ given. answers_then files folder columns (left - length text) (done ++ given ∷ []) next) mid mid r (subst N counted refuses) refl)

    -- memory wants after it
    pub answer_wants : (held : Option Files) (old mid : Told) → IfSome held (λ files. FetchedWithin (bytes_at files name) left text) → TellsMore old mid (name ∷ [])
        → AnswersTold held folder (types ∷ columns) left done old mid (Err input.Memory)
    answer_wants None old mid within told = tt
    answer_wants (Some files) old mid within told = λ next.
        refusal_through (answers_then files folder (types ∷ columns) left done next) (step files next text) old mid mid input.Memory (leads_on files next old mid within told)
        (record { front = []; back = (step files next text).names; all = refl; fetched = tells_nothing mid mid refl })

    -- the others are read after it
    pub answer_goes : (held mid_held : Option Files) (rest : ℕ) (more : List Answer) (given : Answer) (old mid new : Told) (result : Result (List Answer) InputRefusal) → mid_held ≡ held
        → IfSome held (λ files. FetchedWithin (bytes_at files name) left text) → TellsMore old mid (name ∷ [])
        → answer_read number types text ≡ Ok given → rest ≡ left - length text → more ≡ done ++ given ∷ []
        → AnswersTold mid_held folder columns rest more mid new result → AnswersTold held folder (types ∷ columns) left done old new result
    answer_goes None mid_held rest more given old mid new result same within told read fewer longer tells = tt
    answer_goes (Some files) mid_held rest more given old mid new result same within told read fewer longer tells = λ next.
        let H : Option Files → Type 0 = λ h. AnswersTold h folder columns rest more mid new result in
        let here : StepTells (answers_then files folder columns rest more next) next mid new result = subst H same tells next in
        let R : ℕ → Type 0 = λ n. StepTells (answers_then files folder columns n more next) next mid new result in
        let M : List Answer → Type 0 = λ m. StepTells (answers_then files folder columns (left - length text) m next) next mid new result in
        let N : ℕ → Type 0 = λ n. answer_read n types text ≡ Ok given in
        let goes = read_next (answer_read (length done + 1) types text) given (λ a. answers_then files folder columns (left - length text) (done ++ a ∷ []) next) (subst N counted read) in
        let S : Judgement → Type 0 = λ j. StepTells j next mid new result in
        step_through (answers_then files folder (types ∷ columns) left done next) (step files next text) next old mid new result (leads_on files next old mid within told)
        (subst S (sym goes) (subst M longer (subst R fewer here)))

-- the columns and the number of the others
pub two_later : (types : List ColumnType) (later columns : List (List ColumnType)) → columns ≡ types ∷ later → All (λ (own : List ColumnType). 1 < length own) columns → All (λ (own : List ColumnType). 1 < length own) later
two_later types later columns is two =
    let Two : List ColumnType → Type 0 = λ own. 1 < length own in
    All-tail Two types later (subst (λ (all : List (List ColumnType)). All Two all) is two)

pub counted_later : (most : ℕ) (done more : List Answer) (given : Answer) (types : List ColumnType) (later columns : List (List ColumnType)) → more ≡ done ++ given ∷ [] → columns ≡ types ∷ later
    → length done + length columns < most → length more + length later < most
counted_later most done more given types later columns longer is counted =
    let one : length more ≡ length (done ++ given ∷ []) = ap length longer in
    let two = length-append done (given ∷ []) in
    let three : length columns ≡ length (types ∷ later) = ap length is in
    omega (arith, one, two, three, counted)

-- none is left
pub answers_none : (done : List Answer) → AnswersBehind done [] done
answers_none done = record { rest = []; all = sym (append-nil done); fit = refl }

-- one more was read
pub answers_more : (done more answers : List Answer) (types : List ColumnType) (columns : List (List ColumnType)) (given : Answer) → more ≡ done ++ given ∷ [] → All (RowFits types) given.rows
    → AnswersBehind more columns answers → AnswersBehind done (types ∷ columns) answers
answers_more done more answers types columns given is fit reads = record {
  rest = given ∷ reads.rest;
  all = reads.all ∙ ap (λ (d : List Answer). d ++ reads.rest) is ∙ append_assoc done (given ∷ []) reads.rest;
  fit = (fit, reads.fit);
}

pub ruleset answers_rules = (answers_end, answers_want, answers_none, answers_more)
