-- What the answers of a folder come to.
use Rattle.std.proofs.Common.{◌≡◌, ◌<◌, ℕ, List, [], ◌∷◌, ◌++◌, length, map, All, Some, None, Option, Result, Ok, Err, refl, sym, ap, subst, ◌∙◌, IfSome, arith}
use Rattle.std.proofs.lemmas.List.Elements.{All-nil, All-cons}
use Rattle.nq_model.specs.Proper.{IsOrdered}
use Rattle.nq_model.specs.Terms.{bare}
use Rattle.nq_model.specs.Types.{TypeTree, bag}
use Rattle.nq_model.specs.Typing.{IsAccepted}
use Rattle.nq_model.specs.declared.table.ColumnType.{ColumnType}
use Rattle.nq_model.specs.declared.table.Schema.{Schema}
use Rattle.nq_model.proofs.ProperTypes.{ordered_type}
use Rattle.nq_compile.specs.Links.{AnswersLink}
use Rattle.nq_edge.specs.Edge.{Files}
use Rattle.nq_ir.specs.NormalForms.{element_type}
use Rattle.nq_ir.specs.Parts.{element_types}
use Rattle.nq_ir.specs.Paths.{paths}
use Rattle.nq_ir.specs.declared.path.Step.{Step}
use Rattle.shred_types.specs.Columns.{columns_at, answer_columns}
use Rattle.sql_profile.specs.declared.answer.Answer.{Answer}
use Rattle.stitcher.specs.FlatNumbers.{flat_numbers}
use Rattle.stitcher.specs.Stitching.{rows_of, AreAnswersOf}
use Rattle.nq_execute.specs.Plans.{Indexes, Writing, finished, CanFinish, ArePathsOf}
use Rattle.nq_execute.specs.Serving.{Allowed, Fit}
use Rattle.nq_execute.proofs.Finishes.{answers_of_type}
use Rattle.command_line.specs.Commands.{Aim, stitch, stitch_json}
use Rattle.command_line.specs.declared.refusal.InputRefusal.{InputRefusal}
use Rattle.nq_top.specs.Foreign.{foreign_to, Stitches, AnswersBehind}
use Rattle.nq_top.specs.Gathering.{Told}
use Rattle.nq_top.specs.Judging.{Judgement, at_once, read_then, answers_then, stitch_judged, linked, aim_judged}
use Rattle.nq_top.specs.Limits.{tables_limit}
use Rattle.nq_top.specs.Plans.{Draft, draft_to, question_to, IsWritten, IsSoundOver}
use Rattle.nq_top.specs.Reading.{PlainReading, Reading, TypedTerm, links_read}
use Rattle.nq_top.specs.Steps.{StepTells, Accepts, GatherTells, Refuses, IsQuery}
use Rattle.nq_top.specs.declared.gather.Gathered.{Gathered}
use Rattle.nq_top.specs.declared.gather.Gathered.TheVariants as gathered
use Rattle.nq_top.proofs.AnswerReadings.{AnswersTold}
use Rattle.nq_top.proofs.Readings.{one_reading}
use Rattle.nq_top.proofs.Showings.{read_accepted, bag_again}
use Rattle.nq_top.proofs.Soundness.{columns_are}
use Rattle.nq_top.proofs.Steps.{tells_nothing, refusal_through, gather_through, read_next, read_refused}

-- 1. the columns of the answers

two_columns : (type : TypeTree) (ps : List (List Step)) → All (λ (types : List ColumnType). 1 < length types) (map (columns_at type) ps)
two_columns type [] = All-nil (λ (types : List ColumnType). 1 < length types)
two_columns type (p ∷ ps) =
    All-cons (λ (types : List ColumnType). 1 < length types) (columns_at type p) (map (columns_at type) ps) (omega arith) (two_columns type ps)

-- a query, and the draft of it
module _ (schema : Schema) (query : TypedTerm) (writing : Writing) (draft : Draft) (is_query : IsQuery schema query)
    (is : (plain : PlainReading) → draft ≡ draft_to writing plain schema query.term query.type) where
  accepted : IsAccepted schema (bare query.term) query.type
  accepted = read_accepted schema query.term query.type is_query.typed

  pub of_bag : bag (element_type query.type) ≡ query.type
  of_bag = bag_again query.type accepted.plain_bag

  ordered : IsOrdered query.type
  ordered = ordered_type schema is_query.proper_schema [] (bare query.term) query.type tt is_query.proper accepted.typed

  at_paths : ArePathsOf query.type Indexes.numbers (map (columns_at query.type) (paths query.type))
  at_paths = record {
    of_bag = sym of_bag;
    of_type = tt;
    at_paths =
        ap (λ (a : TypeTree). map (columns_at a) (paths a)) (sym of_bag)
        ∙ columns_are (element_type query.type) (subst (λ (a : TypeTree). IsOrdered a) (sym of_bag) ordered)
        ∙ ap (λ (a : TypeTree). map answer_columns (element_types a)) of_bag;
  }

  columns_to : draft.columns ≡ map (columns_at query.type) (paths query.type)
  unfolding draft_to
  columns_to = ap (λ (d : Draft). d.columns) (is one_reading.plain)

  pub have_two : All (λ (types : List ColumnType). 1 < length types) draft.columns
  have_two = subst (λ (cs : List (List ColumnType)). All (λ (types : List ColumnType). 1 < length types) cs) (sym columns_to) (two_columns query.type (paths query.type))

  pub can_finish : CanFinish draft.finish draft.columns
  unfolding draft_to
  can_finish = subst (λ (d : Draft). CanFinish d.finish d.columns) (sym (is one_reading.plain)) at_paths

  pub are_answers : (answers : List Answer) → Fit draft.columns answers → AreAnswersOf (flat_numbers (element_types query.type)) query.type (rows_of answers)
  are_answers answers fit =
      answers_of_type query.type (flat_numbers (element_types query.type)) answers refl
      (subst (λ (cs : List (List ColumnType)). Fit cs answers) (columns_to ∙ at_paths.at_paths) fit)

-- answers behind none are those that were read
pub answers_all : (done answers : List Answer) (columns : List (List ColumnType)) → done ≡ [] → AnswersBehind done columns answers → Fit columns answers
answers_all done answers columns empty reads =
    let same : answers ≡ reads.rest = reads.all ∙ ap (λ (d : List Answer). d ++ reads.rest) empty in
    subst (λ (those : List Answer). Fit columns those) (sym same) reads.fit

-- 2. what they come to

abbrev stitch_next : Writing → PlainReading → Schema → TypedTerm → List Answer → Judgement
stitch_next writing plain schema query answers =
    read_then (links_read query.type answers) (λ those. at_once (linked (foreign_to writing plain schema query those)))

abbrev pub StitchTold : Option Files → List ℕ → Schema → TypedTerm → Writing → Told → Told → Result Gathered InputRefusal → Type 0
StitchTold held folder schema query writing old new result =
    IfSome held (λ files. (reading : Reading) → GatherTells (stitch_judged writing reading.plain files folder schema query) old new result)

module _ (held : Option Files) (folder : List ℕ) (schema : Schema) (query : TypedTerm) (writing : Writing) (draft : Draft) (columns : List (List ColumnType)) (done : List Answer)
    (is : (plain : PlainReading) → draft ≡ draft_to writing plain schema query.term query.type) (columns_is : columns ≡ draft.columns) (empty : done ≡ []) where
  -- the answers are read as the judgement says
  reads_on : (files : Files) (plain : PlainReading) (old new : Told) (result : Result (List Answer) InputRefusal)
      → ((next : List Answer → Judgement) → StepTells (answers_then files folder columns tables_limit done next) next old new result)
      → StepTells (stitch_judged writing plain files folder schema query) (stitch_next writing plain schema query) old new result
  unfolding draft_to
  reads_on files plain old new result told =
      let next = stitch_next writing plain schema query in
      let C : List (List ColumnType) → Type 0 = λ cs. StepTells (answers_then files folder cs tables_limit done next) next old new result in
      let D : List Answer → Type 0 = λ d. StepTells (answers_then files folder (map (columns_at query.type) (paths query.type)) tables_limit d next) next old new result in
      subst D empty (subst C (columns_is ∙ ap (λ (d : Draft). d.columns) (is plain)) (told next))

  -- the text of an answer is refused, or an input fails
  pub stitch_stops : (old new : Told) (r : InputRefusal) (result : Result Gathered InputRefusal) → result ≡ Err r → AnswersTold held folder columns tables_limit done old new (Err r)
      → StitchTold held folder schema query writing old new result
  stitch_stops old new r result at told =
      subst (λ (g : Result Gathered InputRefusal). StitchTold held folder schema query writing old new g) (sym at) (go held told)
    where
      go : (h : Option Files) → AnswersTold h folder columns tables_limit done old new (Err r) → StitchTold h folder schema query writing old new (Err r)
      go None told = tt
      go (Some files) told = λ reading. reads_on files reading.plain old new (Err r) told

  module _ (type : TypeTree) (answers : List Answer) (old new : Told) (same : type ≡ query.type) (told : AnswersTold held folder columns tables_limit done old new (Ok answers)) where
    -- they are not linked
    pub stitch_refuses : (r : InputRefusal) (result : Result Gathered InputRefusal) → result ≡ Err r → Refuses (links_read type answers) r → StitchTold held folder schema query writing old new result
    stitch_refuses r result at refuses =
        subst (λ (g : Result Gathered InputRefusal). StitchTold held folder schema query writing old new g) (sym at) (go held told)
      where
        here : Refuses (links_read query.type answers) r
        here = subst (λ (a : TypeTree). Refuses (links_read a answers) r) same refuses

        go : (h : Option Files) → AnswersTold h folder columns tables_limit done old new (Ok answers) → StitchTold h folder schema query writing old new (Err r)
        go None told = tt
        go (Some files) told = λ reading.
            refusal_through (stitch_judged writing reading.plain files folder schema query) (stitch_next writing reading.plain schema query answers) old new new r
            (reads_on files reading.plain old new (Ok answers) told)
            (read_refused (links_read query.type answers) (λ those. at_once (linked (foreign_to writing reading.plain schema query those))) new new r here refl)

    -- they are linked, and this is written of them
    module _ (text : List ℕ) (linked_are : links_read type answers ≡ Ok answers) (written : text ≡ finished draft.finish (rows_of answers))
        (sound : IsSoundOver schema draft (λ tables. question_to writing query)) (links : AnswersLink schema query.type draft.texts) where
      stitches : (plain : PlainReading) → Stitches (foreign_to writing plain schema query answers) text
      unfolding draft_to
      stitches plain = record {
        is = written ∙ ap (λ (d : Draft). finished d.finish (rows_of answers)) (is plain);
        settles = λ tables read allowed.
            let T : List (List ℕ) → Type 0 = λ ts. Allowed tables ts answers in
            let W : List ℕ → Type 0 = λ t. IsWritten writing query.type tables query.term t in
            subst W (sym written) (sound tables read answers (subst T (sym (ap (λ (d : Draft). d.texts) (is plain))) allowed));
        links = subst (λ (ts : List (List ℕ)). AnswersLink schema query.type ts) (ap (λ (d : Draft). d.texts) (is plain)) links;
      }

      pub stitch_goes : StitchTold held folder schema query writing old new (Ok (gathered.Text text))
      stitch_goes = go held told
        where
          here : links_read query.type answers ≡ Ok answers
          here = subst (λ (a : TypeTree). links_read a answers ≡ Ok answers) same linked_are

          go : (h : Option Files) → AnswersTold h folder columns tables_limit done old new (Ok answers) → StitchTold h folder schema query writing old new (Ok (gathered.Text text))
          go None told = tt
          go (Some files) told = λ reading.
              let ends : Judgement = at_once (linked (foreign_to writing reading.plain schema query answers)) in
              let to : stitch_next writing reading.plain schema query answers ≡ ends = read_next (links_read query.type answers) answers (λ those. at_once (linked (foreign_to writing reading.plain schema query those))) here in
              let P : Judgement → Type 0 = λ j. Accepts j (gathered.Text text) new new in
              gather_through (stitch_judged writing reading.plain files folder schema query) (stitch_next writing reading.plain schema query answers) old new new (Ok (gathered.Text text))
              (reads_on files reading.plain old new (Ok answers) told)
              (subst P (sym to) (record { comes_to = stitches reading.plain; fetched = tells_nothing new new refl }))

-- 3. the aims

pub aim_stitches : (held : Option Files) (aim given : Aim) (writing : Writing) (folder : List ℕ) (schema : Schema) (query : TypedTerm) (old new : Told) (result : Result Gathered InputRefusal)
    → aim ≡ given → ((plain : PlainReading) (files : Files) → aim_judged plain files given schema query ≡ stitch_judged writing plain files folder schema query)
    → StitchTold held folder schema query writing old new result
    → IfSome held (λ files. (reading : Reading) → GatherTells (aim_judged reading.plain files aim schema query) old new result)
aim_stitches None aim given writing folder schema query old new result is judged told = tt
aim_stitches (Some files) aim given writing folder schema query old new result is judged told = λ reading.
    let A : Judgement → Type 0 = λ j. GatherTells j old new result in
    let here = ap (λ (a : Aim). aim_judged reading.plain files a schema query) is ∙ judged reading.plain files in
    subst A (sym here) (told reading)

pub text_stitched : (plain : PlainReading) (files : Files) (folder : List ℕ) (schema : Schema) (query : TypedTerm) → aim_judged plain files (stitch folder) schema query ≡ stitch_judged Writing.text plain files folder schema query
unfolding aim_judged
text_stitched plain files folder schema query = refl

pub json_stitched : (plain : PlainReading) (files : Files) (folder : List ℕ) (schema : Schema) (query : TypedTerm) → aim_judged plain files (stitch_json folder) schema query ≡ stitch_judged Writing.json plain files folder schema query
unfolding aim_judged
json_stitched plain files folder schema query = refl
