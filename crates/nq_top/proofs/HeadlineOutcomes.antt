-- The headline, from the promise of a run.
use Rattle.std.proofs.Common.{◌≡◌, ◌⊎◌, ℕ, List, [], ◌∷◌, Some, None, Option, Ok, Err, IfSome, String, map, string_bytes, refl, sym, ap, subst, ◌∙◌, inl, inr, codes}
use Rattle.std.specs.declared.alloc.Global.{Global}
use Rattle.nq_model.specs.Canonical.{canonical_text}
use Rattle.nq_model.specs.Databases.{FilledTable, database}
use Rattle.nq_model.specs.QueryMeaning.{Means}
use Rattle.nq_model.specs.Terms.{PlacedTerm, bare}
use Rattle.nq_model.specs.Types.{bag}
use Rattle.nq_model.specs.Unfolding.{Unfolds}
use Rattle.nq_model.specs.Values.{Nested}
use Rattle.nq_model.specs.declared.table.Schema.{Schema}
use Rattle.nq_model.proofs.Unfolding.{reached_once}
use Rattle.natural_compile.specs.Texts.{keyed_texts}
use Rattle.natural_keys.specs.NaturalKeys.{natural_keys}
use Rattle.nq_compile.specs.Shreds.{Shreds, StitchTo}
use Rattle.nq_ir.specs.NormalForms.{normal_form}
use Rattle.nq_ir.specs.Paths.{paths}
use Rattle.nq_ir.specs.Trees.{FormTree}
use Rattle.nq_edge.specs.Edge.{Files, TellsMore, bytes_at}
use Rattle.nq_edge.specs.Lines.{PutsLine}
use Rattle.traced_meaning.specs.Traces.{trace}
use Rattle.nq_execute.specs.Plans.{trace_text_by}
use Rattle.nq_execute.specs.declared.plan.TraceWriting.{TraceWriting}
use Rattle.nq_execute.specs.declared.plan.TraceWriting.TheVariants.{Text, Json}
use Rattle.lineage_compile.specs.Tables.{with_numbers}
use Rattle.nq_execute.specs.Plans.{Plan}
use Rattle.nq_execute.specs.declared.refusal.ServerRefusal.TheVariants as server
use Rattle.database_scripts.specs.declared.database.Database.TheVariants.{Postgres, Sqlite}
use Rattle.sql_profile.specs.Servers.{held_of}
use Rattle.sql_profile.proofs.HeldTables.{held_filled}
use Rattle.sql_profile.specs.declared.server.Loaded.{Loaded}
use Rattle.command_line.specs.Commands.{Showing, Aim, Command, of_query, lineage, show_natural}
use Rattle.command_line.specs.Commands.{show_texts, command_of}
use Rattle.command_line.specs.Frames.{frames}
use Rattle.command_line.specs.Noting.{Notes}
use Rattle.command_line.specs.Refusals.{refused_status, refused_note, status_of}
use Rattle.command_line.specs.declared.refusal.Refused.{Refused}
use Rattle.command_line.specs.declared.refusal.InputRefusal.TheVariants as input
use Rattle.command_line.specs.declared.refusal.Refusal.TheVariants as refusal
use Rattle.nq_top.specs.Calls.{Comes}
use Rattle.nq_top.specs.Headline.{Naming, numbers, keys, Names, Accepted, GivenKeys}
use Rattle.nq_top.specs.Headline.{GivenRun, LooksFor, AreRefused, Outcome, IsServed, RunComes}
use Rattle.nq_top.specs.Headline.{LineageComes, ShowComes, NaturalComes, run_words}
use Rattle.nq_top.specs.Headline.{lineage_words, show_words, OfRun, OfLineage, OfShow, OfNatural}
use Rattle.nq_top.specs.Judging.{Judgement, Verdict, usage, missing, refused, shown, keyed, planned}
use Rattle.nq_top.specs.Judging.{at_once, read_then, aim_judged, judgement}
use Rattle.nq_top.specs.Natural.{Natural, ShowsNatural}
use Rattle.nq_top.specs.Plans.{Question, Settles, drafted, query_question}
use Rattle.nq_top.specs.Reading.{Reading}
use Rattle.nq_top.specs.Shown.{Shown, Shows, shown_texts, texts_by, shown_by, ShredsQuery}
use Rattle.nq_top.specs.Theorem.{Answer, Gives, Writes, Tells, PutsAll, PutsAt, IsDone, IsDue, HasFailed, Completes, Serves, Runs, Ends}
use Rattle.nq_top.specs.World.{SinkState, World, command_in}
use Rattle.nq_top.proofs.HeadlineQueries.{whole, typed, run_as, run_draft, keyed_of, natural_given}
use Rattle.nq_top.proofs.HeadlineQueries.{after_type, aims_at, shows_at, traces_at, run_planned}
use Rattle.nq_top.proofs.HeadlineQueries.{lineage_planned, lineage_verdict, is_missing, is_refused}
use Rattle.nq_top.proofs.HeadlineQueries.{Cases, are_given, are_refused, are_missing}
use Rattle.nq_top.proofs.HeadlineQueries.{accepted_cases, keyed_cases, run_cases}
use Rattle.nq_top.proofs.Readings.{one_reading}
use Rattle.nq_top.proofs.Statuses.{no_fault}

-- 1. what a status says of its answer

-- an answer with the status of a refusal of the inputs is one
refusal_of : (a : Answer) (some : Refused) → status_of a ≡ refused_status some → (why : Refused) × (a ≡ Err (refusal.Input (input.Refused why)))
refusal_of (Ok u) some is = absurd (no_fault 0 some refl is)
refusal_of (Err refusal.Usage) some is = absurd (no_fault 2 some refl is)
refusal_of (Err (refusal.Input input.Memory)) some is = absurd (no_fault 1 some refl is)
refusal_of (Err (refusal.Input (input.Refused why))) some is = (why, refl)
refusal_of (Err (refusal.Input (input.Failed name))) some is = absurd (no_fault 7 some refl is)
refusal_of (Err (refusal.Server server.Memory)) some is = absurd (no_fault 1 some refl is)
refusal_of (Err (refusal.Server (server.TableFailed name))) some is = absurd (no_fault 9 some refl is)
refusal_of (Err (refusal.Server (server.TextFailed text))) some is = absurd (no_fault 9 some refl is)
refusal_of (Err (refusal.Server (server.BadAnswer text row column))) some is = absurd (no_fault 11 some refl is)
refusal_of (Err refusal.OutputFailed) some is = absurd (no_fault 8 some refl is)

same_refused : (v : Verdict) (r s : Refused) → v ≡ refused r → v ≡ refused s → r ≡ s
same_refused v r s e f = cc

nothing_put : (old new : Option (List ℕ)) (status : ℕ) → PutsAt old new status → status ≡ 1 → new ≡ old
nothing_put old new status puts one = subst (λ (s : ℕ). PutsAt old new s) one puts

done_puts : (old new : Option (List ℕ)) (status : ℕ) → PutsAt old new status → IsDone status → (status ≡ 0) ⊎ ((status ≡ 1) × (new ≡ old))
done_puts old new status puts (inl zero) = inl zero
done_puts old new status puts (inr one) = inr (one, nothing_put old new status puts one)

-- 2. the outcome of a judgement whose inputs are given, refused or missing

module _ (files : Files) (names : Names) (Given : Type 0) (j : Judgement) (before after : World) (old new : SinkState) (status : ℕ) (a : Answer)
    (is : status ≡ status_of a) (tells : Tells j before after a) (cases : Cases files names Given)
    (is_refused_for : (why : Refused) → AreRefused files names why → j.verdict ≡ refused why)
    (is_missing_at : (name : List ℕ) (limit : ℕ) → LooksFor files names name limit → bytes_at files name ≡ None → j.verdict ≡ missing name) where
  abbrev Wrote : Type 0
  Wrote = Writes j before after (PutsAll before after)

  gives_none : (text : List ℕ) (why : Refused) → j.verdict ≡ refused why → Gives before.server after.server j.verdict text → ⊥
  gives_none text why e gives = let P : Verdict → Type 0 = λ v. Gives before.server after.server v text in subst P e gives

  gives_nothing : (text name : List ℕ) → j.verdict ≡ missing name → Gives before.server after.server j.verdict text → ⊥
  gives_nothing text name e gives = let P : Verdict → Type 0 = λ v. Gives before.server after.server v text in subst P e gives

  -- status 0 comes of text that was put
  wrote : status ≡ 0 → Wrote
  wrote zero = go a (sym is ∙ zero) tells
    where
      refused_zero : (some : Refused) → refused_status some ≡ 0 → Wrote
      refused_zero some e = absurd (no_fault 0 some refl (sym e))

      go : (b : Answer) → status_of b ≡ 0 → Tells j before after b → Wrote
      go (Ok u) e t = t
      go (Err refusal.Usage) e t = absurd (cc)
      go (Err (refusal.Input input.Memory)) e t = absurd (cc)
      go (Err (refusal.Input (input.Refused why))) e t = refused_zero why e
      go (Err (refusal.Input (input.Failed name))) e t = absurd (cc)
      go (Err (refusal.Server server.Memory)) e t = absurd (cc)
      go (Err (refusal.Server (server.TableFailed name))) e t = absurd (cc)
      go (Err (refusal.Server (server.TextFailed text))) e t = absurd (cc)
      go (Err (refusal.Server (server.BadAnswer text row column))) e t = absurd (cc)
      go (Err refusal.OutputFailed) e t = absurd (cc)

  given_at_zero : status ≡ 0 → Given
  given_at_zero zero = go cases (wrote zero)
    where
      go : Cases files names Given → Wrote → Given
      go (are_given given) w = given
      go (are_refused why wrong) w = absurd (gives_none w.text why (is_refused_for why wrong) w.gives)
      go (are_missing name limit looks none) w = absurd (gives_nothing w.text name (is_missing_at name limit looks none) w.gives)

  -- inputs that are refused
  refused_at : (why : Refused) → AreRefused files names why → (status ≡ refused_status why) ⊎ ((status ≡ 1) ⊎ (status ≡ 7))
  refused_at why wrong = go a is tells
    where
      v : j.verdict ≡ refused why
      v = is_refused_for why wrong

      no_usage : j.verdict ≡ usage → ⊥
      no_usage e = absurd (let f : refused why ≡ usage = sym v ∙ e in cc)

      unplanned : (plan : Plan) (question : Question) → j.verdict ≡ planned plan question → ⊥
      unplanned plan question e = absurd (let f : refused why ≡ planned plan question = sym v ∙ e in cc)

      go : (b : Answer) → status ≡ status_of b → Tells j before after b → (status ≡ refused_status why) ⊎ ((status ≡ 1) ⊎ (status ≡ 7))
      go (Ok u) e t = absurd (gives_none t.text why v t.gives)
      go (Err refusal.Usage) e t = absurd (no_usage t.comes_to)
      go (Err (refusal.Input input.Memory)) e t = inr (inl e)
      go (Err (refusal.Input (input.Refused other))) e t = inl (e ∙ ap refused_status (same_refused j.verdict other why t.comes_to v))
      go (Err (refusal.Input (input.Failed name))) e t = inr (inr e)
      go (Err (refusal.Server r)) e t = absurd (unplanned t.plan t.question t.judges.comes_to)
      go (Err refusal.OutputFailed) e t = absurd (gives_none t.text why v t.gives)

  -- an input that is missing
  missing_at : (name : List ℕ) (limit : ℕ) → LooksFor files names name limit → bytes_at files name ≡ None → (status ≡ 1) ⊎ (status ≡ 7)
  missing_at name limit looks none = go a is tells
    where
      v : j.verdict ≡ missing name
      v = is_missing_at name limit looks none

      no_usage : j.verdict ≡ usage → ⊥
      no_usage e = absurd (let f : missing name ≡ usage = sym v ∙ e in cc)

      unplanned : (plan : Plan) (question : Question) → j.verdict ≡ planned plan question → ⊥
      unplanned plan question e = absurd (let f : missing name ≡ planned plan question = sym v ∙ e in cc)

      unrefused : (why : Refused) → j.verdict ≡ refused why → ⊥
      unrefused why e = absurd (let f : missing name ≡ refused why = sym v ∙ e in cc)

      go : (b : Answer) → status ≡ status_of b → Tells j before after b → (status ≡ 1) ⊎ (status ≡ 7)
      go (Ok u) e t = absurd (gives_nothing t.text name v t.gives)
      go (Err refusal.Usage) e t = absurd (no_usage t.comes_to)
      go (Err (refusal.Input input.Memory)) e t = inl e
      go (Err (refusal.Input (input.Refused why))) e t = absurd (unrefused why t.comes_to)
      go (Err (refusal.Input (input.Failed failed))) e t = inr e
      go (Err (refusal.Server r)) e t = absurd (unplanned t.plan t.question t.judges.comes_to)
      go (Err refusal.OutputFailed) e t = absurd (gives_nothing t.text name v t.gives)

  -- a refusal names what the inputs are refused for
  refuses_for : (given_goes : Given → (why : Refused) → j.verdict ≡ refused why → ⊥) → Notes old.written new.written old.faults new.faults a → (some : Refused) → status ≡ refused_status some
      → (why : Refused) × AreRefused files names why × (status ≡ refused_status why) × PutsLine old.written new.written old.faults new.faults (refused_note why)
  refuses_for given_goes notes some at =
      let found = refusal_of a some (sym is ∙ at) in
      let P : Answer → Type 0 = λ b. Tells j before after b in
      let N : Answer → Type 0 = λ b. Notes old.written new.written old.faults new.faults b in
      let here = subst P found.1 tells in
      (found.0, wrong found.0 here.comes_to cases, is ∙ ap status_of found.1, subst N found.1 notes)
    where
      wrong : (why : Refused) → j.verdict ≡ refused why → Cases files names Given → AreRefused files names why
      wrong why e (are_given given) = absurd (given_goes given why e)
      wrong why e (are_refused other reason) = subst (λ (r : Refused). AreRefused files names r) (same_refused j.verdict other why (is_refused_for other reason) e) reason
      wrong why e (are_missing name limit looks none) = absurd (let f : missing name ≡ refused why = sym (is_missing_at name limit looks none) ∙ e in cc)

  outcome : (Put : Given → Type 0) (undisturbed : Type 0) → Notes old.written new.written old.faults new.faults a → PutsAt before.out.written after.out.written status → Completes j before after status
      → (undisturbed → HasFailed before after → ⊥) → (undisturbed → Given → IsDue (Serves before.server after.server) j.verdict) → (Given → (why : Refused) → j.verdict ≡ refused why → ⊥) → ((given : Given) → Wrote → Put given)
      → Outcome files names Given Put undisturbed before after old new status
  outcome Put undisturbed notes puts completes quiet due given_goes put = record {
    accepts = given_at_zero;
    means = λ given zero. put given (wrote zero);
    completes = λ given still. done_puts before.out.written after.out.written status puts (completes (quiet still) (due still given));
    refuses = refuses_for given_goes notes;
    refused = refused_at;
    misses = λ name (limit, looks, absent). missing_at name limit looks absent;
  }

-- 3. the words

command_run : (n : Naming) (words : List (List ℕ)) (s q d : List ℕ) → words ≡ run_words n s q d
    → command_of words ≡ Some (of_query (run_as n d) s q)
unfolding command_of
command_run numbers words s q d is = ap command_of is
command_run keys words s q d is = ap command_of is

command_lineage : (writing : TraceWriting) (words : List (List ℕ)) (s q d : List ℕ)
    → words ≡ lineage_words writing s q d
    → command_of words ≡ Some (of_query (lineage writing d) s q)
unfolding command_of
command_lineage Text words s q d is = ap command_of is
command_lineage Json words s q d is = ap command_of is

command_natural : (words : List (List ℕ)) (s q : List ℕ) → words
    ≡ codes "show" ∷ codes "natural" ∷ s ∷ q ∷ [] → command_of words
    ≡ Some (of_query show_natural s q)
unfolding command_of
command_natural words s q is = ap command_of is

command_show : (showing : Showing) (words : List (List ℕ)) (s q : List ℕ) → words ≡ show_words showing s q → command_of words ≡ Some (of_query (show_texts showing) s q)
unfolding command_of
command_show Showing.frames words s q is = ap command_of is
command_show Showing.json words s q is = ap command_of is
command_show (Showing.script Postgres folder) words s q is = ap command_of is
command_show (Showing.script Sqlite folder) words s q is = ap command_of is

-- what the promise of a run says of a query that is put to an aim, over files that are held
record Promised (names : Names) (aim : Aim) (files : Files) (before after : World) (old new : SinkState) (status : ℕ) : Type 0 where
  answer : Answer
  is : status ≡ status_of answer
  notes : Notes old.written new.written old.faults new.faults answer
  puts : PutsAt before.out.written after.out.written status
  tells : (reading : Reading) → Tells (whole reading files names aim) before after answer
  completes : (reading : Reading) → Completes (whole reading files names aim) before after status

promised : (command : Option Command) (names : Names) (aim : Aim) (files : Files) (before after : World) (old new : SinkState) (status : ℕ)
    → command ≡ Some (of_query aim names.schema names.query) → before.inputs.held ≡ Some files → Ends old new status (λ answer. Runs command before after answer)
    → Promised names aim files before after old new status
promised command names aim files before after old new status spelled held ends =
    let asked : Option Command = Some (of_query aim names.schema names.query) in
    let R : Option Command → Type 0 = λ c. Runs c before after ends.answer in
    let runs : Runs asked before after ends.answer = subst R spelled ends.runs in
    let P : ℕ → Type 0 = λ s. PutsAt before.out.written after.out.written s in
    let T : Option Files → Type 0 = λ h. IfSome h (λ fs. (reading : Reading) → Tells (judgement reading asked fs) before after ends.answer) in
    let C : Option Files → ℕ → Type 0 = λ h s. IfSome h (λ fs. (reading : Reading) → Completes (judgement reading asked fs) before after s) in
    record {
      answer = ends.answer;
      is = ends.is;
      notes = ends.notes;
      puts = subst P (sym ends.is) runs.puts;
      tells = subst T held runs.comes;
      completes = subst (C (Some files)) (sym ends.is) (subst (λ (h : Option Files). C h (status_of ends.answer)) held runs.completes);
    }

-- 4. `run`

not_planned : (v : Verdict) (plan : Plan) (question : Question) (why : Refused) → v ≡ planned plan question → v ≡ refused why → ⊥
not_planned v plan question why e f = absurd (let g : planned plan question ≡ refused why = sym e ∙ f in cc)

not_shown : (v : Verdict) (showing : Showing) (texts : Shown) (why : Refused) → v ≡ shown showing texts → v ≡ refused why → ⊥
not_shown v showing texts why e f = absurd (let g : shown showing texts ≡ refused why = sym e ∙ f in cc)

-- the value that a text of an honest server is of
module _ (reading : Reading) (files : Files) (names : Names) (aim : Aim) (folder : List ℕ)
    (given : GivenRun files names folder) where
  abbrev accepted : Accepted files names
  accepted = given.accepted

  abbrev run_plan : Plan
  run_plan = drafted (run_draft reading files names aim accepted)
      (held_of accepted.given.over.schema.tables given.tables.rows)

  abbrev run_question : Question
  run_question = query_question (typed reading files names aim accepted)

  meant : (text : List ℕ) (before after : World) → Settles run_plan.tables run_question text → PutsAll before after text
      → (value : Nested) × Means (database accepted.given.over.schema.tables given.tables.rows)
      accepted.given.query value
      × TellsMore before.out.written after.out.written (canonical_text value)
  meant text before after settles puts = (
    settles.value,
    subst (λ (filled : List FilledTable). Means filled accepted.given.query settles.value)
        (held_filled accepted.given.over.schema.tables given.tables.rows) settles.means,
    subst (λ (t : List ℕ). TellsMore before.out.written after.out.written t) settles.is puts,
  )

run_promised : (n : Naming) (files : Files) (s q d : List ℕ) (before after : World)
    (old new : SinkState) (status : ℕ)
    → Promised (record {
      schema = s;
      query = q;
      folder = Some d;
      naming = n;
    }) (run_as n d) files before after old new status
    → RunComes before after old new status n files s q d
run_promised n files s q d before after old new status promise =
    let names : Names = record { schema = s; query = q; folder = Some d; naming = n } in
    let reading = one_reading in
    let aim : Aim = run_as n d in
    let j : Judgement = whole reading files names aim in
    let aims = aims_at reading files names in
    let Given : Type 0 = GivenRun files names d in
    let planned_is = λ (given : Given). run_planned reading files names aim d given refl in
    let F : Verdict → Type 0 = λ v. IsDue (Serves before.server after.server) v in
    let G : List ℕ → Verdict → Type 0 = λ text v. Gives before.server after.server v text in
    outcome files names Given j before after old new status promise.answer promise.is (promise.tells reading)
    (run_cases reading files names d refl)
    (is_refused reading files names aim aims) (is_missing reading files names aim aims)
    _ (IsServed before after) promise.notes promise.puts (promise.completes reading) (λ still. still.0)
    (λ still given. subst F (sym (planned_is given)) (record { not_failed = still.1; fair = inl still.2 }))
    (λ given why e. not_planned j.verdict (run_plan reading files names aim d given)
    (run_question reading files names aim d given) why (planned_is given) e)
    (λ given wrote_it is_honest.
    let gives = subst (G wrote_it.text) (planned_is given) wrote_it.gives in
    meant reading files names aim d given wrote_it.text before after (gives.settled is_honest)
    wrote_it.puts)

-- 5. `lineage`

module _ (writing : TraceWriting) (files : Files) (names : Names) (folder : List ℕ)
    (given : GivenRun files names folder) where
  abbrev tables_held : List Loaded
  tables_held = held_of given.accepted.given.over.schema.tables given.tables.rows

  abbrev traced_question : Question
  traced_question = Question.traced writing tables_held given.accepted.given.query

  traced_put : (text : List ℕ) (before after : World)
      → Settles (with_numbers tables_held) traced_question text → PutsAll before after text
      → (plain : PlacedTerm) × Unfolds given.accepted.given.query plain
      × TellsMore before.out.written after.out.written
      (trace_text_by writing
      (trace (database given.accepted.given.over.schema.tables given.tables.rows) []
      (bare plain)))
  traced_put text before after (numbered, traced) puts = (
    traced.plain,
    traced.unfolds,
    subst (λ (t : List ℕ). TellsMore before.out.written after.out.written t)
        (traced.is ∙ ap (λ (filled : List FilledTable).
        trace_text_by writing (trace filled [] (bare traced.plain)))
        (held_filled given.accepted.given.over.schema.tables given.tables.rows)) puts,
  )

lineage_promised : (writing : TraceWriting) (files : Files) (s q d : List ℕ)
    (before after : World) (old new : SinkState) (status : ℕ)
    → Promised (record {
      schema = s;
      query = q;
      folder = Some d;
      naming = numbers;
    }) (lineage writing d) files before after old new status
    → LineageComes before after old new status writing files s q d
lineage_promised writing files s q d before after old new status promise =
    let names : Names = record { schema = s; query = q; folder = Some d; naming = numbers } in
    let reading = one_reading in
    let aim : Aim = lineage writing d in
    let j : Judgement = whole reading files names aim in
    let aims = traces_at reading files writing s q d in
    let Given : Type 0 = GivenRun files names d in
    let planned_is = λ (given : Given).
    lineage_planned reading files names aim writing d given refl in
    let F : Verdict → Type 0 = λ v. IsDue (Serves before.server after.server) v in
    let G : List ℕ → Verdict → Type 0 = λ text v. Gives before.server after.server v text in
    outcome files names Given j before after old new status promise.answer promise.is
    (promise.tells reading) (run_cases reading files names d refl)
    (is_refused reading files names aim aims) (is_missing reading files names aim aims)
    _ (IsServed before after) promise.notes promise.puts (promise.completes reading)
    (λ still. still.0)
    (λ still given. subst F (sym (planned_is given))
    (record { not_failed = still.1; fair = inl still.2 }))
    (λ given why e. not_planned j.verdict _ (traced_question writing files names d given) why
    (planned_is given) e)
    (λ given wrote_it is_honest.
    let gives = subst (G wrote_it.text) (planned_is given) wrote_it.gives in
    traced_put writing files names d given wrote_it.text before after (gives.settled is_honest)
    wrote_it.puts)

-- 6. `show` of SQL texts

module _ (reading : Reading) (files : Files) (names : Names) (showing : Showing) (accepted : Accepted files names) where
  abbrev shown_of : Shown
  shown_of = shown_texts reading.plain accepted.given.over.schema accepted.given.query (bag accepted.element)

  shows_it : (whole reading files names (show_texts showing)).verdict ≡ shown showing shown_of
  unfolding aim_judged
  shows_it = ap (λ (j : Judgement). j.verdict) (after_type reading files names (show_texts showing) accepted)

  texts_put : (text : List ℕ) (before after : World) → Shows showing text shown_of → PutsAll before after text
      → (texts : List (List ℕ)) × Shreds accepted.given.over.schema accepted.element texts (λ tables value. Means tables accepted.given.query value)
      × TellsMore before.out.written after.out.written (texts_by showing (bag accepted.element) texts)
  unfolding shown_texts shown_by ShredsQuery
  texts_put text before after shows puts = (shown_of.texts, shows.shreds, subst (λ (t : List ℕ). TellsMore before.out.written after.out.written t) shows.is puts)

show_promised : (showing : Showing) (files : Files) (s q : List ℕ) (before after : World) (old new : SinkState) (status : ℕ)
    → Promised (record {
      schema = s;
      query = q;
      folder = None;
      naming = numbers;
    }) (show_texts showing) files before after old new status
    → ShowComes before after old new status showing files s q
show_promised showing files s q before after old new status promise =
    let names : Names = record { schema = s; query = q; folder = None; naming = numbers } in
    let reading = one_reading in
    let aim : Aim = show_texts showing in
    let j : Judgement = whole reading files names aim in
    let runs = shows_at reading files s q showing in
    let shown_is = λ (given : Accepted files names). shows_it reading files names showing given in
    let F : Verdict → Type 0 = λ v. IsDue (Serves before.server after.server) v in
    let G : List ℕ → Verdict → Type 0 = λ text v. Gives before.server after.server v text in
    outcome files names (Accepted files names) j before after old new status promise.answer promise.is (promise.tells reading)
    (accepted_cases reading files names)
    (is_refused reading files names aim runs) (is_missing reading files names aim runs)
    _ (HasFailed before after → ⊥) promise.notes promise.puts (promise.completes reading) (λ still. still)
    (λ still given. subst F (sym (shown_is given)) tt)
    (λ given why e. not_shown j.verdict showing (shown_of reading files names showing given) why (shown_is given) e)
    (λ given wrote_it. texts_put reading files names showing given wrote_it.text before after (subst (G wrote_it.text) (shown_is given) wrote_it.gives) wrote_it.puts)

-- 7. `show natural`

not_keyed : (v : Verdict) (natural : Natural) (why : Refused) → v ≡ keyed natural → v ≡ refused why
    → ⊥
not_keyed v natural why e f = absurd (let g : keyed natural ≡ refused why = sym e ∙ f in cc)

module _ (reading : Reading) (files : Files) (names : Names) (given : GivenKeys files names) where
  abbrev over : Schema
  over = given.accepted.given.over.schema

  abbrev natural_shown : Natural
  natural_shown = keyed_of reading files names show_natural given.accepted

  shows_keyed : (whole reading files names show_natural).verdict ≡ keyed natural_shown
  unfolding aim_judged
  shows_keyed =
      ap (λ (j : Judgement). j.verdict) (after_type reading files names show_natural given.accepted)
      ∙ ap (λ r. (read_then r (λ natural. at_once (keyed natural))).verdict)
      (natural_given reading files names show_natural given.accepted given.keyed)

  -- of the normal form of the plain term to which the query unfolds
  abbrev FramesPut : World → World → FormTree → Type 0
  FramesPut before after form =
      StitchTo (natural_keys over.tables form) over given.accepted.element
      (keyed_texts over.tables form)
      (λ tables value. Means tables given.accepted.given.query value)
      × TellsMore before.out.written after.out.written
      (frames (paths (bag given.accepted.element)) (keyed_texts over.tables form))

  frames_put : (text : List ℕ) (before after : World) → ShowsNatural text natural_shown
      → PutsAll before after text
      → FramesPut before after
      (normal_form over.tables given.accepted.element (bare given.keyed.plain))
  frames_put text before after shows puts =
      let once = reached_once
      (reading.plain.right over given.accepted.given.query (bag given.accepted.element)
      given.accepted.typed) given.keyed.unfolds in
      subst (λ (t : PlacedTerm). FramesPut before after
      (normal_form over.tables given.accepted.element (bare t))) once (
        shows.stitched,
        subst (λ (t : List ℕ). TellsMore before.out.written after.out.written t)
            shows.is puts,
      )

natural_promised : (files : Files) (s q : List ℕ) (before after : World) (old new : SinkState)
    (status : ℕ)
    → Promised (record {
      schema = s;
      query = q;
      folder = None;
      naming = keys;
    }) show_natural files before after old new status
    → NaturalComes before after old new status files s q
natural_promised files s q before after old new status promise =
    let names : Names = record { schema = s; query = q; folder = None; naming = keys } in
    let reading = one_reading in
    let j : Judgement = whole reading files names show_natural in
    let aims = aims_at reading files names in
    let shown_is = λ (given : GivenKeys files names). shows_keyed reading files names given in
    let F : Verdict → Type 0 = λ v. IsDue (Serves before.server after.server) v in
    let G : List ℕ → Verdict → Type 0 = λ text v. Gives before.server after.server v text in
    outcome files names (GivenKeys files names) j before after old new status promise.answer
    promise.is (promise.tells reading)
    (keyed_cases reading files names refl)
    (is_refused reading files names show_natural aims)
    (is_missing reading files names show_natural aims)
    _ (HasFailed before after
    → ⊥) promise.notes promise.puts (promise.completes reading) (λ still. still)
    (λ still given. subst F (sym (shown_is given)) tt)
    (λ given why e. not_keyed j.verdict (natural_shown reading files names given) why
    (shown_is given) e)
    (λ given wrote_it. frames_put reading files names given wrote_it.text before after
    (subst (G wrote_it.text) (shown_is given) wrote_it.gives) wrote_it.puts)

-- 8. the calls

module _ (words : List (String Global)) (before after : World) (old new : SinkState) (status : ℕ) (ends : Ends old new status (λ answer. Runs (command_in words) before after answer)) where
  abbrev spelled : List (List ℕ)
  spelled = map (λ word. string_bytes word) words

  of_run : (held : Option Files) → before.inputs.held ≡ held → OfRun spelled held (RunComes before after old new status)
  of_run None is = tt
  of_run (Some files) is = λ n s q d words_are.
      run_promised n files s q d before after old new status
      (promised (command_in words) (record {
        schema = s;
        query = q;
        folder = Some d;
        naming = n;
      }) (run_as n d) files before after old new status
      (command_run n spelled s q d words_are) is ends)

  of_lineage : (held : Option Files) → before.inputs.held ≡ held
      → OfLineage spelled held (LineageComes before after old new status)
  of_lineage None is = tt
  of_lineage (Some files) is = λ writing s q d words_are.
      lineage_promised writing files s q d before after old new status
      (promised (command_in words) (record {
        schema = s;
        query = q;
        folder = Some d;
        naming = numbers;
      }) (lineage writing d) files before after old new status
      (command_lineage writing spelled s q d words_are) is ends)

  of_show : (held : Option Files) → before.inputs.held ≡ held → OfShow spelled held (ShowComes before after old new status)
  of_show None is = tt
  of_show (Some files) is = λ showing s q words_are.
      show_promised showing files s q before after old new status
      (promised (command_in words) (record {
        schema = s;
        query = q;
        folder = None;
        naming = numbers;
      }) (show_texts showing) files before after old new status
      (command_show showing spelled s q words_are) is ends)

  of_natural : (held : Option Files) → before.inputs.held ≡ held
      → OfNatural spelled held (NaturalComes before after old new status)
  of_natural None is = tt
  of_natural (Some files) is = λ s q words_are.
      natural_promised files s q before after old new status
      (promised (command_in words) (record {
        schema = s;
        query = q;
        folder = None;
        naming = keys;
      }) show_natural files before after old new status
      (command_natural spelled s q words_are) is ends)

  pub comes : Comes words before after old new status
  comes = record {
    ends = ends;
    runs = of_run before.inputs.held refl;
    traces = of_lineage before.inputs.held refl;
    shows = of_show before.inputs.held refl;
    names = of_natural before.inputs.held refl;
  }
