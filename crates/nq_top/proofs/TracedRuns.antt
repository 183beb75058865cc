-- What a lineage comes to, from the tables that are read for it.
use Rattle.std.proofs.Common.{◌≡◌, ℕ, List, [], Option, Some, None, Result, Ok, Err, IfSome, refl}
use Rattle.std.proofs.Common.{sym, ap, ap₂, ◌∙◌, subst, append-nil}
use Rattle.nq_edge.specs.Edge.{Files}
use Rattle.nq_model.specs.declared.table.Schema.{Schema}
use Rattle.nq_model.specs.declared.table.TableShape.{TableShape}
use Rattle.sql_profile.specs.declared.server.Loaded.{Loaded}
use Rattle.command_line.specs.Commands.{Aim, lineage}
use Rattle.command_line.specs.declared.refusal.InputRefusal.{InputRefusal}
use Rattle.command_line.specs.declared.refusal.InputRefusal.TheVariants as input
use Rattle.lineage_compile.specs.Tables.{HaveFewRows, with_numbers}
use Rattle.nq_execute.specs.Plans.{Plan, plan_view, IsServable}
use Rattle.nq_execute.specs.declared.plan.Plan.{Plan as Asked}
use Rattle.nq_execute.specs.declared.plan.TraceWriting.{TraceWriting}
use Rattle.nq_top.specs.Gathering.{Told, RefusalTells}
use Rattle.nq_top.specs.Judging.{Judgement, Verdict, planned, tables_judged, lineage_judged}
use Rattle.nq_top.specs.Judging.{aim_judged}
use Rattle.nq_top.specs.Limits.{tables_limit}
use Rattle.nq_top.specs.Plans.{AreReadFor, Draft, drafted, Question, IsSound}
use Rattle.nq_top.specs.Reading.{PlainReading, Reading, TypedTerm}
use Rattle.nq_top.specs.Steps.{GatherTells, ReadsBehind}
use Rattle.nq_top.specs.Traced.{CanServeNumbered, IsSoundNumbered, lineage_draft}
use Rattle.nq_top.specs.declared.gather.Gathered.{Gathered}
use Rattle.nq_top.specs.declared.gather.Gathered.TheVariants as gathered
use Rattle.nq_top.specs.declared.tables.TableTexts.TheVariants.{Csv}
use Rattle.nq_top.proofs.Drafts.{TablesTold, of_all, tables_go, tables_stop}
use Rattle.nq_top.proofs.Steps.{tells_nothing}
use Rattle.nq_top.proofs.TableReadings.{reads_all}

-- what is to be told
abbrev pub LineageTold : TraceWriting → Option Files → List ℕ → Schema → TypedTerm → Told → Told
    → Result Gathered InputRefusal → Type 0
LineageTold writing held folder schema query old new result =
    IfSome held (λ files. (reading : Reading)
    → GatherTells (lineage_judged writing reading.plain files folder schema query) old new result)

module _ (writing : TraceWriting) (held : Option Files) (folder : List ℕ) (schema : Schema)
    (query : TypedTerm) where
  -- memory wants before a table is fetched
  pub lineage_unmade : (old : Told) (result : Result Gathered InputRefusal)
      → result ≡ Err input.Memory → LineageTold writing held folder schema query old old result
  lineage_unmade old result is =
      subst (λ (g : Result Gathered InputRefusal).
      LineageTold writing held folder schema query old old g)
      (sym is) (go held)
    where
      go : (h : Option Files) → LineageTold writing h folder schema query old old (Err input.Memory)
      go None = tt
      go (Some files) = λ reading. record {
        front = [];
        back = (lineage_judged writing reading.plain files folder schema query).names;
        all = refl;
        fetched = tells_nothing old old refl;
      }

  module _ (shapes : List TableShape) (done : List Loaded) (same : shapes ≡ schema.tables)
      (empty : done ≡ []) (old new : Told) where
    abbrev Next : PlainReading → List Loaded → Verdict
    Next plain tables =
        planned (drafted (lineage_draft writing plain schema query) (with_numbers tables))
        (Question.traced writing tables query.term)

    -- a table text is refused, or an input fails
    pub lineage_stops : (r : InputRefusal) (result : Result Gathered InputRefusal)
        → result ≡ Err r → TablesTold held Csv folder shapes done old new (Err r)
        → LineageTold writing held folder schema query old new result
    lineage_stops r result is told =
        subst (λ (g : Result Gathered InputRefusal).
        LineageTold writing held folder schema query old new g) (sym is) (go held told)
      where
        go : (h : Option Files) → TablesTold h Csv folder shapes done old new (Err r)
            → LineageTold writing h folder schema query old new (Err r)
        go None told = tt
        go (Some files) told = λ reading.
            tables_stop files Csv folder schema shapes done same empty old new (Next reading.plain)
            r (told (Next reading.plain))

    module _ (tables : List Loaded)
        (told : TablesTold held Csv folder shapes done old new (Ok tables)) where
      -- memory wants for the numbers
      pub lineage_wants : (result : Result Gathered InputRefusal) → result ≡ Err input.Memory
          → LineageTold writing held folder schema query old new result
      lineage_wants result is =
          subst (λ (g : Result Gathered InputRefusal).
          LineageTold writing held folder schema query old new g) (sym is) (go held told)
        where
          go : (h : Option Files) → TablesTold h Csv folder shapes done old new (Ok tables)
              → LineageTold writing h folder schema query old new (Err input.Memory)
          go None told = tt
          go (Some files) told = λ reading.
              let next = Next reading.plain in
              let judges = told next in
              let names = (tables_judged files Csv folder shapes tables_limit done next).names in
              of_all files Csv folder schema shapes done same empty old new next
              (λ j. RefusalTells j old new input.Memory) (record {
                front = names;
                back = [];
                all = sym (append-nil names);
                fetched = judges.fetched;
              })

      module _ (draft : Draft) (numbered : List Loaded) (asked : Asked)
          (reads : ReadsBehind done shapes tables) (few : HaveFewRows tables)
          (numbered_is : numbered ≡ with_numbers tables)
          (is : plan_view asked ≡ drafted draft numbered) where
        read : AreReadFor schema.tables tables
        read = subst (λ (s : List TableShape). AreReadFor s tables) same
            (reads_all done tables shapes empty reads)

        plan_is : plan_view asked ≡ drafted draft (with_numbers tables)
        plan_is = is ∙ ap (drafted draft) numbered_is

        -- the plan may be served
        pub lineage_servable : CanServeNumbered schema draft → IsServable (plan_view asked)
        lineage_servable servable =
            subst (λ (p : Plan). IsServable p) (sym plan_is) (servable tables read few)

        -- and it is that of the lineage
        pub lineage_goes : ((plain : PlainReading)
            → draft ≡ lineage_draft writing plain schema query)
            → IsSoundNumbered writing schema draft query.term
            → LineageTold writing held folder schema query old new (Ok (gathered.Plan asked))
        lineage_goes draft_is sound = go held told
          where
            go : (h : Option Files) → TablesTold h Csv folder shapes done old new (Ok tables)
                → LineageTold writing h folder schema query old new (Ok (gathered.Plan asked))
            go None told = tt
            go (Some files) told = λ reading.
                let next = Next reading.plain in
                let own = lineage_draft writing reading.plain schema query in
                let question = Question.traced writing tables query.term in
                let S : Draft → Type 0 = λ d.
                IsSound (drafted d (with_numbers tables)) question in
                tables_go files Csv folder schema shapes done same empty old new next tables
                (drafted own (with_numbers tables)) question asked (told next) refl (record {
                  is = plan_is ∙ ap (λ (d : Draft). drafted d (with_numbers tables))
                      (draft_is reading.plain);
                  sound = subst S (draft_is reading.plain) (sound tables read few);
                })

-- the aim of a lineage
pub aim_traces : (writing : TraceWriting) (held : Option Files) (aim : Aim) (folder : List ℕ)
    (schema : Schema) (query : TypedTerm) (old new : Told) (result : Result Gathered InputRefusal)
    → aim ≡ lineage writing folder
    → LineageTold writing held folder schema query old new result
    → IfSome held (λ files. (reading : Reading)
    → GatherTells (aim_judged reading.plain files aim schema query) old new result)
unfolding aim_judged
aim_traces writing None aim folder schema query old new result is told = tt
aim_traces writing (Some files) aim folder schema query old new result is told = λ reading.
    let P : Aim → Type 0 = λ a.
    GatherTells (aim_judged reading.plain files a schema query) old new result in
    subst P (sym is) (told reading)
