-- The texts of a query that name bags by keys: their draft, what is shown of them, and what the
-- commands come to.
use Rattle.std.proofs.Common.{◌≡◌, ℕ, zero, suc, List, [], ◌∷◌, Option, Some, None, Result, Ok, Err}
use Rattle.std.proofs.Common.{IfSome, length, map, refl, sym, ap, ap₂, ◌∙◌, subst}
use Rattle.std.proofs.lemmas.List.{length-map}
use Rattle.nq_edge.specs.Edge.{Files}
use Rattle.nq_model.specs.Numberings.{count_from}
use Rattle.nq_model.specs.QueryMeaning.{Means}
use Rattle.nq_model.specs.Terms.{bare}
use Rattle.nq_model.specs.Types.{TypeTree, bag, type_tree}
use Rattle.nq_model.specs.Typing.{IsAccepted}
use Rattle.nq_model.specs.declared.table.ColumnType.{ColumnType}
use Rattle.nq_model.specs.declared.table.Schema.{Schema}
use Rattle.nq_compile.specs.Shreds.{IsScopedText, StitchTo}
use Rattle.natural_keys.specs.Schemes.{keys_scheme}
use Rattle.nq_execute.specs.Plans.{Finish, Indexes, Writing, ArePathsOf, AsksFor}
use Rattle.nq_execute.proofs.Asks.{both_length}
use Rattle.nq_ir.specs.Meanings.{EachBoth}
use Rattle.nq_ir.specs.NormalForms.{element_type}
use Rattle.nq_ir.specs.Parts.{bags, element_types}
use Rattle.nq_ir.specs.Paths.{paths}
use Rattle.nq_ir.specs.Trees.{FormTree}
use Rattle.nq_ir.specs.declared.path.Path.{Path}
use Rattle.nq_ir.proofs.Paths.{paths_count}
use Rattle.shred_types.specs.Under.{steps_of}
use Rattle.sql_profile.specs.declared.server.Loaded.{Loaded}
use Rattle.stitcher.specs.Schemes.{Scheme}
use Rattle.natural_keys.specs.NaturalKeys.{natural_keys}
use Rattle.natural_keys.specs.declared.index.KeyIndex.{KeyIndex}
use Rattle.natural_index.specs.Naming.{no_key}
use Rattle.natural_compile.specs.Texts.{OfForm, keyed_texts}
use Rattle.natural_compile.specs.declared.compiled.KeyedTexts.{KeyedTexts}
use Rattle.command_line.specs.Commands.{Aim, run_natural, show_natural}
use Rattle.command_line.specs.Frames.{frames}
use Rattle.command_line.specs.declared.refusal.InputRefusal.{InputRefusal}
use Rattle.command_line.specs.declared.refusal.InputRefusal.TheVariants as input
use Rattle.command_line.specs.declared.refusal.Refused.{Refused}
use Rattle.command_line.specs.declared.refusal.Refused.TheVariants.{NoKey}
use Rattle.nq_top.specs.Gathering.{Told}
use Rattle.nq_top.specs.Judging.{Judgement, keyed, at_once, read_then, draft_judged, natural_judged}
use Rattle.nq_top.specs.Judging.{aim_judged}
use Rattle.nq_top.specs.Natural.{Natural, ShowsNatural, StandsFor, keyed_as, natural_draft}
use Rattle.nq_top.specs.Natural.{natural_of, natural_read, natural_view}
use Rattle.nq_top.specs.Plans.{Draft, CanServeOver, IsSoundOver, Question, question_to}
use Rattle.nq_top.specs.Reading.{PlainReading, Reading, TypedTerm}
use Rattle.nq_top.specs.Shown.{shown_form}
use Rattle.nq_top.specs.Steps.{Accepts, GatherTells, InputCounts, IsQuery, Refuses}
use Rattle.nq_top.specs.declared.gather.Gathered.{Gathered}
use Rattle.nq_top.specs.declared.gather.Gathered.TheVariants as gathered
use Rattle.nq_top.specs.declared.tables.TableTexts.TheVariants.{Csv}
use Rattle.nq_top.proofs.Drafts.{DraftTold}
use Rattle.nq_top.proofs.Showings.{read_accepted, bag_again}
use Rattle.nq_top.proofs.Soundness.{asks_for, read_loadable, read_shapes, written_sound}
use Rattle.nq_top.proofs.Steps.{read_next, read_refused, tells_nothing}

-- 1. what compiling says

pub each_both : {A B : Type 0} (P Q : A → B → Type 0) → ((a : A) (b : B) → P a b → Q a b)
    → (xs : List A) (ys : List B) → EachBoth P xs ys → EachBoth Q xs ys
each_both P Q go [] ys h = h
each_both P Q go (x ∷ xs) [] h = absurd h
each_both P Q go (x ∷ xs) (y ∷ ys) h = (go x y h.0, each_both P Q go xs ys h.1)

counted : (k n : ℕ) → length (count_from k n) ≡ n
counted k zero = refl
counted k (suc n) = ap suc (counted (suc k) n)

module _ (schema : Schema) (query : TypedTerm) (is_query : IsQuery schema query) where
  accepted : IsAccepted schema (bare query.term) query.type
  accepted = read_accepted schema query.term query.type is_query.typed

  of_bag : bag (element_type query.type) ≡ query.type
  of_bag = bag_again query.type accepted.plain_bag

  accepted_bag : IsAccepted schema (bare query.term) (bag (element_type query.type))
  accepted_bag = subst (λ (a : TypeTree). IsAccepted schema (bare query.term) a)
      (sym of_bag) accepted

  -- what holds of the query's normal form holds of the one that is shown
  form_holds : (Holds : FormTree → Type 0) → OfForm schema query.term Holds → (plain : PlainReading)
      → Holds (shown_form plain schema query.term query.type)
  form_holds Holds of plain =
      of (element_type query.type) (plain.says query.term) accepted_bag
      (plain.right schema query.term query.type accepted)

  -- a table that has no key
  pub says_keyless : (table : List ℕ)
      → OfForm schema query.term (λ form. no_key schema.tables form ≡ Some table)
      → (plain : PlainReading) → natural_read plain schema query ≡ Err (NoKey table)
  unfolding natural_read
  says_keyless table lacks plain =
      let form : FormTree = shown_form plain schema query.term query.type in
      ap (keyed_as (natural_of schema query form))
      (form_holds (λ f. no_key schema.tables f ≡ Some table) lacks plain)

  module _ (made : KeyedTexts) where
    abbrev own_keys : Scheme KeyIndex
    own_keys = keys_scheme made.keys

    pub says_made : OfForm schema query.term (λ form. no_key schema.tables form ≡ None)
        → OfForm schema query.term (λ form. own_keys ≡ natural_keys schema.tables form)
        → OfForm schema query.term (λ form. made.texts ≡ keyed_texts schema.tables form)
        → (plain : PlainReading)
        → natural_read plain schema query ≡ Ok (natural_view schema query made)
    unfolding natural_read
    says_made named keys texts plain =
        let form : FormTree = shown_form plain schema query.term query.type in
        let Of : Scheme KeyIndex → List (List ℕ) → Result Natural Refused = λ k ts.
        Ok (record { schema = schema; query = query; keys = k; texts = ts }) in
        ap (keyed_as (natural_of schema query form))
        (form_holds (λ f. no_key schema.tables f ≡ None) named plain)
        ∙ ap₂ Of (sym (form_holds (λ f. own_keys ≡ natural_keys schema.tables f) keys plain))
        (sym (form_holds (λ f. made.texts ≡ keyed_texts schema.tables f) texts plain))

    pub stands : ((type : TypeTree) → IsAccepted schema (bare query.term) type
        → type_tree made.result ≡ type)
        → steps_of made.paths ≡ paths (type_tree made.result)
        → own_keys.elements ≡ element_types (type_tree made.result)
        → made.columns ≡ map own_keys.columns (count_from 0 (bags (type_tree made.result)))
        → EachBoth (IsScopedText schema) made.columns made.texts
        → ((element : TypeTree) → IsAccepted schema (bare query.term) (bag element)
        → StitchTo own_keys schema element made.texts
        (λ tables value. Means tables query.term value))
        → StandsFor schema query made
    stands result paths_are own columns scoped stitched =
        let same : type_tree made.result ≡ query.type = result query.type accepted in
        record {
          result = same;
          paths_are = paths_are ∙ ap paths same;
          of_type = own ∙ ap element_types same;
          columns = columns ∙ ap (λ (a : TypeTree). map own_keys.columns
              (count_from 0 (bags a))) same;
          scoped = scoped;
          stitched = stitched (element_type query.type) accepted_bag;
        }

    -- 2. what follows of it

    module _ (stand : StandsFor schema query made) where
      abbrev own_draft : TypeTree → List (List ColumnType) → Draft
      own_draft type columns = record {
        texts = made.texts;
        columns = columns;
        finish = Finish.value type (Indexes.keys own_keys) Writing.text;
      }

      at_paths : ArePathsOf query.type (Indexes.keys own_keys) made.columns
      at_paths = record { of_bag = sym of_bag; of_type = stand.of_type; at_paths = stand.columns }

      -- over all tables of the schema the draft may be served
      pub keyed_servable : CanServeOver schema (own_draft (type_tree made.result) made.columns)
      keyed_servable tables read = record {
        loadable = read_loadable schema tables is_query.proper_schema read;
        finishable = subst (λ (a : TypeTree). ArePathsOf a (Indexes.keys own_keys) made.columns)
            (sym stand.result) at_paths;
        askable = each_both (IsScopedText schema) (AsksFor tables)
            (asks_for schema tables (read_shapes schema tables read)) made.columns made.texts
            stand.scoped;
      }

      -- and it is sound for the query
      pub keyed_sound : IsSoundOver schema (own_draft (type_tree made.result) made.columns)
          (λ tables. question_to Writing.text query)
      keyed_sound =
          let P : TypeTree → Type 0 = λ a. IsSoundOver schema (own_draft a made.columns)
          (λ tables. question_to Writing.text query) in
          subst P (sym stand.result)
          (written_sound schema query.term query.type (Indexes.keys own_keys) Writing.text
          made.texts made.columns accepted stand.stitched)

      -- it is the draft of these texts
      pub draft_made : own_draft (type_tree made.result) made.columns
          ≡ natural_draft (natural_view schema query made)
      draft_made = ap₂ own_draft stand.result stand.columns

      -- there are as many texts as paths
      pub paths_long : length made.paths ≡ length made.texts
      paths_long =
          sym (length-map made.paths (λ (p : Path). p.steps))
          ∙ ap length stand.paths_are ∙ paths_count query.type
          ∙ sym (counted 0 (bags query.type))
          ∙ sym (length-map (count_from 0 (bags query.type)) own_keys.columns)
          ∙ sym (ap length stand.columns)
          ∙ sym (both_length (IsScopedText schema) made.columns made.texts stand.scoped)

      -- their frames are what is shown
      pub shows_made : (text : List ℕ) → text ≡ frames (steps_of made.paths) made.texts
          → ShowsNatural text (natural_view schema query made)
      shows_made text is = record {
        is = is ∙ ap (λ (ps : List _). frames ps made.texts) stand.paths_are;
        stitched = stand.stitched;
        scoped = subst (λ (cs : List (List ColumnType)). EachBoth
            (IsScopedText schema) cs made.texts)
            stand.columns stand.scoped;
      }

-- 3. what the commands come to

-- a refusal fails no call
pub refused_counts : {T A : Type 0} (before : ℕ) (given : Result A Refused) (r : InputRefusal)
    (result : Result T InputRefusal) → result ≡ Err r → Refuses given r
    → InputCounts before before result
refused_counts {T} before given r result is refuses =
    subst (λ (g : Result T InputRefusal). InputCounts before before g) (sym is) (go r refuses)
  where
    go : (r : InputRefusal) → Refuses given r → InputCounts {T = T} before before (Err r)
    go input.Memory h = refl
    go (input.Refused why) h = refl
    go (input.Failed name) h = absurd h

module _ (held : Option Files) (aim : Aim) (schema : Schema) (query : TypedTerm) (old : Told) where
  abbrev AimTold : Told → Result Gathered InputRefusal → Type 0
  AimTold new result =
      IfSome held (λ files. (reading : Reading)
      → GatherTells (aim_judged reading.plain files aim schema query) old new result)

  -- a table lacks its key, or memory wants
  pub natural_stops : (given : Aim) (next : PlainReading → Files → Natural → Judgement)
      (r : InputRefusal) (result : Result Gathered InputRefusal) → aim ≡ given
      → ((plain : PlainReading) (files : Files) → aim_judged plain files given schema query
      ≡ read_then (natural_read plain schema query) (next plain files))
      → result ≡ Err r → ((plain : PlainReading) → Refuses (natural_read plain schema query) r)
      → AimTold old result
  natural_stops given next r result is judged failed refuses =
      subst (λ (g : Result Gathered InputRefusal). AimTold old g) (sym failed) (go held)
    where
      go : (h : Option Files) → IfSome h (λ files. (reading : Reading)
          → GatherTells (aim_judged reading.plain files aim schema query) old old (Err r))
      go None = tt
      go (Some files) = λ reading.
          let whole = ap (λ (a : Aim). aim_judged reading.plain files a schema query) is
          ∙ judged reading.plain files in
          let P : Judgement → Type 0 = λ j. GatherTells j old old (Err r) in
          subst P (sym whole)
          (read_refused (natural_read reading.plain schema query) (next reading.plain files)
          old old r (refuses reading.plain) refl)

  -- the draft is served
  pub natural_runs : (folder : List ℕ) (draft : Draft) (new : Told)
      (result : Result Gathered InputRefusal) → aim ≡ run_natural folder
      → ((plain : PlainReading) → (natural : Natural)
      × (natural_read plain schema query ≡ Ok natural) × (draft ≡ natural_draft natural))
      → IsSoundOver schema draft (λ tables. question_to Writing.text query)
      → DraftTold held Csv folder schema draft old new result → AimTold new result
  unfolding aim_judged
  natural_runs folder draft new result is says sound told = go held told
    where
      go : (h : Option Files) → DraftTold h Csv folder schema draft old new result
          → IfSome h (λ files. (reading : Reading)
          → GatherTells (aim_judged reading.plain files aim schema query) old new result)
      go None told = tt
      go (Some files) told = λ reading.
          let said = says reading.plain in
          let question : List Loaded → Question = λ tables. question_to Writing.text query in
          let whole : aim_judged reading.plain files aim schema query
          ≡ draft_judged files Csv folder schema draft question =
          ap (λ (a : Aim). aim_judged reading.plain files a schema query) is
          ∙ read_next (natural_read reading.plain schema query) said.0
          (λ natural. draft_judged files Csv folder schema
          (natural_draft natural) question) said.1
          ∙ ap (λ (d : Draft). draft_judged files Csv folder schema d question) (sym said.2) in
          let P : Judgement → Type 0 = λ j. GatherTells j old new result in
          subst P (sym whole) (told question sound)

  -- the texts are shown
  pub natural_shows : (text : List ℕ) → aim ≡ show_natural
      → ((plain : PlainReading) → (natural : Natural)
      × (natural_read plain schema query ≡ Ok natural) × ShowsNatural text natural)
      → AimTold old (Ok (gathered.Text text))
  unfolding aim_judged
  natural_shows text is says = go held
    where
      go : (h : Option Files) → IfSome h (λ files. (reading : Reading)
          → GatherTells (aim_judged reading.plain files aim schema query) old old
          (Ok (gathered.Text text)))
      go None = tt
      go (Some files) = λ reading.
          let said = says reading.plain in
          let whole : aim_judged reading.plain files aim schema query ≡ at_once (keyed said.0) =
          ap (λ (a : Aim). aim_judged reading.plain files a schema query) is
          ∙ read_next (natural_read reading.plain schema query) said.0
          (λ natural. at_once (keyed natural)) said.1 in
          let P : Judgement → Type 0 = λ j. Accepts j (gathered.Text text) old old in
          subst P (sym whole) (record { comes_to = said.2; fetched = tells_nothing old old refl })

-- a run is judged by what its texts come to, and so is what is shown
pub run_keyed : (plain : PlainReading) (files : Files) (folder : List ℕ) (schema : Schema)
    (query : TypedTerm) → aim_judged plain files (run_natural folder) schema query
    ≡ natural_judged plain files folder schema query
unfolding aim_judged
run_keyed plain files folder schema query = refl

pub show_keyed : (plain : PlainReading) (files : Files) (schema : Schema) (query : TypedTerm)
    → aim_judged plain files show_natural schema query
    ≡ read_then (natural_read plain schema query) (λ natural. at_once (keyed natural))
unfolding aim_judged
show_keyed plain files schema query = refl
