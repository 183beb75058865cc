-- How what serving a plan says follows from loading its tables and asking its texts.
use Rattle.std.proofs.Common.{◌≡◌, ℕ, Bool, List, [], ◌∷◌, ◌++◌, length, Option, Result, Ok, Err, inl, inr, sym, ap, ap₂, ◌∙◌, subst, arith}
use Rattle.std.proofs.lemmas.List.{take_all}
use Rattle.std.specs.List.{zip}
use Rattle.nq_model.specs.declared.table.ColumnType.{ColumnType}
use Rattle.sql_profile.specs.Servers.{Asks}
use Rattle.sql_profile.specs.declared.answer.Answer.{Answer}
use Rattle.sql_profile.specs.declared.server.Loaded.{Loaded}
use Rattle.stitcher.specs.Stitching.{rows_of}
use Rattle.nq_execute.proofs.Asks.{both_length}
use Rattle.nq_execute.specs.Asking.{AskTells, plan_over}
use Rattle.nq_execute.specs.Plans.{Plan, AsksFor, CanFinish, IsServable, finished}
use Rattle.nq_execute.specs.Serving.{ServerState, Fit, HasAnswered, RefusalServes, ServesText, ServeTells, server_state, with_asks}
use Rattle.nq_execute.specs.declared.refusal.ServerRefusal.{ServerRefusal}
use Rattle.nq_execute.specs.declared.refusal.ServerRefusal.TheVariants as server

-- the tables of a plan, loaded into a server that held none
pub all_loaded : (held new tables : List Loaded) → held ≡ [] → new ≡ held ++ tables → new ≡ tables
all_loaded held new tables empty is = is ∙ ap (λ (ts : List Loaded). ts ++ tables) empty

pub same_plan : (plan : Plan) (held : List Loaded) (texts : List (List ℕ)) (columns : List (List ColumnType)) → held ≡ plan.tables → texts ≡ plan.texts → columns ≡ plan.columns → plan_over held texts columns plan.finish ≡ plan
same_plan plan held texts columns tables_are texts_are columns_are =
    ap (λ (ts : List Loaded). plan_over ts texts columns plan.finish) tables_are ∙ ap₂ (λ (ts : List (List ℕ)) (cs : List (List ColumnType)). plan_over plan.tables ts cs plan.finish) texts_are columns_are

-- answers of its columns may be finished
pub finishable : (plan : Plan) (own : List (List ColumnType)) → IsServable plan → own ≡ plan.columns → CanFinish plan.finish own
finishable plan own servable is = subst (λ (cs : List (List ColumnType)). CanFinish plan.finish cs) (sym is) servable.finishable

-- why there is no text, told from before the tables were loaded
refused_before : (plan : Plan) (old before new : ServerState) (honest : Bool) (r : ServerRefusal) → before.asks ≡ old.asks → RefusalServes plan before new honest r → RefusalServes plan old new honest r
refused_before plan old before new honest server.Memory same (inl some) =
    inl (record { later = some.later; all = some.all; untold = some.untold ∙ same })
refused_before plan old before new honest server.Memory same (inr some) =
    let P : Option Asks → Type 0 = λ asks. HasAnswered plan asks new.asks honest some.answers in
    inr (record { answers = some.answers; there = some.there; holds = some.holds; answered = subst P same some.answered })
refused_before plan old before new honest (server.TableFailed name) same refused =
    record { table = refused.table; later = refused.later; all = refused.all; named = refused.named; untold = refused.untold ∙ same }
refused_before plan old before new honest (server.TextFailed text) same refused =
    let P : Option Asks → Type 0 = λ asks. HasAnswered plan asks new.asks honest refused.answers in
    record { answers = refused.answers; numbered = refused.numbered; there = refused.there; holds = refused.holds; answered = subst P same refused.answered }
refused_before plan old before new honest (server.BadAnswer text row column) same refused =
    record {
      answers = refused.answers;
      bad = refused.bad;
      numbered = refused.numbered;
      there = refused.there;
      holds = refused.holds;
      told = refused.told ∙ ap (with_asks (zip plan.texts (refused.answers ++ refused.bad ∷ []))) same;
      fit = refused.fit;
      misfit = refused.misfit;
      blamed = refused.blamed;
    }

-- What asking its texts tells, where the tables of a plan were loaded before.
module _ (plan : Plan) (held mid new : List Loaded) (old before after : Option Asks) (honest asked : Bool) (texts : List (List ℕ)) (columns : List (List ColumnType))
    (holds : mid ≡ plan.tables) (untold : before ≡ old) (honesty : asked ≡ honest) (texts_are : texts ≡ plan.texts) (columns_are : columns ≡ plan.columns) where
  abbrev Before : ServerState
  Before = server_state mid before

  abbrev After : ServerState
  After = server_state new after

  abbrev Old : ServerState
  Old = server_state held old

  -- told of the plan, from before the tables were loaded
  of_plan : (result : Result (List Answer) ServerRefusal) → AskTells (plan_over mid texts columns plan.finish) Before After asked result → AskTells plan Before After honest result
  of_plan result tells =
      let P : Plan → Type 0 = λ p. AskTells p Before After asked result in
      let Q : Bool → Type 0 = λ h. AskTells plan Before After h result in
      subst Q honesty (subst P (same_plan plan mid texts columns holds texts_are columns_are) tells)

  -- why there is no text
  pub plan_refused : (r : ServerRefusal) (result : Result (List ℕ) ServerRefusal) → result ≡ Err r → AskTells (plan_over mid texts columns plan.finish) Before After asked (Err r) → ServeTells plan Old After honest result
  plan_refused r result is tells =
      let P : Result (List ℕ) ServerRefusal → Type 0 = λ given. ServeTells plan Old After honest given in
      subst P (sym is) (refused_before plan Old Before After honest r untold (of_plan (Err r) tells))

  -- an answer to each text fits its columns
  pub all_fit : (answers : List Answer) (own : List (List ColumnType)) → IsServable plan → AskTells (plan_over mid texts columns plan.finish) Before After asked (Ok answers) → own ≡ plan.columns → Fit own answers
  all_fit answers own servable tells is =
      let told = of_plan (Ok answers) tells in
      let columned = both_length (AsksFor plan.tables) plan.columns plan.texts servable.askable in
      let P : List (List ColumnType) → Type 0 = λ cs. Fit cs answers in
      subst P (take_all (length answers) plan.columns (omega (arith, told.0, columned)) ∙ sym is) told.1.fit

  -- the texts were answered
  answered_all : (answers : List Answer) → AskTells (plan_over mid texts columns plan.finish) Before After asked (Ok answers) → HasAnswered plan old after honest answers
  answered_all answers tells =
      let P : Option Asks → Type 0 = λ asks. HasAnswered plan asks after honest answers in
      subst P untold (of_plan (Ok answers) tells).1

  -- no text is written of the answers, where memory ran out
  pub text_unwritten : (answers : List Answer) (result : Result (List ℕ) ServerRefusal) → result ≡ Err server.Memory → new ≡ mid → AskTells (plan_over mid texts columns plan.finish) Before After asked (Ok answers)
      → ServeTells plan Old After honest result
  text_unwritten answers result is kept tells =
      let P : Result (List ℕ) ServerRefusal → Type 0 = λ given. ServeTells plan Old After honest given in
      let own = of_plan (Ok answers) tells in
      subst P (sym is) (inr (record { answers = answers; there = omega (arith, own.0); holds = kept ∙ holds; answered = answered_all answers tells }))

  -- the text of the answers
  pub text_serves : (answers : List Answer) (text : List ℕ) → new ≡ mid → AskTells (plan_over mid texts columns plan.finish) Before After asked (Ok answers) → text ≡ finished plan.finish (rows_of answers) → ServesText plan Old After honest text
  text_serves answers text kept tells is =
      let own = of_plan (Ok answers) tells in
      record { answers = answers; all = own.0; holds = kept ∙ holds; answered = answered_all answers tells; is = is }
