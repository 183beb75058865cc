-- Laws of texts that are asked one after the other.
use Rattle.std.proofs.Common.{◌≡◌, ◌<◌, ◌≤◌, ◌+◌, ℕ, suc, Bool, true, List, [], ◌∷◌, ◌++◌, length, take, get_or, Option, Some, None, Result, Ok, Err, inr, refl, sym, ap, ap₂, ◌∙◌, subst, arith, add-one, append_assoc, append-nil, length-append, All}
use Rattle.std.specs.List.{zip}
use Rattle.std.specs.Option.{is_some}
use Rattle.std.proofs.lemmas.List.{get_or_default}
use Rattle.nq_model.specs.Cells.{RowFits}
use Rattle.nq_model.specs.declared.table.Cell.{Cell}
use Rattle.nq_model.specs.declared.table.ColumnType.{ColumnType}
use Rattle.nq_ir.specs.Meanings.{EachBoth}
use Rattle.nq_ir.proofs.Allowed.{both_at}
use Rattle.sql_profile.specs.Fits.{IsFirstMisfit}
use Rattle.sql_profile.specs.Servers.{Asks, with_ask}
use Rattle.sql_profile.specs.Texts.{TextAllows}
use Rattle.sql_profile.specs.Tokens.{First}
use Rattle.sql_profile.specs.declared.answer.Answer.{Answer}
use Rattle.sql_profile.specs.declared.answer.Misfit.{Misfit}
use Rattle.sql_profile.specs.declared.server.Loaded.{Loaded}
use Rattle.sql_profile.proofs.AskedAnswers.{asked_fits}
use Rattle.sql_profile.proofs.Misfits.{fits_without_misfit}
use Rattle.nq_execute.specs.Asking.{AskTells, HaveFittingRows, AnswersText, MisfitsText, TextRefused, plan_over}
use Rattle.nq_execute.specs.Plans.{Finish, Plan, AsksFor}
use Rattle.nq_execute.specs.Serving.{RefusalCounts, ServerCounts, HasAnswered, RefusalServes, server_state, with_asks}
use Rattle.nq_execute.specs.declared.refusal.ServerRefusal.{ServerRefusal}
use Rattle.nq_execute.specs.declared.refusal.ServerRefusal.TheVariants as server

-- a server that is told one ask more tells its asks as before
pub still_telling : (text : List ℕ) (answer : Answer) (old new : Option Asks) → new ≡ with_ask text answer old → is_some new ≡ is_some old
still_telling text answer None new is = ap is_some is
still_telling text answer (Some asks) new is = ap is_some is

-- an answer that SQL allows to a text fits its columns
pub allowed_text_fits : (held : List Loaded) (types : List ColumnType) (text : List ℕ) (rows : List (List Cell)) → HaveFittingRows held → AsksFor held types text → TextAllows First held text rows → All (RowFits types) rows
allowed_text_fits held types text rows fit asks allows =
    let P : List ColumnType → Type 0 = λ ts. All (RowFits ts) rows in
    subst P asks.typed (asked_fits First held text rows fit asks.asked allows)

-- an answer that does not fit
pub text_misfits : (held : List Loaded) (types : List ColumnType) (text : List ℕ) (old new : Option Asks) (honest : Bool) (answer : Answer) (misfit : Misfit)
    → HaveFittingRows held → AsksFor held types text → new ≡ with_ask text answer old → (honest ≡ true → TextAllows First held text answer.rows)
    → IsFirstMisfit answer.rows types misfit → MisfitsText types text old new honest misfit.row misfit.column
text_misfits held types text old new honest answer misfit fit asks told allowed first =
    record {
      bad = answer;
      told = told;
      misfit = first;
      blamed = λ h. fits_without_misfit answer.rows types misfit (allowed_text_fits held types text answer.rows fit asks (allowed h)) first;
    }

pub ruleset one_text = (still_telling, text_misfits)

-- as many answers as texts
pub both_length : {A B : Type 0} (P : A → B → Type 0) (xs : List A) (ys : List B) → EachBoth P xs ys → length ys ≡ length xs
both_length P [] ys h = ap length h
both_length P (x ∷ xs) [] h = absurd h
both_length P (x ∷ xs) (y ∷ ys) h = ap suc (both_length P xs ys h.1)

-- each text may be asked, with the columns at its place
pub asks_at : (held : List Loaded) (columns : List (List ColumnType)) (texts : List (List ℕ)) (k : ℕ) (types : List ColumnType) (text : List ℕ) → EachBoth (AsksFor held) columns texts → k < length texts
    → types ≡ get_or columns k types → text ≡ get_or texts k text → AsksFor held types text
asks_at held columns texts k types text each below types_are text_is =
    let columned = both_length (AsksFor held) columns texts each in
    let P : List ColumnType → List ℕ → Type 0 = AsksFor held in
    subst (λ t. P types t) (sym text_is) (subst (λ ts. P ts (get_or texts k text)) (sym types_are) (both_at P types text columns texts each k (omega arith)))

-- the first elements of a list with those of another, and one more of each
both_more : {A B : Type 0} (P : A → B → Type 0) (xs : List A) (ys : List B) (x : A) (y : B) → length ys < length xs → x ≡ get_or xs (length ys) x → EachBoth P (take (length ys) xs) ys → P x y → EachBoth P (take (length (ys ++ y ∷ [])) xs) (ys ++ y ∷ [])
both_more P [] ys x y below is h p = absurd (omega arith)
both_more P (z ∷ xs) [] x y below is h p = (subst (λ w. P w y) is p, refl)
both_more P (z ∷ xs) (w ∷ ys) x y below is h p = (h.0, both_more P xs ys x y (omega arith) is h.1 p)

zip_none : {A B : Type 0} (xs : List A) → zip {K = A} {X = B} xs [] ≡ []
zip_none [] = refl
zip_none (x ∷ xs) = refl

zip_more : {A B : Type 0} (xs : List A) (ys : List B) (x : A) (y : B) → length ys < length xs → x ≡ get_or xs (length ys) x → zip xs (ys ++ y ∷ []) ≡ zip xs ys ++ (x, y) ∷ []
zip_more [] ys x y below is = absurd (omega arith)
zip_more (z ∷ xs) [] x y below is = ap₂ (λ w zs. (w, y) ∷ zs) (sym is) (zip_none xs)
zip_more (z ∷ xs) (w ∷ ys) x y below is = ap (λ zs. (z, w) ∷ zs) (zip_more xs ys x y (omega arith) is)

with_asks_more : (more : Asks) (text : List ℕ) (answer : Answer) (told : Option Asks) → with_ask text answer (with_asks more told) ≡ with_asks (more ++ (text, answer) ∷ []) told
with_asks_more more text answer None = refl
with_asks_more more text answer (Some asks) = ap (λ (all : Asks). Some all) (append_assoc asks more ((text, answer) ∷ []))

with_no_asks : (told : Option Asks) → told ≡ with_asks [] told
with_no_asks None = refl
with_no_asks (Some asks) = ap (λ (all : Asks). Some all) (sym (append-nil asks))

-- the asks that are told after one more answer
told_more : (texts : List (List ℕ)) (answers : List Answer) (text : List ℕ) (answer : Answer) (old mid new : Option Asks) → length answers < length texts → text ≡ get_or texts (length answers) text
    → mid ≡ with_asks (zip texts answers) old → new ≡ with_ask text answer mid → new ≡ with_asks (zip texts (answers ++ answer ∷ [])) old
told_more texts answers text answer old mid new below is before told =
    told ∙ ap (with_ask text answer) before ∙ with_asks_more (zip texts answers) text answer old
    ∙ ap (λ (more : Asks). with_asks more old) (sym (zip_more texts answers text answer below is))

module _ (plan : Plan) (old mid new : Option Asks) (honest : Bool) (answers : List Answer) (text : List ℕ) (types : List ColumnType) (below : length answers < length plan.texts) (columned : length plan.texts ≡ length plan.columns) (text_is : text ≡ get_or plan.texts (length answers) text) (types_are : types ≡ get_or plan.columns (length answers) types) (before : HasAnswered plan old mid honest answers) where
  -- one answer more
  pub answered_more : (answer : Answer) → AnswersText plan.tables types text mid new honest answer → HasAnswered plan old new honest (answers ++ answer ∷ [])
  answered_more answer more = record {
    told = told_more plan.texts answers text answer old mid new below text_is before.told more.told;
    fit = both_more (λ types answer. All (RowFits types) answer.rows) plan.columns answers types answer (omega arith) types_are before.fit more.fit;
    allowed = λ h. both_more (λ text answer. TextAllows First plan.tables text answer.rows) plan.texts answers text answer below text_is (before.allowed h) (more.allowed h);
  }

  -- no answer more
  answered_still : new ≡ mid → HasAnswered plan old new honest answers
  answered_still same = let P : Option Asks → Type 0 = λ asks. HasAnswered plan old asks honest answers in subst P (sym same) before

  -- why there is no further answer
  pub answer_refused : (held now : List Loaded) (number : ℕ) (r : ServerRefusal) → now ≡ plan.tables → number ≡ suc (length answers) → TextRefused types text number mid new honest r
      → RefusalServes plan (server_state held old) (server_state now new) honest r
  answer_refused held now number server.Memory holds numbered refused =
      inr (record { answers = answers; there = omega (arith, below); holds = holds; answered = answered_still refused })
  answer_refused held now number (server.TableFailed name) holds numbered refused = absurd refused
  answer_refused held now number (server.TextFailed failed) holds numbered refused = record {
    answers = answers;
    numbered = refused.0 ∙ numbered;
    there = below;
    holds = holds;
    answered = answered_still refused.1;
  }
  answer_refused held now number (server.BadAnswer failed row column) holds numbered refused = record {
    answers = answers;
    bad = refused.1.bad;
    numbered = refused.0 ∙ numbered;
    there = below;
    holds = holds;
    told = told_more plan.texts answers text refused.1.bad old mid new below text_is before.told refused.1.told;
    fit = before.fit;
    misfit =
        let P : List ColumnType → Type 0 = λ ts. IsFirstMisfit refused.1.bad.rows ts (record { row = row; column = column }) in
        subst P (types_are ∙ get_or_default plan.columns (length answers) types [] (omega arith)) refused.1.misfit;
    blamed = refused.1.blamed;
  }

-- before the first text is asked
pub answered_none : (plan : Plan) (old : Option Asks) (honest : Bool) → HasAnswered plan old old honest []
answered_none plan old honest = record {
  told = with_no_asks old ∙ ap (λ (more : Asks). with_asks more old) (sym (zip_none plan.texts));
  fit = none (λ types answer. All (RowFits types) answer.rows) plan.columns;
  allowed = λ h. none (λ text answer. TextAllows First plan.tables text answer.rows) plan.texts;
}
  where
    none : {A B : Type 0} (P : A → B → Type 0) (xs : List A) → EachBoth P (take 0 xs) []
    none P [] = refl
    none P (x ∷ xs) = refl

length_push : (answers : List Answer) (answer : Answer) → length (answers ++ answer ∷ []) ≡ length answers + 1
length_push answers answer = length-append answers (answer ∷ [])

-- How far the texts were asked: what the server held and told at first, and now, and its answers.
pub record IsAsking (texts : List (List ℕ)) (columns : List (List ColumnType)) (held now : List Loaded) (old new : Option Asks) (honest honest_now : Bool) (bound bound_now failures failures_now at : ℕ) (answers : List Answer) : Type 0 where
  pub tables : now ≡ held
  pub honesty : honest_now ≡ honest
  pub bounded : bound_now ≡ bound
  pub counted : failures_now ≡ failures
  pub telling : is_some new ≡ is_some old
  pub as_many : length answers ≡ at
  pub answered : (finish : Finish) → HasAnswered (plan_over held texts columns finish) old new honest answers

-- before the first text
pub asking_none : (texts : List (List ℕ)) (columns : List (List ColumnType)) (held : List Loaded) (old : Option Asks) (honest : Bool) (bound failures : ℕ) (answers : List Answer) → answers ≡ []
    → IsAsking texts columns held held old old honest honest bound bound failures failures 0 answers
asking_none texts columns held old honest bound failures answers none = record {
  tables = refl;
  honesty = refl;
  bounded = refl;
  counted = refl;
  telling = refl;
  as_many = ap length none;
  answered = λ finish.
      let P : List Answer → Type 0 = λ all. HasAnswered (plan_over held texts columns finish) old old honest all in
      subst P (sym none) (answered_none (plan_over held texts columns finish) old honest);
}

module _ (texts : List (List ℕ)) (columns : List (List ColumnType)) (held now : List Loaded) (old mid : Option Asks) (honest honest_now : Bool) (bound bound_now failures failures_now at : ℕ) (answers : List Answer)
    (so_far : IsAsking texts columns held now old mid honest honest_now bound bound_now failures failures_now at answers) (each : EachBoth (AsksFor held) columns texts) where
  -- the count of faults at a refusal, told from before the first text
  pub refused_counts : {T : Type 0} (later : ℕ) (r : ServerRefusal) (result : Result T ServerRefusal) → result ≡ Err r → RefusalCounts bound_now failures_now later r → ServerCounts bound failures later result
  refused_counts later r result is counts =
      let P : ℕ → ℕ → Type 0 = λ b f. RefusalCounts b f later r in
      let own : RefusalCounts bound failures later r = subst (λ b. P b failures) so_far.bounded (subst (λ f. P bound_now f) so_far.counted counts) in
      let Q : Result _ ServerRefusal → Type 0 = λ given. ServerCounts bound failures later given in
      subst Q (sym is) own

  -- an answer to each text
  pub all_asked : length texts ≤ at → at ≤ length texts → (finish : Finish) → AskTells (plan_over held texts columns finish) (server_state held old) (server_state now mid) honest (Ok answers)
  all_asked low high finish = (so_far.as_many ∙ omega arith, so_far.answered finish)

  -- an answer to each of the first texts, where memory ran out
  pub some_asked : (result : Result (List Answer) ServerRefusal) → result ≡ Err server.Memory → at ≤ length texts
      → (finish : Finish) → AskTells (plan_over held texts columns finish) (server_state held old) (server_state now mid) honest result
  some_asked result is high finish =
      let Q : Result (List Answer) ServerRefusal → Type 0 = λ given. AskTells (plan_over held texts columns finish) (server_state held old) (server_state now mid) honest given in
      subst Q (sym is) (inr (record { answers = answers; there = omega (arith, so_far.as_many, high); holds = so_far.tables; answered = so_far.answered finish }))

  module _ (text : List ℕ) (types : List ColumnType) (below : at < length texts) (types_are : types ≡ get_or columns at types) (text_is : text ≡ get_or texts at text) where
    here : (P : ℕ → Type 0) → P at → P (length answers)
    here P p = subst P (sym so_far.as_many) p

    -- the next text may be asked
    pub may_ask : AsksFor now types text
    may_ask =
        let P : List Loaded → Type 0 = λ tables. AsksFor tables types text in
        subst P (sym so_far.tables) (asks_at held columns texts at types text each below types_are text_is)

    -- one answer more
    pub asked_more : (later : List Loaded) (new : Option Asks) (honest_later : Bool) (bound_later failures_later : ℕ) (answer : Answer) (more : List Answer)
        → later ≡ now → honest_later ≡ honest_now → bound_later ≡ bound_now → failures_later ≡ failures_now → is_some new ≡ is_some mid
        → AnswersText now types text mid new honest_now answer → more ≡ answers ++ answer ∷ []
        → IsAsking texts columns held later old new honest honest_later bound bound_later failures failures_later (at + 1) more
    asked_more later new honest_later bound_later failures_later answer more tables honesty bounded counted telling answered more_is =
        let P : List Loaded → Bool → Type 0 = λ tables h. AnswersText tables types text mid new h answer in
        let own : AnswersText held types text mid new honest answer = subst (λ t. P t honest) so_far.tables (subst (λ h. P now h) so_far.honesty answered) in
        let columned = both_length (AsksFor held) columns texts each in
        let Q : List Answer → Type 0 = λ all. (finish : Finish) → HasAnswered (plan_over held texts columns finish) old new honest all in
        record {
          tables = tables ∙ so_far.tables;
          honesty = honesty ∙ so_far.honesty;
          bounded = bounded ∙ so_far.bounded;
          counted = counted ∙ so_far.counted;
          telling = telling ∙ so_far.telling;
          as_many = ap length more_is ∙ length_push answers answer ∙ ap (λ (n : ℕ). n + 1) so_far.as_many;
          answered = subst Q (sym more_is) (λ finish.
              answered_more (plan_over held texts columns finish) old mid new honest answers text types
              (here (λ (k : ℕ). k < length texts) below) columned (here (λ (k : ℕ). text ≡ get_or texts k text) text_is) (here (λ (k : ℕ). types ≡ get_or columns k types) types_are)
              (so_far.answered finish) answer own);
        }

    -- why there is no further answer
    pub asked_in_vain : (later : List Loaded) (new : Option Asks) (r : ServerRefusal) (result : Result (List Answer) ServerRefusal) → result ≡ Err r → later ≡ now → TextRefused types text (at + 1) mid new honest_now r
        → (finish : Finish) → AskTells (plan_over held texts columns finish) (server_state held old) (server_state later new) honest result
    asked_in_vain later new r result is tables refused finish =
        let P : Bool → Type 0 = λ h. TextRefused types text (at + 1) mid new h r in
        let Q : Result (List Answer) ServerRefusal → Type 0 = λ given. AskTells (plan_over held texts columns finish) (server_state held old) (server_state later new) honest given in
        let columned = both_length (AsksFor held) columns texts each in
        subst Q (sym is) (answer_refused (plan_over held texts columns finish) old mid new honest answers text types
        (here (λ (k : ℕ). k < length texts) below) columned (here (λ (k : ℕ). text ≡ get_or texts k text) text_is) (here (λ (k : ℕ). types ≡ get_or columns k types) types_are)
        (so_far.answered finish) held later (at + 1) r (tables ∙ so_far.tables) (add-one at ∙ ap suc (sym so_far.as_many)) (subst P so_far.honesty refused))
