-- How the judgement of the inputs follows from one step of reading after the other.
use Rattle.std.proofs.Common.{◌≡◌, ◌≤◌, ℕ, Bool, true, false, List, [], ◌∷◌, ◌++◌, length, Some, None, Option, Result, Ok, Err, arith, refl, sym, ap, subst, ◌∙◌, nat_lt, cond, append_assoc, append-nil, IfSome}
use Rattle.std.specs.Option.{option_map}
use Rattle.nq_edge.specs.Edge.{Files, bytes_at, IsLonger, TellsMore}
use Rattle.command_line.specs.Commands.{Command}
use Rattle.command_line.specs.declared.refusal.Refused.{Refused}
use Rattle.command_line.specs.declared.refusal.Refused.TheVariants.{TooLong}
use Rattle.command_line.specs.declared.refusal.InputRefusal.{InputRefusal}
use Rattle.command_line.specs.declared.refusal.InputRefusal.TheVariants as input
use Rattle.nq_top.specs.Gathering.{Told, RefusalTells}
use Rattle.nq_top.specs.Judging.{Judgement, Verdict, refused, written, after, at_once, judged, fetched_then, read_then, text_then, judgement, held_for}
use Rattle.nq_top.specs.Limits.{text_limit}
use Rattle.nq_top.specs.Reading.{Reading}
use Rattle.nq_top.specs.Steps.{InputCounts, Leads, StepTells, ComesTo, GatherTells, FetchedWithin, FetchRefused, FetchNames, Refuses, ReadSays}
use Rattle.nq_top.specs.declared.gather.Gathered.{Gathered}
use Rattle.nq_top.specs.declared.gather.Gathered.TheVariants as gathered

-- 1. names

-- what is told grows by one list and then by another
pub tells_then : {A : Type 0} (a b c : Option (List A)) (xs ys : List A) → TellsMore a b xs → TellsMore b c ys → TellsMore a c (xs ++ ys)
tells_then None b c xs ys p q = record { told = q.told ∙ ap (option_map (λ (all : List _). all ++ ys)) p.told }
tells_then (Some a) b c xs ys p q =
    record { told = q.told ∙ ap (option_map (λ (all : List _). all ++ ys)) p.told ∙ ap (λ (all : List _). Some all) (append_assoc a xs ys) }

-- nothing more is told
pub tells_nothing : {A : Type 0} (a b : Option (List A)) → b ≡ a → TellsMore a b []
tells_nothing None b same = record { told = same }
tells_nothing (Some a) b same = record { told = same ∙ ap (λ (all : List _). Some all) (sym (append-nil a)) }

-- 2. what is told of the rest is told of the whole

pub refusal_through : (whole rest : Judgement) (old mid new : Told) (r : InputRefusal) → Leads whole rest old mid
    → RefusalTells rest mid new r → RefusalTells whole old new r
refusal_through whole rest old mid new input.Memory leads tells = record {
  front = leads.front ++ tells.front;
  back = tells.back;
  all = leads.names ∙ ap (λ (ns : List (List ℕ)). leads.front ++ ns) tells.all ∙ sym (append_assoc leads.front tells.front tells.back);
  fetched = tells_then old mid new leads.front tells.front leads.fetched tells.fetched;
}
refusal_through whole rest old mid new (input.Refused r) leads tells = record {
  comes_to = leads.verdict ∙ tells.comes_to;
  fetched = let P : List (List ℕ) → Type 0 = λ ns. TellsMore old new ns in
      subst P (sym leads.names) (tells_then old mid new leads.front rest.names leads.fetched tells.fetched);
}
refusal_through whole rest old mid new (input.Failed name) leads tells = record {
  front = leads.front ++ tells.front;
  back = tells.back;
  all = leads.names ∙ ap (λ (ns : List (List ℕ)). leads.front ++ ns) tells.all ∙ sym (append_assoc leads.front tells.front (name ∷ tells.back));
  fetched = let P : List (List ℕ) → Type 0 = λ ns. TellsMore old new ns in
      subst P (sym (append_assoc leads.front tells.front (name ∷ [])))
      (tells_then old mid new leads.front (tells.front ++ name ∷ []) leads.fetched tells.fetched);
}

pub gather_through : (whole rest : Judgement) (old mid new : Told) (result : Result Gathered InputRefusal) → Leads whole rest old mid
    → GatherTells rest mid new result → GatherTells whole old new result
gather_through whole rest old mid new (Ok gathered) leads tells =
    let C : Verdict → Type 0 = λ v. ComesTo v gathered in
    let P : List (List ℕ) → Type 0 = λ ns. TellsMore old new ns in
    record {
      comes_to = subst C (sym leads.verdict) tells.comes_to;
      fetched = subst P (sym leads.names) (tells_then old mid new leads.front rest.names leads.fetched tells.fetched);
    }
gather_through whole rest old mid new (Err r) leads tells = refusal_through whole rest old mid new r leads tells

-- a fetch leads to what is judged of its bytes
pub leads_after : (name : List ℕ) (later : Judgement) (old mid : Told) → TellsMore old mid (name ∷ []) → Leads (after name later) later old mid
leads_after name later old mid told = record { front = name ∷ []; names = refl; verdict = refl; fetched = told }

-- 3. one fetch

within_limit : (b : Bool) (x y : Judgement) → b ≡ false → cond b x y ≡ y
within_limit true x y e = absurd (cc)
within_limit false x y e = refl

not_above : (m n : ℕ) → n ≤ m → nat_lt m n ≡ false
not_above m n h = grind (arith, h)

-- an input within its limit is judged by what comes next
pub fetch_next : (files : Files) (name : List ℕ) (limit : ℕ) (next : List ℕ → Judgement) (bytes : List ℕ)
    → FetchedWithin (bytes_at files name) limit bytes → fetched_then files name limit next ≡ after name (next bytes)
unfolding fetched_then
fetch_next files name limit next bytes h =
    rw h.is (ap (after name) (within_limit (nat_lt limit (length bytes)) (at_once (refused (TooLong name limit))) (next bytes) (not_above limit (length bytes) h.within)))

over_limit : (held : Option (List ℕ)) (name : List ℕ) (limit : ℕ) (next : List ℕ → Judgement)
    → IsLonger limit held → judged name limit next held ≡ after name (at_once (refused (TooLong name limit)))
over_limit None name limit next long = absurd long
over_limit (Some bytes) name limit next long =
    let longer : nat_lt limit (length bytes) ≡ true = grind (arith, long) in
    rw longer refl

-- the first name of what is judged is that of the input
judged_names : (held : Option (List ℕ)) (name : List ℕ) (limit : ℕ) (next : List ℕ → Judgement)
    → (back : List (List ℕ)) × ((judged name limit next held).names ≡ name ∷ back)
judged_names None name limit next = ([], refl)
judged_names (Some bytes) name limit next = ((cond (nat_lt limit (length bytes)) (at_once (refused (TooLong name limit))) (next bytes)).names, refl)

-- a refused fetch is a refusal of the whole
pub fetch_refused : (files : Files) (name : List ℕ) (limit : ℕ) (next : List ℕ → Judgement) (old new : Told) (r : InputRefusal)
    → FetchRefused (bytes_at files name) name limit r → FetchNames {T = List ℕ} name old new (Err r)
    → RefusalTells (fetched_then files name limit next) old new r
unfolding fetched_then
fetch_refused files name limit next old new input.Memory says fetched =
    record { front = []; back = (judged name limit next (bytes_at files name)).names; all = refl; fetched = tells_nothing old new fetched }
fetch_refused files name limit next old new (input.Refused r) says fetched =
    let is = over_limit (bytes_at files name) name limit next says.1 in
    record { comes_to = ap (λ (j : Judgement). j.verdict) is ∙ ap refused (sym says.0); fetched = rw is fetched }
fetch_refused files name limit next old new (input.Failed failed) says fetched =
    let names = judged_names (bytes_at files name) name limit next in
    let P : List ℕ → Type 0 = λ n. TellsMore old new (n ∷ []) in
    record { front = []; back = names.0; all = names.1 ∙ ap (λ (n : List ℕ). n ∷ names.0) (sym says); fetched = subst P (sym says) fetched }

-- 4. one text

-- what was read is judged on
pub read_next : {A : Type 0} (given : Result A Refused) (a : A) (next : A → Judgement) → given ≡ Ok a → read_then given next ≡ next a
read_next given a next e = ap (λ (r : Result _ Refused). read_then r next) e

-- what a text is refused for is a refusal of the whole
pub read_refused : {A : Type 0} (given : Result A Refused) (next : A → Judgement) (old new : Told) (r : InputRefusal)
    → Refuses given r → new ≡ old → RefusalTells (read_then given next) old new r
read_refused given next old new input.Memory refuses same =
    record { front = []; back = (read_then given next).names; all = refl; fetched = tells_nothing old new same }
read_refused given next old new (input.Refused r) refuses same =
    let is : read_then given next ≡ at_once (refused r) = ap (λ (x : Result _ Refused). read_then x next) refuses in
    record { comes_to = ap (λ (j : Judgement). j.verdict) is; fetched = rw is (tells_nothing old new same) }
read_refused given next old new (input.Failed failed) refuses same = absurd refuses

-- Reading a text fails no call.
pub text_counts : {A B : Type 0} (before now : ℕ) (view : B → A) (given : Result A Refused) (result : Result B InputRefusal) → now ≡ before → ReadSays view given result → InputCounts before now result
text_counts before now view given (Ok b) same says = same
text_counts before now view given (Err input.Memory) same says = same
text_counts before now view given (Err (input.Refused r)) same says = same
text_counts before now view given (Err (input.Failed name)) same says = absurd says

-- An input that was fetched and read leads to what comes next, or is refused.
pub reading_leads : {A B : Type 0} (held : Option Files) (name text bytes : List ℕ) (view : B → A) (read : Reading → List ℕ → Result A Refused)
    → (old mid : Told) (result : Result B InputRefusal)
    → bytes ≡ text → IfSome held (λ files. FetchedWithin (bytes_at files name) text_limit text) → TellsMore old mid (name ∷ [])
    → ((reading : Reading) → ReadSays view (read reading bytes) result)
    → IfSome held (λ files. (reading : Reading) (next : A → Judgement) → StepTells (text_then files name (read reading) next) (λ b. next (view b)) old mid result)
reading_leads None name text bytes view read old mid result same within told says = tt
reading_leads (Some files) name text bytes view read old mid (Ok b) same within told says = λ reading next.
    let body : List ℕ → Judgement = λ given. read_then (read reading given) next in
    let said : read reading text ≡ Ok (view b) = ap (read reading) (sym same) ∙ says reading in
    let whole = fetch_next files name text_limit body text within ∙ ap (after name) (read_next (read reading text) (view b) next said) in
    let P : Judgement → Type 0 = λ j. Leads j (next (view b)) old mid in
    subst P (sym whole) (leads_after name (next (view b)) old mid told)
reading_leads (Some files) name text bytes view read old mid (Err r) same within told says = λ reading next.
    let body : List ℕ → Judgement = λ given. read_then (read reading given) next in
    let Q : List ℕ → Type 0 = λ given. Refuses (read reading given) r in
    let stops = read_refused (read reading text) next mid mid r (subst Q same (says reading)) refl in
    let P : Judgement → Type 0 = λ j. RefusalTells j old mid r in
    subst P (sym (fetch_next files name text_limit body text within))
    (refusal_through (after name (body text)) (body text) old mid mid r (leads_after name (body text) old mid told) stops)

-- 5. chains

-- A step that was refused refuses the whole.
pub step_stops : {A B : Type 0} (held : Option Files) (view : B → A) (whole : Reading → Files → (A → Judgement) → Judgement) (next : Reading → Files → A → Judgement)
    → (old mid : Told) (r : InputRefusal) (result : Result Gathered InputRefusal) → result ≡ Err r
    → IfSome held (λ files. (reading : Reading) (later : A → Judgement) → StepTells (whole reading files later) (λ (b : B). later (view b)) old mid (Err r))
    → IfSome held (λ files. (reading : Reading) → GatherTells (whole reading files (next reading files)) old mid result)
step_stops None view whole next old mid r result is tells = tt
step_stops (Some files) view whole next old mid r result is tells = λ reading.
    let P : Result Gathered InputRefusal → Type 0 = λ g. GatherTells (whole reading files (next reading files)) old mid g in
    subst P (sym is) (tells reading (next reading files))

-- A step that was not leaves the rest.
pub step_goes : {A B : Type 0} (held mid_held : Option Files) (view : B → A) (whole : Reading → Files → (A → Judgement) → Judgement) (next : Reading → Files → A → Judgement)
    → (old mid new : Told) (b : B) (result : Result Gathered InputRefusal) → mid_held ≡ held
    → IfSome held (λ files. (reading : Reading) (later : A → Judgement) → StepTells (whole reading files later) (λ (b : B). later (view b)) old mid (Ok b))
    → IfSome mid_held (λ files. (reading : Reading) → GatherTells (next reading files (view b)) mid new result)
    → IfSome held (λ files. (reading : Reading) → GatherTells (whole reading files (next reading files)) old new result)
step_goes None mid_held view whole next old mid new b result same tells later = tt
step_goes (Some files) mid_held view whole next old mid new b result same tells later = λ reading.
    let H : Option Files → Type 0 = λ held. IfSome held (λ fs. (r : Reading) → GatherTells (next r fs (view b)) mid new result) in
    gather_through (whole reading files (next reading files)) (next reading files (view b)) old mid new result
    (tells reading (next reading files)) (subst H same later reading)

-- want of memory between two fetches
pub memory_stops : (held : Option Files) (whole : Reading → Files → Judgement) (old : Told) (result : Result Gathered InputRefusal) → result ≡ Err input.Memory
    → IfSome held (λ files. (reading : Reading) → GatherTells (whole reading files) old old result)
memory_stops None whole old result is = tt
memory_stops (Some files) whole old result is = λ reading.
    let P : Result Gathered InputRefusal → Type 0 = λ g. GatherTells (whole reading files) old old g in
    subst P (sym is) (record { front = []; back = (whole reading files).names; all = refl; fetched = tells_nothing old old refl })

-- a text that is written at once
pub text_told : (held : Option Files) (said text : List ℕ) (old : Told) (result : Result Gathered InputRefusal) → result ≡ Ok (gathered.Text text) → text ≡ said
    → IfSome held (λ files. (reading : Reading) → GatherTells (at_once (written said)) old old result)
text_told None said text old result is same = tt
text_told (Some files) said text old result is same = λ reading.
    let P : Result Gathered InputRefusal → Type 0 = λ g. GatherTells (at_once (written said)) old old g in
    subst P (sym is) (record { comes_to = same; fetched = tells_nothing old old refl })

-- what is told of a command is told of the words that are it
pub at_command : (command given : Command) (held : Option Files) (old new : Told) (result : Result Gathered InputRefusal) → command ≡ given
    → IfSome (held_for (Some given) held) (λ files. (reading : Reading) → GatherTells (judgement reading (Some given) files) old new result)
    → IfSome (held_for (Some command) held) (λ files. (reading : Reading) → GatherTells (judgement reading (Some command) files) old new result)
at_command command given held old new result is tells =
    let P : Command → Type 0 = λ c. IfSome (held_for (Some c) held) (λ files. (reading : Reading) → GatherTells (judgement reading (Some c) files) old new result) in
    subst P (sym is) tells

pub ruleset fetch_rules = (fetch_next, fetch_refused, tells_nothing)
