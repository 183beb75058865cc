-- The promise of one run, whole.
use Rattle.std.specs.Prelude.{◌≡◌, ◌↔◌, ◌⊎◌, ◌==◌, ◌||◌, ℕ, Bool, true, ⊤, List, [], ◌++◌, All, get_or, MatchBool, Option, Some, None, slice_get, IfSome, Result, Ok, Err}
use Rattle.nq_model.specs.Cells.{RowFits}
use Rattle.nq_edge.specs.Edge.{Rose, TellsMore, AppendsPrefix}
use Rattle.sql_profile.specs.Servers.{Asks, RoseBelow}
use Rattle.sql_profile.specs.declared.answer.Answer.{Answer as Rows}
use Rattle.command_line.specs.Commands.{Command, asks_server}
use Rattle.command_line.specs.Noting.{Notes}
use Rattle.command_line.specs.Refusals.{status_of}
use Rattle.command_line.specs.declared.refusal.Refusal.{Refusal}
use Rattle.command_line.specs.declared.refusal.Refusal.TheVariants as refusal
use Rattle.nq_execute.specs.Plans.{Plan}
use Rattle.nq_execute.specs.Serving.{ServerState, RefusalServes}
use Rattle.nq_execute.specs.declared.refusal.ServerRefusal.{ServerRefusal}
use Rattle.nq_top.specs.Explaining.{Explains}
use Rattle.nq_top.specs.Foreign.{Stitches}
use Rattle.nq_top.specs.Gathering.{Judges, RefusalTells}
use Rattle.nq_top.specs.Judging.{Judgement, Verdict, usage, missing, refused, written, explained}
use Rattle.nq_top.specs.Judging.{shown, keyed, linked, planned, judgement, held_for}
use Rattle.nq_top.specs.Natural.{ShowsNatural}
use Rattle.nq_top.specs.Plans.{Question}
use Rattle.nq_top.specs.Reading.{Reading}
use Rattle.nq_top.specs.Serving.{StaysHonest, LeavesServer, ServesQuestion, ServesSome}
use Rattle.nq_top.specs.Shown.{Shows}
use Rattle.nq_top.specs.World.{SinkState, ServerSide, World}

-- nothing, or why not
abbrev pub Answer : Type 0
Answer = Result (Unit {0}) Refusal

-- 1. counts

-- the count rose where the status is this one, and else stayed
abbrev pub RoseAt : ℕ → ℕ → ℕ → ℕ → Type 0
RoseAt this before now status = MatchBool (status == this) (Rose before now) (now ≡ before)

-- and it was below its bound
abbrev pub RoseBelowAt : ℕ → ℕ → ℕ → ℕ → ℕ → Type 0
RoseBelowAt this bound before now status =
    MatchBool (status == this) (RoseBelow bound before now) (now ≡ before)

pub record Counts (before after : World) (status : ℕ) : Type 0 where
  pub inputs : RoseAt 7 before.inputs.faults after.inputs.faults status
  pub output : RoseAt 8 before.out.faults after.out.faults status
  pub server : RoseBelowAt 9 before.server.bound before.server.failures after.server.failures status

-- 2. what was put, what the server holds, and whom a status names

-- bytes are put at statuses 0 and 8 alone
abbrev pub PutsAt : Option (List ℕ) → Option (List ℕ) → ℕ → Type 0
PutsAt old new status = MatchBool ((status == 0) || (status == 8)) ⊤ (new ≡ old)

-- words that are no command, and a refusal of the inputs, leave the server as it was
abbrev pub Keeps : ServerState → ServerState → Answer → Type 0
Keeps old new (Ok _) = ⊤
Keeps old new (Err refusal.Usage) = new ≡ old
Keeps old new (Err (refusal.Input r)) = new ≡ old
Keeps old new (Err (refusal.Server r)) = ⊤
Keeps old new (Err refusal.OutputFailed) = ⊤

-- a server is named only where a command asks it
abbrev pub AskedAt : Bool → ℕ → Type 0
AskedAt asks status = MatchBool ((status == 9) || (status == 11)) (asks ≡ true) ⊤

-- 3. what an answer says of the inputs, of the server and of the output

-- the text that is written for a verdict: the inputs say it, or it explains why they are refused,
-- or the server serves it for their plan; SQL texts that are shown shred their query, or stitch to
-- it by keys, and linked answers stitch to what is written
abbrev pub Gives : ServerSide → ServerSide → Verdict → List ℕ → Type 0
Gives old new usage text = ⊥
Gives old new (missing name) text = ⊥
Gives old new (refused r) text = ⊥
Gives old new (written said) text = text ≡ said
Gives old new (explained what) text = Explains what text
Gives old new (shown showing texts) text = Shows showing text texts
Gives old new (keyed natural) text = ShowsNatural text natural
Gives old new (linked foreign) text = Stitches foreign text
Gives old new (planned plan question) text = ServesQuestion plan question old new text

-- the inputs are accepted or explained, all the names for it were fetched, and the text that they
-- give was put
pub record Writes (judgement : Judgement) (before after : World)
    (put : List ℕ → Type 0) : Type 0 where
  pub text : List ℕ
  pub gives : Gives before.server after.server judgement.verdict text
  pub fetched : TellsMore before.inputs.fetched after.inputs.fetched judgement.names
  pub puts : put text

-- the inputs come to the plan of a question, for which the server gives no text
pub record ServesNone (judgement : Judgement) (before after : World)
    (r : ServerRefusal) : Type 0 where
  pub plan : Plan
  pub question : Question
  pub judges : Judges judgement (planned plan question) before.inputs.fetched after.inputs.fetched
  pub serves : RefusalServes plan before.server.state after.server.state before.server.honest r

-- the whole text was put, or a prefix of it
abbrev pub PutsAll : World → World → List ℕ → Type 0
PutsAll before after text = TellsMore before.out.written after.out.written text

abbrev pub PutsPrefix : World → World → List ℕ → Type 0
PutsPrefix before after text = AppendsPrefix before.out.written after.out.written text

abbrev pub Tells : Judgement → World → World → Answer → Type 0
Tells judgement before after (Ok _) = Writes judgement before after (PutsAll before after)
Tells judgement before after (Err refusal.Usage) =
    Judges judgement usage before.inputs.fetched after.inputs.fetched
Tells judgement before after (Err (refusal.Input r)) =
    RefusalTells judgement before.inputs.fetched after.inputs.fetched r
Tells judgement before after (Err (refusal.Server r)) = ServesNone judgement before after r
Tells judgement before after (Err refusal.OutputFailed) =
    Writes judgement before after (PutsPrefix before after)

-- a server gave a text for some plan, and the text was put
pub record PutsServed (before after : World) (put : List ℕ → Type 0) : Type 0 where
  pub text : List ℕ
  pub serves : ServesSome before.server after.server (Ok text)
  pub puts : put text

-- what became of a server that was asked, whatever the inputs tell
abbrev pub Served : Bool → World → World → Answer → Type 0
Served asks before after (Ok _) = MatchBool asks (PutsServed before after (PutsAll before after)) ⊤
Served asks before after (Err refusal.Usage) = ⊤
Served asks before after (Err (refusal.Input r)) = ⊤
Served asks before after (Err (refusal.Server r)) = ServesSome before.server after.server (Err r)
Served asks before after (Err refusal.OutputFailed) =
    MatchBool asks (PutsServed before after (PutsPrefix before after)) ⊤

-- 4. completeness

abbrev pub IsDone : ℕ → Type 0
IsDone status = (status ≡ 0) ⊎ (status ≡ 1)

-- the inputs are accepted or explained, and where a server is asked it is fair to them
abbrev pub IsDue : (Plan → Type 0) → Verdict → Type 0
IsDue fair usage = ⊥
IsDue fair (missing name) = ⊥
IsDue fair (refused r) = ⊥
IsDue fair (written text) = ⊤
IsDue fair (explained what) = ⊤
IsDue fair (shown showing texts) = ⊤
IsDue fair (keyed natural) = ⊤
IsDue fair (linked foreign) = ⊤
IsDue fair (planned plan question) = fair plan

-- each answer that was told in a call fits the columns of its text
pub record ToldFit (plan : Plan) (old new : Option Asks) : Type 0 where
  pub before : Asks
  pub more : Asks
  pub was : old ≡ Some before
  pub is : new ≡ Some (before ++ more)
  pub fit : (place : ℕ) (ask : List ℕ × Rows) → slice_get more place ≡ Some ask
      → All (RowFits (get_or plan.columns place [])) ask.1.rows

-- a server that did not fail, and is honest or gave answers that fit
pub record Serves (old new : ServerSide) (plan : Plan) : Type 0 where
  pub not_failed : RoseBelow old.bound old.failures new.failures → ⊥
  pub fair : (old.honest ≡ true) ⊎ ToldFit plan old.state.asks new.state.asks

-- a call on the inputs or on the output failed
abbrev pub HasFailed : World → World → Type 0
HasFailed before after =
    Rose before.inputs.faults after.inputs.faults ⊎ Rose before.out.faults after.out.faults

abbrev pub Completes : Judgement → World → World → ℕ → Type 0
Completes judgement before after status =
    (HasFailed before after → ⊥) → IsDue (Serves before.server after.server) judgement.verdict
    → IsDone status

-- 5. the promise

-- What a run of a command, or of words that are none, does to what stands outside, and what its
-- answer says.
pub record Runs (command : Option Command) (before after : World) (answer : Answer) : Type 0 where
  -- A count of failed calls rose, or stands at its last value, exactly where the status blames it:
  -- that of the inputs at 7, of the output at 8, of the server at 9. The server's was then below
  -- its bound.
  pub counts : Counts before after (status_of answer)
  -- The status is 2 exactly where the words are no command.
  pub usage : (status_of answer ≡ 2) ↔ (command ≡ None)
  -- Nothing was put but at 0 and 8.
  pub puts : PutsAt before.out.written after.out.written (status_of answer)
  -- A refusal before the server is called leaves it as it was,
  pub keeps : Keeps before.server.state after.server.state answer
  -- and so does a command that asks none, at every status.
  pub leaves : LeavesServer (asks_server command) before.server after.server
  -- Its honesty, the bound of its faults, and whether it tells its asks never change.
  pub constants : StaysHonest before.server after.server
  -- 9 and 11 come only of a command that asks it, and 11 of no honest server.
  pub asked : AskedAt (asks_server command) (status_of answer)
  pub blames : status_of answer ≡ 11 → before.server.honest ≡ true → ⊥
  -- Whatever the inputs tell: a server that is asked was given some plan, and at 9 and 11, and of
  -- the text that was put, this is what it did for it.
  pub served : Served (asks_server command) before after answer
  -- Where the inputs that the command reads are told, the answer is the one that they come to: at 0
  -- the text that they say was put; or, for a command that asks a server, the text of its answers
  -- to their plan, and of an honest server's the canonical text of what the query means.
  pub comes : IfSome (held_for command before.inputs.held) (λ files. (reading : Reading)
      → Tells (judgement reading command files) before after answer)
  -- Only a failed call, an unfair server and want of memory keep inputs that are accepted or
  -- explained from 0.
  pub completes : IfSome (held_for command before.inputs.held) (λ files. (reading : Reading)
      → Completes (judgement reading command files) before after (status_of answer))

-- The status and the note line are those of one answer, of which this holds.
pub record Ends (old new : SinkState) (status : ℕ) (Holds : Answer → Type 0) : Type 0 where
  pub answer : Answer
  pub is : status ≡ status_of answer
  pub notes : Notes old.written new.written old.faults new.faults answer
  pub runs : Holds answer
