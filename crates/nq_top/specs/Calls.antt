-- What a call on words comes to.
use Rattle.std.specs.Prelude.{ℕ, List, String, map, string_bytes}
use Rattle.std.specs.declared.alloc.Global.{Global}
use Rattle.nq_top.specs.Headline.{LineageComes, NaturalComes, OfLineage, OfNatural, OfRun, OfShow}
use Rattle.nq_top.specs.Headline.{RunComes, ShowComes}
use Rattle.nq_top.specs.Theorem.{Runs, Ends}
use Rattle.nq_top.specs.World.{SinkState, World, command_in}

-- The whole promise of a call, by the world and the notes before it and after it and by its status.
pub record Comes (words : List (String Global)) (before after : World) (old new : SinkState)
    (status : ℕ) : Type 0 where
  -- The status and the note line are those of one answer, whose promise is that of a run.
  pub ends : Ends old new status (λ answer. Runs (command_in words) before after answer)
  -- The headline: what `run` and `run natural` come to in the words of the grammars, the typing
  -- rules, the tables and the meaning,
  pub runs : OfRun (map (λ word. string_bytes word) words) before.inputs.held
      (RunComes before after old new status)
  -- `lineage` and `lineage json`,
  pub traces : OfLineage (map (λ word. string_bytes word) words) before.inputs.held
      (LineageComes before after old new status)
  -- and `show` of SQL texts,
  pub shows : OfShow (map (λ word. string_bytes word) words) before.inputs.held
      (ShowComes before after old new status)
  -- and of those that name bags by keys.
  pub names : OfNatural (map (λ word. string_bytes word) words) before.inputs.held
      (NaturalComes before after old new status)
