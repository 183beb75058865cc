use Rattle.std.proofs.Common.{◌≡◌, [], map, drop, refl, ◌∙◌, ap}
use Rattle.std.proofs.lemmas.List.{drop_all}
use Rattle.nq_model.specs.Machines.{Reached}
use Rattle.sql_profile.specs.Trees.{placed_with}
use Rattle.sql_reader.specs.Parts.{Base}
use Rattle.sql_reader.specs.Reading.{IsReady}
use Rattle.sql_reader.specs.Runs.{run}
use Rattle.sql_reader.specs.Stacks.{forms}
use Rattle.sql_reader.specs.States.{Forms, position_view}
use Rattle.sql_reader.specs.Steps.{On, start_state}
use Rattle.sql_reader.specs.Symbols.{token_view}
use Rattle.sql_reader.specs.Views.{base_view, selects_view}
use Rattle.sql_reader.specs.declared.lists.Selects.{Selects}
use Rattle.sql_reader.specs.declared.state.Position.{Position}
use Rattle.sql_reader.specs.declared.state.Position.TheVariants as positions
use Rattle.sql_reader.proofs.Putting.{query_tree}
use Rattle.sql_reader.proofs.Reaching.{ended_ready}
use Rattle.sql_reader.proofs.read.read.Goals as goal

-- no other position is the end of the text
ready_alone : (b : Base) (k : Forms) (at : Position) → IsReady (On b k (position_view at)) → ((q : Selects) → at ≡ positions.Ready q → ⊥) → ⊥
ready_alone b k (positions.Ready q) h none = none q refl
ready_alone b k at h none = absurd h

pub unreachable-requires : goal.unreachable-requires
unreachable-requires c =
    let ts = c.args.tokens.now in
    let state = On (base_view c.loop-token.base) (forms c.loop-token.stack.levels) (position_view c.loop-token.at) in
    let rest : drop c.loop-token.token-index ts ≡ [] = drop_all c.loop-token.token-index ts c.loop-token-test.false in
    let reached : run c.args.depth (map token_view ts) start_state ≡ Reached state =
    c.loop-token.invariant ∙ ap (λ xs. run c.args.depth (map token_view xs) state) rest in
    ready_alone (base_view c.loop-token.base) (forms c.loop-token.stack.levels) c.loop-token.at (ended_ready c.args.depth (map token_view ts) state c.requires reached) c.in_default.not-Ready

pub returns : goal.returns
returns c =
    let ts = c.args.tokens.now in
    let base = base_view c.loop-token.base in
    let around = forms c.loop-token.stack.levels in
    let state = On base around (position_view c.loop-token.at) in
    let rest : drop c.loop-token.token-index ts ≡ [] = drop_all c.loop-token.token-index ts c.loop-token-test.false in
    let reached : run c.args.depth (map token_view ts) start_state ≡ Reached state =
    c.loop-token.invariant ∙ ap (λ xs. run c.args.depth (map token_view xs) state) rest in (
      state,
      reached,
      (
        base,
        around,
        selects_view c.in-Ready.query,
        ap (λ at. On base around (position_view at)) c.in-Ready.is,
        ap (λ m. record { withs = map placed_with c.loop-token.base.withs; main = m }) (query_tree c.in-Ready.query.selects),
      ),
    )
