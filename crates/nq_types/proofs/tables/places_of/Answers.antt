use Rattle.std.proofs.Common.{rules, ◌≡◌, ◌-◌, arith, string_bytes}
use Rattle.std.proofs.lemmas.Map.Text.{btree_map_updates_text}
use Rattle.nq_types.proofs.TableFacts.{told_more}
use Rattle.nq_types.proofs.tables.places_of.Goals as goal

pub loop-place-preserved : goal.loop-place-preserved
loop-place-preserved c =
    let named : string_bytes c.in_ok-name.name ≡ c.index-shapes-place.result.name = search rules in (
      omega arith,
      λ name. told_more c.args.shapes.now (c.loop-place.place - 1) c.loop-place.place c.index-shapes-place.result name (string_bytes c.in_ok-name.name) _ _
          (omega arith) c.index-shapes-place.is (omega arith) named (c.loop-place.invariant.1 name)
          (btree_map_updates_text (string_bytes c.in_ok-name.name) c.loop-place.places c.insert.new.self _ c.in_ok-insert.ensures.updates name),
    )
