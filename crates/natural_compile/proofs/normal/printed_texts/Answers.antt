use Rattle.std.proofs.Common.{◌≡◌, ◌<◌, length, get_or, rules}
use Rattle.sql_profile.specs.Trees.{sql_tree}
use Rattle.natural_compile.proofs.Printing.{printed_all, printed_more, spellable_at, spelled_all}
use Rattle.natural_compile.proofs.Printing.{spelled_more, spells_tree}
use Rattle.natural_compile.proofs.normal.printed_texts.Goals as goal

pub loop-text-preserved : goal.loop-text-preserved
loop-text-preserved c =
    let texts = c.args.texts.now in
    let k = c.loop-text.text-index in
    let text = c.text-item.result in
    let below : k < length texts = search rules in
    let here : text ≡ get_or texts k text = c.text-item.is in
    let own = spellable_at texts k text below here c.requires in (
      printed_more texts k text below here c.loop-text.all c.push.new.self c.in_ok-print.field-0
          c.loop-text.invariant.0 c.in_ok-print.ensures.is c.in_ok-push.ensures.ok,
      spelled_more texts k text below here c.loop-text.invariant.1
          (spells_tree (sql_tree text) c.in_ok-print.field-0 c.in_ok-print.ensures.is
          (c.in_ok-print.ensures.spells own)),
    )

pub returns-clause-are : goal.returns-clause-are
returns-clause-are c =
    printed_all c.args.texts.now c.loop-text.text-index c.loop-text.all (search rules)
    c.loop-text.invariant.0

pub returns-clause-spell : goal.returns-clause-spell
returns-clause-spell c =
    spelled_all c.args.texts.now c.loop-text.text-index (search rules) c.loop-text.invariant.1
