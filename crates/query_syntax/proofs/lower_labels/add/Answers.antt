use Rattle.std.proofs.Common.{rules, ◌≡◌, string_bytes, true}
use Rattle.std.proofs.lemmas.Map.Text.{btree_set_updates_text}
use Rattle.query_syntax.proofs.LoweringNames.{one_more_name}
use Rattle.query_syntax.proofs.lower_labels.add.Goals as goal

pub returns-clause-tells : goal.returns-clause-tells
returns-clause-tells c = λ names told x.
    let named : string_bytes c.in_ok-name.name ≡ c.args.label.now = search rules in
    one_more_name c.args.label.now x names _ _
    (rw named at (btree_set_updates_text (string_bytes c.in_ok-name.name) c.args.labels.now c.insert.new.self true c.in_ok-insert.ensures.updates x)) (told x)
