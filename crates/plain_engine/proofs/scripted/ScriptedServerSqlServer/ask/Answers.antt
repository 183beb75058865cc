use Rattle.std.proofs.Common.{◌≡◌, [], ◌∷◌, ◌++◌, rules, length, zip, ap, ◌∙◌, arith}
use Rattle.std.proofs.lemmas.Option.{slice_get_within}
use Rattle.std.proofs.lemmas.Grind.{common_steps}
use Rattle.plain_engine.proofs.Scripts.{one_more_ask, rose_once, script_ended}
use Rattle.plain_engine.proofs.scripted.ScriptedServerSqlServer.ask.Goals as goal

pub returns-in_default-clause-counts : goal.returns-in_default-clause-counts
returns-in_default-clause-counts c = rose_once _ c.args.self.now.failures c.saturating_add-self.result (omega arith) (omega arith) (search rules)

pub returns-in_default-clause-failed : goal.returns-in_default-clause-failed
returns-in_default-clause-failed c = script_ended c.args.self.now.script (length c.args.self.now.asked) (search rules)

pub invariant_of-self-2-clause-within : goal.invariant_of-self-2-clause-within
invariant_of-self-2-clause-within c =
    let less = slice_get_within c.args.self.now.script (length c.args.self.now.asked) c.in-Some.answer.now (search rules) in
    grind (arith, common_steps, less)

pub returns-clause-told : goal.returns-clause-told
returns-clause-told c =
    let pushed : c.push.new.self ≡ c.args.self.now.asked ++ c.args.text.now ∷ [] = search rules in
    ap (λ l. zip l c.args.self.now.script) pushed ∙ one_more_ask c.args.self.now.asked c.args.self.now.script c.args.text.now (record { rows = c.in_ok-rows.rows }) (search rules)
