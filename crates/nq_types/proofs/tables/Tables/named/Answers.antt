use Rattle.std.proofs.Common.{sym, ◌∙◌}
use Rattle.nq_types.proofs.TableFacts.{found_there, found_nowhere}
use Rattle.nq_types.proofs.tables.Tables.named.Goals as goal

pub returns-in-Some : goal.returns-in-Some
returns-in-Some c =
    c.get-in-Some.ensures ∙ found_there c.args.name.now c.args.self.now.schema.now.tables c.in-Some.place.now (sym (c.args.self.now.indexed c.args.name.now) ∙ sym (c.in-Some.ensures.value))

pub returns-in-None : goal.returns-in-None
returns-in-None c =
    sym (found_nowhere 0 c.args.name.now c.args.self.now.schema.now.tables (sym (c.args.self.now.indexed c.args.name.now) ∙ sym (c.in-None.ensures.value)))
