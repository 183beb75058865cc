use Rattle.std.proofs.Common.{◌∙◌, ap, sym}
use Rattle.sql_profile.specs.Scope.{found}
use Rattle.sql_scope.proofs.Lookups.{found_behind, found_first}
use Rattle.sql_scope.proofs.tables.Tables.find.Goals as goal

pub returns-in-Some : goal.returns-in-Some
returns-in-Some c =
    sym (found_first c.args.name.now c.self.inside.withs c.self.inside.tables c.in-Some.columns.now (sym c.in-Some.ensures))
    ∙ sym (c.self.invariant c.args.name.now) ∙ ap (found c.args.name.now) c.self.view_is

pub returns-in-None : goal.returns-in-None
returns-in-None c =
    c.get-in-None.ensures ∙ sym (found_behind c.args.name.now c.self.inside.withs c.self.inside.tables (sym c.in-None.ensures))
    ∙ sym (c.self.invariant c.args.name.now) ∙ ap (found c.args.name.now) c.self.view_is
