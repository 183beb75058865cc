use Rattle.std.proofs.Common.{◌∷◌, ◌++◌, ◌∙◌, ap, sym}
use Rattle.sql_profile.specs.Scope.{Shapes, found}
use Rattle.sql_scope.specs.Names.{before}
use Rattle.sql_scope.proofs.Lookups.{before_more, found_in_any_order}
use Rattle.sql_scope.proofs.tables.Tables.with.Goals as goal

pub invariant_of-result : goal.invariant_of-result
invariant_of-result c = λ n.
    ap (λ (l : Shapes). found n (before l c.self.inside.tables)) c.in_ok-with.ensures
    ∙ found_in_any_order n c.self.inside.withs (c.args.name.now, c.args.columns) c.self.inside.tables c.self.invariant (ap (found c.args.name.now) c.self.view_is ∙ c.requires)
    ∙ ap (λ (l : Shapes). found n (l ++ c.self.inside.tables)) (sym c.in_ok-with.ensures)

pub returns : goal.returns
returns c =
    ap (λ (l : Shapes). before l c.self.inside.tables) c.in_ok-with.ensures ∙ before_more c.self.inside.withs (c.args.name.now, c.args.columns) c.self.inside.tables
    ∙ ap (λ (l : Shapes). (c.args.name.now, c.args.columns) ∷ l) c.self.view_is
