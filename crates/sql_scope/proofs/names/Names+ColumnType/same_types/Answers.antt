use Rattle.std.proofs.Common.{List, map, ◌∙◌, ap}
use Rattle.nq_model.specs.Tables.{types_of}
use Rattle.nq_model.specs.declared.table.ColumnType.{ColumnType}
use Rattle.sql_profile.specs.Scope.{same_types}
use Rattle.sql_scope.proofs.Naming.{types_read}
use Rattle.sql_scope.proofs.names.Names+ColumnType.same_types.Goals as goal

pub returns : goal.returns
returns c =
    c.same_types.ensures
    ∙ ap (λ (l : List ColumnType). same_types l (map (λ x. x.1) c.as_slice-2.result.now)) (types_read c.as_slice.result.now c.self.inside.listed c.args.self.now c.as_slice.ensures c.self.view_is)
    ∙ ap (λ (l : List ColumnType). same_types (types_of c.args.self.now) l) (types_read c.as_slice-2.result.now c.others.inside.listed c.args.others.now c.as_slice-2.ensures c.others.view_is)
