use Rattle.std.proofs.Common.{◌≡◌, List, map, length, subst, false}
use Rattle.std.specs.Bool.{◌==◌}
use Rattle.nq_ir.specs.Lets.{let_tree}
use Rattle.nq_ir.specs.declared.lets.LetPart.{LetPart}
use Rattle.nq_ir.specs.WellFormed.{column_names}
use Rattle.flatten.proofs.Lists.{main_done}
use Rattle.flatten.proofs.text.main_selects.Goals as goal

pub returns : goal.returns
returns c =
    main_done (column_names c.args.schema.now.tables) c.args.columns.now (map let_tree c.args.lets.now) c.args.parts.now c.part_selects.result
    (λ e. (let w = subst (λ (z : List LetPart). false ≡ (length z == 0)) e c.if-is_empty.ensures in absurd (cc))) c.part_selects.ensures
