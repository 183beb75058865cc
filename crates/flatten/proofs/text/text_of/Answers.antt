use Rattle.std.proofs.Common.{ap₂, ◌∙◌, List, map}
use Rattle.nq_ir.specs.declared.lets.LetPart.{LetPart}
use Rattle.nq_ir.specs.declared.lets.LetQuery.{LetQuery}
use Rattle.nq_ir.specs.Lets.{let_tree, part_tree}
use Rattle.nq_ir.specs.WellFormed.{column_names}
use Rattle.sql_profile.specs.Trees.{QueryTree, SqlTree, WithTree}
use Rattle.flatten.specs.Emitted.{main_query, withs_from}
use Rattle.flatten.proofs.Lists.{withs_seen}
use Rattle.flatten.proofs.text.text_of.Goals as goal

pub returns : goal.returns
returns c =
    let cols = column_names c.args.schema.now.tables in
    ap₂ {C = SqlTree} (λ (ws : List WithTree) (q : QueryTree). record { withs = ws; main = q }) (withs_seen c.in_ok-withs.withs ∙ c.in_ok-withs.ensures) (c.query.ensures ∙ c.in_ok-selects.ensures)
    ∙ ap₂ {C = SqlTree} (λ (ls : List LetQuery) (ps : List LetPart). record { withs = withs_from cols 1 (map let_tree ls); main = main_query cols c.args.columns.now (map let_tree ls) (map part_tree ps) }) c.as_slice-lets.ensures c.as_slice.ensures
