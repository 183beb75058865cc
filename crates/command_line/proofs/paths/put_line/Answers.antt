use Rattle.std.proofs.Common.{◌≡◌, ◌++◌, ◌∷◌, [], ap, ◌∙◌, codes}
use Rattle.nq_model.specs.Types.{type_tree}
use Rattle.nq_ir.specs.Paths.{element_at}
use Rattle.shred_types.specs.Columns.{element_columns}
use Rattle.command_line.specs.Paths.{path_text, columns_text}
use Rattle.command_line.proofs.Appended.{put_four}
use Rattle.command_line.proofs.paths.put_line.Goals as goal

pub returns : goal.returns
returns c =
    let put : c.put_path.new.text ≡ c.args.text.now ++ path_text c.args.path.now.steps =
    c.in_ok-put_path.ensures ∙ ap (λ steps. c.args.text.now ++ path_text steps) c.as_slice.ensures in
    put_four c.put_path.new.text c.extend_from_slice.new.self c.put_element.new.text c.push.new.self c.args.text.now
    (path_text c.args.path.now.steps) (codes ": int int |") (columns_text (element_columns (element_at (type_tree c.args.of.now) c.args.path.now.steps))) (10 ∷ [])
    put c.in_ok-extend_from_slice.ensures.ok c.in_ok-put_element.ensures c.in_ok-push.ensures.ok
