use Rattle.std.proofs.Common.{◌≡◌, ◌++◌, ◌∷◌, ◌+◌, ◌<◌, List, drop, get_or, length, ap, sym, ◌∙◌, rules}
use Rattle.std.proofs.lemmas.List.{drop_more}
use Rattle.nq_model.specs.Types.{type_tree}
use Rattle.nq_ir.specs.declared.path.Path.{Path}
use Rattle.shred_types.specs.Under.{steps_of}
use Rattle.command_line.specs.Paths.{path_line, path_lines}
use Rattle.command_line.proofs.Appended.{put_one}
use Rattle.command_line.proofs.paths.put_lines.Goals as goal

pub loop-at-preserved : goal.loop-at-preserved
loop-at-preserved c =
    let ps : List Path = c.args.paths.now in
    let item : Path = c.index-as_slice-at.result in
    let within : c.loop-at.at < length ps = search rules in
    let here : get_or ps c.loop-at.at item ≡ item = search rules in
    let rest : List Path = drop (c.loop-at.at + 1) ps in
    let split : drop c.loop-at.at ps ≡ item ∷ rest = drop_more ps c.loop-at.at item within ∙ ap (λ (p : Path). p ∷ rest) here in
    put_one c.loop-at.text c.put_line.new.text (path_line (type_tree c.args.of.now) item.steps) (path_lines (type_tree c.args.of.now) (steps_of rest)) _
    c.in_ok-put_line.ensures (sym (ap (λ (l : List Path). c.loop-at.text ++ path_lines (type_tree c.args.of.now) (steps_of l)) split) ∙ c.loop-at.invariant)
