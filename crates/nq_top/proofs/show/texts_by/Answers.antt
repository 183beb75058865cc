use Rattle.std.proofs.Common.{ap, sym, ◌∙◌, length}
use Rattle.std.proofs.lemmas.List.{length-map}
use Rattle.nq_ir.specs.declared.path.Path.{Path}
use Rattle.nq_top.proofs.show.texts_by.Goals as goal

pub frames-requires : goal.frames-requires
frames-requires c =
    sym (length-map c.args.compiled.now.paths (λ (p : Path). p.steps)) ∙ ap length c.requires.paths ∙ sym c.requires.counted
