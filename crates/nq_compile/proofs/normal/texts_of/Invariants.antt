use Rattle.std.proofs.Common.{◌≡◌, All, map, take}
use Rattle.nq_ir.specs.Shredded.{shredded_tree}
use Rattle.nq_compile.specs.Texts.{text_of, SpellsItself}
use Rattle.nq_compile.proofs.normal.texts_of.Given as goal

abbrev pub invariant-loop-at : goal.invariant-loop-at
invariant-loop-at l =
    (l.texts ≡ map (λ form. text_of l.schema (shredded_tree form)) (take l.at l.forms)) × All (λ form. SpellsItself l.schema (shredded_tree form)) (take l.at l.forms)
