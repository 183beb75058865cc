use Rattle.std.proofs.Common.{◌≡◌, false, List, [], ◌∷◌, ◌==◌, length, refl, sym, ◌∙◌}
use Rattle.nq_ir.specs.declared.base.Base.{Base}
use Rattle.nq_ir.specs.declared.base.Gen.{Gen}
use Rattle.nq_ir.specs.Trees.{conds_tree}
use Rattle.nq_ir.specs.Printed.{NamedTerm, level}
use Rattle.normal_printer.specs.Parts.{comp_term}
use Rattle.normal_printer.proofs.levels.comp_level.Goals.{else-is_empty-via-then-is_empty+else-is_empty-2, else-is_empty-via-else-is_empty}
use Rattle.normal_printer.proofs.levels.comp_level.Goals as goal

under_gens_weak : (gens : List Gen) (conds : List Base) (body : NamedTerm) → (length gens == 0) ≡ false → 1 ≡ level (comp_term gens (conds_tree conds) body)
under_gens_weak [] conds body e = absurd (cc)
under_gens_weak (g ∷ gens) conds body e = refl

under_conds_weak : (gens : List Gen) (conds : List Base) (body : NamedTerm) → (length conds == 0) ≡ false → 1 ≡ level (comp_term gens (conds_tree conds) body)
under_conds_weak gens [] body e = absurd (cc)
under_conds_weak [] (b ∷ bs) body e = refl
under_conds_weak (g ∷ gens) (b ∷ bs) body e = refl

pub returns-else-is_empty : goal.returns-else-is_empty
returns-else-is_empty c = λ body.
    elim c.else-is_empty.branch [
      | else-is_empty-via-then-is_empty+else-is_empty-2 w ↦ under_conds_weak c.args.gens.now c.args.conds.now body (sym w.is_empty-then-is_empty.ensures ∙ w.if-is_empty-2.false)
      | else-is_empty-via-else-is_empty w ↦ under_gens_weak c.args.gens.now c.args.conds.now body (sym c.is_empty.ensures ∙ w.if-is_empty.false)
    ]
