use Rattle.std.proofs.Common.{◌≡◌, [], true, false, sym, ap, ◌∙◌}
use Rattle.nq_ir.specs.Trees.{base_tree}
use Rattle.nq_ir.specs.Printed.{level, named_base}
use Rattle.normal_printer.proofs.Chains.{level_chained}
use Rattle.normal_printer.proofs.levels.+base_level.Goals as goal

pub returns-else-is_empty : goal.returns-else-is_empty
returns-else-is_empty t c =
    let some : c.in-Chain.more ≡ [] → ⊥ = λ e. (let w : false ≡ true = c.if-is_empty.ensures.1 e in cc) in
    c.level_of-else-is_empty.ensures ∙ sym (ap (λ b. level (named_base (base_tree b))) c.in-Chain.is ∙ level_chained c.in-Chain.op c.in-Chain.first c.in-Chain.more some)
