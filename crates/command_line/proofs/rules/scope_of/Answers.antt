use Rattle.std.proofs.Common.{◌≡◌, ◌∙◌, None, Some, rules, sym}
use Rattle.diagnostics.specs.declared.rule_texts.Rule.TheVariants.{Scope}
use Rattle.generated_inputs.specs.Sizes.{size_of}
use Rattle.command_line.specs.Rules.{scope_rules}
use Rattle.command_line.proofs.NamedRules.{names_some, scope_at, scope_past}
use Rattle.command_line.proofs.rules.scope_of.Goals as goal

pub returns-in_err-rule : goal.returns-in_err-rule
returns-in_err-rule c =
    let none : c.from_residual-in_err-rule.result ≡ None = search rules in
    none
    ∙ sym (names_some scope_rules (size_of c.args.word.now) c.in_ok-number.number None
    (sym c.in_ok-number.ensures.size) (scope_past c.in_ok-number.number
    c.in_ok-number.ensures.sized.from c.in_err-rule.ensures))

pub returns : goal.returns
returns c =
    sym (names_some scope_rules (size_of c.args.word.now) c.in_ok-number.number
    (Some (Scope c.in_ok-rule.rule)) (sym c.in_ok-number.ensures.size)
    (scope_at c.in_ok-rule.rule c.in_ok-number.number c.in_ok-rule.ensures))
