-- The rules stand at their numbers.
use Rattle.std.proofs.Common.{◌≡◌, ◌≤◌, ◌-◌, ℕ, List, Option, Some, None}
use Rattle.std.proofs.Common.{arith, refl, sym, subst, ap}
use Rattle.std.proofs.lemmas.Option.{slice_get_past}
use Rattle.std.specs.Prelude.{slice_get}
use Rattle.diagnostics.specs.ScopeRules.{scope_number}
use Rattle.diagnostics.specs.TypingRules.{typing_number}
use Rattle.diagnostics.specs.declared.rule_texts.Rule.{Rule}
use Rattle.diagnostics.specs.declared.rule_texts.Rule.TheVariants.{Typing, Scope}
use Rattle.diagnostics.specs.declared.scope_rules.ScopeRule.{ScopeRule}
use Rattle.diagnostics.specs.declared.scope_rules.ScopeRule.TheVariants as scope
use Rattle.diagnostics.specs.declared.typing_rules.TypingRule.{TypingRule}
use Rattle.diagnostics.specs.declared.typing_rules.TypingRule.TheVariants as typing
use Rattle.command_line.specs.Rules.{rule_in, scope_rules, typing_rules}

typing_own : (rule : TypingRule)
    → slice_get typing_rules (typing_number rule - 1) ≡ Some (Typing rule)
unfolding typing_rules
typing_own typing.Variable = refl
typing_own typing.Number = refl
typing_own typing.Truth = refl
typing_own typing.Literal = refl
typing_own typing.Table = refl
typing_own typing.Minus = refl
typing_own typing.Not = refl
typing_own typing.Arithmetic = refl
typing_own typing.Comparison = refl
typing_own typing.Connective = refl
typing_own typing.Choice = refl
typing_own typing.Function = refl
typing_own typing.Application = refl
typing_own typing.Record = refl
typing_own typing.Field = refl
typing_own typing.Emptiness = refl
typing_own typing.Single = refl
typing_own typing.EmptyBag = refl
typing_own typing.Union = refl
typing_own typing.Comprehension = refl
typing_own typing.Guard = refl
typing_own typing.Let = refl
typing_own typing.Whole = refl
typing_own typing.Count = refl
typing_own typing.Sum = refl

scope_own : (rule : ScopeRule)
    → slice_get scope_rules (scope_number rule - 1) ≡ Some (Scope rule)
unfolding scope_rules
scope_own scope.Source = refl
scope_own scope.Aliases = refl
scope_own scope.Alias = refl
scope_own scope.Column = refl
scope_own scope.Operands = refl
scope_own scope.Conditions = refl
scope_own scope.ItemNames = refl
scope_own scope.Parts = refl
scope_own scope.WithNames = refl
scope_own scope.Summed = refl

-- a number that a rule has is that of this rule
pub typing_at : (rule : TypingRule) (number : ℕ) → typing_number rule ≡ number
    → rule_in typing_rules (Some number) ≡ Some (Typing rule)
typing_at rule number is =
    subst (λ n. slice_get typing_rules (n - 1) ≡ Some (Typing rule)) is (typing_own rule)

pub scope_at : (rule : ScopeRule) (number : ℕ) → scope_number rule ≡ number
    → rule_in scope_rules (Some number) ≡ Some (Scope rule)
scope_at rule number is =
    subst (λ n. slice_get scope_rules (n - 1) ≡ Some (Scope rule)) is (scope_own rule)

-- beyond the last there is none
pub typing_past : (number : ℕ) → 1 ≤ number → (1 ≤ number → 26 ≤ number)
    → rule_in typing_rules (Some number) ≡ None
unfolding typing_rules
typing_past number from past =
    let above = past from in slice_get_past typing_rules (number - 1) (omega (arith, above))

pub scope_past : (number : ℕ) → 1 ≤ number → (1 ≤ number → 11 ≤ number)
    → rule_in scope_rules (Some number) ≡ None
unfolding scope_rules
scope_past number from past =
    let above = past from in slice_get_past scope_rules (number - 1) (omega (arith, above))

-- a word names the rule of its number
pub names_some : (rules : List Rule) (number : Option ℕ) (n : ℕ) (found : Option Rule)
    → number ≡ Some n → rule_in rules (Some n) ≡ found → rule_in rules number ≡ found
names_some rules number n found is at =
    subst (λ r. r ≡ found) (ap (rule_in rules) (sym is)) at
