-- The words that name a rule.
use Rattle.std.specs.Prelude.{ℕ, ◌-◌, List, [], ◌∷◌, slice_get, Option, Some, None}
use Rattle.diagnostics.specs.declared.rule_texts.Rule.{Rule}
use Rattle.diagnostics.specs.declared.rule_texts.Rule.TheVariants.{Typing, Scope}
use Rattle.diagnostics.specs.declared.scope_rules.ScopeRule.TheVariants as scope
use Rattle.diagnostics.specs.declared.typing_rules.TypingRule.TheVariants as typing
use Rattle.generated_inputs.specs.Sizes.{size_of}

-- the rules in the order of their numbers, which begin with 1
unfoldable pub typing_rules : List Rule
typing_rules =
    Typing typing.Variable ∷ Typing typing.Number ∷ Typing typing.Truth ∷
    Typing typing.Literal ∷ Typing typing.Table ∷ Typing typing.Minus ∷ Typing typing.Not ∷
    Typing typing.Arithmetic ∷ Typing typing.Comparison ∷ Typing typing.Connective ∷
    Typing typing.Choice ∷
    Typing typing.Function ∷ Typing typing.Application ∷ Typing typing.Record ∷
    Typing typing.Field ∷ Typing typing.Emptiness ∷ Typing typing.Single ∷
    Typing typing.EmptyBag ∷ Typing typing.Union ∷ Typing typing.Comprehension ∷
    Typing typing.Guard ∷ Typing typing.Let ∷ Typing typing.Whole ∷ Typing typing.Count ∷
    Typing typing.Sum ∷ []

unfoldable pub scope_rules : List Rule
scope_rules =
    Scope scope.Source ∷ Scope scope.Aliases ∷ Scope scope.Alias ∷ Scope scope.Column ∷
    Scope scope.Operands ∷ Scope scope.Conditions ∷ Scope scope.ItemNames ∷
    Scope scope.Parts ∷ Scope scope.WithNames ∷ Scope scope.Summed ∷ []

-- the rule with a number
abbrev pub rule_in : List Rule → Option ℕ → Option Rule
rule_in rules None = None
rule_in rules (Some number) = slice_get rules (number - 1)

-- the typing rule, and the rule of SQL texts, whose number the word is
abbrev pub typing_of : List ℕ → Option Rule
typing_of word = rule_in typing_rules (size_of word)

abbrev pub scope_of : List ℕ → Option Rule
scope_of word = rule_in scope_rules (size_of word)
