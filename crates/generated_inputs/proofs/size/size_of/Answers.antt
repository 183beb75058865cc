use Rattle.std.proofs.Common.{◌≡◌, ◌∙◌, ap, sym, ◌≤◌, rules, ℕ, List, ◌∷◌, false, true, nat_eq, length}
use Rattle.std.specs.List.{prefix_len}
use Rattle.nq_model.specs.QueryTokens.{is_digit, value_from}
use Rattle.generated_inputs.proofs.Sizes.{no_word, zero_first, within}
use Rattle.generated_inputs.proofs.size.size_of.Goals as goal

pub returns-in_default-clause-size : goal.returns-in_default-clause-size
returns-in_default-clause-size c = no_word c.args.word.now (ap (λ (l : List ℕ). length l) (sym c.as_bytes-digits.ensures.value) ∙ c.in_default.ensures.cases)

pub returns-then-first-eq48-clause-size : goal.returns-then-first-eq48-clause-size
returns-then-first-eq48-clause-size c =
    let is : c.args.word.now ≡ c.in-Some.first.now ∷ c.in-Some.field-0-1.now = search rules in
    let zero : nat_eq c.in-Some.first.now 48 ≡ true = search rules in
    zero_first c.args.word.now c.in-Some.first.now c.in-Some.field-0-1.now is zero

pub returns-clause-size : goal.returns-clause-size
returns-clause-size c =
    let is : c.args.word.now ≡ c.in-Some.first.now ∷ c.in-Some.field-0-1.now = search rules in
    let nonzero : nat_eq c.in-Some.first.now 48 ≡ false = search rules in
    let digits : length c.args.word.now ≤ prefix_len is_digit c.args.word.now = search rules in
    let value : c.in_ok-size.size ≡ value_from 0 c.args.word.now = search rules in
    within c.args.word.now c.in-Some.first.now c.in_ok-size.size c.in-Some.field-0-1.now is nonzero digits value (search rules) (search rules)
