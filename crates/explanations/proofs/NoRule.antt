-- A number that no rule of scope has.
use Rattle.std.proofs.Common.{◌≡◌, ℕ, ◌≤◌, List, Result, Ok, Err, IfOk, codes, inr}
use Rattle.diagnostics.specs.Excerpts.{excerpt_text}
use Rattle.sql_scope.specs.declared.found.Found.{Found}
use Rattle.explanations.specs.SqlExplanations.{ExplainsScope}

pub none_has : {E : Type 0} (file text : List ℕ) (place : ℕ) (tables : List (List ℕ))
    (found : Found) (number : ℕ) (result : Result (List ℕ) E) → (1 ≤ number → 11 ≤ number)
    → IfOk result (λ made. made
    ≡ excerpt_text file text place (codes "The SQL text breaks a rule."))
    → IfOk result (λ made. ExplainsScope file text place tables found number made)
none_has file text place tables found number (Ok made) none is = inr (none, is)
none_has file text place tables found number (Err e) none is = tt
