-- Aliases further out.
use Rattle.std.proofs.Common.{◌≡◌, ℕ, List, [], ◌++◌, Some, None, ap, sym, ◌∙◌, Bor}
use Rattle.nq_model.specs.Tables.{Columns}
use Rattle.sql_profile.specs.Scope.{Aliases, found}
use Rattle.sql_scope.specs.Steps.{aliases_in, bounds, scope_layer}
use Rattle.sql_scope.specs.declared.aliases.Scope.{Scope, Scope-F, fold-roll-Scope}
use Rattle.sql_scope.specs.declared.aliases.Scope.TheVariants.{Inner, Outermost, rolls-Inner, rolls-Outermost}
use Rattle.sql_scope.proofs.Lookups.{bound_found, bound_nowhere, found_behind, found_first}

-- a FROM, as the program has it
abbrev pub Sources : Type 0
Sources = List (List ℕ × Bor Columns)

pub aliases_outermost : aliases_in Outermost ≡ []
aliases_outermost = ap aliases_in (sym rolls-Outermost) ∙ fold-roll-Scope Aliases scope_layer Scope-F.Outermost

pub aliases_inner : (own : Bor Sources) (around : Bor Scope) → aliases_in (Inner own around) ≡ bounds own.now ++ aliases_in around.now
aliases_inner own around = ap aliases_in (sym (rolls-Inner own around)) ∙ fold-roll-Scope Aliases scope_layer (Scope-F.Inner own around)

pub found_own : (alias : List ℕ) (own : Bor Sources) (around : Bor Scope) (columns : Bor Columns) → found alias own.now ≡ Some columns → found alias (aliases_in (Inner own around)) ≡ Some columns.now
found_own alias own around columns e = ap (found alias) (aliases_inner own around) ∙ found_first alias (bounds own.now) (aliases_in around.now) columns.now (bound_found alias own.now columns e)

pub found_around : (alias : List ℕ) (own : Bor Sources) (around : Bor Scope) → found alias own.now ≡ None → found alias (aliases_in (Inner own around)) ≡ found alias (aliases_in around.now)
found_around alias own around e = ap (found alias) (aliases_inner own around) ∙ found_behind alias (bounds own.now) (aliases_in around.now) (bound_nowhere alias own.now e)
