-- What the verdict of the walk says of the answer.
use Rattle.std.proofs.Common.{◌≡◌, ℕ, List, Result, Ok, Err, IfOk, IfErr, IsErrAnd, MatchResult, refl, ap, sym, ◌∙◌}
use Rattle.nq_model.specs.Tables.{Columns, types_of}
use Rattle.nq_model.specs.declared.table.ColumnType.{ColumnType}
use Rattle.sql_profile.specs.Scope.{Broken, Fine, IsWellScoped, Shapes, Verdict, judge}
use Rattle.sql_profile.specs.Trees.{PlacedSql, bare}
use Rattle.sql_profile.proofs.Scoped.{tree_judged, tree_fine}
use Rattle.sql_scope.specs.Answers.{HasCause, IsBroken}
use Rattle.sql_scope.specs.Steps.{Faults}
use Rattle.sql_scope.specs.declared.fault.ScopeFault.{ScopeFault}
use Rattle.sql_scope.specs.declared.fault.ScopeFault.TheVariants.{Memory, Broken as Fault}

one_rule : (r s p q : ℕ) → ◌≡◌ {A = Verdict Columns} (Broken r p) (Broken s q) → (r ≡ s) × (p ≡ q)
one_rule r s p q e = (cc, cc)

-- types that a result gives of the columns of a verdict
abbrev pub TypesOf : Verdict Columns → Result (List ColumnType) ScopeFault → Type 0
TypesOf v (Ok types) = (columns : Columns) × (v ≡ Fine columns) × (types ≡ types_of columns)
TypesOf v (Err e) = Faults v e

module _ (ts : Shapes) (p : PlacedSql) where
  pub answers_ok : (r : Result (List ColumnType) ScopeFault) → TypesOf (judge ts p) r → IfOk r (λ types. (columns : Columns) × IsWellScoped ts (bare p) columns × (types ≡ types_of columns))
  answers_ok (Ok types) h = (h.0, tree_judged ts p h.0 h.1, h.2)
  answers_ok (Err e) h = tt

  pub answers_err : (r : Result (List ColumnType) ScopeFault) → TypesOf (judge ts p) r → IfErr r (HasCause ts p)
  answers_err (Ok types) h = tt
  answers_err (Err Memory) h = tt
  answers_err (Err (Fault rule place)) h = h

  pub answers_scoped : (r : Result (List ColumnType) ScopeFault) → TypesOf (judge ts p) r → (columns : Columns) → IsWellScoped ts (bare p) columns → MatchResult r (λ types. types ≡ types_of columns) (λ e. e ≡ Memory)
  answers_scoped (Ok types) h columns w = let same : ◌≡◌ {A = Verdict Columns} (Fine h.0) (Fine columns) = sym h.1 ∙ tree_fine ts p columns w in let c : h.0 ≡ columns = cc in h.2 ∙ ap types_of c
  answers_scoped (Err Memory) h columns w = refl
  answers_scoped (Err (Fault rule place)) h columns w = let same : ◌≡◌ {A = Verdict Columns} (Broken rule place) (Fine columns) = sym h ∙ tree_fine ts p columns w in absurd (cc)

  pub answers_refused : (r : Result (List ColumnType) ScopeFault) → TypesOf (judge ts p) r → (rule place : ℕ) → judge ts p ≡ Broken rule place → IsErrAnd r (IsBroken rule place)
  answers_refused (Ok types) h rule place g = let same : ◌≡◌ {A = Verdict Columns} (Fine h.0) (Broken rule place) = sym h.1 ∙ g in absurd (cc)
  answers_refused (Err Memory) h rule place g = tt
  answers_refused (Err (Fault r q)) h rule place g = one_rule r rule q place (sym h ∙ g)

-- the fault of the walk is handed on: no tree with columns has one
pub fault_scoped : (ts : Shapes) (p : PlacedSql) (r : Result (List ColumnType) ScopeFault) (e : ScopeFault) → IsErrAnd r (λ x. x ≡ e) → Faults (judge ts p) e → (columns : Columns) → IsWellScoped ts (bare p) columns → MatchResult r (λ types. types ≡ types_of columns) (λ e. e ≡ Memory)
fault_scoped ts p (Ok x) e is h columns w = absurd is
fault_scoped ts p (Err x) Memory is h columns w = is
fault_scoped ts p (Err x) (Fault rule place) is h columns w = let same : ◌≡◌ {A = Verdict Columns} (Broken rule place) (Fine columns) = sym h ∙ tree_fine ts p columns w in absurd (cc)

pub types_scoped : (ts : Shapes) (p : PlacedSql) (types : List ColumnType) (found : Columns) → judge ts p ≡ Fine found → types ≡ types_of found → (columns : Columns) → IsWellScoped ts (bare p) columns → types ≡ types_of columns
types_scoped ts p types found e t columns w = let same : ◌≡◌ {A = Verdict Columns} (Fine found) (Fine columns) = sym e ∙ tree_fine ts p columns w in let c : found ≡ columns = cc in t ∙ ap types_of c
