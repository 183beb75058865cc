use Rattle.std.proofs.Common.{drop}
use Rattle.reference_sql.proofs.Evaluating.{Leads}
use Rattle.reference_sql.proofs.evaluate.evaluate_text.Given as goal

abbrev pub invariant-loop-with : goal.invariant-loop-with
invariant-loop-with l = Leads l.held l.text l.tables (drop l.with-index l.text.withs)
