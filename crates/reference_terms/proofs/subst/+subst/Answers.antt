use Rattle.std.proofs.Common.{refl}
use Rattle.nq_model.specs.Terms.{placed}
use Rattle.nq_model.specs.Substitution.{subst, subst_fields}
use Rattle.nq_model.proofs.Substitution.{record_done, subst_fields-of}
use Rattle.reference_terms.proofs.subst.+subst.Goals as goal

pub subst-returns-in_ok-subst_fields-in-Rec :
    goal.subst-returns-in_ok-subst_fields-in-Rec
subst-returns-in_ok-subst_fields-in-Rec t c =
    record_done (subst c.args.from (placed c.args.by.now)) (subst_fields c.args.from (placed c.args.by.now)) (λ p fs. refl) (subst_fields-of c.args.from (placed c.args.by.now)) c.args.term.now _ c.in-Rec.fields c.in_ok-subst_fields-in-Rec.field-0 c.in-Rec.is refl refl (rw c.as_slice.ensures at c.in_ok-subst_fields-in-Rec.ensures)
