use Rattle.std.proofs.Common.{refl}
use Rattle.nq_model.specs.Substitution.{shift, shift_fields}
use Rattle.nq_model.proofs.Substitution.{record_done, shift_fields-of}
use Rattle.reference_terms.proofs.shift.+shift.Goals as goal

pub shift-returns-in_ok-shift_fields-in-Rec :
    goal.shift-returns-in_ok-shift_fields-in-Rec
shift-returns-in_ok-shift_fields-in-Rec t c =
    record_done (shift c.args.by c.args.from) (shift_fields c.args.by c.args.from) (λ p fs. refl) (shift_fields-of c.args.by c.args.from) c.args.term.now _ c.in-Rec.fields c.in_ok-shift_fields-in-Rec.field-0 c.in-Rec.is refl refl (rw c.as_slice.ensures at c.in_ok-shift_fields-in-Rec.ensures)
