use Rattle.std.proofs.Common.{refl, sym, ◌∙◌}
use Rattle.nq_model.specs.Substitution.{fields_with_places}
use Rattle.nq_model.proofs.Substitution.{record_done, kept, map_same}
use Rattle.nq_model.proofs.+copy_term.Goals as goal

pub term::Term::copy-returns-in_ok-copy_fields-in-Rec :
    goal.term::Term::copy-returns-in_ok-copy_fields-in-Rec
term::Term::copy-returns-in_ok-copy_fields-in-Rec t c =
    let h = rw c.as_slice.ensures at c.in_ok-copy_fields-in-Rec.ensures in
    record_done (λ x. x) (λ x. x) (λ p fs. refl) kept c.args.self.now _ c.in-Rec.fields c.in_ok-copy_fields-in-Rec.field-0 c.in-Rec.is refl refl (h ∙ sym (map_same (fields_with_places c.in-Rec.fields)))
