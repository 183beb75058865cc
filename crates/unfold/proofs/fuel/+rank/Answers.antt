use Rattle.nq_model.proofs.Terms.{type_of_record}
use Rattle.unfold.proofs.fuel.+rank.Goals as goal

pub rank-returns-in-Rec : goal.rank-returns-in-Rec
rank-returns-in-Rec t c =
    rw (c.in-Rec.is, type_of_record c.in-Rec.fields) (rw c.as_slice.ensures at c.rank_fields.ensures)
