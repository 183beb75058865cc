use Rattle.std.proofs.Common.{sym}
use Rattle.std.proofs.lemmas.List.{length-map}
use Rattle.nq_model.specs.Types.{fields_view}
use Rattle.nq_model.proofs.Types.{differ_in_length}
use Rattle.nq_model.proofs.ty.+same.Goals as goal

pub same_fields-returns-then-left-right : goal.same_fields-returns-then-left-right
same_fields-returns-then-left-right t c =
    sym (differ_in_length (fields_view c.args.left.now) (fields_view c.args.right.now) (rw (length-map, length-map) c.if-left-right.true))
