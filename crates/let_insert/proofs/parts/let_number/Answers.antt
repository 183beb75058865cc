use Rattle.std.proofs.Common.{Ok, Err}
use Rattle.std.proofs.lemmas.List.Sorted.{searched}
use Rattle.let_insert.proofs.Numbers.{number_absent, number_found, rising_far}
use Rattle.let_insert.proofs.parts.let_number.Goals as goal

pub returns-in-Ok : goal.returns-in-Ok
returns-in-Ok c =
    let ns = c.args.parents.now in
    let at = searched ns c.args.parent (Ok c.in-Ok.before) c.in-Ok.ensures.position (rising_far ns c.requires) in
    number_found c.args.parent ns c.requires c.if-parent-eq0.false c.in-Ok.before at.0 at.1

pub returns-in-Err : goal.returns-in-Err
returns-in-Err c =
    let ns = c.args.parents.now in
    let at = searched ns c.args.parent (Err c.in-Err.field-0) c.in-Err.ensures.position (rising_far ns c.requires) in
    number_absent c.args.parent ns c.if-parent-eq0.false c.in-Err.field-0 at.1 at.2
