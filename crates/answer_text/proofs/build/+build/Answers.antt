use Rattle.std.proofs.Common.{ℕ, ◌+◌, List, sym, subst, drop, arith}
use Rattle.nq_model.specs.Types.{type_tree}
use Rattle.nq_ir.specs.Parts.{bags}
use Rattle.answer_text.specs.Building.{rows_left}
use Rattle.answer_text.specs.declared.part.Part.{Part}
use Rattle.answer_text.proofs.Building.{AreFilled, bag_made, bag_left, types_of, none_filled, next_filled, all_filled, all_wide, all_taken}
use Rattle.answer_text.proofs.build.+build.Goals as goal

pub bags_of-returns-clause-bag : goal.bags_of-returns-clause-bag
bags_of-returns-clause-bag t c =
    bag_made (type_tree c.args.of.now) (rows_left c.args.left.now) c.next_rows-rows.result
    (rows_left c.next_rows-rows.new.left) c.in_ok-element.element c.in_ok-groups.groups
    c.next_rows-rows.ensures.rows c.next_rows-rows.ensures.left c.in_ok-element.ensures.part
    c.in_ok-groups.ensures

pub bags_of-returns-clause-left : goal.bags_of-returns-clause-left
bags_of-returns-clause-left t c =
    bag_left (bags (type_tree c.args.of.now)) (rows_left c.args.left.now)
    (rows_left c.next_rows-rows.new.left) (rows_left c.part_of.new.left)
    c.next_rows-rows.ensures.left c.in_ok-element.ensures.left

pub parts_of-loop-field-init : goal.parts_of-loop-field-init
parts_of-loop-field-init t c = none_filled (types_of c.args.fields.now)
    (rows_left c.args.left.now) c.args.column.now c.in_ok-parts.parts c.in_ok-parts.ensures

pub parts_of-loop-field-preserved : goal.parts_of-loop-field-preserved
parts_of-loop-field-preserved t c =
    let fields = c.args.fields.now in
    let ans = rows_left c.args.left.now in
    let more = next_filled (types_of fields) ans c.args.column.now c.loop-field.parts fields
    c.loop-field.field-index c.field-item.result c.in_ok-heading.heading
    (rows_left c.loop-field.left) c.loop-field.column c.in_ok-part_of.field-0
    (rows_left c.part_of.new.left) c.part_of.new.column c.loop-field-test.true c.field-item.is
    c.in_ok-heading.ensures c.in_ok-part_of.ensures.part c.in_ok-part_of.ensures.column
    c.in_ok-part_of.ensures.left c.loop-field.invariant in
    subst (λ (made : List (List ℕ × Part)). AreFilled (types_of fields) ans c.args.column.now made
    (types_of (drop (c.loop-field.field-index + 1) fields))
    (rows_left c.part_of.new.left) c.part_of.new.column) (sym c.in_ok-push.ensures.ok) more

pub parts_of-returns-clause-parts : goal.parts_of-returns-clause-parts
parts_of-returns-clause-parts t c =
    all_filled c.args.fields.now (rows_left c.args.left.now) c.args.column.now c.loop-field.parts
    c.loop-field.field-index (rows_left c.loop-field.left) c.loop-field.column
    (omega arith) c.loop-field.invariant

pub parts_of-returns-clause-column : goal.parts_of-returns-clause-column
parts_of-returns-clause-column t c =
    all_wide c.args.fields.now (rows_left c.args.left.now) c.args.column.now c.loop-field.parts
    c.loop-field.field-index (rows_left c.loop-field.left) c.loop-field.column
    (omega arith) c.loop-field.invariant

pub parts_of-returns-clause-left : goal.parts_of-returns-clause-left
parts_of-returns-clause-left t c =
    all_taken c.args.fields.now (rows_left c.args.left.now) c.args.column.now c.loop-field.parts
    c.loop-field.field-index (rows_left c.loop-field.left) c.loop-field.column
    (omega arith) c.loop-field.invariant
