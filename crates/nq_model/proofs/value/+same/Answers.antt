use Rattle.std.proofs.Common.{◌≡◌, sym, ◌∙◌, arith, map, nat_eq}
use Rattle.std.proofs.lemmas.List.{length-map}
use Rattle.nq_model.specs.Values.{nested, same}
use Rattle.nq_model.proofs.Counting.{counts_fail, counts_go_on, fields_differ, same_records, same_bags, same_answered}
use Rattle.nq_model.proofs.value.+same.Goals as goal

pub same_counts-returns-then-count_same :
    goal.same_counts-returns-then-count_same
same_counts-returns-then-count_same t c =
    let fails = counts_fail c.args.left.now (map nested c.args.left.now) (map nested c.args.right.now) c.loop-value.value-index _ _ c.value-item.result (omega arith) c.value-item.is c.count_same.ensures c.count_same-in-loop-value.ensures c.if-count_same.true in
    sym fails ∙ c.loop-value.invariant

pub same_counts-loop-value-preserved : goal.same_counts-loop-value-preserved
same_counts-loop-value-preserved t c =
    let goes_on = counts_go_on c.args.left.now (map nested c.args.left.now) (map nested c.args.right.now) c.loop-value.value-index _ _ c.value-item.result (omega arith) c.value-item.is c.count_same.ensures c.count_same-in-loop-value.ensures c.if-count_same.false in
    sym goes_on ∙ c.loop-value.invariant

pub same_fields-returns-then-left-right :
    goal.same_fields-returns-then-left-right
same_fields-returns-then-left-right t c =
    sym (fields_differ (map (λ f. (f.0, nested f.1)) c.args.left.now) (map (λ f. (f.0, nested f.1)) c.args.right.now) (rw (length-map, length-map) c.if-left-right.true))

pub Value::same-returns-in-Rec-Rec : goal.Value::same-returns-in-Rec-Rec
Value::same-returns-in-Rec-Rec t c =
    let counted : c.same_fields.result ≡ same (nested c.args.self.now) (nested c.args.other.now) = rw (c.in-Rec-Rec.is-0, c.in-Rec-Rec.is-1, same_records c.in-Rec-Rec.left c.in-Rec-Rec.right) (rw (c.as_slice.ensures, c.as_slice-in-Rec-Rec.ensures) at c.same_fields.ensures) in
    record { counted = counted; same = same_answered _ (nested c.args.self.now) (nested c.args.other.now) counted }

pub Value::same-returns-then-len : goal.Value::same-returns-then-len
Value::same-returns-then-len t c =
    let counted : c.same_counts.result ≡ same (nested c.args.self.now) (nested c.args.other.now) = rw (c.in-Bag-Bag.is-0, c.in-Bag-Bag.is-1, same_bags c.in-Bag-Bag.left c.in-Bag-Bag.right) (grind (arith, c.same_counts.ensures, c.as_slice-then-len.ensures, c.as_slice-then-len-2.ensures)) in
    record { counted = counted; same = same_answered _ (nested c.args.self.now) (nested c.args.other.now) counted }

pub Value::same-returns-else-len : goal.Value::same-returns-else-len
Value::same-returns-else-len t c =
    let counted : nat_eq c.len.result c.len-in-Bag-Bag.result ≡ same (nested c.args.self.now) (nested c.args.other.now) = rw (c.in-Bag-Bag.is-0, c.in-Bag-Bag.is-1, same_bags c.in-Bag-Bag.left c.in-Bag-Bag.right) (grind (arith, c.len.ensures, c.len-in-Bag-Bag.ensures)) in
    record { counted = counted; same = same_answered _ (nested c.args.self.now) (nested c.args.other.now) counted }
