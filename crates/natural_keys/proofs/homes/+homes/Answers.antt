use Rattle.std.proofs.Common.{◌≡◌, ◌∙◌, ap, sym}
use Rattle.nq_model.specs.Types.{bag, type_tree}
use Rattle.shred_types.proofs.Under.{type_of_bag}
use Rattle.natural_keys.proofs.HomesMore.{bag_homes, slots_more, homes_more}
use Rattle.natural_keys.proofs.homes.+homes.Goals as goal

pub push_field_homes-loop-field-preserved : goal.push_field_homes-loop-field-preserved
push_field_homes-loop-field-preserved t c =
    let k = c.loop-field.field-index in
    let f = c.field-item.result in
    record {
      next = slots_more c.args.fields.now k f c.loop-field-test.true c.field-item.is
          c.loop-field.next c.in_ok-next.next _ c.in_ok-next.ensures.next
          c.loop-field.invariant.next;
      homes = homes_more c.args.fields.now k f c.loop-field-test.true c.field-item.is
          c.loop-field.all c.push_homes.new.all _ c.args.path c.loop-field.next c.in_ok-next.next
          c.in_ok-next.ensures.next c.in_ok-next.ensures.homes c.loop-field.invariant.homes;
    }

pub push_homes-returns-in_ok-push_homes-in-Bag-clause-homes : goal.push_homes-returns-in_ok-push_homes-in-Bag-clause-homes
push_homes-returns-in_ok-push_homes-in-Bag-clause-homes t c =
    let of : type_tree c.args.part.now ≡ bag (type_tree c.deref.result.now)
    = ap type_tree c.in-Bag.is ∙ type_of_bag c.in-Bag.element
    ∙ ap (λ (t : _). bag (type_tree t)) (sym c.deref.ensures) in
    bag_homes c.args.all.now c.push.new.self c.push_homes.new.all (type_tree c.args.part.now)
    (type_tree c.deref.result.now) c.args.path c.args.slot c.len-inner.result of
    c.in_ok-push-in-Bag.ensures.ok c.len-inner.ensures c.in_ok-push_homes-in-Bag.ensures.homes
