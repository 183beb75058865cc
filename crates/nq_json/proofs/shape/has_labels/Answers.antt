use Rattle.std.proofs.Common.{ap}
use Rattle.std.specs.Cmp.Lexicographic.{pointwise}
use Rattle.std.specs.Str.{bytes_eq}
use Rattle.nq_json.proofs.Walks.{keys_view, labels_from, rising}
use Rattle.nq_json.proofs.shape.has_labels.Goals as goal

pub loop-field-init : goal.loop-field-init
loop-field-init c = record {
  can = tt;
  finite = tt;
  so_far = rw c.keys-keys.ensures.rest (ap (λ ks. pointwise bytes_eq ks (labels_from c.args.fields.now 0)) (keys_view c.args.map.now.entries));
}

pub returns-in_default-clause-rising : goal.returns-in_default-clause-rising
returns-in_default-clause-rising c = rising c.args.map.now.entries c.keys-keys.ensures.ordered

pub returns-then-ne-clause-rising : goal.returns-then-ne-clause-rising
returns-then-ne-clause-rising c = rising c.args.map.now.entries c.keys-keys.ensures.ordered

pub returns-clause-rising : goal.returns-clause-rising
returns-clause-rising c = rising c.args.map.now.entries c.keys-keys.ensures.ordered
