use Rattle.std.proofs.Common.{◌≡◌, ◌≤◌, map, take, drop, count_by, length}
use Rattle.nq_model.specs.Values.{nested, same, same_fields, same_counts, fields_of, elements_of}
use Rattle.nq_model.proofs.value.+same.Given as goal

abbrev pub invariant-same_counts-loop-value : goal.invariant-same_counts-loop-value
invariant-same_counts-loop-value l =
    same_counts (elements_of (map nested (drop l.value-index l.left))) (map nested l.left) (map nested l.right)
    ≡ same_counts (elements_of (map nested l.left)) (map nested l.left) (map nested l.right)

abbrev pub invariant-same_fields-loop-i : goal.invariant-same_fields-loop-i
invariant-same_fields-loop-i l =
    (length l.left ≡ length l.right)
    × (same_fields (fields_of (map (λ f. (f.0, nested f.1)) (drop l.i l.left))) (fields_of (map (λ f. (f.0, nested f.1)) (drop l.i l.right)))
    ≡ same_fields (fields_of (map (λ f. (f.0, nested f.1)) l.left)) (fields_of (map (λ f. (f.0, nested f.1)) l.right)))

abbrev pub invariant-count_same-loop-other : goal.invariant-count_same-loop-other
invariant-count_same-loop-other l =
    (l.count ≤ l.other-index) × (l.count ≡ count_by (same (nested l.value)) (map nested (take l.other-index l.among)))
