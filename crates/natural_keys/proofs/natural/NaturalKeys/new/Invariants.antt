use Rattle.std.proofs.Common.{◌≡◌, map, take}
use Rattle.nq_model.specs.Types.{type_tree}
use Rattle.natural_keys.proofs.natural.NaturalKeys.new.Given as goal

abbrev pub invariant-loop-at : goal.invariant-loop-at
invariant-loop-at l = record {
  elements : map (λ level. type_tree level.element) l.levels ≡ take l.at (map type_tree l.elements);
  outers : map (λ level. level.outer) l.levels ≡ take l.at l.outers;
  inners : map (λ level. level.inner) l.levels ≡ take l.at l.inners;
}
