use Rattle.std.proofs.Common.{◌≡◌, ◌++◌, map, take}
use Rattle.natural_keys.specs.Layouts.{type_in}
use Rattle.natural_keys.proofs.columns.push_gen_key.Given as goal

abbrev pub invariant-loop-name : goal.invariant-loop-name
invariant-loop-name l =
    l.all ≡ l.initial.all ++ map (λ k. record {
      generator = l.generator.number;
      name = k;
      of = type_in k l.columns;
    }) (take l.name-index l.name-items)
