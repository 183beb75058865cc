use Rattle.std.proofs.Common.{◌≡◌, map, take}
use Rattle.row_order.proofs.ranks.write_places.Given as goal

abbrev pub invariant-loop-ranked : goal.invariant-loop-ranked
invariant-loop-ranked l = l.places.items ≡ map (λ ranked. ranked.place) (take l.ranked-index l.ranks)
