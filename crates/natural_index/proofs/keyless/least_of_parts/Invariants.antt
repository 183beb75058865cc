use Rattle.std.proofs.Common.{◌≡◌, drop, flat_map, map, option_copied}
use Rattle.nq_ir.specs.Spots.{strand_tree}
use Rattle.natural_index.specs.Naming.{keyless, least, lesser_of}
use Rattle.natural_index.proofs.keyless.least_of_parts.Given as goal

abbrev pub invariant-loop-part : goal.invariant-loop-part
invariant-loop-part l =
    lesser_of (option_copied l.found)
    (least (keyless l.schema.tables (flat_map (λ d. d.gens)
    (map strand_tree (drop l.part-index l.parts)))))
    ≡ lesser_of (option_copied l.so_far)
    (least (keyless l.schema.tables (flat_map (λ d. d.gens) (map strand_tree l.parts))))
