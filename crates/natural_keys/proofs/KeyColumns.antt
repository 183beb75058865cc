-- Key columns of generators, one list behind another.
use Rattle.std.proofs.Common.{◌≡◌, List, ◌++◌}
use Rattle.std.proofs.lemmas.Grind.{flat_map-append}
use Rattle.nq_model.specs.declared.table.TableShape.{TableShape}
use Rattle.nq_ir.specs.declared.base.Gen.{Gen}
use Rattle.natural_keys.specs.Layouts.{gen_key, key_columns}

pub scope_made : (S : List TableShape) (xs ys : List Gen) → key_columns S (xs ++ ys)
    ≡ key_columns S xs ++ key_columns S ys
scope_made S xs ys = flat_map-append (gen_key S) xs ys
