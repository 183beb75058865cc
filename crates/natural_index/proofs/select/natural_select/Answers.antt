use Rattle.std.proofs.Common.{◌++◌, map}
use Rattle.nq_ir.specs.Spots.{both, strand_tree}
use Rattle.nq_ir.specs.Trees.{conds_tree}
use Rattle.flatten.specs.Emitted.{none_outer}
use Rattle.flatten.specs.Exprs.{conds_keep, source_of}
use Rattle.natural_index.specs.Trees.{as_items, natural_columns}
use Rattle.natural_index.proofs.Made.{select_made}
use Rattle.natural_index.proofs.select.natural_select.Goals as goal

pub returns : goal.returns
returns c =
    let part = c.args.part.now in
    select_made c.in_ok-items.items c.in_ok-from.from c.in_ok-keep.keep
    (as_items (natural_columns c.args.schema.now.tables c.args.outer c.args.inner
    (strand_tree part)))
    (map source_of (part.outer_gens ++ part.gens))
    (conds_keep none_outer (both (conds_tree part.outer_conds) (conds_tree part.conds)))
    c.in_ok-items.ensures c.in_ok-from.ensures c.in_ok-keep.ensures
