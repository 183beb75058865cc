use Rattle.std.proofs.Common.{◌≡◌, ℕ, ◌<◌, map}
use Rattle.nq_model.specs.Numberings.{count_from}
use Rattle.sql_profile.specs.Trees.{sql_tree}
use Rattle.stitcher.specs.Schemes.{element_of}
use Rattle.natural_keys.specs.Layouts.{layout_at}
use Rattle.natural_keys.specs.NaturalKeys.{element_columns, index_columns}
use Rattle.natural_index.specs.Trees.{HasNumbers, elements_of, parts_of, tree_in}
use Rattle.natural_index.proofs.texts.texts_of.Given as goal

abbrev pub invariant-loop-at : goal.invariant-loop-at
invariant-loop-at l = record {
  are : map sql_tree l.texts ≡ map (tree_in l.schema.tables l.outers l.inners (elements_of l.forms)
      (parts_of l.forms)) (count_from 0 l.at);
  numbered : (q : ℕ) → q < l.at → HasNumbers (layout_at l.outers q)
      (element_columns (index_columns (layout_at l.inners q)) (element_of (elements_of l.forms) q));
}
