use Rattle.std.proofs.Common.{drop, map}
use Rattle.nq_model.specs.Types.{type_tree}
use Rattle.nq_model.specs.Values.{nested}
use Rattle.stitcher.specs.Stitching.{rows_of}
use Rattle.stitcher.proofs.Walking.{Filled, Gathered, types_of}
use Rattle.stitcher.proofs.nested.+element.Given as goal

abbrev pub invariant-elements-loop-place : goal.invariant-elements-loop-place
invariant-elements-loop-place g l =
    Gathered (g.S.IndexScheme.scheme l.from.scheme.now) (rows_of l.from.answers.now) l.groups.nexts (type_tree l.of) l.path l.index (map nested l.values) l.place

abbrev pub decreases-elements-loop-place : goal.decreases-elements-loop-place
decreases-elements-loop-place g l = l.place

abbrev pub invariant-field_values-loop-field : goal.invariant-field_values-loop-field
invariant-field_values-loop-field g l =
    Filled (g.S.IndexScheme.scheme l.from.scheme.now) (rows_of l.from.answers.now) l.initial.walk (types_of l.fields) l.values l.walk (types_of (drop l.field-index l.fields))
