use Rattle.std.proofs.Common.{drop}
use Rattle.nq_model.specs.Types.{type_tree}
use Rattle.stitcher.proofs.Walking.{types_of}
use Rattle.stitcher.specs.Stitching.{rows_of}
use Rattle.reference_stitching.proofs.Searching.{AreFound}
use Rattle.reference_stitching.proofs.Standing.{Filled}
use Rattle.reference_stitching.proofs.search.+element.Given as goal

abbrev pub invariant-elements-loop-row : goal.invariant-elements-loop-row
invariant-elements-loop-row g l =
    AreFound (g.S.IndexScheme.scheme l.scheme) (rows_of l.answers) (type_tree l.of) l.path l.index l.values l.row

abbrev pub invariant-field_values-loop-field : goal.invariant-field_values-loop-field
invariant-field_values-loop-field g l =
    Filled (g.S.IndexScheme.scheme l.scheme) (rows_of l.answers) l.initial.here (types_of l.fields) l.values l.here (types_of (drop l.field-index l.fields))
