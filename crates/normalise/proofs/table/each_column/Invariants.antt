use Rattle.std.proofs.Common.{◌≡◌, map, take}
use Rattle.nq_ir.specs.RawForms.{raw_column, raw_plain}
use Rattle.normalise.specs.Raw.{fields_view}
use Rattle.normalise.proofs.table.each_column.Given as goal

abbrev pub invariant-loop-column : goal.invariant-loop-column
invariant-loop-column l = fields_view l.fields ≡ map (λ c. (c.0, raw_plain (raw_column 0 c.0))) (take l.column-index l.columns)
