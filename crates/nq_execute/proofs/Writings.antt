-- What is written of values that are the same, and of rows that are the same in any order.
use Rattle.std.proofs.Common.{◌≡◌, List, ap, codes, ◌++◌}
use Rattle.nq_model.specs.Bags.{Reordered}
use Rattle.nq_model.specs.Canonical.{written}
use Rattle.nq_model.specs.Types.{TypeTree}
use Rattle.nq_model.specs.Values.{Nested, Same}
use Rattle.nq_model.specs.declared.table.Cell.{Cell}
use Rattle.nq_model.proofs.Canonical.{canonical_same}
use Rattle.canon.specs.RowTexts.{rows_text, sorted_rows}
use Rattle.nq_json.specs.Json.{json_text}
use Rattle.nq_json.specs.Rows.{json_rows_text}
use Rattle.lineage.proofs.Sameness.{forms_same}
use Rattle.lineage.proofs.Whole.{text_same as one_traced}
use Rattle.lineage.specs.Decoding.{form_decoded}
use Rattle.lineage.specs.Recorded.{recorded}
use Rattle.nq_execute.specs.Plans.{Writing, text, summary, json, traced, text_by, RowWriting}
use Rattle.nq_execute.specs.Plans.{lines, arrays, row_text_by, trace_text_by}
use Rattle.nq_execute.specs.declared.plan.TraceWriting.{TraceWriting}
use Rattle.nq_execute.specs.declared.plan.TraceWriting.TheVariants.{Text, Json}
use Rattle.nq_execute.proofs.Summaries.{summary_same}

pub traced_same : (writing : TraceWriting) (v w : Nested) → Same v w
    → trace_text_by writing v ≡ trace_text_by writing w
traced_same Text v w same = one_traced v w same
traced_same Json v w same = ap (λ u. json_text (recorded u)) (canonical_same v w same)

pub text_same : (writing : Writing) (type : TypeTree) (v w : Nested) → Same v w → text_by writing type v ≡ text_by writing type w
text_same text type v w same = ap (λ (u : Nested). written u ++ codes "\n") (canonical_same v w same)
text_same summary type v w same = summary_same type v w same
text_same json type v w same = ap json_text (canonical_same v w same)
text_same (traced writing tables form) type v w same =
    traced_same writing (form_decoded tables form v) (form_decoded tables form w)
    (forms_same tables form v w same)

-- rows have one order, and one text of lines
module _ (one : (rows others : List (List Cell)) → Reordered rows others → sorted_rows rows ≡ sorted_rows others)
    (one_text : (rows others : List (List Cell)) → Reordered rows others → rows_text rows ≡ rows_text others) where
  pub rows_same : (writing : RowWriting) (rows others : List (List Cell)) → Reordered rows others → row_text_by writing rows ≡ row_text_by writing others
  rows_same lines rows others same = one_text rows others same
  rows_same arrays rows others same = ap json_rows_text (one rows others same)
