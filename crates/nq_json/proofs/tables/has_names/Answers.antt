use Rattle.std.proofs.Common.{◌≡◌, ◌==◌, length, ap, sym, ◌∙◌}
use Rattle.std.proofs.lemmas.Bool.{eq-eqb, ne_eqb}
use Rattle.serde_json.specs.View.{members_view}
use Rattle.nq_json.specs.Shapes.{keys_of}
use Rattle.nq_json.proofs.CellFacts.{keys_long}
use Rattle.nq_json.proofs.tables.has_names.Goals as goal

pub returns-then-len-columns : goal.returns-then-len-columns
returns-then-len-columns c =
    let counted = c.len.ensures.len ∙ sym (keys_long c.args.members.now.entries) in
    let same : (length (keys_of (members_view c.args.members.now.entries)) == length c.args.columns.now) ≡ _ = ap (λ n. n == length c.args.columns.now) (sym counted) ∙ eq-eqb c.len.result (length c.args.columns.now) c.if-len-columns.true in
    rw same c.has_columns.ensures

pub returns-else-len-columns : goal.returns-else-len-columns
returns-else-len-columns c =
    let counted = c.len.ensures.len ∙ sym (keys_long c.args.members.now.entries) in
    let same : (length (keys_of (members_view c.args.members.now.entries)) == length c.args.columns.now) ≡ _ = ap (λ n. n == length c.args.columns.now) (sym counted) ∙ ne_eqb c.len.result (length c.args.columns.now) c.if-len-columns.false in
    rw same (ne_eqb c.len.result (length c.args.columns.now) c.if-len-columns.false)
