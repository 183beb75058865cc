use Rattle.std.proofs.Common.{◌≡◌, ◌+◌, ◌++◌, [], ◌∷◌, length, map, ap, arith}
use Rattle.std.proofs.lemmas.List.{length-map}
use Rattle.nq_model.specs.CellRefs.{cell_seen}
use Rattle.rows.specs.Columns.{rows_over, HaveRows, EndBehind}
use Rattle.rows.proofs.ColumnRows.{seen_length, columns_pushed}
use Rattle.rows.proofs.rows.Rows.push_in_columns.Goals as goal

pushed : (c : goal.After-self-4-1) → HaveRows c.push_each.new.columns.items c.args.len × (c.args.len ≡ c.args.len + length c.self.inside.behind)
    × EndBehind c.push_each.new.columns.items c.args.len
    × (rows_over c.push_each.new.columns.items c.args.len ++ c.self.inside.behind ≡ c.args.self.now ++ map cell_seen c.args.row.now ∷ [])
pushed c =
    let ends = c.self.invariant.2 c.if-not-self.false in
    let none : length c.self.inside.behind ≡ 0 = ap length ends.1 in
    let size = seen_length c.self.inside.columns.items c.self.inside.in_columns c.self.inside.behind c.args.self.now c.self.view_is in
    let same : length c.self.inside.columns.items ≡ length (map cell_seen c.args.row.now) = omega (arith, c.len.ensures, length-map c.args.row.now cell_seen) in
    columns_pushed c.self.inside.columns.items c.push_each.new.columns.items (map cell_seen c.args.row.now) c.self.inside.in_columns c.args.len c.self.inside.behind c.args.self.now c.self.view_is
    c.self.invariant.0 ends.0 ends.1 same c.in_ok-push_each.ensures.ok (omega (arith, size, none, c.requires))

pub invariant_of-self-2 : goal.invariant_of-self-2
invariant_of-self-2 c = ((pushed c).0, (pushed c).1, λ t. ((pushed c).2, (c.self.invariant.2 c.if-not-self.false).1))

pub returns-clause-put : goal.returns-clause-put
returns-clause-put c t = (pushed c).3
