use Rattle.std.proofs.Common.{◌≡◌, ◌+◌, ◌∙◌, [], ◌∷◌, ap, length, length-append, arith}
use Rattle.std.proofs.lemmas.Bool.{false≢true}
use Rattle.rows.proofs.ColumnRows.{seen_length}
use Rattle.rows.proofs.rows.Rows.push_behind.Goals as goal

pub invariant_of-self-2 : goal.invariant_of-self-2
invariant_of-self-2 c =
    let size = seen_length c.self.inside.columns.items c.self.inside.in_columns c.self.inside.behind c.args.self.now c.self.view_is in
    let one_more : length c.push.new.self ≡ length c.self.inside.behind + 1 = ap length c.in_ok-push.ensures.ok ∙ length-append c.self.inside.behind (c.in_ok-copy_of.field-0 ∷ []) in
    (c.self.invariant.0, omega (arith, size, one_more, c.requires), λ t. absurd (false≢true t))
