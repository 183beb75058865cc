use Rattle.std.proofs.Common.{arith}
use Rattle.rows.proofs.PackedTexts.{ends_length}
use Rattle.rows.proofs.texts.Texts.len.Goals as goal

pub returns : goal.returns
returns c =
    omega (
      arith,
      c.len.ensures,
      ends_length c.self.inside.ends.items c.self.inside.bytes.items
          c.args.self.now c.self.view_is,
    )
