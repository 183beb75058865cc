use Rattle.std.proofs.Common.{◌<◌, length, string_bytes, rules}
use Rattle.lineage.proofs.Texts.{parts_put}
use Rattle.lineage.proofs.text.+write.Goals as goal

pub write_parts-returns : goal.write_parts-returns
write_parts-returns t c =
    let some : 0 < length c.args.parts.now = search rules in
    parts_put c.args.parts.now c.index-parts-0.result (string_bytes c.args.text.now)
    (string_bytes c.write_value.new.text) (string_bytes c.write_all_rows.new.text) some
    c.in_ok-write_value.ensures c.in_ok-write_all_rows.ensures
