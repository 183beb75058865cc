use Rattle.std.proofs.Common.{◌≡◌, length, map, option_map, None, Some, true, false, arith, refl, sym, ◌∙◌, ◌+◌, [], get_or}
use Rattle.std.proofs.lemmas.Grind.{common_steps}
use Rattle.nq_model.specs.CellRefs.{cell_seen}
use Rattle.row_keys.specs.CodeMaps.{place_under}
use Rattle.row_keys.specs.FirstRows.{cell_of_key, cells_of_key, cells_at}
use Rattle.row_keys.proofs.KeyFacts.{cells_eq, keys_same}
use Rattle.row_keys.proofs.IndexFacts.{entered_first, told_first, entered_other}
use Rattle.row_keys.proofs.keys.KeyIndex.enter.Goals as goal

pub returns-in_default : goal.returns-in_default
returns-in_default c =
    λ shape index.
    let tells : None ≡ place_under c.args.self.now.first_rows c.code_of-code.result = grind (arith, common_steps) in
    entered_first shape c.args.rows.now c.args.self.now index (map cell_seen c.args.row.now) c.code_of-code.result c.code_of-code.ensures _ c.in_ok-place.place
    tells (grind (arith, common_steps)) refl refl (c.in_ok-insert.ensures (sym tells))

pub returns-then-eq : goal.returns-then-eq
returns-then-eq c =
    λ shape index.
    let tells : Some c.in-Some.first ≡ place_under c.args.self.now.first_rows c.code_of-code.result = grind (arith, common_steps) in
    let copied : map cell_of_key c.in_ok-first_key.first_key.items ≡ cells_at (get_or c.args.rows.now c.in-Some.first []) c.args.self.now.columns.items
    = grind (arith, common_steps) in
    let same : cells_eq (cells_of_key c.in_ok-key.key) (cells_of_key c.in_ok-first_key.first_key) ≡ true
    = sym (keys_same c.in_ok-key.key.items c.in_ok-first_key.first_key.items) ∙ sym c.if-eq.ensures in
    rw c.number_of.ensures (told_first shape c.args.rows.now c.args.self.now index (map cell_seen c.args.row.now) c.code_of-code.result c.code_of-code.ensures c.in-Some.first
    tells c.in_ok-key.key c.in_ok-first_key.first_key c.in_ok-key.ensures copied c.args.self.now same)

pub returns : goal.returns
returns c =
    λ shape index.
    let tells : Some c.in-Some.first ≡ place_under c.args.self.now.first_rows c.code_of-code.result = grind (arith, common_steps) in
    let counted : c.in_ok-place.place ≡ length c.args.rows.now = grind (arith, common_steps) in
    let copied : map cell_of_key c.in_ok-first_key.first_key.items ≡ cells_at (get_or c.args.rows.now c.in-Some.first []) c.args.self.now.columns.items
    = grind (arith, common_steps) in
    let other : cells_eq (cells_of_key c.in_ok-key.key) (cells_of_key c.in_ok-first_key.first_key) ≡ false
    = sym (keys_same c.in_ok-key.key.items c.in_ok-first_key.first_key.items) ∙ sym c.if-eq.ensures in
    let told : c.map.result ≡ option_map (λ place. place + 1) c.in_ok-earlier.earlier = grind (arith, common_steps) in
    rw told (entered_other shape c.args.rows.now c.args.self.now index (map cell_seen c.args.row.now) c.code_of-code.result c.code_of-code.ensures c.in-Some.first
    tells c.in_ok-key.key c.in_ok-first_key.first_key c.in_ok-key.ensures copied _ c.in_ok-place.place c.in_ok-earlier.earlier other
    counted c.in_ok-earlier.ensures.old refl refl c.in_ok-earlier.ensures.entries)
