-- The raw forms of the code's bodies, form by form.
use Rattle.std.proofs.Common.{◌≡◌, ℕ, ℤ, Bool, List, map, sym, ap, ◌∙◌}
use Rattle.nq_model.specs.NamedRows.{Label}
use Rattle.nq_model.specs.Totals.{SumOf}
use Rattle.nq_model.specs.declared.table.Cell.TheVariants as cell
use Rattle.nq_model.specs.declared.term.Binary.{Binary}
use Rattle.nq_model.specs.declared.term.Unary.{Unary}
use Rattle.nq_ir.specs.RawForms.{RawBase, raw_binary, raw_choose, raw_column, raw_literal, raw_empty, raw_total, raw_unary, up_base, RawBody, raw_plain, raw_rec, raw_bag, up_body}
use Rattle.normalise.specs.declared.raw.RawBase.{RawBase-F, fold-roll-RawBase}
use Rattle.normalise.specs.declared.raw.RawBase.TheVariants as base
use Rattle.normalise.specs.declared.raw.MovedBase.{MovedBase, fold-roll-MovedBase}
use Rattle.normalise.specs.declared.raw.RawTest.{RawTest as CodeTest, fold-roll-RawTest, fold_out-RawTest, out-RawTest, roll-RawTest}
use Rattle.normalise.specs.declared.raw.RawBody.{RawBody-F, fold-roll-RawBody}
use Rattle.normalise.specs.declared.raw.RawBody.TheVariants as body
use Rattle.normalise.specs.declared.raw.MovedBody.{MovedBody, fold-roll-MovedBody}
use Rattle.normalise.specs.declared.raw.RawComp.{RawComp as CodeComp, fold-roll-RawComp}
use Rattle.normalise.specs.Raw.{TestPart, CompPart, chain, count_in, tests_of, fields_of, comps_of, base_layer, moved_layer, test_layer, raw_base, moved_base, test_part, raw_conds, body_layer, moved_body_layer, comp_layer, raw_body, moved_body, comp_part}

pub base_bool : (b : Bool) → raw_base (base.Bool b) ≡ raw_literal (cell.Bool b)
base_bool b = ap raw_base (sym (base.rolls-Bool b)) ∙ fold-roll-RawBase RawBase RawBase TestPart base_layer moved_layer test_layer (RawBase-F.Bool b)

pub base_column : (i : ℕ) (l : Label) → raw_base (base.Column i l) ≡ raw_column i l
base_column i l = ap raw_base (sym (base.rolls-Column i l)) ∙ fold-roll-RawBase RawBase RawBase TestPart base_layer moved_layer test_layer (RawBase-F.Column i l)

pub base_empty : (ts : List CodeTest) → raw_base (base.Empty ts) ≡ raw_empty (tests_of (map test_part ts))
base_empty ts = ap raw_base (sym (base.rolls-Empty ts)) ∙ fold-roll-RawBase RawBase RawBase TestPart base_layer moved_layer test_layer (RawBase-F.Empty ts)

pub moved_is : (m : MovedBase) → moved_base m ≡ up_base m.more m.from (raw_base m.base.value)
moved_is m =
    fold-roll-MovedBase RawBase RawBase TestPart base_layer moved_layer test_layer (record { base = m.base; more = m.more; from = m.from; depth = m.depth })

pub base_unary : (op : Unary) (b : MovedBase) → raw_base (base.Unary op b) ≡ raw_unary op (moved_base b)
base_unary op b = ap raw_base (sym (base.rolls-Unary op b)) ∙ fold-roll-RawBase RawBase RawBase TestPart base_layer moved_layer test_layer (RawBase-F.Unary op b)

pub base_binary : (op : Binary) (a b : MovedBase) → raw_base (base.Binary op a b) ≡ raw_binary op (moved_base a) (moved_base b)
base_binary op a b = ap raw_base (sym (base.rolls-Binary op a b)) ∙ fold-roll-RawBase RawBase RawBase TestPart base_layer moved_layer test_layer (RawBase-F.Binary op a b)

pub base_chain : (op : Binary) (a : MovedBase) (bs : List MovedBase) → raw_base (base.Chain op a bs) ≡ chain op (moved_base a) (map moved_base bs)
base_chain op a bs = ap raw_base (sym (base.rolls-Chain op a bs)) ∙ fold-roll-RawBase RawBase RawBase TestPart base_layer moved_layer test_layer (RawBase-F.Chain op a bs)

pub base_choose : (x a b : MovedBase) → raw_base (base.Choose x a b) ≡ raw_choose (moved_base x) (moved_base a) (moved_base b)
base_choose x a b = ap raw_base (sym (base.rolls-Choose x a b)) ∙ fold-roll-RawBase RawBase RawBase TestPart base_layer moved_layer test_layer (RawBase-F.Choose x a b)

pub base_int : (n : ℤ) → raw_base (base.Int n) ≡ raw_literal (cell.Int n)
base_int n = ap raw_base (sym (base.rolls-Int n)) ∙ fold-roll-RawBase RawBase RawBase TestPart base_layer moved_layer test_layer (RawBase-F.Int n)

pub base_count : (t : CodeTest) → raw_base (base.Count t) ≡ count_in (test_part t)
base_count t = ap raw_base (sym (base.rolls-Count t)) ∙ fold-roll-RawBase RawBase RawBase TestPart base_layer moved_layer test_layer (RawBase-F.Count t)

pub base_sum : (t : CodeTest) (b : MovedBase) → raw_base (base.Sum t b) ≡ raw_total SumOf (test_part t).tables (test_part t).conds (moved_base b)
base_sum t b = ap raw_base (sym (base.rolls-Sum t b)) ∙ fold-roll-RawBase RawBase RawBase TestPart base_layer moved_layer test_layer (RawBase-F.Sum t b)

pub base_moved : (b : MovedBase) → raw_base (base.Moved b) ≡ moved_base b
base_moved b = ap raw_base (sym (base.rolls-Moved b)) ∙ fold-roll-RawBase RawBase RawBase TestPart base_layer moved_layer test_layer (RawBase-F.Moved b)

pub test_is : (t : CodeTest) → test_part t ≡ record { tables = (out-RawTest t).tables; conds = raw_conds (out-RawTest t).conds }
test_is t = fold_out-RawTest RawBase RawBase TestPart base_layer moved_layer test_layer t

pub test_rolled : (tables : List Label) (conds : List MovedBase) (deepest : ℕ) → test_part (roll-RawTest (record { tables = tables; conds = conds; deepest = deepest })) ≡ record { tables = tables; conds = raw_conds conds }
test_rolled tables conds deepest = fold-roll-RawTest RawBase RawBase TestPart base_layer moved_layer test_layer (record { tables = tables; conds = conds; deepest = deepest })

pub body_plain : (b : MovedBase) → raw_body (body.Plain b) ≡ raw_plain (moved_base b)
body_plain b = ap raw_body (sym (body.rolls-Plain b)) ∙ fold-roll-RawBody RawBody RawBody CompPart body_layer moved_body_layer comp_layer (RawBody-F.Plain b)

pub body_rec : (fs : List (Label × MovedBody)) → raw_body (body.Rec fs) ≡ raw_rec (fields_of (map (λ f. (f.0, moved_body f.1)) fs))
body_rec fs = ap raw_body (sym (body.rolls-Rec fs)) ∙ fold-roll-RawBody RawBody RawBody CompPart body_layer moved_body_layer comp_layer (RawBody-F.Rec fs)

pub body_bag : (cs : List CodeComp) → raw_body (body.Bag cs) ≡ raw_bag (comps_of (map comp_part cs))
body_bag cs = ap raw_body (sym (body.rolls-Bag cs)) ∙ fold-roll-RawBody RawBody RawBody CompPart body_layer moved_body_layer comp_layer (RawBody-F.Bag cs)

pub moved_body_is : (m : MovedBody) → moved_body m ≡ up_body m.more m.from (raw_body m.body.value)
moved_body_is m =
    fold-roll-MovedBody RawBody RawBody CompPart body_layer moved_body_layer comp_layer (record { body = m.body; more = m.more; from = m.from; depth = m.depth })

pub comp_is : (c : CodeComp) → comp_part c ≡ record { tables = c.tables; conds = raw_conds c.conds; body = moved_body c.body }
comp_is c = fold-roll-RawComp RawBody RawBody CompPart body_layer moved_body_layer comp_layer (record { tables = c.tables; conds = c.conds; deepest = c.deepest; body = c.body })
