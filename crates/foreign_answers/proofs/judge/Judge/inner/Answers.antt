use Rattle.std.proofs.Common.{◌≡◌, ◌<◌, [], get_or, ap, sym, ◌∙◌, arith, None, Some, cond, length, ℕ}
use Rattle.nq_ir.specs.Parts.{slots}
use Rattle.stitcher.specs.Linked.{inner_fault, row_at}
use Rattle.stitcher.specs.Schemes.{AnswerRows, element_of}
use Rattle.stitcher.specs.Stitching.{rows_of}
use Rattle.foreign_answers.specs.Given.{first_given, same_key}
use Rattle.foreign_answers.specs.Judging.{column_in}
use Rattle.foreign_answers.proofs.Entering.{entered}
use Rattle.foreign_answers.proofs.Steps.{more_none, all_none, first_told, got_any, few_slots, no_more_slots, once_given, twice_given}
use Rattle.foreign_answers.proofs.judge.Judge.inner.Goals as goal

pub returns-in-Some-clause-fault : goal.returns-in-Some-clause-fault
returns-in-Some-clause-fault g c = λ other.
    let S = g.S.IndexScheme.scheme c.args.self.now.scheme.now in
    let ans = rows_of c.args.self.now.answers.now in
    let all = c.args.self.now.homes.now in
    let columns = c.args.self.now.columns.now in
    let q = c.args.path in
    let k = c.args.row in
    let own_tags = get_or columns q c.index-self-path.result in
    let long : c.len-slot-end.result ≡ length own_tags = c.len-slot-end.ensures in
    let tags : own_tags ≡ get_or columns q [] = got_any columns q c.index-self-path.result [] (omega (arith, c.requires.path, c.requires.ready.columned)) in
    let t = c.loop-slot.slot in
    let slot : t < slots (element_of S.elements q) = few_slots columns q t (slots (element_of S.elements q)) own_tags tags (c.requires.ready.counted q) (omega (arith, c.loop-slot-test.true, long)) in
    let own : c.in_ok-index.index ≡ S.inner q t (row_at ans q k) = c.in_ok-index.ensures ∙ ap (λ (l : AnswerRows). S.inner q t (get_or l k [])) c.rows_at.ensures in
    let lent : c.as_slice.result.now ≡ own_tags = c.as_slice.ensures in
    let column : c.as_slice.result.now ≡ get_or columns q [] = lent ∙ tags in
    first_told (inner_fault S all (column_in columns) ans q k) (slots (element_of S.elements q)) t _ slot c.loop-slot.invariant.none other
    (twice_given g.S.Index.PartialEq.eq g.met.S.Index.Eq.laws S (g.met.S.IndexScheme.compares c.args.self.now.scheme.now) all columns ans q k t c.in_ok-index.index c.loop-slot.own.firsts c.requires.row slot own c.loop-slot.invariant.gives c.in_ok-earlier.field-0 c.in_ok-earlier.ensures.earlier
    c.in_ok-number_of.field-0 c.in_ok-number.number c.in-Some.earlier c.as_slice.result.now c.in_ok-number_of.ensures c.in_ok-number.ensures column c.in-Some.is)

pub loop-slot-preserved : goal.loop-slot-preserved
loop-slot-preserved g c =
    let S = g.S.IndexScheme.scheme c.args.self.now.scheme.now in
    let ans = rows_of c.args.self.now.answers.now in
    let all = c.args.self.now.homes.now in
    let columns = c.args.self.now.columns.now in
    let q = c.args.path in
    let k = c.args.row in
    let own_tags = get_or columns q c.index-self-path.result in
    let long : c.len-slot-end.result ≡ length own_tags = c.len-slot-end.ensures in
    let tags : own_tags ≡ get_or columns q [] = got_any columns q c.index-self-path.result [] (omega (arith, c.requires.path, c.requires.ready.columned)) in
    let t = c.loop-slot.slot in
    let slot : t < slots (element_of S.elements q) = few_slots columns q t (slots (element_of S.elements q)) own_tags tags (c.requires.ready.counted q) (omega (arith, c.loop-slot-test.true, long)) in
    let own : c.in_ok-index.index ≡ S.inner q t (row_at ans q k) = c.in_ok-index.ensures ∙ ap (λ (l : AnswerRows). S.inner q t (get_or l k [])) c.rows_at.ensures in
    let eq = g.S.Index.PartialEq.eq in
    let laws = g.met.S.Index.Eq.laws in
    let same = g.met.S.IndexScheme.compares c.args.self.now.scheme.now in
    let none : c.in_ok-earlier.field-0 ≡ None = c.in_default.is in
    record {
      none = more_none (inner_fault S all (column_in columns) ans q k) t c.loop-slot.invariant.none
          (once_given eq laws S same all columns ans q k t c.in_ok-index.index c.loop-slot.own.firsts c.requires.row slot own c.loop-slot.invariant.gives c.in_ok-earlier.field-0 c.in_ok-earlier.ensures.earlier none);
      gives = entered eq laws S same ans q k t c.in_ok-index.index c.loop-slot.own.firsts c.requires.row slot own c.loop-slot.invariant.gives c.enter.new.self.firsts (sym c.in_ok-earlier.ensures.earlier ∙ none)
          (λ s i. c.in_ok-earlier.ensures.entered s i ∙ ap (λ (n : ℕ). cond (same_key eq (t, c.in_ok-index.index) (s, i)) (Some n) (first_given eq c.loop-slot.own.firsts s i)) c.in_ok-number.ensures);
    }

pub returns-clause-none : goal.returns-clause-none
returns-clause-none g c =
    let S = g.S.IndexScheme.scheme c.args.self.now.scheme.now in
    let ans = rows_of c.args.self.now.answers.now in
    let all = c.args.self.now.homes.now in
    let columns = c.args.self.now.columns.now in
    let q = c.args.path in
    let k = c.args.row in
    let own_tags = get_or columns q c.index-self-path.result in
    let long : c.len-slot-end.result ≡ length own_tags = c.len-slot-end.ensures in
    let tags : own_tags ≡ get_or columns q [] = got_any columns q c.index-self-path.result [] (omega (arith, c.requires.path, c.requires.ready.columned)) in
    all_none (inner_fault S all (column_in columns) ans q k) c.loop-slot.slot (slots (element_of S.elements q))
    (no_more_slots columns q c.loop-slot.slot (slots (element_of S.elements q)) own_tags tags (c.requires.ready.counted q) (omega (arith, c.loop-slot-test.false, long))) c.loop-slot.invariant.none
