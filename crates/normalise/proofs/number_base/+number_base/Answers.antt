use Rattle.std.proofs.Common.{rules, arith, ◌≡◌, ◌+◌, ap, ap₂, sym, ◌∙◌, map, length, List, ℕ, pos}
use Rattle.std.proofs.lemmas.Result.{IfOk-weaker}
use Rattle.nq_model.specs.NamedRows.{Label}
use Rattle.nq_model.specs.Totals.{HowMany, SumOf}
use Rattle.nq_model.specs.declared.table.Cell.TheVariants as cell
use Rattle.nq_ir.specs.NormalForms.{number_base, number_gens, gens_in_base, gens_in_conds}
use Rattle.nq_ir.specs.Trees.{BaseTree, TestPart as NumberedPart, base_tree, chain as numbered_chain, test_part as numbered_part, tests_of as numbered_tests}
use Rattle.nq_ir.proofs.Forms.{base_binary as numbered_binary, base_bool as numbered_bool, base_chain as numbered_chain_is, base_choose as numbered_choose, base_column as numbered_column, base_count as numbered_count, base_empty as numbered_empty, base_sum as numbered_sum, base_unary as numbered_unary}
use Rattle.normalise.specs.Raw.{TestPart, moved_base, raw_base, test_part}
use Rattle.normalise.specs.Numbers.{numbers, without, bases_numbered, gens_in_bases, tests_numbered, gens_in_parts}
use Rattle.normalise.specs.declared.raw.MovedBase.{MovedBase}
use Rattle.normalise.specs.declared.raw.RawBase.{RawBase as CodeBase}
use Rattle.normalise.specs.declared.raw.RawTest.{RawTest as CodeTest, out-RawTest}
use Rattle.normalise.proofs.Views.{base_binary, base_bool, base_chain, base_choose, base_column, base_count, base_empty, base_moved, base_sum, base_unary, test_is}
use Rattle.normalise.proofs.Numbering.{chain_has, chain_made, moved_has, moved_made, numbers_dealt, tests_are, tests_have, test_made, test_has, total_made}
use Rattle.normalise.proofs.number_base.+number_base.Goals as goal

pub number_base-returns-in-Bool : goal.number_base-returns-in-Bool
number_base-returns-in-Bool t c =
    let sc = numbers c.args.scope.now in
    let n = c.args.next in
    let old = ap raw_base c.in-Bool.is ∙ base_bool c.in-Bool.truth in
    let same : n ≡ n + 0 = omega arith in
    (numbered_bool c.in-Bool.truth ∙ ap (number_base n sc) (sym old), same ∙ ap (λ z. n + gens_in_base z) (sym old))

pub number_base-returns-in_ok-column-in-Column : goal.number_base-returns-in_ok-column-in-Column
number_base-returns-in_ok-column-in-Column t c =
    let sc = numbers c.args.scope.now in
    let n = c.args.next in
    let old = ap raw_base c.in-Column.is ∙ base_column c.in-Column.back c.in-Column.column in
    let same : n ≡ n + 0 = omega arith in (
      numbered_column c.in_ok-generator-in-Column.generator c.in_ok-column-in-Column.column
          ∙ ap₂ (λ g (l : Label). BaseTree.column g l) c.in_ok-generator-in-Column.ensures c.in_ok-column-in-Column.ensures
          ∙ ap (number_base n sc) (sym old),
      same ∙ ap (λ z. n + gens_in_base z) (sym old),
    )

pub number_base-returns-in-Moved : goal.number_base-returns-in-Moved
number_base-returns-in-Moved t c =
    let sc = numbers c.args.scope.now in
    let n = c.args.next in
    let old = ap raw_base c.in-Moved.is ∙ base_moved c.in-Moved.moved in
    IfOk-weaker c.number_moved.result _ _ (λ r h. (h.0 ∙ ap (number_base n sc) (sym old), h.1 ∙ ap (λ z. n + gens_in_base z) (sym old))) c.number_moved.ensures

pub number_base-returns-in_ok-of-in-Unary : goal.number_base-returns-in_ok-of-in-Unary
number_base-returns-in_ok-of-in-Unary t c =
    let sc = numbers c.args.scope.now in
    let n = c.args.next in
    let h = c.in_ok-of-in-Unary.ensures in
    let old = ap raw_base c.in-Unary.is ∙ base_unary c.in-Unary.op c.in-Unary.of in (
      numbered_unary c.in-Unary.op c.in_ok-of-in-Unary.of ∙ ap (BaseTree.unary c.in-Unary.op) h.0 ∙ ap (number_base n sc) (sym old),
      h.1 ∙ ap (λ z. n + gens_in_base z) (sym old),
    )

pub number_base-returns-in_ok-right-in-Binary : goal.number_base-returns-in_ok-right-in-Binary
number_base-returns-in_ok-right-in-Binary t c =
    let sc = numbers c.args.scope.now in
    let n = c.args.next in
    let a = moved_base c.in-Binary.left in
    let b = moved_base c.in-Binary.right in
    let h = c.in_ok-left-in-Binary.ensures in
    let k = c.in_ok-right-in-Binary.ensures in
    let old = ap raw_base c.in-Binary.is ∙ base_binary c.in-Binary.op c.in-Binary.left c.in-Binary.right in
    let after : c.in_ok-right-in-Binary.next ≡ n + (gens_in_base a + gens_in_base b) = omega (arith, h.1, k.1) in (
      numbered_binary c.in-Binary.op c.in_ok-left-in-Binary.left c.in_ok-right-in-Binary.right
          ∙ ap₂ (BaseTree.binary c.in-Binary.op) h.0 (k.0 ∙ ap (λ m. number_base m sc b) h.1)
          ∙ ap (number_base n sc) (sym old),
      after ∙ ap (λ z. n + gens_in_base z) (sym old),
    )

pub number_base-returns-in_ok-more-in-Chain : goal.number_base-returns-in_ok-more-in-Chain
number_base-returns-in_ok-more-in-Chain t c =
    let sc = numbers c.args.scope.now in
    let n = c.args.next in
    let op = c.in-Chain.op in
    let a = moved_base c.in-Chain.first in
    let bs = map moved_base c.in-Chain.more in
    let h = c.in_ok-first-in-Chain.ensures in
    let k = c.in_ok-more-in-Chain.ensures in
    let s = c.as_slice.ensures in
    let old = ap raw_base c.in-Chain.is ∙ base_chain op c.in-Chain.first c.in-Chain.more in
    let parts = k.0 ∙ ap₂ (λ m (l : List MovedBase). bases_numbered m sc (map moved_base l)) h.1 s in
    let past = k.1 ∙ ap₂ (λ m (l : List MovedBase). m + gens_in_bases (map moved_base l)) h.1 s in
    let after : c.in_ok-more-in-Chain.next ≡ n + (gens_in_base a + gens_in_bases bs) = omega (arith, past) in (
      numbered_chain_is op c.in_ok-first-in-Chain.first c.in_ok-more-in-Chain.more
          ∙ ap₂ (numbered_chain op) h.0 parts
          ∙ chain_made op a bs n sc
          ∙ ap (number_base n sc) (sym old),
      after ∙ ap (λ z. n + z) (chain_has op a bs) ∙ ap (λ z. n + gens_in_base z) (sym old),
    )

pub number_base-returns-in_ok-no-in-Choose : goal.number_base-returns-in_ok-no-in-Choose
number_base-returns-in_ok-no-in-Choose t c =
    let sc = numbers c.args.scope.now in
    let n = c.args.next in
    let x = moved_base c.in-Choose.test in
    let a = moved_base c.in-Choose.yes in
    let b = moved_base c.in-Choose.no in
    let h = c.in_ok-test-in-Choose.ensures in
    let k = c.in_ok-yes-in-Choose.ensures in
    let l = c.in_ok-no-in-Choose.ensures in
    let old = ap raw_base c.in-Choose.is ∙ base_choose c.in-Choose.test c.in-Choose.yes c.in-Choose.no in
    let after : c.in_ok-no-in-Choose.next ≡ n + (gens_in_base x + (gens_in_base a + gens_in_base b)) = omega (arith, h.1, k.1, l.1) in (
      numbered_choose c.in_ok-test-in-Choose.test c.in_ok-yes-in-Choose.yes c.in_ok-no-in-Choose.no
          ∙ ap (λ z. BaseTree.choose z (base_tree c.in_ok-yes-in-Choose.yes.value) (base_tree c.in_ok-no-in-Choose.no.value)) h.0
          ∙ ap₂ (BaseTree.choose (number_base n sc x)) (k.0 ∙ ap (λ m. number_base m sc a) h.1) (l.0 ∙ ap (λ m. number_base m sc b) (k.1 ∙ ap (λ m. m + gens_in_base a) h.1))
          ∙ ap (number_base n sc) (sym old),
      after ∙ ap (λ z. n + gens_in_base z) (sym old),
    )

pub number_boxed-returns : goal.number_boxed-returns
number_boxed-returns t c = (ap base_tree c.in_ok-boxed.ensures ∙ c.in_ok-base.ensures.0, c.in_ok-base.ensures.1)

pub number_base-returns-in_ok-tests-in-Empty : goal.number_base-returns-in_ok-tests-in-Empty
number_base-returns-in_ok-tests-in-Empty t c =
    let sc = numbers c.args.scope.now in
    let n = c.args.next in
    let tests = c.in-Empty.tests in
    let h = c.in_ok-tests-in-Empty.ensures in
    let s = c.as_slice-in-Empty.ensures in
    let old = ap raw_base c.in-Empty.is ∙ base_empty tests in (
      numbered_empty c.in_ok-tests-in-Empty.tests
          ∙ ap (λ l. BaseTree.empty (numbered_tests l)) (h.0 ∙ ap (λ (z : List CodeTest). tests_numbered n sc (map test_part z)) s)
          ∙ ap BaseTree.empty (sym (tests_are n sc (map test_part tests)))
          ∙ ap (number_base n sc) (sym old),
      h.1 ∙ ap (λ (z : List CodeTest). n + gens_in_parts (map test_part z)) s ∙ ap (λ z. n + z) (sym (tests_have (map test_part tests))) ∙ ap (λ z. n + gens_in_base z) (sym old),
    )

pub number_base-returns-in_ok-test-in-Count : goal.number_base-returns-in_ok-test-in-Count
number_base-returns-in_ok-test-in-Count t c =
    let sc = numbers c.args.scope.now in
    let n = c.args.next in
    let p = test_part c.in-Count.test in
    let h = c.in_ok-test-in-Count.ensures in
    let old = ap raw_base c.in-Count.is ∙ base_count c.in-Count.test in
    let after : c.in_ok-test-in-Count.next ≡ n + (length p.tables + (gens_in_conds p.conds + 0)) = omega (arith, h.1) in (
      numbered_count c.in_ok-test-in-Count.test
          ∙ ap (λ (z : NumberedPart). BaseTree.total HowMany z.gens z.conds (BaseTree.literal (cell.Int (pos 1)))) h.0
          ∙ ap (number_base n sc) (sym old),
      after ∙ ap (λ z. n + gens_in_base z) (sym old),
    )

pub number_base-returns-in_ok-value-in-Sum : goal.number_base-returns-in_ok-value-in-Sum
number_base-returns-in_ok-value-in-Sum t c =
    let sc = numbers c.args.scope.now in
    let n = c.args.next in
    let x = c.in-Sum.over in
    let p = test_part x in
    let b = moved_base c.in-Sum.value in
    let count = c.len.result in
    let a : count ≡ length (out-RawTest x).tables = search rules in
    let many : count ≡ length p.tables = a ∙ ap (λ (q : TestPart). length q.tables) (sym (test_is x)) in
    let h = c.in_ok-over-in-Sum.ensures in
    let k = c.in_ok-value-in-Sum.ensures in
    let start = c.in_ok-over-in-Sum.next in
    let i = numbers_dealt n count c.args.scope in
    let old = ap raw_base c.in-Sum.is ∙ base_sum x c.in-Sum.value in
    let after : c.in_ok-value-in-Sum.next ≡ n + (length p.tables + (gens_in_conds p.conds + gens_in_base b)) = omega (arith, h.1, k.1) in (
      numbered_sum c.in_ok-over-in-Sum.over c.in_ok-value-in-Sum.value
          ∙ total_made SumOf n count start sc p (numbered_part c.in_ok-over-in-Sum.over) (base_tree c.in_ok-value-in-Sum.value.value) b many h.0 h.1 (k.0 ∙ ap (λ (z : List ℕ). number_base start z b) i)
          ∙ ap (number_base n sc) (sym old),
      after ∙ ap (λ z. n + gens_in_base z) (sym old),
    )

pub number_moved-returns : goal.number_moved-returns
number_moved-returns t c =
    let m = c.args.moved.now in
    let sc = numbers c.args.scope.now in
    let n = c.args.next in
    let within : numbers c.without-inner.result ≡ without m.more m.from sc = c.without-inner.ensures in
    IfOk-weaker c.number_base.result _ _
    (λ r h. (
      h.0 ∙ ap₂ (λ (z : List ℕ) (b : CodeBase). number_base n z (raw_base b)) within c.deref.ensures ∙ moved_made m n sc,
      h.1 ∙ ap (λ (b : CodeBase). n + gens_in_base (raw_base b)) c.deref.ensures ∙ ap (λ z. n + z) (moved_has m),
    ))
    c.number_base.ensures

pub number_test-returns : goal.number_test-returns
number_test-returns t c =
    let sc = numbers c.args.scope.now in
    let count = c.len-count.result in
    let m = c.in_ok-start.start in
    let x = c.args.test.now in
    let a : count ≡ length (out-RawTest x).tables = search rules in
    let b : m ≡ c.args.next + count = search rules in
    let g = c.in_ok-gens.ensures ∙ ap (number_gens c.args.next) c.as_slice.ensures in
    let h = c.in_ok-conds.ensures in
    let s = c.as_slice-2.ensures in
    let i = numbers_dealt c.args.next count c.args.scope in (
      test_made c.args.next count m sc x c.in_ok-gens.gens c.in_ok-conds.conds a b g (h.0 ∙ ap₂ (λ (z : List ℕ) (y : List MovedBase). bases_numbered m z (map moved_base y)) i s),
      test_has c.args.next count m c.in_ok-conds.after x a b (h.1 ∙ ap (λ (y : List MovedBase). m + gens_in_bases (map moved_base y)) s),
    )
