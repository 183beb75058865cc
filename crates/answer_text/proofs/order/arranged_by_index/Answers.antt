use Rattle.std.proofs.Common.{ℕ, List, Bool, true, false, length, refl, rules, IsPermutation}
use Rattle.std.specs.Prelude.{IsTrue, IsFalse}
use Rattle.std.specs.List.Sorted.{IsSortedByKey}
use Rattle.std.proofs.lemmas.Fn.{always_returns_same}
use Rattle.std.proofs.lemmas.List.Sorted.{ranks_by, IsPermutation-trans}
use Rattle.nq_model.specs.Numberings.{count_from}
use Rattle.answer_text.specs.Indexes.{index_cmp}
use Rattle.answer_text.specs.Spans.{index_of}
use Rattle.answer_text.proofs.Fresh.{index_total}
use Rattle.answer_text.proofs.Grouping.{runs_moved, runs_of_all}
use Rattle.answer_text.proofs.order.arranged_by_index.Goals as goal

is_whole : (b : Bool) → (IsFalse b → ⊥) → IsTrue b
is_whole true h = refl
is_whole false h = absurd (h refl)

pub returns : goal.returns
returns c =
    let rows = c.args.rows.now in
    let element = c.args.element.now in
    let before : List ℕ = c.sort_unstable_by.new.self.items in
    let sorted : IsSortedByKey (index_of rows) index_cmp before
    = c.sort_unstable_by.ensures.sorted _ (ranks_by index_total (index_of rows))
    (always_returns_same _ _ _ (λ a r f h. (search rules, search rules))) in
    let permuted : IsPermutation (count_from 0 (length rows)) before
    = IsPermutation-trans _ _ _ c.in_ok-places.ensures.places
    c.sort_unstable_by.ensures.permutation in
    let whole = is_whole c.in_ok-sort_listed_runs.field-0
    (λ parted. c.in_ok-sort_listed_runs.ensures.parted parted sorted) in
    runs_of_all element rows (count_from 0 (length rows)) before c.from_vec-places.result
    c.sort_listed_runs.new.spans permuted
    (runs_moved element rows before before c.sort_listed_runs.new.places.items
    c.from_vec-places.result c.sort_listed_runs.new.spans refl c.from_vec-places.ensures
    (c.in_ok-sort_listed_runs.ensures.whole whole))
