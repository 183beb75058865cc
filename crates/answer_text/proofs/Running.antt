-- Runs of places that are put in order, one more at a time.
use Rattle.std.proofs.Common.{◌≡◌, ℕ, ℤ, suc, ◌+◌, ◌-◌, ◌<◌, ◌≤◌, List, [], ◌∷◌, ◌++◌, refl, sym}
use Rattle.std.proofs.Common.{ap, ap₂, ◌∙◌, subst, Bool, true, false, cond, map, filter, get_or}
use Rattle.std.proofs.Common.{length, min, take, drop, slice_range, All, arith, append-nil}
use Rattle.std.proofs.Common.{length-take, length-drop, IsPermutation}
use borrow.Rule.Slice.PartMut.{mid_of, put_mid}
use Rattle.std.proofs.lemmas.List.{drop-drop, get_or-drop, length-map, take_all}
use Rattle.std.proofs.lemmas.List.Sorted.{IsPermutation-put_mid, length_permutation}
use Rattle.std.proofs.lemmas.Slice.{between_is, between-put_mid, drop-put_mid, take-put_mid_below}
use Rattle.std.specs.List.{AllByRecursion as Each}
use Rattle.std.specs.List.Sorted.{IsSortedByKey}
use Rattle.std.specs.Ordering.{is_gt}
use Rattle.nq_model.specs.Canonical.{value_cmp}
use Rattle.nq_model.specs.Orders.{put_by, sorted_by}
use Rattle.nq_model.specs.Values.{Nested}
use Rattle.nq_model.specs.declared.table.Cell.{Cell}
use Rattle.nq_model.proofs.Canonical.{value_order}
use Rattle.rows.specs.Places.{row_at}
use Rattle.canon.proofs.Sorting.{sorted_by_key}
use Rattle.answer_text.specs.Indexes.{index_cmp, is_index}
use Rattle.answer_text.specs.Members.{under, AreInOrder, AreInRuns}
use Rattle.answer_text.specs.Parts.{value_in}
use Rattle.answer_text.specs.Spans.{index_of, span_under, spanned, HasOneMore}
use Rattle.answer_text.specs.declared.part.Part.{Part}
use Rattle.answer_text.specs.declared.spans.Spans.{Spans}
use Rattle.answer_text.proofs.Spanning.{same_index, take_split, filter_both, filter_all, filter_no, each_also, run_each}
use Rattle.answer_text.proofs.Fresh.{IsFresh, next_fresh}

-- up to a place the runs are in order, each in its span, and behind it the places are as before
pub record AreSortedTo (element : Part) (rows : List (List Cell)) (before now : List ℕ)
    (spans : Spans) (done : ℕ) : Type 0 where
  pub long : length now ≡ length before
  pub within : done ≤ length before
  pub rest : drop done now ≡ drop done before
  pub ended : (i : ℤ × ℤ) → (span_under spans i).1 ≤ done
  pub in_runs : AreInRuns element rows (take done before) now spans
  pub fresh : IsSortedByKey (index_of rows) index_cmp before → IsFresh rows before done

put_some : (v : Nested) (vs : List Nested) → [] ≡ put_by value_cmp v vs → ⊥
put_some v [] e = let n : 0 ≡ 1 = ap length e in omega (arith, n)
put_some v (w ∷ ws) e = go (is_gt (value_cmp v w)) e
  where
    go : (b : Bool) → [] ≡ cond b (w ∷ put_by value_cmp v ws) (v ∷ w ∷ ws) → ⊥
    go true h = let n : 0 ≡ suc (length (put_by value_cmp v ws)) = ap length h in omega (arith, n)
    go false h = let n : 0 ≡ suc (suc (length ws)) = ap length h in omega (arith, n)

-- what is sorted to nothing is nothing
none_sorted : (view : ℕ → Nested) (xs : List ℕ) → [] ≡ sorted_by value_cmp (map view xs) → xs ≡ []
none_sorted view [] e = refl
none_sorted view (x ∷ xs) e = absurd (put_some (view x) (sorted_by value_cmp (map view xs)) e)

-- a span that ends before a place, after places behind it are changed
span_kept : (now new : List ℕ) (s e start : ℕ) → e ≤ start → take e new ≡ take e now
    → slice_range new s e ≡ slice_range now s e
span_kept now new s e start low same = between_is new s e ∙ ap (drop s) same
    ∙ sym (between_is now s e)

module _ (element : Part) (rows : List (List Cell)) where
  abbrev value_at : ℕ → Nested
  value_at p = value_in element (row_at rows p)

  abbrev pass : ℤ × ℤ → ℕ → Bool
  pass i p = is_index (index_of rows p) i

  pub none_done : (places : List ℕ) (spans : Spans) → ((i : ℤ × ℤ) → span_under spans i ≡ (0, 0))
      → AreSortedTo element rows places places spans 0
  none_done places spans none = record {
    long = refl;
    within = omega arith;
    rest = refl;
    ended = λ i. let end : (span_under spans i).1 ≡ 0 = ap (λ (s : ℕ × ℕ). s.1) (none i) in omega (arith, end);
    in_runs = λ i. ap (λ (s : ℕ × ℕ). map value_at (slice_range places s.0 s.1)) (none i);
    fresh = λ up below. refl;
  }

  -- at the end all runs are in order
  pub all_done : (before now : List ℕ) (spans : Spans) (done : ℕ) → length now ≤ done
      → AreSortedTo element rows before now spans done → AreInRuns element rows before now spans
  all_done before now spans done past inv i =
      let whole : take done before ≡ before = take_all done before
      (omega (arith, past, inv.long)) in
      inv.in_runs i ∙ ap (λ (l : List ℕ). sorted_by value_cmp (map value_at (under rows l i))) whole

  module _ (before now : List ℕ) (spans : Spans) (start : ℕ) (index : ℤ × ℤ)
      (inv : AreSortedTo element rows before now spans start) (here : start < length now)
      (own : index ≡ index_of rows (get_or now start 0)) where
    below : start < length before
    below = omega (arith, here, inv.long)

    first : get_or now start 0 ≡ get_or before start 0
    first =
        let same : start + 0 ≡ start = omega arith in
        ap (λ (n : ℕ). get_or now n 0) (sym same) ∙ sym (get_or-drop start now 0 0)
        ∙ ap (λ (l : List ℕ). get_or l 0 0) inv.rest ∙ get_or-drop start before 0 0
        ∙ ap (λ (n : ℕ). get_or before n 0) same

    own_before : index ≡ index_of rows (get_or before start 0)
    own_before = own ∙ ap (index_of rows) first

    -- where places stand in the order of their indexes, no span is under the index of the next
    pub not_parted : (span_under spans index).0 < (span_under spans index).1
        → ¬ IsSortedByKey (index_of rows) index_cmp before
    not_parted some up =
        let s : ℕ = (span_under spans index).0 in
        let e : ℕ = (span_under spans index).1 in
        let new : under rows (take start before) index ≡ []
        = subst (λ (i : ℤ × ℤ). under rows (take start before) i ≡ []) (sym own_before)
        (inv.fresh up below) in
        let none : map value_at (slice_range now s e) ≡ [] = inv.in_runs index
        ∙ ap (λ (l : List ℕ). sorted_by value_cmp (map value_at l)) new in
        let long : length (slice_range now s e) ≡ min (e - s) (length now - s)
        = length-take (e - s) (drop s now) ∙ ap (min (e - s)) (length-drop s now) in
        let count : length (slice_range now s e) ≡ 0 = sym
        (length-map (slice_range now s e) value_at) ∙ ap length none in
        let low : e ≤ start = inv.ended index in
        omega (arith, some, low, here, long, count)

    module _ (run end : ℕ) (rest : List ℕ) (rest_is : rest ≡ drop (start + 1) now)
        (low : run ≤ length rest) (all : All (λ p. is_index (index_of rows p) index ≡ true)
        (take run rest))
        (ends : run < length rest → is_index (index_of rows (get_or rest run 0)) index ≡ false) (end_is : end ≡ start + 1 + run) where
      behind_is : rest ≡ drop (start + 1) before
      behind_is = rest_is ∙ sym (drop-drop 1 start now) ∙ ap (λ (l : List ℕ). drop 1 l) inv.rest
          ∙ drop-drop 1 start before

      rest_long : length rest ≡ length before - (start + 1)
      rest_long = ap length behind_is ∙ length-drop (start + 1) before

      within : end ≤ length before
      within = omega (arith, low, rest_long, below, end_is)

      run_all : All (λ p. is_index (index_of rows p) index ≡ true)
          (take run (drop (start + 1) before))
      run_all = subst (λ (l : List ℕ). All (λ p. is_index (index_of rows p) index ≡ true)
          (take run l)) behind_is all

      each : Each (λ p. is_index (index_of rows p) index ≡ true) (slice_range before start end)
      each = run_each rows before start run end index below end_is own_before run_all

      same_run : mid_of start (end - start) now ≡ slice_range before start end
      same_run = ap (λ (l : List ℕ). take (end - start) l) inv.rest

      run_long : length (mid_of start (end - start) now) ≡ end - start
      run_long =
          let long : length (slice_range before start end)
          ≡ min (end - start) (length before - start)
          = length-take (end - start) (drop start before)
          ∙ ap (min (end - start)) (length-drop start before) in
          ap length same_run ∙ omega (arith, long, within)

      -- the places up to the end of the run, under an index
      whole : (i : ℤ × ℤ) → under rows (take end before) i ≡ under rows (take start before) i
          ++ filter (pass i) (slice_range before start end)
      whole i = ap (filter (pass i)) (take_split before start (end - start) end
          (omega (arith, end_is))) ∙ filter_both (pass i) (take start before)
          (slice_range before start end)

      module _ (more : Spans) (part : List ℕ) (free : (span_under spans index).1 ≤
          (span_under spans index).0) (permuted : IsPermutation
          (mid_of start (end - start) now) part)
          (up : IsSortedByKey value_at value_cmp part) (put : HasOneMore spans more index (start, end)) where
        abbrev new : List ℕ
        new = put_mid start (end - start) now part

        part_long : length part ≡ end - start
        part_long = length_permutation (mid_of start (end - start) now) part permuted ∙ run_long

        none_before : under rows (take start before) index ≡ []
        none_before =
            let s : ℕ = (span_under spans index).0 in
            let e : ℕ = (span_under spans index).1 in
            let empty : e - s ≡ 0 = omega (arith, free) in
            let none : spanned spans now index ≡ [] = ap (λ (k : ℕ). take k (drop s now)) empty in
            none_sorted value_at (under rows (take start before) index)
            (sym (ap (map value_at) none) ∙ inv.in_runs index)

        now_span : (i : ℤ × ℤ) (b : Bool) → is_index index i ≡ b → span_under more i
            ≡ cond b (start, end) (span_under spans i)
        now_span i b e = put i ∙ ap (λ (c : Bool). cond c (start, end) (span_under spans i)) e

        runs_more : (i : ℤ × ℤ) (b : Bool) → is_index index i ≡ b
            → AreInOrder element rows (under rows (take end before) i) (spanned more new i)
        runs_more i true e =
            let same : index ≡ i = same_index index i e in
            let now_is : spanned more new i ≡ part = ap (λ (s : ℕ × ℕ). slice_range new s.0 s.1)
            (now_span i true e) ∙ between-put_mid start (end - start) now part end
            (omega (arith, here)) part_long in
            let earlier : under rows (take start before) i ≡ []
            = subst (λ (k : ℤ × ℤ). under rows (take start before) k ≡ []) same none_before in
            let kept : filter (pass i) (slice_range before start end) ≡ slice_range before start end
            = filter_all (pass i) (slice_range before start end)
            (each_also (λ p. is_index (index_of rows p) index ≡ true) (λ p. pass i p ≡ true)
            (λ p h. subst (λ (k : ℤ × ℤ). is_index (index_of rows p) k ≡ true) same h)
            (slice_range before start end) each) in
            let all_of : under rows (take end before) i ≡ mid_of start (end - start) now = whole i
            ∙ ap₂ (λ (xs ys : List ℕ). xs ++ ys) earlier kept ∙ sym same_run in
            ap (map value_at) now_is ∙ sorted_by_key value_cmp value_at value_order
            (mid_of start (end - start) now) part permuted up
            ∙ ap (λ (l : List ℕ). sorted_by value_cmp (map value_at l)) (sym all_of)
        runs_more i false e =
            let s : ℕ = (span_under spans i).0 in
            let t : ℕ = (span_under spans i).1 in
            let early : t ≤ start = inv.ended i in
            let now_is : spanned more new i ≡ spanned spans now i
            = ap (λ (s : ℕ × ℕ). slice_range new s.0 s.1) (now_span i false e)
            ∙ span_kept now new s t start early (take-put_mid_below start
            (end - start) now part t early (omega (arith, here))) in
            let none : filter (pass i) (slice_range before start end) ≡ []
            = filter_no (pass i) (slice_range before start end)
            (each_also (λ p. is_index (index_of rows p) index ≡ true) (λ p. pass i p ≡ false)
            (λ p h. ap (λ (k : ℤ × ℤ). is_index k i) (same_index (index_of rows p) index h)
            ∙ e) (slice_range before start end) each) in
            let all_of : under rows (take end before) i ≡ under rows (take start before) i = whole i
            ∙ ap (λ (ys : List ℕ). under rows (take start before) i ++ ys) none
            ∙ append-nil (under rows (take start before) i) in
            ap (map value_at) now_is ∙ inv.in_runs i ∙ ap
            (λ (l : List ℕ). sorted_by value_cmp (map value_at l)) (sym all_of)

        ended_more : (i : ℤ × ℤ) (b : Bool) → is_index index i ≡ b → (span_under more i).1 ≤ end
        ended_more i true e = let is : (span_under more i).1 ≡ end = ap (λ (s : ℕ × ℕ). s.1) (now_span i true e) in omega (arith, is)
        ended_more i false e =
            let is : (span_under more i).1 ≡ (span_under spans i).1
            = ap (λ (s : ℕ × ℕ). s.1) (now_span i false e) in
            let early : (span_under spans i).1 ≤ start = inv.ended i in
            omega (arith, is, early, end_is)

        next_is : get_or rest run 0 ≡ get_or before end 0
        next_is =
            let place : start + 1 + run ≡ end = omega (arith, end_is) in
            ap (λ (l : List ℕ). get_or l run 0) behind_is ∙ get_or-drop (start + 1) before run 0
            ∙ ap (λ (n : ℕ). get_or before n 0) place

        rest_kept : drop end new ≡ drop end before
        rest_kept =
            let all_to : start + (end - start) ≡ end = omega (arith, end_is) in
            let further : (l : List ℕ) → drop (end - start) (drop start l) ≡ drop end l
            = λ l. drop-drop (end - start) start l ∙ ap (λ (n : ℕ). drop n l) all_to in
            drop-put_mid start (end - start) now part end (omega (arith, all_to))
            (omega (arith, here)) part_long
            ∙ sym (further now) ∙ ap (λ (l : List ℕ). drop (end - start) l) inv.rest
            ∙ further before

        -- one run more
        pub one_more : AreSortedTo element rows before new more end
        one_more = record {
          long = length_permutation now new (IsPermutation-put_mid start
              (end - start) now part permuted) ∙ inv.long;
          within = within;
          rest = rest_kept;
          ended = λ i. ended_more i (is_index index i) refl;
          in_runs = λ i. runs_more i (is_index index i) refl;
          fresh = λ sorted. next_fresh rows before sorted start run end index below end_is
              own_before run_all
              (λ further. ap (λ (p : ℕ). is_index (index_of rows p) index) (sym next_is)
              ∙ ends (omega (arith, further, rest_long, end_is)));
        }
