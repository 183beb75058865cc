-- Rows that stand in order by rank are put in order run by run.
use Rattle.std.proofs.Common.{◌≡◌, ℕ, ◌+◌, ◌-◌, ◌<◌, ◌≤◌, Bool, false, List, ◌∷◌, ◌++◌, map, take, drop, length, get_or, refl, sym, ap, ap₂, ◌∙◌, subst, inl, inr, arith, IsPermutation, length-take, length-drop, true≢false}
use borrow.Rule.Slice.PartMut.{mid_of, post_of, put_mid, same_len_mid}
use Rattle.std.proofs.lemmas.Bool.{cases_lt}
use Rattle.std.proofs.lemmas.List.{length-map, get_or-map, take-map, drop-map, map-append, get_or_append_left, get_or-append_right, get_or-take, get_or-drop, get_or_default, length-take-le, drop-drop}
use Rattle.std.proofs.lemmas.List.Elements.{All-map}
use Rattle.std.proofs.lemmas.List.Sorted.{All-permutation, IsPermutation-trans, IsPermutation-put_mid, length_permutation, sorted_far, ranks_by}
use Rattle.std.proofs.lemmas.Slice.{drop-put_mid}
use Rattle.std.specs.List.{All}
use Rattle.std.specs.List.Sorted.{IsSorted, IsSortedBy, IsSortedWithin}
use Rattle.std.specs.declared.cmp.Ordering.{Ordering}
use Rattle.std.specs.declared.cmp.Ordering.TheVariants.{Less, Equal, Greater}
use Rattle.std.specs.Ordering.{is_lt, nat_cmp, ordering_then, ordering_reverse}
use Rattle.std.specs.Cmp.{IsTotalOrder, ranked as compared, tied_itself}
use Rattle.std.specs.Cmp.Lexicographic.{slice_cmp, lists_total}
use Rattle.nq_model.specs.Cells.{cell_cmp}
use Rattle.nq_model.specs.declared.table.Cell.{Cell}
use Rattle.nq_model.proofs.Canonical.{cell_order}
use Rattle.row_order.specs.declared.ranks.Ranked.{Ranked}
use Rattle.row_order.specs.declared.heads.Frame.{Frame}
use Rattle.row_order.specs.Heads.{head_of}
use Rattle.row_order.specs.Keys.{cell_at, key_of}
use Rattle.row_order.specs.Ranks.{rank_cmp, ranked_at}
use Rattle.rows.specs.Places.{row_at}
use Rattle.row_order.specs.Runs.{AreInOrder, HaveOneCell, HaveOneRank, places_of}
use Rattle.row_order.proofs.Comparing.{then_equal}
use Rattle.row_order.proofs.Ranking.{head_order, cells_follow}

-- a fact of each image is one of each element
pub unmapped : {X Y : Type 0} (P : Y → Type 0) (f : X → Y) (xs : List X) → All P (map f xs) → All (λ x. P (f x)) xs
unmapped P f xs all k d h =
    subst P (get_or-map f xs k d (f d) h) (all k (f d) (rw length-map h))

map-put_mid : {X Y : Type 0} (f : X → Y) (a k : ℕ) (xs ys : List X) → map f (put_mid a k xs ys) ≡ put_mid a k (map f xs) (map f ys)
map-put_mid f a k xs ys = simp (map-append, take-map, drop-map)

mid_below : {X : Type 0} (now run : List X) (s n k : ℕ) (d : X) → s ≤ length now → k < s → get_or (put_mid s n now run) k d ≡ get_or now k d
mid_below now run s n k d h b =
    let e : k < length (take s now) = rw length-take (omega arith) in
    get_or_append_left (take s now) (run ++ post_of s n now) d k e ∙ get_or-take s now k d b

mid_within : {X : Type 0} (now run : List X) (s n k : ℕ) (d : X) → s ≤ length now → length run ≡ n → s ≤ k → k < s + n → get_or (put_mid s n now run) k d ≡ get_or run (k - s) d
mid_within now run s n k d h e from below =
    get_or-append_right (take s now) (run ++ post_of s n now) s k d (length-take-le s now h) from
    ∙ get_or_append_left run (post_of s n now) d (k - s) (omega arith)

mid_above : {X : Type 0} (now run : List X) (s n k : ℕ) (d : X) → s ≤ length now → length run ≡ n → s + n ≤ k → get_or (put_mid s n now run) k d ≡ get_or now k d
mid_above now run s n k d h e from =
    get_or-append_right (take s now) (run ++ post_of s n now) s k d (length-take-le s now h) (omega arith)
    ∙ get_or-append_right run (post_of s n now) n (k - s) d e (omega arith)
    ∙ get_or-drop n (drop s now) (k - s - n) d
    ∙ get_or-drop s now (n + (k - s - n)) d
    ∙ ap (λ (j : ℕ). get_or now j d) (omega arith)

-- a fact of places stays with the rows, however they move
pub kept : {X P : Type 0} (Q : P → Type 0) (place : X → P) (before now : List X) → IsPermutation (map place before) (map place now) → All (λ x. Q (place x)) before → All (λ x. Q (place x)) now
kept Q place before now p all = unmapped Q place now (All-permutation Q (map place before) (map place now) p (All-map Q place before all))

module _ {X P K : Type 0} (place : X → P) (digit : P → K) (cmp : K → K → Ordering) (lt : X → X → Bool) where
  abbrev pub at : X → K
  at x = digit (place x)

  -- what stands before s is in order, and no run of one digit goes across s
  pub record RefinedBy (before now : List X) (s : ℕ) : Type 0 where
    pub within : s ≤ length now
    pub long : length now ≡ length before
    pub moved : IsPermutation (map place before) (map place now)
    pub ahead : drop s now ≡ drop s before
    pub digits : (k : ℕ) (d : X) → at (get_or now k d) ≡ at (get_or before k d)
    pub sorted : IsSortedWithin lt now 0 s
    pub apart : (d : X) → 0 < s → s < length before → cmp (at (get_or before (s - 1) d)) (at (get_or before s d)) ≡ Less

  module _ (follows : (x y : X) → cmp (at x) (at y) ≡ Less → lt y x ≡ false) (before now run : List X) (s t : ℕ) (c : K)
      (r : RefinedBy before now s) (some : s < t) (most : t ≤ length now)
      (ties : (k : ℕ) (d : X) → s ≤ k → k < t → at (get_or before k d) ≡ c)
      (next : (d : X) → t < length before → cmp c (at (get_or before t d)) ≡ Less)
      (p : IsPermutation (map place (mid_of s (t - s) now)) (map place run)) (up : IsSortedBy lt run) where
    abbrev after : List X
    after = put_mid s (t - s) now run

    long_part : length (mid_of s (t - s) now) ≡ t - s
    long_part = rw (length-take, length-drop) (omega arith)

    long_run : length run ≡ t - s
    long_run =
        let e : length (map place run) ≡ length (map place (mid_of s (t - s) now)) = length_permutation (map place (mid_of s (t - s) now)) (map place run) p in
        sym (length-map run place) ∙ e ∙ length-map (mid_of s (t - s) now) place ∙ long_part

    as_long : length after ≡ length now
    as_long = same_len_mid s (t - s) now run (long_run ∙ sym long_part)

    under : s ≤ length now
    under = omega arith

    ahead_after : drop t after ≡ drop t before
    ahead_after =
        let whole : s + (t - s) ≡ t = omega arith in
        let there : drop t now ≡ drop (t - s) (drop s now) = sym (drop-drop (t - s) s now ∙ ap (λ (n : ℕ). drop n now) whole) in
        let was : drop t before ≡ drop (t - s) (drop s before) = sym (drop-drop (t - s) s before ∙ ap (λ (n : ℕ). drop n before) whole) in
        drop-put_mid s (t - s) now run t (omega arith) under long_run ∙ there ∙ ap (drop (t - s)) r.ahead ∙ sym was

    one_digit : All (λ x. at x ≡ c) run
    one_digit =
        let part : All (λ x. at x ≡ c) (mid_of s (t - s) now) = λ k d h.
        let b : k < t - s = omega (arith, h, long_part) in
        let there : get_or (mid_of s (t - s) now) k d ≡ get_or now (s + k) d = get_or-take (t - s) (drop s now) k d b ∙ get_or-drop s now k d in
        ap at there ∙ r.digits (s + k) d ∙ ties (s + k) d (omega arith) (omega arith)
        in
        let Q : P → Type 0 = λ q. digit q ≡ c in
        kept Q place (mid_of s (t - s) now) run p part

    moved_after : IsPermutation (map place before) (map place after)
    moved_after =
        let part : IsPermutation (mid_of s (t - s) (map place now)) (map place run) = rw (drop-map, take-map) p in
        let whole : IsPermutation (map place now) (put_mid s (t - s) (map place now) (map place run)) = IsPermutation-put_mid s (t - s) (map place now) (map place run) part in
        IsPermutation-trans (map place before) (map place now) (map place after) r.moved (rw (map-put_mid place s (t - s) now run) whole)

    digits_after : (k : ℕ) (d : X) → at (get_or after k d) ≡ at (get_or before k d)
    digits_after k d =
        elim (cases_lt k s) [
          | inl below ↦ ap at (mid_below now run s (t - s) k d under below) ∙ r.digits k d
          | inr from ↦ elim (cases_lt k t) [
            | inl below ↦ ap at (mid_within now run s (t - s) k d under long_run from (omega arith)) ∙ one_digit (k - s) d (omega (arith, long_run)) ∙ sym (ties k d from below)
            | inr past ↦ ap at (mid_above now run s (t - s) k d under long_run (omega arith)) ∙ r.digits k d
          ]
        ]

    sorted_after : IsSortedWithin lt after 0 t
    sorted_after k d low h =
        elim (cases_lt (k + 1) s) [
          | inl below ↦
              let one : get_or after k d ≡ get_or now k d = mid_below now run s (t - s) k d under (omega arith) in
              let next : get_or after (k + 1) d ≡ get_or now (k + 1) d = mid_below now run s (t - s) (k + 1) d under below in
              ap₂ lt next one ∙ r.sorted k d low below
          | inr from ↦ elim (cases_lt k s) [
            | inl last ↦
                let place_is : k ≡ s - 1 = omega arith in
                let next_is : k + 1 ≡ s = omega arith in
                let less : cmp (at (get_or after k d)) (at (get_or after (k + 1) d)) ≡ Less =
                ap₂ cmp (digits_after k d ∙ ap (λ (j : ℕ). at (get_or before j d)) place_is) (digits_after (k + 1) d ∙ ap (λ (j : ℕ). at (get_or before j d)) next_is)
                ∙ r.apart d (omega arith) (omega (arith, r.long)) in
                follows (get_or after k d) (get_or after (k + 1) d) less
            | inr on ↦
                let one : get_or after k d ≡ get_or run (k - s) d = mid_within now run s (t - s) k d under long_run on (omega arith) in
                let next : get_or after (k + 1) d ≡ get_or run (k - s + 1) d =
                mid_within now run s (t - s) (k + 1) d under long_run (omega arith) (omega arith) ∙ ap (λ (j : ℕ). get_or run j d) (omega arith) in
                ap₂ lt next one ∙ up (k - s) d (omega arith) (omega (arith, long_run))
          ]
        ]

    -- one run more is in order
    pub refined_more : RefinedBy before after t
    refined_more = record {
      within = omega (arith, as_long);
      long = as_long ∙ r.long;
      moved = moved_after;
      ahead = ahead_after;
      digits = digits_after;
      sorted = sorted_after;
      apart = λ d h k. ap (λ (x : K). cmp x (at (get_or before t d))) (ties (t - 1) d (omega arith) (omega arith)) ∙ next d k;
    }

-- ---- rows by a column

pub keys_total : IsTotalOrder (slice_cmp cell_cmp)
keys_total = lists_total cell_order.total

same_cell : (c : Cell) → cell_cmp c c ≡ Equal
same_cell c = tied_itself cell_order.total c

module _ (rows : List (List Cell)) (column : ℕ) (later : List ℕ) where
  abbrev cell : ℕ → Cell
  cell place = cell_at column (row_at rows place)

  abbrev behind : ℕ → List Cell
  behind place = key_of later (row_at rows place)

  abbrev by_cells : Ranked → Ranked → Bool
  by_cells l r = is_lt (slice_cmp cell_cmp (cell l.place ∷ behind l.place) (cell r.place ∷ behind r.place))

  -- rows of one cell are in order where the cells behind it are
  pub one_column : (ranks : List Ranked) → HaveOneCell rows column ranks → AreInOrder rows later ranks → AreInOrder rows (column ∷ later) ranks
  one_column ranks one up k d low h =
      let next : Ranked = get_or ranks (k + 1) d in
      let this : Ranked = get_or ranks k d in
      let same : cell_cmp (cell next.place) (cell this.place) ≡ Equal = ap₂ cell_cmp (one.1 (k + 1) d h) (one.1 k d (omega (arith, h))) ∙ same_cell one.0 in
      ap is_lt (then_equal (cell_cmp (cell next.place) (cell this.place)) (slice_cmp cell_cmp (behind next.place) (behind this.place)) same) ∙ up k d low h

  module _ (frame : Frame) where
    abbrev head_at : ℕ → ℕ
    head_at place = head_of frame (cell place)

    abbrev IsRanked : Ranked → Type 0
    IsRanked r = r ≡ ranked_at rows column frame r.place

    column_follows : (l r : Ranked) → nat_cmp (head_at l.place) (head_at r.place) ≡ Less → by_cells r l ≡ false
    column_follows l r e =
        let first : cell_cmp (cell l.place) (cell r.place) ≡ Less = cells_follow frame (cell l.place) (cell r.place) (compared (head_at l.place) (head_at r.place) Less (sym e)) in
        let less : slice_cmp cell_cmp (cell l.place ∷ behind l.place) (cell r.place ∷ behind r.place) ≡ Less =
        ap (λ (o : Ordering). ordering_then o (slice_cmp cell_cmp (behind l.place) (behind r.place))) first in
        ap is_lt (keys_total.antisymm (cell r.place ∷ behind r.place) (cell l.place ∷ behind l.place) ∙ ap ordering_reverse less)

    ranks_compare : (l r : Ranked) → IsRanked l → IsRanked r → nat_cmp (head_at l.place) (head_at r.place) ≡ rank_cmp l r
    ranks_compare l r l_is r_is = ap₂ rank_cmp (sym l_is) (sym r_is)

  -- of rows that stood in order by rank, those before a place are in order by their cells
  pub record Refined (before now : List Ranked) (start : ℕ) : Type 0 where
    pub frame : Frame
    pub ranked : All (IsRanked frame) before
    pub state : RefinedBy (λ (r : Ranked). r.place) (head_at frame) nat_cmp by_cells before now start

  above_only : (q r : Ordering) → r ≡ ordering_reverse q → is_lt r ≡ false → (q ≡ Equal → ⊥) → q ≡ Less
  above_only Less r e low apart = refl
  above_only Equal r e low apart = absurd (apart refl)
  above_only Greater r e low apart = absurd (true≢false (sym (ap is_lt e) ∙ low))

  module _ (before now run : List Ranked) (start next : ℕ)
      (sorted : IsSorted rank_cmp before) (r : Refined before now start)
      (some : start < next) (within : next ≤ length now) (ties : HaveOneRank now start next)
      (apart : next < length now → (d : Ranked) → rank_cmp (get_or now start d) (get_or now next d) ≡ Equal → ⊥)
      (p : IsPermutation (places_of (mid_of start (next - start) now)) (places_of run)) (up : AreInOrder rows (column ∷ later) run) where
    abbrev key : Ranked → ℕ
    key ranked = head_at r.frame ranked.place

    abbrev any : Ranked
    any = ranked_at rows column r.frame 0

    as_before : (k : ℕ) (d : Ranked) → start ≤ k → get_or now k d ≡ get_or before k d
    as_before k d from =
        let place_is : start + (k - start) ≡ k = omega arith in
        ap (λ (j : ℕ). get_or now j d) (sym place_is) ∙ sym (get_or-drop start now (k - start) d)
        ∙ ap (λ (l : List Ranked). get_or l (k - start) d) r.state.ahead
        ∙ get_or-drop start before (k - start) d ∙ ap (λ (j : ℕ). get_or before j d) place_is

    compares : (k : ℕ) (d : Ranked) → start ≤ k → k < length before → nat_cmp (key (get_or before start d)) (key (get_or before k d)) ≡ rank_cmp (get_or now start d) (get_or now k d)
    compares k d from h =
        ranks_compare r.frame (get_or before start d) (get_or before k d) (r.ranked start d (omega arith)) (r.ranked k d h)
        ∙ ap₂ rank_cmp (sym (as_before start d (omega arith))) (sym (as_before k d from))

    leader : (d : Ranked) → key (get_or before start d) ≡ key (get_or before start any)
    leader d = ap key (get_or_default before start d any (omega (arith, r.state.long)))

    all_tie : (k : ℕ) (d : Ranked) → start ≤ k → k < next → key (get_or before k d) ≡ key (get_or before start any)
    all_tie k d from h =
        sym (head_order.ties (key (get_or before start d)) (key (get_or before k d)) (compares k d from (omega (arith, r.state.long)) ∙ ties k d from h)) ∙ leader d

    next_above : (d : Ranked) → next < length before → nat_cmp (key (get_or before start any)) (key (get_or before next d)) ≡ Less
    next_above d h =
        let this : Ranked = get_or before start d in
        let that : Ranked = get_or before next d in
        let stored : Ranked → ℕ = λ ranked. ranked.head in
        let low : is_lt (rank_cmp that this) ≡ false = sorted_far (λ x y. is_lt (rank_cmp x y)) (ranks_by head_order.total stored) before sorted start next d (omega arith) h in
        let less : rank_cmp this that ≡ Less =
        above_only (rank_cmp this that) (rank_cmp that this) (head_order.total.antisymm (stored that) (stored this)) low
        (λ e. apart (omega (arith, r.state.long)) d (ap₂ rank_cmp (as_before start d (omega arith)) (as_before next d (omega arith)) ∙ e)) in
        ap (λ (q : ℕ). nat_cmp q (key that)) (sym (leader d))
        ∙ ranks_compare r.frame this that (r.ranked start d (omega arith)) (r.ranked next d h) ∙ less

    -- the next run is in order too
    pub refined_next : Refined before (put_mid start (next - start) now run) next
    refined_next = record {
      frame = r.frame;
      ranked = r.ranked;
      state = refined_more (λ (ranked : Ranked). ranked.place) (head_at r.frame) nat_cmp by_cells (column_follows r.frame)
          before now run start next (key (get_or before start any)) r.state some within all_tie next_above p up;
    }
