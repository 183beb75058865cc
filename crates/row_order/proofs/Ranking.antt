-- Heads stand in the cells' order.
use Rattle.std.proofs.Common.{◌≡◌, ℕ, zero, suc, ◌+◌, ◌-◌, ◌*◌, ◌/◌, ◌^◌, ◌<◌, ◌≤◌, min, ltb, Bool, true, false, cond, List, [], ◌∷◌, drop, length, ℤ, pos, negsuc, int_lt, refl, sym, ap, ap₂, inl, inr, ◌∙◌, subst, arith, drop-cons}
use Rattle.std.proofs.Math.Nat.{mul-le-mul_right, mul-div-le}
use Rattle.std.proofs.Math.Pow.{pow_mono, shr_mono}
use Rattle.std.proofs.lemmas.Bool.{cases_lt, cond_above, cond_below, lt-ltb}
use Rattle.std.proofs.lemmas.List.{drop_all}
use Rattle.std.proofs.lemmas.Nat.{div_below, pow_pos}
use Rattle.std.specs.declared.cmp.Ordering.{Ordering}
use Rattle.std.specs.declared.cmp.Ordering.TheVariants.{Less, Equal, Greater}
use Rattle.std.specs.Ordering.{nat_cmp, int_cmp, ordering_then}
use Rattle.std.specs.Cmp.{ranked, nat_cmp_is, nat_cmp_total}
use Rattle.std.specs.Cmp.Lexicographic.{slice_cmp}
use Rattle.nq_model.specs.declared.table.Cell.{Cell}
use Rattle.nq_model.specs.declared.table.Cell.TheVariants.{Int, Bool as Truth, Text}
use Rattle.nq_model.specs.Cells.{cell_cmp}
use Rattle.nq_model.proofs.Orders.{IsStrictOrder}
use Rattle.row_order.specs.declared.heads.Frame.{Frame}
use Rattle.row_order.specs.declared.heads.Frame.TheVariants.{Truths, Numbers, Texts}
use Rattle.row_order.specs.Heads.{share, head_by, head_past, head_of_text, head_of_int, height_of, head_of}

-- ---- the heads of texts

one_more_of : (x p : ℕ) → suc x * p ≡ x * p + p
one_more_of x p = omega arith

in_room : (d s h room : ℕ) → d * s + s ≤ room → h ≤ s - 1 → d * s + h ≤ room - 1
in_room d zero h room k l = omega (arith, k, l)
in_room d (suc s) h room k l = omega (arith, k, l)

module _ (floor last : ℕ) where
  -- a letter's share stands within the room
  share_within : (b room : ℕ) → floor < b → b ≤ last → (b - floor) * share floor last room + share floor last room ≤ room
  share_within b room h k =
      let s = share floor last room in
      let all : (last - floor + 1) * s ≤ room = mul-div-le room (last - floor + 1) in
      let some : suc (b - floor) * s ≤ (last - floor + 1) * s = mul-le-mul_right s (omega (arith, h, k)) in
      let one : suc (b - floor) * s ≡ (b - floor) * s + s = one_more_of (b - floor) s in
      omega (arith, all, some, one)

  pub at_end : (b room : ℕ) (bs : List ℕ) → b ≤ floor → head_of_text floor last room (b ∷ bs) ≡ 0
  at_end b room bs h = sym (cond_above floor b _ 0 0 h refl)

  pub at_letter : (b room : ℕ) (bs : List ℕ) → floor < b → b ≤ last
      → head_of_text floor last room (b ∷ bs) ≡ (b - floor) * share floor last room + head_of_text floor last (share floor last room) bs
  at_letter b room bs h k =
      let here : ℕ = (b - floor) * share floor last room + head_of_text floor last (share floor last room) bs in
      sym (cond_above last b (room - 1) here here k refl ∙ cond_below floor b (cond (ltb last b) (room - 1) here) 0 h)

  pub past_last : (b room : ℕ) (bs : List ℕ) → floor < b → last < b → head_of_text floor last room (b ∷ bs) ≡ room - 1
  past_last b room bs h k =
      let here : ℕ = (b - floor) * share floor last room + head_of_text floor last (share floor last room) bs in
      sym (cond_below last b (room - 1) here k ∙ cond_below floor b (cond (ltb last b) (room - 1) here) 0 h)

  -- and so does a head
  pub head_within : (room : ℕ) (bs : List ℕ) → head_of_text floor last room bs ≤ room - 1
  head_within room [] = omega arith
  head_within room (b ∷ bs) =
      elim (cases_lt floor b) [
        | inr none ↦ let e = at_end b room bs none in omega (arith, e)
        | inl some ↦ elim (cases_lt last b) [
          | inl past ↦ let e = past_last b room bs some past in omega (arith, e)
          | inr letter ↦
              let e = at_letter b room bs some letter in
              let most = in_room (b - floor) (share floor last room) (head_of_text floor last (share floor last room) bs) room (share_within b room some letter) (head_within (share floor last room) bs) in
              omega (arith, e, most)
        ]
      ]

  -- texts whose heads differ stand in the order of the heads
  pub texts_follow : (room : ℕ) (xs ys : List ℕ) → head_of_text floor last room xs < head_of_text floor last room ys → slice_cmp nat_cmp xs ys ≡ Less
  texts_follow room [] [] h = absurd (omega (arith, h))
  texts_follow room [] (y ∷ ys) h = refl
  texts_follow room (x ∷ xs) [] h = absurd (omega (arith, h))
  texts_follow room (x ∷ xs) (y ∷ ys) h = by_first (nat_cmp x y) refl (texts_follow (share floor last room) xs ys)
    where
      s : ℕ
      s = share floor last room

      tied : floor < y → head_of_text floor last room (y ∷ xs) < head_of_text floor last room (y ∷ ys) → head_of_text floor last s xs < head_of_text floor last s ys
      tied some k =
          elim (cases_lt last y) [
            | inl past ↦
                let e = past_last y room xs some past in
                let f = past_last y room ys some past in
                absurd (omega (arith, e, f, k))
            | inr letter ↦
                let e = at_letter y room xs some letter in
                let f = at_letter y room ys some letter in
                omega (arith, e, f, k)
          ]

      apart : y < x → floor < y → ⊥
      apart above some =
          elim (cases_lt last x) [
            | inl past ↦
                let e = past_last x room xs (omega (arith, above, some)) past in
                let most = head_within room (y ∷ ys) in
                omega (arith, e, most, h)
            | inr letter ↦
                let e = at_letter x room xs (omega (arith, above, some)) letter in
                let f = at_letter y room ys some (omega (arith, above, letter)) in
                let most = head_within s ys in
                let more : suc (y - floor) * s ≤ (x - floor) * s = mul-le-mul_right s (omega (arith, above, some)) in
                let one : suc (y - floor) * s ≡ (y - floor) * s + s = one_more_of (y - floor) s in
                omega (arith, e, f, most, more, one, h)
          ]

      by_first : (r : Ordering) → r ≡ nat_cmp x y → (head_of_text floor last s xs < head_of_text floor last s ys → slice_cmp nat_cmp xs ys ≡ Less) → ordering_then r (slice_cmp nat_cmp xs ys) ≡ Less
      by_first Less e later = refl
      by_first Equal e later =
          elim (cases_lt floor y) [
            | inr none ↦ let f = at_end y room ys none in absurd (omega (arith, f, h))
            | inl some ↦
                let P : ℕ → Type 0 = λ z. head_of_text floor last room (z ∷ xs) < head_of_text floor last room (y ∷ ys) in
                later (tied some (subst P (ranked x y Equal e) h))
          ]
      by_first Greater e later =
          elim (cases_lt floor y) [
            | inr none ↦ let f = at_end y room ys none in absurd (omega (arith, f, h))
            | inl some ↦ absurd (apart (ranked x y Greater e) some)
          ]

-- ---- the heads of texts behind a prefix

past_below : (floor last : ℕ) (prefix text : List ℕ) → head_past floor last prefix text < 2 ^ 32
past_below floor last [] text = let most = head_within floor last (2 ^ 32 - 2) text in omega (arith, most)
past_below floor last (p ∷ ps) [] = omega arith
past_below floor last (p ∷ ps) (b ∷ bs) = by_order (nat_cmp b p) (past_below floor last ps bs)
  where
    by_order : (o : Ordering) → head_past floor last ps bs < 2 ^ 32 → head_by o (head_past floor last ps bs) < 2 ^ 32
    by_order Less h = omega arith
    by_order Equal h = h
    by_order Greater h = omega arith

less_then : (x y : ℕ) (o : Ordering) → x < y → ordering_then (nat_cmp x y) o ≡ Less
less_then x y o h = ap (λ (r : Ordering). ordering_then r o) (sym (nat_cmp_is x y Less h))

-- whatever the prefix is, the heads behind it stand in the order of the texts
past_follow : (floor last : ℕ) (prefix xs ys : List ℕ) → head_past floor last prefix xs < head_past floor last prefix ys → slice_cmp nat_cmp xs ys ≡ Less
past_follow floor last [] xs ys h = texts_follow floor last (2 ^ 32 - 2) xs ys (omega (arith, h))
past_follow floor last (p ∷ ps) [] [] h = absurd (omega (arith, h))
past_follow floor last (p ∷ ps) [] (y ∷ ys) h = refl
past_follow floor last (p ∷ ps) (x ∷ xs) [] h = absurd (omega (arith, h))
past_follow floor last (p ∷ ps) (x ∷ xs) (y ∷ ys) h = by_orders (nat_cmp x p) (nat_cmp y p) refl refl h (past_follow floor last ps xs ys)
  where
    by_orders : (l r : Ordering) → l ≡ nat_cmp x p → r ≡ nat_cmp y p → head_by l (head_past floor last ps xs) < head_by r (head_past floor last ps ys)
        → (head_past floor last ps xs < head_past floor last ps ys → slice_cmp nat_cmp xs ys ≡ Less) → ordering_then (nat_cmp x y) (slice_cmp nat_cmp xs ys) ≡ Less
    by_orders Less Less e f h later = absurd (omega (arith, h))
    by_orders Less Equal e f h later =
        let below : x < p = ranked x p Less e in
        let same : y ≡ p = ranked y p Equal f in
        less_then x y (slice_cmp nat_cmp xs ys) (omega (arith, below, same))
    by_orders Less Greater e f h later =
        let below : x < p = ranked x p Less e in
        let above : p < y = ranked y p Greater f in
        less_then x y (slice_cmp nat_cmp xs ys) (omega (arith, below, above))
    by_orders Equal Less e f h later = absurd (omega (arith, h))
    by_orders Equal Equal e f h later =
        let left : x ≡ p = ranked x p Equal e in
        let right : y ≡ p = ranked y p Equal f in
        ap (λ (r : Ordering). ordering_then r (slice_cmp nat_cmp xs ys)) (sym (nat_cmp_is x y Equal (left ∙ sym right))) ∙ later h
    by_orders Equal Greater e f h later =
        let same : x ≡ p = ranked x p Equal e in
        let above : p < y = ranked y p Greater f in
        less_then x y (slice_cmp nat_cmp xs ys) (omega (arith, same, above))
    by_orders Greater Less e f h later = absurd (omega (arith, h))
    by_orders Greater Equal e f h later = let most = past_below floor last ps ys in absurd (omega (arith, h, most))
    by_orders Greater Greater e f h later = absurd (omega (arith, h))

-- a text that ends before the prefix does
pub past_end : (floor last : ℕ) (prefix text : List ℕ) (i : ℕ) → i < length prefix → length text ≤ i → head_past floor last (drop i prefix) (drop i text) ≡ 0
past_end floor last prefix text i h k = ap₂ (head_past floor last) (drop-cons prefix i 0 h) (drop_all i text k)

-- ---- the heads of numbers

int_less : (m n : ℤ) → int_lt m n ≡ true → int_cmp m n ≡ Less
int_less m n e = ap (λ (b : Bool). cond b Less (cond (int_lt n m) Greater Equal)) e

heights_follow : (m n : ℤ) → height_of m < height_of n → int_cmp m n ≡ Less
heights_follow (pos a) (pos b) h = int_less (pos a) (pos b) (lt-ltb a b (omega (arith, h)))
heights_follow (pos a) (negsuc b) h = absurd (omega (arith, h))
heights_follow (negsuc a) (pos b) h = refl
heights_follow (negsuc a) (negsuc b) h = int_less (negsuc a) (negsuc b) (lt-ltb b a (omega (arith, h)))

-- more steps are taken only to what is higher
steps_follow : (least shift x y : ℕ) → min ((x - least) / 2 ^ shift) (2 ^ 32 - 1) < min ((y - least) / 2 ^ shift) (2 ^ 32 - 1) → x < y
steps_follow least shift x y h =
    elim (cases_lt x y) [
      | inl below ↦ below
      | inr above ↦
          let fewer : y - least ≤ x - least = omega arith in
          let steps : (y - least) / 2 ^ shift ≤ (x - least) / 2 ^ shift = shr_mono shift fewer in
          absurd (omega (arith, steps, h))
    ]

ints_follow : (least shift : ℕ) (m n : ℤ) → head_of_int least shift m < head_of_int least shift n → int_cmp m n ≡ Less
ints_follow least shift m n h = heights_follow m n (steps_follow least shift (height_of m) (height_of n) h)

-- a number of 64 bits takes no step that is longer
no_step : (x shift : ℕ) → x < 2 ^ 64 → 64 ≤ shift → x / 2 ^ shift ≡ 0
no_step x shift h k =
    let most : 2 ^ 64 ≤ 2 ^ shift = pow_mono k in
    let none : x / 2 ^ shift < 1 = div_below x (2 ^ shift) 1 (pow_pos shift) (omega (arith, most, h)) in
    omega (arith, none)

-- so none is lost where a shift of 64 bits or more gives 0
pub steps_taken : (x shift : ℕ) → x < 2 ^ 64 → cond (ltb shift 64) (x / 2 ^ shift) 0 ≡ x / 2 ^ shift
steps_taken x shift h =
    elim (cases_lt shift 64) [
      | inl below ↦ sym (cond_below shift 64 (x / 2 ^ shift) 0 below)
      | inr above ↦ sym (cond_above shift 64 (x / 2 ^ shift) 0 (x / 2 ^ shift) above (no_step x shift h above))
    ]

-- ---- cells

below_cap : (x p : ℕ) → 0 < p → min x (p - 1) < p
below_cap x p h = omega arith

-- no head is above the greatest
head_most : (frame : Frame) (c : Cell) → head_of frame c < 2 ^ 32
head_most Truths (Truth true) = omega arith
head_most Truths (Truth false) = omega arith
head_most Truths (Int n) = omega arith
head_most Truths (Text t) = omega arith
head_most (Numbers least shift) (Truth b) = omega arith
head_most (Numbers least shift) (Int n) = below_cap ((height_of n - least) / 2 ^ shift) (2 ^ 32) (omega arith)
head_most (Numbers least shift) (Text t) = omega arith
head_most (Texts prefix floor last) (Truth b) = omega arith
head_most (Texts prefix floor last) (Int n) = omega arith
head_most (Texts prefix floor last) (Text t) = past_below floor last prefix.now t

none_above : (h : ℕ) → h < 2 ^ 32 → 2 ^ 32 - 1 < h → ⊥
none_above h b k = omega arith

-- whatever the frame is, a cell with the lower head stands before the other
pub cells_follow : (frame : Frame) (c d : Cell) → head_of frame c < head_of frame d → cell_cmp c d ≡ Less
cells_follow frame (Truth b) (Int n) h = refl
cells_follow frame (Truth b) (Text t) h = refl
cells_follow frame (Int m) (Text t) h = refl
cells_follow Truths (Truth true) (Truth true) h = absurd (omega (arith, h))
cells_follow Truths (Truth true) (Truth false) h = absurd (omega (arith, h))
cells_follow Truths (Truth false) (Truth true) h = refl
cells_follow Truths (Truth false) (Truth false) h = absurd (omega (arith, h))
cells_follow (Numbers least shift) (Truth b) (Truth c) h = absurd (omega (arith, h))
cells_follow (Texts prefix floor last) (Truth b) (Truth c) h = absurd (omega (arith, h))
cells_follow Truths (Int m) (Int n) h = absurd (omega (arith, h))
cells_follow (Numbers least shift) (Int m) (Int n) h = ints_follow least shift m n h
cells_follow (Texts prefix floor last) (Int m) (Int n) h = absurd (omega (arith, h))
cells_follow Truths (Text s) (Text t) h = absurd (omega (arith, h))
cells_follow (Numbers least shift) (Text s) (Text t) h = absurd (omega (arith, h))
cells_follow (Texts prefix floor last) (Text s) (Text t) h = past_follow floor last prefix.now s t h
cells_follow Truths (Int m) (Truth b) h = absurd (none_above (head_of Truths (Truth b)) (head_most Truths (Truth b)) h)
cells_follow (Numbers least shift) (Int m) (Truth b) h = absurd (omega (arith, h))
cells_follow (Texts prefix floor last) (Int m) (Truth b) h = absurd (omega (arith, h))
cells_follow Truths (Text s) (Truth b) h = absurd (none_above (head_of Truths (Truth b)) (head_most Truths (Truth b)) h)
cells_follow (Numbers least shift) (Text s) (Truth b) h = absurd (omega (arith, h))
cells_follow (Texts prefix floor last) (Text s) (Truth b) h = absurd (omega (arith, h))
cells_follow Truths (Text s) (Int n) h = absurd (omega (arith, h))
cells_follow (Numbers least shift) (Text s) (Int n) h = absurd (none_above (head_of_int least shift n) (head_most (Numbers least shift) (Int n)) h)
cells_follow (Texts prefix floor last) (Text s) (Int n) h = absurd (omega (arith, h))

-- heads stand in a strict order
pub head_order : IsStrictOrder nat_cmp
head_order = record { total = nat_cmp_total; ties = λ x y e. ranked x y Equal (sym e) }
