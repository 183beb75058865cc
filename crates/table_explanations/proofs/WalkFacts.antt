-- A walk over the bytes of a text, one step at a time.
use Rattle.std.proofs.Common.{◌≡◌, ◌<◌, ◌≤◌, ◌+◌, ◌==◌, ◌&&◌, ℕ}
use Rattle.std.proofs.Common.{suc, Bool, true, false}
use Rattle.std.proofs.Common.{List, [], ◌∷◌, if◌then◌else◌, length, drop, get_or}
use Rattle.std.proofs.Common.{refl, sym, ap, subst}
use Rattle.std.proofs.Common.{drop-cons, add-one, arith}
use Rattle.csv.specs.Reading.{strip_bom}
use Rattle.nq_model.specs.QueryTokens.{begins_with}
use Rattle.table_explanations.specs.Places.{cell_step, ends_row, goes_on, is_at, mark, next_cell}
use Rattle.table_explanations.specs.Places.{next_row, place_from, plain_step, step, step_in}
use Rattle.table_explanations.specs.declared.places.Mode.{Mode}
use Rattle.table_explanations.specs.declared.places.Mode.TheVariants.{StartRow, StartCell, Plain}
use Rattle.table_explanations.specs.declared.places.Mode.TheVariants.{Quoted, BehindQuote}
use Rattle.table_explanations.specs.declared.places.Walk.{Walk}

-- 1. a walk goes on by no more than one row, and no more than one column

abbrev Grows : Walk → Walk → Type 0
Grows old new = (new.row ≤ old.row + 1) × (new.column ≤ old.column + 1)

module _ (walk : Walk) (byte : ℕ) where
  stays : Grows walk walk
  stays = (omega arith, omega arith)

  quoted : (a : Bool) (mode : Mode) (other : Walk) → Grows walk other
      → Grows walk (if a then goes_on walk mode else other)
  quoted true mode other grows = (omega arith, omega arith)
  quoted false mode other grows = grows

  plain_by : (a b : Bool)
      → Grows walk (if a then next_cell walk else if b then next_row walk else goes_on walk Plain)
  plain_by true b = (omega arith, omega arith)
  plain_by false true = (omega arith, omega arith)
  plain_by false false = (omega arith, omega arith)

  plain : Grows walk (plain_step walk byte)
  plain = plain_by (byte == 44) (ends_row byte)

  cell : Grows walk (cell_step walk byte)
  cell = quoted (byte == 34) Quoted (plain_step walk byte) plain

  skipped : (a : Bool) → Grows walk (if a then walk else cell_step walk byte)
  skipped true = stays
  skipped false = cell

  grows_in : (mode : Mode) → Grows walk (step_in mode walk byte)
  grows_in StartRow = skipped (ends_row byte)
  grows_in StartCell = cell
  grows_in Plain = plain
  grows_in Quoted = quoted (byte == 34) BehindQuote walk stays
  grows_in BehindQuote = quoted (byte == 34) Quoted (plain_step walk byte) plain

  pub row_grows : (new : Walk) (at : ℕ) → new ≡ step walk byte → walk.row ≤ at
      → new.row ≤ at + 1
  row_grows new at is h =
      let grows : Grows walk new = subst (Grows walk) (sym is) (grows_in walk.mode) in
      omega (arith, grows.0)

  pub column_grows : (new : Walk) (at : ℕ) → new ≡ step walk byte → walk.column ≤ at + 1
      → new.column ≤ (at + 1) + 1
  column_grows new at is h =
      let grows : Grows walk new = subst (Grows walk) (sym is) (grows_in walk.mode) in
      omega (arith, grows.1)

-- 2. the place of a cell, from a byte on

module _ (row column at : ℕ) (walk : Walk) (bytes : List ℕ) where
  abbrev here : ℕ
  here = get_or bytes at 0

  cut : at < length bytes → place_from row column walk (drop at bytes)
      ≡ place_from row column walk (here ∷ drop (suc at) bytes)
  cut h = ap (place_from row column walk) (drop-cons bytes at 0 h)

  -- the cell begins at the byte
  pub place_here : at < length bytes → is_at row column walk here ≡ true
      → at + place_from row column walk (drop at bytes) ≡ at
  place_here h is = rw (cut h, is) (omega arith)

  -- it does not
  pub place_behind : (new : Walk) → at < length bytes → is_at row column walk here ≡ false
      → new ≡ step walk here
      → at + 1 + place_from row column new (drop (at + 1) bytes)
      ≡ at + place_from row column walk (drop at bytes)
  place_behind new h is steps =
      let rest : drop (at + 1) bytes ≡ drop (suc at) bytes
      = ap (λ n. drop n bytes) (add-one at) in
      rw (cut h, is, steps, rest) (omega arith)

-- 3. a byte order mark

flipped : (m n : ℕ) → (m == n) ≡ (n == m)
flipped m n = grind arith

short_by : (a b : Bool) (text rest : List ℕ)
    → text ≡ (if a && (b && false) then rest else text)
short_by true true text rest = refl
short_by true false text rest = refl
short_by false b text rest = refl

same_by : (a b c : Bool) (text rest : List ℕ) → (if (a && b) && c then rest else text)
    ≡ (if a && (b && (c && true)) then rest else text)
same_by true true true text rest = refl
same_by true true false text rest = refl
same_by true false c text rest = refl
same_by false b c text rest = refl

-- what is behind it
pub behind_is : (text : List ℕ)
    → strip_bom text ≡ (if begins_with mark text then drop 3 text else text)
unfolding strip_bom
behind_is [] = refl
behind_is (a ∷ []) = short_by (0xEF == a) true (a ∷ []) []
behind_is (a ∷ b ∷ []) = short_by (0xEF == a) (0xBB == b) (a ∷ b ∷ []) []
behind_is (a ∷ b ∷ c ∷ rest) = rw (flipped a 0xEF, flipped b 0xBB, flipped c 0xBF)
    (same_by (0xEF == a) (0xBB == b) (0xBF == c) (a ∷ b ∷ c ∷ rest) rest)

no_room : (a b : Bool) → (a && (b && false)) ≡ true → ⊥
no_room true true e = cc
no_room true false e = cc
no_room false b e = cc

-- it has three bytes
pub mark_fits : (text : List ℕ) → begins_with mark text ≡ true → 3 ≤ length text
mark_fits [] e = cc
mark_fits (a ∷ []) e = absurd (no_room (0xEF == a) true e)
mark_fits (a ∷ b ∷ []) e = absurd (no_room (0xEF == a) (0xBB == b) e)
mark_fits (a ∷ b ∷ c ∷ rest) e = omega arith

pub ruleset mark_rules = (behind_is, mark_fits)
