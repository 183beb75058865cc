-- The cells of a column, kind by kind.
use Rattle.std.proofs.Common.{◌≡◌, ℕ, ℤ, pos, Bool, Option, None, ◌+◌, ◌-◌, ◌<◌, ◌≤◌, List, [], ◌++◌, map, length, get_or, slice_get, refl, sym, ap, ◌∙◌, arith}
use Rattle.std.proofs.lemmas.List.{get_or-map, get_or_append_left, get_or-append_right, length-map, length-append}
use Rattle.std.proofs.lemmas.Option.{slice_get-get_or}
use Rattle.nq_model.specs.declared.table.Cell.{Cell}
use Rattle.nq_model.specs.declared.table.Cell.TheVariants as cell
use Rattle.rows.specs.Columns.{column_of}

-- no integer stands at a place behind them
pub past_integers : (integers : List ℤ) (at : ℕ) (found : Option ℤ) → found ≡ slice_get integers at → found ≡ None → length integers ≤ at
past_integers integers at found is none = grind (arith, slice_get-get_or integers at (pos 0), is, none)

-- a place behind the integers of a column, by how far it is behind them, and how many truth values follow them
module _ (integers : List ℤ) (truths : List Bool) (texts : List (List ℕ)) (rest seen : List Cell) (view : column_of integers truths texts rest ≡ seen)
    (at behind count : ℕ) (past : length integers ≤ at) (is_behind : behind ≡ at - length integers) (is_count : count ≡ length truths) where
  behind_integers : (d : Cell) → get_or seen at d ≡ get_or (map cell.Bool truths ++ (map cell.Text texts ++ rest)) behind d
  behind_integers d =
      ap (λ (cells : List Cell). get_or cells at d) (sym view)
      ∙ get_or-append_right (map cell.Int integers) (map cell.Bool truths ++ (map cell.Text texts ++ rest)) (length integers) at d (length-map integers cell.Int) past
      ∙ ap (λ (n : ℕ). get_or (map cell.Bool truths ++ (map cell.Text texts ++ rest)) n d) (sym is_behind)

  behind_truths : (d : Cell) → count ≤ behind → get_or seen at d ≡ get_or (map cell.Text texts ++ rest) (behind - count) d
  behind_truths d h =
      behind_integers d
      ∙ get_or-append_right (map cell.Bool truths) (map cell.Text texts ++ rest) count behind d (length-map truths cell.Bool ∙ sym is_count) h

  pub text_there : (d : Cell) → count ≤ behind → behind - count < length texts → get_or seen at d ≡ cell.Text (get_or texts (behind - count) [])
  text_there d h k =
      behind_truths d h
      ∙ get_or_append_left (map cell.Text texts) rest d (behind - count) (omega (arith, k, length-map texts cell.Text))
      ∙ get_or-map cell.Text texts (behind - count) [] d k

  pub rest_there : (d : Cell) → count ≤ behind → length texts ≤ behind - count → get_or seen at d ≡ get_or rest (behind - count - length texts) d
  rest_there d h k =
      behind_truths d h
      ∙ get_or-append_right (map cell.Text texts) rest (length texts) (behind - count) d (length-map texts cell.Text) k

  size : length seen ≡ length integers + (length truths + (length texts + length rest))
  size = ap length (sym view) ∙ rw (length-append, length-map, length-append, length-map, length-append, length-map) refl

  pub rest_within : at < length seen → count ≤ behind → length texts ≤ behind - count → behind - count - length texts < length rest
  rest_within h k l = omega (arith, h, k, l, size, past, is_behind, is_count)
