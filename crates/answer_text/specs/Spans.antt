-- Spans of places, each under an index.
use Rattle.std.specs.Prelude.{◌≡◌, ℕ, ℤ, pos, negsuc, List, []}
use Rattle.std.specs.Prelude.{length, get_or, slice_range, cond, nat_lt, Option, Some, None}
use Rattle.std.specs.Option.{option_map, unwrap_or}
use Rattle.std.specs.BTreeMap.{BTreeMap, get}
use Rattle.nq_model.specs.declared.table.Cell.{Cell}
use Rattle.rows.specs.Places.{row_at}
use Rattle.stitcher.specs.FlatNumbers.{index_at}
use Rattle.answer_text.specs.Indexes.{index_cmp, is_index}
use Rattle.answer_text.specs.declared.spans.Spans.{Spans}

-- the index of the bag in which the row at a place stands
abbrev pub index_of : List (List Cell) → ℕ → ℤ × ℤ
index_of rows place = index_at (row_at rows place) 0

-- the place of a number among so many, if it is among them
abbrev pub number_place : ℕ → ℤ → Option ℕ
number_place count (pos n) = cond (nat_lt n count) (Some n) None
number_place count (negsuc n) = None

-- where the span under a number is listed, in the list of a tag
abbrev pub in_list : List (List (ℕ × ℕ)) → ℤ → Option ℕ → Option (ℕ × ℕ)
in_list lists number (Some tag) =
    option_map (λ at. (tag, at)) (number_place (length (get_or lists tag [])) number)
in_list lists number None = None

-- where the span under an index is listed, in lists by tag: its tag and its number
abbrev pub place : List (List (ℕ × ℕ)) → ℤ × ℤ → Option (ℕ × ℕ)
place lists i = in_list lists i.1 (number_place (length lists) i.0)

-- the span that is listed at a place, or else another
abbrev pub listed_or : List (List (ℕ × ℕ)) → ℕ × ℕ → Option (ℕ × ℕ) → ℕ × ℕ
listed_or lists other (Some at) = get_or (get_or lists at.0 []) at.1 (0, 0)
listed_or lists other None = other

-- no span of a list holds a place
abbrev pub AreEmpty : List (ℕ × ℕ) → Type 0
AreEmpty spans = (at : ℕ) → get_or spans at (0, 0) ≡ (0, 0)

-- the span under an index; an empty one where there is none
abbrev pub span_under : Spans → ℤ × ℤ → ℕ × ℕ
span_under spans i =
    let other = unwrap_or (get index_cmp spans.others i) (0, 0) in
    listed_or spans.listed.items other (place spans.listed.items i)

-- the places in the span under an index
abbrev pub spanned : Spans → List ℕ → ℤ × ℤ → List ℕ
spanned spans places i = let span = span_under spans i in slice_range places span.0 span.1

-- a span put under an index among the others
abbrev pub HasOneMoreOther : BTreeMap (ℤ × ℤ) (ℕ × ℕ) → BTreeMap (ℤ × ℤ) (ℕ × ℕ) → ℤ × ℤ → ℕ × ℕ
    → Type 0
HasOneMoreOther others more index span = (i : ℤ × ℤ)
    → get index_cmp more i ≡ cond (is_index index i) (Some span) (get index_cmp others i)

-- a span put under an index
abbrev pub HasOneMore : Spans → Spans → ℤ × ℤ → ℕ × ℕ → Type 0
HasOneMore spans more index span =
    (i : ℤ × ℤ) → span_under more i ≡ cond (is_index index i) span (span_under spans i)
