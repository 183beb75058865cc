-- What cells begin with, as numbers of 32 bits in the cells' order.
use Rattle.std.specs.Prelude.{ℕ, suc, ◌+◌, ◌-◌, ◌*◌, ◌/◌, ◌^◌, min, cond, if◌then◌else◌, nat_lt, List, [], ◌∷◌, ℤ, pos, negsuc}
use Rattle.std.specs.declared.cmp.Ordering.{Ordering}
use Rattle.std.specs.declared.cmp.Ordering.TheVariants.{Less, Equal, Greater}
use Rattle.std.specs.Ordering.{nat_cmp}
use Rattle.nq_model.specs.declared.table.Cell.{Cell}
use Rattle.nq_model.specs.declared.table.Cell.TheVariants as cell
use Rattle.row_order.specs.declared.heads.Frame.{Frame}
use Rattle.row_order.specs.declared.heads.Frame.TheVariants.{Truths, Numbers, Texts}

-- how much of a room each letter has, if letters are the bytes above a floor, up to the last; and what ends has as much
abbrev pub share : ℕ → ℕ → ℕ → ℕ
share floor last room = room / (last - floor + 1)

-- where a text stands in a room: in its first letter's share, which is the room of what follows; a byte that is no letter stands where the end does, or last
abbrev pub head_of_text : ℕ → ℕ → ℕ → List ℕ → ℕ
head_of_text floor last room [] = 0
head_of_text floor last room (b ∷ bs) =
    if nat_lt floor b then (if nat_lt last b then room - 1 else (b - floor) * share floor last room + head_of_text floor last (share floor last room) bs) else 0

-- a head, where two bytes are alike; what stands before has the least of 32 bits, and what stands behind the greatest
abbrev pub head_by : Ordering → ℕ → ℕ
head_by Less head = 0
head_by Equal head = head
head_by Greater head = 2 ^ 32 - 1

-- the head of what stands behind a prefix; a text that does not begin with it has the least head or the greatest
abbrev pub head_past : ℕ → ℕ → List ℕ → List ℕ → ℕ
head_past floor last [] text = 1 + head_of_text floor last (2 ^ 32 - 2) text
head_past floor last (p ∷ ps) [] = 0
head_past floor last (p ∷ ps) (b ∷ bs) = head_by (nat_cmp b p) (head_past floor last ps bs)

-- how far a number is above the least of 64 bits
abbrev pub height_of : ℤ → ℕ
height_of (pos n) = 2 ^ 63 + n
height_of (negsuc n) = 2 ^ 63 - suc n

-- how many steps of two to the power shift a number is above the least, and none below it; at most the greatest of 32 bits
abbrev pub head_of_int : ℕ → ℕ → ℤ → ℕ
head_of_int least shift n = min ((height_of n - least) / 2 ^ shift) (2 ^ 32 - 1)

-- a cell of the frame's kind has its head; one of a kind before it has the least of 32 bits, and one of a kind behind it the greatest
abbrev pub head_of : Frame → Cell → ℕ
head_of Truths (cell.Bool b) = cond b 1 0
head_of Truths (cell.Int n) = 2 ^ 32 - 1
head_of Truths (cell.Text t) = 2 ^ 32 - 1
head_of (Numbers least shift) (cell.Bool b) = 0
head_of (Numbers least shift) (cell.Int n) = head_of_int least shift n
head_of (Numbers least shift) (cell.Text t) = 2 ^ 32 - 1
head_of (Texts prefix floor last) (cell.Bool b) = 0
head_of (Texts prefix floor last) (cell.Int n) = 0
head_of (Texts prefix floor last) (cell.Text t) = head_past floor last prefix.now t
