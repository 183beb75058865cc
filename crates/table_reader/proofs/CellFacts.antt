-- Bytes that are no text, and the parts of a record.
use Rattle.std.proofs.Common.{◌≡◌, ℕ, Bool, true, false, List, refl}
use Rattle.std.specs.Str.{is_utf8, IsUtf8}
use Rattle.csv.proofs.RecordFacts.{field-get, field-there}
use Rattle.std.proofs.lemmas.Str.{IsUtf8-from_is_utf8, is_utf8-from_IsUtf8}

not_utf8_by : (b : Bool) → (b ≡ true → ⊥) → b ≡ false
not_utf8_by true never = absurd (never refl)
not_utf8_by false never = refl

pub not_utf8 : (bytes : List ℕ) → (IsUtf8 bytes → ⊥) → is_utf8 bytes ≡ false
not_utf8 bytes never = not_utf8_by (is_utf8 bytes) (λ e. never (IsUtf8-from_is_utf8 bytes e))

pub ruleset cell_rules = (not_utf8, is_utf8-from_IsUtf8, field-get, field-there)
