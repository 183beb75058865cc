-- Names that are written out: they differ, and they are names of tables and columns, and words of queries.
use Rattle.std.proofs.Common.{◌≡◌, ◌≢◌, ℕ, ◌<◌, ◌≤◌, Bool, List, [], ◌∷◌, length, refl, sym, ◌∙◌, ◌&&◌, false, true, true≢false, nat_eq, bytes_eq}
use Rattle.std.proofs.lemmas.Cmp.{nat_eq_equiv}
use Rattle.std.proofs.lemmas.Map.Views.{list_any-from_Contains}
use Rattle.std.proofs.lemmas.Slice.Eq.{bytes_eq-Decides}
use Rattle.std.specs.List.{Contains, list_any, AllByRecursion as Each}
use Rattle.nq_model.specs.Proper.{IsQueryWord}
use Rattle.nq_model.specs.SchemaTokens.{begins_word, is_word_byte}
use Rattle.nq_model.specs.Tables.{IsProperName}

pub apart : (a b : List ℕ) → bytes_eq a b ≡ false → a ≢ b
apart a b e i = true≢false (sym ((bytes_eq-Decides a b).1 i) ∙ e)

no_byte : (b : ℕ) (name : List ℕ) → list_any (nat_eq b) name ≡ false → Contains name b → ⊥
no_byte b name e c = true≢false (sym (list_any-from_Contains nat_eq_equiv b name c) ∙ e)

-- a name without a double quote and a dot
pub named : (name : List ℕ) → 0 < length name → length name ≤ 64 → list_any (nat_eq 34) name ≡ false → list_any (nat_eq 46) name ≡ false → IsProperName name
named name some short quote dot = record { some_byte = some; short = short; no_quote = no_byte 34 name quote; no_dot = no_byte 46 name dot }

abbrev pub are_word_bytes : List ℕ → Bool
are_word_bytes [] = true
are_word_bytes (b ∷ bs) = is_word_byte b && are_word_bytes bs

both : (s t : Bool) → s && t ≡ true → (s ≡ true) × (t ≡ true)
both true t f = (refl, f)
both false t f = absurd (cc)

each_word_byte : (bs : List ℕ) → are_word_bytes bs ≡ true → Each (λ c. is_word_byte c ≡ true) bs
each_word_byte [] e = tt
each_word_byte (b ∷ bs) e = let h = both (is_word_byte b) (are_word_bytes bs) e in (h.0, each_word_byte bs h.1)

-- a word of at most 64 bytes
pub spelled : (b : ℕ) (bs : List ℕ) → begins_word b && are_word_bytes bs ≡ true → length (b ∷ bs) ≤ 64 → IsQueryWord (b ∷ bs)
spelled b bs e short = let h = both (begins_word b) (are_word_bytes bs) e in record { word = (h.0, each_word_byte bs h.1); short = short }
