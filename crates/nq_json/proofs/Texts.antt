-- The value of a JSON text.
use Rattle.std.proofs.Common.{◌≡◌, ℕ, Bool, true, false, List, Some, None, refl}
use Rattle.std.specs.Str.{is_utf8, IsUtf8}
use Rattle.std.proofs.lemmas.Str.{IsUtf8-from_is_utf8, is_utf8-from_IsUtf8}
use Rattle.serde_json.specs.Data.{Data}
use Rattle.serde_json.specs.Read.{read}
use Rattle.nq_json.specs.Tables.{data_of}

pub data_read : (text : List ℕ) (d : Data) → IsUtf8 text → read text ≡ Some d → data_of text ≡ Some d
unfolding data_of
data_read text d utf8 e = rw (is_utf8-from_IsUtf8 text utf8) e

pub data_none : (text : List ℕ) → (IsUtf8 text → read text ≡ None) → data_of text ≡ None
unfolding data_of
data_none text none = by (is_utf8 text) refl
  where
    by : (b : Bool) → is_utf8 text ≡ b → data_of text ≡ None
    by true e = rw e (none (IsUtf8-from_is_utf8 text e))
    by false e = rw e refl
