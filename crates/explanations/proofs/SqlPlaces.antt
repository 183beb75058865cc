-- Words that are spelled alike but for the case of letters.
use Rattle.std.proofs.Common.{◌≡◌, ◌↔◌, ℕ, Bool, IsTrue, List, map}
use Rattle.std.specs.Bool.{one_answer}
use Rattle.std.specs.Char.{to_ascii_lowercase}
use Rattle.std.specs.Str.{str_eq_ignore_ascii_case}
use Rattle.std.proofs.lemmas.Slice.Eq.{bytes_eq-Decides}

pub same_word : (r : Bool) (known word : List ℕ)
    → (IsTrue r ↔ (map to_ascii_lowercase known ≡ map to_ascii_lowercase word))
    → r ≡ str_eq_ignore_ascii_case known word
same_word r known word h =
    one_answer r _ h (bytes_eq-Decides (map to_ascii_lowercase known) (map to_ascii_lowercase word))
