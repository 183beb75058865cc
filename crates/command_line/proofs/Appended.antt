-- Texts that are put behind one another.
use Rattle.std.proofs.Common.{◌≡◌, ℕ, List, ◌++◌, ap, ◌∙◌, append_assoc}

-- four puts behind a text leave it with all four
pub put_four : (one two three four : List ℕ) (old a b c d : List ℕ) → one ≡ old ++ a → two ≡ one ++ b → three ≡ two ++ c → four ≡ three ++ d → four ≡ old ++ (a ++ (b ++ (c ++ d)))
put_four one two three four old a b c d e f g h =
    h ∙ ap (λ z. z ++ d) (g ∙ ap (λ z. z ++ c) (f ∙ ap (λ z. z ++ b) e))
    ∙ append_assoc ((old ++ a) ++ b) c d ∙ append_assoc (old ++ a) b (c ++ d) ∙ append_assoc old a (b ++ (c ++ d))

-- a put and the rest
pub put_one : (text new line rest whole : List ℕ) → new ≡ text ++ line → text ++ (line ++ rest) ≡ whole → new ++ rest ≡ whole
put_one text new line rest whole e h = ap (λ z. z ++ rest) e ∙ append_assoc text line rest ∙ h
