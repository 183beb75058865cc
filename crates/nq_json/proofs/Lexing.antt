-- White space after a text changes no token of it.
use Rattle.std.proofs.Common.{◌≡◌, ℕ, Bool, true, false, cond, ◌&&◌, List, [], ◌∷◌, ◌++◌, refl, sym, ap, ap₂, ◌∙◌, append_assoc}
use Rattle.json.specs.Token.{Token, begin_object, end_object, begin_array, end_array, key, string, number, boolean, null, bad}
use Rattle.json.specs.Word.{ends_word, word}
use Rattle.json.specs.Lex.{Lexeme, token, comma, colon, string_token, lex, between, fresh, punctuate, tokens}
use Rattle.json.specs.Print.{escape, quoted, token_text, begins, ends, print_from, print, IsPrintable, ArePrintable}
use Rattle.json.proofs.Printed.Strings.{content-escape, lex-escape}
use Rattle.json.proofs.Printed.Numbers.{lex-number, in_word-ended}

abbrev token_lexemes : Token → List Lexeme
token_lexemes begin_object = token begin_object ∷ []
token_lexemes end_object = token end_object ∷ []
token_lexemes begin_array = token begin_array ∷ []
token_lexemes end_array = token end_array ∷ []
token_lexemes (key s) = token (string s) ∷ colon ∷ []
token_lexemes (string s) = token (string s) ∷ []
token_lexemes (number s) = token (number s) ∷ []
token_lexemes (boolean b) = token (boolean b) ∷ []
token_lexemes null = token null ∷ []
token_lexemes bad = []

-- a line feed at the end
abbrev line : List ℕ
line = 10 ∷ []

-- after a value stands a comma, a closing bracket, the line feed or nothing
ended : (ts : List Token) → (ends_word (print_from true ts) ≡ true) × (ends_word (print_from true ts ++ line) ≡ true)
unfolding print_from
ended [] = (refl, refl)
ended (begin_object ∷ ts) = (refl, refl)
ended (end_object ∷ ts) = (refl, refl)
ended (begin_array ∷ ts) = (refl, refl)
ended (end_array ∷ ts) = (refl, refl)
ended (key s ∷ ts) = (refl, refl)
ended (string s ∷ ts) = (refl, refl)
ended (number s ∷ ts) = (refl, refl)
ended (boolean b ∷ ts) = (refl, refl)
ended (null ∷ ts) = (refl, refl)
ended (bad ∷ ts) = (refl, refl)

lex-quoted : (s r : List ℕ) → lex between (quoted s ++ r) ≡ token (string s) ∷ lex between r
unfolding lex
lex-quoted s r =
    let e = append_assoc (escape s) (34 ∷ []) r in
    ap (λ l. lex between (34 ∷ l)) e ∙ ap₂ (λ o l. token (string_token o) ∷ l) (content-escape s r) (lex-escape s r)

lex-token_text : (t : Token) (r : List ℕ) → IsPrintable t → (ends t ≡ true → ends_word r ≡ true) → lex between (token_text t ++ r) ≡ token_lexemes t ++ lex between r
unfolding lex word
lex-token_text begin_object r h ended = refl
lex-token_text end_object r h ended = refl
lex-token_text begin_array r h ended = refl
lex-token_text end_array r h ended = refl
lex-token_text (key s) r h ended = ap (lex between) (append_assoc (quoted s) (58 ∷ []) r) ∙ lex-quoted s (58 ∷ r)
lex-token_text (string s) r h ended = lex-quoted s r
lex-token_text (number s) r h ended = lex-number s r h (ended refl)
lex-token_text (boolean true) r h ended = ap₂ (λ b l. token (cond b (boolean true) bad) ∷ l) (ended refl) (in_word-ended r (ended refl))
lex-token_text (boolean false) r h ended = ap₂ (λ b l. token (cond b (boolean false) bad) ∷ l) (ended refl) (in_word-ended r (ended refl))
lex-token_text null r h ended = ap₂ (λ b l. token (cond b null bad) ∷ l) (ended refl) (in_word-ended r (ended refl))
lex-token_text bad r h ended = absurd h

lex-separator : (b : Bool) (r : List ℕ) → lex between (cond b (44 ∷ []) [] ++ r) ≡ cond b (comma ∷ []) [] ++ lex between r
unfolding lex
lex-separator true r = refl
lex-separator false r = refl

-- one token, and then what begins with the same lexemes
lex_begun : (c : Bool) (t : Token) (r s : List ℕ) → IsPrintable t → (ends t ≡ true → ends_word r ≡ true) → (ends t ≡ true → ends_word s ≡ true)
    → lex between r ≡ lex between s → lex between (cond c (44 ∷ []) [] ++ (token_text t ++ r)) ≡ lex between (cond c (44 ∷ []) [] ++ (token_text t ++ s))
lex_begun c t r s h r_ended s_ended same =
    lex-separator c (token_text t ++ r) ∙ ap (λ l. cond c (comma ∷ []) [] ++ l) (lex-token_text t r h r_ended ∙ ap (λ l. token_lexemes t ++ l) same ∙ sym (lex-token_text t s h s_ended))
    ∙ sym (lex-separator c (token_text t ++ s))

lex_line : (c : Bool) (ts : List Token) → ArePrintable ts → lex between (print_from c ts ++ line) ≡ lex between (print_from c ts)
unfolding lex print_from ArePrintable
lex_line c [] h = refl
lex_line c (t ∷ ts) h =
    let rest = print_from (ends t) ts in
    let open_left = append_assoc (cond (c && begins t) (44 ∷ []) []) (token_text t ++ rest) line in
    let open_right = ap (λ l. cond (c && begins t) (44 ∷ []) [] ++ l) (append_assoc (token_text t) rest line) in
    ap (lex between) (open_left ∙ open_right)
    ∙ lex_begun (c && begins t) t (rest ++ line) rest h.0
    (λ e. ap (λ b. ends_word (print_from b ts ++ line)) e ∙ (ended ts).1) (λ e. ap (λ b. ends_word (print_from b ts)) e ∙ (ended ts).0) (lex_line (ends t) ts h.1)

pub tokens_line : (ts : List Token) → ArePrintable ts → tokens (print ts ++ line) ≡ tokens (print ts)
tokens_line ts h = ap (punctuate fresh) (lex_line false ts h)
