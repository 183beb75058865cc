-- Texts with a header: what stands behind it is a text of its own.
use Rattle.std.proofs.Common.{◌≡◌, ℕ, ◌≤◌, ◌&&◌, Bool, true, false, cond, ◌==◌, List, [], ◌∷◌, ◌++◌, refl, sym, ◌∙◌, ap, subst, arith, codes, ◌⊎◌, inl, inr, bytes_eq}
use Rattle.std.proofs.lemmas.Bool.Decides.{nat_tests}
use Rattle.std.proofs.lemmas.Slice.Eq.{bytes_eq-Decides}
use Rattle.std.specs.Prelude.{⊤}
use Rattle.nq_model.specs.OpenLists.{Fault, Deep, Unexpected, IsOpen, FaultFits, IsFaultAt}
use Rattle.nq_model.specs.QueryTokens.{Number, Closing, Semicolon, Token, Word, Value, Oper, Sign, End}
use Rattle.nq_model.specs.QueryGrammar.{Edition, First, Second, Syntax, Const, Truth, Var, Table, Aggregated, Paren, NoFields, Rec, Bag, Nil, For, Where, If, Fun, Let, Prefix, Infix, Apply, Field, Fields, One, More, tokens, fields_tokens, truth_word, depth, Header, header_tokens, IsBody, IsProgram, Within, IsSpelled}
use Rattle.nq_model.specs.QueryTexts.{edition_of}
use Rattle.nq_model.specs.declared.term.Unary.TheVariants.{Minus, Not}

-- what stands behind the header is of depth at most d
abbrev pub IsSpelledBody : Edition → ℕ → List Token → Type 0
IsSpelledBody ed d ts = (s : Syntax) × IsBody ed ts s × Within d s

header_append : (ed : Edition) (h : Header ed) (xs ys : List Token) → header_tokens ed h (xs ++ ys) ≡ header_tokens ed h xs ++ ys
header_append First h xs ys = refl
header_append Second h xs ys = refl

same_body : (ed : Edition) (h i : Header ed) (xs ys : List Token) → header_tokens ed h xs ≡ header_tokens ed i ys → xs ≡ ys
same_body First h i xs ys e = e
same_body Second h i xs ys e = cc

pub program_of : (ed : Edition) (h : Header ed) (ts : List Token) (s : Syntax) → IsBody ed ts s → IsProgram ed (header_tokens ed h ts) s
program_of ed h ts s b = (h, ts, refl, b)

pub body_of : (ed : Edition) (h : Header ed) (ts : List Token) (s : Syntax) → IsProgram ed (header_tokens ed h ts) s → IsBody ed ts s
body_of ed h ts s (i, body, e, b) = subst (λ z. IsBody ed z s) (sym (same_body ed h i ts body e)) b

pub open_behind : (ed : Edition) (h : Header ed) (d : ℕ) (us : List Token) → IsOpen Token (IsSpelledBody ed) d us → IsOpen Token (IsSpelled ed) d (header_tokens ed h us)
open_behind ed h d us (rest, (s, b, w)) =
    (rest, (s, subst (λ z. IsProgram ed z s) (header_append ed h us rest) (program_of ed h (us ++ rest) s b), w))

pub open_inside : (ed : Edition) (h : Header ed) (d : ℕ) (us : List Token) → IsOpen Token (IsSpelled ed) d (header_tokens ed h us) → IsOpen Token (IsSpelledBody ed) d us
open_inside ed h d us (rest, (s, p, w)) =
    (rest, (s, body_of ed h (us ++ rest) s (subst (λ z. IsProgram ed z s) (sym (header_append ed h us rest)) p), w))

-- where something stands behind the header, a fault behind it is one of the text
pub fault_behind : (ed : Edition) (h : Header ed) (d : ℕ) (us : List Token) (t : Token) (f : Fault) → IsOpen Token (IsSpelledBody ed) d []
    → IsFaultAt Token (IsSpelledBody ed) d us t f → IsFaultAt Token (IsSpelled ed) d (header_tokens ed h us) t f
fault_behind ed h d us t f some (o, n, k) = (inr (before o), λ x. n (last d x), kind f k)
  where
    whole : header_tokens ed h (us ++ t ∷ []) ≡ header_tokens ed h us ++ t ∷ []
    whole = header_append ed h us (t ∷ [])

    before : (us ≡ []) ⊎ IsOpen Token (IsSpelledBody ed) d us → IsOpen Token (IsSpelled ed) d (header_tokens ed h us)
    before (inl e) = open_behind ed h d us (subst (λ z. IsOpen Token (IsSpelledBody ed) d z) (sym e) some)
    before (inr x) = open_behind ed h d us x

    last : (e : ℕ) → IsOpen Token (IsSpelled ed) e (header_tokens ed h us ++ t ∷ []) → IsOpen Token (IsSpelledBody ed) e (us ++ t ∷ [])
    last e x = open_inside ed h e (us ++ t ∷ []) (subst (λ z. IsOpen Token (IsSpelled ed) e z) (sym whole) x)

    kind : (g : Fault) → FaultFits Token (IsSpelledBody ed) g (us ++ t ∷ []) → FaultFits Token (IsSpelled ed) g (header_tokens ed h us ++ t ∷ [])
    kind Deep (e, x) = (e, subst (λ z. IsOpen Token (IsSpelled ed) e z) whole (open_behind ed h e (us ++ t ∷ []) x))
    kind Unexpected n = λ x. n (x.0, last x.0 x.1)

-- without a header nothing changes
pub fault_first : (d : ℕ) (us : List Token) (t : Token) (f : Fault) → IsFaultAt Token (IsSpelledBody First) d us t f → IsFaultAt Token (IsSpelled First) d us t f
fault_first d us t f (o, n, k) = (before o, λ x. n (open_inside First tt d (us ++ t ∷ []) x), kind f k)
  where
    before : (us ≡ []) ⊎ IsOpen Token (IsSpelledBody First) d us → (us ≡ []) ⊎ IsOpen Token (IsSpelled First) d us
    before (inl e) = inl e
    before (inr x) = inr (open_behind First tt d us x)

    kind : (g : Fault) → FaultFits Token (IsSpelledBody First) g (us ++ t ∷ []) → FaultFits Token (IsSpelled First) g (us ++ t ∷ [])
    kind Deep (e, x) = (e, open_behind First tt e (us ++ t ∷ []) x)
    kind Unexpected n = λ x. n (x.0, open_inside First tt x.0 (us ++ t ∷ []) x.1)

some_body : (ed : Edition) (d : ℕ) → 1 ≤ d → IsOpen Token (IsSpelledBody ed) d []
some_body ed d e = (tokens (NoFields 0 0) (End 0 ∷ []), (NoFields 0 0, (tt, 0, refl), (e, omega arith)))

pub fault_second : (h : Header Second) (d : ℕ) (us : List Token) (t : Token) (f : Fault) → 1 ≤ d
    → IsFaultAt Token (IsSpelledBody Second) d us t f → IsFaultAt Token (IsSpelled Second) d (header_tokens Second h us) t f
fault_second h d us t f e x = fault_behind Second h d us t f (some_body Second d e) x

-- no program is of depth 0, so a header is then too deep from its first token on
pub header_deep : (p : ℕ) → ((s : Syntax) → 1 ≤ depth s) → IsFaultAt Token (IsSpelled Second) 0 [] (Word p (codes "nq")) Deep
header_deep p some = (
  inl refl,
  λ x. let h = some x.1.0 in let i = x.1.2.0 in omega (arith, h, i),
  (1, (Value 0 (Number 2 1) ∷ Sign 0 Semicolon ∷ tokens (NoFields 0 0) (End 0 ∷ []), (NoFields 0 0, program_of Second (p, 0, 0) (tokens (NoFields 0 0) (End 0 ∷ [])) (NoFields 0 0) (tt, 0, refl), (omega arith, omega arith)))),
)

-- A text of the second edition begins with its header.
and_parts : (b c : Bool) → b && c ≡ true → (b ≡ true) × (c ≡ true)
and_parts true true e = (refl, refl)
and_parts true false e = absurd (cc)
and_parts false c e = absurd (cc)

second_only : (b : Bool) → cond b Second First ≡ Second → b ≡ true
second_only true e = refl
second_only false e = absurd (cc)

pub header_of : (ts : List Token) → edition_of ts ≡ Second → (h : Header Second) × (us : List Token) × (ts ≡ header_tokens Second h us)
header_of (Word p w ∷ Value q (Number n digits) ∷ Sign r Semicolon ∷ ts) e =
    let b = and_parts (bytes_eq w (codes "nq")) _ (second_only _ e) in
    let c = and_parts (n == 2) (digits == 1) b.1 in
    let i : w ≡ codes "nq" = let x = b.0 in grind (x, arith, bytes_eq-Decides) in
    let j : n ≡ 2 = let x = c.0 in grind (x, arith, nat_tests) in
    let k : digits ≡ 1 = let x = c.1 in grind (x, arith, nat_tests) in
    ((p, q, r), ts, rw (i, j, k) refl)
header_of _ e = absurd (cc)

pub second_of : (h : Header Second) (us : List Token) → edition_of (header_tokens Second h us) ≡ Second
second_of h us = refl

-- No program without a header begins as a header does, so a text of the first edition keeps its tree.
abbrev IsNoValue : List Token → Type 0
IsNoValue (Value p c ∷ x) = ⊥
IsNoValue _ = ⊤

other_word : (p : ℕ) (w : List ℕ) (x : List Token) → bytes_eq w (codes "nq") ≡ false → edition_of (Word p w ∷ x) ≡ First
other_word p w (Value q (Number n digits) ∷ Sign r Semicolon ∷ ts) e = ap (λ b. cond (b && (n == 2 && digits == 1)) Second First) e
other_word p w _ e = refl

no_value : (p : ℕ) (w : List ℕ) (x : List Token) → IsNoValue x → edition_of (Word p w ∷ x) ≡ First
no_value p w (Value q c ∷ x) h = absurd h
no_value p w _ h = refl

pub no_header : (s : Syntax) (x : List Token) → IsNoValue x → edition_of (tokens s x) ≡ First
no_header (Const p c) x h = refl
no_header (Truth p b) x h = no_value p (truth_word b) x h
no_header (Var p y) x h = no_value p y x h
no_header (Table p v l) x h = refl
no_header (Aggregated g p o e c) x h = refl
no_header (Paren p e q) x h = refl
no_header (NoFields p q) x h = refl
no_header (Rec fs q) x h = go fs (Sign q Closing ∷ x)
  where
    go : (fs : Fields) (y : List Token) → edition_of (fields_tokens fs y) ≡ First
    go (One p v l a e) y = refl
    go (More fs c v l a e) y = go fs _
no_header (Bag p e q) x h = refl
no_header (Nil p c t q) x h = refl
no_header (For p o v y a m c n) x h = refl
no_header (Where p o t c n) x h = refl
no_header (If p t q y r n) x h = other_word p (codes "if") _ refl
no_header (Fun p o v y c t z a n) x h = refl
no_header (Let p v y a m s n) x h = refl
no_header (Prefix p Minus e) x h = refl
no_header (Prefix p Not e) x h = refl
no_header (Infix l p op r) x h = no_header l (Oper p op ∷ tokens r x) tt
no_header (Apply f p a q) x h = no_header f _ tt
no_header (Field e p v l) x h = no_header e _ tt

pub keeps_first : (ts : List Token) (s : Syntax) → IsProgram First ts s → edition_of ts ≡ First
keeps_first ts s (h, body, e, b) = ap edition_of (e ∙ b.2) ∙ no_header s (End b.1 ∷ []) tt
