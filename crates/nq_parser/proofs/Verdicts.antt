-- A text spells one term at a depth, or it has one fault.
use Rattle.std.proofs.Common.{◌≡◌, ℕ, List, [], ◌∷◌, ◌++◌, refl, sym, ◌∙◌, ap, subst, ◌⊎◌, inl, inr, Result, Ok, Err}
use Rattle.std.specs.Str.{IsUtf8, IsValidUpTo}
use Rattle.nq_model.specs.OpenLists.{IsFaultAt}
use Rattle.nq_model.specs.OpenLists as open_lists
use Rattle.nq_model.proofs.OpenLists as generic
use Rattle.nq_model.specs.Terms.{PlacedTerm}
use Rattle.nq_model.specs.QueryTokens.{Token, place_of, Stop, NoToken, TooLarge, tokens_of}
use Rattle.nq_model.specs.QueryGrammar.{First, Syntax, IsProgram, Within, IsSpelled}
use Rattle.nq_model.specs.QueryScope.{term_of, Wrong, Unbound, TwiceLabel, wrongs}
use Rattle.nq_model.specs.QueryTexts.{edition_of, HasTokens, Derives, Spells, Fault, StopsAt, EndsOpen, HasWrong, HasFault}
use Rattle.nq_parser.specs.Reading.{ClosesAt}
use Rattle.nq_parser.proofs.Programs as programs
use Rattle.nq_parser.proofs.Programs.{answer, Answer, Derived, Closes, never_both, first_kept}
use Rattle.nq_parser.proofs.Utf8.{valid_not_utf8, one_valid, utf8_or_fault}
use Rattle.nq_parser.proofs.Lexed.{text_ends}

abbrev pub stop_fault : Stop → Fault
stop_fault NoToken = Fault.token
stop_fault TooLarge = Fault.int_range

abbrev pub close_fault : open_lists.Fault → Fault
close_fault open_lists.Unexpected = Fault.unexpected
close_fault open_lists.Deep = Fault.deep

abbrev pub wrong_fault : Wrong → Fault
wrong_fault (Unbound p) = Fault.unbound
wrong_fault (TwiceLabel p) = Fault.twice_label

abbrev pub wrong_place : Wrong → ℕ
wrong_place (Unbound p) = p
wrong_place (TwiceLabel p) = p

-- in which step a fault is found
pub data Found (d : ℕ) (text : List ℕ) (f : Fault) (p : ℕ) : Type 0 where
  of_utf8 : f ≡ Fault.not_utf8 → IsValidUpTo text p → Found d text f p
  of_stop : (s : Stop) → f ≡ stop_fault s → StopsAt text s p → Found d text f p
  of_close : (g : open_lists.Fault) → f ≡ close_fault g → EndsOpen d text g p → Found d text f p
  of_wrong : (w : Wrong) → f ≡ wrong_fault w → p ≡ wrong_place w → HasWrong d text w → Found d text f p

pub found : (d : ℕ) (text : List ℕ) (f : Fault) (p : ℕ) → HasFault d text f p → Found d text f p
found d text Fault.not_utf8 p h = of_utf8 refl h
found d text Fault.token p h = of_stop NoToken refl h
found d text Fault.int_range p h = of_stop TooLarge refl h
found d text Fault.unexpected p h = of_close open_lists.Unexpected refl h
found d text Fault.deep p h = of_close open_lists.Deep refl h
found d text Fault.unbound p h = of_wrong (Unbound p) refl refl h
found d text Fault.twice_label p h = of_wrong (TwiceLabel p) refl refl h

-- the tokens of a text are one list
one_list : (text : List ℕ) (ts us : List Token) → HasTokens text ts → HasTokens text us → ts ≡ us
one_list text ts us h k = let a = h.1 in let b = k.1 in cc

tokens_or_stop : (text : List ℕ) (ts : List Token) (s : Stop) (p : ℕ) → HasTokens text ts → StopsAt text s p → ⊥
tokens_or_stop text ts s p h k = let a = h.1 in let b = k.1 in absurd (cc)

-- they are those of one program
pub one_program : (text : List ℕ) (d e : ℕ) (ts us : List Token) (s t : Syntax) → HasTokens text ts → HasTokens text us → Derives d ts s → Derives e us t → s ≡ t
one_program text d e ts us s t h k p q =
    programs.one_program (edition_of ts) ts s t p.program (subst (λ z. IsProgram (edition_of z) z t) (sym (one_list text ts us h k)) q.program)

-- a program is spelled, so no token of it closes the list
spelled_open : (text : List ℕ) (d : ℕ) (ts : List Token) (s : Syntax) (g : open_lists.Fault) (p : ℕ) → HasTokens text ts → Derives d ts s → EndsOpen d text g p → ⊥
spelled_open text d ts s g p h r e =
    never_both (edition_of (e.before ++ e.last ∷ e.after)) d e.before e.last e.after g
    (subst (λ z. IsSpelled (edition_of z) d z) (one_list text ts (e.before ++ e.last ∷ e.after) h e.cut) (s, r.program, r.within)) e.closes

pub not_both : (d : ℕ) (text : List ℕ) (t : PlacedTerm) (f : Fault) (p : ℕ) → Spells d text t → HasFault d text f p → ⊥
not_both d text t f p s h = go (found d text f p h)
  where
    go : Found d text f p → ⊥
    go (of_utf8 e v) = valid_not_utf8 text p s.cut.0 v
    go (of_stop x e k) = tokens_or_stop text s.tokens x p s.cut k
    go (of_close g e k) = spelled_open text d s.tokens s.syntax_tree g p s.cut s.derived k
    go (of_wrong w e q k) =
        let same = one_program text d d s.tokens k.tokens s.syntax_tree k.syntax_tree s.cut k.cut s.derived k.derived in
        let none : wrongs k.syntax_tree [] ≡ [] = subst (λ z. wrongs z [] ≡ []) same s.bound in
        let some = k.first in absurd (cc)

pub one_term : (d : ℕ) (text : List ℕ) (t u : PlacedTerm) → Spells d text t → Spells d text u → t ≡ u
one_term d text t u a b =
    a.same ∙ ap (λ z. term_of z []) (one_program text d d a.tokens b.tokens a.syntax_tree b.syntax_tree a.cut b.cut a.derived b.derived) ∙ sym b.same

stop_same : (text : List ℕ) (s t : Stop) (p q : ℕ) → StopsAt text s p → StopsAt text t q → (s ≡ t) × (p ≡ q)
stop_same text s t p q h k =
    let e : ◌≡◌ {A = Result (List Token) (ℕ × Stop)} (Err (p, s)) (Err (q, t)) = sym h.1 ∙ k.1 in
    let r : ◌≡◌ {A = ℕ × Stop} (p, s) (q, t) = cc in
    (ap (λ (z : ℕ × Stop). z.1) r, ap (λ (z : ℕ × Stop). z.0) r)

wrong_same : (v w : Wrong) (s : Syntax) (vs ws : List Wrong) → wrongs s [] ≡ v ∷ vs → wrongs s [] ≡ w ∷ ws → v ≡ w
wrong_same v w s vs ws h k = cc

pub one_fault : (d : ℕ) (text : List ℕ) (f g : Fault) (p q : ℕ) → HasFault d text f p → HasFault d text g q → (f ≡ g) × (p ≡ q)
one_fault d text f g p q h k = go (found d text f p h) (found d text g q k)
  where
    go : Found d text f p → Found d text g q → (f ≡ g) × (p ≡ q)
    go (of_utf8 e v) (of_utf8 i w) = (e ∙ sym i, one_valid text p q v w)
    go (of_utf8 e v) (of_stop s i x) = absurd (valid_not_utf8 text p x.0 v)
    go (of_utf8 e v) (of_close a i x) = absurd (valid_not_utf8 text p x.cut.0 v)
    go (of_utf8 e v) (of_wrong w i r x) = absurd (valid_not_utf8 text p x.cut.0 v)
    go (of_stop s e x) (of_utf8 i v) = absurd (valid_not_utf8 text q x.0 v)
    go (of_stop s e x) (of_stop t i y) = let z = stop_same text s t p q x y in (e ∙ ap stop_fault z.0 ∙ sym i, z.1)
    go (of_stop s e x) (of_close a i y) = absurd (tokens_or_stop text (y.before ++ y.last ∷ y.after) s p y.cut x)
    go (of_stop s e x) (of_wrong w i r y) = absurd (tokens_or_stop text y.tokens s p y.cut x)
    go (of_close a e x) (of_utf8 i v) = absurd (valid_not_utf8 text q x.cut.0 v)
    go (of_close a e x) (of_stop t i y) = absurd (tokens_or_stop text (x.before ++ x.last ∷ x.after) t q x.cut y)
    go (of_close a e x) (of_close b i y) =
        let same = one_list text (x.before ++ x.last ∷ x.after) (y.before ++ y.last ∷ y.after) x.cut y.cut in
        let ed = edition_of (x.before ++ x.last ∷ x.after) in
        let z = generic.one_fault Token (IsSpelled ed) d x.before x.last a x.after y.before y.last b y.after same x.closes
        (subst (λ z. IsFaultAt Token (IsSpelled (edition_of z)) d y.before y.last b) (sym same) y.closes) in
        (e ∙ ap close_fault z.2 ∙ sym i, sym x.there ∙ ap place_of z.1 ∙ y.there)
    go (of_close a e x) (of_wrong w i r y) = absurd (spelled_open text d y.tokens y.syntax_tree a p y.cut y.derived x)
    go (of_wrong w e r x) (of_utf8 i v) = absurd (valid_not_utf8 text q x.cut.0 v)
    go (of_wrong w e r x) (of_stop t i y) = absurd (tokens_or_stop text x.tokens t q x.cut y)
    go (of_wrong w e r x) (of_close b i y) = absurd (spelled_open text d x.tokens x.syntax_tree b q x.cut x.derived y)
    go (of_wrong w e r x) (of_wrong u i o y) =
        let same = one_program text d d x.tokens y.tokens x.syntax_tree y.syntax_tree x.cut y.cut x.derived y.derived in
        let z = wrong_same w u y.syntax_tree x.later y.later (subst (λ z. wrongs z [] ≡ w ∷ x.later) same x.first) y.first in
        (e ∙ ap wrong_fault z ∙ sym i, r ∙ ap wrong_place z ∙ sym o)

-- the fault that a list of tokens has
pub ends_open : (d : ℕ) (text : List ℕ) (ts : List Token) (g : open_lists.Fault) (p : ℕ) → HasTokens text ts → ClosesAt d ts g p → EndsOpen d text g p
ends_open d text ts g p h c =
    record {
      before = c.before;
      last = c.last;
      after = c.after;
      cut = subst (HasTokens text) c.whole h;
      there = c.there;
      closes = subst (λ z. IsFaultAt Token (IsSpelled (edition_of z)) d c.before c.last g) c.whole c.closes;
    }

pub close_has : (d : ℕ) (text : List ℕ) (g : open_lists.Fault) (p : ℕ) → EndsOpen d text g p → HasFault d text (close_fault g) p
close_has d text open_lists.Unexpected p e = e
close_has d text open_lists.Deep p e = e

wrong_has : (d : ℕ) (text : List ℕ) (w : Wrong) → HasWrong d text w → HasFault d text (wrong_fault w) (wrong_place w)
wrong_has d text (Unbound p) h = h
wrong_has d text (TwiceLabel p) h = h

stop_has : (d : ℕ) (text : List ℕ) (s : Stop) (p : ℕ) → StopsAt text s p → HasFault d text (stop_fault s) p
stop_has d text NoToken p h = h
stop_has d text TooLarge p h = h

abbrev pub Verdict : ℕ → List ℕ → Type 0
Verdict d text = ((t : PlacedTerm) × Spells d text t) ⊎ ((f : Fault) × (p : ℕ) × HasFault d text f p)

named : (d : ℕ) (text : List ℕ) (ts : List Token) (s : Syntax) (ws : List Wrong) → HasTokens text ts → Derives d ts s → wrongs s [] ≡ ws → Verdict d text
named d text ts s [] h r e = inl (term_of s [], record { tokens = ts; cut = h; syntax_tree = s; derived = r; bound = e; same = refl })
named d text ts s (w ∷ ws) h r e = inr (wrong_fault w, wrong_place w, wrong_has d text w (record { tokens = ts; cut = h; syntax_tree = s; derived = r; later = ws; first = e }))

judged : (d : ℕ) (text : List ℕ) (ts : List Token) → HasTokens text ts → Answer d ts → Verdict d text
judged d text ts h (Derived s r) = named d text ts s (wrongs s []) h r refl
judged d text ts h (Closes g p c) = inr (close_fault g, p, close_has d text g p (ends_open d text ts g p h c))

-- it does one of both
pub one_holds : (d : ℕ) (text : List ℕ) → Verdict d text
one_holds d text = go (utf8_or_fault text)
  where
    cut : (r : Result (List Token) (ℕ × Stop)) → IsUtf8 text → tokens_of text ≡ r → Verdict d text
    cut (Ok ts) u e = judged d text ts (u, e) (answer d ts (text_ends text ts e))
    cut (Err e) u i = inr (stop_fault e.1, e.0, stop_has d text e.1 e.0 (u, i))

    go : IsUtf8 text ⊎ ((p : ℕ) × IsValidUpTo text p) → Verdict d text
    go (inl u) = cut (tokens_of text) u refl
    go (inr v) = inr (Fault.not_utf8, v.0, v.1)

-- a text that spells a term by the grammar of the first edition spells that term
pub first_spelled : (d : ℕ) (text : List ℕ) (ts : List Token) (s : Syntax) → HasTokens text ts → IsProgram First ts s → Within d s → wrongs s [] ≡ [] → Spells d text (term_of s [])
first_spelled d text ts s h p w e = record { tokens = ts; cut = h; syntax_tree = s; derived = first_kept d ts s p w; bound = e; same = refl }
