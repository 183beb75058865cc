-- Texts between quotes, each quote in them doubled, written piece by piece.
use Rattle.std.proofs.Common.{◌≡◌, ◌≢◌, ℕ, suc, ◌<◌, List, [], ◌∷◌, ◌++◌, refl, sym, ap, ◌∙◌, cond, eqb, length, get_or, arith, append_assoc, codes, inl, inr}
use Rattle.std.proofs.lemmas.Bool.Decides.{eqb_tells}
use Rattle.nq_model.specs.Canonical.{doubled_quotes}

-- no byte of a text is a quote
abbrev pub HasNoQuote : List ℕ → Type 0
HasNoQuote bs = (i : ℕ) → i < length bs → get_or bs i 0 ≢ 39

not_doubled : (b : ℕ) (doubled once : List ℕ) → b ≢ 39 → cond (eqb b 39) doubled once ≡ once
not_doubled b doubled once h =
    elim (eqb_tells b 39) [
      | inl t ↦ absurd (h t.1)
      | inr t ↦ ap (λ c. cond c doubled once) t.0
    ]

pub doubled_none : (bs : List ℕ) → HasNoQuote bs → doubled_quotes bs ≡ bs
doubled_none [] h = refl
doubled_none (b ∷ bs) h =
    not_doubled b (39 ∷ 39 ∷ doubled_quotes bs) (b ∷ doubled_quotes bs) (h 0 (omega arith))
    ∙ ap (λ (l : List ℕ). b ∷ l) (doubled_none bs (λ i k. h (suc i) (omega (arith, k))))

doubled_split : (bs after : List ℕ) → HasNoQuote bs → doubled_quotes (bs ++ 39 ∷ after) ≡ bs ++ (39 ∷ 39 ∷ doubled_quotes after)
doubled_split [] after h = refl
doubled_split (b ∷ bs) after h =
    not_doubled b (39 ∷ 39 ∷ doubled_quotes (bs ++ 39 ∷ after)) (b ∷ doubled_quotes (bs ++ 39 ∷ after)) (h 0 (omega arith))
    ∙ ap (λ (l : List ℕ). b ∷ l) (doubled_split bs after (λ i k. h (suc i) (omega (arith, k))))

-- what stands before a quote is written, and two quotes
pub quote_written : (text mid new rest before after all : List ℕ) → rest ≡ before ++ 39 ∷ after → HasNoQuote before → mid ≡ text ++ before → new ≡ mid ++ codes "''" → text ++ doubled_quotes rest ≡ all → new ++ doubled_quotes after ≡ all
quote_written text mid new rest before after all e none p q h =
    ap (λ (l : List ℕ). l ++ doubled_quotes after) (q ∙ ap (λ (l : List ℕ). l ++ codes "''") p) ∙ (simp append_assoc)
    ∙ ap (λ (l : List ℕ). text ++ l) (sym (doubled_split before after none)) ∙ ap (λ (l : List ℕ). text ++ doubled_quotes l) (sym e) ∙ h

-- what is left when no quote is found is written as it stands, and a quote
pub quoted_ends : (start first text last new rest quoted : List ℕ) → HasNoQuote rest → first ≡ start ++ codes "'" → text ++ doubled_quotes rest ≡ first ++ doubled_quotes quoted → last ≡ text ++ rest → new ≡ last ++ codes "'" → new ≡ start ++ (codes "'" ++ (doubled_quotes quoted ++ codes "'"))
quoted_ends start first text last new rest quoted none e h p q =
    q ∙ ap (λ (l : List ℕ). l ++ codes "'") (p ∙ ap (λ (l : List ℕ). text ++ l) (sym (doubled_none rest none)) ∙ h ∙ ap (λ (l : List ℕ). l ++ doubled_quotes quoted) e) ∙ (simp append_assoc)
