-- The turns of the loop over the table, and what the picked kinds say of tokens.
use Rattle.std.proofs.Common.{◌≡◌, ℕ, ◌+◌, ◌<◌, ◌≤◌, Bool, true, false, if◌then◌else◌, List, []}
use Rattle.std.proofs.Common.{◌∷◌, ◌++◌, length, take, map, sym, ◌∙◌, ap, subst, ◌⊎◌, inl, inr, Ok}
use Rattle.std.proofs.Common.{arith}
use Rattle.std.specs.Prelude.{get_or}
use Rattle.std.specs.List.{Contains}
use Rattle.std.proofs.lemmas.List.{take_more, take_all, take-map}
use Rattle.std.proofs.lemmas.List.Elements.{Contains-append_left, Contains-push}
use Rattle.std.proofs.lemmas.List.Elements.{Contains-push_cases}
use Rattle.nq_model.specs.OpenLists.{Fault}
use Rattle.nq_model.specs.QueryTokens.{Token}
use Rattle.nq_model.specs.QueryGrammar.{Edition}
use Rattle.nq_model.specs.QueryTexts.{edition_of}
use Rattle.query_syntax.specs.Symbols.{token_view}
use Rattle.query_syntax.specs.declared.symbol.Token.{Token as CodeToken}
use Rattle.nq_parser.specs.Openness.{Closes, KindsGoOn}
use Rattle.nq_parser.specs.TokenKinds.{token_kind}
use Rattle.expected_tokens.specs.Expected.{GoesOn, TellsKind, Picks, Expects}
use Rattle.expected_tokens.specs.Kinds.{sample}
use Rattle.expected_tokens.specs.declared.kinds.TheConstants.{KINDS}
use Rattle.expected_tokens.specs.declared.kinds.TokenKind.{TokenKind}
use Rattle.expected_tokens.proofs.KindFacts.{kind_for, kind_back, sample_kind, token_held, in_table}

module _ (ed : Edition) (d : ℕ) (before : List Token) where
  none_in : (k : TokenKind) → Contains [] k → ⊥
  none_in k h = let l = h.1 in omega arith

  pub picks_none : (table : List TokenKind) → Picks ed d before (take 0 table) []
  picks_none table = record {
    right = λ k h. absurd (none_in k h);
    whole = λ k h g. absurd (none_in
        k h);
  }

  -- a table with one kind more
  kind_more : (table : List TokenKind) (n : ℕ) (x y k : TokenKind) → n < length table
      → x ≡ get_or table n y
      → Contains (take (n + 1) table) k → Contains (take n table) k ⊎ (x ≡ k)
  kind_more table n x y k l e h =
      let more : take (n + 1) table ≡ take n table ++ x ∷ [] = take_more table n y l
      ∙ ap (λ z. take n table ++ z ∷ []) (sym e) in
      Contains-push_cases (take n table) x k (subst (λ z. Contains z k) more h)

  pub picks_one : (table kinds : List TokenKind) (n : ℕ) (x y : TokenKind) → n < length table
      → x ≡ get_or table n y
      → Picks ed d before (take n table) kinds → GoesOn ed d before x
      → Picks ed d before (take (n + 1) table) (kinds ++ x ∷ [])
  picks_one table kinds n x y l e p g = record {
    right = λ k h. elim (Contains-push_cases kinds x k h) [
      | inl i ↦ p.right k i
      | inr i ↦ subst (λ
          z. GoesOn ed d before z) i g
    ];
    whole = λ k h f. elim (kind_more table n x y k l e h) [
      | inl i ↦ Contains-append_left kinds (x ∷ []) k (p.whole k i f)
      | inr i ↦ subst (λ z. Contains (kinds ++ x ∷ []) z) i (Contains-push kinds x)
    ];
  }

  pub picks_no : (table kinds : List TokenKind) (n : ℕ) (x y : TokenKind) → n < length table
      → x ≡ get_or table n y
      → Picks ed d before (take n table) kinds → (GoesOn ed d before x → ⊥)
      → Picks ed d before (take (n + 1) table) kinds
  picks_no table kinds n x y l e p g = record {
    right = p.right;
    whole = λ k h f. elim (kind_more table n x y k l e h) [
      | inl i ↦ p.whole k i f
      | inr i ↦ absurd (g (subst (λ z. GoesOn ed d before z) (sym i) f))
    ];
  }

  pub picks_turn : (b : Bool) (table kinds new : List TokenKind) (n : ℕ) (x y : TokenKind)
      → n < length table → x ≡ get_or table n y
      → Picks ed d before (take n table) kinds → TellsKind ed (Ok b) d before x
      → new ≡ (if b then kinds ++ x ∷ [] else kinds)
      → Picks ed d before (take (n + 1) table) new
  picks_turn true table kinds new n x y l e p g i = subst (λ z. Picks ed d before (take (n + 1)
      table) z) (sym i) (picks_one table kinds n x y l e p g)
  picks_turn false table kinds new n x y l e p g i = subst (λ z. Picks ed d before (take (n + 1)
      table) z) (sym i) (picks_no table kinds n x y l e p g)

  pub picks_all : (table kinds : List TokenKind) (n : ℕ) → length table ≤ n
      → Picks ed d before (take n table) kinds → Picks ed d before table kinds
  picks_all table kinds n l p = subst (λ z. Picks ed d before z kinds) (take_all n table l) p

-- what was picked of all kinds is what is expected
pub expects : (d : ℕ) (ts before : List Token) (last : Token) (f : Fault) (kinds : List TokenKind)
    → KindsGoOn → Closes d ts before last f
    → Picks (edition_of ts) d before KINDS kinds → Expects d ts kinds
expects d ts before last f kinds law c p = record {
  before = before;
  last = last;
  fault = f;
  closes = c;
  named = λ t n. let g = p.right n.0 n.1 in law d ts before last f c (sample n.0) t (sample_kind
      (edition_of ts) n.0 g.0 ∙ n.2) g.1;
  all = λ t o.
      let k = kind_for (token_kind (edition_of ts) t) in
      let h = token_held (edition_of ts) t in
      let b = kind_back (token_kind (edition_of ts) t) in
      let g = law d ts before last f c t (sample k) (sym b
      ∙ sym (sample_kind (edition_of ts) k h)) o in
      (k, p.whole k (in_table k) (h, g), b);
}

-- the same of the reader's tokens
pub expects_of : (d : ℕ) (xs ys : List CodeToken) (n : ℕ) (ed : Edition) (kinds : List TokenKind)
    → ed ≡ edition_of (map token_view xs) → ys ≡ take n xs → KindsGoOn
    → (last : Token) × (f : Fault) × Closes d (map token_view xs) (take n (map token_view xs)) last
    f
    → Picks ed d (map token_view ys) KINDS kinds → Expects d (map token_view xs) kinds
expects_of d xs ys n ed kinds e i law c p =
    let same : map token_view ys ≡ take n (map token_view xs) = ap (map token_view) i
    ∙ sym (take-map token_view n xs) in
    expects d (map token_view xs) (take n (map token_view xs)) c.0 c.1 kinds law c.2
    (subst (λ z. Picks z d (take n (map token_view xs)) KINDS kinds) e (subst (λ z. Picks ed d z
    KINDS kinds) same p))
