-- The turns of the loop over the table, and what the picked kinds say of tokens.
use Rattle.std.proofs.Common.{◌≡◌, ℕ, ◌+◌, ◌<◌, ◌≤◌, Bool, true, false}
use Rattle.std.proofs.Common.{if◌then◌else◌, List, [], ◌∷◌, ◌++◌, length, take, map}
use Rattle.std.proofs.Common.{sym, ◌∙◌, ap, subst, ◌⊎◌, inl, inr, Ok, arith}
use Rattle.std.specs.Prelude.{get_or}
use Rattle.std.specs.List.{Contains}
use Rattle.std.proofs.lemmas.List.{take_more, take_all, take-map}
use Rattle.std.proofs.lemmas.List.Elements.{Contains-append_left, Contains-push}
use Rattle.std.proofs.lemmas.List.Elements.{Contains-push_cases}
use Rattle.nq_model.specs.OpenLists.{Fault}
use Rattle.sql_profile.specs.Tokens.{Token}
use Rattle.sql_reader.specs.Openness.{Closes, KindsGoOn}
use Rattle.sql_reader.specs.Symbols.{token_view}
use Rattle.sql_reader.specs.TokenKinds.{token_kind}
use Rattle.sql_reader.specs.declared.token.Token.{Token as CodeToken}
use Rattle.expected_sql_tokens.specs.Expected.{GoesOnWith, TellsKind, Picks, Expects}
use Rattle.expected_sql_tokens.specs.Kinds.{kind_for, sample}
use Rattle.expected_sql_tokens.specs.declared.kinds.TheConstants.{KINDS}
use Rattle.expected_sql_tokens.specs.declared.kinds.SqlTokenKind.{SqlTokenKind}
use Rattle.expected_sql_tokens.proofs.KindFacts.{kind_back, sample_kind, in_table}

module _ (d : ℕ) (before : List Token) where
  none_in : (k : SqlTokenKind) → Contains [] k → ⊥
  none_in k h = let l = h.1 in omega arith

  pub picks_none : (table : List SqlTokenKind) → Picks d before (take 0 table) []
  picks_none table = record {
    right = λ k h. absurd (none_in k h);
    whole = λ k h g. absurd (none_in k h);
  }

  -- a table with one kind more
  kind_more : (table : List SqlTokenKind) (n : ℕ) (x y k : SqlTokenKind) → n < length table
      → x ≡ get_or table n y
      → Contains (take (n + 1) table) k → Contains (take n table) k ⊎ (x ≡ k)
  kind_more table n x y k l e h =
      let more : take (n + 1) table ≡ take n table ++ x ∷ [] = take_more table n y l
      ∙ ap (λ z. take n table ++ z ∷ []) (sym e) in
      Contains-push_cases (take n table) x k (subst (λ z. Contains z k) more h)

  pub picks_one : (table kinds : List SqlTokenKind) (n : ℕ) (x y : SqlTokenKind)
      → n < length table
      → x ≡ get_or table n y
      → Picks d before (take n table) kinds → GoesOnWith d before (sample x)
      → Picks d before (take (n + 1) table) (kinds ++ x ∷ [])
  picks_one table kinds n x y l e p g = record {
    right = λ k h. elim (Contains-push_cases kinds x k h) [
      | inl i ↦ p.right k i
      | inr i ↦ subst (λ z. GoesOnWith d before (sample z)) i g
    ];
    whole = λ k h f. elim (kind_more table n x y k l e h) [
      | inl i ↦ Contains-append_left kinds (x ∷ []) k (p.whole k i f)
      | inr i ↦ subst (λ z. Contains (kinds ++ x ∷ []) z) i (Contains-push kinds x)
    ];
  }

  pub picks_no : (table kinds : List SqlTokenKind) (n : ℕ) (x y : SqlTokenKind)
      → n < length table
      → x ≡ get_or table n y
      → Picks d before (take n table) kinds → (GoesOnWith d before (sample x) → ⊥)
      → Picks d before (take (n + 1) table) kinds
  picks_no table kinds n x y l e p g = record {
    right = p.right;
    whole = λ k h f. elim (kind_more table n x y k l e h) [
      | inl i ↦ p.whole k i f
      | inr i ↦ absurd (g (subst (λ z. GoesOnWith d before (sample z)) (sym i) f))
    ];
  }

  pub picks_turn : (b : Bool) (table kinds new : List SqlTokenKind) (n : ℕ) (x y : SqlTokenKind)
      → n < length table → x ≡ get_or table n y
      → Picks d before (take n table) kinds → TellsKind (Ok b) d before x
      → new ≡ (if b then kinds ++ x ∷ [] else kinds)
      → Picks d before (take (n + 1) table) new
  picks_turn true table kinds new n x y l e p g i = subst (λ z. Picks d before (take (n + 1)
      table) z) (sym i) (picks_one table kinds n x y l e p g)
  picks_turn false table kinds new n x y l e p g i = subst (λ z. Picks d before (take (n + 1)
      table) z) (sym i) (picks_no table kinds n x y l e p g)

  pub picks_all : (table kinds : List SqlTokenKind) (n : ℕ) → length table ≤ n
      → Picks d before (take n table) kinds → Picks d before table kinds
  picks_all table kinds n l p = subst (λ z. Picks d before z kinds) (take_all n table l) p

-- what was picked of all kinds is what is expected
pub expects : (d : ℕ) (ts before : List Token) (last : Token) (f : Fault) (kinds : List
    SqlTokenKind) → KindsGoOn → Closes d ts before last f → Picks d before KINDS kinds
    → Expects d ts kinds
expects d ts before last f kinds law c p = record {
  before = before;
  last = last;
  fault = f;
  closes = c;
  named = λ t n. law d before (sample n.0) t (sample_kind n.0 ∙ n.2) (p.right n.0 n.1);
  all = λ t o.
      let k = kind_for (token_kind t) in
      let b = kind_back (token_kind t) in
      let g = law d before t (sample k) (sym b ∙ sym (sample_kind k)) o in
      (k, p.whole k (in_table k) g, b);
}

-- the same of the reader's tokens
pub expects_of : (d : ℕ) (xs ys : List CodeToken) (n : ℕ) (kinds : List SqlTokenKind)
    → ys ≡ take n xs → KindsGoOn
    → (last : Token) × (f : Fault)
    × Closes d (map token_view xs) (take n (map token_view xs)) last f
    → Picks d (map token_view ys) KINDS kinds → Expects d (map token_view xs) kinds
expects_of d xs ys n kinds i law c p =
    let same : map token_view ys ≡ take n (map token_view xs) = ap (map token_view) i
    ∙ sym (take-map token_view n xs) in
    expects d (map token_view xs) (take n (map token_view xs)) c.0 c.1 kinds law c.2
    (subst (λ z. Picks d z KINDS kinds) same p)
