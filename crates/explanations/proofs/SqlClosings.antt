-- Where a text ceases to be open SQL, and the kinds that are expected there.
use Rattle.std.proofs.Common.{◌≡◌, ℕ, List, ◌∷◌, ◌++◌, map, Option, Some, None}
use Rattle.std.proofs.Common.{Result, Ok, sym, ap, subst, ◌∙◌}
use Rattle.nq_model.specs.OpenLists.{Fault}
use Rattle.sql_profile.specs.Texts.{EndsOpen, HasTokens}
use Rattle.sql_profile.specs.Tokens.{First, Token}
use Rattle.sql_reader.specs.Symbols.{token_view}
use Rattle.sql_reader.specs.declared.token.Token.{Token as CodeToken}
use Rattle.expected_sql_tokens.specs.Expected.{Expected}
use Rattle.expected_sql_tokens.specs.declared.kinds.SqlTokenKind.{SqlTokenKind}
use Rattle.explanations.specs.SqlExplanations.{SqlTokensIn}

-- a text that ceases to be open has tokens
pub no_sql_tokens : (d : ℕ) (text : List ℕ) (place : ℕ) (found : Option (List CodeToken))
    → found ≡ None → SqlTokensIn (Ok found) text → (fault : Fault)
    → EndsOpen First d text fault place → ⊥
no_sql_tokens d text place found is none fault ends =
    let P : Option (List CodeToken) → Type 0 = λ f. SqlTokensIn (Ok f) text in
    (subst P is none) (ends.before ++ ends.last ∷ ends.after) ends.cut

one_cut : (text : List ℕ) (xs ys : List Token) → HasTokens First text xs
    → HasTokens First text ys → xs ≡ ys
one_cut text xs ys h k =
    let e : ◌≡◌ {A = Result (List Token) _} (Ok xs) (Ok ys) = sym h.1 ∙ k.1 in
    cc

-- and there are kinds that are expected there
pub no_sql_kinds : (d : ℕ) (text : List ℕ) (place : ℕ) (found : Option (List CodeToken))
    (tokens lent : List CodeToken) (kinds : Option (List SqlTokenKind)) → found ≡ Some tokens
    → SqlTokensIn (Ok found) text → lent ≡ tokens → kinds ≡ None
    → Expected (Ok kinds) d (map token_view lent) → (fault : Fault)
    → EndsOpen First d text fault place → ⊥
no_sql_kinds d text place found tokens lent kinds is has same none expected fault ends =
    let P : Option (List CodeToken) → Type 0 = λ f. SqlTokensIn (Ok f) text in
    let Q : Option (List SqlTokenKind) → Type 0 = λ k. Expected (Ok k) d (map token_view lent) in
    let all : List Token = ends.before ++ ends.last ∷ ends.after in
    let whole : map token_view lent ≡ all = ap (map token_view) same
    ∙ one_cut text (map token_view tokens) all (subst P is has) ends.cut in
    (subst Q none expected) ends.before ends.last fault (ends.after, whole, ends.closes)
