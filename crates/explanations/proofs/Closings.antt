-- Where a text ceases to be open, and the kinds that are expected there.
use Rattle.std.proofs.Common.{◌≡◌, ℕ, List, ◌∷◌, ◌++◌, map, Option, Some, None, Result, Ok}
use Rattle.std.proofs.Common.{sym, ap, subst, ◌∙◌}
use Rattle.nq_model.specs.OpenLists.{Fault, IsFaultAt}
use Rattle.nq_model.specs.QueryGrammar.{IsSpelled}
use Rattle.nq_model.specs.QueryTexts.{EndsOpen, HasTokens, edition_of}
use Rattle.nq_model.specs.QueryTokens.{Token}
use Rattle.query_syntax.specs.Symbols.{token_view}
use Rattle.query_syntax.specs.declared.symbol.Token.{Token as CodeToken}
use Rattle.expected_tokens.specs.Expected.{Expected}
use Rattle.expected_tokens.specs.declared.kinds.TokenKind.{TokenKind}
use Rattle.explanations.specs.Explanations.{TokensIn}

-- a text that ceases to be open has tokens
pub no_tokens : (d : ℕ) (text : List ℕ) (place : ℕ) (found : Option (List CodeToken))
    → found ≡ None → TokensIn (Ok found) text → (fault : Fault) → EndsOpen d text fault place → ⊥
no_tokens d text place found is none fault ends =
    let P : Option (List CodeToken) → Type 0 = λ f. TokensIn (Ok f) text in
    (subst P is none) (ends.before ++ ends.last ∷ ends.after) ends.cut

one_cut : (text : List ℕ) (xs ys : List Token) → HasTokens text xs → HasTokens text ys → xs ≡ ys
one_cut text xs ys h k =
    let e : ◌≡◌ {A = Result (List Token) _} (Ok xs) (Ok ys) = sym h.1 ∙ k.1 in
    cc

-- and there are kinds that are expected there
pub no_kinds : (d : ℕ) (text : List ℕ) (place : ℕ) (found : Option (List CodeToken))
    (tokens lent : List CodeToken) (kinds : Option (List TokenKind)) → found ≡ Some tokens
    → TokensIn (Ok found) text → lent ≡ tokens → kinds ≡ None
    → Expected (Ok kinds) d (map token_view lent) → (fault : Fault) → EndsOpen d text fault place
    → ⊥
no_kinds d text place found tokens lent kinds is has same none expected fault ends =
    let P : Option (List CodeToken) → Type 0 = λ f. TokensIn (Ok f) text in
    let Q : Option (List TokenKind) → Type 0 = λ k. Expected (Ok k) d (map token_view lent) in
    let all : List Token = ends.before ++ ends.last ∷ ends.after in
    let whole : map token_view lent ≡ all = ap (map token_view) same
    ∙ one_cut text (map token_view tokens) all (subst P is has) ends.cut in
    let C : List Token → Type 0 = λ ts.
    IsFaultAt Token (IsSpelled (edition_of ts)) d ends.before ends.last fault in
    (subst Q none expected) ends.before ends.last fault
    (ends.after, whole, subst C (sym whole) ends.closes)
