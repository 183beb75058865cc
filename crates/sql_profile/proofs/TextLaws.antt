-- A text spells at most one tree, or has one fault.
use Rattle.std.proofs.Common.{◌≡◌, ℕ, zero, suc, ◌<◌, ◌≤◌, Bool, true, false, List, [], ◌∷◌, ◌++◌, length, take, Result, Ok, Err, ◌⊎◌, inl, inr, refl, sym, ap, ◌∙◌, subst, arith}
use Rattle.std.specs.Str.{IsUtf8, IsValidUpTo, is_utf8}
use Rattle.std.proofs.lemmas.Str.{IsUtf8-from_is_utf8, is_utf8-from_IsUtf8, utf8_valid_len-IsUtf8, utf8_valid_len-IsValidUpTo, IsUtf8-nil}
use Rattle.std.proofs.lemmas.List.{take_all}
use Rattle.nq_model.specs.OpenLists.{Unexpected, Deep}
use Rattle.nq_model.specs.OpenLists as open_lists
use Rattle.nq_model.proofs.OpenLists as generic
use Rattle.sql_profile.specs.Tokens.{Edition, Token, End, place_of, Stuck, NoToken, TooLarge, tokens_of}
use Rattle.sql_profile.specs.Grammar.{IsText, IsSpelled, text_tokens, tree_of}
use Rattle.sql_profile.specs.Trees.{PlacedSql}
use Rattle.sql_profile.specs.Texts.{Spells, Fault, EndsOpen, HasFault}
use Rattle.sql_profile.proofs.TokenCuts.{tokens_few, tokens_end}
use Rattle.sql_profile.proofs.GrammarLengths.{text_depth_tokens}
use Rattle.sql_profile.proofs.GrammarExact.{one_tree, answer, Answer, Spells as SpellsTokens, Has, never_both}

ok_same : {A E : Type 0} (x y : A) → ◌≡◌ {A = Result A E} (Ok x) (Ok y) → x ≡ y
ok_same x y e = cc

-- the tokens of a text are determined
same_tokens : (edition : Edition) (text : List ℕ) (ts us : List Token) → tokens_of edition text ≡ Ok ts → tokens_of edition text ≡ Ok us → ts ≡ us
same_tokens edition text ts us e h = ok_same ts us (sym e ∙ h)

pub at_most_one_tree : (edition : Edition) (d e : ℕ) (text : List ℕ) (tree other : PlacedSql) → Spells edition d text tree → Spells edition e text other → tree ≡ other
at_most_one_tree edition d e text tree other a b =
    let ts : b.tokens ≡ a.tokens = same_tokens edition text b.tokens a.tokens b.cut.1 a.cut.1 in
    let moved : IsText edition a.tokens b.syntax_tree = subst (λ (l : List Token). IsText edition l b.syntax_tree) ts b.derived in
    a.same ∙ ap tree_of (one_tree edition a.tokens a.syntax_tree b.syntax_tree a.derived moved) ∙ sym b.same

-- a depth of its own bytes is enough for a text
pub bytes_are_deep : (edition : Edition) (d : ℕ) (text : List ℕ) (tree : PlacedSql) → Spells edition d text tree → Spells edition (length text) text tree
bytes_are_deep edition d text tree a =
    let few = tokens_few edition text a.tokens a.cut.1 in
    let deep = text_depth_tokens a.syntax_tree (End a.derived.1 ∷ []) in
    let as_many : length a.tokens ≡ length (text_tokens a.syntax_tree (End a.derived.1 ∷ [])) = ap length a.derived.2 in
    record { tokens = a.tokens; cut = a.cut; syntax_tree = a.syntax_tree; derived = a.derived; within = omega (arith, few, deep, as_many); same = a.same }

-- the longest front that is UTF-8, of those of at most k bytes
record Front (bs : List ℕ) (k : ℕ) : Type 0 where
  pub len : ℕ
  pub within : len ≤ k
  pub valid : IsUtf8 (take len bs)
  pub longest : (m : ℕ) → len < m → m ≤ k → IsUtf8 (take m bs) → ⊥

le_or : (m k : ℕ) → (m ≤ k) ⊎ (k ≤ m)
le_or zero k = inl (omega arith)
le_or (suc m) zero = inr (omega arith)
le_or (suc m) (suc k) = elim (le_or m k) [
  | inl less ↦ inl (omega (arith, less))
  | inr more ↦ inr (omega (arith, more))
]

below_or : (m k : ℕ) → (m < k) ⊎ (k ≤ m)
below_or m zero = inr (omega arith)
below_or zero (suc k) = inl (omega arith)
below_or (suc m) (suc k) = elim (below_or m k) [
  | inl less ↦ inl (omega (arith, less))
  | inr more ↦ inr (omega (arith, more))
]

le_cases : (m k : ℕ) → m ≤ suc k → (m ≤ k) ⊎ (m ≡ suc k)
le_cases zero k h = inl (omega arith)
le_cases (suc m) zero h = let z : m ≡ 0 = omega (arith, h) in inr (ap suc z)
le_cases (suc m) (suc k) h = elim (le_cases m k (omega (arith, h))) [
  | inl less ↦ inl (omega (arith, less))
  | inr same ↦ inr (ap suc same)
]

longest_front : (bs : List ℕ) (k : ℕ) → Front bs k
longest_front bs zero = record { len = 0; within = omega arith; valid = IsUtf8-nil; longest = λ m h g u. absurd (omega (arith, h, g)) }
longest_front bs (suc k) = go (is_utf8 (take (suc k) bs)) refl (longest_front bs k)
  where
    last : (m : ℕ) (f : Front bs k) → (IsUtf8 (take (suc k) bs) → ⊥) → f.len < m → m ≤ suc k → IsUtf8 (take m bs) → ⊥
    last m f not_utf8 h g u = elim (le_cases m k g) [
      | inl small ↦ f.longest m h small u
      | inr same ↦ not_utf8 (subst (λ n. IsUtf8 (take n bs)) same u)
    ]

    go : (b : Bool) → is_utf8 (take (suc k) bs) ≡ b → Front bs k → Front bs (suc k)
    go true e f = record { len = suc k; within = omega arith; valid = IsUtf8-from_is_utf8 (take (suc k) bs) e; longest = λ m h g u. absurd (omega (arith, h, g)) }
    go false e f =
        let none : IsUtf8 (take (suc k) bs) → ⊥ = λ u. let t = is_utf8-from_IsUtf8 (take (suc k) bs) u in absurd (cc) in
        let w = f.within in
        record { len = f.len; within = omega (arith, w); valid = f.valid; longest = λ m h g u. last m f none h g u }

-- the bytes are UTF-8, or up to a place
data Bytes (bs : List ℕ) : Type 0 where
  Valid : IsUtf8 bs → Bytes bs
  UpTo : (n : ℕ) → IsValidUpTo bs n → Bytes bs

bytes : (bs : List ℕ) → Bytes bs
bytes bs = go (is_utf8 bs) refl
  where
    go : (b : Bool) → is_utf8 bs ≡ b → Bytes bs
    go true e = Valid (IsUtf8-from_is_utf8 bs e)
    go false e =
        let f = longest_front bs (length bs) in
        let w = f.within in
        let none : IsUtf8 bs → ⊥ = λ u. let t = is_utf8-from_IsUtf8 bs u in absurd (cc) in
        UpTo f.len (record {
          short = shorter f.len w (λ same. none (subst (λ (l : List ℕ). IsUtf8 l) (ap (λ n. take n bs) same ∙ take_all (length bs) bs (omega arith)) f.valid));
          front = f.valid;
          longest = λ m h u. elim (le_or m (length bs)) [
            | inl small ↦ f.longest m h small u
            | inr large ↦ none (subst (λ (l : List ℕ). IsUtf8 l) (take_all m bs large) u)
          ];
        })
      where
        shorter : (n : ℕ) → n ≤ length bs → (n ≡ length bs → ⊥) → n < length bs
        shorter n h other = elim (below_or n (length bs)) [
          | inl less ↦ less
          | inr more ↦ absurd (other (omega (arith, h, more)))
        ]

-- not both
valid_not : (bs : List ℕ) (n : ℕ) → IsUtf8 bs → IsValidUpTo bs n → ⊥
valid_not bs n u v = let h = v.short in let e = sym (utf8_valid_len-IsUtf8 bs u) ∙ utf8_valid_len-IsValidUpTo bs n v in absurd (omega (arith, h, e))

not_closed : (edition : Edition) (d : ℕ) (text : List ℕ) (tree : PlacedSql) (f : open_lists.Fault) (place : ℕ) → Spells edition d text tree → EndsOpen edition d text f place → ⊥
not_closed edition d text tree f place a h =
    let ts : a.tokens ≡ h.before ++ h.last ∷ h.after = same_tokens edition text a.tokens (h.before ++ h.last ∷ h.after) a.cut.1 h.cut.1 in
    let spelled : IsSpelled edition d a.tokens = (a.syntax_tree, a.derived, a.within) in
    never_both edition d h.before h.last h.after f (subst (λ (l : List Token). IsSpelled edition d l) ts spelled) h.closes

-- a spelled text has no fault
pub spelled_faultless : (edition : Edition) (d : ℕ) (text : List ℕ) (tree : PlacedSql) (f : Fault) (place : ℕ) → Spells edition d text tree → HasFault edition d text f place → ⊥
spelled_faultless edition d text tree Fault.not_utf8 place a v = valid_not text place a.cut.0 v
spelled_faultless edition d text tree Fault.token place a h = let e = sym a.cut.1 ∙ h.1 in absurd (cc)
spelled_faultless edition d text tree Fault.int_range place a h = let e = sym a.cut.1 ∙ h.1 in absurd (cc)
spelled_faultless edition d text tree Fault.unexpected place a h = not_closed edition d text tree open_lists.Unexpected place a h
spelled_faultless edition d text tree Fault.deep place a h = not_closed edition d text tree open_lists.Deep place a h

one_stop : (edition : Edition) (text : List ℕ) (f g : Stuck) (p q : ℕ) → tokens_of edition text ≡ Err (p, f) → tokens_of edition text ≡ Err (q, g) → (f ≡ g) × (p ≡ q)
one_stop edition text f g p q e h =
    let same : ◌≡◌ {A = Result (List Token) (ℕ × Stuck)} (Err (p, f)) (Err (q, g)) = sym e ∙ h in
    let pair : ◌≡◌ {A = ℕ × Stuck} (p, f) (q, g) = cc in (ap (λ x. x.1) pair, ap (λ x. x.0) pair)

one_end : (edition : Edition) (d : ℕ) (text : List ℕ) (f g : open_lists.Fault) (p q : ℕ) → EndsOpen edition d text f p → EndsOpen edition d text g q → (f ≡ g) × (p ≡ q)
one_end edition d text f g p q a b =
    let ts = same_tokens edition text (a.before ++ a.last ∷ a.after) (b.before ++ b.last ∷ b.after) a.cut.1 b.cut.1 in
    let one = generic.one_fault Token (IsSpelled edition) d a.before a.last f a.after b.before b.last g b.after ts a.closes b.closes in
    (one.2, sym a.there ∙ ap place_of one.1 ∙ b.there)

stopped_or_cut : (edition : Edition) (text : List ℕ) (f : Stuck) (p : ℕ) (ts : List Token) → tokens_of edition text ≡ Err (p, f) → tokens_of edition text ≡ Ok ts → ⊥
stopped_or_cut edition text f p ts e h = let x : ◌≡◌ {A = Result (List Token) (ℕ × Stuck)} (Err (p, f)) (Ok ts) = sym e ∙ h in absurd (cc)

-- a text has at most one fault
pub at_most_one_fault : (edition : Edition) (d : ℕ) (text : List ℕ) (f g : Fault) (p q : ℕ) → HasFault edition d text f p → HasFault edition d text g q → (f ≡ g) × (p ≡ q)
at_most_one_fault edition d text Fault.not_utf8 Fault.not_utf8 p q a b = (refl, sym (utf8_valid_len-IsValidUpTo text p a) ∙ utf8_valid_len-IsValidUpTo text q b)
at_most_one_fault edition d text Fault.not_utf8 Fault.token p q a b = absurd (valid_not text p b.0 a)
at_most_one_fault edition d text Fault.not_utf8 Fault.int_range p q a b = absurd (valid_not text p b.0 a)
at_most_one_fault edition d text Fault.not_utf8 Fault.unexpected p q a b = absurd (valid_not text p b.cut.0 a)
at_most_one_fault edition d text Fault.not_utf8 Fault.deep p q a b = absurd (valid_not text p b.cut.0 a)
at_most_one_fault edition d text Fault.token Fault.not_utf8 p q a b = absurd (valid_not text q a.0 b)
at_most_one_fault edition d text Fault.token Fault.token p q a b = (refl, (one_stop edition text NoToken NoToken p q a.1 b.1).1)
at_most_one_fault edition d text Fault.token Fault.int_range p q a b = let x = (one_stop edition text NoToken TooLarge p q a.1 b.1).0 in absurd (cc)
at_most_one_fault edition d text Fault.token Fault.unexpected p q a b = absurd (stopped_or_cut edition text NoToken p (b.before ++ b.last ∷ b.after) a.1 b.cut.1)
at_most_one_fault edition d text Fault.token Fault.deep p q a b = absurd (stopped_or_cut edition text NoToken p (b.before ++ b.last ∷ b.after) a.1 b.cut.1)
at_most_one_fault edition d text Fault.int_range Fault.not_utf8 p q a b = absurd (valid_not text q a.0 b)
at_most_one_fault edition d text Fault.int_range Fault.token p q a b = let x = (one_stop edition text TooLarge NoToken p q a.1 b.1).0 in absurd (cc)
at_most_one_fault edition d text Fault.int_range Fault.int_range p q a b = (refl, (one_stop edition text TooLarge TooLarge p q a.1 b.1).1)
at_most_one_fault edition d text Fault.int_range Fault.unexpected p q a b = absurd (stopped_or_cut edition text TooLarge p (b.before ++ b.last ∷ b.after) a.1 b.cut.1)
at_most_one_fault edition d text Fault.int_range Fault.deep p q a b = absurd (stopped_or_cut edition text TooLarge p (b.before ++ b.last ∷ b.after) a.1 b.cut.1)
at_most_one_fault edition d text Fault.unexpected Fault.not_utf8 p q a b = absurd (valid_not text q a.cut.0 b)
at_most_one_fault edition d text Fault.unexpected Fault.token p q a b = absurd (stopped_or_cut edition text NoToken q (a.before ++ a.last ∷ a.after) b.1 a.cut.1)
at_most_one_fault edition d text Fault.unexpected Fault.int_range p q a b = absurd (stopped_or_cut edition text TooLarge q (a.before ++ a.last ∷ a.after) b.1 a.cut.1)
at_most_one_fault edition d text Fault.unexpected Fault.unexpected p q a b = (refl, (one_end edition d text Unexpected Unexpected p q a b).1)
at_most_one_fault edition d text Fault.unexpected Fault.deep p q a b = let x = (one_end edition d text Unexpected Deep p q a b).0 in absurd (cc)
at_most_one_fault edition d text Fault.deep Fault.not_utf8 p q a b = absurd (valid_not text q a.cut.0 b)
at_most_one_fault edition d text Fault.deep Fault.token p q a b = absurd (stopped_or_cut edition text NoToken q (a.before ++ a.last ∷ a.after) b.1 a.cut.1)
at_most_one_fault edition d text Fault.deep Fault.int_range p q a b = absurd (stopped_or_cut edition text TooLarge q (a.before ++ a.last ∷ a.after) b.1 a.cut.1)
at_most_one_fault edition d text Fault.deep Fault.unexpected p q a b = let x = (one_end edition d text Deep Unexpected p q a b).0 in absurd (cc)
at_most_one_fault edition d text Fault.deep Fault.deep p q a b = (refl, (one_end edition d text Deep Deep p q a b).1)

-- a text spells a tree or has a fault
pub spelled_or_faulty : (edition : Edition) (d : ℕ) (text : List ℕ) → ((tree : PlacedSql) × Spells edition d text tree) ⊎ ((f : Fault) × (place : ℕ) × HasFault edition d text f place)
spelled_or_faulty edition d text = go (bytes text) (tokens_of edition text) refl
  where
    faulty : (f : open_lists.Fault) (place : ℕ) → EndsOpen edition d text f place → (f : Fault) × (place : ℕ) × HasFault edition d text f place
    faulty Unexpected place h = (Fault.unexpected, place, h)
    faulty Deep place h = (Fault.deep, place, h)

    answered : (ts : List Token) → IsUtf8 text → tokens_of edition text ≡ Ok ts → Answer edition d ts → ((tree : PlacedSql) × Spells edition d text tree) ⊎ ((f : Fault) × (place : ℕ) × HasFault edition d text f place)
    answered ts u e (SpellsTokens s p w) = inl (tree_of s, record { tokens = ts; cut = (u, e); syntax_tree = s; derived = p; within = w; same = refl })
    answered ts u e (Has us t rest f split fault) =
        inr (faulty f (place_of t) (record { before = us; last = t; after = rest; cut = (u, e ∙ ap (λ (l : List Token). Ok l) split); there = refl; closes = fault }))

    go : Bytes text → (r : Result (List Token) (ℕ × Stuck)) → tokens_of edition text ≡ r → ((tree : PlacedSql) × Spells edition d text tree) ⊎ ((f : Fault) × (place : ℕ) × HasFault edition d text f place)
    go (UpTo n v) r e = inr (Fault.not_utf8, n, v)
    go (Valid u) (Ok ts) e =
        let c = tokens_end edition text ts e in
        answered ts u e (subst (λ (l : List Token). Answer edition d l) (sym c.2) (answer edition d c.0 c.1))
    go (Valid u) (Err (place, NoToken)) e = inr (Fault.token, place, (u, e))
    go (Valid u) (Err (place, TooLarge)) e = inr (Fault.int_range, place, (u, e))
