-- A text spells one schema, or it has one fault.
use Rattle.std.proofs.Common.{◌≡◌, ℕ, zero, suc, ◌≤◌, ◌<◌, false, List, [], ◌∷◌, length, take, refl, sym, ◌∙◌, ap, subst, arith, ◌⊎◌, inl, inr, true≢false, nat_lt, take_all, Some, None}
use Rattle.std.specs.List.{AllByRecursion as Each, flat_map}
use Rattle.std.specs.Str.{IsUtf8, IsValidUpTo, is_utf8}
use Rattle.std.proofs.lemmas.Bool.Decides.{Decides-ltb, nat_tests}
use Rattle.std.proofs.lemmas.Str.{IsUtf8-from_is_utf8, is_utf8-from_IsUtf8, IsUtf8-nil}
use Rattle.nq_model.specs.Tables.{IsProperSchema}
use Rattle.nq_model.specs.SchemaTokens.{Token, tokens_from, end_token, HasTokens}
use Rattle.nq_model.specs.SchemaTexts.{WrittenTable, IsSymbol, WritesTables, IsSyntaxPlace, Fault, rank, FaultAt, NotLater, HasFault, Spells, schema_of}
use Rattle.nq_model.specs.declared.table.Schema.{Schema}
use Rattle.schema_reader.specs.Shapes.{tables_fault}
use Rattle.schema_reader.specs.Words.{HaveQueryWords}
use Rattle.schema_reader.proofs.Truths.{Truth, yes', no', truth, Found, nothing', something', found}
use Rattle.schema_reader.proofs.Cuts.{Ascend, Ascend-append, AreSymbols, Each-append, tokens_ascend, tokens_symbols}
use Rattle.schema_reader.proofs.Syntax.{cut_far, Judged, faulty, written, judged, one_place, one_tables, no_syntax_fault}
use Rattle.schema_reader.proofs.Conditions.{Rise, names_in, walk_none, walk_some}
use Rattle.schema_reader.proofs.Names.{schema_rise, schema_words, schema_proper, schema_query_words}

-- what is known of the tokens of a text
pub record Ordered (tokens : List Token) : Type 0 where
  pub high : ℕ
  pub rises : Ascend 0 tokens high
  pub symbols : AreSymbols tokens

text_ordered : (text : List ℕ) (tokens : List Token) → HasTokens text tokens → Ordered tokens
text_ordered text tokens h = subst Ordered (sym h.4) (record {
  high = suc h.1;
  rises = Ascend-append 0 h.1 (suc h.1) (tokens_from 0 h.0) (end_token h.1 h.2)
      (subst (λ z. Ascend 0 (tokens_from 0 h.0) z) (sym (cut_far text h.0 h.1 h.2 h.3)) (tokens_ascend 0 h.0 h.2 h.3.fit)) (end_rises h.2);
  symbols = Each-append (λ t. IsSymbol t.symbol) (tokens_from 0 h.0) (end_token h.1 h.2) (tokens_symbols 0 h.0 h.2 h.3.fit) (end_symbol h.2);
})
  where
    end_rises : (rest : List ℕ) → Ascend h.1 (end_token h.1 rest) (suc h.1)
    end_rises [] = (omega arith, omega arith)
    end_rises (b ∷ bs) = omega arith

    end_symbol : (rest : List ℕ) → AreSymbols (end_token h.1 rest)
    end_symbol [] = (tt, tt)
    end_symbol (b ∷ bs) = tt

written_rise : (text : List ℕ) (tables : List WrittenTable) → WritesTables text tables → (high : ℕ) × Rise 0 (flat_map names_in tables) high
written_rise text tables w =
    let o = text_ordered text w.0 w.1 in
    (o.high, schema_rise tables w.0 o.high w.2.filled o.rises)

pub spelled_proper : (text : List ℕ) (schema : Schema) → Spells text schema → IsProperSchema schema
spelled_proper text schema s =
    let o = text_ordered text s.written.0 s.written.1 in
    subst IsProperSchema (sym s.same) (schema_proper s.tables (schema_words s.tables s.written.0 s.written.2.filled o.symbols) s.faultless)

-- the names of a spelled schema are words of at most 64 bytes
pub spelled_words : (text : List ℕ) (schema : Schema) → Spells text schema
    → HaveQueryWords schema
spelled_words text schema s =
    let o = text_ordered text s.written.0 s.written.1 in
    let words = schema_words s.tables s.written.0 s.written.2.filled o.symbols in
    subst HaveQueryWords (sym s.same) (schema_query_words s.tables words s.faultless)

-- where the walk finds no fault the text spells the schema
pub spells : (text : List ℕ) (tables : List WrittenTable) → IsUtf8 text → WritesTables text tables → tables_fault [] tables ≡ None → Spells text (schema_of tables)
spells text tables u w e =
    let r = written_rise text tables w in
    record { utf8 = u; tables = tables; written = w; faultless = walk_none tables r.0 r.1 e; same = refl }

-- a fault of the conditions
abbrev IsCondition : Fault → Type 0
IsCondition Fault.not_utf8 = ⊥
IsCondition Fault.syntax = ⊥
IsCondition f = Unit {0}

condition_of : (tables : List WrittenTable) (f : Fault) (p : ℕ) → FaultAt tables f p → IsCondition f
condition_of tables Fault.not_utf8 p (inl h) = h.3
condition_of tables Fault.not_utf8 p (inr (t, c, inl h)) = h.3
condition_of tables Fault.not_utf8 p (inr (t, c, inr h)) = h.3
condition_of tables Fault.syntax p (inl h) = h.3
condition_of tables Fault.syntax p (inr (t, c, inl h)) = h.3
condition_of tables Fault.syntax p (inr (t, c, inr h)) = h.3
condition_of tables f p h = tt

-- the fault that the walk finds is the fault of the text
pub has_fault : (text : List ℕ) (tables : List WrittenTable) (f : Fault) (p : ℕ) → IsUtf8 text → WritesTables text tables → tables_fault [] tables ≡ Some (f, p) → HasFault text f p
has_fault text tables f p u w e =
    let r = written_rise text tables w in
    let first = walk_some tables r.0 f p r.1 e in
    of f (condition_of tables f p first.0) first.0 first.1
  where
    of : (g : Fault) → IsCondition g → FaultAt tables g p → ((h : Fault) (q : ℕ) → FaultAt tables h q → NotLater g p h q) → HasFault text g p
    of Fault.not_utf8 c a b = absurd c
    of Fault.syntax c a b = absurd c
    of g c a b = (u, tables, w, a, b)

-- the three kinds of faults
data FaultKind (text : List ℕ) (f : Fault) (p : ℕ) : Type 0 where
  of_utf8 : f ≡ Fault.not_utf8 → IsValidUpTo text p → FaultKind text f p
  of_syntax : f ≡ Fault.syntax → IsUtf8 text → IsSyntaxPlace text p → FaultKind text f p
  of_condition : IsUtf8 text → (tables : List WrittenTable) → WritesTables text tables → FaultAt tables f p
      → ((g : Fault) (q : ℕ) → FaultAt tables g q → NotLater f p g q) → FaultKind text f p

fault_kind : (text : List ℕ) (f : Fault) (p : ℕ) → HasFault text f p → FaultKind text f p
fault_kind text Fault.not_utf8 p h = of_utf8 refl h
fault_kind text Fault.syntax p h = of_syntax refl h.0 h.1
fault_kind text f p h = of_condition h.0 h.1 h.2 h.3 h.4

valid_not_utf8 : (text : List ℕ) (p : ℕ) → IsUtf8 text → IsValidUpTo text p → ⊥
valid_not_utf8 text p u v = v.longest (length text) v.short (subst IsUtf8 (sym (take_all (length text) text (omega arith))) u)

neither : (p q : ℕ) → nat_lt p q ≡ false → nat_lt q p ≡ false → p ≡ q
neither p q t u = grind (arith, nat_tests)

one_valid : (text : List ℕ) (p q : ℕ) → IsValidUpTo text p → IsValidUpTo text q → p ≡ q
one_valid text p q v w = go (truth (nat_lt p q)) (truth (nat_lt q p))
  where
    go : Truth (nat_lt p q) → Truth (nat_lt q p) → p ≡ q
    go (yes' t) u = absurd (v.longest q ((Decides-ltb p q).0 t) w.front)
    go (no' t) (yes' u) = absurd (w.longest p ((Decides-ltb q p).0 u) v.front)
    go (no' t) (no' u) = neither p q t u

of_rank : ℕ → Fault
of_rank zero = Fault.not_utf8
of_rank (suc zero) = Fault.syntax
of_rank (suc (suc zero)) = Fault.twice_table
of_rank (suc (suc (suc zero))) = Fault.twice_column
of_rank (suc (suc (suc (suc zero)))) = Fault.no_column
of_rank (suc (suc (suc (suc (suc zero))))) = Fault.key_column
of_rank n = Fault.over_limit

of_rank-rank : (f : Fault) → of_rank (rank f) ≡ f
unfolding of_rank
of_rank-rank Fault.not_utf8 = refl
of_rank-rank Fault.syntax = refl
of_rank-rank Fault.twice_table = refl
of_rank-rank Fault.twice_column = refl
of_rank-rank Fault.no_column = refl
of_rank-rank Fault.key_column = refl
of_rank-rank Fault.over_limit = refl

one_first : (f g : Fault) (p q : ℕ) → NotLater f p g q → NotLater g q f p → (f ≡ g) × (p ≡ q)
one_first f g p q (inl a) (inl b) = absurd (omega arith)
one_first f g p q (inl a) (inr b) = absurd (let h = b.0 in omega arith)
one_first f g p q (inr a) (inl b) = absurd (let h = a.0 in omega arith)
one_first f g p q (inr a) (inr b) =
    let h = a.1 in let k = b.1 in let same : rank f ≡ rank g = omega arith in
    (sym (of_rank-rank f) ∙ ap of_rank same ∙ of_rank-rank g, a.0)

-- a text has one fault at most
pub one_fault : (text : List ℕ) (f g : Fault) (p q : ℕ) → HasFault text f p → HasFault text g q → (f ≡ g) × (p ≡ q)
one_fault text f g p q h k = go (fault_kind text f p h) (fault_kind text g q k)
  where
    go : FaultKind text f p → FaultKind text g q → (f ≡ g) × (p ≡ q)
    go (of_utf8 e v) (of_utf8 d w) = (e ∙ sym d, one_valid text p q v w)
    go (of_utf8 e v) (of_syntax d u s) = absurd (valid_not_utf8 text p u v)
    go (of_utf8 e v) (of_condition u tables w a b) = absurd (valid_not_utf8 text p u v)
    go (of_syntax e u s) (of_utf8 d w) = absurd (valid_not_utf8 text q u w)
    go (of_syntax e u s) (of_syntax d v t) = (e ∙ sym d, one_place text p q s t)
    go (of_syntax e u s) (of_condition v tables w a b) = absurd (no_syntax_fault text tables p w s.0)
    go (of_condition u tables w a b) (of_utf8 d v) = absurd (valid_not_utf8 text q u v)
    go (of_condition u tables w a b) (of_syntax d v s) = absurd (no_syntax_fault text tables q w s.0)
    go (of_condition u tables w a b) (of_condition v others x c d) =
        let same = one_tables text tables others w x in
        one_first f g p q (b g q (subst (λ z. FaultAt z g q) (sym same) c)) (d f p (subst (λ z. FaultAt z f p) same a))

-- it spells one schema at most
pub one_schema : (text : List ℕ) (schema other : Schema) → Spells text schema → Spells text other → schema ≡ other
one_schema text schema other s t = s.same ∙ ap schema_of (one_tables text s.tables t.tables s.written t.written) ∙ sym t.same

-- it does not do both
pub not_both : (text : List ℕ) (schema : Schema) (f : Fault) (p : ℕ) → Spells text schema → HasFault text f p → ⊥
not_both text schema f p s h = go (fault_kind text f p h)
  where
    go : FaultKind text f p → ⊥
    go (of_utf8 e v) = valid_not_utf8 text p s.utf8 v
    go (of_syntax e u t) = no_syntax_fault text s.tables p s.written t.0
    go (of_condition u tables w a b) = s.faultless f p (subst (λ z. FaultAt z f p) (one_tables text tables s.tables w s.written) a)

not_below : (m n : ℕ) → nat_lt m n ≡ false → n ≤ m
not_below m n e = grind (arith, nat_tests)

-- the longest front that is UTF-8, from n down
valid_below : (text : List ℕ) (n : ℕ) → n ≤ length text → ((m : ℕ) → n < m → IsUtf8 (take m text) → ⊥) → (IsUtf8 text → ⊥) → (p : ℕ) × IsValidUpTo text p
valid_below text zero l above none = (0, record { short = some text none; front = IsUtf8-nil; longest = above })
  where
    some : (bs : List ℕ) → (IsUtf8 bs → ⊥) → 0 < length bs
    some [] h = absurd (h IsUtf8-nil)
    some (b ∷ bs) h = omega arith
valid_below text (suc n) l above none = go (truth (is_utf8 (take (suc n) text))) (valid_below text n)
  where
    go : Truth (is_utf8 (take (suc n) text)) → (n ≤ length text → ((m : ℕ) → n < m → IsUtf8 (take m text) → ⊥) → (IsUtf8 text → ⊥) → (p : ℕ) × IsValidUpTo text p)
        → (p : ℕ) × IsValidUpTo text p
    go (yes' t) rec =
        let front = IsUtf8-from_is_utf8 (take (suc n) text) t in
        (suc n, record { short = shorter (truth (nat_lt (suc n) (length text))) front; front = front; longest = above })
      where
        shorter : Truth (nat_lt (suc n) (length text)) → IsUtf8 (take (suc n) text) → suc n < length text
        shorter (yes' s) f = (Decides-ltb (suc n) (length text)).0 s
        shorter (no' s) f = absurd (none (subst IsUtf8 (take_all (suc n) text (not_below (suc n) (length text) s)) f))
    go (no' t) rec = rec (omega arith) more none
      where
        at : (m : ℕ) → n < m → IsUtf8 (take m text) → Truth (nat_lt (suc n) m) → ⊥
        at m h u (yes' s) = above m ((Decides-ltb (suc n) m).0 s) u
        at m h u (no' s) =
            let k = not_below (suc n) m s in
            let same : m ≡ suc n = omega arith in
            true≢false (sym (is_utf8-from_IsUtf8 (take (suc n) text) (subst (λ z. IsUtf8 (take z text)) same u)) ∙ t)

        more : (m : ℕ) → n < m → IsUtf8 (take m text) → ⊥
        more m h u = at m h u (truth (nat_lt (suc n) m))

pub utf8_or_fault : (text : List ℕ) → IsUtf8 text ⊎ ((p : ℕ) × IsValidUpTo text p)
utf8_or_fault text = go (truth (is_utf8 text))
  where
    go : Truth (is_utf8 text) → IsUtf8 text ⊎ ((p : ℕ) × IsValidUpTo text p)
    go (yes' t) = inl (IsUtf8-from_is_utf8 text t)
    go (no' t) =
        let none : IsUtf8 text → ⊥ = λ u. true≢false (sym (is_utf8-from_IsUtf8 text u) ∙ t) in
        inr (valid_below text (length text) (omega arith) (λ m h u. none (subst IsUtf8 (take_all m text (omega arith)) u)) none)

-- it does one of both
pub one_holds : (text : List ℕ) → ((schema : Schema) × Spells text schema) ⊎ ((f : Fault) × (p : ℕ) × HasFault text f p)
one_holds text = go (utf8_or_fault text)
  where
    at_tables : IsUtf8 text → (tables : List WrittenTable) → WritesTables text tables → Found (tables_fault [] tables)
        → ((schema : Schema) × Spells text schema) ⊎ ((f : Fault) × (p : ℕ) × HasFault text f p)
    at_tables u tables w (nothing' e) = inl (schema_of tables, spells text tables u w e)
    at_tables u tables w (something' x e) = inr (x.0, x.1, has_fault text tables x.0 x.1 u w e)

    at_tokens : IsUtf8 text → Judged text → ((schema : Schema) × Spells text schema) ⊎ ((f : Fault) × (p : ℕ) × HasFault text f p)
    at_tokens u (faulty p s) = inr (Fault.syntax, p, (u, s))
    at_tokens u (written tables w) = at_tables u tables w (found (tables_fault [] tables))

    go : IsUtf8 text ⊎ ((p : ℕ) × IsValidUpTo text p) → ((schema : Schema) × Spells text schema) ⊎ ((f : Fault) × (p : ℕ) × HasFault text f p)
    go (inl u) = at_tokens u (judged text)
    go (inr v) = inr (Fault.not_utf8, v.0, v.1)
