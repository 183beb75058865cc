-- What holds of the tokens behind a header holds of whole texts.
use Rattle.std.proofs.Common.{◌≡◌, ℕ, zero, suc, ◌≤◌, List, [], ◌∷◌, ◌++◌, refl, sym, ap, subst, arith, append_assoc, codes, Result, Ok, Err}
use Rattle.nq_model.specs.OpenLists.{Fault, Unexpected, Deep, IsFaultAt}
use Rattle.nq_model.specs.QueryTokens.{Token, Word, Value, Sign, End, Number, Semicolon, place_of}
use Rattle.nq_model.specs.QueryGrammar.{Edition, First, Second, Syntax, Header, header_tokens, IsBody, IsProgram, Within, IsSpelled}
use Rattle.nq_model.specs.QueryTexts.{edition_of, Derives}
use Rattle.nq_model.proofs.QueryHeaders.{IsSpelledBody, program_of, body_of, fault_first, fault_second, header_deep, header_of, keeps_first}
use Rattle.query_syntax.specs.Trees.{syntax_view}
use Rattle.query_syntax.specs.declared.fault.SyntaxFault.{SyntaxFault}
use Rattle.query_syntax.specs.declared.fault.SyntaxFault.TheVariants as code
use Rattle.query_syntax.specs.declared.syntax.Syntax.{Syntax as CodeSyntax}
use Rattle.nq_model.specs.Machines.{Faulty}
use Rattle.nq_parser.specs.Machine.{run, start_state}
use Rattle.nq_parser.specs.Reading.{Ends, ClosesAt, Reads}
use Rattle.nq_parser.specs.Runs.{ReadsBody}
use Rattle.nq_parser.proofs.Depths.{depth_pos}
use Rattle.nq_parser.proofs.Exact as body
use Rattle.nq_parser.proofs.Exact.{one_tree, fault_exact, ready_exact}

-- It is spelled by one tree.
pub one_program : (ed : Edition) (ts : List Token) (s t : Syntax) → IsProgram ed ts s → IsProgram ed ts t → s ≡ t
one_program ed ts s t (h, us, e, b) p = one_tree ed us s t b (body_of ed h us t (subst (λ z. IsProgram ed z t) e p))

pub never_both : (ed : Edition) (d : ℕ) (us : List Token) (t : Token) (rest : List Token) (f : Fault) → IsSpelled ed d (us ++ t ∷ rest) → IsFaultAt Token (IsSpelled ed) d us t f → ⊥
never_both ed d us t rest f s h = h.1 (rest, subst (λ z. IsSpelled ed d z) (sym (append_assoc us (t ∷ []) rest)) s)

-- What stands behind a header ends with its text, too.
pub ends_behind : (h : Header Second) (us : List Token) → Ends (header_tokens Second h us) → Ends us
ends_behind h us ([], q, e) = absurd (cc)
ends_behind h us (a ∷ [], q, e) = absurd (cc)
ends_behind h us (a ∷ b ∷ [], q, e) = absurd (cc)
ends_behind h us (a ∷ b ∷ c ∷ vs, q, e) = let i : us ≡ vs ++ End q ∷ [] = cc in (vs, q, i)

-- A fault of a text, at the token behind these.
closes_at : (d : ℕ) (ts us : List Token) (t : Token) (rest : List Token) (f : Fault) (ed : Edition) → edition_of ts ≡ ed → ts ≡ us ++ t ∷ rest → IsFaultAt Token (IsSpelled ed) d us t f
    → ClosesAt d ts f (place_of t)
closes_at d ts us t rest f ed e w c =
    record { before = us; last = t; after = rest; whole = w; there = refl; closes = subst (λ z. IsFaultAt Token (IsSpelled z) d us t f) (sym e) c }

first_closes : (d : ℕ) (ts us : List Token) (t : Token) (rest : List Token) (f : Fault) → edition_of ts ≡ First → ts ≡ us ++ t ∷ rest → IsFaultAt Token (IsSpelledBody First) d us t f
    → ClosesAt d ts f (place_of t)
first_closes d ts us t rest f e w c = closes_at d ts us t rest f First e w (fault_first d us t f c)

second_closes : (d : ℕ) (h : Header Second) (vs us : List Token) (t : Token) (rest : List Token) (f : Fault) → 1 ≤ d → vs ≡ us ++ t ∷ rest → IsFaultAt Token (IsSpelledBody Second) d us t f
    → ClosesAt d (header_tokens Second h vs) f (place_of t)
second_closes d h vs us t rest f pos w c =
    closes_at d (header_tokens Second h vs) (header_tokens Second h us) t rest f Second refl (ap (λ z. header_tokens Second h z) w) (fault_second h d us t f pos c)

pub deep_closes : (h : Header Second) (vs : List Token) → ClosesAt 0 (header_tokens Second h vs) Deep h.0
deep_closes h vs = closes_at 0 (header_tokens Second h vs) [] (Word h.0 (codes "nq")) (Value h.1 (Number 2 1) ∷ Sign h.2 Semicolon ∷ vs) Deep Second refl refl (header_deep h.0 depth_pos)

first_derives : (d : ℕ) (ts : List Token) (s : Syntax) → edition_of ts ≡ First → IsBody First ts s → Within d s → Derives d ts s
first_derives d ts s e b w = record { program = subst (λ z. IsProgram z ts s) (sym e) (tt, ts, refl, b); within = w }

second_derives : (d : ℕ) (h : Header Second) (vs : List Token) (s : Syntax) → IsBody Second vs s → Within d s → Derives d (header_tokens Second h vs) s
second_derives d h vs s b w = record { program = program_of Second h vs s b; within = w }

first_fault : (d : ℕ) (ts : List Token) (f : Fault) (t : Token) (p : ℕ) → edition_of ts ≡ First → p ≡ place_of t → run First d ts start_state ≡ Faulty t f → ClosesAt d ts f p
first_fault d ts f t p e i r =
    let x = fault_exact First d ts t f r in subst (λ z. ClosesAt d ts f z) (sym i) (first_closes d ts x.0 t x.1 f e x.2 x.3)

second_fault : (d : ℕ) (h : Header Second) (vs : List Token) (f : Fault) (t : Token) (p : ℕ) → 1 ≤ d → p ≡ place_of t → run Second d vs start_state ≡ Faulty t f
    → ClosesAt d (header_tokens Second h vs) f p
second_fault d h vs f t p pos i r =
    let x = fault_exact Second d vs t f r in subst (λ z. ClosesAt d (header_tokens Second h vs) f z) (sym i) (second_closes d h vs x.0 t x.1 f pos x.2 x.3)

-- What is read of a body is read of its text.
pub reads_first : (r : Result CodeSyntax SyntaxFault) (d : ℕ) (ts : List Token) → edition_of ts ≡ First → ReadsBody First r d ts → Reads r d ts
reads_first (Ok s) d ts e m = let y = ready_exact First d ts (syntax_view s) m.0 m.1 in first_derives d ts (syntax_view s) e y.0 y.1
reads_first (Err code.Memory) d ts e m = tt
reads_first (Err (code.Unexpected p)) d ts e m = first_fault d ts Unexpected m.0 p e m.1 m.2
reads_first (Err (code.Deep p)) d ts e m = first_fault d ts Deep m.0 p e m.1 m.2
reads_first (Err (code.Token p)) d ts e m = m
reads_first (Err (code.IntRange p)) d ts e m = m
reads_first (Err (code.NotUtf8 p)) d ts e m = m
reads_first (Err (code.Unbound p)) d ts e m = m
reads_first (Err (code.TwiceLabel p)) d ts e m = m

pub reads_second : (r : Result CodeSyntax SyntaxFault) (d : ℕ) (h : Header Second) (vs : List Token) → 1 ≤ d → ReadsBody Second r d vs → Reads r d (header_tokens Second h vs)
reads_second (Ok s) d h vs pos m = let y = ready_exact Second d vs (syntax_view s) m.0 m.1 in second_derives d h vs (syntax_view s) y.0 y.1
reads_second (Err code.Memory) d h vs pos m = tt
reads_second (Err (code.Unexpected p)) d h vs pos m = second_fault d h vs Unexpected m.0 p pos m.1 m.2
reads_second (Err (code.Deep p)) d h vs pos m = second_fault d h vs Deep m.0 p pos m.1 m.2
reads_second (Err (code.Token p)) d h vs pos m = m
reads_second (Err (code.IntRange p)) d h vs pos m = m
reads_second (Err (code.NotUtf8 p)) d h vs pos m = m
reads_second (Err (code.Unbound p)) d h vs pos m = m
reads_second (Err (code.TwiceLabel p)) d h vs pos m = m

-- The same behind a header at this place.
pub behind_reads : (r : Result CodeSyntax SyntaxFault) (d p q i : ℕ) (vs : List Token) → (d ≡ 0 → ⊥) → ReadsBody Second r d vs → Reads r d (header_tokens Second (p, q, i) vs)
behind_reads r d p q i vs n m = reads_second r d (p, q, i) vs (omega (arith, n)) m

pub behind_deep : (d p q i : ℕ) (vs : List Token) → d ≡ 0 → Reads (Err (code.Deep p)) d (header_tokens Second (p, q, i) vs)
behind_deep d p q i vs e = subst (λ z. ClosesAt z (header_tokens Second (p, q, i) vs) Deep p) (sym e) (deep_closes (p, q, i) vs)

-- A text that ends is a program, or it ceases to be open.
pub data Answer (d : ℕ) (ts : List Token) : Type 0 where
  Derived : (s : Syntax) → Derives d ts s → Answer d ts
  Closes : (f : Fault) (place : ℕ) → ClosesAt d ts f place → Answer d ts

pub answer : (d : ℕ) (ts : List Token) → Ends ts → Answer d ts
answer d ts ends = go (edition_of ts) refl
  where
    first : edition_of ts ≡ First → body.Answer First d ts → Answer d ts
    first e (body.Derived s b w) = Derived s (first_derives d ts s e b w)
    first e (body.Has us t rest f i c) = Closes f (place_of t) (first_closes d ts us t rest f e i c)

    second : (n : ℕ) (h : Header Second) (vs : List Token) → body.Answer Second n vs → Answer n (header_tokens Second h vs)
    second zero h vs a = Closes Deep h.0 (deep_closes h vs)
    second (suc n) h vs (body.Derived s b w) = Derived s (second_derives (suc n) h vs s b w)
    second (suc n) h vs (body.Has us t rest f i c) = Closes f (place_of t) (second_closes (suc n) h vs us t rest f (omega arith) i c)

    behind : (ed : Edition) (us : List Token) → Ends us → body.Answer ed d us
    behind ed us (vs, q, e) = subst (λ z. body.Answer ed d z) (sym e) (body.answer ed d vs q)

    go : (ed : Edition) → edition_of ts ≡ ed → Answer d ts
    go First e = first e (behind First ts ends)
    go Second e =
        let x = header_of ts e in
        subst (λ z. Answer d z) (sym x.2) (second d x.0 x.1 (behind Second x.1 (ends_behind x.0 x.1 (subst Ends x.2 ends))))

-- A program of the first edition is a program.
pub first_kept : (d : ℕ) (ts : List Token) (s : Syntax) → IsProgram First ts s → Within d s → Derives d ts s
first_kept d ts s p w = record { program = subst (λ z. IsProgram z ts s) (sym (keeps_first ts s p)) p; within = w }
