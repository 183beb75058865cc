-- Texts of values, written piece by piece.
use Rattle.std.proofs.Common.{◌≡◌, ◌≢◌, ℕ, zero, suc, ◌+◌, ◌<◌, List, [], ◌∷◌, ◌++◌, map, refl, sym, ap, ◌∙◌, cond, eqb, length, take, get_or, arith, append_assoc, codes, inl, inr}
use Rattle.std.proofs.lemmas.List.{take_more, map-append}
use Rattle.std.proofs.lemmas.Bool.Decides.{eqb_tells}
use Rattle.nq_model.specs.Values.{Nested, fields_of, elements_of}
use Rattle.nq_model.specs.Canonical.{doubled_quotes, written, written_fields, written_elements}
use Rattle.nq_model.specs.Separators.{separator}

-- the text after start grows by a separator and an item
pub appended : (start old mid new done sep item all : List ℕ) → old ≡ start ++ done → mid ≡ old
    ++ sep → new ≡ mid ++ item → all ≡ done ++ (sep ++ item) → new ≡ start ++ all
appended start old mid new done sep item all p q r s =
    r ∙ ap (λ (l : List ℕ). l ++ item) (q ∙ ap (λ (l : List ℕ). l ++ sep) p) ∙ (simp append_assoc)
    ∙ ap (λ (l : List ℕ). start ++ l) (sym s)

pub elements_push : (vs : List Nested) (w v : Nested) → written_elements
    (elements_of (w ∷ (vs ++ v ∷ []))) ≡ written_elements (elements_of (w ∷ vs))
    ++ (codes ", " ++ written v)
elements_push [] w v = refl
elements_push (u ∷ vs) w v =
    ap (λ (l : List ℕ). written w ++ (codes ", " ++ l)) (elements_push vs u v) ∙ (simp append_assoc)

-- the text of the first elements, and that of one more
pub elements_more : {A : Type 0} (view : A → Nested) (xs : List A) (i : ℕ) (x : A) → i < length xs
    → x ≡ get_or xs i x
    → written_elements (elements_of (map view (take (i + 1) xs)))
    ≡ written_elements (elements_of (map view (take i xs))) ++ (separator i ++ written (view x))
elements_more view [] i x h e = absurd (omega (arith, h))
elements_more {A} view (y ∷ ys) zero x h e =
    ap (λ (l : List A). written_elements (elements_of (map view l)))
    (take_more (y ∷ ys) zero x h ∙ ap (λ z. z ∷ []) (sym e))
elements_more {A} view (y ∷ ys) (suc i) x h e =
    ap (λ (l : List A). written_elements (elements_of (map view l)))
    (take_more (y ∷ ys) (suc i) x h ∙ ap (λ z. y ∷ (take i ys ++ z ∷ [])) (sym e))
    ∙ ap (λ (l : List Nested). written_elements (elements_of (view y ∷ l)))
    (map-append view (take i ys) (x ∷ []))
    ∙ elements_push (map view (take i ys)) (view y) (view x)

-- the text of a field
abbrev pub field_text : List ℕ × Nested → List ℕ
field_text f = f.0 ++ (codes " = " ++ written f.1)

pub fields_push : (fs : List (List ℕ × Nested)) (g f : List ℕ × Nested)
    → written_fields (fields_of (g ∷ (fs ++ f ∷ []))) ≡ written_fields (fields_of (g ∷ fs))
    ++ (codes ", " ++ field_text f)
fields_push [] g f = simp append_assoc
fields_push (h ∷ fs) g f =
    ap (λ (l : List ℕ). g.0 ++ (codes " = " ++ (written g.1 ++ (codes ", " ++ l))))
    (fields_push fs h f) ∙ (simp append_assoc)

-- the text of the first fields, and that of one more
pub fields_more : {A : Type 0} (view : A → Nested) (xs : List (List ℕ × A)) (i : ℕ) (x : List ℕ × A)
    → i < length xs → x ≡ get_or xs i x
    → written_fields (fields_of (map (λ f. (f.0, view f.1)) (take (i + 1) xs)))
    ≡ written_fields (fields_of (map (λ f. (f.0, view f.1)) (take i xs)))
    ++ (separator i ++ field_text (x.0, view x.1))
fields_more view [] i x h e = absurd (omega (arith, h))
fields_more {A} view (y ∷ ys) zero x h e =
    ap (λ (l : List (List ℕ × A)). written_fields (fields_of (map (λ f. (f.0, view f.1)) l)))
    (take_more (y ∷ ys) zero x h ∙ ap (λ z. z ∷ []) (sym e))
fields_more {A} view (y ∷ ys) (suc i) x h e =
    ap (λ (l : List (List ℕ × A)). written_fields (fields_of (map (λ f. (f.0, view f.1)) l)))
    (take_more (y ∷ ys) (suc i) x h ∙ ap (λ z. y ∷ (take i ys ++ z ∷ [])) (sym e))
    ∙ ap (λ (l : List (List ℕ × Nested)). written_fields (fields_of ((y.0, view y.1) ∷ l)))
    (map-append (λ (f : List ℕ × A). (f.0, view f.1)) (take i ys) (x ∷ []))
    ∙ fields_push (map (λ (f : List ℕ × A). (f.0, view f.1)) (take i ys)) (y.0, view y.1)
    (x.0, view x.1)

-- no byte of a text is a quote
abbrev pub HasNoQuote : List ℕ → Type 0
HasNoQuote bs = (i : ℕ) → i < length bs → get_or bs i 0 ≢ 39

not_doubled : (b : ℕ) (doubled once : List ℕ) → b ≢ 39 → cond (eqb b 39) doubled once ≡ once
not_doubled b doubled once h =
    elim (eqb_tells b 39) [
      | inl t ↦ absurd (h t.1)
      | inr t ↦ ap (λ c. cond c doubled once) t.0
    ]

pub doubled_none : (bs : List ℕ) → HasNoQuote bs → doubled_quotes bs ≡ bs
doubled_none [] h = refl
doubled_none (b ∷ bs) h =
    not_doubled b (39 ∷ 39 ∷ doubled_quotes bs) (b ∷ doubled_quotes bs) (h 0 (omega arith))
    ∙ ap (λ (l : List ℕ). b ∷ l) (doubled_none bs (λ i k. h (suc i) (omega (arith, k))))

doubled_split : (bs after : List ℕ) → HasNoQuote bs → doubled_quotes (bs ++ 39 ∷ after) ≡ bs
    ++ (39 ∷ 39 ∷ doubled_quotes after)
doubled_split [] after h = refl
doubled_split (b ∷ bs) after h =
    not_doubled b (39 ∷ 39 ∷ doubled_quotes (bs ++ 39 ∷ after))
    (b ∷ doubled_quotes (bs ++ 39 ∷ after)) (h 0 (omega arith))
    ∙ ap (λ (l : List ℕ). b ∷ l) (doubled_split bs after (λ i k. h (suc i) (omega (arith, k))))

-- what stands before a quote is written, and two quotes
pub quote_written : (text mid new rest before after all : List ℕ) → rest ≡ before ++ 39 ∷ after
    → HasNoQuote before → mid ≡ text ++ before → new ≡ mid ++ codes "''" → text
    ++ doubled_quotes rest ≡ all → new ++ doubled_quotes after ≡ all
quote_written text mid new rest before after all e none p q h =
    ap (λ (l : List ℕ). l ++ doubled_quotes after) (q ∙ ap (λ (l : List ℕ). l ++ codes "''") p)
    ∙ (simp append_assoc)
    ∙ ap (λ (l : List ℕ). text ++ l) (sym (doubled_split before after none))
    ∙ ap (λ (l : List ℕ). text ++ doubled_quotes l) (sym e) ∙ h

-- what is left when no quote is found is written as it stands, and a quote
pub quoted_ends : (start first text last new rest quoted : List ℕ) → HasNoQuote rest → first ≡ start
    ++ codes "'" → text ++ doubled_quotes rest ≡ first ++ doubled_quotes quoted → last ≡ text
    ++ rest → new ≡ last ++ codes "'" → new ≡ start ++ (codes "'"
    ++ (doubled_quotes quoted ++ codes "'"))
quoted_ends start first text last new rest quoted none e h p q =
    q ∙ ap (λ (l : List ℕ). l ++ codes "'") (p ∙ ap (λ (l : List ℕ). text ++ l)
    (sym (doubled_none rest none)) ∙ h ∙ ap (λ (l : List ℕ). l ++ doubled_quotes quoted) e)
    ∙ (simp append_assoc)

-- three pieces, one after another
pub three_pieces : (old mid last new p q r : List ℕ) → mid ≡ old ++ p → last ≡ mid ++ q → new ≡ last
    ++ r → new ≡ old ++ (p ++ (q ++ r))
three_pieces old mid last new p q r e f g =
    g ∙ ap (λ (l : List ℕ). l ++ r) (f ∙ ap (λ (l : List ℕ). l ++ q) e) ∙ (simp append_assoc)
