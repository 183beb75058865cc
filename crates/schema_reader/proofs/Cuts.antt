-- A text has one cut into pieces.
use Rattle.std.proofs.Common.{◌≡◌, ◌≢◌, ℕ, zero, suc, ◌+◌, ◌≤◌, ◌<◌, Bool, true, false, cond, if◌then◌else◌, ◌==◌, List, [], ◌∷◌, ◌++◌, length, take, drop, refl, sym, ◌∙◌, ap, subst, arith, length-append, append_assoc, take-append-drop, Option, Some, None, true≢false, ◌⊎◌, inl, inr}
use Rattle.std.proofs.lemmas.Bool.Decides.{nat_tests, Decides-eqb}
use Rattle.std.specs.List.{AllByRecursion as Each, prefix_len}
use Rattle.nq_model.specs.SchemaTokens.{Mark, Token, byte_of, is_white, begins_word, is_word_byte, is_comment_byte, Piece, bytes_of, Stops, Fits, text_of, FitFrom, IsStuck, IsCut, piece_tokens, tokens_from}
use Rattle.nq_model.specs.SchemaTexts.{IsSymbol}
use Rattle.schema_reader.specs.Fronts.{mark_of}
use Rattle.schema_reader.proofs.Truths.{Truth, yes', no', truth, Found, nothing', something', found}

-- the kind of piece that a byte begins
abbrev kind_at : ℕ → ℕ
kind_at b = if is_white b then 0 else (if b == 35 then 1 else (if begins_word b then 2 else (if b == 239 then 3 else 4)))

abbrev kind_of_front : List ℕ → ℕ
kind_of_front [] = 5
kind_of_front (b ∷ bs) = kind_at b

abbrev kind_of : Piece → ℕ
kind_of (Piece.white b) = 0
kind_of (Piece.comment bs) = 1
kind_of (Piece.word bs) = 2
kind_of Piece.byte_order_mark = 3
kind_of (Piece.mark m) = 4

white_kind : (b : ℕ) → is_white b ≡ true → kind_at b ≡ 0
white_kind b h = ap (λ t. cond t 0 (if b == 35 then 1 else (if begins_word b then 2 else (if b == 239 then 3 else 4)))) h

no_white : (b : ℕ) → begins_word b ≡ true → is_white b ≡ false
no_white b h = grind (arith, nat_tests)

no_comment : (b : ℕ) → begins_word b ≡ true → (b == 35) ≡ false
no_comment b h = grind (arith, nat_tests)

word_kind : (b : ℕ) → begins_word b ≡ true → kind_at b ≡ 2
word_kind b h =
    ap (λ t. cond t 0 (if b == 35 then 1 else (if begins_word b then 2 else (if b == 239 then 3 else 4)))) (no_white b h)
    ∙ ap (λ t. cond t 1 (if begins_word b then 2 else (if b == 239 then 3 else 4))) (no_comment b h)
    ∙ ap (λ t. cond t 2 (if b == 239 then 3 else 4)) h

front_kind : (place : ℕ) (p : Piece) (after rest : List ℕ) → Fits place p after → kind_of_front (bytes_of p ++ rest) ≡ kind_of p
front_kind place (Piece.white b) after rest h = white_kind b h
front_kind place (Piece.comment bs) after rest h = refl
front_kind place (Piece.word []) after rest h = absurd h.0
front_kind place (Piece.word (b ∷ bs)) after rest h = word_kind b h.0.0
front_kind place Piece.byte_order_mark after rest h = refl
front_kind place (Piece.mark Mark.opening) after rest h = refl
front_kind place (Piece.mark Mark.closing) after rest h = refl
front_kind place (Piece.mark Mark.comma) after rest h = refl
front_kind place (Piece.mark Mark.colon) after rest h = refl
front_kind place (Piece.mark Mark.semicolon) after rest h = refl

pub mark_of-byte_of : (m : Mark) → mark_of (byte_of m) ≡ Some m
mark_of-byte_of Mark.opening = refl
mark_of-byte_of Mark.closing = refl
mark_of-byte_of Mark.comma = refl
mark_of-byte_of Mark.colon = refl
mark_of-byte_of Mark.semicolon = refl

some_same : {A : Type 0} (a b : A) → Some a ≡ Some b → a ≡ b
some_same a b e = cc

one_mark : (m n : Mark) → byte_of m ≡ byte_of n → m ≡ n
one_mark m n e = some_same m n (sym (mark_of-byte_of m) ∙ ap mark_of e ∙ mark_of-byte_of n)

-- a run of bytes of a kind that goes on as far as it can is the only one
one_run : (kind : ℕ → Bool) (bs cs x y : List ℕ) → Each (λ b. kind b ≡ true) bs → Each (λ b. kind b ≡ true) cs → Stops kind x → Stops kind y
    → bs ++ x ≡ cs ++ y → (bs ≡ cs) × (x ≡ y)
one_run kind [] [] x y h g s t e = (refl, e)
one_run kind [] (c ∷ cs) x y h g s t e = absurd (true≢false (sym g.0 ∙ subst (Stops kind) e s))
one_run kind (b ∷ bs) [] x y h g s t e = absurd (true≢false (sym h.0 ∙ subst (Stops kind) (sym e) t))
one_run kind (b ∷ bs) (c ∷ cs) x y h g s t e =
    let first : b ≡ c = cc in
    let r = one_run kind bs cs x y h.1 g.1 s t cc in
    (cc (first, r.0), r.1)

pub one_piece : (place : ℕ) (p q : Piece) (x y : List ℕ) → Fits place p x → Fits place q y → bytes_of p ++ x ≡ bytes_of q ++ y → (p ≡ q) × (x ≡ y)
one_piece place Piece.byte_order_mark Piece.byte_order_mark x y h g e = (refl, cc)
one_piece place (Piece.white b) (Piece.white c) x y h g e = (cc, cc)
one_piece place (Piece.comment bs) (Piece.comment cs) x y h g e =
    let r = one_run is_comment_byte bs cs x y h.0 g.0 h.1 g.1 cc in
    (ap Piece.comment r.0, r.1)
one_piece place (Piece.word []) (Piece.word cs) x y h g e = absurd h.0
one_piece place (Piece.word bs) (Piece.word []) x y h g e = absurd g.0
one_piece place (Piece.word (b ∷ bs)) (Piece.word (c ∷ cs)) x y h g e =
    let first : b ≡ c = cc in
    let r = one_run is_word_byte bs cs x y h.0.1 g.0.1 h.1 g.1 cc in
    (ap Piece.word (cc (first, r.0)), r.1)
one_piece place (Piece.mark m) (Piece.mark n) x y h g e =
    (ap Piece.mark (one_mark m n cc), cc)
one_piece place p q x y h g e =
    let k = front_kind place p x x h in
    let l = front_kind place q y y g in
    let same : kind_of p ≡ kind_of q = sym k ∙ ap kind_of_front e ∙ l in
    absurd (omega (arith, same))

-- the place behind the pieces
abbrev pub far : ℕ → List Piece → ℕ
far place [] = place
far place (p ∷ ps) = far (place + length (bytes_of p)) ps

pub far_length : (place : ℕ) (ps : List Piece) (rest : List ℕ) → far place ps + length rest ≡ place + length (text_of ps rest)
far_length place [] rest = refl
far_length place (p ∷ ps) rest =
    let r = far_length (place + length (bytes_of p)) ps rest in
    omega (arith, r, length-append (bytes_of p) (text_of ps rest))

-- two cuts that go on as far as they can are one
one_cut : (place : ℕ) (ps qs : List Piece) (r s : List ℕ) → FitFrom place ps r → FitFrom place qs s
    → IsStuck (far place ps) r → IsStuck (far place qs) s → text_of ps r ≡ text_of qs s → (ps ≡ qs) × (r ≡ s)
one_cut place [] [] r s f g h k e = (refl, e)
one_cut place [] (q ∷ qs) r s f g h k e = absurd (h q (text_of qs s) g.0 e)
one_cut place (p ∷ ps) [] r s f g h k e = absurd (k p (text_of ps r) f.0 (sym e))
one_cut place (p ∷ ps) (q ∷ qs) r s f g h k e =
    let a = one_piece place p q (text_of ps r) (text_of qs s) f.0 g.0 e in
    let n : length (bytes_of q) ≡ length (bytes_of p) = ap (λ z. length (bytes_of z)) (sym a.0) in
    let b = one_cut (place + length (bytes_of p)) ps qs r s f.1
    (subst (λ z. FitFrom (place + z) qs s) n g.1) h (subst (λ z. IsStuck (far (place + z) qs) s) n k) a.1 in
    (cc (a.0, b.0), b.1)

pub record SameCut (ps qs : List Piece) (m n : ℕ) (r s : List ℕ) : Type 0 where
  pub pieces : ps ≡ qs
  pub place : m ≡ n
  pub rest : r ≡ s

far_place : (text : List ℕ) (ps : List Piece) (m : ℕ) (r : List ℕ) → IsCut text ps m r → m ≡ far 0 ps
far_place text ps m r c =
    let l = far_length 0 ps r in
    let w = ap length c.whole in
    let e = c.reached in
    omega (arith, l, w, e)

pub same_cut : (text : List ℕ) (ps qs : List Piece) (m n : ℕ) (r s : List ℕ) → IsCut text ps m r → IsCut text qs n s → SameCut ps qs m n r s
same_cut text ps qs m n r s c d =
    let cm = far_place text ps m r c in
    let dn = far_place text qs n s d in
    let one = one_cut 0 ps qs r s c.fit d.fit (subst (λ z. IsStuck z r) cm c.stuck) (subst (λ z. IsStuck z s) dn d.stuck) (sym c.whole ∙ d.whole) in
    record { pieces = one.0; place = cm ∙ ap (far 0) one.0 ∙ sym dn; rest = one.1 }

-- what stands at the front of bytes at a place
pub data Front (place : ℕ) (bytes : List ℕ) : Type 0 where
  begins : (p : Piece) (after : List ℕ) → Fits place p after → bytes ≡ bytes_of p ++ after → Front place bytes
  stuck : IsStuck place bytes → Front place bytes

pub none_at_end : (place : ℕ) → IsStuck place []
none_at_end place Piece.byte_order_mark after f e = cc
none_at_end place (Piece.white b) after f e = cc
none_at_end place (Piece.comment bs) after f e = cc
none_at_end place (Piece.word []) after f e = f.0
none_at_end place (Piece.word (b ∷ bs)) after f e = cc
none_at_end place (Piece.mark m) after f e = cc

-- the first bytes of a kind, and those behind them
pub run_all : (kind : ℕ → Bool) (bs : List ℕ) → Each (λ b. kind b ≡ true) (take (prefix_len kind bs) bs)
run_all kind [] = tt
run_all kind (b ∷ bs) = go (kind b) refl (run_all kind bs)
  where
    go : (t : Bool) → kind b ≡ t → Each (λ b. kind b ≡ true) (take (prefix_len kind bs) bs)
        → Each (λ b. kind b ≡ true) (take (cond t (1 + prefix_len kind bs) 0) (b ∷ bs))
    go true e r =
        let n : 1 + prefix_len kind bs ≡ suc (prefix_len kind bs) = omega arith in
        rw n (e, r)
    go false e r = tt

pub run_stops : (kind : ℕ → Bool) (bs : List ℕ) → Stops kind (drop (prefix_len kind bs) bs)
run_stops kind [] = tt
run_stops kind (b ∷ bs) = go (kind b) refl (run_stops kind bs)
  where
    go : (t : Bool) → kind b ≡ t → Stops kind (drop (prefix_len kind bs) bs) → Stops kind (drop (cond t (1 + prefix_len kind bs) 0) (b ∷ bs))
    go true e r =
        let n : 1 + prefix_len kind bs ≡ suc (prefix_len kind bs) = omega arith in
        rw n r
    go false e r = e

-- no piece begins with a byte of none of the kinds
pub none_begins : (place b : ℕ) (bs : List ℕ) → is_white b ≡ false → (b == 35) ≡ false → begins_word b ≡ false → mark_of b ≡ None
    → (place ≡ 0 → (after : List ℕ) → b ∷ bs ≢ bytes_of Piece.byte_order_mark ++ after) → IsStuck place (b ∷ bs)
none_begins place b bs w c l m o Piece.byte_order_mark after f e = o f after e
none_begins place b bs w c l m o (Piece.white d) after f e =
    let h : b ≡ d = cc in true≢false (sym f ∙ ap is_white (sym h) ∙ w)
none_begins place b bs w c l m o (Piece.comment cs) after f e =
    let h : b ≡ 35 = cc in true≢false (ap (λ z. z == 35) (sym h) ∙ c)
none_begins place b bs w c l m o (Piece.word []) after f e = f.0
none_begins place b bs w c l m o (Piece.word (d ∷ ds)) after f e =
    let h : b ≡ d = cc in true≢false (sym f.0.0 ∙ ap begins_word (sym h) ∙ l)
none_begins place b bs w c l m o (Piece.mark n) after f e =
    let h : b ≡ byte_of n = cc in
    let k : Some n ≡ None = sym (mark_of-byte_of n) ∙ ap mark_of (sym h) ∙ m in cc

chosen : (t : Bool) (k m : Mark) (o : Option Mark) → cond t (Some k) o ≡ Some m → ((t ≡ true) × (k ≡ m)) ⊎ (o ≡ Some m)
chosen true k m o e = inl (refl, some_same k m e)
chosen false k m o e = inr e

-- a byte that is a mark spells it
pub byte_of-mark_of : (b : ℕ) (m : Mark) → mark_of b ≡ Some m → b ≡ byte_of m
byte_of-mark_of b m e = at_opening (chosen (b == 40) Mark.opening m (if b == 41 then Some Mark.closing else (if b == 44 then Some Mark.comma else (if b == 58 then Some Mark.colon else (if b == 59 then Some Mark.semicolon else None)))) e)
  where
    spells : (n : ℕ) (k : Mark) → byte_of k ≡ n → ((b == n) ≡ true) × (k ≡ m) → b ≡ byte_of m
    spells n k h r = (Decides-eqb b n).0 r.0 ∙ sym h ∙ ap byte_of r.1

    at_semicolon : (((b == 59) ≡ true) × (Mark.semicolon ≡ m)) ⊎ (None ≡ Some m) → b ≡ byte_of m
    at_semicolon (inl r) = spells 59 Mark.semicolon refl r
    at_semicolon (inr h) = absurd (cc)

    at_colon : (((b == 58) ≡ true) × (Mark.colon ≡ m)) ⊎ ((if b == 59 then Some Mark.semicolon else None) ≡ Some m) → b ≡ byte_of m
    at_colon (inl r) = spells 58 Mark.colon refl r
    at_colon (inr h) = at_semicolon (chosen (b == 59) Mark.semicolon m None h)

    at_comma : (((b == 44) ≡ true) × (Mark.comma ≡ m)) ⊎ ((if b == 58 then Some Mark.colon else (if b == 59 then Some Mark.semicolon else None)) ≡ Some m) → b ≡ byte_of m
    at_comma (inl r) = spells 44 Mark.comma refl r
    at_comma (inr h) = at_colon (chosen (b == 58) Mark.colon m (if b == 59 then Some Mark.semicolon else None) h)

    at_closing : (((b == 41) ≡ true) × (Mark.closing ≡ m)) ⊎ ((if b == 44 then Some Mark.comma else (if b == 58 then Some Mark.colon else (if b == 59 then Some Mark.semicolon else None))) ≡ Some m) → b ≡ byte_of m
    at_closing (inl r) = spells 41 Mark.closing refl r
    at_closing (inr h) = at_comma (chosen (b == 44) Mark.comma m (if b == 58 then Some Mark.colon else (if b == 59 then Some Mark.semicolon else None)) h)

    at_opening : (((b == 40) ≡ true) × (Mark.opening ≡ m)) ⊎ ((if b == 41 then Some Mark.closing else (if b == 44 then Some Mark.comma else (if b == 58 then Some Mark.colon else (if b == 59 then Some Mark.semicolon else None)))) ≡ Some m) → b ≡ byte_of m
    at_opening (inl r) = spells 40 Mark.opening refl r
    at_opening (inr h) = at_closing (chosen (b == 41) Mark.closing m (if b == 44 then Some Mark.comma else (if b == 58 then Some Mark.colon else (if b == 59 then Some Mark.semicolon else None))) h)

-- whether one list begins with another
pub prefix_or_not : (xs ys : List ℕ) → ((rest : List ℕ) × (ys ≡ xs ++ rest)) ⊎ ((rest : List ℕ) → ys ≢ xs ++ rest)
prefix_or_not [] ys = inl (ys, refl)
prefix_or_not (x ∷ xs) [] = inr (λ rest e. cc)
prefix_or_not (x ∷ xs) (y ∷ ys) = go (truth (y == x)) (prefix_or_not xs ys)
  where
    go : Truth (y == x) → ((rest : List ℕ) × (ys ≡ xs ++ rest)) ⊎ ((rest : List ℕ) → ys ≢ xs ++ rest)
        → ((rest : List ℕ) × (y ∷ ys ≡ x ∷ (xs ++ rest))) ⊎ ((rest : List ℕ) → y ∷ ys ≢ x ∷ (xs ++ rest))
    go (yes' t) (inl r) = let h : y ≡ x = (Decides-eqb y x).0 t in let k = r.1 in inl (r.0, cc)
    go (yes' t) (inr n) = inr (λ rest e. n rest cc)
    go (no' f) r = inr (λ rest e. let h : y ≡ x = cc in true≢false (sym ((Decides-eqb y x).1 h) ∙ f))

-- a comment and a word, as long as they can be
pub comment_front : (place : ℕ) (bs : List ℕ) → Fits place (Piece.comment (take (prefix_len is_comment_byte bs) bs)) (drop (prefix_len is_comment_byte bs) bs)
comment_front place bs = (run_all is_comment_byte bs, run_stops is_comment_byte bs)

pub word_front : (place b : ℕ) (bs : List ℕ) → begins_word b ≡ true → Fits place (Piece.word (b ∷ take (prefix_len is_word_byte bs) bs)) (drop (prefix_len is_word_byte bs) bs)
word_front place b bs h = ((h, run_all is_word_byte bs), run_stops is_word_byte bs)

taken : (n b : ℕ) (bs : List ℕ) → b ∷ bs ≡ (b ∷ take n bs) ++ drop n bs
taken n b bs = ap (λ (z : List ℕ). b ∷ z) (sym (take-append-drop n bs))

pub front : (place : ℕ) (bytes : List ℕ) → Front place bytes
front place [] = stuck (none_at_end place)
front place (b ∷ bs) = if_white (truth (is_white b))
  where
    if_marked : is_white b ≡ false → (b == 35) ≡ false → begins_word b ≡ false → mark_of b ≡ None
        → Truth (place == 0) → ((rest : List ℕ) × (b ∷ bs ≡ bytes_of Piece.byte_order_mark ++ rest)) ⊎ ((rest : List ℕ) → b ∷ bs ≢ bytes_of Piece.byte_order_mark ++ rest) → Front place (b ∷ bs)
    if_marked w c l m (yes' z) (inl r) = begins Piece.byte_order_mark r.0 ((Decides-eqb place 0).0 z) r.1
    if_marked w c l m (yes' z) (inr n) = stuck (none_begins place b bs w c l m (λ z rest. n rest))
    if_marked w c l m (no' z) r = stuck (none_begins place b bs w c l m (λ e. absurd (true≢false (sym ((Decides-eqb place 0).1 e) ∙ z))))

    if_mark : is_white b ≡ false → (b == 35) ≡ false → begins_word b ≡ false → Found (mark_of b) → Front place (b ∷ bs)
    if_mark w c l (nothing' m) = if_marked w c l m (truth (place == 0)) (prefix_or_not (bytes_of Piece.byte_order_mark) (b ∷ bs))
    if_mark w c l (something' m e) = begins (Piece.mark m) bs tt (ap (λ z. z ∷ bs) (byte_of-mark_of b m e))

    if_word : is_white b ≡ false → (b == 35) ≡ false → Truth (begins_word b) → Front place (b ∷ bs)
    if_word w c (yes' l) = begins (Piece.word (b ∷ take (prefix_len is_word_byte bs) bs)) (drop (prefix_len is_word_byte bs) bs) (word_front place b bs l) (taken (prefix_len is_word_byte bs) b bs)
    if_word w c (no' l) = if_mark w c l (found (mark_of b))

    if_comment : is_white b ≡ false → Truth (b == 35) → Front place (b ∷ bs)
    if_comment w (yes' c) =
        let n = prefix_len is_comment_byte bs in
        begins (Piece.comment (take n bs)) (drop n bs) (comment_front place bs)
        (ap (λ z. z ∷ bs) ((Decides-eqb b 35).0 c) ∙ taken n 35 bs)
    if_comment w (no' c) = if_word w c (truth (begins_word b))

    if_white : Truth (is_white b) → Front place (b ∷ bs)
    if_white (yes' w) = begins (Piece.white b) bs w refl
    if_white (no' w) = if_comment w (truth (b == 35))

-- each piece has a byte
pub some_bytes : (place : ℕ) (p : Piece) (after : List ℕ) → Fits place p after → 0 < length (bytes_of p)
some_bytes place Piece.byte_order_mark after f = omega arith
some_bytes place (Piece.white b) after f = omega arith
some_bytes place (Piece.comment bs) after f = omega arith
some_bytes place (Piece.word []) after f = absurd f.0
some_bytes place (Piece.word (b ∷ bs)) after f = omega arith
some_bytes place (Piece.mark m) after f = omega arith

-- what is left of the bytes behind some pieces has a cut
pub record Rest (place : ℕ) (bytes : List ℕ) : Type 0 where
  pub pieces : List Piece
  pub rest : List ℕ
  pub whole : bytes ≡ text_of pieces rest
  pub fit : FitFrom place pieces rest
  pub stuck : IsStuck (far place pieces) rest

cut_within : (n place : ℕ) (bytes : List ℕ) → length bytes ≤ n → Rest place bytes
cut_within zero place bytes short = end_here bytes short
  where
    end_here : (bs : List ℕ) → length bs ≤ 0 → Rest place bs
    end_here [] h = record { pieces = []; rest = []; whole = refl; fit = tt; stuck = none_at_end place }
    end_here (b ∷ bs) h = absurd (omega arith)
cut_within (suc n) place bytes short = go (front place bytes) (cut_within n)
  where
    go : Front place bytes → ((m : ℕ) (bs : List ℕ) → length bs ≤ n → Rest m bs) → Rest place bytes
    go (stuck s) r = record { pieces = []; rest = bytes; whole = refl; fit = tt; stuck = s }
    go (begins p after f e) r =
        let some = some_bytes place p after f in
        let k = ap length e in
        let l = length-append (bytes_of p) after in
        let more = r (place + length (bytes_of p)) after (omega arith) in
        record {
          pieces = p ∷ more.pieces;
          rest = more.rest;
          whole = e ∙ ap (λ z. bytes_of p ++ z) more.whole;
          fit = (subst (λ z. Fits place p z) more.whole f, more.fit);
          stuck = more.stuck;
        }

-- the rest of any bytes has a cut
pub cut_rest : (place : ℕ) (bytes : List ℕ) → Rest place bytes
cut_rest place bytes = cut_within (length bytes) place bytes (omega arith)

-- pieces behind pieces
pub text_of-append : (ps qs : List Piece) (rest : List ℕ) → text_of (ps ++ qs) rest ≡ text_of ps (text_of qs rest)
text_of-append [] qs rest = refl
text_of-append (p ∷ ps) qs rest = ap (λ z. bytes_of p ++ z) (text_of-append ps qs rest)

pub far-append : (place : ℕ) (ps qs : List Piece) → far place (ps ++ qs) ≡ far (far place ps) qs
far-append place [] qs = refl
far-append place (p ∷ ps) qs = far-append (place + length (bytes_of p)) ps qs

pub FitFrom-append : (place : ℕ) (ps qs : List Piece) (rest : List ℕ) → FitFrom place ps (text_of qs rest) → FitFrom (far place ps) qs rest → FitFrom place (ps ++ qs) rest
FitFrom-append place [] qs rest f g = g
FitFrom-append place (p ∷ ps) qs rest f g =
    (subst (λ z. Fits place p z) (sym (text_of-append ps qs rest)) f.0, FitFrom-append (place + length (bytes_of p)) ps qs rest f.1 g)

pub tokens_from-append : (place : ℕ) (ps qs : List Piece) → tokens_from place (ps ++ qs) ≡ tokens_from place ps ++ tokens_from (far place ps) qs
tokens_from-append place [] qs = refl
tokens_from-append place (p ∷ ps) qs =
    ap (λ z. piece_tokens place p ++ z) (tokens_from-append (place + length (bytes_of p)) ps qs)
    ∙ sym (append_assoc (piece_tokens place p) (tokens_from (place + length (bytes_of p)) ps) (tokens_from (far (place + length (bytes_of p)) ps) qs))

-- the places rise from one bound to another
abbrev pub Ascend : ℕ → List Token → ℕ → Type 0
Ascend low [] high = low ≤ high
Ascend low (t ∷ ts) high = (low ≤ t.place) × Ascend (suc t.place) ts high

pub Ascend-below : (low low' : ℕ) (ts : List Token) (high : ℕ) → low' ≤ low → Ascend low ts high → Ascend low' ts high
Ascend-below low low' [] high l a = omega arith
Ascend-below low low' (t ∷ ts) high l a = (let h = a.0 in omega arith, a.1)

pub Ascend-append : (low mid high : ℕ) (ts us : List Token) → Ascend low ts mid → Ascend mid us high → Ascend low (ts ++ us) high
Ascend-append low mid high [] us a b = Ascend-below mid low us high a b
Ascend-append low mid high (t ∷ ts) us a b = (a.0, Ascend-append (suc t.place) mid high ts us a.1 b)

piece_ascends : (place : ℕ) (p : Piece) (n : ℕ) → 0 < n → Ascend place (piece_tokens place p) (place + n)
piece_ascends place (Piece.word bs) n h = (omega arith, omega arith)
piece_ascends place (Piece.mark m) n h = (omega arith, omega arith)
piece_ascends place Piece.byte_order_mark n h = omega arith
piece_ascends place (Piece.white b) n h = omega arith
piece_ascends place (Piece.comment bs) n h = omega arith

pub tokens_ascend : (place : ℕ) (ps : List Piece) (rest : List ℕ) → FitFrom place ps rest → Ascend place (tokens_from place ps) (far place ps)
tokens_ascend place [] rest f = omega arith
tokens_ascend place (p ∷ ps) rest f =
    let n = length (bytes_of p) in
    Ascend-append place (place + n) (far (place + n) ps) (piece_tokens place p) (tokens_from (place + n) ps)
    (piece_ascends place p n (some_bytes place p (text_of ps rest) f.0)) (tokens_ascend (place + n) ps rest f.1)

-- each word is a word
abbrev pub AreSymbols : List Token → Type 0
AreSymbols ts = Each (λ t. IsSymbol t.symbol) ts

pub Each-append : {A : Type 0} (P : A → Type 0) (xs ys : List A) → Each P xs → Each P ys → Each P (xs ++ ys)
Each-append P [] ys e f = f
Each-append P (x ∷ xs) ys e f = (e.0, Each-append P xs ys e.1 f)

pub piece_symbols : (place : ℕ) (p : Piece) (after : List ℕ) → Fits place p after → AreSymbols (piece_tokens place p)
piece_symbols place (Piece.word bs) after f = (f.0, tt)
piece_symbols place (Piece.mark m) after f = (tt, tt)
piece_symbols place Piece.byte_order_mark after f = tt
piece_symbols place (Piece.white b) after f = tt
piece_symbols place (Piece.comment bs) after f = tt

pub tokens_symbols : (place : ℕ) (ps : List Piece) (rest : List ℕ) → FitFrom place ps rest → AreSymbols (tokens_from place ps)
tokens_symbols place [] rest f = tt
tokens_symbols place (p ∷ ps) rest f =
    Each-append (λ t. IsSymbol t.symbol) (piece_tokens place p) (tokens_from (place + length (bytes_of p)) ps)
    (piece_symbols place p (text_of ps rest) f.0) (tokens_symbols (place + length (bytes_of p)) ps rest f.1)
