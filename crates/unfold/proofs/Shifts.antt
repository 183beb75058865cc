-- Shifting and substituting commute, at any positions.
--
-- After de Bruijn, "Lambda calculus notation with nameless dummies", Indagationes Mathematicae 1972.
use Rattle.std.proofs.Common.{◌≡◌, ℕ, nat_lt, nat_eq, cond, Bool, true, false, ◌+◌, ◌-◌, ◌<◌, ◌≤◌, refl, sym, ap, ◌∙◌, arith}
use Rattle.nq_model.specs.Terms.{PlacedTerm, PlacedNode, PlacedFields, at}
use Rattle.nq_model.specs.Substitution.{shift_index, shift, shift_fields, put, subst, subst_fields}

pub both : {A B C : Type 0} (f : A → B → C) {a x : A} {b y : B} → a ≡ x → b ≡ y → f a b ≡ f x y
both f {x = x} {b = b} e g = ap (λ z. f z b) e ∙ ap (f x) g

pub all : {A B C D : Type 0} (f : A → B → C → D) {a x : A} {b y : B} {c z : C} → a ≡ x → b ≡ y → c ≡ z → f a b c ≡ f x y z
all f {x = x} {b = b} {c = c} e g h = ap (λ w. f w b c) e ∙ both (f x) g h

-- how two indexes stand to one another
data Compared (i j : ℕ) : Type 0 where
  below : i < j → Compared i j
  same : i ≡ j → Compared i j
  above : j < i → Compared i j

compared_by : (i j : ℕ) (a b : Bool) → nat_lt i j ≡ a → nat_eq i j ≡ b → Compared i j
compared_by i j true b e g = below (grind arith)
compared_by i j false true e g = same (grind arith)
compared_by i j false false e g = above (grind arith)

compared : (i j : ℕ) → Compared i j
compared i j = compared_by i j (nat_lt i j) (nat_eq i j) refl refl

named : (p : ℕ) {i j : ℕ} → i ≡ j → at p (PlacedNode.var i) ≡ at p (PlacedNode.var j)
named p e = ap (λ x. at p (PlacedNode.var x)) e

index_below_by : (d c i : ℕ) → i < c → (b : Bool) → nat_lt i c ≡ b → cond b i (i + d) ≡ i
index_below_by d c i h true e = refl
index_below_by d c i h false e = absurd (grind arith)

pub index_below : (d c i : ℕ) → i < c → shift_index d c i ≡ i
index_below d c i h = index_below_by d c i h (nat_lt i c) refl

index_above_by : (d c i : ℕ) → c ≤ i → (b : Bool) → nat_lt i c ≡ b → cond b i (i + d) ≡ i + d
index_above_by d c i h true e = absurd (grind arith)
index_above_by d c i h false e = refl

pub index_above : (d c i : ℕ) → c ≤ i → shift_index d c i ≡ i + d
index_above d c i h = index_above_by d c i h (nat_lt i c) refl

-- what stands for a variable
abbrev put_by : ℕ → PlacedTerm → ℕ → ℕ → Bool → Bool → PlacedTerm
put_by c s p i a b = cond a (at p (PlacedNode.var i)) (cond b (shift c 0 s) (at p (PlacedNode.var (i - 1))))

put_below_by : (c : ℕ) (s : PlacedTerm) (p i : ℕ) → i < c → (a b : Bool) → nat_lt i c ≡ a → put_by c s p i a b ≡ at p (PlacedNode.var i)
put_below_by c s p i h true b e = refl
put_below_by c s p i h false b e = absurd (grind arith)

put_below : (c : ℕ) (s : PlacedTerm) (p i : ℕ) → i < c → put c s p i ≡ at p (PlacedNode.var i)
put_below c s p i h = put_below_by c s p i h (nat_lt i c) (nat_eq i c) refl

put_here_by : (c : ℕ) (s : PlacedTerm) (p i : ℕ) → i ≡ c → (a b : Bool) → nat_lt i c ≡ a → nat_eq i c ≡ b → put_by c s p i a b ≡ shift c 0 s
put_here_by c s p i h true b e g = absurd (grind arith)
put_here_by c s p i h false true e g = refl
put_here_by c s p i h false false e g = absurd (grind arith)

put_here : (c : ℕ) (s : PlacedTerm) (p i : ℕ) → i ≡ c → put c s p i ≡ shift c 0 s
put_here c s p i h = put_here_by c s p i h (nat_lt i c) (nat_eq i c) refl refl

put_above_by : (c : ℕ) (s : PlacedTerm) (p i : ℕ) → c < i → (a b : Bool) → nat_lt i c ≡ a → nat_eq i c ≡ b → put_by c s p i a b ≡ at p (PlacedNode.var (i - 1))
put_above_by c s p i h true b e g = absurd (grind arith)
put_above_by c s p i h false true e g = absurd (grind arith)
put_above_by c s p i h false false e g = refl

put_above : (c : ℕ) (s : PlacedTerm) (p i : ℕ) → c < i → put c s p i ≡ at p (PlacedNode.var (i - 1))
put_above c s p i h = put_above_by c s p i h (nat_lt i c) (nat_eq i c) refl refl

index_zero : (c i : ℕ) → Compared i c → shift_index 0 c i ≡ i
index_zero c i (below h) = index_below 0 c i h
index_zero c i (same h) = index_above 0 c i (omega arith) ∙ omega arith
index_zero c i (above h) = index_above 0 c i (omega arith) ∙ omega arith

-- no binder more
mutual
  pub shift_zero : (c : ℕ) (t : PlacedTerm) → shift 0 c t ≡ t
  shift_zero c (at p (PlacedNode.var i)) = named p (index_zero c i (compared i c))
  shift_zero c (at p (PlacedNode.int i)) = refl
  shift_zero c (at p (PlacedNode.bool b)) = refl
  shift_zero c (at p (PlacedNode.text x)) = refl
  shift_zero c (at p (PlacedNode.table l)) = refl
  shift_zero c (at p (PlacedNode.unary op t)) = ap (λ x. at p (PlacedNode.unary op x)) (shift_zero c t)
  shift_zero c (at p (PlacedNode.binary op t u)) = both (λ x y. at p (PlacedNode.binary op x y)) (shift_zero c t) (shift_zero c u)
  shift_zero c (at p (PlacedNode.choose t u v)) = all (λ x y z. at p (PlacedNode.choose x y z)) (shift_zero c t) (shift_zero c u) (shift_zero c v)
  shift_zero c (at p (PlacedNode.fun a t)) = ap (λ x. at p (PlacedNode.fun a x)) (shift_zero (c + 1) t)
  shift_zero c (at p (PlacedNode.apply t u)) = both (λ x y. at p (PlacedNode.apply x y)) (shift_zero c t) (shift_zero c u)
  shift_zero c (at p (PlacedNode.rec fs)) = ap (λ x. at p (PlacedNode.rec x)) (shift_zero_fields c fs)
  shift_zero c (at p (PlacedNode.field t l)) = ap (λ x. at p (PlacedNode.field x l)) (shift_zero c t)
  shift_zero c (at p (PlacedNode.aggregate o t)) = ap (λ x. at p (PlacedNode.aggregate o x)) (shift_zero c t)
  shift_zero c (at p (PlacedNode.single t)) = ap (λ x. at p (PlacedNode.single x)) (shift_zero c t)
  shift_zero c (at p (PlacedNode.nil a)) = refl
  shift_zero c (at p (PlacedNode.union t u)) = both (λ x y. at p (PlacedNode.union x y)) (shift_zero c t) (shift_zero c u)
  shift_zero c (at p (PlacedNode.for t u)) = both (λ x y. at p (PlacedNode.for x y)) (shift_zero c t) (shift_zero (c + 1) u)
  shift_zero c (at p (PlacedNode.guard t u)) = both (λ x y. at p (PlacedNode.guard x y)) (shift_zero c t) (shift_zero c u)
  shift_zero c (at p (PlacedNode.bind t u)) = both (λ x y. at p (PlacedNode.bind x y)) (shift_zero c t) (shift_zero (c + 1) u)

  shift_zero_fields : (c : ℕ) (fs : PlacedFields) → shift_fields 0 c fs ≡ fs
  shift_zero_fields c PlacedFields.none = refl
  shift_zero_fields c (PlacedFields.with_field l t fs) = both (PlacedFields.with_field l) (shift_zero c t) (shift_zero_fields c fs)

index_twice_above : (d e c k m i : ℕ) → k ≤ i → m ≡ c + e → Compared i c → shift_index d m (i + e) ≡ shift_index e k (shift_index d c i)
index_twice_above d e c k m i h q (below r) = index_below d m (i + e) (omega arith) ∙ sym (ap (shift_index e k) (index_below d c i r) ∙ index_above e k i h)
index_twice_above d e c k m i h q (same r) = index_above d m (i + e) (omega arith) ∙ let w : i + e + d ≡ i + d + e = omega arith in w ∙ sym (ap (shift_index e k) (index_above d c i (omega arith)) ∙ index_above e k (i + d) (omega arith))
index_twice_above d e c k m i h q (above r) = index_above d m (i + e) (omega arith) ∙ let w : i + e + d ≡ i + d + e = omega arith in w ∙ sym (ap (shift_index e k) (index_above d c i (omega arith)) ∙ index_above e k (i + d) (omega arith))

index_twice : (d e c k m i : ℕ) → k ≤ c → m ≡ c + e → Compared i k → shift_index d m (shift_index e k i) ≡ shift_index e k (shift_index d c i)
index_twice d e c k m i h q (below l) = ap (shift_index d m) (index_below e k i l) ∙ index_below d m i (omega arith) ∙ sym (ap (shift_index e k) (index_below d c i (omega arith)) ∙ index_below e k i l)
index_twice d e c k m i h q (same l) = ap (shift_index d m) (index_above e k i (omega arith)) ∙ index_twice_above d e c k m i (omega arith) q (compared i c)
index_twice d e c k m i h q (above l) = ap (shift_index d m) (index_above e k i (omega arith)) ∙ index_twice_above d e c k m i (omega arith) q (compared i c)

-- e binders more at k, and d more outside them
mutual
  pub shift_shift : (d e c k m : ℕ) → k ≤ c → m ≡ c + e → (t : PlacedTerm) → shift d m (shift e k t) ≡ shift e k (shift d c t)
  shift_shift d e c k m h q (at p (PlacedNode.var i)) = named p (index_twice d e c k m i h q (compared i k))
  shift_shift d e c k m h q (at p (PlacedNode.int i)) = refl
  shift_shift d e c k m h q (at p (PlacedNode.bool b)) = refl
  shift_shift d e c k m h q (at p (PlacedNode.text x)) = refl
  shift_shift d e c k m h q (at p (PlacedNode.table l)) = refl
  shift_shift d e c k m h q (at p (PlacedNode.unary op t)) = ap (λ x. at p (PlacedNode.unary op x)) (shift_shift d e c k m h q t)
  shift_shift d e c k m h q (at p (PlacedNode.binary op t u)) = both (λ x y. at p (PlacedNode.binary op x y)) (shift_shift d e c k m h q t) (shift_shift d e c k m h q u)
  shift_shift d e c k m h q (at p (PlacedNode.choose t u v)) = all (λ x y z. at p (PlacedNode.choose x y z)) (shift_shift d e c k m h q t) (shift_shift d e c k m h q u) (shift_shift d e c k m h q v)
  shift_shift d e c k m h q (at p (PlacedNode.fun a t)) = ap (λ x. at p (PlacedNode.fun a x)) (shift_shift d e (c + 1) (k + 1) (m + 1) (omega arith) (omega arith) t)
  shift_shift d e c k m h q (at p (PlacedNode.apply t u)) = both (λ x y. at p (PlacedNode.apply x y)) (shift_shift d e c k m h q t) (shift_shift d e c k m h q u)
  shift_shift d e c k m h q (at p (PlacedNode.rec fs)) = ap (λ x. at p (PlacedNode.rec x)) (shift_shift_fields d e c k m h q fs)
  shift_shift d e c k m h q (at p (PlacedNode.field t l)) = ap (λ x. at p (PlacedNode.field x l)) (shift_shift d e c k m h q t)
  shift_shift d e c k m h q (at p (PlacedNode.aggregate o t)) = ap (λ x. at p (PlacedNode.aggregate o x)) (shift_shift d e c k m h q t)
  shift_shift d e c k m h q (at p (PlacedNode.single t)) = ap (λ x. at p (PlacedNode.single x)) (shift_shift d e c k m h q t)
  shift_shift d e c k m h q (at p (PlacedNode.nil a)) = refl
  shift_shift d e c k m h q (at p (PlacedNode.union t u)) = both (λ x y. at p (PlacedNode.union x y)) (shift_shift d e c k m h q t) (shift_shift d e c k m h q u)
  shift_shift d e c k m h q (at p (PlacedNode.for t u)) = both (λ x y. at p (PlacedNode.for x y)) (shift_shift d e c k m h q t) (shift_shift d e (c + 1) (k + 1) (m + 1) (omega arith) (omega arith) u)
  shift_shift d e c k m h q (at p (PlacedNode.guard t u)) = both (λ x y. at p (PlacedNode.guard x y)) (shift_shift d e c k m h q t) (shift_shift d e c k m h q u)
  shift_shift d e c k m h q (at p (PlacedNode.bind t u)) = both (λ x y. at p (PlacedNode.bind x y)) (shift_shift d e c k m h q t) (shift_shift d e (c + 1) (k + 1) (m + 1) (omega arith) (omega arith) u)

  shift_shift_fields : (d e c k m : ℕ) → k ≤ c → m ≡ c + e → (fs : PlacedFields) → shift_fields d m (shift_fields e k fs) ≡ shift_fields e k (shift_fields d c fs)
  shift_shift_fields d e c k m h q PlacedFields.none = refl
  shift_shift_fields d e c k m h q (PlacedFields.with_field l t fs) = both (PlacedFields.with_field l) (shift_shift d e c k m h q t) (shift_shift_fields d e c k m h q fs)

index_sum : (d e c m n i : ℕ) → c ≤ m → m ≤ c + e → n ≡ e + d → Compared i c → shift_index d m (shift_index e c i) ≡ shift_index n c i
index_sum d e c m n i h g q (below l) = ap (shift_index d m) (index_below e c i l) ∙ index_below d m i (omega arith) ∙ sym (index_below n c i l)
index_sum d e c m n i h g q (same l) = ap (shift_index d m) (index_above e c i (omega arith)) ∙ index_above d m (i + e) (omega arith) ∙ let w : i + e + d ≡ i + n = omega arith in w ∙ sym (index_above n c i (omega arith))
index_sum d e c m n i h g q (above l) = ap (shift_index d m) (index_above e c i (omega arith)) ∙ index_above d m (i + e) (omega arith) ∙ let w : i + e + d ≡ i + n = omega arith in w ∙ sym (index_above n c i (omega arith))

-- e binders more at c, and d more among them
mutual
  pub shift_sum : (d e c m n : ℕ) → c ≤ m → m ≤ c + e → n ≡ e + d → (t : PlacedTerm) → shift d m (shift e c t) ≡ shift n c t
  shift_sum d e c m n h g q (at p (PlacedNode.var i)) = named p (index_sum d e c m n i h g q (compared i c))
  shift_sum d e c m n h g q (at p (PlacedNode.int i)) = refl
  shift_sum d e c m n h g q (at p (PlacedNode.bool b)) = refl
  shift_sum d e c m n h g q (at p (PlacedNode.text x)) = refl
  shift_sum d e c m n h g q (at p (PlacedNode.table l)) = refl
  shift_sum d e c m n h g q (at p (PlacedNode.unary op t)) = ap (λ x. at p (PlacedNode.unary op x)) (shift_sum d e c m n h g q t)
  shift_sum d e c m n h g q (at p (PlacedNode.binary op t u)) = both (λ x y. at p (PlacedNode.binary op x y)) (shift_sum d e c m n h g q t) (shift_sum d e c m n h g q u)
  shift_sum d e c m n h g q (at p (PlacedNode.choose t u v)) = all (λ x y z. at p (PlacedNode.choose x y z)) (shift_sum d e c m n h g q t) (shift_sum d e c m n h g q u) (shift_sum d e c m n h g q v)
  shift_sum d e c m n h g q (at p (PlacedNode.fun a t)) = ap (λ x. at p (PlacedNode.fun a x)) (shift_sum d e (c + 1) (m + 1) n (omega arith) (omega arith) q t)
  shift_sum d e c m n h g q (at p (PlacedNode.apply t u)) = both (λ x y. at p (PlacedNode.apply x y)) (shift_sum d e c m n h g q t) (shift_sum d e c m n h g q u)
  shift_sum d e c m n h g q (at p (PlacedNode.rec fs)) = ap (λ x. at p (PlacedNode.rec x)) (shift_sum_fields d e c m n h g q fs)
  shift_sum d e c m n h g q (at p (PlacedNode.field t l)) = ap (λ x. at p (PlacedNode.field x l)) (shift_sum d e c m n h g q t)
  shift_sum d e c m n h g q (at p (PlacedNode.aggregate o t)) = ap (λ x. at p (PlacedNode.aggregate o x)) (shift_sum d e c m n h g q t)
  shift_sum d e c m n h g q (at p (PlacedNode.single t)) = ap (λ x. at p (PlacedNode.single x)) (shift_sum d e c m n h g q t)
  shift_sum d e c m n h g q (at p (PlacedNode.nil a)) = refl
  shift_sum d e c m n h g q (at p (PlacedNode.union t u)) = both (λ x y. at p (PlacedNode.union x y)) (shift_sum d e c m n h g q t) (shift_sum d e c m n h g q u)
  shift_sum d e c m n h g q (at p (PlacedNode.for t u)) = both (λ x y. at p (PlacedNode.for x y)) (shift_sum d e c m n h g q t) (shift_sum d e (c + 1) (m + 1) n (omega arith) (omega arith) q u)
  shift_sum d e c m n h g q (at p (PlacedNode.guard t u)) = both (λ x y. at p (PlacedNode.guard x y)) (shift_sum d e c m n h g q t) (shift_sum d e c m n h g q u)
  shift_sum d e c m n h g q (at p (PlacedNode.bind t u)) = both (λ x y. at p (PlacedNode.bind x y)) (shift_sum d e c m n h g q t) (shift_sum d e (c + 1) (m + 1) n (omega arith) (omega arith) q u)

  shift_sum_fields : (d e c m n : ℕ) → c ≤ m → m ≤ c + e → n ≡ e + d → (fs : PlacedFields) → shift_fields d m (shift_fields e c fs) ≡ shift_fields n c fs
  shift_sum_fields d e c m n h g q PlacedFields.none = refl
  shift_sum_fields d e c m n h g q (PlacedFields.with_field l t fs) = both (PlacedFields.with_field l) (shift_sum d e c m n h g q t) (shift_sum_fields d e c m n h g q fs)

index_down : (d m i : ℕ) → 0 < i → Compared i (m + 1) → shift_index d m (i - 1) ≡ shift_index d (m + 1) i - 1
index_down d m i h (below l) = index_below d m (i - 1) (omega arith) ∙ sym (ap (λ x. x - 1) (index_below d (m + 1) i l))
index_down d m i h (same l) = index_above d m (i - 1) (omega arith) ∙ let w : i - 1 + d ≡ i + d - 1 = omega arith in w ∙ sym (ap (λ x. x - 1) (index_above d (m + 1) i (omega arith)))
index_down d m i h (above l) = index_above d m (i - 1) (omega arith) ∙ let w : i - 1 + d ≡ i + d - 1 = omega arith in w ∙ sym (ap (λ x. x - 1) (index_above d (m + 1) i (omega arith)))

index_stays : (d m n i : ℕ) → n < i → Compared i m → n < shift_index d m i
index_stays d m n i h (below l) = let e = index_below d m i l in omega arith
index_stays d m n i h (same l) = let e = index_above d m i (omega arith) in omega arith
index_stays d m n i h (above l) = let e = index_above d m i (omega arith) in omega arith

shift_put : (d c n m : ℕ) → m ≡ n + c → (s : PlacedTerm) (p i : ℕ) → Compared i n → shift d m (put n s p i) ≡ put n (shift d c s) p (shift_index d (m + 1) i)
shift_put d c n m q s p i (below l) = ap (shift d m) (put_below n s p i l) ∙ named p (index_below d m i (omega arith)) ∙ sym (ap (put n (shift d c s) p) (index_below d (m + 1) i (omega arith)) ∙ put_below n (shift d c s) p i l)
shift_put d c n m q s p i (same l) = ap (shift d m) (put_here n s p i l) ∙ shift_shift d n c 0 m (omega arith) (omega arith) s ∙ sym (ap (put n (shift d c s) p) (index_below d (m + 1) i (omega arith)) ∙ put_here n (shift d c s) p i l)
shift_put d c n m q s p i (above l) = ap (shift d m) (put_above n s p i l) ∙ named p (index_down d m i (omega arith) (compared i (m + 1))) ∙ sym (put_above n (shift d c s) p (shift_index d (m + 1) i) (index_stays d (m + 1) n i l (compared i (m + 1))))

-- d binders more around a substitution
mutual
  pub shift_subst : (d c n m : ℕ) → m ≡ n + c → (s t : PlacedTerm) → shift d m (subst n s t) ≡ subst n (shift d c s) (shift d (m + 1) t)
  shift_subst d c n m q s (at p (PlacedNode.var i)) = shift_put d c n m q s p i (compared i n)
  shift_subst d c n m q s (at p (PlacedNode.int i)) = refl
  shift_subst d c n m q s (at p (PlacedNode.bool b)) = refl
  shift_subst d c n m q s (at p (PlacedNode.text x)) = refl
  shift_subst d c n m q s (at p (PlacedNode.table l)) = refl
  shift_subst d c n m q s (at p (PlacedNode.unary op t)) = ap (λ x. at p (PlacedNode.unary op x)) (shift_subst d c n m q s t)
  shift_subst d c n m q s (at p (PlacedNode.binary op t u)) = both (λ x y. at p (PlacedNode.binary op x y)) (shift_subst d c n m q s t) (shift_subst d c n m q s u)
  shift_subst d c n m q s (at p (PlacedNode.choose t u v)) = all (λ x y z. at p (PlacedNode.choose x y z)) (shift_subst d c n m q s t) (shift_subst d c n m q s u) (shift_subst d c n m q s v)
  shift_subst d c n m q s (at p (PlacedNode.fun a t)) = ap (λ x. at p (PlacedNode.fun a x)) (shift_subst d c (n + 1) (m + 1) (omega arith) s t)
  shift_subst d c n m q s (at p (PlacedNode.apply t u)) = both (λ x y. at p (PlacedNode.apply x y)) (shift_subst d c n m q s t) (shift_subst d c n m q s u)
  shift_subst d c n m q s (at p (PlacedNode.rec fs)) = ap (λ x. at p (PlacedNode.rec x)) (shift_subst_fields d c n m q s fs)
  shift_subst d c n m q s (at p (PlacedNode.field t l)) = ap (λ x. at p (PlacedNode.field x l)) (shift_subst d c n m q s t)
  shift_subst d c n m q s (at p (PlacedNode.aggregate o t)) = ap (λ x. at p (PlacedNode.aggregate o x)) (shift_subst d c n m q s t)
  shift_subst d c n m q s (at p (PlacedNode.single t)) = ap (λ x. at p (PlacedNode.single x)) (shift_subst d c n m q s t)
  shift_subst d c n m q s (at p (PlacedNode.nil a)) = refl
  shift_subst d c n m q s (at p (PlacedNode.union t u)) = both (λ x y. at p (PlacedNode.union x y)) (shift_subst d c n m q s t) (shift_subst d c n m q s u)
  shift_subst d c n m q s (at p (PlacedNode.for t u)) = both (λ x y. at p (PlacedNode.for x y)) (shift_subst d c n m q s t) (shift_subst d c (n + 1) (m + 1) (omega arith) s u)
  shift_subst d c n m q s (at p (PlacedNode.guard t u)) = both (λ x y. at p (PlacedNode.guard x y)) (shift_subst d c n m q s t) (shift_subst d c n m q s u)
  shift_subst d c n m q s (at p (PlacedNode.bind t u)) = both (λ x y. at p (PlacedNode.bind x y)) (shift_subst d c n m q s t) (shift_subst d c (n + 1) (m + 1) (omega arith) s u)

  shift_subst_fields : (d c n m : ℕ) → m ≡ n + c → (s : PlacedTerm) (fs : PlacedFields) → shift_fields d m (subst_fields n s fs) ≡ subst_fields n (shift d c s) (shift_fields d (m + 1) fs)
  shift_subst_fields d c n m q s PlacedFields.none = refl
  shift_subst_fields d c n m q s (PlacedFields.with_field l t fs) = both (PlacedFields.with_field l) (shift_subst d c n m q s t) (shift_subst_fields d c n m q s fs)

put_shift_above : (d c k m : ℕ) → k ≤ c → m ≡ c + d → (s : PlacedTerm) (p i : ℕ) → k ≤ i → Compared i c → put m s p (i + d) ≡ shift d k (put c s p i)
put_shift_above d c k m h q s p i g (below l) = put_below m s p (i + d) (omega arith) ∙ sym (ap (shift d k) (put_below c s p i l) ∙ named p (index_above d k i g))
put_shift_above d c k m h q s p i g (same l) = put_here m s p (i + d) (omega arith) ∙ sym (ap (shift d k) (put_here c s p i l) ∙ shift_sum d c 0 k m (omega arith) (omega arith) q s)
put_shift_above d c k m h q s p i g (above l) = put_above m s p (i + d) (omega arith) ∙ named p (omega arith) ∙ sym (ap (shift d k) (put_above c s p i l) ∙ named p (index_above d k (i - 1) (omega arith)))

put_shift : (d c k m : ℕ) → k ≤ c → m ≡ c + d → (s : PlacedTerm) (p i : ℕ) → Compared i k → put m s p (shift_index d k i) ≡ shift d k (put c s p i)
put_shift d c k m h q s p i (below l) = ap (put m s p) (index_below d k i l) ∙ put_below m s p i (omega arith) ∙ sym (ap (shift d k) (put_below c s p i (omega arith)) ∙ named p (index_below d k i l))
put_shift d c k m h q s p i (same l) = ap (put m s p) (index_above d k i (omega arith)) ∙ put_shift_above d c k m h q s p i (omega arith) (compared i c)
put_shift d c k m h q s p i (above l) = ap (put m s p) (index_above d k i (omega arith)) ∙ put_shift_above d c k m h q s p i (omega arith) (compared i c)

-- a substitution outside d binders more
mutual
  pub subst_shift : (d c k m : ℕ) → k ≤ c → m ≡ c + d → (s t : PlacedTerm) → subst m s (shift d k t) ≡ shift d k (subst c s t)
  subst_shift d c k m h q s (at p (PlacedNode.var i)) = put_shift d c k m h q s p i (compared i k)
  subst_shift d c k m h q s (at p (PlacedNode.int i)) = refl
  subst_shift d c k m h q s (at p (PlacedNode.bool b)) = refl
  subst_shift d c k m h q s (at p (PlacedNode.text x)) = refl
  subst_shift d c k m h q s (at p (PlacedNode.table l)) = refl
  subst_shift d c k m h q s (at p (PlacedNode.unary op t)) = ap (λ x. at p (PlacedNode.unary op x)) (subst_shift d c k m h q s t)
  subst_shift d c k m h q s (at p (PlacedNode.binary op t u)) = both (λ x y. at p (PlacedNode.binary op x y)) (subst_shift d c k m h q s t) (subst_shift d c k m h q s u)
  subst_shift d c k m h q s (at p (PlacedNode.choose t u v)) = all (λ x y z. at p (PlacedNode.choose x y z)) (subst_shift d c k m h q s t) (subst_shift d c k m h q s u) (subst_shift d c k m h q s v)
  subst_shift d c k m h q s (at p (PlacedNode.fun a t)) = ap (λ x. at p (PlacedNode.fun a x)) (subst_shift d (c + 1) (k + 1) (m + 1) (omega arith) (omega arith) s t)
  subst_shift d c k m h q s (at p (PlacedNode.apply t u)) = both (λ x y. at p (PlacedNode.apply x y)) (subst_shift d c k m h q s t) (subst_shift d c k m h q s u)
  subst_shift d c k m h q s (at p (PlacedNode.rec fs)) = ap (λ x. at p (PlacedNode.rec x)) (subst_shift_fields d c k m h q s fs)
  subst_shift d c k m h q s (at p (PlacedNode.field t l)) = ap (λ x. at p (PlacedNode.field x l)) (subst_shift d c k m h q s t)
  subst_shift d c k m h q s (at p (PlacedNode.aggregate o t)) = ap (λ x. at p (PlacedNode.aggregate o x)) (subst_shift d c k m h q s t)
  subst_shift d c k m h q s (at p (PlacedNode.single t)) = ap (λ x. at p (PlacedNode.single x)) (subst_shift d c k m h q s t)
  subst_shift d c k m h q s (at p (PlacedNode.nil a)) = refl
  subst_shift d c k m h q s (at p (PlacedNode.union t u)) = both (λ x y. at p (PlacedNode.union x y)) (subst_shift d c k m h q s t) (subst_shift d c k m h q s u)
  subst_shift d c k m h q s (at p (PlacedNode.for t u)) = both (λ x y. at p (PlacedNode.for x y)) (subst_shift d c k m h q s t) (subst_shift d (c + 1) (k + 1) (m + 1) (omega arith) (omega arith) s u)
  subst_shift d c k m h q s (at p (PlacedNode.guard t u)) = both (λ x y. at p (PlacedNode.guard x y)) (subst_shift d c k m h q s t) (subst_shift d c k m h q s u)
  subst_shift d c k m h q s (at p (PlacedNode.bind t u)) = both (λ x y. at p (PlacedNode.bind x y)) (subst_shift d c k m h q s t) (subst_shift d (c + 1) (k + 1) (m + 1) (omega arith) (omega arith) s u)

  subst_shift_fields : (d c k m : ℕ) → k ≤ c → m ≡ c + d → (s : PlacedTerm) (fs : PlacedFields) → subst_fields m s (shift_fields d k fs) ≡ shift_fields d k (subst_fields c s fs)
  subst_shift_fields d c k m h q s PlacedFields.none = refl
  subst_shift_fields d c k m h q s (PlacedFields.with_field l t fs) = both (PlacedFields.with_field l) (subst_shift d c k m h q s t) (subst_shift_fields d c k m h q s fs)

put_unused : (d e c k : ℕ) → k ≤ c → c ≤ k + d → e ≡ d + 1 → (s : PlacedTerm) (p i : ℕ) → Compared i k → put c s p (shift_index e k i) ≡ at p (PlacedNode.var (shift_index d k i))
put_unused d e c k h g q s p i (below l) = ap (put c s p) (index_below e k i l) ∙ put_below c s p i (omega arith) ∙ sym (named p (index_below d k i l))
put_unused d e c k h g q s p i (same l) = ap (put c s p) (index_above e k i (omega arith)) ∙ put_above c s p (i + e) (omega arith) ∙ named p (omega arith) ∙ sym (named p (index_above d k i (omega arith)))
put_unused d e c k h g q s p i (above l) = ap (put c s p) (index_above e k i (omega arith)) ∙ put_above c s p (i + e) (omega arith) ∙ named p (omega arith) ∙ sym (named p (index_above d k i (omega arith)))

-- a substitution for one of e binders more, which the term does not use
mutual
  pub subst_unused : (d e c k : ℕ) → k ≤ c → c ≤ k + d → e ≡ d + 1 → (s t : PlacedTerm) → subst c s (shift e k t) ≡ shift d k t
  subst_unused d e c k h g q s (at p (PlacedNode.var i)) = put_unused d e c k h g q s p i (compared i k)
  subst_unused d e c k h g q s (at p (PlacedNode.int i)) = refl
  subst_unused d e c k h g q s (at p (PlacedNode.bool b)) = refl
  subst_unused d e c k h g q s (at p (PlacedNode.text x)) = refl
  subst_unused d e c k h g q s (at p (PlacedNode.table l)) = refl
  subst_unused d e c k h g q s (at p (PlacedNode.unary op t)) = ap (λ x. at p (PlacedNode.unary op x)) (subst_unused d e c k h g q s t)
  subst_unused d e c k h g q s (at p (PlacedNode.binary op t u)) = both (λ x y. at p (PlacedNode.binary op x y)) (subst_unused d e c k h g q s t) (subst_unused d e c k h g q s u)
  subst_unused d e c k h g q s (at p (PlacedNode.choose t u v)) = all (λ x y z. at p (PlacedNode.choose x y z)) (subst_unused d e c k h g q s t) (subst_unused d e c k h g q s u) (subst_unused d e c k h g q s v)
  subst_unused d e c k h g q s (at p (PlacedNode.fun a t)) = ap (λ x. at p (PlacedNode.fun a x)) (subst_unused d e (c + 1) (k + 1) (omega arith) (omega arith) q s t)
  subst_unused d e c k h g q s (at p (PlacedNode.apply t u)) = both (λ x y. at p (PlacedNode.apply x y)) (subst_unused d e c k h g q s t) (subst_unused d e c k h g q s u)
  subst_unused d e c k h g q s (at p (PlacedNode.rec fs)) = ap (λ x. at p (PlacedNode.rec x)) (subst_unused_fields d e c k h g q s fs)
  subst_unused d e c k h g q s (at p (PlacedNode.field t l)) = ap (λ x. at p (PlacedNode.field x l)) (subst_unused d e c k h g q s t)
  subst_unused d e c k h g q s (at p (PlacedNode.aggregate o t)) = ap (λ x. at p (PlacedNode.aggregate o x)) (subst_unused d e c k h g q s t)
  subst_unused d e c k h g q s (at p (PlacedNode.single t)) = ap (λ x. at p (PlacedNode.single x)) (subst_unused d e c k h g q s t)
  subst_unused d e c k h g q s (at p (PlacedNode.nil a)) = refl
  subst_unused d e c k h g q s (at p (PlacedNode.union t u)) = both (λ x y. at p (PlacedNode.union x y)) (subst_unused d e c k h g q s t) (subst_unused d e c k h g q s u)
  subst_unused d e c k h g q s (at p (PlacedNode.for t u)) = both (λ x y. at p (PlacedNode.for x y)) (subst_unused d e c k h g q s t) (subst_unused d e (c + 1) (k + 1) (omega arith) (omega arith) q s u)
  subst_unused d e c k h g q s (at p (PlacedNode.guard t u)) = both (λ x y. at p (PlacedNode.guard x y)) (subst_unused d e c k h g q s t) (subst_unused d e c k h g q s u)
  subst_unused d e c k h g q s (at p (PlacedNode.bind t u)) = both (λ x y. at p (PlacedNode.bind x y)) (subst_unused d e c k h g q s t) (subst_unused d e (c + 1) (k + 1) (omega arith) (omega arith) q s u)

  subst_unused_fields : (d e c k : ℕ) → k ≤ c → c ≤ k + d → e ≡ d + 1 → (s : PlacedTerm) (fs : PlacedFields) → subst_fields c s (shift_fields e k fs) ≡ shift_fields d k fs
  subst_unused_fields d e c k h g q s PlacedFields.none = refl
  subst_unused_fields d e c k h g q s (PlacedFields.with_field l t fs) = both (PlacedFields.with_field l) (subst_unused d e c k h g q s t) (subst_unused_fields d e c k h g q s fs)

put_put_above : (c n m : ℕ) → m ≡ n + c → (s u : PlacedTerm) (p i : ℕ) → n < i → Compared i (m + 1) → put m s p (i - 1) ≡ subst n (subst c s u) (put (m + 1) s p i)
put_put_above c n m q s u p i h (below l) = put_below m s p (i - 1) (omega arith) ∙ sym (ap (subst n (subst c s u)) (put_below (m + 1) s p i l) ∙ put_above n (subst c s u) p i h)
put_put_above c n m q s u p i h (same l) = put_here m s p (i - 1) (omega arith) ∙ sym (ap (subst n (subst c s u)) (put_here (m + 1) s p i l) ∙ subst_unused m (m + 1) n 0 (omega arith) (omega arith) (omega arith) (subst c s u) s)
put_put_above c n m q s u p i h (above l) = put_above m s p (i - 1) (omega arith) ∙ sym (ap (subst n (subst c s u)) (put_above (m + 1) s p i l) ∙ put_above n (subst c s u) p (i - 1) (omega arith))

put_put : (c n m : ℕ) → m ≡ n + c → (s u : PlacedTerm) (p i : ℕ) → Compared i n → subst m s (put n u p i) ≡ subst n (subst c s u) (put (m + 1) s p i)
put_put c n m q s u p i (below l) = ap (subst m s) (put_below n u p i l) ∙ put_below m s p i (omega arith) ∙ sym (ap (subst n (subst c s u)) (put_below (m + 1) s p i (omega arith)) ∙ put_below n (subst c s u) p i l)
put_put c n m q s u p i (same l) = ap (subst m s) (put_here n u p i l) ∙ subst_shift n c 0 m (omega arith) (omega arith) s u ∙ sym (ap (subst n (subst c s u)) (put_below (m + 1) s p i (omega arith)) ∙ put_here n (subst c s u) p i l)
put_put c n m q s u p i (above l) = ap (subst m s) (put_above n u p i l) ∙ put_put_above c n m q s u p i l (compared i (m + 1))

-- two substitutions
mutual
  pub subst_subst : (c n m : ℕ) → m ≡ n + c → (s u t : PlacedTerm) → subst m s (subst n u t) ≡ subst n (subst c s u) (subst (m + 1) s t)
  subst_subst c n m q s r (at p (PlacedNode.var i)) = put_put c n m q s r p i (compared i n)
  subst_subst c n m q s r (at p (PlacedNode.int i)) = refl
  subst_subst c n m q s r (at p (PlacedNode.bool b)) = refl
  subst_subst c n m q s r (at p (PlacedNode.text x)) = refl
  subst_subst c n m q s r (at p (PlacedNode.table l)) = refl
  subst_subst c n m q s r (at p (PlacedNode.unary op t)) = ap (λ x. at p (PlacedNode.unary op x)) (subst_subst c n m q s r t)
  subst_subst c n m q s r (at p (PlacedNode.binary op t u)) = both (λ x y. at p (PlacedNode.binary op x y)) (subst_subst c n m q s r t) (subst_subst c n m q s r u)
  subst_subst c n m q s r (at p (PlacedNode.choose t u v)) = all (λ x y z. at p (PlacedNode.choose x y z)) (subst_subst c n m q s r t) (subst_subst c n m q s r u) (subst_subst c n m q s r v)
  subst_subst c n m q s r (at p (PlacedNode.fun a t)) = ap (λ x. at p (PlacedNode.fun a x)) (subst_subst c (n + 1) (m + 1) (omega arith) s r t)
  subst_subst c n m q s r (at p (PlacedNode.apply t u)) = both (λ x y. at p (PlacedNode.apply x y)) (subst_subst c n m q s r t) (subst_subst c n m q s r u)
  subst_subst c n m q s r (at p (PlacedNode.rec fs)) = ap (λ x. at p (PlacedNode.rec x)) (subst_subst_fields c n m q s r fs)
  subst_subst c n m q s r (at p (PlacedNode.field t l)) = ap (λ x. at p (PlacedNode.field x l)) (subst_subst c n m q s r t)
  subst_subst c n m q s r (at p (PlacedNode.aggregate o t)) = ap (λ x. at p (PlacedNode.aggregate o x)) (subst_subst c n m q s r t)
  subst_subst c n m q s r (at p (PlacedNode.single t)) = ap (λ x. at p (PlacedNode.single x)) (subst_subst c n m q s r t)
  subst_subst c n m q s r (at p (PlacedNode.nil a)) = refl
  subst_subst c n m q s r (at p (PlacedNode.union t u)) = both (λ x y. at p (PlacedNode.union x y)) (subst_subst c n m q s r t) (subst_subst c n m q s r u)
  subst_subst c n m q s r (at p (PlacedNode.for t u)) = both (λ x y. at p (PlacedNode.for x y)) (subst_subst c n m q s r t) (subst_subst c (n + 1) (m + 1) (omega arith) s r u)
  subst_subst c n m q s r (at p (PlacedNode.guard t u)) = both (λ x y. at p (PlacedNode.guard x y)) (subst_subst c n m q s r t) (subst_subst c n m q s r u)
  subst_subst c n m q s r (at p (PlacedNode.bind t u)) = both (λ x y. at p (PlacedNode.bind x y)) (subst_subst c n m q s r t) (subst_subst c (n + 1) (m + 1) (omega arith) s r u)

  subst_subst_fields : (c n m : ℕ) → m ≡ n + c → (s u : PlacedTerm) (fs : PlacedFields) → subst_fields m s (subst_fields n u fs) ≡ subst_fields n (subst c s u) (subst_fields (m + 1) s fs)
  subst_subst_fields c n m q s r PlacedFields.none = refl
  subst_subst_fields c n m q s r (PlacedFields.with_field l t fs) = both (PlacedFields.with_field l) (subst_subst c n m q s r t) (subst_subst_fields c n m q s r fs)
