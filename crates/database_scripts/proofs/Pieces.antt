-- Pieces that are put behind one another.
use Rattle.std.proofs.Common.{◌≡◌, ℕ, List, ◌++◌, Result, Ok, Err, OnOk, ap, ◌∙◌, append_assoc}

-- what follows of a success
pub on_ok : {A E P Q : Type 0} (r : Result A E) → (P → Q) → OnOk r P → OnOk r Q
on_ok (Ok x) f h = f h
on_ok (Err e) f h = tt

-- a piece more, behind those before
more : (old now new done piece : List ℕ) → now ≡ old ++ done → new ≡ now ++ piece → new ≡ old ++ (done ++ piece)
more old now new done piece e f = f ∙ ap (λ (l : List ℕ). l ++ piece) e ∙ append_assoc old done piece

four : (p q r s : List ℕ) → ((p ++ q) ++ r) ++ s ≡ p ++ (q ++ (r ++ s))
four p q r s = append_assoc (p ++ q) r s ∙ append_assoc p q (r ++ s)

pub put_four : (old a b c new p q r s : List ℕ) → a ≡ old ++ p → b ≡ a ++ q → c ≡ b ++ r → new ≡ c ++ s → new ≡ old ++ (p ++ (q ++ (r ++ s)))
put_four old a b c new p q r s e f g h =
    more old c new ((p ++ q) ++ r) s (more old b c (p ++ q) r (more old a b p q e f) g) h ∙ ap (λ (l : List ℕ). old ++ l) (four p q r s)

pub put_five : (old a b c d new p q r s t : List ℕ) → a ≡ old ++ p → b ≡ a ++ q → c ≡ b ++ r → d ≡ c ++ s → new ≡ d ++ t → new ≡ old ++ (p ++ (q ++ (r ++ (s ++ t))))
put_five old a b c d new p q r s t e f g h i =
    more old d new (p ++ (q ++ (r ++ s))) t (put_four old a b c d p q r s e f g h) i
    ∙ ap (λ (l : List ℕ). old ++ l) (append_assoc p (q ++ (r ++ s)) t ∙ ap (λ (l : List ℕ). p ++ l) (append_assoc q (r ++ s) t ∙ ap (λ (l : List ℕ). q ++ l) (append_assoc r s t)))

last_three : (p q r s t u v : List ℕ) → ((p ++ (q ++ (r ++ (s ++ t)))) ++ u) ++ v ≡ p ++ (q ++ (r ++ (s ++ (t ++ (u ++ v)))))
last_three p q r s t u v = simp append_assoc

pub put_seven : (old a b c d e f new p q r s t u v : List ℕ) → a ≡ old ++ p → b ≡ a ++ q → c ≡ b ++ r → d ≡ c ++ s → e ≡ d ++ t → f ≡ e ++ u → new ≡ f ++ v
    → new ≡ old ++ (p ++ (q ++ (r ++ (s ++ (t ++ (u ++ v))))))
put_seven old a b c d e f new p q r s t u v g h i j k l m =
    more old f new ((p ++ (q ++ (r ++ (s ++ t)))) ++ u) v (more old e f (p ++ (q ++ (r ++ (s ++ t)))) u (put_five old a b c d e p q r s t g h i j k) l) m
    ∙ ap (λ (x : List ℕ). old ++ x) (last_three p q r s t u v)

last_two : (p q r s t u v w z : List ℕ) → ((p ++ (q ++ (r ++ (s ++ (t ++ (u ++ v)))))) ++ w) ++ z ≡ p ++ (q ++ (r ++ (s ++ (t ++ (u ++ (v ++ (w ++ z)))))))
last_two p q r s t u v w z = simp append_assoc

pub put_nine : (old a b c d e f g h new p q r s t u v w z : List ℕ) → a ≡ old ++ p → b ≡ a ++ q → c ≡ b ++ r → d ≡ c ++ s → e ≡ d ++ t → f ≡ e ++ u → g ≡ f ++ v → h ≡ g ++ w → new ≡ h ++ z
    → new ≡ old ++ (p ++ (q ++ (r ++ (s ++ (t ++ (u ++ (v ++ (w ++ z))))))))
put_nine old a b c d e f g h new p q r s t u v w z i j k l m n o x y =
    more old h new ((p ++ (q ++ (r ++ (s ++ (t ++ (u ++ v)))))) ++ w) z (more old g h (p ++ (q ++ (r ++ (s ++ (t ++ (u ++ v)))))) w (put_seven old a b c d e f g p q r s t u v i j k l m n o) x) y
    ∙ ap (λ (text : List ℕ). old ++ text) (last_two p q r s t u v w z)
