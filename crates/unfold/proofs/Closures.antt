-- Closures under what stands around a part.
use Rattle.unfold.specs.Contractions.{Closure}

pub join : {A : Type 0} {next : A → A → Type 0} {t u v : A} → Closure next t u → Closure next u v → Closure next t v
join Closure.here s = s
join (Closure.after h r) s = Closure.after h (join r s)

pub around : {A B : Type 0} (next : A → A → Type 0) (then : B → B → Type 0) (f : A → B) → ((t u : A) → next t u → then (f t) (f u)) → {t u : A} → Closure next t u → Closure then (f t) (f u)
around next then f h Closure.here = Closure.here
around next then f h (Closure.after {t = t} {u = u} e r) = Closure.after (h t u e) (around next then f h r)

pub around_two : {A B C : Type 0} (one : A → A → Type 0) (two : B → B → Type 0) (then : C → C → Type 0) (f : A → B → C) → ((t x : A) (u : B) → one t x → then (f t u) (f x u)) → ((t : A) (u y : B) → two u y → then (f t u) (f t y)) → {t x : A} {u y : B} → Closure one t x → Closure two u y → Closure then (f t u) (f x y)
around_two one two then f h k {x = x} {u = u} r q =
    join (around one then (λ s. f s u) (λ s o e. h s o u e) r) (around two then (f x) (λ s o e. k x s o e) q)

pub around_three : {A B : Type 0} (next : A → A → Type 0) (then : B → B → Type 0) (f : A → A → A → B) → ((t x u v : A) → next t x → then (f t u v) (f x u v)) → ((t u y v : A) → next u y → then (f t u v) (f t y v)) → ((t u v z : A) → next v z → then (f t u v) (f t u z)) → {t x u y v z : A} → Closure next t x → Closure next u y → Closure next v z → Closure then (f t u v) (f x y z)
around_three next then f h k g {x = x} {u = u} {v = v} r q w =
    join (around next then (λ s. f s u v) (λ s o e. h s o u v e) r) (around_two next next then (f x) (λ s o b e. k x s o b e) (λ s a o e. g x s a o e) q w)
