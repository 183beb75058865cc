-- Lists in the order of a comparison, and labels in byte order.
use Rattle.std.specs.Prelude.{◌≡◌, ◌≢◌, ℕ, ⊤, List, [], ◌∷◌, cond, length, get_or}
use Rattle.std.specs.List.{AllByRecursion as Each, range_with_len}
use Rattle.std.specs.declared.cmp.Ordering.{Ordering}
use Rattle.std.specs.declared.cmp.Ordering.TheVariants.{Less}
use Rattle.std.specs.Ordering.{nat_cmp, is_gt}
use Rattle.std.specs.Cmp.Lexicographic.{slice_cmp}

-- x put into a list, before the first element that is not below it
abbrev pub put_by : {A : Type 0} → (A → A → Ordering) → A → List A → List A
put_by cmp x [] = x ∷ []
put_by cmp x (y ∷ ys) = cond (is_gt (cmp x y)) (y ∷ put_by cmp x ys) (x ∷ y ∷ ys)

-- the elements in order, each as often as before
abbrev pub sorted_by : {A : Type 0} → (A → A → Ordering) → List A → List A
sorted_by cmp [] = []
sorted_by cmp (x ∷ xs) = put_by cmp x (sorted_by cmp xs)

-- labels are compared by their bytes, a prefix before a longer label
abbrev pub label_cmp : List ℕ → List ℕ → Ordering
label_cmp = slice_cmp nat_cmp

-- what stands beside each label, in the byte order of the labels
abbrev pub by_label : {A : Type 0} → List (List ℕ × A) → List (List ℕ × A)
by_label fields = sorted_by (λ f g. label_cmp f.0 g.0) fields

-- the label at a place, or the empty one past the end
abbrev pub label_at : List (List ℕ) → ℕ → List ℕ
label_at labels place = get_or labels place []

abbrev pub place_cmp : List (List ℕ) → ℕ → ℕ → Ordering
place_cmp labels i j = label_cmp (label_at labels i) (label_at labels j)

-- the places of labels, in the byte order of the labels
abbrev pub label_order : List (List ℕ) → List ℕ
label_order labels = sorted_by (place_cmp labels) (range_with_len 0 (length labels))

-- no element equals one after it
abbrev pub AreDistinct : {A : Type 0} → List A → Type 0
AreDistinct [] = ⊤
AreDistinct (x ∷ xs) = Each (λ y. x ≢ y) xs × AreDistinct xs

-- the labels differ and stand in byte order
abbrev pub AreRising : List (List ℕ) → Type 0
AreRising [] = ⊤
AreRising (l ∷ ls) = Each (λ m. label_cmp l m ≡ Less) ls × AreRising ls
