-- The names of the columns of a natural answer differ.
use Rattle.std.proofs.Common.{◌≡◌, ℕ, suc, ◌≤◌, List, [], ◌∷◌, ◌++◌, refl, sym, ap, ap₂, ◌∙◌, subst, Bool, false, ◌||◌, arith, get_or, nat_eq, map, append-nil}
use Rattle.std.specs.Str.{bytes_eq}
use Rattle.std.proofs.lemmas.List.{map-append}
use Rattle.nq_model.specs.NamedRows.{Label}
use Rattle.nq_ir.proofs.Equal.{nat_differ}
use Rattle.sql_profile.specs.Scope.{among}
use Rattle.flatten.specs.Names.{number_text}
use Rattle.flatten.proofs.Apart.{bytes_differ, numbered_apart, tail_same}
use Rattle.natural_index.specs.Trees.{numbered, in_columns, tag_name, int_word, bool_word, text_word, part_word}

abbrev pub name : Label → ℕ → Label
name word k = word ++ number_text k

-- none of these names is among those before it
abbrev pub Apart : List Label → List Label → Type 0
Apart seen [] = Unit {0}
Apart seen (n ∷ ns) = (among n seen ≡ false) × Apart (n ∷ seen) ns

-- more is seen: names of a word and a number
abbrev Grown : Label → List Label → List Label → Type 0
Grown word seen more = (n : Label) → ((j : ℕ) → bytes_eq n (name word j) ≡ false) → among n seen
    ≡ false → among n more ≡ false

abbrev Differs : Label → Type 0
Differs word = (j k : ℕ) → bytes_eq (name word j) (name word k) ≡ nat_eq j k

-- the names of a word and the numbers from k on, and then others
run : {A : Type 0} (word : Label) → Differs word → (k : ℕ) (xs : List A) (rest seen : List Label)
    → ((j : ℕ) → k ≤ j → among (name word j) seen ≡ false)
    → ((more : List Label) → Grown word seen more → Apart more rest)
    → Apart seen (map (λ c. c.0) (numbered word k xs) ++ rest)
run word differ k [] rest seen new next = next seen (λ n far old. old)
run word differ k (x ∷ xs) rest seen new next = (
  new k (omega arith),
  run word differ (suc k) xs rest (name word k ∷ seen)
      (λ j b. ap₂ (λ y z. y || z) (differ j k ∙ nat_differ j k (λ e. let f : j ≡ k = e in absurd (omega (arith, f, b)))) (new j (omega (arith, b))))
      (λ more g. next more (λ n far old. g n far (ap₂ (λ y z. y || z) (far k) old))),
)

second_differs : (a b c d : ℕ) (xs ys : Label) → (b ≡ d → ⊥) → bytes_eq (a ∷ b ∷ xs) (c ∷ d ∷ ys)
    ≡ false
second_differs a b c d xs ys h = bytes_differ (a ∷ b ∷ xs) (c ∷ d ∷ ys)
    (λ e. h (ap (λ (l : Label). get_or l 1 0) e))

first_differs : (a c : ℕ) (xs ys : Label) → (a ≡ c → ⊥) → bytes_eq (a ∷ xs) (c ∷ ys) ≡ false
first_differs a c xs ys h = bytes_differ (a ∷ xs) (c ∷ ys)
    (λ e. h (ap (λ (l : Label). get_or l 0 0) e))

int_differs : Differs int_word
int_differs j k = numbered_apart (λ t. 107 ∷ 105 ∷ t) (λ xs ys e. tail_same (tail_same e)) j k

bool_differs : Differs bool_word
bool_differs j k = numbered_apart (λ t. 107 ∷ 98 ∷ t) (λ xs ys e. tail_same (tail_same e)) j k

text_differs : Differs text_word
text_differs j k = numbered_apart (λ t. 107 ∷ 116 ∷ t) (λ xs ys e. tail_same (tail_same e)) j k

part_differs : Differs part_word
part_differs j k = numbered_apart (λ t. 99 ∷ t) (λ xs ys e. tail_same e) j k

abbrev tags : List Label
tags = tag_name ∷ []

alone : (b : Bool) → b ≡ false → (b || false) ≡ false
alone b e = ap (λ z. z || false) e

int_new : (j : ℕ) → among (name int_word j) tags ≡ false
int_new j = alone (bytes_eq (name int_word j) tag_name) (first_differs 107 111 (105 ∷ number_text j)
    (116 ∷ []) (λ (e : 107 ≡ 111). omega (arith, e)))

bool_new : (j : ℕ) → among (name bool_word j) tags ≡ false
bool_new j = alone (bytes_eq (name bool_word j) tag_name)
    (first_differs 107 111 (98 ∷ number_text j) (116 ∷ []) (λ (e : 107 ≡ 111). omega (arith, e)))

text_new : (j : ℕ) → among (name text_word j) tags ≡ false
text_new j = alone (bytes_eq (name text_word j) tag_name)
    (first_differs 107 111 (116 ∷ number_text j) (116 ∷ []) (λ (e : 107 ≡ 111). omega (arith, e)))

part_new : (j : ℕ) → among (name part_word j) tags ≡ false
part_new j = alone (bytes_eq (name part_word j) tag_name)
    (first_differs 99 111 (number_text j) (116 ∷ []) (λ (e : 99 ≡ 111). omega (arith, e)))

bool_int : (j k : ℕ) → bytes_eq (name bool_word j) (name int_word k) ≡ false
bool_int j k = second_differs 107 98 107 105 (number_text j) (number_text k)
    (λ (e : 98 ≡ 105). omega (arith, e))

text_int : (j k : ℕ) → bytes_eq (name text_word j) (name int_word k) ≡ false
text_int j k = second_differs 107 116 107 105 (number_text j) (number_text k)
    (λ (e : 116 ≡ 105). omega (arith, e))

text_bool : (j k : ℕ) → bytes_eq (name text_word j) (name bool_word k) ≡ false
text_bool j k = second_differs 107 116 107 98 (number_text j) (number_text k)
    (λ (e : 116 ≡ 98). omega (arith, e))

part_key : (b j k : ℕ) → bytes_eq (name part_word j) (name (107 ∷ b ∷ []) k) ≡ false
part_key b j k = first_differs 99 107 (number_text j) (b ∷ number_text k)
    (λ (e : 99 ≡ 107). omega (arith, e))

abbrev pub names_of : {A : Type 0} → List (Label × A) → List Label
names_of xs = map (λ c. c.0) xs

module _ {A : Type 0} (tag : A) (ints bools texts parts : List A) where
  in_turn : names_of (in_columns tag ints bools texts parts) ≡ tag_name
      ∷ (names_of (numbered int_word 1 ints) ++ (names_of (numbered bool_word 1 bools)
      ++ (names_of (numbered text_word 1 texts) ++ (names_of (numbered part_word 1 parts) ++ []))))
  in_turn =
      let N = numbered int_word 1 ints in
      let B = numbered bool_word 1 bools in
      let T = numbered text_word 1 texts in
      let P = numbered part_word 1 parts in
      ap (λ (l : List Label). tag_name ∷ l)
      (map-append (λ (c : Label × A). c.0) N (B ++ (T ++ P))
      ∙ ap (λ (l : List Label). names_of N ++ l)
      (map-append (λ (c : Label × A). c.0) B (T ++ P)
      ∙ ap (λ (l : List Label). names_of B ++ l)
      (map-append (λ (c : Label × A). c.0) T P
      ∙ ap (λ (l : List Label). names_of T ++ l) (sym (append-nil (names_of P))))))

  -- the names of all columns differ
  pub all_apart : Apart [] (names_of (in_columns tag ints bools texts parts))
  all_apart = subst (Apart []) (sym in_turn) (
    refl,
    run int_word int_differs 1 ints _ tags (λ j b. int_new j)
        (λ m g. run bool_word bool_differs 1 bools _ m (λ j b. g (name bool_word j) (bool_int j)
        (bool_new j))
        (λ n h. run text_word text_differs 1 texts _ n (λ j b. h (name text_word j) (text_bool j)
        (g (name text_word j) (text_int j) (text_new j)))
        (λ o i. run part_word part_differs 1 parts [] o (λ j b. i (name part_word j)
        (part_key 116 j) (h (name part_word j) (part_key 98 j)
        (g (name part_word j) (part_key 105 j) (part_new j))))
        (λ p k. tt)))),
  )
