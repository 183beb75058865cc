-- Terms whose text can be read back.
use Rattle.std.proofs.Common.{◌≡◌, ℕ, ◌<◌, ◌^◌, ◌⊎◌, inl, inr, Bool, true, false, ◌||◌, cond, nat_eq, List, [], ◌∷◌, bytes_eq, refl, sym, ap, ◌∙◌, subst, arith, suc}
use Rattle.std.specs.Prelude.{⊤}
use Rattle.std.specs.List.{AllByRecursion as Each}
use Rattle.std.specs.Fmt.{decimal}
use Rattle.std.specs.Ordering.{ordering_reverse, is_gt}
use Rattle.std.specs.Cmp.Lexicographic.{nat_list_cmp_total}
use Rattle.std.specs.declared.cmp.Ordering.{Ordering}
use Rattle.std.specs.declared.cmp.Ordering.TheVariants.{Less, Equal, Greater}
use Rattle.std.proofs.lemmas.Fmt.{decimal_injective}
use Rattle.std.proofs.lemmas.Bool.Decides.{Decides-eqb}
use Rattle.std.proofs.lemmas.Slice.Eq.{bytes_eq-Decides}
use Rattle.nq_model.specs.NamedRows.{Label}
use Rattle.nq_model.specs.Orders.{label_cmp, by_label, put_by, AreRising}
use Rattle.nq_model.specs.Proper.{IsQueryWord, labels_of}
use Rattle.nq_model.specs.QueryScope.{Name, among, number_of}
use Rattle.nq_model.specs.Types.{TypeTree, FieldTypes, field_types_of}
use Rattle.nq_ir.specs.WellFormed.{IsLiteral}
use Rattle.nq_ir.specs.Printed.{NamedTerm, var, constant, unary, binary, choose, table, rec, field, single, nil, union, for, guard, aggregate, NamedFields, no_field, with_field, place_of, name_text}

-- k is one of these names
abbrev pub IsBound : List ℕ → ℕ → Type 0
IsBound [] k = ⊥
IsBound (g ∷ sc) k = (k ≡ g) ⊎ IsBound sc k

-- no label stands among those seen, nor twice
abbrev pub Apart : List Label → List Label → Type 0
Apart seen [] = ⊤
Apart seen (l ∷ ls) = (among l seen ≡ false) × Apart (l ∷ seen) ls

abbrev pub named_labels : NamedFields → List Label
named_labels no_field = []
named_labels (with_field l a fs) = l ∷ named_labels fs

-- types without functions whose labels are words and rise
abbrev mutual
  pub LegibleType : TypeTree → Type 0
  LegibleType TypeTree.int = ⊤
  LegibleType TypeTree.bool = ⊤
  LegibleType TypeTree.text = ⊤
  LegibleType (TypeTree.rec fs) = AreRising (labels_of fs) × LegibleTypes fs
  LegibleType (TypeTree.bag a) = LegibleType a
  LegibleType (TypeTree.fun a b) = ⊥

  pub LegibleTypes : FieldTypes → Type 0
  LegibleTypes FieldTypes.none = ⊤
  LegibleTypes (FieldTypes.field l a fs) = IsQueryWord l × LegibleType a × LegibleTypes fs

-- under binders of these names each variable is bound, numbers are small, names and labels are words, and those of a
-- record differ
abbrev mutual
  pub Legible : List ℕ → NamedTerm → Type 0
  Legible sc (var k) = IsBound sc k
  Legible sc (constant c) = IsLiteral c
  Legible sc (unary o a) = Legible sc a
  Legible sc (binary o a b) = Legible sc a × Legible sc b
  Legible sc (choose t a b) = Legible sc t × Legible sc a × Legible sc b
  Legible sc (table t) = IsQueryWord t
  Legible sc (rec fs) = Apart [] (named_labels fs) × LegibleFields sc fs
  Legible sc (field a l) = Legible sc a × IsQueryWord l
  Legible sc (single a) = Legible sc a
  Legible sc (nil a) = LegibleType a
  Legible sc (union a b) = Legible sc a × Legible sc b
  Legible sc (for k a b) = (k < 2 ^ 63) × Legible sc a × Legible (k ∷ sc) b
  Legible sc (guard t a) = Legible sc t × Legible sc a
  Legible sc (aggregate g a) = Legible sc a

  pub LegibleFields : List ℕ → NamedFields → Type 0
  LegibleFields sc no_field = ⊤
  LegibleFields sc (with_field l a fs) = IsQueryWord l × Legible sc a × LegibleFields sc fs

abbrev pub AreSmall : List ℕ → Type 0
AreSmall sc = Each (λ g. g < 2 ^ 63) sc

abbrev pub names : List ℕ → List Name
names [] = []
names (g ∷ sc) = name_text g ∷ names sc

bound_small : (sc : List ℕ) (k : ℕ) → AreSmall sc → IsBound sc k → k < 2 ^ 63
bound_small [] k s b = absurd b
bound_small (g ∷ sc) k s (inl e) = subst (λ n. n < 2 ^ 63) (sym e) s.0
bound_small (g ∷ sc) k s (inr b) = bound_small sc k s.1 b

-- names tell numbers apart
names_apart : (g h : ℕ) → g < 2 ^ 63 → h < 2 ^ 63 → bytes_eq (name_text g) (name_text h) ≡ nat_eq g h
names_apart g h a b = go (bytes_eq (name_text g) (name_text h)) (nat_eq g h) refl refl
  where
    go : (s t : Bool) → bytes_eq (name_text g) (name_text h) ≡ s → nat_eq g h ≡ t → s ≡ t
    go true true p q = refl
    go false false p q = refl
    go true false p q =
        let e : name_text g ≡ name_text h = (bytes_eq-Decides (name_text g) (name_text h)).0 p in
        let f : decimal g ≡ decimal h = cc in
        let w : nat_eq g h ≡ true = (Decides-eqb g h).1 (decimal_injective g h (omega (arith, a)) (omega (arith, b)) f) in
        let v : true ≡ false = sym w ∙ q in
        absurd (cc)
    go false true p q =
        let e : g ≡ h = (Decides-eqb g h).0 q in
        let w : bytes_eq (name_text g) (name_text h) ≡ true = (bytes_eq-Decides (name_text g) (name_text h)).1 (ap name_text e) in
        let v : true ≡ false = sym w ∙ p in
        absurd (cc)

place_by_name : (k : ℕ) (sc : List ℕ) → k < 2 ^ 63 → AreSmall sc → number_of (name_text k) (names sc) ≡ place_of k sc
place_by_name k [] h a = refl
place_by_name k (g ∷ sc) h a =
    ap (λ b. cond b 0 (suc (number_of (name_text k) (names sc)))) (names_apart k g h a.0) ∙ ap (λ n. cond (nat_eq k g) 0 (suc n)) (place_by_name k sc h a.1)

pub bound_place : (sc : List ℕ) (k : ℕ) → AreSmall sc → IsBound sc k → number_of (name_text k) (names sc) ≡ place_of k sc
bound_place sc k a b = place_by_name k sc (bound_small sc k a b) a

pub bound_name : (sc : List ℕ) (k : ℕ) → AreSmall sc → IsBound sc k → (among (name_text k) (names sc) ≡ true) × (k < 2 ^ 63)
bound_name sc k a b = (go sc b, bound_small sc k a b)
  where
    go : (sc : List ℕ) → IsBound sc k → among (name_text k) (names sc) ≡ true
    go [] b = absurd b
    go (g ∷ sc) (inl e) = ap (λ t. t || among (name_text k) (names sc)) ((bytes_eq-Decides (name_text k) (name_text g)).1 (ap name_text e))
    go (g ∷ sc) (inr b) = ap (λ t. bytes_eq (name_text k) (name_text g) || t) (go sc b) ∙ or_true (bytes_eq (name_text k) (name_text g))
      where
        or_true : (t : Bool) → (t || true) ≡ true
        or_true true = refl
        or_true false = refl

-- labels that rise differ
not_less : (r : Ordering) → r ≡ ordering_reverse r → r ≡ Less → ⊥
not_less Less e h = absurd (cc)
not_less Equal e h = absurd (cc)
not_less Greater e h = absurd (cc)

before_differs : (s l : Label) → label_cmp s l ≡ Less → bytes_eq l s ≡ false
before_differs s l h = go (bytes_eq l s) refl
  where
    go : (t : Bool) → bytes_eq l s ≡ t → t ≡ false
    go false e = refl
    go true e =
        let same : l ≡ s = (bytes_eq-Decides l s).0 e in
        absurd (not_less (label_cmp s s) (nat_list_cmp_total.antisymm s s) (ap (label_cmp s) (sym same) ∙ h))

abbrev AllBefore : List Label → List Label → Type 0
AllBefore seen ls = Each (λ s. Each (λ m. label_cmp s m ≡ Less) ls) seen

pub rising_apart : (ls seen : List Label) → AllBefore seen ls → AreRising ls → Apart seen ls
rising_apart [] seen b r = tt
rising_apart (l ∷ ls) seen b r = (differs seen b, rising_apart ls (l ∷ seen) (r.0, later seen b) r.1)
  where
    differs : (seen : List Label) → AllBefore seen (l ∷ ls) → among l seen ≡ false
    differs [] b = refl
    differs (s ∷ ss) b = ap (λ t. t || among l ss) (before_differs s l b.0.0) ∙ differs ss b.1

    later : (seen : List Label) → AllBefore seen (l ∷ ls) → AllBefore seen ls
    later [] b = tt
    later (s ∷ ss) b = (b.0.1, later ss b.1)

-- fields that rise stand in order
abbrev pub field_list : FieldTypes → List (Label × TypeTree)
field_list FieldTypes.none = []
field_list (FieldTypes.field l a fs) = (l, a) ∷ field_list fs

pub listed_fields : (fs : FieldTypes) → field_types_of (field_list fs) ≡ fs
listed_fields FieldTypes.none = refl
listed_fields (FieldTypes.field l a fs) = ap (FieldTypes.field l a) (listed_fields fs)

pub rising_sorted : (fs : FieldTypes) → AreRising (labels_of fs) → by_label (field_list fs) ≡ field_list fs
rising_sorted FieldTypes.none r = refl
rising_sorted (FieldTypes.field l a fs) r =
    ap (put_by (λ f g. label_cmp f.0 g.0) (l, a)) (rising_sorted fs r.1) ∙ first fs r.0
  where
    first : (fs : FieldTypes) → Each (λ m. label_cmp l m ≡ Less) (labels_of fs) → put_by (λ f g. label_cmp f.0 g.0) (l, a) (field_list fs) ≡ (l, a) ∷ field_list fs
    first FieldTypes.none b = refl
    first (FieldTypes.field m c gs) b =
        ap (λ o. cond (is_gt o) ((m, c) ∷ put_by (λ f g. label_cmp f.0 g.0) (l, a) (field_list gs)) ((l, a) ∷ (m, c) ∷ field_list gs)) b.0
