-- Contracting, from the leaves up, any of the nodes that are contractible or become so on the way.
--
-- Such a superdevelopment is after Aczel, "A General Church-Rosser Theorem", 1978, and van Raamsdonk, "Confluence and
-- superdevelopments", RTA 1993.
use Rattle.std.proofs.Common.{◌≡◌, ℕ, ℤ, nat_lt, nat_eq, bytes_eq, cond, Bool, true, false, ◌+◌, ◌-◌, List, Option, Some, refl, sym, ap, ◌∙◌, subst as along, arith}
use Rattle.std.specs.Prelude.{option_map}
use Rattle.nq_model.specs.Types.{TypeTree}
use Rattle.nq_model.specs.declared.term.Unary.{Unary}
use Rattle.nq_model.specs.declared.term.Binary.{Binary}
use Rattle.nq_model.specs.Terms.{PlacedTerm, PlacedNode, PlacedFields, at, Aggregate}
use Rattle.nq_model.specs.Substitution.{shift, shift_fields, subst, subst_fields}
use Rattle.nq_model.specs.Unfolding.{picked, contract_apply, contract_field}
use Rattle.unfold.proofs.Shifts.{shift_subst, subst_subst}

mutual
  pub data Develops : PlacedTerm → PlacedTerm → Type 0 where
    var : {p : ℕ} {k : ℕ} → Develops (at p (PlacedNode.var k)) (at p (PlacedNode.var k))
    int : {p : ℕ} {i : ℤ} → Develops (at p (PlacedNode.int i)) (at p (PlacedNode.int i))
    bool : {p : ℕ} {b : Bool} → Develops (at p (PlacedNode.bool b)) (at p (PlacedNode.bool b))
    text : {p : ℕ} {x : List ℕ} → Develops (at p (PlacedNode.text x)) (at p (PlacedNode.text x))
    table : {p : ℕ} {l : List ℕ} → Develops (at p (PlacedNode.table l)) (at p (PlacedNode.table l))
    unary : {p : ℕ} {op : Unary} {t x : PlacedTerm} → Develops t x → Develops (at p (PlacedNode.unary op t)) (at p (PlacedNode.unary op x))
    binary : {p : ℕ} {op : Binary} {t u x y : PlacedTerm} → Develops t x → Develops u y → Develops (at p (PlacedNode.binary op t u)) (at p (PlacedNode.binary op x y))
    choose : {p : ℕ} {t u v x y z : PlacedTerm} → Develops t x → Develops u y → Develops v z → Develops (at p (PlacedNode.choose t u v)) (at p (PlacedNode.choose x y z))
    fun : {p : ℕ} {a : TypeTree} {t x : PlacedTerm} → Develops t x → Develops (at p (PlacedNode.fun a t)) (at p (PlacedNode.fun a x))
    apply : {p : ℕ} {t u x y : PlacedTerm} → Develops t x → Develops u y → Develops (at p (PlacedNode.apply t u)) (at p (PlacedNode.apply x y))
    rec : {p : ℕ} {fs gs : PlacedFields} → FieldsDevelop fs gs → Develops (at p (PlacedNode.rec fs)) (at p (PlacedNode.rec gs))
    field : {p : ℕ} {l : List ℕ} {t x : PlacedTerm} → Develops t x → Develops (at p (PlacedNode.field t l)) (at p (PlacedNode.field x l))
    aggregate : {p : ℕ} {g : Aggregate} {t x : PlacedTerm} → Develops t x → Develops (at p (PlacedNode.aggregate g t)) (at p (PlacedNode.aggregate g x))
    single : {p : ℕ} {t x : PlacedTerm} → Develops t x → Develops (at p (PlacedNode.single t)) (at p (PlacedNode.single x))
    nil : {p : ℕ} {a : TypeTree} → Develops (at p (PlacedNode.nil a)) (at p (PlacedNode.nil a))
    union : {p : ℕ} {t u x y : PlacedTerm} → Develops t x → Develops u y → Develops (at p (PlacedNode.union t u)) (at p (PlacedNode.union x y))
    for : {p : ℕ} {t u x y : PlacedTerm} → Develops t x → Develops u y → Develops (at p (PlacedNode.for t u)) (at p (PlacedNode.for x y))
    guard : {p : ℕ} {t u x y : PlacedTerm} → Develops t x → Develops u y → Develops (at p (PlacedNode.guard t u)) (at p (PlacedNode.guard x y))
    bind : {p : ℕ} {t u x y : PlacedTerm} → Develops t x → Develops u y → Develops (at p (PlacedNode.bind t u)) (at p (PlacedNode.bind x y))
    apply_contracts : {p : ℕ} {t u x y r : PlacedTerm} → Develops t x → Develops u y → contract_apply p x y ≡ Some r → Develops (at p (PlacedNode.apply t u)) r
    field_contracts : {p : ℕ} {l : List ℕ} {t x r : PlacedTerm} → Develops t x → contract_field p x l ≡ Some r → Develops (at p (PlacedNode.field t l)) r
    bind_contracts : {p : ℕ} {t u x y : PlacedTerm} → Develops t x → Develops u y → Develops (at p (PlacedNode.bind t u)) (subst 0 x y)

  pub data FieldsDevelop : PlacedFields → PlacedFields → Type 0 where
    none : FieldsDevelop PlacedFields.none PlacedFields.none
    with_field : {l : List ℕ} {t x : PlacedTerm} {fs gs : PlacedFields} → Develops t x → FieldsDevelop fs gs → FieldsDevelop (PlacedFields.with_field l t fs) (PlacedFields.with_field l x gs)

-- no node contracted
mutual
  pub develops_same : (t : PlacedTerm) → Develops t t
  develops_same (at p (PlacedNode.var k)) = Develops.var
  develops_same (at p (PlacedNode.int i)) = Develops.int
  develops_same (at p (PlacedNode.bool b)) = Develops.bool
  develops_same (at p (PlacedNode.text x)) = Develops.text
  develops_same (at p (PlacedNode.table l)) = Develops.table
  develops_same (at p (PlacedNode.unary op t)) = Develops.unary (develops_same t)
  develops_same (at p (PlacedNode.binary op t u)) = Develops.binary (develops_same t) (develops_same u)
  develops_same (at p (PlacedNode.choose t u v)) = Develops.choose (develops_same t) (develops_same u) (develops_same v)
  develops_same (at p (PlacedNode.fun a t)) = Develops.fun (develops_same t)
  develops_same (at p (PlacedNode.apply t u)) = Develops.apply (develops_same t) (develops_same u)
  develops_same (at p (PlacedNode.rec fs)) = Develops.rec (fields_same fs)
  develops_same (at p (PlacedNode.field t l)) = Develops.field (develops_same t)
  develops_same (at p (PlacedNode.aggregate g t)) = Develops.aggregate (develops_same t)
  develops_same (at p (PlacedNode.single t)) = Develops.single (develops_same t)
  develops_same (at p (PlacedNode.nil a)) = Develops.nil
  develops_same (at p (PlacedNode.union t u)) = Develops.union (develops_same t) (develops_same u)
  develops_same (at p (PlacedNode.for t u)) = Develops.for (develops_same t) (develops_same u)
  develops_same (at p (PlacedNode.guard t u)) = Develops.guard (develops_same t) (develops_same u)
  develops_same (at p (PlacedNode.bind t u)) = Develops.bind (develops_same t) (develops_same u)

  pub fields_same : (fs : PlacedFields) → FieldsDevelop fs fs
  fields_same PlacedFields.none = FieldsDevelop.none
  fields_same (PlacedFields.with_field l t fs) = FieldsDevelop.with_field (develops_same t) (fields_same fs)

-- contracting and shifting
picked_by : (f : PlacedTerm → PlacedTerm) (b : Bool) (t : PlacedTerm) (o q : Option PlacedTerm) → q ≡ option_map f o → cond b (Some (f t)) q ≡ option_map f (cond b (Some t) o)
picked_by f true t o q e = refl
picked_by f false t o q e = e

shift_picked : (d c : ℕ) (l : List ℕ) (fs : PlacedFields) → picked l (shift_fields d c fs) ≡ option_map (shift d c) (picked l fs)
shift_picked d c l PlacedFields.none = refl
shift_picked d c l (PlacedFields.with_field m t fs) = picked_by (shift d c) (bytes_eq l m) t (picked l fs) (picked l (shift_fields d c fs)) (shift_picked d c l fs)

shift_contract_apply : (d c p : ℕ) (f a r : PlacedTerm) → contract_apply p f a ≡ Some r → contract_apply p (shift d c f) (shift d c a) ≡ Some (shift d c r)
shift_contract_apply d c p (at q (PlacedNode.fun k t)) a r e =
    let w : subst 0 a t ≡ r = cc in
    ap Some (sym (shift_subst d c 0 c (omega arith) a t) ∙ ap (shift d c) w)
shift_contract_apply d c p (at q (PlacedNode.choose x f g)) a r e = ap (option_map (shift d c)) e
shift_contract_apply d c p _ a r e = cc

shift_contract_field : (d c p : ℕ) (t : PlacedTerm) (l : List ℕ) (r : PlacedTerm) → contract_field p t l ≡ Some r → contract_field p (shift d c t) l ≡ Some (shift d c r)
shift_contract_field d c p (at q (PlacedNode.rec fs)) l r e = shift_picked d c l fs ∙ ap (option_map (shift d c)) e
shift_contract_field d c p (at q (PlacedNode.choose x t u)) l r e = ap (option_map (shift d c)) e
shift_contract_field d c p _ l r e = cc

mutual
  pub develops_shift : (d c : ℕ) {t u : PlacedTerm} → Develops t u → Develops (shift d c t) (shift d c u)
  develops_shift d c Develops.var = Develops.var
  develops_shift d c Develops.int = Develops.int
  develops_shift d c Develops.bool = Develops.bool
  develops_shift d c Develops.text = Develops.text
  develops_shift d c Develops.table = Develops.table
  develops_shift d c (Develops.unary h) = Develops.unary (develops_shift d c h)
  develops_shift d c (Develops.binary h k) = Develops.binary (develops_shift d c h) (develops_shift d c k)
  develops_shift d c (Develops.choose h k g) = Develops.choose (develops_shift d c h) (develops_shift d c k) (develops_shift d c g)
  develops_shift d c (Develops.fun h) = Develops.fun (develops_shift d (c + 1) h)
  develops_shift d c (Develops.apply h k) = Develops.apply (develops_shift d c h) (develops_shift d c k)
  develops_shift d c (Develops.rec h) = Develops.rec (fields_shift d c h)
  develops_shift d c (Develops.field h) = Develops.field (develops_shift d c h)
  develops_shift d c (Develops.aggregate h) = Develops.aggregate (develops_shift d c h)
  develops_shift d c (Develops.single h) = Develops.single (develops_shift d c h)
  develops_shift d c Develops.nil = Develops.nil
  develops_shift d c (Develops.union h k) = Develops.union (develops_shift d c h) (develops_shift d c k)
  develops_shift d c (Develops.for h k) = Develops.for (develops_shift d c h) (develops_shift d (c + 1) k)
  develops_shift d c (Develops.guard h k) = Develops.guard (develops_shift d c h) (develops_shift d c k)
  develops_shift d c (Develops.bind h k) = Develops.bind (develops_shift d c h) (develops_shift d (c + 1) k)
  develops_shift d c (Develops.apply_contracts {p = p} {x = x} {y = y} {r = r} h k e) = Develops.apply_contracts (develops_shift d c h) (develops_shift d c k) (shift_contract_apply d c p x y r e)
  develops_shift d c (Develops.field_contracts {p = p} {l = l} {x = x} {r = r} h e) = Develops.field_contracts (develops_shift d c h) (shift_contract_field d c p x l r e)
  develops_shift d c (Develops.bind_contracts {p = p} {t = t} {u = u} {x = x} {y = y} h k) =
      along (Develops (shift d c (at p (PlacedNode.bind t u)))) (sym (shift_subst d c 0 c (omega arith) x y)) (Develops.bind_contracts (develops_shift d c h) (develops_shift d (c + 1) k))

  pub fields_shift : (d c : ℕ) {fs gs : PlacedFields} → FieldsDevelop fs gs → FieldsDevelop (shift_fields d c fs) (shift_fields d c gs)
  fields_shift d c FieldsDevelop.none = FieldsDevelop.none
  fields_shift d c (FieldsDevelop.with_field h k) = FieldsDevelop.with_field (develops_shift d c h) (fields_shift d c k)

-- contracting and substituting
subst_picked : (c : ℕ) (s : PlacedTerm) (l : List ℕ) (fs : PlacedFields) → picked l (subst_fields c s fs) ≡ option_map (subst c s) (picked l fs)
subst_picked c s l PlacedFields.none = refl
subst_picked c s l (PlacedFields.with_field m t fs) = picked_by (subst c s) (bytes_eq l m) t (picked l fs) (picked l (subst_fields c s fs)) (subst_picked c s l fs)

subst_contract_apply : (c : ℕ) (s : PlacedTerm) (p : ℕ) (f a r : PlacedTerm) → contract_apply p f a ≡ Some r → contract_apply p (subst c s f) (subst c s a) ≡ Some (subst c s r)
subst_contract_apply c s p (at q (PlacedNode.fun k t)) a r e =
    let w : subst 0 a t ≡ r = cc in
    ap Some (sym (subst_subst c 0 c (omega arith) s a t) ∙ ap (subst c s) w)
subst_contract_apply c s p (at q (PlacedNode.choose x f g)) a r e = ap (option_map (subst c s)) e
subst_contract_apply c s p _ a r e = cc

subst_contract_field : (c : ℕ) (s : PlacedTerm) (p : ℕ) (t : PlacedTerm) (l : List ℕ) (r : PlacedTerm) → contract_field p t l ≡ Some r → contract_field p (subst c s t) l ≡ Some (subst c s r)
subst_contract_field c s p (at q (PlacedNode.rec fs)) l r e = subst_picked c s l fs ∙ ap (option_map (subst c s)) e
subst_contract_field c s p (at q (PlacedNode.choose x t u)) l r e = ap (option_map (subst c s)) e
subst_contract_field c s p _ l r e = cc

develops_put_by : (c : ℕ) {s r : PlacedTerm} → Develops s r → (p i : ℕ) (a b : Bool) → Develops (cond a (at p (PlacedNode.var i)) (cond b (shift c 0 s) (at p (PlacedNode.var (i - 1))))) (cond a (at p (PlacedNode.var i)) (cond b (shift c 0 r) (at p (PlacedNode.var (i - 1)))))
develops_put_by c h p i true b = Develops.var
develops_put_by c h p i false true = develops_shift c 0 h
develops_put_by c h p i false false = Develops.var

module _ {s r : PlacedTerm} (m : Develops s r) where
  mutual
    pub develops_subst : (c : ℕ) {t u : PlacedTerm} → Develops t u → Develops (subst c s t) (subst c r u)
    develops_subst c (Develops.var {p = p} {k = k}) = develops_put_by c m p k (nat_lt k c) (nat_eq k c)
    develops_subst c Develops.int = Develops.int
    develops_subst c Develops.bool = Develops.bool
    develops_subst c Develops.text = Develops.text
    develops_subst c Develops.table = Develops.table
    develops_subst c (Develops.unary h) = Develops.unary (develops_subst c h)
    develops_subst c (Develops.binary h k) = Develops.binary (develops_subst c h) (develops_subst c k)
    develops_subst c (Develops.choose h k g) = Develops.choose (develops_subst c h) (develops_subst c k) (develops_subst c g)
    develops_subst c (Develops.fun h) = Develops.fun (develops_subst (c + 1) h)
    develops_subst c (Develops.apply h k) = Develops.apply (develops_subst c h) (develops_subst c k)
    develops_subst c (Develops.rec h) = Develops.rec (fields_subst c h)
    develops_subst c (Develops.field h) = Develops.field (develops_subst c h)
    develops_subst c (Develops.aggregate h) = Develops.aggregate (develops_subst c h)
    develops_subst c (Develops.single h) = Develops.single (develops_subst c h)
    develops_subst c Develops.nil = Develops.nil
    develops_subst c (Develops.union h k) = Develops.union (develops_subst c h) (develops_subst c k)
    develops_subst c (Develops.for h k) = Develops.for (develops_subst c h) (develops_subst (c + 1) k)
    develops_subst c (Develops.guard h k) = Develops.guard (develops_subst c h) (develops_subst c k)
    develops_subst c (Develops.bind h k) = Develops.bind (develops_subst c h) (develops_subst (c + 1) k)
    develops_subst c (Develops.apply_contracts {p = p} {x = x} {y = y} {r = v} h k e) = Develops.apply_contracts (develops_subst c h) (develops_subst c k) (subst_contract_apply c r p x y v e)
    develops_subst c (Develops.field_contracts {p = p} {l = l} {x = x} {r = v} h e) = Develops.field_contracts (develops_subst c h) (subst_contract_field c r p x l v e)
    develops_subst c (Develops.bind_contracts {p = p} {t = t} {u = u} {x = x} {y = y} h k) =
        along (Develops (subst c s (at p (PlacedNode.bind t u)))) (sym (subst_subst c 0 c (omega arith) r x y)) (Develops.bind_contracts (develops_subst c h) (develops_subst (c + 1) k))

    pub fields_subst : (c : ℕ) {fs gs : PlacedFields} → FieldsDevelop fs gs → FieldsDevelop (subst_fields c s fs) (subst_fields c r gs)
    fields_subst c FieldsDevelop.none = FieldsDevelop.none
    fields_subst c (FieldsDevelop.with_field h k) = FieldsDevelop.with_field (develops_subst c h) (fields_subst c k)

-- what a contractible node becomes where its parts develop
pub apply_develops : (p : ℕ) {f g a b r : PlacedTerm} → Develops f g → Develops a b → contract_apply p f a ≡ Some r → (w : PlacedTerm) × (contract_apply p g b ≡ Some w) × Develops r w
apply_develops p {a = a} {b = b} {r = r} (Develops.fun {t = t} {x = x} h) k e =
    let w : subst 0 a t ≡ r = cc in
    (subst 0 b x, refl, along (λ z. Develops z (subst 0 b x)) w (develops_subst k 0 h))
apply_develops p {a = a} {b = b} {r = r} (Develops.choose {t = t} {u = u} {v = v} {x = x} {y = y} {z = z} h g j) k e =
    let q : at p (PlacedNode.choose t (at p (PlacedNode.apply u a)) (at p (PlacedNode.apply v a))) ≡ r = cc in
    let w = at p (PlacedNode.choose x (at p (PlacedNode.apply y b)) (at p (PlacedNode.apply z b))) in
    (w, refl, along (λ s. Develops s w) q (Develops.choose h (Develops.apply g k) (Develops.apply j k)))
apply_develops p _ k e = cc

picked_develops_by : (b : Bool) {t x r : PlacedTerm} {o q : Option PlacedTerm} → Develops t x → (o ≡ Some r → (w : PlacedTerm) × (q ≡ Some w) × Develops r w) → cond b (Some t) o ≡ Some r → (w : PlacedTerm) × (cond b (Some x) q ≡ Some w) × Develops r w
picked_develops_by true {t = t} {x = x} {r = r} h f e =
    let w : t ≡ r = cc in
    (x, refl, along (λ z. Develops z x) w h)
picked_develops_by false h f e = f e

picked_develops : (l : List ℕ) {fs gs : PlacedFields} {r : PlacedTerm} → FieldsDevelop fs gs → picked l fs ≡ Some r → (w : PlacedTerm) × (picked l gs ≡ Some w) × Develops r w
picked_develops l FieldsDevelop.none e = cc
picked_develops l (FieldsDevelop.with_field {l = m} h k) e = picked_develops_by (bytes_eq l m) h (picked_develops l k) e

pub field_develops : (p : ℕ) (l : List ℕ) {t u r : PlacedTerm} → Develops t u → contract_field p t l ≡ Some r → (w : PlacedTerm) × (contract_field p u l ≡ Some w) × Develops r w
field_develops p l (Develops.rec h) e = picked_develops l h e
field_develops p l {r = r} (Develops.choose {t = t} {u = u} {v = v} {x = x} {y = y} {z = z} h g j) e =
    let q : at p (PlacedNode.choose t (at p (PlacedNode.field u l)) (at p (PlacedNode.field v l))) ≡ r = cc in
    let w = at p (PlacedNode.choose x (at p (PlacedNode.field y l)) (at p (PlacedNode.field z l))) in
    (w, refl, along (λ s. Develops s w) q (Develops.choose h (Develops.field g) (Develops.field j)))
field_develops p l _ e = cc
