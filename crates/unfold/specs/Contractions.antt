-- Contracting nodes of a term in any order.
use Rattle.std.specs.Prelude.{◌≡◌, ℕ, List, Option, Some, None}
use Rattle.nq_model.specs.Types.{TypeTree}
use Rattle.nq_model.specs.declared.term.Unary.{Unary}
use Rattle.nq_model.specs.declared.term.Binary.{Binary}
use Rattle.nq_model.specs.Terms.{PlacedTerm, PlacedNode, PlacedFields, at, Aggregate}
use Rattle.nq_model.specs.Substitution.{subst}
use Rattle.nq_model.specs.Unfolding.{contract_apply, contract_field}

-- what a contractible node becomes
abbrev pub contracted : PlacedTerm → Option PlacedTerm
contracted (at p (PlacedNode.apply f a)) = contract_apply p f a
contracted (at p (PlacedNode.field t l)) = contract_field p t l
contracted (at p (PlacedNode.bind t u)) = Some (subst 0 t u)
contracted _ = None

-- u is t with one contractible node contracted, wherever it stands
mutual
  pub data Contracts : PlacedTerm → PlacedTerm → Type 0 where
    whole : {t u : PlacedTerm} → contracted t ≡ Some u → Contracts t u
    unary : {p : ℕ} {op : Unary} {t u : PlacedTerm} → Contracts t u → Contracts (at p (PlacedNode.unary op t)) (at p (PlacedNode.unary op u))
    binary_left : {p : ℕ} {op : Binary} {t u v : PlacedTerm} → Contracts t u → Contracts (at p (PlacedNode.binary op t v)) (at p (PlacedNode.binary op u v))
    binary_right : {p : ℕ} {op : Binary} {t u v : PlacedTerm} → Contracts t u → Contracts (at p (PlacedNode.binary op v t)) (at p (PlacedNode.binary op v u))
    choose_test : {p : ℕ} {t u v w : PlacedTerm} → Contracts t u → Contracts (at p (PlacedNode.choose t v w)) (at p (PlacedNode.choose u v w))
    choose_yes : {p : ℕ} {t u v w : PlacedTerm} → Contracts t u → Contracts (at p (PlacedNode.choose v t w)) (at p (PlacedNode.choose v u w))
    choose_no : {p : ℕ} {t u v w : PlacedTerm} → Contracts t u → Contracts (at p (PlacedNode.choose v w t)) (at p (PlacedNode.choose v w u))
    fun_body : {p : ℕ} {a : TypeTree} {t u : PlacedTerm} → Contracts t u → Contracts (at p (PlacedNode.fun a t)) (at p (PlacedNode.fun a u))
    apply_func : {p : ℕ} {t u v : PlacedTerm} → Contracts t u → Contracts (at p (PlacedNode.apply t v)) (at p (PlacedNode.apply u v))
    apply_arg : {p : ℕ} {t u v : PlacedTerm} → Contracts t u → Contracts (at p (PlacedNode.apply v t)) (at p (PlacedNode.apply v u))
    rec_field : {p : ℕ} {fs gs : PlacedFields} → ContractsField fs gs → Contracts (at p (PlacedNode.rec fs)) (at p (PlacedNode.rec gs))
    field_of : {p : ℕ} {l : List ℕ} {t u : PlacedTerm} → Contracts t u → Contracts (at p (PlacedNode.field t l)) (at p (PlacedNode.field u l))
    aggregate_of : {p : ℕ} {g : Aggregate} {t u : PlacedTerm} → Contracts t u → Contracts (at p (PlacedNode.aggregate g t)) (at p (PlacedNode.aggregate g u))
    single_of : {p : ℕ} {t u : PlacedTerm} → Contracts t u → Contracts (at p (PlacedNode.single t)) (at p (PlacedNode.single u))
    union_left : {p : ℕ} {t u v : PlacedTerm} → Contracts t u → Contracts (at p (PlacedNode.union t v)) (at p (PlacedNode.union u v))
    union_right : {p : ℕ} {t u v : PlacedTerm} → Contracts t u → Contracts (at p (PlacedNode.union v t)) (at p (PlacedNode.union v u))
    for_source : {p : ℕ} {t u v : PlacedTerm} → Contracts t u → Contracts (at p (PlacedNode.for t v)) (at p (PlacedNode.for u v))
    for_body : {p : ℕ} {t u v : PlacedTerm} → Contracts t u → Contracts (at p (PlacedNode.for v t)) (at p (PlacedNode.for v u))
    guard_test : {p : ℕ} {t u v : PlacedTerm} → Contracts t u → Contracts (at p (PlacedNode.guard t v)) (at p (PlacedNode.guard u v))
    guard_body : {p : ℕ} {t u v : PlacedTerm} → Contracts t u → Contracts (at p (PlacedNode.guard v t)) (at p (PlacedNode.guard v u))
    bind_value : {p : ℕ} {t u v : PlacedTerm} → Contracts t u → Contracts (at p (PlacedNode.bind t v)) (at p (PlacedNode.bind u v))
    bind_body : {p : ℕ} {t u v : PlacedTerm} → Contracts t u → Contracts (at p (PlacedNode.bind v t)) (at p (PlacedNode.bind v u))

  pub data ContractsField : PlacedFields → PlacedFields → Type 0 where
    first_field : {l : List ℕ} {t u : PlacedTerm} {fs : PlacedFields} → Contracts t u → ContractsField (PlacedFields.with_field l t fs) (PlacedFields.with_field l u fs)
    later_field : {l : List ℕ} {t : PlacedTerm} {fs gs : PlacedFields} → ContractsField fs gs → ContractsField (PlacedFields.with_field l t fs) (PlacedFields.with_field l t gs)

-- u comes from t by next, any number of times
pub data Closure {A : Type 0} (next : A → A → Type 0) : A → A → Type 0 where
  here : {t : A} → Closure next t t
  after : {t u v : A} → next t u → Closure next u v → Closure next t v

-- u comes from t by contracting nodes, one after another and in any order
abbrev pub Contractions : PlacedTerm → PlacedTerm → Type 0
Contractions t u = Closure Contracts t u
