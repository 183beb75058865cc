-- Bodies that have a type have its shape.
use Rattle.std.proofs.Common.{◌≡◌, List, ◌++◌}
use Rattle.nq_ir.specs.Trees.{Bodies, BodyTree, Comps, bag_body, comp, no_body, no_comp, plain_body, rec_body, with_body}
use Rattle.nq_ir.specs.WellFormed.{BodiesHave, BodyHas, CompsHave}
use Rattle.nq_ir.specs.declared.base.Gen.{Gen}
use Rattle.nq_model.specs.Types.{FieldTypes, TypeTree, bag, bool, field, fun, int, none, rec, text}
use Rattle.nq_model.specs.declared.table.TableShape.{TableShape}

-- a body has the shape of an element type
abbrev mutual
  pub FitsBody : BodyTree → TypeTree → Type 0
  FitsBody (plain_body b) int = Unit {0}
  FitsBody (plain_body b) bool = Unit {0}
  FitsBody (plain_body b) text = Unit {0}
  FitsBody (plain_body b) (rec gs) = ⊥
  FitsBody (plain_body b) (bag A) = ⊥
  FitsBody (plain_body b) (fun A B) = ⊥
  FitsBody (rec_body fs) int = ⊥
  FitsBody (rec_body fs) bool = ⊥
  FitsBody (rec_body fs) text = ⊥
  FitsBody (rec_body fs) (rec gs) = FitsFields fs gs
  FitsBody (rec_body fs) (bag A) = ⊥
  FitsBody (rec_body fs) (fun A B) = ⊥
  FitsBody (bag_body ty cs) int = ⊥
  FitsBody (bag_body ty cs) bool = ⊥
  FitsBody (bag_body ty cs) text = ⊥
  FitsBody (bag_body ty cs) (rec gs) = ⊥
  FitsBody (bag_body ty cs) (bag A) = FitsComps cs A
  FitsBody (bag_body ty cs) (fun A B) = ⊥

  pub FitsFields : Bodies → FieldTypes → Type 0
  FitsFields no_body none = Unit {0}
  FitsFields no_body (field k A gs) = ⊥
  FitsFields (with_body l b fs) none = ⊥
  FitsFields (with_body l b fs) (field k A gs) = (l ≡ k) × FitsBody b A × FitsFields fs gs

  pub FitsComps : Comps → TypeTree → Type 0
  FitsComps no_comp A = Unit {0}
  FitsComps (comp t gens conds b cs) A = FitsBody b A × FitsComps cs A

-- types give shapes
mutual
  pub typed_fits : (S : (List TableShape)) (sc : List Gen) (b : BodyTree) (A : TypeTree) → BodyHas S sc b A → FitsBody b A
  typed_fits S sc (plain_body b) int h = tt
  typed_fits S sc (plain_body b) bool h = tt
  typed_fits S sc (plain_body b) text h = tt
  typed_fits S sc (plain_body b) (rec gs) h = absurd h
  typed_fits S sc (plain_body b) (bag A) h = absurd h
  typed_fits S sc (plain_body b) (fun A B) h = absurd h
  typed_fits S sc (rec_body fs) int h = absurd h
  typed_fits S sc (rec_body fs) bool h = absurd h
  typed_fits S sc (rec_body fs) text h = absurd h
  typed_fits S sc (rec_body fs) (rec gs) h = typed_fields_fit S sc fs gs h
  typed_fits S sc (rec_body fs) (bag A) h = absurd h
  typed_fits S sc (rec_body fs) (fun A B) h = absurd h
  typed_fits S sc (bag_body ty cs) int h = absurd h
  typed_fits S sc (bag_body ty cs) bool h = absurd h
  typed_fits S sc (bag_body ty cs) text h = absurd h
  typed_fits S sc (bag_body ty cs) (rec gs) h = absurd h
  typed_fits S sc (bag_body ty cs) (bag A) h = typed_comps_fit S sc cs A h.1
  typed_fits S sc (bag_body ty cs) (fun A B) h = absurd h

  typed_fields_fit : (S : (List TableShape)) (sc : List Gen) (fs : Bodies) (gs : FieldTypes) → BodiesHave S sc fs gs → FitsFields fs gs
  typed_fields_fit S sc no_body none h = tt
  typed_fields_fit S sc no_body (field k A gs) h = absurd h
  typed_fields_fit S sc (with_body l b fs) none h = absurd h
  typed_fields_fit S sc (with_body l b fs) (field k A gs) h = (h.0, typed_fits S sc b A h.1, typed_fields_fit S sc fs gs h.2)

  pub typed_comps_fit : (S : (List TableShape)) (sc : List Gen) (cs : Comps) (A : TypeTree) → CompsHave S sc cs A → FitsComps cs A
  typed_comps_fit S sc no_comp A h = tt
  typed_comps_fit S sc (comp t gens conds b cs) A h = (typed_fits S (sc ++ gens) b A h.2, typed_comps_fit S sc cs A h.3)
