-- Values of a type have JSON forms without a faulty node, and different values have different forms.
use Rattle.std.proofs.Common.{◌≡◌, ◌≢◌, ◌<◌, ℕ, ℤ, pos, negsuc, ◌+◌, true, List, [], ◌∷◌, Some, refl, sym, ap, ◌∙◌, subst, arith, FitsSigned}
use Rattle.std.specs.Int.{w64}
use Rattle.std.specs.Cmp.Lexicographic.{pointwise_decides, bytes_decides}
use Rattle.std.proofs.lemmas.Bool.{lt-ltb}
use Rattle.nq_model.specs.Orders.{AreRising}
use Rattle.nq_model.specs.Proper.{labels_of, IsOrdered, AreOrdered}
use Rattle.nq_model.specs.Types.{TypeTree, FieldTypes}
use Rattle.nq_model.specs.Values.{Nested, base, rec, bag, Fields, Elements}
use Rattle.nq_model.specs.ValueTypes.{IsOfType, FieldsAreOfTypes, ElementsAreOfType}
use Rattle.nq_model.specs.declared.table.Cell.TheVariants as cell
use Rattle.serde_json.specs.Data.{Data}
use Rattle.serde_json.specs.Find.{as_i64, of_integer}
use Rattle.nq_json.specs.Json.{json, members_json, items_json}
use Rattle.nq_json.specs.declared.shape.JsonFault.{JsonFault}
use Rattle.nq_json.specs.declared.shape.JsonFault.TheVariants as fault
use Rattle.nq_json.specs.Shapes.{IsValueOf, FaultSays, nodes, faults, fields_faults, items_faults, has_labels, keys_of}
use Rattle.nq_json.specs.Reading.{members_in_order}
use Rattle.nq_json.proofs.Orders.{in_order}

integer_back : (n : ℤ) → FitsSigned w64 n → as_i64 (of_integer n) ≡ Some n
integer_back (pos n) fits =
    let below : n < 9223372036854775808 = omega arith in
    rw (lt-ltb n 9223372036854775808 below) refl
integer_back (negsuc n) fits = refl

-- the keys of the form of a record are the labels of its type
keys_are : (fs : FieldTypes) (gs : Fields) → FieldsAreOfTypes fs gs → keys_of (members_in_order gs) ≡ labels_of fs
keys_are FieldTypes.none Fields.none typed = refl
keys_are FieldTypes.none (Fields.field m v gs) typed = absurd typed
keys_are (FieldTypes.field l t fs) Fields.none typed = absurd typed
keys_are (FieldTypes.field l t fs) (Fields.field m v gs) (same, one, typed) = rw (same, keys_are fs gs typed) refl

labelled : (fs : FieldTypes) (gs : Fields) → FieldsAreOfTypes fs gs → has_labels fs (members_in_order gs) ≡ true
labelled fs gs typed = (pointwise_decides bytes_decides (keys_of (members_in_order gs)) (labels_of fs)).1 (keys_are fs gs typed)

-- the form of a record has its members in the order of its fields
members_are : (fs : FieldTypes) (gs : Fields) → AreRising (labels_of fs) → FieldsAreOfTypes fs gs → members_json gs ≡ members_in_order gs
members_are fs gs rising typed = in_order gs (subst AreRising (sym (keys_are fs gs typed)) rising)

mutual
  pub faultless : (a : TypeTree) (n : ℕ) (v : Nested) → IsOrdered a → IsOfType a v → faults a n (json v) ≡ []
  faultless TypeTree.int n (base (cell.Int z)) ordered typed = rw (integer_back z typed) refl
  faultless TypeTree.int n (base (cell.Bool b)) ordered typed = absurd typed
  faultless TypeTree.int n (base (cell.Text t)) ordered typed = absurd typed
  faultless TypeTree.int n (rec gs) ordered typed = absurd typed
  faultless TypeTree.int n (bag vs) ordered typed = absurd typed
  faultless TypeTree.bool n (base (cell.Int z)) ordered typed = absurd typed
  faultless TypeTree.bool n (base (cell.Bool b)) ordered typed = refl
  faultless TypeTree.bool n (base (cell.Text t)) ordered typed = absurd typed
  faultless TypeTree.bool n (rec gs) ordered typed = absurd typed
  faultless TypeTree.bool n (bag vs) ordered typed = absurd typed
  faultless TypeTree.text n (base (cell.Int z)) ordered typed = absurd typed
  faultless TypeTree.text n (base (cell.Bool b)) ordered typed = absurd typed
  faultless TypeTree.text n (base (cell.Text t)) ordered typed = refl
  faultless TypeTree.text n (rec gs) ordered typed = absurd typed
  faultless TypeTree.text n (bag vs) ordered typed = absurd typed
  faultless (TypeTree.rec fs) n (base c) ordered typed = absurd typed
  faultless (TypeTree.rec fs) n (rec gs) ordered typed =
      rw (members_are fs gs ordered.0 typed, labelled fs gs typed) (faultless_fields fs (n + 1) gs ordered.1 typed)
  faultless (TypeTree.rec fs) n (bag vs) ordered typed = absurd typed
  faultless (TypeTree.bag a) n (base c) ordered typed = absurd typed
  faultless (TypeTree.bag a) n (rec gs) ordered typed = absurd typed
  faultless (TypeTree.bag a) n (bag vs) ordered typed = faultless_items a (n + 1) vs ordered typed
  faultless (TypeTree.fun a b) n (base c) ordered typed = absurd typed
  faultless (TypeTree.fun a b) n (rec gs) ordered typed = absurd typed
  faultless (TypeTree.fun a b) n (bag vs) ordered typed = absurd typed

  faultless_fields : (fs : FieldTypes) (n : ℕ) (gs : Fields) → AreOrdered fs → FieldsAreOfTypes fs gs → fields_faults fs n (members_in_order gs) ≡ []
  faultless_fields FieldTypes.none n gs ordered typed = refl
  faultless_fields (FieldTypes.field l a fs) n Fields.none ordered typed = absurd typed
  faultless_fields (FieldTypes.field l a fs) n (Fields.field m v gs) ordered (same, one, typed) =
      rw (faultless a n v ordered.0 one) (faultless_fields fs (n + nodes (json v)) gs ordered.1 typed)

  faultless_items : (a : TypeTree) (n : ℕ) (vs : Elements) → IsOrdered a → ElementsAreOfType a vs → items_faults (faults a) n (items_json vs) ≡ []
  faultless_items a n Elements.end ordered typed = refl
  faultless_items a n (Elements.more v vs) ordered (one, typed) =
      rw (faultless a n v ordered one) (faultless_items a (n + nodes (json v)) vs ordered typed)

integer_apart : (m n : ℤ) → of_integer m ≡ of_integer n → m ≡ n
integer_apart (pos m) (pos n) e = cc
integer_apart (pos m) (negsuc n) e = cc
integer_apart (negsuc m) (pos n) e = cc
integer_apart (negsuc m) (negsuc n) e = cc

mutual
  pub apart : (a : TypeTree) (v u : Nested) → IsOrdered a → IsOfType a v → IsOfType a u → json v ≡ json u → v ≡ u
  apart a (base (cell.Int m)) (base (cell.Int n)) ordered v_typed u_typed e =
      let same : of_integer m ≡ of_integer n = cc in
      ap (λ z. base (cell.Int z)) (integer_apart m n same)
  apart a (base (cell.Int m)) (base (cell.Bool b)) ordered v_typed u_typed e = cc
  apart a (base (cell.Int m)) (base (cell.Text t)) ordered v_typed u_typed e = cc
  apart a (base (cell.Int m)) (rec gs) ordered v_typed u_typed e = cc
  apart a (base (cell.Int m)) (bag us) ordered v_typed u_typed e = cc
  apart a (base (cell.Bool b)) (base (cell.Int n)) ordered v_typed u_typed e = cc
  apart a (base (cell.Bool b)) (base (cell.Bool c)) ordered v_typed u_typed e = cc
  apart a (base (cell.Bool b)) (base (cell.Text t)) ordered v_typed u_typed e = cc
  apart a (base (cell.Bool b)) (rec gs) ordered v_typed u_typed e = cc
  apart a (base (cell.Bool b)) (bag us) ordered v_typed u_typed e = cc
  apart a (base (cell.Text t)) (base (cell.Int n)) ordered v_typed u_typed e = cc
  apart a (base (cell.Text t)) (base (cell.Bool b)) ordered v_typed u_typed e = cc
  apart a (base (cell.Text t)) (base (cell.Text s)) ordered v_typed u_typed e = cc
  apart a (base (cell.Text t)) (rec gs) ordered v_typed u_typed e = cc
  apart a (base (cell.Text t)) (bag us) ordered v_typed u_typed e = cc
  apart a (rec fs) (base (cell.Int n)) ordered v_typed u_typed e = cc
  apart a (rec fs) (base (cell.Bool b)) ordered v_typed u_typed e = cc
  apart a (rec fs) (base (cell.Text t)) ordered v_typed u_typed e = cc
  apart TypeTree.int (rec fs) (rec gs) ordered v_typed u_typed e = absurd v_typed
  apart TypeTree.bool (rec fs) (rec gs) ordered v_typed u_typed e = absurd v_typed
  apart TypeTree.text (rec fs) (rec gs) ordered v_typed u_typed e = absurd v_typed
  apart (TypeTree.rec ts) (rec fs) (rec gs) ordered v_typed u_typed e =
      let whole : members_json fs ≡ members_json gs = cc in
      let same = sym (members_are ts fs ordered.0 v_typed) ∙ whole ∙ members_are ts gs ordered.0 u_typed in
      ap rec (apart_fields ts fs gs ordered.1 v_typed u_typed same)
  apart (TypeTree.bag t) (rec fs) (rec gs) ordered v_typed u_typed e = absurd v_typed
  apart (TypeTree.fun t u) (rec fs) (rec gs) ordered v_typed u_typed e = absurd v_typed
  apart a (rec fs) (bag us) ordered v_typed u_typed e = cc
  apart a (bag vs) (base (cell.Int n)) ordered v_typed u_typed e = cc
  apart a (bag vs) (base (cell.Bool b)) ordered v_typed u_typed e = cc
  apart a (bag vs) (base (cell.Text t)) ordered v_typed u_typed e = cc
  apart a (bag vs) (rec gs) ordered v_typed u_typed e = cc
  apart TypeTree.int (bag vs) (bag us) ordered v_typed u_typed e = absurd v_typed
  apart TypeTree.bool (bag vs) (bag us) ordered v_typed u_typed e = absurd v_typed
  apart TypeTree.text (bag vs) (bag us) ordered v_typed u_typed e = absurd v_typed
  apart (TypeTree.rec ts) (bag vs) (bag us) ordered v_typed u_typed e = absurd v_typed
  apart (TypeTree.bag t) (bag vs) (bag us) ordered v_typed u_typed e =
      let same : items_json vs ≡ items_json us = cc in
      ap bag (apart_items t vs us ordered v_typed u_typed same)
  apart (TypeTree.fun t u) (bag vs) (bag us) ordered v_typed u_typed e = absurd v_typed

  apart_fields : (ts : FieldTypes) (fs gs : Fields) → AreOrdered ts → FieldsAreOfTypes ts fs → FieldsAreOfTypes ts gs → members_in_order fs ≡ members_in_order gs → fs ≡ gs
  apart_fields FieldTypes.none Fields.none Fields.none ordered f_typed g_typed e = refl
  apart_fields FieldTypes.none Fields.none (Fields.field m u gs) ordered f_typed g_typed e = absurd g_typed
  apart_fields FieldTypes.none (Fields.field l v fs) gs ordered f_typed g_typed e = absurd f_typed
  apart_fields (FieldTypes.field k t ts) Fields.none gs ordered f_typed g_typed e = absurd f_typed
  apart_fields (FieldTypes.field k t ts) (Fields.field l v fs) Fields.none ordered f_typed g_typed e = absurd g_typed
  apart_fields (FieldTypes.field k t ts) (Fields.field l v fs) (Fields.field m u gs) ordered (f_same, f_one, f_typed) (g_same, g_one, g_typed) e =
      let label : l ≡ m = cc in
      let form : json v ≡ json u = cc in
      let rest : members_in_order fs ≡ members_in_order gs = cc in
      let value = apart t v u ordered.0 f_one g_one form in
      let later = apart_fields ts fs gs ordered.1 f_typed g_typed rest in
      rw (label, value, later) refl

  apart_items : (t : TypeTree) (vs us : Elements) → IsOrdered t → ElementsAreOfType t vs → ElementsAreOfType t us → items_json vs ≡ items_json us → vs ≡ us
  apart_items t Elements.end Elements.end ordered v_typed u_typed e = refl
  apart_items t Elements.end (Elements.more u us) ordered v_typed u_typed e = cc
  apart_items t (Elements.more v vs) Elements.end ordered v_typed u_typed e = cc
  apart_items t (Elements.more v vs) (Elements.more u us) ordered (v_one, v_typed) (u_one, u_typed) e =
      let form : json v ≡ json u = cc in
      let rest : items_json vs ≡ items_json us = cc in
      let value = apart t v u ordered v_one u_one form in
      let later = apart_items t vs us ordered v_typed u_typed rest in
      rw (value, later) refl

-- a value whose form has a faulty node is of no value of the type
pub none_where : (a : TypeTree) (n : ℕ) (d : Data) (more : List ℕ) (k : ℕ) → faults a n d ≡ k ∷ more → IsOrdered a → (v : Nested) → IsValueOf a d v → ⊥
none_where a n d more k faulty ordered v is =
    let none = faultless a n v ordered is.typed in
    let contradiction : k ∷ more ≡ [] = sym faulty ∙ ap (faults a n) (sym is.form) ∙ none in
    cc

pub none_said : (a : TypeTree) (n : ℕ) (d : Data) (e : JsonFault) → FaultSays (faults a n d) e → e ≢ fault.Memory → IsOrdered a → (v : Nested) → IsValueOf a d v → ⊥
none_said a n d fault.Memory says other = absurd (other refl)
none_said a n d (fault.Shape k) (more, faulty) other = none_where a n d more k faulty

-- a form is that of one value
pub only_value : (a : TypeTree) (d : Data) (v u : Nested) → IsOrdered a → IsValueOf a d v → IsValueOf a d u → v ≡ u
only_value a d v u ordered first second = apart a v u ordered first.typed second.typed (first.form ∙ sym second.form)
