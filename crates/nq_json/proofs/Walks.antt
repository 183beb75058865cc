-- Elements and fields, read one after the other.
use Rattle.std.proofs.Common.{◌≡◌, ℕ, ◌+◌, ◌<◌, ◌≤◌, ◌&&◌, true, false, List, [], ◌∷◌, ◌++◌, length, map, drop, get_or, refl, sym, ap, ap₂, ◌∙◌, subst, arith, append_assoc, append-nil, add-one, drop-cons, String, Global, Less, string_bytes, string_cmp}
use Rattle.std.specs.List.{AllByRecursion as Each}
use Rattle.std.specs.List.Sorted.{IsStrictlySortedBy}
use Rattle.std.specs.Str.{bytes_eq}
use Rattle.std.specs.Cmp.Lexicographic.{pointwise, bytes_decides}
use Rattle.std.proofs.lemmas.Bool.{and_parts}
use Rattle.std.proofs.lemmas.List.{drop_all}
use Rattle.nq_model.specs.Orders.{AreRising, label_cmp}
use Rattle.nq_model.specs.Proper.{labels_of}
use Rattle.nq_model.specs.Types.{TypeTree, FieldTypes, type_tree, field_types_of, fields_view}
use Rattle.nq_model.specs.Values.{Nested, elements_of, fields_of}
use Rattle.nq_model.specs.ValueTypes.{FieldsAreOfTypes, ElementsAreOfType}
use Rattle.nq_model.specs.declared.ty.Ty.{Ty}
use Rattle.serde_json.specs.Data.{Data, Items, no_items, item, Members, no_members, member}
use Rattle.serde_json.specs.View.{view, members_view}
use Rattle.serde_json.specs.declared.value.Value.{Value as Json}
use Rattle.nq_json.specs.Json.{items_json}
use Rattle.nq_json.specs.Shapes.{IsFirst, nodes, items_nodes, members_nodes, faults, items_faults, fields_faults, keys_of}
use Rattle.nq_json.specs.Reading.{Reads, ReadsItems, ReadsFields, members_in_order}

-- a fault that comes first, before others
first_before : (k : ℕ) (ns more : List ℕ) → IsFirst k ns → IsFirst k (ns ++ more)
first_before k ns more (later, is) = (later ++ more, ap (λ l. l ++ more) is)

-- elements were read up to the node of a number, and these are left
module _ (a : TypeTree) (from : ℕ) (all : Items) where
  pub record ItemsLeft (node : ℕ) (left : Items) (done : List Nested) : Type 0 where
    pub typed : (vs : List Nested) → ElementsAreOfType a (elements_of vs) → ElementsAreOfType a (elements_of (done ++ vs))
    pub form : (vs : List Nested) → items_json (elements_of vs) ≡ left → items_json (elements_of (done ++ vs)) ≡ all
    pub faulty : items_faults (faults a) from all ≡ items_faults (faults a) node left
    pub past : node + items_nodes left ≡ from + items_nodes all

  pub items_begin : ItemsLeft from all []
  items_begin = record { typed = λ vs typed. typed; form = λ vs form. form; faulty = refl; past = refl }

  pub items_more : (node after : ℕ) (d : Data) (left : Items) (done : List Nested) (v : Nested) → ItemsLeft node (item d left) done → Reads a node d after v → ItemsLeft after left (done ++ v ∷ [])
  items_more node after d left done v old read = record {
    typed = λ vs typed. subst (λ (l : List Nested). ElementsAreOfType a (elements_of l)) (sym (append_assoc done (v ∷ []) vs)) (old.typed (v ∷ vs) (read.value.typed, typed));
    form = λ vs form. ap (λ l. items_json (elements_of l)) (append_assoc done (v ∷ []) vs) ∙ old.form (v ∷ vs) (rw (read.value.form, form) refl);
    faulty = old.faulty ∙ rw (read.faultless, read.past) refl;
    past = omega (arith, old.past, read.past);
  }

  pub items_stop : (node k : ℕ) (d : Data) (left : Items) (done : List Nested) → ItemsLeft node (item d left) done → IsFirst k (faults a node d) → IsFirst k (items_faults (faults a) from all)
  items_stop node k d left done old first = subst (IsFirst k) (sym old.faulty) (first_before k (faults a node d) (items_faults (faults a) (node + nodes d) left) first)

  pub items_end : (node : ℕ) (done : List Nested) → ItemsLeft node no_items done → ReadsItems a from all node (elements_of done)
  items_end node done old =
      let nil = append-nil done in
      record {
        typed = subst (λ (l : List Nested). ElementsAreOfType a (elements_of l)) nil (old.typed [] tt);
        form = ap (λ l. items_json (elements_of l)) (sym nil) ∙ old.form [] refl;
        faultless = old.faulty;
        past = omega (arith, old.past);
      }

abbrev Field : Type 0
Field = List ℕ × Nested

-- fields were read up to the node of a number, and these types and members are left
module _ (fs : FieldTypes) (from : ℕ) (all : Members) where
  pub record FieldsLeft (node : ℕ) (types : FieldTypes) (left : Members) (done : List Field) : Type 0 where
    pub typed : (gs : List Field) → FieldsAreOfTypes types (fields_of gs) → FieldsAreOfTypes fs (fields_of (done ++ gs))
    pub form : (gs : List Field) → members_in_order (fields_of gs) ≡ left → members_in_order (fields_of (done ++ gs)) ≡ all
    pub faulty : fields_faults fs from all ≡ fields_faults types node left
    pub past : node + members_nodes left ≡ from + members_nodes all

  pub fields_begin : FieldsLeft from fs all []
  fields_begin = record { typed = λ gs typed. typed; form = λ gs form. form; faulty = refl; past = refl }

  pub fields_more : (node after : ℕ) (l : List ℕ) (a : TypeTree) (types : FieldTypes) (d : Data) (left : Members) (done : List Field) (v : Nested)
      → FieldsLeft node (FieldTypes.field l a types) (member l d left) done → Reads a node d after v → FieldsLeft after types left (done ++ (l, v) ∷ [])
  fields_more node after l a types d left done v old read = record {
    typed = λ gs typed. subst (λ (m : List Field). FieldsAreOfTypes fs (fields_of m)) (sym (append_assoc done ((l, v) ∷ []) gs)) (old.typed ((l, v) ∷ gs) (refl, read.value.typed, typed));
    form = λ gs form. ap (λ m. members_in_order (fields_of m)) (append_assoc done ((l, v) ∷ []) gs) ∙ old.form ((l, v) ∷ gs) (rw (read.value.form, form) refl);
    faulty = old.faulty ∙ rw (read.faultless, read.past) refl;
    past = omega (arith, old.past, read.past);
  }

  pub fields_stop : (node k : ℕ) (l : List ℕ) (a : TypeTree) (types : FieldTypes) (d : Data) (left : Members) (done : List Field)
      → FieldsLeft node (FieldTypes.field l a types) (member l d left) done → IsFirst k (faults a node d) → IsFirst k (fields_faults fs from all)
  fields_stop node k l a types d left done old first = subst (IsFirst k) (sym old.faulty) (first_before k (faults a node d) (fields_faults types (node + nodes d) left) first)

  pub fields_end : (node : ℕ) (done : List Field) → FieldsLeft node FieldTypes.none no_members done → ReadsFields fs from all node (fields_of done)
  fields_end node done old =
      let nil = append-nil done in
      record {
        typed = subst (λ (m : List Field). FieldsAreOfTypes fs (fields_of m)) nil (old.typed [] tt);
        form = ap (λ m. members_in_order (fields_of m)) (sym nil) ∙ old.form [] refl;
        faultless = old.faulty;
        past = omega (arith, old.past);
      }

abbrev Entry : Type 0
Entry = String Global × Json

abbrev types_of : List (List ℕ × Ty) → FieldTypes
types_of fields = field_types_of (fields_view fields)

-- the keys of entries
abbrev pub keys_seen : List (String Global) → List (List ℕ)
keys_seen keys = map string_bytes keys

pub keys_view : (es : List Entry) → keys_of (members_view es) ≡ keys_seen (map (λ (e : Entry). e.0) es)
keys_view [] = refl
keys_view (e ∷ es) = ap (λ l. string_bytes e.0 ∷ l) (keys_view es)

rising_each : (k : String Global) (ks : List (String Global)) → Each (λ m. string_cmp k m ≡ Less) ks → Each (λ m. label_cmp (string_bytes k) m ≡ Less) (keys_seen ks)
rising_each k [] each = tt
rising_each k (m ∷ ks) (one, each) = (one, rising_each k ks each)

rising_keys : (ks : List (String Global)) → IsStrictlySortedBy string_cmp ks → AreRising (keys_seen ks)
unfolding IsStrictlySortedBy
rising_keys [] sorted = tt
rising_keys (k ∷ ks) (each, sorted) = (rising_each k ks each, rising_keys ks sorted)

-- the keys of a map rise
pub rising : (es : List Entry) → IsStrictlySortedBy string_cmp (map (λ (e : Entry). e.0) es) → AreRising (keys_of (members_view es))
rising es sorted = subst AreRising (sym (keys_view es)) (rising_keys (map (λ (e : Entry). e.0) es) sorted)

-- the labels of fields from a place on
abbrev pub labels_from : List (List ℕ × Ty) → ℕ → List (List ℕ)
labels_from fields i = labels_of (types_of (drop i fields))

module _ (fields : List (List ℕ × Ty)) (i : ℕ) (f : List ℕ × Ty) (below : i < length fields) (is : f ≡ get_or fields i f) where
  front : drop i fields ≡ f ∷ drop (i + 1) fields
  front = drop-cons fields i f below ∙ ap₂ (λ (x : List ℕ × Ty) n. x ∷ drop n fields) (sym is) (sym (add-one i))

  labels_front : labels_from fields i ≡ f.0 ∷ labels_from fields (i + 1)
  labels_front = ap (λ (l : List (List ℕ × Ty)). labels_of (types_of l)) front

  -- a key that is the label
  pub label_met : (k : List ℕ) (ks : List (List ℕ)) → bytes_eq k f.0 ≡ true → pointwise bytes_eq (k ∷ ks) (labels_from fields i) ≡ pointwise bytes_eq ks (labels_from fields (i + 1))
  label_met k ks same = rw (labels_front, same) refl

  pub label_missed : (k : List ℕ) (ks : List (List ℕ)) → bytes_eq k f.0 ≡ false → pointwise bytes_eq (k ∷ ks) (labels_from fields i) ≡ false
  label_missed k ks other = rw (labels_front, other) refl

  pub label_lacking : pointwise bytes_eq [] (labels_from fields i) ≡ false
  label_lacking = rw labels_front refl

pub labels_end : (fields : List (List ℕ × Ty)) (i : ℕ) → length fields ≤ i → labels_from fields i ≡ []
labels_end fields i high = ap (λ (l : List (List ℕ × Ty)). labels_of (types_of l)) (drop_all i fields high)

no_keys : (ms : Members) → pointwise bytes_eq (keys_of ms) [] ≡ true → ms ≡ no_members
no_keys no_members h = refl
no_keys (member k d ms) h = cc

-- fields were read up to a place, and these entries are left
module _ (fields : List (List ℕ × Ty)) (from : ℕ) (all : List Entry) where
  pub record Walked (i node : ℕ) (left : List Entry) (done : List Field) : Type 0 where
    pub walked : FieldsLeft (types_of fields) from (members_view all) node (types_of (drop i fields)) (members_view left) done
    pub named : pointwise bytes_eq (keys_of (members_view left)) (labels_from fields i) ≡ true

  pub walk_begin : pointwise bytes_eq (keys_of (members_view all)) (labels_of (types_of fields)) ≡ true → Walked 0 from all []
  walk_begin named = record { walked = fields_begin (types_of fields) from (members_view all); named = named }

  pub walk_end : (i node : ℕ) (left : List Entry) (done : List Field) → length fields ≤ i → Walked i node left done → ReadsFields (types_of fields) from (members_view all) node (fields_of done)
  walk_end i node left done high old =
      let none : drop i fields ≡ [] = drop_all i fields high in
      let empty : members_view left ≡ no_members = no_keys (members_view left) (rw (labels_end fields i high) at old.named) in
      fields_end (types_of fields) from (members_view all) node done
      (subst (λ (ms : Members). FieldsLeft (types_of fields) from (members_view all) node FieldTypes.none ms done) empty
      (subst (λ (l : List (List ℕ × Ty)). FieldsLeft (types_of fields) from (members_view all) node (types_of l) (members_view left) done) none old.walked))

  module _ (i node : ℕ) (f : List ℕ × Ty) (below : i < length fields) (is : f ≡ get_or fields i f) where
    opened : (left : List Entry) (done : List Field) → Walked i node left done
        → FieldsLeft (types_of fields) from (members_view all) node (FieldTypes.field f.0 (type_tree f.1) (types_of (drop (i + 1) fields))) (members_view left) done
    opened left done old = subst (λ (l : List (List ℕ × Ty)). FieldsLeft (types_of fields) from (members_view all) node (types_of l) (members_view left) done) (front fields i f below is) old.walked

    pub walk_lacking : (done : List Field) → Walked i node [] done → ⊥
    walk_lacking done old = let none = label_lacking fields i f below is in let some = old.named in cc

    module _ (e : Entry) (left : List Entry) (done : List Field) (old : Walked i node (e ∷ left) done) where
      matched : (bytes_eq (string_bytes e.0) f.0 && pointwise bytes_eq (keys_of (members_view left)) (labels_from fields (i + 1))) ≡ true
      matched = rw (labels_front fields i f below is) at old.named

      same_label : string_bytes e.0 ≡ f.0
      same_label = (bytes_decides (string_bytes e.0) f.0).0 (and_parts _ _ matched).0

      here : FieldsLeft (types_of fields) from (members_view all) node (FieldTypes.field f.0 (type_tree f.1) (types_of (drop (i + 1) fields))) (member f.0 (view e.1) (members_view left)) done
      here = subst (λ (k : List ℕ). FieldsLeft (types_of fields) from (members_view all) node (FieldTypes.field f.0 (type_tree f.1) (types_of (drop (i + 1) fields))) (member k (view e.1) (members_view left)) done)
          same_label (opened (e ∷ left) done old)

      pub walk_more : (after : ℕ) (v : Nested) → Reads (type_tree f.1) node (view e.1) after v → Walked (i + 1) after left (done ++ (f.0, v) ∷ [])
      walk_more after v read = record {
        walked = fields_more (types_of fields) from (members_view all) node after f.0 (type_tree f.1) (types_of (drop (i + 1) fields)) (view e.1) (members_view left) done v here read;
        named = (and_parts _ _ matched).1;
      }

      pub walk_stop : (k : ℕ) → IsFirst k (faults (type_tree f.1) node (view e.1)) → IsFirst k (fields_faults (types_of fields) from (members_view all))
      walk_stop k first = fields_stop (types_of fields) from (members_view all) node k f.0 (type_tree f.1) (types_of (drop (i + 1) fields)) (view e.1) (members_view left) done here first
