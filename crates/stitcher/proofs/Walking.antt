-- Walks over the element of a row, field by field and row by row.
use denote.Param.Weighed.{most, at_most}
use Rattle.std.proofs.Common.{◌≡◌, ℕ, suc, ◌+◌, ◌*◌, ◌-◌, ◌<◌, ◌≤◌, max, List, [], ◌∷◌, ◌++◌, refl, sym, ap, ◌∙◌, subst, Bool, map, filter, get_or, length, drop, drop-cons, append_assoc, append-nil, arith}
use Rattle.std.proofs.lemmas.List.{map-append}
use Rattle.std.specs.BTreeMap.{BTreeMap}
use Rattle.nq_model.specs.Types.{TypeTree, FieldTypes, int, bool, text, rec, bag, fun, none, field, type_tree, field_types_of}
use Rattle.nq_model.specs.Types as types
use Rattle.nq_model.specs.Values.{Nested, Fields, fields_of, nested}
use Rattle.nq_model.specs.Values as values
use Rattle.nq_model.specs.declared.table.Cell.{Cell}
use Rattle.nq_model.specs.declared.ty.Ty.{Ty}
use Rattle.nq_model.specs.declared.value.Value.{Value}
use Rattle.nq_ir.specs.Building.{element, built}
use Rattle.nq_ir.specs.Parts.{leaves, leaves_in, slots, slots_in, bags, bags_in, element_types}
use Rattle.stitcher.proofs.Laid.{types_stand, types_length}
use Rattle.stitcher.specs.Groups.{first_under, IsChain, row_before, AreGrouped}
use Rattle.stitcher.specs.Schemes.{Scheme, AnswerRows, answers}
use Rattle.stitcher.specs.Stitching.{HasGroups, IsReady}
use Rattle.stitcher.specs.declared.groups.Groups.{Groups}
use Rattle.stitcher.specs.Walks.{AreAt, Stands, past, past_leaf, past_slot, value_at, fields_at}
use Rattle.stitcher.specs.declared.walk.Walk.{Walk}

-- what is in a list is no deeper than the deepest of it
pub falls_here : {X : Type 0} (deep : X → ℕ) (xs : List X) (k : ℕ) (x : X) (t : ℕ) → 2 * most deep xs + 1 ≡ t → k < length xs → x ≡ get_or xs k x → 2 * deep x + 0 < t
falls_here deep xs k x t e h is =
    let low : deep (get_or xs k x) ≤ most deep xs = at_most deep xs k x h in
    let same : deep x ≡ deep (get_or xs k x) = ap deep is in
    omega (arith, e, low, same)

pub no_deeper : (n t : ℕ) → 2 * max 0 (max n 0) + 0 < t → 2 * n + 0 < t
no_deeper n t h = omega (arith, h)

same_walk : (w : Walk) (k l m s t n : ℕ) → k ≡ l → m ≡ s → t ≡ n → ◌≡◌ {A = Walk} (record { path = w.path; row = w.row; leaf = k; slot = m; inner = t }) (record { path = w.path; row = w.row; leaf = l; slot = s; inner = n })
same_walk w k l m s t n e f h = λ i. record { path = w.path; row = w.row; leaf = e i; slot = f i; inner = h i }

pub past_leaf_is : (w : Walk) → past_leaf w ≡ past w int
past_leaf_is w = same_walk w (w.leaf + 1) (w.leaf + 1) w.slot (w.slot + 0) w.inner (w.inner + 0) refl (omega arith) (omega arith)

pub past_slot_is : (w : Walk) (a : TypeTree) → past_slot w a ≡ past w (bag a)
past_slot_is w a = same_walk w w.leaf (w.leaf + 0) (w.slot + 1) (w.slot + 1) (w.inner + suc (bags a)) (w.inner + suc (bags a)) (omega arith) refl refl

pub past_none : (w : Walk) → past w (rec none) ≡ w
past_none w = same_walk w (w.leaf + 0) w.leaf (w.slot + 0) w.slot (w.inner + 0) w.inner (omega arith) (omega arith) (omega arith)

pub past_fun : (w : Walk) (a b : TypeTree) → w ≡ past w (fun a b)
past_fun w a b = same_walk w w.leaf (w.leaf + 0) w.slot (w.slot + 0) w.inner (w.inner + 0) (omega arith) (omega arith) (omega arith)

past_more : (w : Walk) (l : List ℕ) (a : TypeTree) (fs : FieldTypes) → past (past w a) (rec fs) ≡ past w (rec (field l a fs))
past_more w l a fs =
    same_walk w (w.leaf + leaves a + leaves_in fs) (w.leaf + (leaves a + leaves_in fs)) (w.slot + slots a + slots_in fs) (w.slot + (slots a + slots_in fs)) (w.inner + bags a + bags_in fs) (w.inner + (bags a + bags_in fs)) (omega arith) (omega arith) (omega arith)

-- fields in front of others
abbrev pub onto : List (List ℕ × Nested) → Fields → Fields
onto [] fs = fs
onto (v ∷ vs) fs = Fields.field v.0 v.1 (onto vs fs)

onto_more : (vs : List (List ℕ × Nested)) (v : List ℕ × Nested) (fs : Fields) → onto (vs ++ v ∷ []) fs ≡ onto vs (Fields.field v.0 v.1 fs)
onto_more [] v fs = refl
onto_more (x ∷ vs) v fs = ap (λ z. Fields.field x.0 x.1 z) (onto_more vs v fs)

onto_none : (vs : List (List ℕ × Nested)) → onto vs Fields.none ≡ fields_of vs
onto_none [] = refl
onto_none (v ∷ vs) = ap (λ z. Fields.field v.0 v.1 z) (onto_none vs)

-- the types of fields from one on
abbrev pub types_of : List (List ℕ × Ty) → FieldTypes
types_of fields = field_types_of (types.fields_view fields)

-- a type has its own paths
pub whole_at : (all : List TypeTree) (a : TypeTree) → all ≡ element_types (bag a) → AreAt all (bag a) 0
whole_at all a e = record {
  types = types_stand (bag a) all 0 [] [] (e ∙ sym (append-nil (element_types (bag a)))) refl;
  below = omega (arith, ap length e, types_length a);
}

module _ {I : Type 0} (S : Scheme I) (ans : List AnswerRows) where
  pub stands_head : (w : Walk) (l : List ℕ) (a : TypeTree) (fs : FieldTypes) → Stands S ans w (rec (field l a fs)) → Stands S ans w a
  stands_head w l a fs s = record {
    path = s.path;
    row = s.row;
    leaf = omega (arith, s.leaf);
    slot = omega (arith, s.slot);
    inner = record { types = s.inner.types.0; below = omega (arith, s.inner.below) };
  }

  stands_tail : (w : Walk) (l : List ℕ) (a : TypeTree) (fs : FieldTypes) → Stands S ans w (rec (field l a fs)) → Stands S ans (past w a) (rec fs)
  stands_tail w l a fs s = record {
    path = s.path;
    row = s.row;
    leaf = omega (arith, s.leaf);
    slot = omega (arith, s.slot);
    inner = record { types = s.inner.types.1; below = omega (arith, s.inner.below) };
  }

  -- the values of some fields, and where the walk stands then, before the others
  pub record Filled (begin : Walk) (all : FieldTypes) (made : List (List ℕ × Value)) (w : Walk) (left : FieldTypes) : Type 0 where
    pub stands : Stands S ans w (rec left)
    pub values : onto (values.fields_view made) (fields_at S ans w left) ≡ fields_at S ans begin all
    pub at : past w (rec left) ≡ past begin (rec all)

  pub none_filled : (begin : Walk) (all : FieldTypes) (made : List (List ℕ × Value)) → made ≡ [] → Stands S ans begin (rec all) → Filled begin all made begin all
  none_filled begin all made e s = record { stands = s; values = ap (λ (m : List (List ℕ × Value)). onto (values.fields_view m) (fields_at S ans begin all)) e; at = refl }

  more_filled : (begin : Walk) (all : FieldTypes) (made : List (List ℕ × Value)) (w v : Walk) (l : List ℕ) (a : TypeTree) (fs : FieldTypes) (x : Value) → nested x ≡ value_at S ans w a → v ≡ past w a → Filled begin all made w (field l a fs) → Filled begin all (made ++ (l, x) ∷ []) v fs
  more_filled begin all made w v l a fs x is on f =
      let longer : values.fields_view (made ++ (l, x) ∷ []) ≡ values.fields_view made ++ (l, value_at S ans w a) ∷ [] = map-append (λ (p : List ℕ × Value). (p.0, nested p.1)) made ((l, x) ∷ []) ∙ ap (λ (z : Nested). values.fields_view made ++ (l, z) ∷ []) is in
      subst (λ (z : Walk). Filled begin all (made ++ (l, x) ∷ []) z fs) (sym on) (record {
        stands = stands_tail w l a fs f.stands;
        values = ap (λ (z : List (List ℕ × Nested)). onto z (fields_at S ans (past w a) fs)) longer ∙ onto_more (values.fields_view made) (l, value_at S ans w a) (fields_at S ans (past w a) fs) ∙ f.values;
        at = past_more w l a fs ∙ f.at;
      })

  -- the field at a place, and those behind it
  types_here : (fields : List (List ℕ × Ty)) (k : ℕ) (f : List ℕ × Ty) → k < length fields → f ≡ get_or fields k f → types_of (drop k fields) ≡ field f.0 (type_tree f.1) (types_of (drop (suc k) fields))
  types_here fields k f h is = ap types_of (drop-cons fields k f h ∙ ap (λ (z : List ℕ × Ty). z ∷ drop (suc k) fields) (sym is))

  pub head_stands : (fields : List (List ℕ × Ty)) (k : ℕ) (f : List ℕ × Ty) (w : Walk) → k < length fields → f ≡ get_or fields k f → Stands S ans w (rec (types_of (drop k fields))) → Stands S ans w (type_tree f.1)
  head_stands fields k f w h is s = stands_head w f.0 (type_tree f.1) (types_of (drop (suc k) fields)) (subst (λ (z : FieldTypes). Stands S ans w (rec z)) (types_here fields k f h is) s)

  pub next_filled : (begin : Walk) (all : FieldTypes) (made : List (List ℕ × Value)) (w v : Walk) (fields : List (List ℕ × Ty)) (k : ℕ) (f : List ℕ × Ty) (l : List ℕ) (x : Value) → k < length fields → f ≡ get_or fields k f → l ≡ f.0 → nested x ≡ value_at S ans w (type_tree f.1) → v ≡ past w (type_tree f.1) → Filled begin all made w (types_of (drop k fields)) → Filled begin all (made ++ (l, x) ∷ []) v (types_of (drop (k + 1) fields))
  next_filled begin all made w v fields k f l x h is label value on g =
      let here : Filled begin all made w (field f.0 (type_tree f.1) (types_of (drop (suc k) fields))) = subst (λ (z : FieldTypes). Filled begin all made w z) (types_here fields k f h is) g in
      let more : Filled begin all (made ++ (f.0, x) ∷ []) v (types_of (drop (suc k) fields)) = more_filled begin all made w v f.0 (type_tree f.1) (types_of (drop (suc k) fields)) x value on here in
      let one : suc k ≡ k + 1 = omega arith in
      subst (λ (n : ℕ). Filled begin all (made ++ (l, x) ∷ []) v (types_of (drop n fields))) one (subst (λ (z : List ℕ). Filled begin all (made ++ (z, x) ∷ []) v (types_of (drop (suc k) fields))) (sym label) more)

  pub all_values : (begin : Walk) (all : FieldTypes) (made : List (List ℕ × Value)) (w : Walk) (left : FieldTypes) → left ≡ none → Filled begin all made w left → fields_of (values.fields_view made) ≡ fields_at S ans begin all
  all_values begin all made w left e f =
      sym (onto_none (values.fields_view made)) ∙ ap (λ (z : FieldTypes). onto (values.fields_view made) (fields_at S ans w z)) (sym e) ∙ f.values

  pub all_past : (begin : Walk) (all : FieldTypes) (made : List (List ℕ × Value)) (w : Walk) (left : FieldTypes) → left ≡ none → Filled begin all made w left → w ≡ past begin (rec all)
  all_past begin all made w left e f = sym (past_none w) ∙ ap (λ (z : FieldTypes). past w (rec z)) (sym e) ∙ f.at

  -- a walk begins
  abbrev pub start : ℕ → ℕ → Walk
  start q row = record { path = q; row = row; leaf = 0; slot = 0; inner = suc q }

  pub start_stands : (a : TypeTree) (q row : ℕ) → AreAt S.elements (bag a) q → row < length (get_or ans q []) → Stands S ans (start q row) a
  start_stands a q row h there = record {
    path = omega (arith, h.below);
    row = there;
    leaf = omega (arith, ap leaves h.types.0);
    slot = omega (arith, ap slots h.types.0);
    inner = record { types = h.types.1; below = omega (arith, h.below) };
  }

  -- the elements of some rows under an index, and the chain of the others
  pub record Gathered (nexts : List ℕ) (a : TypeTree) (q : ℕ) (i : I) (made : List Nested) (place : ℕ) : Type 0 where
    pub chain : List ℕ
    pub is_chain : IsChain nexts place chain
    pub values : made ++ map (λ k. element (answers S ans) a q 0 0 (suc q) (row_before (get_or ans q []) k)) chain ≡ built (answers S ans) a q i

  map_twice : {A B C : Type 0} (f : B → C) (g : A → B) (xs : List A) → map (λ x. f (g x)) xs ≡ map f (map g xs)
  map_twice f g [] = refl
  map_twice f g (x ∷ xs) = ap (λ z. f (g x) ∷ z) (map_twice f g xs)

  pub none_gathered : (eq : I → I → Bool) (firsts : BTreeMap I ℕ) (nexts : List ℕ) (a : TypeTree) (q : ℕ) (i : I) (made : List Nested) (place : ℕ) → ((j k : I) → S.is j k ≡ eq j k) → AreGrouped eq (S.outer q) (get_or ans q []) (get_or ans q []) firsts nexts → made ≡ [] → place ≡ first_under eq firsts i → Gathered nexts a q i made place
  none_gathered eq firsts nexts a q i made place same grouped empty first =
      let rows = get_or ans q [] in
      let g = grouped i in
      let of_row : List Cell → Nested = λ r. element (answers S ans) a q 0 0 (suc q) r in
      record {
        chain = g.0;
        is_chain = subst (λ p. IsChain nexts p g.0) (sym first) g.1;
        values = ap (λ (m : List Nested). m ++ map (λ k. of_row (row_before rows k)) g.0) empty
            ∙ map_twice of_row (row_before rows) g.0
            ∙ ap (map of_row) g.2
            ∙ sym (λ t. map of_row (filter (λ r. same (S.outer q r) i t) rows));
      }

  pub place_low : (nexts : List ℕ) (a : TypeTree) (q : ℕ) (i : I) (made : List Nested) (place : ℕ) → Gathered nexts a q i made place → place ≤ length nexts
  place_low nexts a q i made place g = low g.chain g.is_chain
    where
      low : (ks : List ℕ) → IsChain nexts place ks → place ≤ length nexts
      low [] h = omega (arith, h)
      low (k ∷ ks) h = omega (arith, h.0, h.1)

  pub more_gathered : (nexts : List ℕ) (a : TypeTree) (q : ℕ) (i : I) (made : List Nested) (v : Nested) (place row next : ℕ) → length nexts ≡ length (get_or ans q []) → 0 < place → row ≡ length nexts - place → next ≡ get_or nexts (place - 1) 0 → v ≡ value_at S ans (start q row) a → Gathered nexts a q i made place → Gathered nexts a q i (made ++ v ∷ []) next
  more_gathered nexts a q i made v place row next long some at on is g = go g.chain g.is_chain g.values
    where
      go : (ks : List ℕ) → IsChain nexts place ks → made ++ map (λ k. element (answers S ans) a q 0 0 (suc q) (row_before (get_or ans q []) k)) ks ≡ built (answers S ans) a q i → Gathered nexts a q i (made ++ v ∷ []) next
      go [] h e = absurd (omega (arith, h, some))
      go (k ∷ ks) h e =
          let behind : place - 1 ≡ k = omega (arith, h.0) in
          let here : row ≡ length (get_or ans q []) - suc k = omega (arith, h.0, long, at) in
          let own : v ≡ element (answers S ans) a q 0 0 (suc q) (row_before (get_or ans q []) k) = is ∙ ap (λ (n : ℕ). element (answers S ans) a q 0 0 (suc q) (get_or (get_or ans q []) n [])) here in
          let goes : get_or nexts k 0 ≡ next = sym (on ∙ ap (λ (n : ℕ). get_or nexts n 0) behind) in
          let rest = map (λ k. element (answers S ans) a q 0 0 (suc q) (row_before (get_or ans q []) k)) ks in
          record {
            chain = ks;
            is_chain = subst (λ p. IsChain nexts p ks) goes h.2;
            values = append_assoc made (v ∷ []) rest ∙ ap (λ (z : Nested). made ++ z ∷ rest) own ∙ e;
          }

  pub all_gathered : (nexts : List ℕ) (a : TypeTree) (q : ℕ) (i : I) (made : List Nested) (place : ℕ) → place ≡ 0 → Gathered nexts a q i made place → made ≡ built (answers S ans) a q i
  all_gathered nexts a q i made place over g = go g.chain g.is_chain g.values
    where
      go : (ks : List ℕ) → IsChain nexts place ks → made ++ map (λ k. element (answers S ans) a q 0 0 (suc q) (row_before (get_or ans q []) k)) ks ≡ built (answers S ans) a q i → made ≡ built (answers S ans) a q i
      go [] h e = sym (append-nil made) ∙ e
      go (k ∷ ks) h e = absurd (omega (arith, h.0, over))

  -- the groups at a path of the type
  pub groups_here : (eq : I → I → Bool) (groups : List (Groups I)) (spans : List ℕ) (a : TypeTree) (q : ℕ) (own : Groups I) → IsReady eq S ans groups spans → AreAt S.elements (bag a) q → own ≡ get_or groups q own → HasGroups eq (S.outer q) (get_or ans q []) own
  groups_here eq groups spans a q own ready h is =
      subst (λ (z : Groups I). HasGroups eq (S.outer q) (get_or ans q []) z) (sym is) (ready.in_groups.each q own (omega (arith, h.below, ready.in_groups.counted, ready.answered)))

  -- the walk over the row at a place
  pub here_stands : (nexts : List ℕ) (a : TypeTree) (q : ℕ) (i : I) (made : List Nested) (place row : ℕ) (w : Walk) → length nexts ≡ length (get_or ans q []) → AreAt S.elements (bag a) q → 0 < place → row ≡ length nexts - place → w ≡ start q row → Gathered nexts a q i made place → Stands S ans w a
  here_stands nexts a q i made place row w long h some at is g =
      let low = place_low nexts a q i made place g in
      subst (λ (z : Walk). Stands S ans z a) (sym is) (start_stands a q row h (omega (arith, long, some, at, low)))

  pub next_gathered : (nexts : List ℕ) (a : TypeTree) (q : ℕ) (i : I) (made more : List Value) (x : Value) (place row next : ℕ) (w : Walk) → length nexts ≡ length (get_or ans q []) → 0 < place → row ≡ length nexts - place → next ≡ get_or nexts (place - 1) 0 → w ≡ start q row → nested x ≡ value_at S ans w a → more ≡ made ++ x ∷ [] → Gathered nexts a q i (map nested made) place → Gathered nexts a q i (map nested more) next
  next_gathered nexts a q i made more x place row next w long some at on begins is longer g =
      let own : nested x ≡ value_at S ans (start q row) a = is ∙ ap (λ (z : Walk). value_at S ans z a) begins in
      let all : map nested more ≡ map nested made ++ nested x ∷ [] = ap (map nested) longer ∙ map-append nested made (x ∷ []) in
      subst (λ (l : List Nested). Gathered nexts a q i l next) (sym all) (more_gathered nexts a q i (map nested made) (nested x) place row next long some at on own g)
