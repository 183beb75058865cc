-- The type of a proper term over a proper schema has its labels in byte order, and closed terms keep the rule on variables.
use Rattle.std.proofs.Common.{◌≡◌, ℕ, zero, suc, ◌+◌, ◌<◌, bytes_eq, length, List, [], ◌∷◌, Option, Some, None, Ok, Err, slice_get, map, inl, inr, refl, ap, sym, ◌∙◌, subst, arith, All}
use Rattle.std.specs.List.{AllByRecursion as Each}
use Rattle.std.proofs.lemmas.List.Elements.{All-head, All-tail}
use Rattle.std.specs.Ordering.{is_gt}
use Rattle.nq_model.specs.Orders.{label_cmp, by_label, AreDistinct, AreRising}
use Rattle.nq_model.specs.Types.{TypeTree, FieldTypes, field_types_of}
use Rattle.nq_model.specs.Terms.{TermTree, TermFields, PlacedTerm, PlacedNode, PlacedFields, at, bare, bare_node, bare_fields, Aggregate, Emptiness, Count, Sum}
use Rattle.nq_model.specs.Tables.{Columns, names_of, base_type, table_type, IsProperShape, IsProperSchema}
use Rattle.nq_model.specs.Typing.{HasType, HaveTypes, shape_named, type_at, put_type}
use Rattle.nq_model.specs.TypeOf.{table_given, unary_given, binary_given, choice_given, parameter_given, application_given, field_given, aggregate_given, bag_given, union_given, body_given, guard_given, element_of}
use Rattle.nq_model.specs.Judging.{Verdict, BrokenRule, judged, node_judged, fields_judged, program_judged, then_judge, by_rule, broken, unary_rule, binary_rule, aggregate_rule}
use Rattle.nq_model.specs.Proper.{labels_of, field_labels, IsOrdered, AreOrdered, IsProperTerm, AreProperTerms, IsClosed, IsClosedUnder, AreClosedUnder}
use Rattle.nq_model.proofs.Typing.{aggregate_base, each_get, put_type_list, either_some, cond_both}
use Rattle.nq_model.proofs.FieldOrders.{each_label_put, rising_put}
use Rattle.nq_model.specs.declared.term.Unary.{Unary}
use Rattle.nq_model.specs.declared.term.Unary.TheVariants.{Minus, Not}
use Rattle.nq_model.specs.declared.term.Binary.{Binary}
use Rattle.nq_model.specs.declared.term.Binary.TheVariants.{Add, Sub, Mul, Eq, Ne, Lt, Le, Gt, Ge, And, Or}
use Rattle.nq_model.specs.declared.table.ColumnType.{ColumnType}
use Rattle.nq_model.specs.declared.table.ColumnType.TheVariants as column
use Rattle.nq_model.specs.declared.table.TableShape.{TableShape}
use Rattle.nq_model.specs.declared.table.Schema.{Schema}

ordered_is : (a k : TypeTree) → k ≡ a → IsOrdered a → IsOrdered k
ordered_is a k e h = let P : TypeTree → Type 0 = λ b. IsOrdered b in subst P (sym e) h

base_ordered : (c : ColumnType) → IsOrdered (base_type c)
base_ordered column.Int = tt
base_ordered column.Bool = tt
base_ordered column.Text = tt

ordered_put : (l : List ℕ) (k : TypeTree) (fs : FieldTypes) → IsOrdered k → AreOrdered fs → AreOrdered (put_type l k fs)
ordered_put l k FieldTypes.none h all = (h, tt)
ordered_put l k (FieldTypes.field m j fs) h all =
    cond_both (λ x. AreOrdered x) (is_gt (label_cmp l m)) _ _ (all.0, ordered_put l k fs h all.1) (h, all)

-- a record of columns
abbrev column_fields : Columns → FieldTypes
column_fields columns = field_types_of (by_label (map (λ column. (column.0, base_type column.1)) columns))

column_fields_more : (c : List ℕ × ColumnType) (cs : Columns) → column_fields (c ∷ cs) ≡ put_type c.0 (base_type c.1) (column_fields cs)
column_fields_more c cs = put_type_list c.0 (base_type c.1) (by_label (map (λ column. (column.0, base_type column.1)) cs))

fields_are : (P : FieldTypes → Type 0) (fs gs : FieldTypes) → fs ≡ gs → P gs → P fs
fields_are P fs gs e h = subst P (sym e) h

each_column : (P : List ℕ → Type 0) (columns : Columns) → Each P (names_of columns) → Each P (labels_of (column_fields columns))
each_column P [] all = tt
each_column P (c ∷ cs) all =
    fields_are (λ x. Each P (labels_of x)) _ _ (column_fields_more c cs) (each_label_put P c.0 (base_type c.1) (column_fields cs) all.0 (each_column P cs all.1))

columns_rise : (columns : Columns) → AreDistinct (names_of columns) → AreRising (labels_of (column_fields columns))
columns_rise [] d = tt
columns_rise (c ∷ cs) d =
    fields_are (λ x. AreRising (labels_of x)) _ _ (column_fields_more c cs)
    (rising_put c.0 (base_type c.1) (column_fields cs) (each_column (λ m. c.0 ≡ m → ⊥) cs d.0) (columns_rise cs d.1))

columns_ordered : (columns : Columns) → AreOrdered (column_fields columns)
columns_ordered [] = tt
columns_ordered (c ∷ cs) =
    fields_are (λ x. AreOrdered x) _ _ (column_fields_more c cs) (ordered_put c.0 (base_type c.1) (column_fields cs) (base_ordered c.1) (columns_ordered cs))

table_ordered : (columns : Columns) → AreDistinct (names_of columns) → IsOrdered (table_type columns)
table_ordered columns d = (columns_rise columns d, columns_ordered columns)

shape_found : (P : TableShape → Type 0) (l : List ℕ) (shapes : List TableShape) (shape : TableShape) → All P shapes → shape_named l shapes ≡ Some shape → P shape
shape_found P l [] shape all e = cc
shape_found P l (s ∷ shapes) shape all e =
    elim (either_some (bytes_eq l s.name) s shape (shape_named l shapes) e)
    [ inl h ↦ subst P h (All-head P s shapes all) | inr h ↦ shape_found P l shapes shape (All-tail P s shapes all) h ]

field_ordered : (l : List ℕ) (fs : FieldTypes) (k : TypeTree) → AreOrdered fs → type_at l fs ≡ Some k → IsOrdered k
field_ordered l FieldTypes.none k all e = cc
field_ordered l (FieldTypes.field m j fs) k all e =
    elim (either_some (bytes_eq l m) j k (type_at l fs) e) [ inl h ↦ ordered_is j k (sym h) all.0 | inr h ↦ field_ordered l fs k all.1 h ]

module _ (schema : Schema) (proper : IsProperSchema schema) where
  have_labels : (P : List ℕ → Type 0) (cx : List TypeTree) (fs : TermFields) (fields : FieldTypes) → HaveTypes schema cx fs fields → Each P (field_labels fs) → Each P (labels_of fields)
  have_labels P cx TermFields.none fields h all = fields_are (λ x. Each P (labels_of x)) _ _ h tt
  have_labels P cx (TermFields.with_field l t fs) fields h all =
      fields_are (λ x. Each P (labels_of x)) _ _ h.4 (each_label_put P l h.0 h.1 all.0 (have_labels P cx fs h.1 h.3 all.1))

  labels_rise : (cx : List TypeTree) (fs : TermFields) (fields : FieldTypes) → HaveTypes schema cx fs fields → AreDistinct (field_labels fs) → AreRising (labels_of fields)
  labels_rise cx TermFields.none fields h d = fields_are (λ x. AreRising (labels_of x)) _ _ h tt
  labels_rise cx (TermFields.with_field l t fs) fields h d =
      fields_are (λ x. AreRising (labels_of x)) _ _ h.4
      (rising_put l h.0 h.1 (have_labels (λ m. l ≡ m → ⊥) cx fs h.1 h.3 d.0) (labels_rise cx fs h.1 h.3 d.1))

  mutual
    pub ordered_type : (cx : List TypeTree) (t : TermTree) (k : TypeTree) → Each IsOrdered cx → IsProperTerm t → HasType schema cx t k → IsOrdered k
    ordered_type cx (TermTree.var n) k all p h = each_get IsOrdered cx n k all h
    ordered_type cx (TermTree.int n) k all p h = ordered_is TypeTree.int k h tt
    ordered_type cx (TermTree.bool b) k all p h = ordered_is TypeTree.bool k h tt
    ordered_type cx (TermTree.text t) k all p h = ordered_is TypeTree.text k h tt
    ordered_type cx (TermTree.table l) k all p h =
        ordered_is (table_type h.0.columns) k h.2 (table_ordered h.0.columns (shape_found IsProperShape l schema.tables h.0 proper.proper h.1).columns_differ)
    ordered_type cx (TermTree.unary op t) k all p h = ordered_is (base_type h.1) k h.4 (base_ordered h.1)
    ordered_type cx (TermTree.binary op t u) k all p h = ordered_is (base_type h.2) k h.6 (base_ordered h.2)
    ordered_type cx (TermTree.choose x t u) k all p h = ordered_type cx t k all p.1 h.1
    ordered_type cx (TermTree.fun a t) k all p h =
        ordered_is (TypeTree.fun a h.0) k h.3 (p.0.ordered, ordered_type (a ∷ cx) t h.0 (p.0.ordered, all) p.1 h.2)
    ordered_type cx (TermTree.apply t u) k all p h = (ordered_type cx t (TypeTree.fun h.0 k) all p.0 h.1).1
    ordered_type cx (TermTree.rec fs) k all p h =
        ordered_is (TypeTree.rec h.0) k h.2 (labels_rise cx fs h.0 h.1 p.0, ordered_types cx fs h.0 all p.1 h.1)
    ordered_type cx (TermTree.field t l) k all p h = field_ordered l h.0 k (ordered_type cx t (TypeTree.rec h.0) all p.0 h.1).1 h.2
    ordered_type cx (TermTree.aggregate g t) k all p h = let b = aggregate_base g h.0 k h.2 in ordered_is (base_type b.0) k b.1 (base_ordered b.0)
    ordered_type cx (TermTree.single t) k all p h = ordered_is (TypeTree.bag h.0) k h.3 (ordered_type cx t h.0 all p h.1)
    ordered_type cx (TermTree.nil a) k all p h = ordered_is (TypeTree.bag a) k h.1 p.ordered
    ordered_type cx (TermTree.union t u) k all p h = ordered_type cx t k all p.0 h.2
    ordered_type cx (TermTree.for t u) k all p h =
        ordered_type (h.0 ∷ cx) u k (ordered_type cx t (TypeTree.bag h.0) all p.0 h.2, all) p.1 h.3
    ordered_type cx (TermTree.guard x u) k all p h = ordered_type cx u k all p.1 h.2
    ordered_type cx (TermTree.bind t u) k all p h = ordered_type (h.0 ∷ cx) u k (ordered_type cx t h.0 all p.0 h.1, all) p.1 h.2

    ordered_types : (cx : List TypeTree) (fs : TermFields) (fields : FieldTypes) → Each IsOrdered cx → AreProperTerms fs → HaveTypes schema cx fs fields → AreOrdered fields
    ordered_types cx TermFields.none fields all p h = fields_are (λ x. AreOrdered x) _ _ h tt
    ordered_types cx (TermFields.with_field l t fs) fields all p h =
        fields_are (λ x. AreOrdered x) _ _ h.4 (ordered_put l h.0 h.1 (ordered_type cx t h.0 all p.1 h.2) (ordered_types cx fs h.1 all p.2 h.3))

-- the fault of the verdict, if it is one, is not that of a variable without a binder
abbrev Avoids : {A : Type 0} → Verdict A → Type 0
Avoids v = (e : BrokenRule) → v ≡ Err e → e.rule ≡ 1 → ⊥

avoids_ok : {A : Type 0} (a : A) → Avoids (Ok a)
avoids_ok a e h r = cc

avoids_then : {A B : Type 0} (v : Verdict A) (f : A → Verdict B) → Avoids v → ((a : A) → Avoids (f a)) → Avoids (then_judge v f)
avoids_then (Ok a) f h g e is r = g a e is r
avoids_then (Err b) f h g e is r = let same : b ≡ e = cc in h b refl (ap (λ (x : BrokenRule). x.rule) same ∙ r)

same_rule : (rule place : ℕ) (e : BrokenRule) → broken rule place ≡ e → e.rule ≡ 1 → rule ≡ 1
same_rule rule place e same r = ap (λ (x : BrokenRule). x.rule) same ∙ r

rule_after_one : (g : Aggregate) → aggregate_rule g ≡ 1 → ⊥
rule_after_one Emptiness e = omega arith
rule_after_one Count e = omega arith
rule_after_one Sum e = omega arith

avoids_rule : {A : Type 0} (rule place : ℕ) (o : Option A) → (rule ≡ 1 → ⊥) → Avoids (by_rule rule place o)
avoids_rule rule place (Some a) other e is r = cc
avoids_rule rule place None other e is r = let same : broken rule place ≡ e = cc in other (same_rule rule place e same r)

unary_other : (op : Unary) → unary_rule op ≡ 1 → ⊥
unary_other Minus e = omega arith
unary_other Not e = omega arith

binary_other : (op : Binary) → binary_rule op ≡ 1 → ⊥
binary_other Add e = omega arith
binary_other Sub e = omega arith
binary_other Mul e = omega arith
binary_other Eq e = omega arith
binary_other Ne e = omega arith
binary_other Lt e = omega arith
binary_other Le e = omega arith
binary_other Gt e = omega arith
binary_other Ge e = omega arith
binary_other And e = omega arith
binary_other Or e = omega arith

one_more : (n : ℕ) (a : TypeTree) (cx : List TypeTree) → n ≡ length cx → n + 1 ≡ length (a ∷ cx)
one_more n a cx e = omega (arith, e)

found_variable : (cx : List TypeTree) (n k place : ℕ) → n ≡ length cx → k < n → Avoids (by_rule 1 place (slice_get cx k))
found_variable [] n k place e h = absurd (omega (arith, e))
found_variable (a ∷ cx) n zero place e h = avoids_ok a
found_variable (a ∷ cx) n (suc k) place e h = found_variable cx (length cx) k place refl (omega (arith, e))

module _ (schema : Schema) where
  mutual
    pub closed_avoids : (n : ℕ) (cx : List TypeTree) (p : PlacedTerm) → n ≡ length cx → IsClosedUnder n (bare p) → Avoids (judged schema cx p)
    closed_avoids n cx (at place m) e h = node_avoids n cx place m e h

    node_avoids : (n : ℕ) (cx : List TypeTree) (place : ℕ) (m : PlacedNode) → n ≡ length cx → IsClosedUnder n (bare_node m) → Avoids (node_judged schema cx place m)
    node_avoids n cx place (PlacedNode.var k) e h = found_variable cx n k place e h
    node_avoids n cx place (PlacedNode.int m) e h = avoids_ok TypeTree.int
    node_avoids n cx place (PlacedNode.bool b) e h = avoids_ok TypeTree.bool
    node_avoids n cx place (PlacedNode.text t) e h = avoids_ok TypeTree.text
    node_avoids n cx place (PlacedNode.table l) e h = avoids_rule 5 place (table_given l schema) (λ x. omega arith)
    node_avoids n cx place (PlacedNode.nil a) e h = avoids_rule 18 place (bag_given a) (λ x. omega arith)
    node_avoids n cx place (PlacedNode.unary op t) e h =
        avoids_then (judged schema cx t) _ (closed_avoids n cx t e h) (λ a. avoids_rule (unary_rule op) place (unary_given op a) (unary_other op))
    node_avoids n cx place (PlacedNode.binary op t u) e h =
        avoids_then (judged schema cx t) _ (closed_avoids n cx t e h.0)
        (λ a. avoids_then (judged schema cx u) _ (closed_avoids n cx u e h.1) (λ b. avoids_rule (binary_rule op) place (binary_given op a b) (binary_other op)))
    node_avoids n cx place (PlacedNode.choose x t u) e h =
        avoids_then (judged schema cx x) _ (closed_avoids n cx x e h.0)
        (λ c. avoids_then (judged schema cx t) _ (closed_avoids n cx t e h.1)
        (λ a. avoids_then (judged schema cx u) _ (closed_avoids n cx u e h.2) (λ b. avoids_rule 11 place (choice_given c a b) (λ x. omega arith))))
    node_avoids n cx place (PlacedNode.fun a t) e h =
        avoids_then (by_rule 12 place (parameter_given a)) _ (avoids_rule 12 place (parameter_given a) (λ x. omega arith))
        (λ _. avoids_then (judged schema (a ∷ cx) t) _ (closed_avoids (n + 1) (a ∷ cx) t (one_more n a cx e) h) (λ b. avoids_ok (TypeTree.fun a b)))
    node_avoids n cx place (PlacedNode.apply t u) e h =
        avoids_then (judged schema cx t) _ (closed_avoids n cx t e h.0)
        (λ a. avoids_then (judged schema cx u) _ (closed_avoids n cx u e h.1) (λ b. avoids_rule 13 place (application_given a b) (λ x. omega arith)))
    node_avoids n cx place (PlacedNode.rec fs) e h =
        avoids_then (fields_judged schema cx fs) _ (fields_avoid n cx fs e h) (λ fields. avoids_ok (TypeTree.rec fields))
    node_avoids n cx place (PlacedNode.field t l) e h =
        avoids_then (judged schema cx t) _ (closed_avoids n cx t e h) (λ a. avoids_rule 15 place (field_given l a) (λ x. omega arith))
    node_avoids n cx place (PlacedNode.aggregate g t) e h =
        avoids_then (judged schema cx t) _ (closed_avoids n cx t e h) (λ a. avoids_rule (aggregate_rule g) place (aggregate_given g a) (rule_after_one g))
    node_avoids n cx place (PlacedNode.single t) e h =
        avoids_then (judged schema cx t) _ (closed_avoids n cx t e h) (λ a. avoids_rule 17 place (bag_given a) (λ x. omega arith))
    node_avoids n cx place (PlacedNode.union t u) e h =
        avoids_then (judged schema cx t) _ (closed_avoids n cx t e h.0)
        (λ a. avoids_then (judged schema cx u) _ (closed_avoids n cx u e h.1) (λ b. avoids_rule 19 place (union_given a b) (λ x. omega arith)))
    node_avoids n cx place (PlacedNode.for t u) e h =
        avoids_then (judged schema cx t) _ (closed_avoids n cx t e h.0)
        (λ a. avoids_then (by_rule 20 place (element_of a)) _ (avoids_rule 20 place (element_of a) (λ x. omega arith))
        (λ d. avoids_then (judged schema (d ∷ cx) u) _ (closed_avoids (n + 1) (d ∷ cx) u (one_more n d cx e) h.1)
        (λ b. avoids_rule 20 place (body_given b) (λ x. omega arith))))
    node_avoids n cx place (PlacedNode.guard x u) e h =
        avoids_then (judged schema cx x) _ (closed_avoids n cx x e h.0)
        (λ a. avoids_then (judged schema cx u) _ (closed_avoids n cx u e h.1) (λ b. avoids_rule 21 place (guard_given a b) (λ x. omega arith)))
    node_avoids n cx place (PlacedNode.bind t u) e h =
        avoids_then (judged schema cx t) _ (closed_avoids n cx t e h.0) (λ a. closed_avoids (n + 1) (a ∷ cx) u (one_more n a cx e) h.1)

    fields_avoid : (n : ℕ) (cx : List TypeTree) (fs : PlacedFields) → n ≡ length cx → AreClosedUnder n (bare_fields fs) → Avoids (fields_judged schema cx fs)
    fields_avoid n cx PlacedFields.none e h = avoids_ok FieldTypes.none
    fields_avoid n cx (PlacedFields.with_field l t fs) e h =
        avoids_then (judged schema cx t) _ (closed_avoids n cx t e h.0)
        (λ k. avoids_then (fields_judged schema cx fs) _ (fields_avoid n cx fs e h.1) (λ rest. avoids_ok (put_type l k rest)))

  pub program_avoids : (p : PlacedTerm) → IsClosed (bare p) → (e : BrokenRule) → program_judged schema p ≡ Err e → e.rule ≡ 1 → ⊥
  program_avoids (at place n) h =
      avoids_then (node_judged schema [] place n) _ (node_avoids 0 [] place n refl h) (λ a. avoids_rule 23 place (body_given a) (λ x. omega arith))
