-- Layouts of comprehensions, one by one, and of paths.
use Rattle.std.proofs.Common.{◌≡◌, ℕ, zero, suc, ◌+◌, ◌<◌, ◌≤◌, max, List, [], ◌∷◌, ◌++◌, sym, ap, ◌∙◌, length, map, take, arith, get_or, map, replicate, length-append}
use Rattle.std.proofs.Math.Seq.{take-suc}
use Rattle.std.proofs.lemmas.List.{map-append, length-replicate}
use Rattle.nq_ir.specs.Among.{Among, first, later}
use Rattle.nq_ir.specs.Spots.{StrandTree}
use Rattle.nq_model.specs.declared.table.ColumnType.{ColumnType}
use Rattle.nq_model.specs.declared.table.ColumnType.TheVariants.{Int, Bool as Truth, Text}
use Rattle.nq_model.specs.declared.table.TableShape.{TableShape}
use Rattle.stitcher.specs.Linked.{Home}
use Rattle.natural_keys.specs.declared.layout.Layout.{Layout}
use Rattle.natural_keys.specs.Layouts.{layout_of, most, of_type, raised, scope_key, no_layout, outer_by, layout_at, layout_types, width}

-- the least layout that two layouts fit into
abbrev pub joined : Layout → Layout → Layout
joined l m = record {
  ints = max l.ints m.ints;
  bools = max l.bools m.bools;
  texts = max l.texts m.texts;
}

max_assoc : (a b c : ℕ) → max (max a b) c ≡ max a (max b c)
max_assoc a b c = omega arith

max_none : (a : ℕ) → max a 0 ≡ a
max_none a = omega arith

none_max : (a : ℕ) → max 0 a ≡ a
none_max a = omega arith

pub joined_first : (l : Layout) → joined no_layout l ≡ l
joined_first l = λ t. record {
  ints = none_max l.ints t;
  bools = none_max l.bools t;
  texts = none_max l.texts t;
}

pub joined_last : (l : Layout) → joined l no_layout ≡ l
joined_last l = λ t. record {
  ints = max_none l.ints t;
  bools = max_none l.bools t;
  texts = max_none l.texts t;
}

pub joined_more : (S : List TableShape) (l : Layout) (d : StrandTree) (ds : List StrandTree)
    → joined (raised l (scope_key S d)) (layout_of S ds) ≡ joined l (layout_of S (d ∷ ds))
joined_more S l d ds = λ t. record {
  ints = max_assoc l.ints (length (of_type Int (scope_key S d))) (most S Int ds) t;
  bools = max_assoc l.bools (length (of_type Truth (scope_key S d))) (most S Truth ds) t;
  texts = max_assoc l.texts (length (of_type Text (scope_key S d))) (most S Text ds) t;
}

-- the key columns of each comprehension find room in the layout of all
pub most_fits : (S : List TableShape) (t : ColumnType) {d : StrandTree} {ds : List StrandTree}
    → Among d ds → length (of_type t (scope_key S d)) ≤ most S t ds
most_fits S t (first {xs = ds}) = omega arith
most_fits S t (later {y = e} m) = let h = most_fits S t m in omega (arith, h)

-- one path more
pub outer_step : (inners : List Layout) (hs : List Home) (k : ℕ) (h : Home) → 0 < k → k < length hs
    → h ≡ get_or hs k h → outer_by inners (take k hs) ++ layout_at inners h.0 ∷ []
    ≡ outer_by inners (take (k + 1) hs)
outer_step inners [] k h some within is = absurd (omega (arith, within))
outer_step inners (x ∷ hs) zero h some within is = absurd (omega (arith, some))
outer_step inners (x ∷ hs) (suc k) h some within is =
    let next : suc k + 1 ≡ suc (suc k) = omega arith in
    let f : Home → Layout = λ home. layout_at inners home.0 in
    ap (λ (z : List Layout). no_layout ∷ z)
    (ap (λ (z : Home). map f (take k hs) ++ f z ∷ []) is
    ∙ sym (map-append f (take k hs) (get_or hs k h ∷ []))
    ∙ ap (map f) (sym (take-suc hs k h (omega (arith, within)))))
    ∙ sym (ap (λ n. outer_by inners (take n (x ∷ hs))) next)

-- a layout has as many columns as cells
pub types_long : (l : Layout) → length (layout_types l) ≡ width l
types_long l =
    let a = length-append (replicate l.ints Int) (replicate l.bools Truth
    ++ replicate l.texts Text) in
    let b = length-append (replicate l.bools Truth) (replicate l.texts Text) in
    let i = length-replicate l.ints Int in
    let j = length-replicate l.bools Truth in
    let k = length-replicate l.texts Text in
    omega (arith, a, b, i, j, k)
