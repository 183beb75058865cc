-- The turns of the walk's loops.
use Rattle.std.proofs.Common.{◌≡◌, ℕ, zero, suc, ◌+◌, ◌-◌, ◌<◌, ◌≤◌, Bool, true, false, min, eqb, Bor, List, [], ◌∷◌, ◌++◌, map, length, drop, get_or, Option, Some, None, is_some, Result, Ok, Err, IfErr, IsErrAnd, refl, sym, ap, ◌∙◌, subst, arith, append-nil, length-drop}
use Rattle.std.specs.Option.{option_copied, option_map}
use Rattle.std.proofs.lemmas.Bool.Decides.{nat_tests}
use Rattle.std.proofs.lemmas.List.{drop_all, map-append}
use Rattle.nq_model.specs.Tables.{Columns, names_of}
use Rattle.nq_model.specs.declared.table.ColumnType.{ColumnType}
use Rattle.sql_profile.specs.declared.tree.Item.{Item}
use Rattle.sql_profile.specs.declared.tree.Source.{Source}
use Rattle.sql_profile.specs.declared.tree.With.{With}
use Rattle.sql_profile.specs.Scope.{Aliases, Broken, Fine, Shapes, Verdict, among, and_then, found, judge_items, judge_query, judge_sources, judge_value, judge_withs, names_in, or_broken, same_types, unless}
use Rattle.sql_profile.specs.Trees.{placed_query, placed_value, placed_with}
use Rattle.sql_scope.specs.Steps.{Faults, Gives, bounds, judge_source, placed_items}
use Rattle.sql_scope.specs.declared.fault.ScopeFault.{ScopeFault}
use Rattle.sql_scope.specs.declared.fault.ScopeFault.TheVariants as fault
use Rattle.sql_scope.proofs.Lookups.{among_found, found_bound}
use Rattle.sql_scope.proofs.Scopes.{Sources}
use Rattle.sql_scope.proofs.Walks.{item_broken, item_fine, item_twice, items_left, prefixed_none, source_broken, source_fine, sources_left}

-- the element at a place, and those behind it
pub drop_step : {A : Type 0} (xs : List A) (i : ℕ) (x : A) → i < length xs → x ≡ get_or xs i x → drop i xs ≡ x ∷ drop (i + 1) xs
drop_step [] i x h e = absurd (omega (arith, h))
drop_step (y ∷ ys) zero x h e = ap (λ z. z ∷ ys) (sym e)
drop_step (y ∷ ys) (suc i) x h e =
    let n : suc (i + 1) ≡ suc i + 1 = omega arith in drop_step ys i x (omega (arith, h)) e ∙ ap (λ m. x ∷ drop m (y ∷ ys)) n

pub faults_on : {A B : Type 0} (v : Verdict A) (w : Verdict B) (e : ScopeFault) → ((rule place : ℕ) → v ≡ Broken rule place → w ≡ Broken rule place) → Faults v e → Faults w e
faults_on v w fault.Memory f h = tt
faults_on v w (fault.Broken rule place) f h = f rule place h

-- the fault that a `?` hands on
pub handed_on : {A : Type 0} (r : Result A ScopeFault) (e : ScopeFault) (P : ScopeFault → Type 0) → IsErrAnd r (λ x. x ≡ e) → P e → IfErr r P
handed_on (Ok x) e P is h = tt
handed_on (Err x) e P is h = subst P (sym is) h

pub given_on : {A : Type 0} (r : Result A ScopeFault) (e : ScopeFault) (v : Verdict A) → IsErrAnd r (λ x. x ≡ e) → Faults v e → Gives r v
given_on (Ok x) e v is h = absurd is
given_on (Err x) e v is h = subst (λ e. Faults v e) (sym is) h

pub sources_faulty : (ts : Shapes) (own : Aliases) (ss : List Source) (i : ℕ) (s : Source) (e : ScopeFault) → i < length ss → s ≡ get_or ss i s
    → sources_left ts own (drop i ss) ≡ sources_left ts [] ss → Faults (judge_source ts own s) e → Faults (judge_sources ts [] ss) e
sources_faulty ts own ss i s e h is same = faults_on (judge_source ts own s) (judge_sources ts [] ss) e (λ rule place broken.
    sym (prefixed_none (judge_sources ts [] ss)) ∙ sym same ∙ ap (sources_left ts own) (drop_step ss i s h is) ∙ source_broken ts own s (drop (i + 1) ss) rule place broken)

pub sources_go_on : (ts : Shapes) (own new : Sources) (columns : Bor Columns) (ss : List Source) (i : ℕ) (s : Source) (all : Verdict Aliases) → i < length ss → s ≡ get_or ss i s
    → sources_left ts (bounds own) (drop i ss) ≡ all → judge_source ts (bounds own) s ≡ Fine (s.alias, columns.now) → new ≡ own ++ (s.alias, columns) ∷ [] → sources_left ts (bounds new) (drop (i + 1) ss) ≡ all
sources_go_on ts own new columns ss i s all h is same fine more =
    ap (λ (l : Sources). sources_left ts (bounds l) (drop (i + 1) ss)) more
    ∙ ap (λ (l : Aliases). sources_left ts l (drop (i + 1) ss)) (map-append (λ (x : List ℕ × Bor Columns). (x.0, x.1.now)) own ((s.alias, columns) ∷ []))
    ∙ sym (source_fine ts (bounds own) s (drop (i + 1) ss) (s.alias, columns.now) fine)
    ∙ ap (sources_left ts (bounds own)) (sym (drop_step ss i s h is)) ∙ same

some_mapped : {A B : Type 0} (f : A → B) (o : Option A) → is_some (option_map f o) ≡ is_some o
some_mapped f None = refl
some_mapped f (Some x) = refl

-- whether a name is among those that were looked through
pub among_looked : {A : Type 0} (name : List ℕ) (xs : List (List ℕ × A)) (o : Option (Bor A)) (b : Bool) → option_copied o ≡ found name xs → is_some o ≡ b → among name (names_in xs) ≡ b
among_looked name xs o b e is = among_found name xs ∙ ap is_some (sym e) ∙ some_mapped (λ r. r.now) o ∙ is

-- a name under which nothing was found
pub nothing_found : {A : Type 0} (o : Option (Bor A)) (f : Option A) → option_copied o ≡ f → is_some o ≡ false → f ≡ None
nothing_found None f e none = sym e
nothing_found (Some x) f e none = absurd (cc)

-- a source whose table was found, by whether its alias was
pub source_judged : (ts : Shapes) (own : Sources) (s : Source) (columns : Columns) (o : Option (Bor (Bor Columns))) (b : Bool) → Some columns ≡ found s.table ts → option_copied o ≡ found s.alias own → is_some o ≡ b
    → judge_source ts (bounds own) s ≡ unless b 2 s.place (Fine (s.alias, columns))
source_judged ts own s columns o b table alias is =
    ap (λ (f : Option Columns). and_then (or_broken 1 s.place f) (λ (columns : Columns). unless (is_some (found s.alias (bounds own))) 2 s.place (Fine (s.alias, columns)))) (sym table)
    ∙ ap (λ t. unless t 2 s.place (Fine (s.alias, columns)))
    (ap is_some (found_bound s.alias own) ∙ some_mapped (λ (r : Bor Columns). r.now) (found s.alias own) ∙ ap is_some (sym alias) ∙ some_mapped (λ (r : Bor (Bor Columns)). r.now) o ∙ is)

module _ (ts : Shapes) (env : Aliases) where
  pub items_twice : (columns : Columns) (is : List Item) (i : ℕ) (item : Item) (k : ColumnType) → i < length is → item ≡ get_or is i item
      → items_left ts env columns (drop i is) ≡ items_left ts env [] is → judge_value ts env (placed_value item.value) ≡ Fine k → among item.name (names_of columns) ≡ true
      → judge_items ts env [] (placed_items is) ≡ Broken 7 item.place
  items_twice columns is i item k h at same fine twice =
      sym (prefixed_none (judge_items ts env [] (placed_items is))) ∙ sym same ∙ ap (items_left ts env columns) (drop_step is i item h at)
      ∙ item_twice ts env columns item (drop (i + 1) is) k fine twice

  pub items_faulty : (columns : Columns) (is : List Item) (i : ℕ) (item : Item) (e : ScopeFault) → i < length is → item ≡ get_or is i item
      → items_left ts env columns (drop i is) ≡ items_left ts env [] is → Faults (judge_value ts env (placed_value item.value)) e → Faults (judge_items ts env [] (placed_items is)) e
  items_faulty columns is i item e h at same = faults_on (judge_value ts env (placed_value item.value)) (judge_items ts env [] (placed_items is)) e (λ rule place broken.
      sym (prefixed_none (judge_items ts env [] (placed_items is))) ∙ sym same ∙ ap (items_left ts env columns) (drop_step is i item h at) ∙ item_broken ts env columns item (drop (i + 1) is) rule place broken)

  pub items_go_on : (columns new : Columns) (is : List Item) (i : ℕ) (item : Item) (k : ColumnType) (all : Verdict Columns) → i < length is → item ≡ get_or is i item
      → items_left ts env columns (drop i is) ≡ all → judge_value ts env (placed_value item.value) ≡ Fine k → among item.name (names_of columns) ≡ false → new ≡ columns ++ (item.name, k) ∷ []
      → items_left ts env new (drop (i + 1) is) ≡ all
  items_go_on columns new is i item k all h at same fine other more =
      ap (λ (l : Columns). items_left ts env l (drop (i + 1) is)) more
      ∙ sym (item_fine ts env columns item (drop (i + 1) is) k fine other) ∙ ap (items_left ts env columns) (sym (drop_step is i item h at)) ∙ same

  pub items_end : (columns : Columns) (is : List Item) (i : ℕ) → length is ≤ i → items_left ts env columns (drop i is) ≡ items_left ts env [] is → judge_items ts env [] (placed_items is) ≡ Fine columns
  items_end columns is i h same =
      sym (prefixed_none (judge_items ts env [] (placed_items is))) ∙ sym same ∙ ap (items_left ts env columns) (drop_all i is h) ∙ ap Fine (append-nil columns)

withs_next : (ts : Shapes) (w : With) (ws : List With) {A : Type 0} (f : A → Columns) (o : Option A) → option_map f o ≡ found w.name ts
    → judge_withs ts (map placed_with (w ∷ ws)) ≡ unless (is_some o) 9 w.place (and_then (judge_query ts [] (placed_query w.query)) (λ columns. judge_withs ((w.name, columns) ∷ ts) (map placed_with ws)))
withs_next ts w ws f o e =
    ap (λ b. unless b 9 w.place (and_then (judge_query ts [] (placed_query w.query)) (λ columns. judge_withs ((w.name, columns) ∷ ts) (map placed_with ws))))
    (among_found w.name ts ∙ ap is_some (sym e) ∙ some_mapped f o)

abbrev withs_left : Shapes → List With → Verdict Shapes
withs_left ts ws = judge_withs ts (map placed_with ws)

pub withs_twice : {A : Type 0} (f : A → Columns) (o : Option A) (ts : Shapes) (ws : List With) (i : ℕ) (w : With) (all : Verdict Shapes) → i < length ws → w ≡ get_or ws i w
    → withs_left ts (drop i ws) ≡ all → option_map f o ≡ found w.name ts → is_some o ≡ true → all ≡ Broken 9 w.place
withs_twice f o ts ws i w all h is same e some =
    sym same ∙ ap (withs_left ts) (drop_step ws i w h is) ∙ withs_next ts w (drop (i + 1) ws) f o e
    ∙ ap (λ b. unless b 9 w.place (and_then (judge_query ts [] (placed_query w.query)) (λ columns. judge_withs ((w.name, columns) ∷ ts) (map placed_with (drop (i + 1) ws))))) some

pub withs_faulty : {A : Type 0} (f : A → Columns) (o : Option A) (ts : Shapes) (ws : List With) (i : ℕ) (w : With) (all : Verdict Shapes) (e : ScopeFault) → i < length ws → w ≡ get_or ws i w
    → withs_left ts (drop i ws) ≡ all → option_map f o ≡ found w.name ts → is_some o ≡ false → Faults (judge_query ts [] (placed_query w.query)) e → Faults all e
withs_faulty f o ts ws i w all e h is same found_is none = faults_on (judge_query ts [] (placed_query w.query)) all e (λ rule place broken.
    sym same ∙ ap (withs_left ts) (drop_step ws i w h is) ∙ withs_next ts w (drop (i + 1) ws) f o found_is
    ∙ ap (λ b. unless b 9 w.place (and_then (judge_query ts [] (placed_query w.query)) (λ columns. judge_withs ((w.name, columns) ∷ ts) (map placed_with (drop (i + 1) ws))))) none
    ∙ ap (λ v. and_then v (λ columns. judge_withs ((w.name, columns) ∷ ts) (map placed_with (drop (i + 1) ws)))) broken)

pub withs_go_on : {A : Type 0} (f : A → Columns) (o : Option A) (ts new : Shapes) (ws : List With) (i : ℕ) (w : With) (all : Verdict Shapes) (columns : Columns) → i < length ws → w ≡ get_or ws i w
    → withs_left ts (drop i ws) ≡ all → option_map f o ≡ found w.name ts → is_some o ≡ false → judge_query ts [] (placed_query w.query) ≡ Fine columns → new ≡ (w.name, columns) ∷ ts
    → withs_left new (drop (i + 1) ws) ≡ all
withs_go_on f o ts new ws i w all columns h is same found_is none fine more =
    ap (λ (l : Shapes). withs_left l (drop (i + 1) ws)) more
    ∙ sym (ap (withs_left ts) (drop_step ws i w h is) ∙ withs_next ts w (drop (i + 1) ws) f o found_is
    ∙ ap (λ b. unless b 9 w.place (and_then (judge_query ts [] (placed_query w.query)) (λ columns. judge_withs ((w.name, columns) ∷ ts) (map placed_with (drop (i + 1) ws))))) none
    ∙ ap (λ v. and_then v (λ columns. judge_withs ((w.name, columns) ∷ ts) (map placed_with (drop (i + 1) ws)))) fine)
    ∙ same

less_eq : (m n i : ℕ) → i ≤ min m n → eqb m n ≡ eqb (m - i) (n - i)
less_eq m n i h = grind (arith, nat_tests, h)

-- types that are compared to the end of one of the lists
module _ {N : Type 0} where
  abbrev types_in : List (N × ColumnType) → List ColumnType
  types_in xs = map (λ x. x.1) xs

  types_ended : (xs ys : List (N × ColumnType)) → min (length xs) (length ys) ≡ 0 → eqb (length xs) (length ys) ≡ same_types (types_in xs) (types_in ys)
  types_ended [] [] e = refl
  types_ended [] (y ∷ ys) e = grind (arith, nat_tests)
  types_ended (x ∷ xs) [] e = grind (arith, nat_tests)
  types_ended (x ∷ xs) (y ∷ ys) e = absurd (omega (arith, e))

  pub types_end : (xs ys : List (N × ColumnType)) (i : ℕ) → i ≤ min (length xs) (length ys) → min (length xs) (length ys) ≤ i → same_types (types_in (drop i xs)) (types_in (drop i ys)) ≡ same_types (types_in xs) (types_in ys)
      → eqb (length xs) (length ys) ≡ same_types (types_in xs) (types_in ys)
  types_end xs ys i low high same =
      let a = length-drop i xs in
      let b = length-drop i ys in
      less_eq (length xs) (length ys) i low ∙ ap (λ n. eqb n (length ys - i)) (sym a) ∙ ap (λ n. eqb (length (drop i xs)) n) (sym b)
      ∙ types_ended (drop i xs) (drop i ys) (omega (arith, low, high, a, b)) ∙ same
