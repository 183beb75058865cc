-- The walk over lists, part by part.
use Rattle.std.proofs.Common.{◌≡◌, ℕ, Bool, true, false, cond, List, [], ◌∷◌, ◌++◌, map, Option, Some, None, is_some, refl, sym, ap, ◌∙◌, append_assoc}
use Rattle.nq_model.specs.Tables.{Columns, names_of, types_of}
use Rattle.nq_model.specs.declared.table.ColumnType.{ColumnType}
use Rattle.sql_profile.specs.declared.tree.Item.{Item}
use Rattle.sql_profile.specs.declared.tree.Select.{Select}
use Rattle.sql_profile.specs.declared.tree.Source.{Source}
use Rattle.sql_profile.specs.Scope.{Aliases, Broken, Fine, Shapes, Verdict, among, and_then, found, judge_items, judge_others, judge_query, judge_select, judge_sources, judge_value, names_in, or_broken, same_types, select_place, unless}
use Rattle.sql_profile.specs.Trees.{PlacedItem, items_of, placed_item, placed_select, placed_value, query_of}
use Rattle.sql_profile.proofs.Trees.{item_placed}
use Rattle.sql_scope.specs.Names.{before}
use Rattle.sql_scope.specs.Steps.{alike, judge_source, placed_items}
use Rattle.sql_scope.proofs.Lookups.{among_found, among_reversed, before_more}

-- these before those of a verdict
abbrev pub prefixed : {A : Type 0} → List A → Verdict (List A) → Verdict (List A)
prefixed xs v = and_then v (λ more. Fine (xs ++ more))

pub prefixed_none : {A : Type 0} (v : Verdict (List A)) → prefixed [] v ≡ v
prefixed_none (Fine xs) = refl
prefixed_none (Broken r p) = refl

prefixed_more : {A : Type 0} (xs : List A) (x : A) (v : Verdict (List A)) → prefixed xs (and_then v (λ more. Fine (x ∷ more))) ≡ prefixed (xs ++ x ∷ []) v
prefixed_more xs x (Fine more) = ap Fine (sym (append_assoc xs (x ∷ []) more))
prefixed_more xs x (Broken r p) = refl

names_more : (columns : Columns) (c : List ℕ × ColumnType) → names_of (columns ++ c ∷ []) ≡ names_of columns ++ c.0 ∷ []
names_more [] c = refl
names_more (d ∷ ds) c = ap (λ (l : List (List ℕ)). d.0 ∷ l) (names_more ds c)

module _ (ts : Shapes) (env : Aliases) where
  -- the items that are left, behind these columns
  abbrev pub items_left : Columns → List Item → Verdict Columns
  items_left columns items = prefixed columns (judge_items ts env (before (names_of columns) []) (placed_items items))

  items_next : (columns : Columns) (i : Item) (is : List Item)
      → items_left columns (i ∷ is)
      ≡ prefixed columns (and_then (judge_value ts env (placed_value i.value)) (λ k. unless (among i.name (names_of columns)) 7 i.place
      (and_then (judge_items ts env (i.name ∷ before (names_of columns) []) (placed_items is)) (λ more. Fine ((i.name, k) ∷ more)))))
  items_next columns i is =
      ap (λ (j : PlacedItem). prefixed columns (judge_items ts env (before (names_of columns) []) (items_of (j ∷ map placed_item is)))) (item_placed i)
      ∙ ap (λ b. prefixed columns (and_then (judge_value ts env (placed_value i.value)) (λ k. unless b 7 i.place
      (and_then (judge_items ts env (i.name ∷ before (names_of columns) []) (placed_items is)) (λ more. Fine ((i.name, k) ∷ more)))))) (among_reversed i.name (names_of columns))

  pub item_fine : (columns : Columns) (i : Item) (is : List Item) (k : ColumnType) → judge_value ts env (placed_value i.value) ≡ Fine k → among i.name (names_of columns) ≡ false
      → items_left columns (i ∷ is) ≡ items_left (columns ++ (i.name, k) ∷ []) is
  item_fine columns i is k e other =
      items_next columns i is
      ∙ ap (λ v. prefixed columns (and_then v (λ k. unless (among i.name (names_of columns)) 7 i.place
      (and_then (judge_items ts env (i.name ∷ before (names_of columns) []) (placed_items is)) (λ more. Fine ((i.name, k) ∷ more)))))) e
      ∙ ap (λ b. prefixed columns (unless b 7 i.place (and_then (judge_items ts env (i.name ∷ before (names_of columns) []) (placed_items is)) (λ more. Fine ((i.name, k) ∷ more))))) other
      ∙ prefixed_more columns (i.name, k) (judge_items ts env (i.name ∷ before (names_of columns) []) (placed_items is))
      ∙ ap (λ (seen : List (List ℕ)). prefixed (columns ++ (i.name, k) ∷ []) (judge_items ts env seen (placed_items is))) (sym (ap (λ (l : List (List ℕ)). before l []) (names_more columns (i.name, k)) ∙ before_more (names_of columns) i.name []))

  pub item_broken : (columns : Columns) (i : Item) (is : List Item) (rule place : ℕ) → judge_value ts env (placed_value i.value) ≡ Broken rule place → items_left columns (i ∷ is) ≡ Broken rule place
  item_broken columns i is rule place e =
      items_next columns i is
      ∙ ap (λ v. prefixed columns (and_then v (λ k. unless (among i.name (names_of columns)) 7 i.place
      (and_then (judge_items ts env (i.name ∷ before (names_of columns) []) (placed_items is)) (λ more. Fine ((i.name, k) ∷ more)))))) e

  pub item_twice : (columns : Columns) (i : Item) (is : List Item) (k : ColumnType) → judge_value ts env (placed_value i.value) ≡ Fine k → among i.name (names_of columns) ≡ true
      → items_left columns (i ∷ is) ≡ Broken 7 i.place
  item_twice columns i is k e twice =
      items_next columns i is
      ∙ ap (λ v. prefixed columns (and_then v (λ k. unless (among i.name (names_of columns)) 7 i.place
      (and_then (judge_items ts env (i.name ∷ before (names_of columns) []) (placed_items is)) (λ more. Fine ((i.name, k) ∷ more)))))) e
      ∙ ap (λ b. prefixed columns (unless b 7 i.place (and_then (judge_items ts env (i.name ∷ before (names_of columns) []) (placed_items is)) (λ more. Fine ((i.name, k) ∷ more))))) twice

  -- the SELECTs that are left, behind the first if it was judged
  abbrev pub selects_left : Option Columns → List Select → Verdict Columns
  selects_left None ss = judge_query ts env (query_of (map placed_select ss))
  selects_left (Some first) ss = judge_others ts env first (query_of (map placed_select ss))

  pub select_fine : (first : Option Columns) (s : Select) (ss : List Select) (place : ℕ) (columns all : Columns) → select_place (placed_select s) ≡ place
      → judge_select ts env (placed_select s) ≡ Fine columns → alike first columns place ≡ Fine all → selects_left first (s ∷ ss) ≡ selects_left (Some all) ss
  select_fine None s ss place columns all at e h =
      let same : columns ≡ all = fine_same columns all h in
      ap (λ v. and_then v (λ c. judge_others ts env c (query_of (map placed_select ss)))) e ∙ ap (λ (c : Columns). judge_others ts env c (query_of (map placed_select ss))) same
    where
      fine_same : (a b : Columns) → ◌≡◌ {A = Verdict Columns} (Fine a) (Fine b) → a ≡ b
      fine_same a b e = cc
  select_fine (Some first) s ss place columns all at e h =
      ap (λ v. and_then v (λ others. cond (same_types (types_of others) (types_of first)) (judge_others ts env first (query_of (map placed_select ss))) (Broken 8 (select_place (placed_select s))))) e
      ∙ go (same_types (types_of columns) (types_of first)) h
    where
      go : (b : Bool) → cond b (Fine first) (Broken 8 place) ≡ Fine all
          → cond b (judge_others ts env first (query_of (map placed_select ss))) (Broken 8 (select_place (placed_select s))) ≡ judge_others ts env all (query_of (map placed_select ss))
      go true h = let same : first ≡ all = cc in ap (λ (c : Columns). judge_others ts env c (query_of (map placed_select ss))) same
      go false h = absurd (cc)

  pub select_broken : (first : Option Columns) (s : Select) (ss : List Select) (rule place : ℕ) → judge_select ts env (placed_select s) ≡ Broken rule place → selects_left first (s ∷ ss) ≡ Broken rule place
  select_broken None s ss rule place e = ap (λ v. and_then v (λ c. judge_others ts env c (query_of (map placed_select ss)))) e
  select_broken (Some first) s ss rule place e =
      ap (λ v. and_then v (λ others. cond (same_types (types_of others) (types_of first)) (judge_others ts env first (query_of (map placed_select ss))) (Broken 8 (select_place (placed_select s))))) e

  pub select_differs : (first : Option Columns) (s : Select) (ss : List Select) (columns : Columns) (at rule place : ℕ) → select_place (placed_select s) ≡ at
      → judge_select ts env (placed_select s) ≡ Fine columns → alike first columns at ≡ Broken rule place → selects_left first (s ∷ ss) ≡ Broken rule place
  select_differs None s ss columns at rule place is e h = absurd (cc)
  select_differs (Some first) s ss columns at rule place is e h =
      ap (λ v. and_then v (λ others. cond (same_types (types_of others) (types_of first)) (judge_others ts env first (query_of (map placed_select ss))) (Broken 8 (select_place (placed_select s))))) e
      ∙ go (same_types (types_of columns) (types_of first)) h
    where
      go : (b : Bool) → cond b (Fine first) (Broken 8 at) ≡ Broken rule place
          → cond b (judge_others ts env first (query_of (map placed_select ss))) (Broken 8 (select_place (placed_select s))) ≡ Broken rule place
      go true h = absurd (cc)
      go false h = ap (λ p. Broken 8 p) is ∙ h

-- the sources that are left, behind these
abbrev pub sources_left : Shapes → Aliases → List Source → Verdict Aliases
sources_left ts own ss = prefixed own (judge_sources ts (before (names_in own) []) ss)

aliases_more : (own : Aliases) (b : List ℕ × Columns) → names_in (own ++ b ∷ []) ≡ names_in own ++ b.0 ∷ []
aliases_more [] b = refl
aliases_more (c ∷ cs) b = ap (λ (l : List (List ℕ)). c.0 ∷ l) (aliases_more cs b)

abbrev source_step : Shapes → Aliases → Source → List Source → Bool → Columns → Verdict Aliases
source_step ts own s ss b columns = unless b 2 s.place (and_then (judge_sources ts (s.alias ∷ before (names_in own) []) ss) (λ more. Fine ((s.alias, columns) ∷ more)))

sources_next : (ts : Shapes) (own : Aliases) (s : Source) (ss : List Source)
    → sources_left ts own (s ∷ ss) ≡ prefixed own (and_then (or_broken 1 s.place (found s.table ts)) (source_step ts own s ss (is_some (found s.alias own))))
sources_next ts own s ss =
    ap (λ b. prefixed own (and_then (or_broken 1 s.place (found s.table ts)) (source_step ts own s ss b))) (among_reversed s.alias (names_in own) ∙ among_found s.alias own)

pub source_fine : (ts : Shapes) (own : Aliases) (s : Source) (ss : List Source) (b : List ℕ × Columns) → judge_source ts own s ≡ Fine b → sources_left ts own (s ∷ ss) ≡ sources_left ts (own ++ b ∷ []) ss
source_fine ts own s ss b e = sources_next ts own s ss ∙ go (found s.table ts) (is_some (found s.alias own)) e
  where
    last : (columns : Columns) → ◌≡◌ {A = Verdict (List ℕ × Columns)} (Fine (s.alias, columns)) (Fine b) → prefixed own (and_then (judge_sources ts (s.alias ∷ before (names_in own) []) ss) (λ more. Fine ((s.alias, columns) ∷ more))) ≡ sources_left ts (own ++ b ∷ []) ss
    last columns h =
        let same : ◌≡◌ {A = List ℕ × Columns} (s.alias, columns) b = cc in
        prefixed_more own (s.alias, columns) (judge_sources ts (s.alias ∷ before (names_in own) []) ss)
        ∙ ap (λ (seen : List (List ℕ)). prefixed (own ++ (s.alias, columns) ∷ []) (judge_sources ts seen ss)) (sym (ap (λ (l : List (List ℕ)). before l []) (aliases_more own (s.alias, columns)) ∙ before_more (names_in own) s.alias []))
        ∙ ap (λ (c : List ℕ × Columns). sources_left ts (own ++ c ∷ []) ss) same

    go : (o : Option Columns) (t : Bool) → and_then (or_broken 1 s.place o) (λ columns. unless t 2 s.place (Fine (s.alias, columns))) ≡ Fine b
        → prefixed own (and_then (or_broken 1 s.place o) (source_step ts own s ss t)) ≡ sources_left ts (own ++ b ∷ []) ss
    go None t h = absurd (cc)
    go (Some columns) true h = absurd (cc)
    go (Some columns) false h = last columns h

pub source_broken : (ts : Shapes) (own : Aliases) (s : Source) (ss : List Source) (rule place : ℕ) → judge_source ts own s ≡ Broken rule place → sources_left ts own (s ∷ ss) ≡ Broken rule place
source_broken ts own s ss rule place e = sources_next ts own s ss ∙ go (found s.table ts) (is_some (found s.alias own)) e
  where
    same : {A B : Type 0} (r q : ℕ) → ◌≡◌ {A = Verdict A} (Broken r q) (Broken rule place) → ◌≡◌ {A = Verdict B} (Broken r q) (Broken rule place)
    same r q h = let a : r ≡ rule = cc in let b : q ≡ place = cc in cc

    go : (o : Option Columns) (t : Bool) → and_then {B = List ℕ × Columns} (or_broken 1 s.place o) (λ columns. unless t 2 s.place (Fine (s.alias, columns))) ≡ Broken rule place
        → prefixed own (and_then (or_broken 1 s.place o) (source_step ts own s ss t)) ≡ Broken rule place
    go None t h = same 1 s.place h
    go (Some columns) true h = same 2 s.place h
    go (Some columns) false h = absurd (cc)
