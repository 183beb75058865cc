-- The walk is fine exactly where the tree is well scoped, and gives its columns.
use Rattle.std.proofs.Common.{◌≡◌, ℕ, Bool, true, false, cond, List, [], ◌∷◌, ◌++◌, map, Option, Some, None, refl, sym, ◌∙◌, ap, subst}
use Rattle.nq_model.specs.Operators.{unary_type, binary_type}
use Rattle.nq_model.specs.Tables.{Columns, types_of}
use Rattle.nq_model.specs.declared.table.ColumnType.{ColumnType}
use Rattle.nq_model.specs.declared.table.ColumnType.TheVariants.{Int, Bool as Truth, Text}
use Rattle.sql_profile.specs.declared.tree.Source.{Source}
use Rattle.sql_profile.specs.Trees.{bare_source, bare_expr, bare_exprs, bare_query, bare_select, bare_keep, bare_items, bare_value, bare_with, bare, PlacedExpr, int_at, bool_at, text_at, column_at, unary_at, binary_at, choose_at, not_exists_at, total_at, PlacedExprs, none_at, then_at, PlacedQuery, no_select_at, then_select_at, PlacedSelect, select_at, PlacedKeep, keep_all_at, keep_if_at, PlacedItems, no_item_at, then_item_at, item_at, PlacedValue, plain_at, number_at, PlacedWith, PlacedSql}
use Rattle.sql_profile.specs.Scope.{Shapes, Aliases, names_in, found, among, SourcesHave, HasType, QueryHas, OthersHave, SelectHas, KeepHas, ItemsHave, ValueHas, KeysHave, WithsHave, IsWellScoped, Verdict, Fine, Broken, and_then, or_broken, unless, same_type, same_types, wants, column_type, choose_type, expr_place, select_place, judge_sources, judge_expr, judge_query, judge_others, judge_select, judge_keep, judge_items, judge_value, judge_keys, judge_withs, judge}

-- both parts of a judgement were fine
record Split {A B : Type 0} (v : Verdict A) (f : A → Verdict B) (b : B) : Type 0 where
  first : A
  fine : v ≡ Fine first
  then_fine : f first ≡ Fine b

split : {A B : Type 0} (v : Verdict A) (f : A → Verdict B) (b : B) → and_then v f ≡ Fine b → Split v f b
split (Fine a) f b e = record { first = a; fine = refl; then_fine = e }
split (Broken r p) f b e = absurd (cc)

joined : {A B : Type 0} (v : Verdict A) (f : A → Verdict B) (a : A) (b : B) → v ≡ Fine a → f a ≡ Fine b → and_then v f ≡ Fine b
joined v f a b e h = ap (λ z. and_then z f) e ∙ h

some_of : {A : Type 0} (r p : ℕ) (o : Option A) (a : A) → or_broken r p o ≡ Fine a → o ≡ Some a
some_of r p None a e = absurd (cc)
some_of r p (Some b) a e = let h : b ≡ a = cc in ap (λ z. Some z) h

of_some : {A : Type 0} (r p : ℕ) (o : Option A) (a : A) → o ≡ Some a → or_broken r p o ≡ Fine a
of_some r p o a e = ap (λ z. or_broken r p z) e

record Passed {A : Type 0} (b : Bool) (v : Verdict A) (a : A) : Type 0 where
  off : b ≡ false
  on : v ≡ Fine a

passed : {A : Type 0} (b : Bool) (r p : ℕ) (v : Verdict A) (a : A) → unless b r p v ≡ Fine a → Passed b v a
passed true r p v a e = absurd (cc)
passed false r p v a e = record { off = refl; on = e }

passes : {A : Type 0} (b : Bool) (r p : ℕ) (v : Verdict A) (a : A) → b ≡ false → v ≡ Fine a → unless b r p v ≡ Fine a
passes b r p v a e h = ap (λ z. unless z r p v) e ∙ h

type_same : (i j : ColumnType) → same_type i j ≡ true → i ≡ j
type_same Int Int e = refl
type_same Truth Truth e = refl
type_same Text Text e = refl
type_same i j e = absurd (cc)

same_self : (i : ColumnType) → same_type i i ≡ true
same_self Int = refl
same_self Truth = refl
same_self Text = refl

record Wanted (k i j : ColumnType) : Type 0 where
  was : i ≡ k
  now : k ≡ j

fine_same : {A : Type 0} (a b : A) → ◌≡◌ {A = Verdict A} (Fine a) (Fine b) → a ≡ b
fine_same a b e = cc

wanted : (k i : ColumnType) (r p : ℕ) (j : ColumnType) → wants k i r p ≡ Fine j → Wanted k i j
wanted k i r p j e = go (same_type i k) refl e
  where
    go : (b : Bool) → same_type i k ≡ b → cond b (Fine k) (Broken r p) ≡ Fine j → Wanted k i j
    go true h g = record { was = type_same i k h; now = fine_same k j g }
    go false h g = absurd (cc)

want_met : (k : ColumnType) (r p : ℕ) → wants k k r p ≡ Fine k
want_met k r p = ap (λ b. cond b (Fine k) (Broken r p)) (same_self k)

types_same : (is js : List ColumnType) → same_types is js ≡ true → is ≡ js
types_same [] [] e = refl
types_same (i ∷ is) (j ∷ js) e = go (same_type i j) refl e (types_same is js)
  where
    go : (b : Bool) → same_type i j ≡ b → cond b (same_types is js) false ≡ true → (same_types is js ≡ true → is ≡ js) → (i ∷ is) ≡ (j ∷ js)
    go true h g rec = let a = type_same i j h in let b = rec g in cc
    go false h g rec = absurd (cc)
types_same is js e = absurd (cc)

types_self : (is : List ColumnType) → same_types is is ≡ true
types_self [] = refl
types_self (i ∷ is) = ap (λ b. cond b (same_types is is) false) (same_self i) ∙ types_self is

types_met : (is js : List ColumnType) → is ≡ js → same_types is js ≡ true
types_met is js e = subst (λ z. same_types is z ≡ true) e (types_self is)

column_found : (p : ℕ) (o : Option Columns) (c : List ℕ) (k : ColumnType) → column_type p o c ≡ Fine k → (columns : Columns) × (o ≡ Some columns) × (found c columns ≡ Some k)
column_found p None c k e = absurd (cc)
column_found p (Some columns) c k e = (columns, refl, some_of 4 p (found c columns) k e)

chosen : (p : ℕ) (i j k l : ColumnType) → choose_type p i j k ≡ Fine l → (i ≡ Truth) × (j ≡ l) × (k ≡ l)
chosen p Truth j k l e = let w = wanted k j 6 p l e in (refl, w.was ∙ w.now, w.now)
chosen p Int j k l e = absurd (cc)
chosen p Text j k l e = absurd (cc)

sources_judged : (ts : Shapes) (seen : List (List ℕ)) (ss : List Source) (own : Aliases) → judge_sources ts seen ss ≡ Fine own → SourcesHave ts seen (map bare_source ss) own
sources_judged ts seen [] own e = sym (fine_same [] own e)
sources_judged ts seen (s ∷ ss) own e =
    let a = split (or_broken 1 s.place (found s.table ts)) _ own e in
    let b = passed (among s.alias seen) 2 s.place _ own a.then_fine in
    let c = split (judge_sources ts (s.alias ∷ seen) ss) _ own b.on in
    (a.first, c.first, some_of 1 s.place (found s.table ts) a.first a.fine, b.off, sources_judged ts (s.alias ∷ seen) ss c.first c.fine, sym (fine_same _ own c.then_fine))

sources_fine : (ts : Shapes) (seen : List (List ℕ)) (ss : List Source) (own : Aliases) → SourcesHave ts seen (map bare_source ss) own → judge_sources ts seen ss ≡ Fine own
sources_fine ts seen [] own h = ap (λ z. Fine z) (sym h)
sources_fine ts seen (s ∷ ss) own (columns, rest, a, b, c, d) =
    joined (or_broken 1 s.place (found s.table ts)) _ columns own (of_some 1 s.place (found s.table ts) columns a)
    (passes (among s.alias seen) 2 s.place _ own b (joined (judge_sources ts (s.alias ∷ seen) ss) _ rest own (sources_fine ts (s.alias ∷ seen) ss rest c) (ap (λ z. Fine z) (sym d))))

alike : (is js : List ColumnType) (v : Verdict Columns) (p : ℕ) (ds : Columns) → cond (same_types is js) v (Broken 8 p) ≡ Fine ds → (is ≡ js) × (v ≡ Fine ds)
alike is js v p ds e = go (same_types is js) refl e
  where
    go : (b : Bool) → same_types is js ≡ b → cond b v (Broken 8 p) ≡ Fine ds → (is ≡ js) × (v ≡ Fine ds)
    go true h g = (types_same is js h, g)
    go false h g = absurd (cc)

mutual
  judged : (ts : Shapes) (env : Aliases) (e : PlacedExpr) (k : ColumnType) → judge_expr ts env e ≡ Fine k → HasType ts env (bare_expr e) k
  judged ts env (int_at p n) k e = sym (fine_same _ k e)
  judged ts env (bool_at p b) k e = sym (fine_same _ k e)
  judged ts env (text_at p t) k e = sym (fine_same _ k e)
  judged ts env (column_at p a c) k e = column_found p (found a env) c k e
  judged ts env (unary_at p op x) k e =
      let s = split (judge_expr ts env x) _ k e in
      (s.first, judged ts env x s.first s.fine, some_of 5 p (unary_type op s.first) k s.then_fine)
  judged ts env (binary_at p op l r) k e =
      let s = split (judge_expr ts env l) _ k e in
      let u = split (judge_expr ts env r) _ k s.then_fine in
      (s.first, u.first, judged ts env l s.first s.fine, judged ts env r u.first u.fine, some_of 5 p (binary_type op s.first u.first) k u.then_fine)
  judged ts env (choose_at p t y n) k e =
      let s = split (judge_expr ts env t) _ k e in
      let u = split (judge_expr ts env y) _ k s.then_fine in
      let v = split (judge_expr ts env n) _ k u.then_fine in
      let c = chosen p s.first u.first v.first k v.then_fine in
      (subst (λ z. HasType ts env (bare_expr t) z) c.0 (judged ts env t s.first s.fine), subst (λ z. HasType ts env (bare_expr y) z) c.1 (judged ts env y u.first u.fine), subst (λ z. HasType ts env (bare_expr n) z) c.2 (judged ts env n v.first v.fine))
  judged ts env (not_exists_at p q) k e =
      let s = split (judge_query ts env q) _ k e in
      (s.first, query_judged ts env q s.first s.fine, sym (fine_same Truth k s.then_fine))
  judged ts env (total_at p g from keep x) k e =
      let a = split (judge_sources ts [] from) _ k e in
      let b = split (judge_keep ts (a.first ++ env) keep) _ k a.then_fine in
      let c = split (judge_expr ts (a.first ++ env) x) _ k b.then_fine in
      let w = wanted Int c.first 10 (expr_place x) k c.then_fine in
      (a.first, sources_judged ts [] from a.first a.fine, keep_judged ts (a.first ++ env) keep b.first b.fine, subst (λ z. HasType ts (a.first ++ env) (bare_expr x) z) w.was (judged ts (a.first ++ env) x c.first c.fine), sym w.now)

  query_judged : (ts : Shapes) (env : Aliases) (q : PlacedQuery) (columns : Columns) → judge_query ts env q ≡ Fine columns → QueryHas ts env (bare_query q) columns
  query_judged ts env no_select_at columns e = absurd (cc)
  query_judged ts env (then_select_at s q) columns e =
      let a = split (judge_select ts env s) _ columns e in
      let b = others_judged ts env a.first q columns a.then_fine in
      (subst (λ (z : Columns). SelectHas ts env (bare_select s) z) b.0 (select_judged ts env s a.first a.fine), subst (λ (z : Columns). OthersHave ts env (bare_query q) (types_of z)) b.0 b.1)

  others_judged : (ts : Shapes) (env : Aliases) (columns : Columns) (q : PlacedQuery) (ds : Columns) → judge_others ts env columns q ≡ Fine ds → (columns ≡ ds) × OthersHave ts env (bare_query q) (types_of columns)
  others_judged ts env columns no_select_at ds e = (fine_same columns ds e, tt)
  others_judged ts env columns (then_select_at s q) ds e =
      let a = split (judge_select ts env s) _ ds e in
      let b = alike (types_of a.first) (types_of columns) (judge_others ts env columns q) (select_place s) ds a.then_fine in
      let c = others_judged ts env columns q ds b.1 in
      (c.0, (a.first, select_judged ts env s a.first a.fine, b.0, c.1))

  select_judged : (ts : Shapes) (env : Aliases) (s : PlacedSelect) (columns : Columns) → judge_select ts env s ≡ Fine columns → SelectHas ts env (bare_select s) columns
  select_judged ts env (select_at p is from keep) columns e =
      let a = split (judge_sources ts [] from) _ columns e in
      let b = split (judge_keep ts (a.first ++ env) keep) _ columns a.then_fine in
      (a.first, sources_judged ts [] from a.first a.fine, keep_judged ts (a.first ++ env) keep b.first b.fine, items_judged ts (a.first ++ env) [] is columns b.then_fine)

  keep_judged : (ts : Shapes) (env : Aliases) (keep : PlacedKeep) (i : ColumnType) → judge_keep ts env keep ≡ Fine i → KeepHas ts env (bare_keep keep)
  keep_judged ts env keep_all_at i e = tt
  keep_judged ts env (keep_if_at x) i e =
      let s = split (judge_expr ts env x) _ i e in
      let w = wanted Truth s.first 6 (expr_place x) i s.then_fine in
      subst (λ z. HasType ts env (bare_expr x) z) w.was (judged ts env x s.first s.fine)

  items_judged : (ts : Shapes) (env : Aliases) (seen : List (List ℕ)) (is : PlacedItems) (columns : Columns) → judge_items ts env seen is ≡ Fine columns → ItemsHave ts env seen (bare_items is) columns
  items_judged ts env seen no_item_at columns e = sym (fine_same [] columns e)
  items_judged ts env seen (then_item_at (item_at p n v) is) columns e =
      let a = split (judge_value ts env v) _ columns e in
      let b = passed (among n seen) 7 p _ columns a.then_fine in
      let c = split (judge_items ts env (n ∷ seen) is) _ columns b.on in
      (a.first, c.first, value_judged ts env v a.first a.fine, b.off, items_judged ts env (n ∷ seen) is c.first c.fine, sym (fine_same _ columns c.then_fine))

  value_judged : (ts : Shapes) (env : Aliases) (v : PlacedValue) (k : ColumnType) → judge_value ts env v ≡ Fine k → ValueHas ts env (bare_value v) k
  value_judged ts env (plain_at x) k e = judged ts env x k e
  value_judged ts env (number_at es) k e = keys_judged ts env es k e

  keys_judged : (ts : Shapes) (env : Aliases) (es : PlacedExprs) (k : ColumnType) → judge_keys ts env es ≡ Fine k → KeysHave ts env (bare_exprs es) × (k ≡ Int)
  keys_judged ts env none_at k e = (tt, sym (fine_same Int k e))
  keys_judged ts env (then_at x es) k e =
      let s = split (judge_expr ts env x) _ k e in
      let r = keys_judged ts env es k s.then_fine in
      ((s.first, judged ts env x s.first s.fine, r.0), r.1)

mutual
  fine : (ts : Shapes) (env : Aliases) (e : PlacedExpr) (k : ColumnType) → HasType ts env (bare_expr e) k → judge_expr ts env e ≡ Fine k
  fine ts env (int_at p n) k h = ap (λ z. Fine z) (sym h)
  fine ts env (bool_at p b) k h = ap (λ z. Fine z) (sym h)
  fine ts env (text_at p t) k h = ap (λ z. Fine z) (sym h)
  fine ts env (column_at p a c) k h = ap (λ z. column_type p z c) h.1 ∙ of_some 4 p (found c h.0) k h.2
  fine ts env (unary_at p op x) k h = joined (judge_expr ts env x) _ h.0 k (fine ts env x h.0 h.1) (of_some 5 p (unary_type op h.0) k h.2)
  fine ts env (binary_at p op l r) k h =
      joined (judge_expr ts env l) _ h.0 k (fine ts env l h.0 h.2) (joined (judge_expr ts env r) _ h.1 k (fine ts env r h.1 h.3) (of_some 5 p (binary_type op h.0 h.1) k h.4))
  fine ts env (choose_at p t y n) k h =
      joined (judge_expr ts env t) _ Truth k (fine ts env t Truth h.0) (joined (judge_expr ts env y) _ k k (fine ts env y k h.1) (joined (judge_expr ts env n) _ k k (fine ts env n k h.2) (want_met k 6 p)))
  fine ts env (not_exists_at p q) k h = joined (judge_query ts env q) _ h.0 k (query_fine ts env q h.0 h.1) (ap (λ z. Fine z) (sym h.2))
  fine ts env (total_at p g from keep x) k h =
      joined (judge_sources ts [] from) _ h.0 k (sources_fine ts [] from h.0 h.1)
      (joined (judge_keep ts (h.0 ++ env) keep) _ Truth k (keep_fine ts (h.0 ++ env) keep h.2)
      (joined (judge_expr ts (h.0 ++ env) x) _ Int k (fine ts (h.0 ++ env) x Int h.3) (want_met Int 10 (expr_place x) ∙ ap (λ z. Fine z) (sym h.4))))

  query_fine : (ts : Shapes) (env : Aliases) (q : PlacedQuery) (columns : Columns) → QueryHas ts env (bare_query q) columns → judge_query ts env q ≡ Fine columns
  query_fine ts env no_select_at columns h = absurd h
  query_fine ts env (then_select_at s q) columns h = joined (judge_select ts env s) _ columns columns (select_fine ts env s columns h.0) (others_fine ts env columns q h.1)

  others_fine : (ts : Shapes) (env : Aliases) (columns : Columns) (q : PlacedQuery) → OthersHave ts env (bare_query q) (types_of columns) → judge_others ts env columns q ≡ Fine columns
  others_fine ts env columns no_select_at h = refl
  others_fine ts env columns (then_select_at s q) h =
      joined (judge_select ts env s) _ h.0 columns (select_fine ts env s h.0 h.1)
      (ap (λ b. cond b (judge_others ts env columns q) (Broken 8 (select_place s))) (types_met (types_of h.0) (types_of columns) h.2) ∙ others_fine ts env columns q h.3)

  select_fine : (ts : Shapes) (env : Aliases) (s : PlacedSelect) (columns : Columns) → SelectHas ts env (bare_select s) columns → judge_select ts env s ≡ Fine columns
  select_fine ts env (select_at p is from keep) columns h =
      joined (judge_sources ts [] from) _ h.0 columns (sources_fine ts [] from h.0 h.1)
      (joined (judge_keep ts (h.0 ++ env) keep) _ Truth columns (keep_fine ts (h.0 ++ env) keep h.2) (items_fine ts (h.0 ++ env) [] is columns h.3))

  keep_fine : (ts : Shapes) (env : Aliases) (keep : PlacedKeep) → KeepHas ts env (bare_keep keep) → judge_keep ts env keep ≡ Fine Truth
  keep_fine ts env keep_all_at h = refl
  keep_fine ts env (keep_if_at x) h = joined (judge_expr ts env x) _ Truth Truth (fine ts env x Truth h) refl

  items_fine : (ts : Shapes) (env : Aliases) (seen : List (List ℕ)) (is : PlacedItems) (columns : Columns) → ItemsHave ts env seen (bare_items is) columns → judge_items ts env seen is ≡ Fine columns
  items_fine ts env seen no_item_at columns h = ap (λ z. Fine z) (sym h)
  items_fine ts env seen (then_item_at (item_at p n v) is) columns h =
      joined (judge_value ts env v) _ h.0 columns (value_fine ts env v h.0 h.2)
      (passes (among n seen) 7 p _ columns h.3 (joined (judge_items ts env (n ∷ seen) is) _ h.1 columns (items_fine ts env (n ∷ seen) is h.1 h.4) (ap (λ z. Fine z) (sym h.5))))

  value_fine : (ts : Shapes) (env : Aliases) (v : PlacedValue) (k : ColumnType) → ValueHas ts env (bare_value v) k → judge_value ts env v ≡ Fine k
  value_fine ts env (plain_at x) k h = fine ts env x k h
  value_fine ts env (number_at es) k h = keys_fine ts env es h.0 ∙ ap (λ z. Fine z) (sym h.1)

  keys_fine : (ts : Shapes) (env : Aliases) (es : PlacedExprs) → KeysHave ts env (bare_exprs es) → judge_keys ts env es ≡ Fine Int
  keys_fine ts env none_at h = refl
  keys_fine ts env (then_at x es) h = joined (judge_expr ts env x) _ h.0 Int (fine ts env x h.0 h.1) (keys_fine ts env es h.2)

withs_judged : (ts : Shapes) (ws : List PlacedWith) (all : Shapes) → judge_withs ts ws ≡ Fine all → WithsHave ts (map bare_with ws) all
withs_judged ts [] all e = sym (fine_same ts all e)
withs_judged ts (w ∷ ws) all e =
    let a = passed (among w.name (names_in ts)) 9 w.place _ all e in
    let b = split (judge_query ts [] w.query) _ all a.on in
    (b.first, a.off, query_judged ts [] w.query b.first b.fine, withs_judged ((w.name, b.first) ∷ ts) ws all b.then_fine)

withs_fine : (ts : Shapes) (ws : List PlacedWith) (all : Shapes) → WithsHave ts (map bare_with ws) all → judge_withs ts ws ≡ Fine all
withs_fine ts [] all h = ap (λ z. Fine z) (sym h)
withs_fine ts (w ∷ ws) all h =
    passes (among w.name (names_in ts)) 9 w.place _ all h.1 (joined (judge_query ts [] w.query) _ h.0 all (query_fine ts [] w.query h.0 h.2) (withs_fine ((w.name, h.0) ∷ ts) ws all h.3))

-- the walk is fine with these columns exactly where the tree is well scoped with them
pub tree_judged : (ts : Shapes) (tree : PlacedSql) (columns : Columns) → judge ts tree ≡ Fine columns → IsWellScoped ts (bare tree) columns
tree_judged ts tree columns e =
    let a = split (judge_withs ts tree.withs) _ columns e in
    (a.first, withs_judged ts tree.withs a.first a.fine, query_judged a.first [] tree.main columns a.then_fine)

pub tree_fine : (ts : Shapes) (tree : PlacedSql) (columns : Columns) → IsWellScoped ts (bare tree) columns → judge ts tree ≡ Fine columns
tree_fine ts tree columns h = joined (judge_withs ts tree.withs) _ h.0 columns (withs_fine ts tree.withs h.0 h.1) (query_fine h.0 [] tree.main columns h.2)

-- a rule is broken exactly where the tree has no columns
pub tree_broken : (ts : Shapes) (tree : PlacedSql) (columns : Columns) (rule place : ℕ) → judge ts tree ≡ Broken rule place → IsWellScoped ts (bare tree) columns → ⊥
tree_broken ts tree columns rule place e h = let x : Fine columns ≡ Broken rule place = sym (tree_fine ts tree columns h) ∙ e in absurd (cc)
