-- The term as which a form prints means what the form means.
use Rattle.std.proofs.Common.{◌≡◌, ℕ, suc, List, [], ◌∷◌, ◌++◌, map, zip, refl, sym, ap, ap₂, ◌∙◌, subst, Bool, true, false, cond, filter, flat_map, find, get_or, append_assoc, pos, append-nil, nat_eq, ◌&&◌, Some, bytes_eq}
use Rattle.std.specs.Prelude.{⊤}
use Rattle.std.specs.List.{AllByRecursion as Each}
use Rattle.std.specs.Ordering.{is_gt}
use Rattle.std.specs.declared.cmp.Ordering.TheVariants.{Less, Equal, Greater}
use Rattle.std.specs.Ordering.{ordering_reverse}
use Rattle.std.proofs.lemmas.Bool.Decides.{Decides-eqb}
use Rattle.std.proofs.lemmas.List.{length-map}
use Rattle.std.proofs.lemmas.Slice.Eq.{bytes_eq-Decides}
use Rattle.std.specs.Int.{int_wrap, w64}
use Rattle.std.specs.declared.cmp.Ordering.{Ordering}
use Rattle.std.specs.Cmp.Lexicographic.{nat_list_cmp_total}
use Rattle.nq_model.specs.Databases.{FilledTable, rows_value, table_meaning}
use Rattle.nq_model.specs.Meaning.{cell_of, elements_in, field_in, value_under, put_field, is_none, meaning, field_meanings}
use Rattle.nq_model.specs.NamedRows.{Label, Row, no_cell, cell_under, named_table, rows_named}
use Rattle.nq_model.specs.Operators.{is_true, unary_value, binary_value}
use Rattle.nq_model.specs.Orders.{AreDistinct, AreRising, by_label, label_cmp}
use Rattle.nq_model.specs.Tables.{names_of, row_record}
use Rattle.nq_model.specs.Totals.{HowMany, SumOf, count_of, sum_of}
use Rattle.nq_model.specs.Proper.{IsOrdered, AreOrdered, labels_of}
use Rattle.nq_model.specs.Types.{TypeTree, FieldTypes}
use Rattle.nq_model.specs.declared.table.TableShape.{TableShape}
use Rattle.nq_model.specs.Values.{Nested, base, rec, Fields, fields_of, bag_of, rec_of}
use Rattle.nq_model.specs.declared.table.Cell.{Cell}
use Rattle.nq_model.specs.declared.table.Cell.TheVariants as cell
use Rattle.nq_model.specs.declared.term.Binary.TheVariants.{And}
use Rattle.nq_model.proofs.Sameness.{elements_back}
use Rattle.nq_ir.specs.declared.base.Gen.{Gen}
use Rattle.nq_ir.specs.Meanings.{Tables, Env, rows_in, row_of, choices, value, all_true, no_kept, kept, body_meaning, bodies_meaning, comps_meaning, form_meaning}
use Rattle.nq_ir.specs.Printed.{NamedTerm, no_field, place_of, bound, bound_fields, under_gens, unit_bag, named_base, named_where, and_then, named_tests, tests_then, named_body, named_fields, named_comps, comps_then, printed_term}
use Rattle.nq_ir.specs.Trees.{BaseTree, Conds, no_cond, and_cond, Tests, no_test, test, BodyTree, plain_body, rec_body, bag_body, Bodies, no_body, with_body, Comps, no_comp, comp, FormTree}
use Rattle.nq_ir.specs.WellFormed.{IsWellFormed, BodyHas, BodiesHave, CompsHave, base_numbers, conds_numbers, tests_numbers, body_numbers, bodies_numbers, comps_numbers}
use Rattle.normal_printer.specs.Parts.{comp_term}
use Rattle.nq_ir.proofs.Distinct.{each_join}
use Rattle.nq_ir.proofs.Equal.{bytes_turned, nat_differ}
use Rattle.nq_ir.proofs.Nested.{each_flat, each_mapped, flat_same, flat_flat, flat_of_map}
use Rattle.nq_ir.proofs.Numbered.{each_weaker}

-- a row as a record, its labels in byte order
abbrev pub row_fields : Row → List (Label × Nested)
row_fields r = by_label (map (λ c. (c.0, base c.1)) r)

abbrev pub row_value : Row → Nested
row_value r = rec_of (row_fields r)

not_after : (r : Ordering) → r ≡ ordering_reverse r → is_gt r ≡ false
not_after Less e = refl
not_after Equal e = refl
not_after Greater e = absurd (cc)

not_after_self : (l : Label) → is_gt (label_cmp l l) ≡ false
not_after_self l = not_after (label_cmp l l) (nat_list_cmp_total.antisymm l l)

-- a field put in its place is found as if it stood first
put_found : (l k : Label) (v : Nested) (fs : List (Label × Nested)) → value_under l (fields_of (put_field k v fs)) ≡ cond (bytes_eq k l) v (value_under l (fields_of fs))
put_found l k v [] = refl
put_found l k v (f ∷ fs) = go (is_gt (label_cmp k f.0)) refl (put_found l k v fs)
  where
    swap : (a b : Bool) → bytes_eq f.0 l ≡ a → bytes_eq k l ≡ b → is_gt (label_cmp k f.0) ≡ true → cond a f.1 (cond b v (value_under l (fields_of fs))) ≡ cond b v (cond a f.1 (value_under l (fields_of fs)))
    swap true true p q h =
        let e : k ≡ f.0 = (bytes_eq-Decides k l).0 q ∙ sym ((bytes_eq-Decides f.0 l).0 p) in
        let u : true ≡ false = sym h ∙ ap (λ z. is_gt (label_cmp k z)) (sym e) ∙ not_after_self k in
        absurd (cc)
    swap true false p q h = refl
    swap false b p q h = refl

    go : (t : Bool) → is_gt (label_cmp k f.0) ≡ t → value_under l (fields_of (put_field k v fs)) ≡ cond (bytes_eq k l) v (value_under l (fields_of fs))
        → value_under l (fields_of (cond t (f ∷ put_field k v fs) ((k, v) ∷ f ∷ fs))) ≡ cond (bytes_eq k l) v (cond (bytes_eq f.0 l) f.1 (value_under l (fields_of fs)))
    go true h i = ap (λ z. cond (bytes_eq f.0 l) f.1 z) i ∙ swap (bytes_eq f.0 l) (bytes_eq k l) refl refl h
    go false h i = refl

row_found : (l : Label) (r : Row) → value_under l (fields_of (row_fields r)) ≡ base (cell_under l r)
row_found l [] = refl
row_found l (c ∷ cs) =
    put_found l c.0 (base c.1) (row_fields cs)
    ∙ ap₂ (λ t z. cond t (base c.1) z) (bytes_turned c.0 l) (row_found l cs) ∙ go (bytes_eq l c.0)
  where
    go : (t : Bool) → cond t (base c.1) (base (cell_under l cs)) ≡ base (cond t c.1 (cell_under l cs))
    go true = refl
    go false = refl

-- the elements of a table are its rows
rows_listed : (names : List Label) (rows : List (List Cell)) → map (row_record names) rows ≡ map row_value (map (λ row. zip names row) rows)
rows_listed names [] = refl
rows_listed names (row ∷ rows) = ap₂ (λ x (xs : List Nested). x ∷ xs) (ap (λ (z : List (Label × Nested)). rec_of (by_label z)) (cells names row)) (rows_listed names rows)
  where
    cells : (names : List Label) (row : List Cell) → zip names (map base row) ≡ map (λ c. (c.0, base c.1)) (zip names row)
    cells [] row = refl
    cells (n ∷ ns) [] = refl
    cells (n ∷ ns) (c ∷ cs) = ap (λ (z : List (Label × Nested)). (n, base c) ∷ z) (cells ns cs)

table_rows : (tables : List FilledTable) (t : Label) → elements_in (table_meaning tables t) ≡ map row_value (rows_in tables t)
table_rows [] t = refl
table_rows (d ∷ ds) t =
    ap (λ b. elements_in (rows_value (cond b (Some d) (find (λ table. bytes_eq table.name t) ds)))) (bytes_turned d.name t) ∙ go (bytes_eq t d.name) (table_rows ds t)
  where
    go : (b : Bool) → elements_in (table_meaning ds t) ≡ map row_value (rows_in ds t)
        → elements_in (rows_value (cond b (Some d) (find (λ table. bytes_eq table.name t) ds))) ≡ map row_value (cond b (named_table d).1 (rows_named t (map named_table ds)))
    go true i = elements_back (map (row_record (names_of d.columns)) d.rows) ∙ rows_listed (names_of d.columns) d.rows
    go false i = i

abbrev pub body_labels : Bodies → List Label
body_labels no_body = []
body_labels (with_body l b fs) = l ∷ body_labels fs

-- the labels of each record rise
abbrev mutual
  pub BodyRises : BodyTree → Type 0
  BodyRises (plain_body b) = ⊤
  BodyRises (rec_body fs) = AreRising (body_labels fs) × BodiesRise fs
  BodyRises (bag_body a cs) = CompsRise cs

  pub BodiesRise : Bodies → Type 0
  BodiesRise no_body = ⊤
  BodiesRise (with_body l b fs) = BodyRises b × BodiesRise fs

  pub CompsRise : Comps → Type 0
  CompsRise no_comp = ⊤
  CompsRise (comp t gens bs b cs) = BodyRises b × CompsRise cs

-- rows by number
rows_before : (g : ℕ) (e f : Env) → Each (λ b. nat_eq g b.0 ≡ false) e → row_of g (e ++ f) ≡ row_of g f
rows_before g [] f h = refl
rows_before g (b ∷ e) f h = ap (λ z. cond z b.1 (row_of g (e ++ f))) h.0 ∙ rows_before g e f h.1

rows_behind : (g : ℕ) (e : Env) (n : ℕ) (r : Row) → nat_eq g n ≡ false → row_of g (e ++ (n, r) ∷ []) ≡ row_of g e
rows_behind g [] n r h = ap (λ z. cond z r []) h
rows_behind g (b ∷ e) n r h = ap (λ z. cond (nat_eq g b.0) b.1 z) (rows_behind g e n r h)

-- n is none of the numbers of e
abbrev Unused : ℕ → Env → Type 0
Unused n e = Each (λ b. n ≡ b.0 → ⊥) e

-- the numbers differ, from each other and from those of e
abbrev Fresh : Env → List ℕ → Type 0
Fresh e ns = AreDistinct ns × Each (λ n. Unused n e) ns

each_part : {A : Type 0} (P : A → Type 0) (xs ys : List A) → Each P (xs ++ ys) → Each P xs × Each P ys
each_part P [] ys h = (tt, h)
each_part P (x ∷ xs) ys h = let r = each_part P xs ys h.1 in ((h.0, r.0), r.1)

differ_part : (xs ys : List ℕ) → AreDistinct (xs ++ ys) → AreDistinct xs × AreDistinct ys
differ_part [] ys h = (tt, h)
differ_part (x ∷ xs) ys h =
    let r = differ_part xs ys h.1 in
    (((each_part (λ y. x ≡ y → ⊥) xs ys h.0).0, r.0), r.1)

fresh_part : (e : Env) (xs ys : List ℕ) → Fresh e (xs ++ ys) → Fresh e xs × Fresh e ys
fresh_part e xs ys h =
    let d = differ_part xs ys h.0 in
    let u = each_part (λ n. Unused n e) xs ys h.1 in
    ((d.0, u.0), (d.1, u.1))

fresh_step : (e : Env) (n : ℕ) (r : Row) (ns : List ℕ) → Fresh e (n ∷ ns) → Fresh (e ++ (n, r) ∷ []) ns
fresh_step e n r ns h = (h.0.1, over ns h.0.0 h.1.1)
  where
    over : (ms : List ℕ) → Each (λ m. n ≡ m → ⊥) ms → Each (λ m. Unused m e) ms → Each (λ m. Unused m (e ++ (n, r) ∷ [])) ms
    over [] a b = tt
    over (m ∷ ms) a b = (each_join (λ (d : ℕ × Row). m ≡ d.0 → ⊥) e ((n, r) ∷ []) b.0 ((λ w. a.0 (sym w)), tt), over ms a.1 b.1)

-- the values in scope are the rows of the environment
abbrev Holds : List ℕ → List Nested → Env → Type 0
Holds sc vs e = (g : ℕ) (l : Label) → field_in l (get_or vs (place_of g sc) (base no_cell)) ≡ base (cell_under l (row_of g e))

holds_one : (sc : List ℕ) (vs : List Nested) (e : Env) (n : ℕ) (r : Row) → Unused n e → Holds sc vs e → Holds (n ∷ sc) (row_value r ∷ vs) (e ++ (n, r) ∷ [])
holds_one sc vs e n r u h g l = go (nat_eq g n) refl
  where
    go : (t : Bool) → nat_eq g n ≡ t → field_in l (get_or (row_value r ∷ vs) (cond t 0 (suc (place_of g sc))) (base no_cell)) ≡ base (cell_under l (row_of g (e ++ (n, r) ∷ [])))
    go true q =
        let w : g ≡ n = (Decides-eqb g n).0 q in
        let apart = each_weaker (λ (b : ℕ × Row). n ≡ b.0 → ⊥) (λ b. nat_eq g b.0 ≡ false) (λ b k. nat_differ g b.0 (λ z. k (sym w ∙ z))) e u in
        row_found l r ∙ ap (λ (z : Row). base (cell_under l z)) (sym (rows_before g e ((n, r) ∷ []) apart ∙ ap (λ z. cond z r []) q))
    go false q = h g l ∙ ap (λ (z : Row). base (cell_under l z)) (sym (rows_behind g e n r q))

-- names and values after generators
abbrev names_with : List Gen → List ℕ → List ℕ
names_with [] sc = sc
names_with (g ∷ gs) sc = names_with gs (g.number ∷ sc)

abbrev values_with : Env → List Nested → List Nested
values_with [] vs = vs
values_with (b ∷ f) vs = values_with f (row_value b.1 ∷ vs)

abbrev ChoiceFits : List ℕ → List Nested → Env → List Gen → List ℕ → Env → Type 0
ChoiceFits sc vs e gens ns f = Holds (names_with gens sc) (values_with f vs) (e ++ f) × Fresh (e ++ f) ns × Each (λ b. Unused b.0 e) f

choices_fit : (ts : Tables) (gens : List Gen) (sc : List ℕ) (vs : List Nested) (e : Env) (ns : List ℕ) → Holds sc vs e → Fresh e (map (λ g. g.number) gens ++ ns) → Each (ChoiceFits sc vs e gens ns) (choices ts gens)
choices_fit ts [] sc vs e ns h k = ((subst (Holds sc vs) (sym (append-nil e)) h, subst (λ (z : Env). Fresh z ns) (sym (append-nil e)) k, tt), tt)
choices_fit ts (g ∷ gs) sc vs e ns h k =
    each_flat (ChoiceFits sc vs e (g ∷ gs) ns) (λ r. map (λ rs. (g.number, r) ∷ rs) (choices ts gs)) (λ r. each_mapped (λ rs. (g.number, r) ∷ rs) (ChoiceFits (g.number ∷ sc) (row_value r ∷ vs) (e ++ (g.number, r) ∷ []) gs ns) (ChoiceFits sc vs e (g ∷ gs) ns) (λ f q. turned r f q) (choices ts gs) (choices_fit ts gs (g.number ∷ sc) (row_value r ∷ vs) (e ++ (g.number, r) ∷ []) ns (holds_one sc vs e g.number r k.1.0 h) (fresh_step e g.number r (map (λ g. g.number) gs ++ ns) k))) (ts g.table)
  where
    turned : (r : Row) (f : Env) → ChoiceFits (g.number ∷ sc) (row_value r ∷ vs) (e ++ (g.number, r) ∷ []) gs ns f → ChoiceFits sc vs e (g ∷ gs) ns ((g.number, r) ∷ f)
    turned r f q =
        let a = append_assoc e ((g.number, r) ∷ []) f in (
          subst (Holds (names_with gs (g.number ∷ sc)) (values_with f (row_value r ∷ vs))) a q.0,
          subst (λ (z : Env). Fresh z ns) a q.1,
          (k.1.0, each_weaker (λ (b : ℕ × Row). Unused b.0 (e ++ (g.number, r) ∷ [])) (λ b. Unused b.0 e) (λ b z. (each_part (λ (d : ℕ × Row). b.0 ≡ d.0 → ⊥) e ((g.number, r) ∷ []) z).0) f q.2),
        )

-- one row taken to the front
row_to_front : (g : ℕ) (f e : Env) (b : ℕ × Row) → Each (λ d. d.0 ≡ b.0 → ⊥) f → row_of g (f ++ (b ∷ e)) ≡ cond (nat_eq g b.0) b.1 (row_of g (f ++ e))
row_to_front g [] e b h = refl
row_to_front g (d ∷ f) e b h =
    ap (λ z. cond (nat_eq g d.0) d.1 z) (row_to_front g f e b h.1) ∙ go (nat_eq g d.0) (nat_eq g b.0) refl refl
  where
    go : (t u : Bool) → nat_eq g d.0 ≡ t → nat_eq g b.0 ≡ u → cond t d.1 (cond u b.1 (row_of g (f ++ e))) ≡ cond u b.1 (cond t d.1 (row_of g (f ++ e)))
    go true true p q = absurd (h.0 (sym ((Decides-eqb g d.0).0 p) ∙ (Decides-eqb g b.0).0 q))
    go true false p q = refl
    go false u p q = refl

rows_swap : (g : ℕ) (e f : Env) → Each (λ b. Unused b.0 e) f → row_of g (e ++ f) ≡ row_of g (f ++ e)
rows_swap g [] f h = ap (row_of g) (sym (append-nil f))
rows_swap g (b ∷ e) f h =
    ap (λ z. cond (nat_eq g b.0) b.1 z) (rows_swap g e f (each_weaker (λ (d : ℕ × Row). Unused d.0 (b ∷ e)) (λ d. Unused d.0 e) (λ d z. z.1) f h)) ∙ sym (row_to_front g f e b (each_weaker (λ (d : ℕ × Row). Unused d.0 (b ∷ e)) (λ d. d.0 ≡ b.0 → ⊥) (λ d z. z.0) f h))

-- the same choice with the new rows in front
fit_in_front : (sc : List ℕ) (vs : List Nested) (e : Env) (gens : List Gen) (ns : List ℕ) (f : Env) → ChoiceFits sc vs e gens ns f → Holds (names_with gens sc) (values_with f vs) (f ++ e) × Fresh (f ++ e) ns
fit_in_front sc vs e gens ns f q =
    ((λ g l. q.0 g l ∙ ap (λ (z : Row). base (cell_under l z)) (rows_swap g e f q.2)), (q.1.0, each_weaker (λ n. Unused n (e ++ f)) (λ n. Unused n (f ++ e)) (λ n z. let p = each_part (λ (d : ℕ × Row). n ≡ d.0 → ⊥) e f z in each_join (λ (d : ℕ × Row). n ≡ d.0 → ⊥) f e p.1 p.0) ns q.1.1))

module _ (tables : List FilledTable) where
  abbrev ts : Tables
  ts = rows_in tables

  -- the loops over generators
  chain : (gens : List Gen) (s : NamedTerm) (sc : List ℕ) (vs : List Nested) → elements_in (meaning tables vs (bound sc (under_gens gens s))) ≡ flat_map (λ f. elements_in (meaning tables (values_with f vs) (bound (names_with gens sc) s))) (choices ts gens)
  chain [] s sc vs = sym (append-nil (elements_in (meaning tables vs (bound sc s))))
  chain (g ∷ gs) s sc vs =
      let k : Nested → List Nested = λ v. elements_in (meaning tables (v ∷ vs) (bound (g.number ∷ sc) (under_gens gs s))) in
      let last : Env → List Nested = λ f. elements_in (meaning tables (values_with f vs) (bound (names_with gs (g.number ∷ sc)) s)) in
      elements_back (flat_map k (elements_in (table_meaning tables g.table)))
      ∙ ap (flat_map k) (table_rows tables g.table)
      ∙ flat_of_map k (λ r. row_value r) (ts g.table)
      ∙ flat_same (λ r. k (row_value r)) (λ r. flat_map last (map (λ rs. (g.number, r) ∷ rs) (choices ts gs))) (λ r. chain gs s (g.number ∷ sc) (row_value r ∷ vs) ∙ sym (flat_of_map last (λ rs. (g.number, r) ∷ rs) (choices ts gs))) (ts g.table)
      ∙ sym (flat_flat last (λ r. map (λ rs. (g.number, r) ∷ rs) (choices ts gs)) (ts g.table))

  -- the conditions in front
  abbrev WhereShown : Conds → Type 0
  WhereShown bs = (s : NamedTerm) (sc : List ℕ) (vs : List Nested) (e : Env) → Holds sc vs e → Fresh e (conds_numbers bs) → elements_in (meaning tables vs (bound sc (named_where bs s))) ≡ cond (all_true ts bs e) (elements_in (meaning tables vs (bound sc s))) []

  each_shown : {A : Type 0} (k : Env → List A) (p : Env → Bool) (y : Env → A) (l : List Env) → Each (λ f. k f ≡ cond (p f) (y f ∷ []) []) l → flat_map k l ≡ map y (filter p l)
  each_shown k p y [] h = refl
  each_shown k p y (f ∷ l) h = ap₂ (λ (u w : List _). u ++ w) h.0 (each_shown k p y l h.1) ∙ go (p f)
    where
      go : (t : Bool) → cond t (y f ∷ []) [] ++ map y (filter p l) ≡ map y (cond t (f ∷ filter p l) (filter p l))
      go true = refl
      go false = refl

  kept_shown : {A : Type 0} (k : Env → List A) (e : Env) (p : Env → Bool) (y : Env → A) (l : List Env) → Each (λ f. k f ≡ cond (p (e ++ f)) (y (e ++ f) ∷ []) []) l → flat_map k l ≡ map y (filter p (map (λ f. e ++ f) l))
  kept_shown k e p y [] h = refl
  kept_shown k e p y (f ∷ l) h = ap₂ (λ (u w : List _). u ++ w) h.0 (kept_shown k e p y l h.1) ∙ go (p (e ++ f))
    where
      go : (t : Bool) → cond t (y (e ++ f) ∷ []) [] ++ map y (filter p (map (λ f. e ++ f) l)) ≡ map y (cond t ((e ++ f) ∷ filter p (map (λ f. e ++ f) l)) (filter p (map (λ f. e ++ f) l)))
      go true = refl
      go false = refl

  -- what stands behind generators and conditions, at each choice that they keep
  inner_shown : (gens : List Gen) (bs : Conds) (s : NamedTerm) (y : Env → Nested) (ns : List ℕ) → WhereShown bs
      → ((sc : List ℕ) (vs : List Nested) (e : Env) → Holds sc vs e → Fresh e ns → meaning tables vs (bound sc s) ≡ y e)
      → (sc : List ℕ) (vs : List Nested) (e : Env) → Holds sc vs e → Fresh e (map (λ g. g.number) gens ++ (conds_numbers bs ++ ns))
      → elements_in (meaning tables vs (bound sc (under_gens gens (named_where bs (NamedTerm.single s))))) ≡ map (λ f. y (f ++ e)) (filter (λ f. all_true ts bs (f ++ e)) (choices ts gens))
  inner_shown gens bs s y ns w d sc vs e h k =
      let one : Env → List Nested = λ f. elements_in (meaning tables (values_with f vs) (bound (names_with gens sc) (named_where bs (NamedTerm.single s)))) in
      chain gens (named_where bs (NamedTerm.single s)) sc vs
      ∙ each_shown one (λ f. all_true ts bs (f ++ e)) (λ f. y (f ++ e)) (choices ts gens)
      (each_weaker (ChoiceFits sc vs e gens (conds_numbers bs ++ ns)) (λ f. one f ≡ cond (all_true ts bs (f ++ e)) (y (f ++ e) ∷ []) []) (λ f q. one_choice f q) (choices ts gens) (choices_fit ts gens sc vs e (conds_numbers bs ++ ns) h k))
    where
      one_choice : (f : Env) → ChoiceFits sc vs e gens (conds_numbers bs ++ ns) f
          → elements_in (meaning tables (values_with f vs) (bound (names_with gens sc) (named_where bs (NamedTerm.single s)))) ≡ cond (all_true ts bs (f ++ e)) (y (f ++ e) ∷ []) []
      one_choice f q =
          let i = fit_in_front sc vs e gens (conds_numbers bs ++ ns) f q in
          let p = fresh_part (f ++ e) (conds_numbers bs) ns i.1 in
          w (NamedTerm.single s) (names_with gens sc) (values_with f vs) (f ++ e) i.0 p.0
          ∙ ap (λ v. cond (all_true ts bs (f ++ e)) (v ∷ []) []) (d (names_with gens sc) (values_with f vs) (f ++ e) i.0 p.1)

  none_mapped : {A B : Type 0} (y : A → B) (l : List A) → is_none (map y l) ≡ is_none l
  none_mapped y [] = refl
  none_mapped y (x ∷ l) = refl

  test_shown : (gens : List Gen) (bs : Conds) → WhereShown bs → (sc : List ℕ) (vs : List Nested) (e : Env) → Holds sc vs e → Fresh e (map (λ g. g.number) gens ++ conds_numbers bs) → is_none (elements_in (meaning tables vs (bound sc (under_gens gens (named_where bs unit_bag))))) ≡ is_none (filter (λ f. all_true ts bs (f ++ e)) (choices ts gens))
  test_shown gens bs w sc vs e h k =
      let fresh = subst (λ (z : List ℕ). Fresh e (map (λ g. g.number) gens ++ z)) (sym (append-nil (conds_numbers bs))) k in
      ap is_none (inner_shown gens bs (NamedTerm.rec no_field) (λ f. rec Fields.none) [] w (λ sc vs e h k. refl) sc vs e h fresh)
      ∙ none_mapped (λ f. rec Fields.none) (filter (λ f. all_true ts bs (f ++ e)) (choices ts gens))

  none_append : {A : Type 0} (xs ys : List A) → is_none (xs ++ ys) ≡ (is_none xs && is_none ys)
  none_append [] ys = refl
  none_append (x ∷ xs) ys = refl

  and_true : (b : Bool) → b ≡ (b && true)
  and_true true = refl
  and_true false = refl

  and_assoc : (a b c : Bool) → ((a && b) && c) ≡ (a && (b && c))
  and_assoc true b c = refl
  and_assoc false b c = refl

  -- as many as there are choices, and the values at them
  counted : {A B C : Type 0} (y : A → B) (v : A → C) (l : List A) → count_of (map y l) ≡ count_of (map v l)
  counted y v l = ap (λ n. int_wrap w64 (pos n)) (length-map l y ∙ sym (length-map l v))

  cells_back : {A : Type 0} (v : A → Cell) (l : List A) → map cell_of (map (λ f. base (v f)) l) ≡ map v l
  cells_back v [] = refl
  cells_back v (x ∷ l) = ap (λ (z : List Cell). v x ∷ z) (cells_back v l)

  mutual
    base_shown : (b : BaseTree) (sc : List ℕ) (vs : List Nested) (e : Env) → Holds sc vs e → Fresh e (base_numbers b) → meaning tables vs (bound sc (named_base b)) ≡ base (value ts b e)
    base_shown (BaseTree.literal (cell.Int n)) sc vs e h k = refl
    base_shown (BaseTree.literal (cell.Bool b)) sc vs e h k = refl
    base_shown (BaseTree.literal (cell.Text t)) sc vs e h k = refl
    base_shown (BaseTree.column g l) sc vs e h k = h g l
    base_shown (BaseTree.unary o b) sc vs e h k = ap (λ v. base (unary_value o (cell_of v))) (base_shown b sc vs e h k)
    base_shown (BaseTree.binary o a b) sc vs e h k =
        let p = fresh_part e (base_numbers a) (base_numbers b) k in
        ap₂ (λ v w. base (binary_value o (cell_of v) (cell_of w))) (base_shown a sc vs e h p.0) (base_shown b sc vs e h p.1)
    base_shown (BaseTree.choose x a b) sc vs e h k =
        let p = fresh_part e (base_numbers x) (base_numbers a ++ base_numbers b) k in
        let q = fresh_part e (base_numbers a) (base_numbers b) p.1 in
        ap (λ z. cond (is_true (cell_of z)) (meaning tables vs (bound sc (named_base a))) (meaning tables vs (bound sc (named_base b)))) (base_shown x sc vs e h p.0)
        ∙ ap₂ (λ y z. cond (is_true (value ts x e)) y z) (base_shown a sc vs e h q.0) (base_shown b sc vs e h q.1)
        ∙ go (is_true (value ts x e))
      where
        go : (t : Bool) → cond t (base (value ts a e)) (base (value ts b e)) ≡ base (cond t (value ts a e) (value ts b e))
        go true = refl
        go false = refl
    base_shown (BaseTree.empty xs) sc vs e h k = ap (λ z. base (cell.Bool z)) (tests_shown xs sc vs e h k)
    base_shown (BaseTree.total HowMany gens bs b) sc vs e h k =
        ap (λ (l : List Nested). base (cell.Int (count_of l))) (inner_shown gens bs (NamedTerm.rec no_field) (λ f. rec Fields.none) (base_numbers b) (where_shown bs) (λ sc vs e h k. refl) sc vs e h k)
        ∙ ap (λ n. base (cell.Int n)) (counted (λ f. rec Fields.none) (λ f. value ts b (f ++ e)) (filter (λ f. all_true ts bs (f ++ e)) (choices ts gens)))
    base_shown (BaseTree.total SumOf gens bs b) sc vs e h k =
        ap (λ (l : List Nested). base (cell.Int (sum_of (map cell_of l)))) (inner_shown gens bs (named_base b) (λ f. base (value ts b f)) (base_numbers b) (where_shown bs) (λ sc vs e h k. base_shown b sc vs e h k) sc vs e h k)
        ∙ ap (λ (l : List Cell). base (cell.Int (sum_of l))) (cells_back (λ f. value ts b (f ++ e)) (filter (λ f. all_true ts bs (f ++ e)) (choices ts gens)))

    where_shown : (bs : Conds) → WhereShown bs
    where_shown no_cond s sc vs e h k = refl
    where_shown (and_cond b bs) s sc vs e h k =
        let p = fresh_part e (base_numbers b) (conds_numbers bs) k in
        elements_back (cond (is_true (cell_of (meaning tables vs (bound sc (and_then (named_base b) bs))))) (elements_in (meaning tables vs (bound sc s))) [])
        ∙ ap (λ t. cond t (elements_in (meaning tables vs (bound sc s))) []) (and_shown bs (named_base b) sc vs e h p.1 ∙ ap (λ v. is_true (cell_of v) && all_true ts bs e) (base_shown b sc vs e h p.0))

    and_shown : (bs : Conds) (x : NamedTerm) (sc : List ℕ) (vs : List Nested) (e : Env) → Holds sc vs e → Fresh e (conds_numbers bs) → is_true (cell_of (meaning tables vs (bound sc (and_then x bs)))) ≡ (is_true (cell_of (meaning tables vs (bound sc x))) && all_true ts bs e)
    and_shown no_cond x sc vs e h k = and_true (is_true (cell_of (meaning tables vs (bound sc x))))
    and_shown (and_cond b bs) x sc vs e h k =
        let p = fresh_part e (base_numbers b) (conds_numbers bs) k in
        let t = is_true (cell_of (meaning tables vs (bound sc x))) in
        and_shown bs (NamedTerm.binary And x (named_base b)) sc vs e h p.1
        ∙ ap (λ v. (t && is_true (cell_of v)) && all_true ts bs e) (base_shown b sc vs e h p.0)
        ∙ and_assoc t (is_true (value ts b e)) (all_true ts bs e)

    tests_shown : (xs : Tests) (sc : List ℕ) (vs : List Nested) (e : Env) → Holds sc vs e → Fresh e (tests_numbers xs) → is_none (elements_in (meaning tables vs (bound sc (named_tests xs)))) ≡ no_kept ts xs e
    tests_shown no_test sc vs e h k = refl
    tests_shown (test gens bs xs) sc vs e h k =
        let p = fresh_part e (map (λ g. g.number) gens ++ conds_numbers bs) (tests_numbers xs) (subst (Fresh e) (sym (append_assoc (map (λ g. g.number) gens) (conds_numbers bs) (tests_numbers xs))) k) in
        tests_then_shown xs (under_gens gens (named_where bs unit_bag)) sc vs e h p.1
        ∙ ap (λ z. z && no_kept ts xs e) (test_shown gens bs (where_shown bs) sc vs e h p.0)

    tests_then_shown : (xs : Tests) (s : NamedTerm) (sc : List ℕ) (vs : List Nested) (e : Env) → Holds sc vs e → Fresh e (tests_numbers xs) → is_none (elements_in (meaning tables vs (bound sc (tests_then s xs)))) ≡ (is_none (elements_in (meaning tables vs (bound sc s))) && no_kept ts xs e)
    tests_then_shown no_test s sc vs e h k = and_true (is_none (elements_in (meaning tables vs (bound sc s))))
    tests_then_shown (test gens bs xs) s sc vs e h k =
        let p = fresh_part e (map (λ g. g.number) gens ++ conds_numbers bs) (tests_numbers xs) (subst (Fresh e) (sym (append_assoc (map (λ g. g.number) gens) (conds_numbers bs) (tests_numbers xs))) k) in
        let u = under_gens gens (named_where bs unit_bag) in
        let es = elements_in (meaning tables vs (bound sc s)) in
        let us = elements_in (meaning tables vs (bound sc u)) in
        tests_then_shown xs (NamedTerm.union s u) sc vs e h p.1
        ∙ ap (λ (z : List Nested). is_none z && no_kept ts xs e) (elements_back (es ++ us))
        ∙ ap (λ z. z && no_kept ts xs e) (none_append es us ∙ ap (λ z. is_none es && z) (test_shown gens bs (where_shown bs) sc vs e h p.0))
        ∙ and_assoc (is_none es) (is_none (filter (λ f. all_true ts bs (f ++ e)) (choices ts gens))) (no_kept ts xs e)

  -- the meaning is a bag
  abbrev IsBag : NamedTerm → Type 0
  IsBag s = (sc : List ℕ) (vs : List Nested) → meaning tables vs (bound sc s) ≡ bag_of (elements_in (meaning tables vs (bound sc s)))

  bag_again : (xs : List Nested) → bag_of xs ≡ bag_of (elements_in (bag_of xs))
  bag_again xs = ap bag_of (sym (elements_back xs))

  one_bag : (gens : List Gen) (bs : Conds) (s : NamedTerm) → IsBag (under_gens gens (named_where bs (NamedTerm.single s)))
  one_bag [] no_cond s sc vs = bag_again (meaning tables vs (bound sc s) ∷ [])
  one_bag [] (and_cond b bs) s sc vs =
      bag_again (cond (is_true (cell_of (meaning tables vs (bound sc (and_then (named_base b) bs))))) (elements_in (meaning tables vs (bound sc (NamedTerm.single s)))) [])
  one_bag (g ∷ gs) bs s sc vs =
      bag_again (flat_map (λ v. elements_in (meaning tables (v ∷ vs) (bound (g.number ∷ sc) (under_gens gs (named_where bs (NamedTerm.single s)))))) (elements_in (meaning tables vs (bound sc (NamedTerm.table g.table)))))

  union_bag : (s : NamedTerm) (cs : Comps) → IsBag s → IsBag (comps_then s cs)
  union_bag s no_comp i = i
  union_bag s (comp t gens bs b cs) i = union_bag (NamedTerm.union s (comp_term gens bs (named_body b))) cs (joined s (comp_term gens bs (named_body b)))
    where
      joined : (s u : NamedTerm) → IsBag (NamedTerm.union s u)
      joined s u sc vs = bag_again (elements_in (meaning tables vs (bound sc s)) ++ elements_in (meaning tables vs (bound sc u)))

  one_comp : (gens : List Gen) (bs : Conds) (b : BodyTree) → ((sc : List ℕ) (vs : List Nested) (e : Env) → Holds sc vs e → Fresh e (body_numbers b) → meaning tables vs (bound sc (named_body b)) ≡ body_meaning ts b e) → (sc : List ℕ) (vs : List Nested) (e : Env) → Holds sc vs e → Fresh e (map (λ g. g.number) gens ++ (conds_numbers bs ++ body_numbers b))
      → elements_in (meaning tables vs (bound sc (comp_term gens bs (named_body b)))) ≡ map (λ z. body_meaning ts b z) (kept ts gens bs e)
  one_comp gens bs b d sc vs e h k =
      let s = NamedTerm.single (named_body b) in
      let one : Env → List Nested = λ f. elements_in (meaning tables (values_with f vs) (bound (names_with gens sc) (named_where bs s))) in
      let ns = conds_numbers bs ++ body_numbers b in
      chain gens (named_where bs s) sc vs
      ∙ kept_shown one e (λ z. all_true ts bs z) (λ z. body_meaning ts b z) (choices ts gens)
      (each_weaker (ChoiceFits sc vs e gens ns) (λ f. one f ≡ cond (all_true ts bs (e ++ f)) (body_meaning ts b (e ++ f) ∷ []) []) (λ f q. one_choice f q) (choices ts gens) (choices_fit ts gens sc vs e ns h k))
    where
      one_choice : (f : Env) → ChoiceFits sc vs e gens (conds_numbers bs ++ body_numbers b) f
          → elements_in (meaning tables (values_with f vs) (bound (names_with gens sc) (named_where bs (NamedTerm.single (named_body b))))) ≡ cond (all_true ts bs (e ++ f)) (body_meaning ts b (e ++ f) ∷ []) []
      one_choice f q =
          let p = fresh_part (e ++ f) (conds_numbers bs) (body_numbers b) q.1 in
          where_shown bs (NamedTerm.single (named_body b)) (names_with gens sc) (values_with f vs) (e ++ f) q.0 p.0
          ∙ ap (λ v. cond (all_true ts bs (e ++ f)) (v ∷ []) []) (d (names_with gens sc) (values_with f vs) (e ++ f) q.0 p.1)

  -- the bodies of a record as a list
  abbrev bodies_list : Bodies → Env → List (Label × Nested)
  bodies_list no_body e = []
  bodies_list (with_body l b fs) e = (l, body_meaning ts b e) ∷ bodies_list fs e

  bodies_listed : (fs : Bodies) (e : Env) → fields_of (bodies_list fs e) ≡ bodies_meaning ts fs e
  bodies_listed no_body e = refl
  bodies_listed (with_body l b fs) e = ap (Fields.field l (body_meaning ts b e)) (bodies_listed fs e)

  put_first : (l : Label) (v : Nested) (fs : Bodies) (e : Env) → Each (λ m. label_cmp l m ≡ Less) (body_labels fs) → put_field l v (bodies_list fs e) ≡ (l, v) ∷ bodies_list fs e
  put_first l v no_body e h = refl
  put_first l v (with_body k b fs) e h =
      ap (λ o. cond (is_gt o) ((k, body_meaning ts b e) ∷ put_field l v (bodies_list fs e)) ((l, v) ∷ (k, body_meaning ts b e) ∷ bodies_list fs e)) h.0

  -- generators, conditions and body apart from the rest
  comp_fresh : (e : Env) (xs ys zs us : List ℕ) → Fresh e (xs ++ (ys ++ (zs ++ us))) → Fresh e (xs ++ (ys ++ zs)) × Fresh e us
  comp_fresh e xs ys zs us k =
      fresh_part e (xs ++ (ys ++ zs)) us (subst (Fresh e) (ap (λ (l : List ℕ). xs ++ l) (sym (append_assoc ys zs us)) ∙ sym (append_assoc xs (ys ++ zs) us)) k)

  mutual
    body_shown : (b : BodyTree) (sc : List ℕ) (vs : List Nested) (e : Env) → BodyRises b → Holds sc vs e → Fresh e (body_numbers b) → meaning tables vs (bound sc (named_body b)) ≡ body_meaning ts b e
    body_shown (plain_body b) sc vs e r h k = base_shown b sc vs e h k
    body_shown (rec_body fs) sc vs e r h k = ap rec_of (fields_shown fs sc vs e r.0 r.1 h k) ∙ ap rec (bodies_listed fs e)
    body_shown (bag_body a cs) sc vs e r h k = comps_shown cs a sc vs e r h k

    fields_shown : (fs : Bodies) (sc : List ℕ) (vs : List Nested) (e : Env) → AreRising (body_labels fs) → BodiesRise fs → Holds sc vs e → Fresh e (bodies_numbers fs) → field_meanings tables vs (bound_fields sc (named_fields fs)) ≡ bodies_list fs e
    fields_shown no_body sc vs e u r h k = refl
    fields_shown (with_body l b fs) sc vs e u r h k =
        let p = fresh_part e (body_numbers b) (bodies_numbers fs) k in
        ap₂ (λ v (w : List (Label × Nested)). put_field l v w) (body_shown b sc vs e r.0 h p.0) (fields_shown fs sc vs e u.1 r.1 h p.1) ∙ put_first l (body_meaning ts b e) fs e u.0

    comps_shown : (cs : Comps) (a : TypeTree) (sc : List ℕ) (vs : List Nested) (e : Env) → CompsRise cs → Holds sc vs e → Fresh e (comps_numbers cs) → meaning tables vs (bound sc (named_comps a cs)) ≡ bag_of (comps_meaning ts cs e)
    comps_shown no_comp a sc vs e r h k = refl
    comps_shown (comp t gens bs b cs) a sc vs e r h k =
        let p = comp_fresh e (map (λ g. g.number) gens) (conds_numbers bs) (body_numbers b) (comps_numbers cs) k in
        let u = comp_term gens bs (named_body b) in
        union_bag u cs (one_bag gens bs (named_body b)) sc vs
        ∙ ap bag_of (comps_then_shown cs u sc vs e r.1 h p.1 ∙ ap (λ (l : List Nested). l ++ comps_meaning ts cs e) (one_comp gens bs b (λ sc vs e h k. body_shown b sc vs e r.0 h k) sc vs e h p.0))

    comps_then_shown : (cs : Comps) (s : NamedTerm) (sc : List ℕ) (vs : List Nested) (e : Env) → CompsRise cs → Holds sc vs e → Fresh e (comps_numbers cs) → elements_in (meaning tables vs (bound sc (comps_then s cs))) ≡ elements_in (meaning tables vs (bound sc s)) ++ comps_meaning ts cs e
    comps_then_shown no_comp s sc vs e r h k = sym (append-nil (elements_in (meaning tables vs (bound sc s))))
    comps_then_shown (comp t gens bs b cs) s sc vs e r h k =
        let p = comp_fresh e (map (λ g. g.number) gens) (conds_numbers bs) (body_numbers b) (comps_numbers cs) k in
        let u = comp_term gens bs (named_body b) in
        let es = elements_in (meaning tables vs (bound sc s)) in
        let us = elements_in (meaning tables vs (bound sc u)) in
        let rest = comps_meaning ts cs e in
        comps_then_shown cs (NamedTerm.union s u) sc vs e r.1 h p.1
        ∙ ap (λ (l : List Nested). l ++ rest) (elements_back (es ++ us))
        ∙ append_assoc es us rest
        ∙ ap (λ (l : List Nested). es ++ (l ++ rest)) (one_comp gens bs b (λ sc vs e h k. body_shown b sc vs e r.0 h k) sc vs e h p.0)

  -- of a form whose generator numbers differ and whose labels rise
  form_shown : (cs : Comps) (a : TypeTree) → AreDistinct (comps_numbers cs) → CompsRise cs → meaning tables [] (bound [] (named_comps a cs)) ≡ bag_of (comps_meaning ts cs [])
  form_shown cs a d r = comps_shown cs a [] [] [] r (λ g l. refl) (d, unused (comps_numbers cs))
    where
      unused : (ns : List ℕ) → Each (λ n. Unused n []) ns
      unused [] = tt
      unused (n ∷ ns) = (tt, unused ns)

-- the labels of a well-formed form rise
body_labels_same : (S : List TableShape) (fs : Bodies) (gs : FieldTypes) (scope : List Gen) → BodiesHave S scope fs gs → body_labels fs ≡ labels_of gs
body_labels_same S no_body FieldTypes.none scope h = refl
body_labels_same S no_body (FieldTypes.field k a gs) scope h = absurd h
body_labels_same S (with_body l b fs) FieldTypes.none scope h = absurd h
body_labels_same S (with_body l b fs) (FieldTypes.field k a gs) scope h = ap₂ (λ x (xs : List Label). x ∷ xs) h.0 (body_labels_same S fs gs scope h.2)

mutual
  body_rises : (S : List TableShape) (b : BodyTree) (a : TypeTree) (scope : List Gen) → BodyHas S scope b a → IsOrdered a → BodyRises b
  body_rises S (plain_body b) a scope h o = tt
  body_rises S (rec_body fs) TypeTree.int scope h o = absurd h
  body_rises S (rec_body fs) TypeTree.bool scope h o = absurd h
  body_rises S (rec_body fs) TypeTree.text scope h o = absurd h
  body_rises S (rec_body fs) (TypeTree.rec gs) scope h o = (subst AreRising (sym (body_labels_same S fs gs scope h)) o.0, bodies_rise S fs gs scope h o.1)
  body_rises S (rec_body fs) (TypeTree.bag a) scope h o = absurd h
  body_rises S (rec_body fs) (TypeTree.fun a d) scope h o = absurd h
  body_rises S (bag_body e cs) TypeTree.int scope h o = absurd h
  body_rises S (bag_body e cs) TypeTree.bool scope h o = absurd h
  body_rises S (bag_body e cs) TypeTree.text scope h o = absurd h
  body_rises S (bag_body e cs) (TypeTree.rec gs) scope h o = absurd h
  body_rises S (bag_body e cs) (TypeTree.bag a) scope h o = comps_rise S cs a scope h.1 o
  body_rises S (bag_body e cs) (TypeTree.fun a d) scope h o = absurd h

  bodies_rise : (S : List TableShape) (fs : Bodies) (gs : FieldTypes) (scope : List Gen) → BodiesHave S scope fs gs → AreOrdered gs → BodiesRise fs
  bodies_rise S no_body gs scope h o = tt
  bodies_rise S (with_body l b fs) FieldTypes.none scope h o = absurd h
  bodies_rise S (with_body l b fs) (FieldTypes.field k a gs) scope h o = (body_rises S b a scope h.1 o.0, bodies_rise S fs gs scope h.2 o.1)

  comps_rise : (S : List TableShape) (cs : Comps) (a : TypeTree) (scope : List Gen) → CompsHave S scope cs a → IsOrdered a → CompsRise cs
  comps_rise S no_comp a scope h o = tt
  comps_rise S (comp t gens bs b cs) a scope h o = (body_rises S b a (scope ++ gens) h.2 o, comps_rise S cs a scope h.3 o)

-- the printed term of a well-formed form means what the form means
pub well_shown : (S : List TableShape) (tables : List FilledTable) (form : FormTree) → IsWellFormed S form → meaning tables [] (printed_term form) ≡ form_meaning (rows_in tables) form
well_shown S tables form f = form_shown tables form.comps form.element f.numbers_differ (comps_rise S form.comps form.element [] f.typed f.labels_rise)
