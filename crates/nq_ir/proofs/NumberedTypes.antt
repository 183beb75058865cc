-- The numbering of a typed form's generators keeps its types: a column names the same table by number.
use Rattle.std.proofs.Common.{◌≡◌, ℕ, zero, suc, ◌+◌, ◌<◌, ◌≤◌, List, [], ◌∷◌, ◌++◌, refl, sym, ap, ◌∙◌, subst, subst₂, false, cond, length, get_or, append_assoc, append-nil, nat_eq, arith, Some, ⊎_elim}
use Rattle.std.specs.List.{AllByRecursion as Each}
use Rattle.nq_model.specs.Tables.{base_type}
use Rattle.nq_model.specs.Types.{TypeTree, FieldTypes}
use Rattle.nq_model.specs.declared.table.ColumnType.{ColumnType}
use Rattle.nq_model.specs.declared.table.ColumnType.TheVariants as column_type
use Rattle.nq_model.specs.declared.table.TableShape.{TableShape}
use Rattle.nq_ir.specs.declared.base.Gen.{Gen}
use Rattle.nq_model.specs.NamedRows.{Label}
use Rattle.nq_ir.specs.WellFormed.{table_columns, column_type_in, gen_columns, AreTables, BaseHas, CondsHave, TestsHave, BodyHas, BodiesHave, CompsHave}
use Rattle.nq_ir.specs.Trees.{BaseTree, plain_body}
use Rattle.nq_ir.specs.RawForms.{RawBase, raw_literal, raw_column, raw_unary, raw_binary, raw_choose, raw_empty, RawConds, no_raw, and_raw, RawTests, no_raw_test, raw_test, RawBody, raw_plain, raw_rec, raw_bag, RawFields, no_raw_field, raw_field, RawComps, no_raw_comp, raw_comp, raw_total}
use Rattle.nq_ir.specs.NormalForms.{gens_in_base, gens_in_conds, gens_in_body, tags_in_body, number_gens, deal, number_base, number_conds, number_tests, number_body, number_fields, number_comps}
use Rattle.nq_ir.proofs.Distinct.{each_left, each_right, each_join}
use Rattle.nq_ir.proofs.Equal.{nat_same}
use Rattle.nq_ir.proofs.Numbered.{each_weaker, below_or_not, not_below, not_above}
use Rattle.nq_ir.proofs.RawTypes.{under, Known, RawColumnHas, RawBaseHas, RawCondsHave, RawTestsHave, RawBodyHas, RawFieldsHave, RawCompsHave}

known_dealt : (S : List TableShape) (gs : List Label) (n : ℕ) → Each (Known S) gs → AreTables S (number_gens n gs)
known_dealt S [] n h = tt
known_dealt S (t ∷ gs) n h = (h.0, known_dealt S gs (suc n) h.1)

module _ (S : List TableShape) where
  -- where g is not among the numbers of f
  columns_back : (g : ℕ) (e f : List Gen) → Each (λ b. nat_eq g b.number ≡ false) f → gen_columns S (e ++ f) g ≡ gen_columns S e g
  columns_back g [] [] h = refl
  columns_back g [] (b ∷ f) h = ap (λ z. cond z (table_columns S b.table) (gen_columns S f g)) h.0 ∙ columns_back g [] f h.1
  columns_back g (b ∷ e) f h = ap (λ z. cond (nat_eq g b.number) (table_columns S b.table) z) (columns_back g e f h)

  columns_front : (g : ℕ) (e f : List Gen) → Each (λ b. nat_eq g b.number ≡ false) e → gen_columns S (e ++ f) g ≡ gen_columns S f g
  columns_front g [] f h = refl
  columns_front g (b ∷ e) f h = ap (λ z. cond z (table_columns S b.table) (gen_columns S (e ++ f) g)) h.0 ∙ columns_front g e f h.1

  columns_swap : (n g : ℕ) (e f : List Gen) → Each (λ b. b.number < n) e → Each (λ b. n ≤ b.number) f → gen_columns S (e ++ f) g ≡ gen_columns S (f ++ e) g
  columns_swap n g e f h k =
      ⊎_elim (λ w. let a = each_weaker (λ (b : Gen). n ≤ b.number) (λ b. nat_eq g b.number ≡ false) (λ b m. not_below g b.number (omega arith)) f k in columns_back g e f a ∙ sym (columns_front g f e a)) (λ w. let a = each_weaker (λ (b : Gen). b.number < n) (λ b. nat_eq g b.number ≡ false) (λ b m. not_above g b.number (omega arith)) e h in columns_front g e f a ∙ sym (columns_back g f e a)) (below_or_not g n)

  -- the generators in scope have the tables of the raw scope under its numbers, all numbers being below n
  abbrev Scoped : ℕ → List ℕ → List Label → List Gen → Type 0
  Scoped n [] [] sc = Each (λ g. g.number < n) sc
  Scoped n [] (t ∷ ls) sc = ⊥
  Scoped n (m ∷ ns) [] sc = ⊥
  Scoped n (m ∷ ns) (t ∷ ls) sc = (m < n) × (gen_columns S sc m ≡ table_columns S t) × Scoped n ns ls sc

  scoped_below : (n : ℕ) (ns : List ℕ) (ls : List Label) (sc : List Gen) → Scoped n ns ls sc → Each (λ g. g.number < n) sc
  scoped_below n [] [] sc h = h
  scoped_below n [] (t ∷ ls) sc h = absurd h
  scoped_below n (m ∷ ns) [] sc h = absurd h
  scoped_below n (m ∷ ns) (t ∷ ls) sc h = scoped_below n ns ls sc h.2

  scoped_in : (n m : ℕ) (ns : List ℕ) (ls : List Label) (e f : List Gen) → n ≤ m → ((g : ℕ) → g < n → gen_columns S f g ≡ gen_columns S e g) → Each (λ b. b.number < m) f → Scoped n ns ls e → Scoped m ns ls f
  scoped_in n m [] [] e f l t k h = k
  scoped_in n m [] (x ∷ ls) e f l t k h = absurd h
  scoped_in n m (g ∷ ns) [] e f l t k h = absurd h
  scoped_in n m (g ∷ ns) (x ∷ ls) e f l t k h =
      ((let z = h.0 in omega arith), t g h.0 ∙ h.1, scoped_in n m ns ls e f l t k h.2)

  scoped_later : (n m : ℕ) (ns : List ℕ) (ls : List Label) (e : List Gen) → n ≤ m → Scoped n ns ls e → Scoped m ns ls e
  scoped_later n m ns ls e l h =
      scoped_in n m ns ls e e l (λ g k. refl) (each_weaker (λ (b : Gen). b.number < n) (λ b. b.number < m) (λ b k. omega arith) e (scoped_below n ns ls e h)) h

  scoped_one : (n : ℕ) (t : Label) (ns : List ℕ) (ls : List Label) (e : List Gen) → Scoped n ns ls e → Scoped (suc n) (n ∷ ns) (t ∷ ls) (e ++ record { number = n; table = t } ∷ [])
  scoped_one n t ns ls e h =
      let w = scoped_below n ns ls e h in
      let one : Gen = record { number = n; table = t } in
      let apart = each_weaker (λ (b : Gen). b.number < n) (λ b. nat_eq n b.number ≡ false) (λ b k. not_above n b.number k) e w in
      let lower = each_weaker (λ (b : Gen). b.number < n) (λ b. b.number < suc n) (λ b k. omega arith) e w in
      (omega arith, columns_front n e (one ∷ []) apart ∙ ap (λ z. cond z (table_columns S t) []) (nat_same n n refl), scoped_in n (suc n) ns ls e (e ++ one ∷ []) (omega arith) (λ g k. columns_back g e (one ∷ []) (not_below g n k, tt)) (each_join (λ (b : Gen). b.number < suc n) e (one ∷ []) lower (omega arith, tt)) h)

  scoped_with : (gs : List Label) (n : ℕ) (ns : List ℕ) (ls : List Label) (e : List Gen) → Scoped n ns ls e → Scoped (n + length gs) (deal n gs ns) (under gs ls) (e ++ number_gens n gs)
  scoped_with [] n ns ls e h =
      let k : n ≡ n + 0 = omega arith in
      subst₂ (λ m (z : List Gen). Scoped m ns ls z) k (sym (append-nil e)) h
  scoped_with (t ∷ gs) n ns ls e h =
      let one : Gen = record { number = n; table = t } in
      let a : suc n + length gs ≡ n + suc (length gs) = omega arith in
      subst₂ (λ m (z : List Gen). Scoped m (deal (suc n) gs (n ∷ ns)) (under gs (t ∷ ls)) z) a (append_assoc e (one ∷ []) (number_gens (suc n) gs)) (scoped_with gs (suc n) (n ∷ ns) (t ∷ ls) (e ++ one ∷ []) (scoped_one n t ns ls e h))

  gens_above : (gs : List Label) (n m : ℕ) → n ≤ m → Each (λ b. n ≤ b.number) (number_gens m gs)
  gens_above [] n m h = tt
  gens_above (t ∷ gs) n m h = (h, gens_above gs n (suc m) (omega arith))

  -- with the new generators in front
  scoped_swap : (n m : ℕ) (ns : List ℕ) (ls : List Label) (e f : List Gen) → Each (λ b. b.number < n) e → Each (λ b. n ≤ b.number) f → Scoped m ns ls (e ++ f) → Scoped m ns ls (f ++ e)
  scoped_swap n m ns ls e f h k a =
      let below = scoped_below m ns ls (e ++ f) a in
      let P : Gen → Type 0 = λ b. b.number < m in
      scoped_in m m ns ls (e ++ f) (f ++ e) (omega arith) (λ g l. sym (columns_swap n g e f h k)) (each_join P f e (each_right P e f below) (each_left P e f below)) a

  scoped_front : (gs : List Label) (n : ℕ) (ns : List ℕ) (ls : List Label) (e : List Gen) → Scoped n ns ls e → Scoped (n + length gs) (deal n gs ns) (under gs ls) (number_gens n gs ++ e)
  scoped_front gs n ns ls e h =
      scoped_swap n (n + length gs) (deal n gs ns) (under gs ls) e (number_gens n gs) (scoped_below n ns ls e h) (gens_above gs n n (omega arith)) (scoped_with gs n ns ls e h)

  column_found : (n : ℕ) (ns : List ℕ) (ls : List Label) (sc : List Gen) (i : ℕ) (l : Label) (T : ColumnType) → Scoped n ns ls sc → RawColumnHas S ls i l T → column_type_in l (gen_columns S sc (get_or ns i 0)) ≡ Some T
  column_found n [] [] sc i l T h k = absurd k
  column_found n [] (t ∷ ls) sc i l T h k = absurd h
  column_found n (m ∷ ns) [] sc i l T h k = absurd h
  column_found n (m ∷ ns) (t ∷ ls) sc zero l T h k = ap (column_type_in l) h.1 ∙ k
  column_found n (m ∷ ns) (t ∷ ls) sc (suc i) l T h k = column_found n ns ls sc i l T h.2 k

  mutual
    base_typed : (b : RawBase) (n : ℕ) (ns : List ℕ) (ls : List Label) (sc : List Gen) (T : ColumnType) → Scoped n ns ls sc → RawBaseHas S ls b T → BaseHas S sc (number_base n ns b) T
    base_typed (raw_literal x) n ns ls sc T s h = h
    base_typed (raw_column i l) n ns ls sc T s h = column_found n ns ls sc i l T s h
    base_typed (raw_unary o b) n ns ls sc T s h = (h.0, base_typed b n ns ls sc h.0 s h.1, h.2)
    base_typed (raw_binary o a b) n ns ls sc T s h =
        (h.0, h.1, base_typed a n ns ls sc h.0 s h.2, base_typed b (n + gens_in_base a) ns ls sc h.1 (scoped_later n (n + gens_in_base a) ns ls sc (omega arith) s) h.3, h.4)
    base_typed (raw_choose x a b) n ns ls sc T s h =
        (base_typed x n ns ls sc column_type.Bool s h.0, base_typed a (n + gens_in_base x) ns ls sc T (scoped_later n (n + gens_in_base x) ns ls sc (omega arith) s) h.1, base_typed b (n + gens_in_base x + gens_in_base a) ns ls sc T (scoped_later n (n + gens_in_base x + gens_in_base a) ns ls sc (omega arith) s) h.2)
    base_typed (raw_empty xs) n ns ls sc T s h = (h.0, tests_typed xs n ns ls sc s h.1)
    base_typed (raw_total g gs bs b) n ns ls sc T s h =
        let inner = scoped_front gs n ns ls sc s in
        (h.0, known_dealt S gs n h.1, conds_typed bs (n + length gs) (deal n gs ns) (under gs ls) (number_gens n gs ++ sc) inner h.2, base_typed b (n + length gs + gens_in_conds bs) (deal n gs ns) (under gs ls) (number_gens n gs ++ sc) column_type.Int (scoped_later (n + length gs) (n + length gs + gens_in_conds bs) (deal n gs ns) (under gs ls) (number_gens n gs ++ sc) (omega arith) inner) h.3)

    conds_typed : (bs : RawConds) (n : ℕ) (ns : List ℕ) (ls : List Label) (sc : List Gen) → Scoped n ns ls sc → RawCondsHave S ls bs → CondsHave S sc (number_conds n ns bs)
    conds_typed no_raw n ns ls sc s h = tt
    conds_typed (and_raw b bs) n ns ls sc s h =
        (base_typed b n ns ls sc column_type.Bool s h.0, conds_typed bs (n + gens_in_base b) ns ls sc (scoped_later n (n + gens_in_base b) ns ls sc (omega arith) s) h.1)

    tests_typed : (xs : RawTests) (n : ℕ) (ns : List ℕ) (ls : List Label) (sc : List Gen) → Scoped n ns ls sc → RawTestsHave S ls xs → TestsHave S sc (number_tests n ns xs)
    tests_typed no_raw_test n ns ls sc s h = tt
    tests_typed (raw_test gs bs xs) n ns ls sc s h =
        (known_dealt S gs n h.0, conds_typed bs (n + length gs) (deal n gs ns) (under gs ls) (number_gens n gs ++ sc) (scoped_front gs n ns ls sc s) h.1, tests_typed xs (n + length gs + gens_in_conds bs) ns ls sc (scoped_later n (n + length gs + gens_in_conds bs) ns ls sc (omega arith) s) h.2)

  plain_typed : (sc : List Gen) (b : BaseTree) (T : ColumnType) → BaseHas S sc b T → BodyHas S sc (plain_body b) (base_type T)
  plain_typed sc b column_type.Int h = h
  plain_typed sc b column_type.Bool h = h
  plain_typed sc b column_type.Text h = h

  mutual
    body_typed : (b : RawBody) (t n : ℕ) (ns : List ℕ) (ls : List Label) (sc : List Gen) (A : TypeTree) → Scoped n ns ls sc → RawBodyHas S ls b A → BodyHas S sc (number_body t n ns A b) A
    body_typed (raw_plain b) t n ns ls sc A s h =
        subst (λ (z : TypeTree). BodyHas S sc (plain_body (number_base n ns b)) z) (sym h.2) (plain_typed sc (number_base n ns b) h.0 (base_typed b n ns ls sc h.0 s h.1))
    body_typed (raw_rec fs) t n ns ls sc A s h =
        subst (λ (z : TypeTree). BodyHas S sc (number_body t n ns z (raw_rec fs)) z) (sym h.2) (fields_typed fs t n ns ls sc h.0 s h.1)
    body_typed (raw_bag cs) t n ns ls sc A s h =
        subst (λ (z : TypeTree). BodyHas S sc (number_body t n ns z (raw_bag cs)) z) (sym h.2) (refl, comps_typed cs t n ns ls sc h.0 s h.1)

    fields_typed : (fs : RawFields) (t n : ℕ) (ns : List ℕ) (ls : List Label) (sc : List Gen) (gs : FieldTypes) → Scoped n ns ls sc → RawFieldsHave S ls fs gs → BodiesHave S sc (number_fields t n ns gs fs) gs
    fields_typed no_raw_field t n ns ls sc gs s h =
        subst (λ (z : FieldTypes). BodiesHave S sc (number_fields t n ns z no_raw_field) z) (sym h) tt
    fields_typed (raw_field l b fs) t n ns ls sc gs s h =
        subst (λ (z : FieldTypes). BodiesHave S sc (number_fields t n ns z (raw_field l b fs)) z) (sym h.4) (refl, body_typed b t n ns ls sc h.0 s h.2, fields_typed fs (t + tags_in_body b) (n + gens_in_body b) ns ls sc h.1 (scoped_later n (n + gens_in_body b) ns ls sc (omega arith) s) h.3)

    pub comps_typed : (cs : RawComps) (t n : ℕ) (ns : List ℕ) (ls : List Label) (sc : List Gen) (A : TypeTree) → Scoped n ns ls sc → RawCompsHave S ls cs A → CompsHave S sc (number_comps t n ns A cs) A
    comps_typed no_raw_comp t n ns ls sc A s h = tt
    comps_typed (raw_comp gs bs b cs) t n ns ls sc A s h = (
      known_dealt S gs n h.0,
      conds_typed bs (n + length gs) (deal n gs ns) (under gs ls) (sc ++ number_gens n gs) (scoped_with gs n ns ls sc s) h.1,
      body_typed b (suc t) (n + length gs + gens_in_conds bs) (deal n gs ns) (under gs ls) (sc ++ number_gens n gs) A (scoped_later (n + length gs) (n + length gs + gens_in_conds bs) (deal n gs ns) (under gs ls) (sc ++ number_gens n gs) (omega arith) (scoped_with gs n ns ls sc s)) h.2,
      comps_typed cs (suc t + tags_in_body b) (n + length gs + gens_in_conds bs + gens_in_body b) ns ls sc A (scoped_later n (n + length gs + gens_in_conds bs + gens_in_body b) ns ls sc (omega arith) s) h.3,
    )

  -- a whole form
  pub form_typed : (cs : RawComps) (A : TypeTree) → RawCompsHave S [] cs A → CompsHave S [] (number_comps 1 1 [] A cs) A
  form_typed cs A h = comps_typed cs 1 1 [] [] [] A tt h
