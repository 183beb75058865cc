-- Tags in pre-order are 1, 2 and so on, and so are the numbers of generators in the order of the printed text.
use Rattle.std.proofs.Common.{◌≡◌, ℕ, zero, suc, ◌+◌, ◌≤◌, List, [], ◌∷◌, ◌++◌, map, refl, sym, ap, ap₂, ◌∙◌, length, arith}
use Rattle.std.specs.List.{AllByRecursion as Each}
use Rattle.nq_model.specs.Numberings.{count_from}
use Rattle.nq_model.specs.Orders.{AreDistinct}
use Rattle.nq_model.specs.Types.{TypeTree, FieldTypes}
use Rattle.nq_model.specs.NamedRows.{Label}
use Rattle.nq_ir.specs.WellFormed.{base_numbers, conds_numbers, tests_numbers, body_numbers, bodies_numbers, comps_numbers, body_tags, bodies_tags, comps_tags}
use Rattle.nq_ir.specs.RawForms.{RawBase, raw_literal, raw_column, raw_unary, raw_binary, raw_choose, raw_empty, RawConds, no_raw, and_raw, RawTests, no_raw_test, raw_test, RawBody, raw_plain, raw_rec, raw_bag, RawFields, no_raw_field, raw_field, RawComps, no_raw_comp, raw_comp, raw_total}
use Rattle.nq_ir.specs.NormalForms.{gens_in_base, gens_in_conds, gens_in_tests, gens_in_body, gens_in_fields, gens_in_comps, tags_in_body, tags_in_fields, tags_in_comps, number_gens, deal, number_base, number_conds, number_tests, number_body, number_fields, number_comps, element_type, field_types, first_type, rest_types}
use Rattle.nq_ir.proofs.Numbered.{each_weaker}

-- the numbers and tags are dealt one after the other
count_split : (a k m : ℕ) → count_from a (k + m) ≡ count_from a k ++ count_from (a + k) m
count_split a zero m =
    let e : 0 + m ≡ m = omega arith in
    let f : a ≡ a + 0 = omega arith in
    ap (count_from a) e ∙ ap (λ z. count_from z m) f
count_split a (suc k) m =
    let e : suc k + m ≡ suc (k + m) = omega arith in
    let f : suc a + k ≡ a + suc k = omega arith in
    ap (count_from a) e ∙ ap (λ (l : List ℕ). a ∷ l) (count_split (suc a) k m ∙ ap (λ z. count_from (suc a) k ++ count_from z m) f)

join_counts : (a k m : ℕ) (xs ys : List ℕ) → xs ≡ count_from a k → ys ≡ count_from (a + k) m → xs ++ ys ≡ count_from a (k + m)
join_counts a k m xs ys g h = ap₂ (λ (x y : List ℕ). x ++ y) g h ∙ sym (count_split a k m)

gens_dealt : (n : ℕ) (gs : List Label) → map (λ g. g.number) (number_gens n gs) ≡ count_from n (length gs)
gens_dealt n [] = refl
gens_dealt n (t ∷ gs) = ap (λ (l : List ℕ). n ∷ l) (gens_dealt (suc n) gs)

mutual
  base_dealt : (b : RawBase) (n : ℕ) (sc : List ℕ) → base_numbers (number_base n sc b) ≡ count_from n (gens_in_base b)
  base_dealt (raw_literal x) n sc = refl
  base_dealt (raw_column i l) n sc = refl
  base_dealt (raw_unary o b) n sc = base_dealt b n sc
  base_dealt (raw_binary o a b) n sc =
      join_counts n (gens_in_base a) (gens_in_base b) (base_numbers (number_base n sc a)) (base_numbers (number_base (n + gens_in_base a) sc b)) (base_dealt a n sc) (base_dealt b (n + gens_in_base a) sc)
  base_dealt (raw_choose x a b) n sc =
      join_counts n (gens_in_base x) (gens_in_base a + gens_in_base b) (base_numbers (number_base n sc x)) (base_numbers (number_base (n + gens_in_base x) sc a) ++ base_numbers (number_base (n + gens_in_base x + gens_in_base a) sc b)) (base_dealt x n sc) (join_counts (n + gens_in_base x) (gens_in_base a) (gens_in_base b) (base_numbers (number_base (n + gens_in_base x) sc a)) (base_numbers (number_base (n + gens_in_base x + gens_in_base a) sc b)) (base_dealt a (n + gens_in_base x) sc) (base_dealt b (n + gens_in_base x + gens_in_base a) sc))
  base_dealt (raw_empty xs) n sc = tests_dealt xs n sc
  base_dealt (raw_total g gs bs b) n sc =
      let bs' = number_conds (n + length gs) (deal n gs sc) bs in
      let b' = number_base (n + length gs + gens_in_conds bs) (deal n gs sc) b in
      join_counts n (length gs) (gens_in_conds bs + gens_in_base b) (map (λ g. g.number) (number_gens n gs)) (conds_numbers bs' ++ base_numbers b') (gens_dealt n gs) (join_counts (n + length gs) (gens_in_conds bs) (gens_in_base b) (conds_numbers bs') (base_numbers b') (bases_dealt bs (n + length gs) (deal n gs sc)) (base_dealt b (n + length gs + gens_in_conds bs) (deal n gs sc)))

  bases_dealt : (bs : RawConds) (n : ℕ) (sc : List ℕ) → conds_numbers (number_conds n sc bs) ≡ count_from n (gens_in_conds bs)
  bases_dealt no_raw n sc = refl
  bases_dealt (and_raw b bs) n sc =
      join_counts n (gens_in_base b) (gens_in_conds bs) (base_numbers (number_base n sc b)) (conds_numbers (number_conds (n + gens_in_base b) sc bs)) (base_dealt b n sc) (bases_dealt bs (n + gens_in_base b) sc)

  tests_dealt : (xs : RawTests) (n : ℕ) (sc : List ℕ) → tests_numbers (number_tests n sc xs) ≡ count_from n (gens_in_tests xs)
  tests_dealt no_raw_test n sc = refl
  tests_dealt (raw_test gs bs xs) n sc =
      let bs' = number_conds (n + length gs) (deal n gs sc) bs in
      let xs' = number_tests (n + length gs + gens_in_conds bs) sc xs in
      join_counts n (length gs) (gens_in_conds bs + gens_in_tests xs) (map (λ g. g.number) (number_gens n gs)) (conds_numbers bs' ++ tests_numbers xs') (gens_dealt n gs) (join_counts (n + length gs) (gens_in_conds bs) (gens_in_tests xs) (conds_numbers bs') (tests_numbers xs') (bases_dealt bs (n + length gs) (deal n gs sc)) (tests_dealt xs (n + length gs + gens_in_conds bs) sc))

mutual
  body_dealt : (b : RawBody) (t n : ℕ) (sc : List ℕ) (A : TypeTree) → body_numbers (number_body t n sc A b) ≡ count_from n (gens_in_body b)
  body_dealt (raw_plain b) t n sc A = base_dealt b n sc
  body_dealt (raw_rec fs) t n sc A = fields_dealt fs t n sc (field_types A)
  body_dealt (raw_bag cs) t n sc A = comps_dealt cs t n sc (element_type A)

  fields_dealt : (fs : RawFields) (t n : ℕ) (sc : List ℕ) (As : FieldTypes) → bodies_numbers (number_fields t n sc As fs) ≡ count_from n (gens_in_fields fs)
  fields_dealt no_raw_field t n sc As = refl
  fields_dealt (raw_field l b fs) t n sc As =
      join_counts n (gens_in_body b) (gens_in_fields fs) (body_numbers (number_body t n sc (first_type As) b)) (bodies_numbers (number_fields (t + tags_in_body b) (n + gens_in_body b) sc (rest_types As) fs)) (body_dealt b t n sc (first_type As)) (fields_dealt fs (t + tags_in_body b) (n + gens_in_body b) sc (rest_types As))

  comps_dealt : (cs : RawComps) (t n : ℕ) (sc : List ℕ) (A : TypeTree) → comps_numbers (number_comps t n sc A cs) ≡ count_from n (gens_in_comps cs)
  comps_dealt no_raw_comp t n sc A = refl
  comps_dealt (raw_comp gs bs b cs) t n sc A =
      let m = n + length gs in
      let bs' = number_conds m (deal n gs sc) bs in
      let b' = number_body (suc t) (m + gens_in_conds bs) (deal n gs sc) A b in
      let cs' = number_comps (suc t + tags_in_body b) (m + gens_in_conds bs + gens_in_body b) sc A cs in
      join_counts n (length gs) (gens_in_conds bs + (gens_in_body b + gens_in_comps cs)) (map (λ g. g.number) (number_gens n gs)) (conds_numbers bs' ++ (body_numbers b' ++ comps_numbers cs')) (gens_dealt n gs) (join_counts m (gens_in_conds bs) (gens_in_body b + gens_in_comps cs) (conds_numbers bs') (body_numbers b' ++ comps_numbers cs') (bases_dealt bs m (deal n gs sc)) (join_counts (m + gens_in_conds bs) (gens_in_body b) (gens_in_comps cs) (body_numbers b') (comps_numbers cs') (body_dealt b (suc t) (m + gens_in_conds bs) (deal n gs sc) A) (comps_dealt cs (suc t + tags_in_body b) (m + gens_in_conds bs + gens_in_body b) sc A)))

mutual
  body_tagged : (b : RawBody) (t n : ℕ) (sc : List ℕ) (A : TypeTree) → body_tags (number_body t n sc A b) ≡ count_from t (tags_in_body b)
  body_tagged (raw_plain b) t n sc A = refl
  body_tagged (raw_rec fs) t n sc A = fields_tagged fs t n sc (field_types A)
  body_tagged (raw_bag cs) t n sc A = comps_tagged cs t n sc (element_type A)

  fields_tagged : (fs : RawFields) (t n : ℕ) (sc : List ℕ) (As : FieldTypes) → bodies_tags (number_fields t n sc As fs) ≡ count_from t (tags_in_fields fs)
  fields_tagged no_raw_field t n sc As = refl
  fields_tagged (raw_field l b fs) t n sc As =
      join_counts t (tags_in_body b) (tags_in_fields fs) (body_tags (number_body t n sc (first_type As) b)) (bodies_tags (number_fields (t + tags_in_body b) (n + gens_in_body b) sc (rest_types As) fs)) (body_tagged b t n sc (first_type As)) (fields_tagged fs (t + tags_in_body b) (n + gens_in_body b) sc (rest_types As))

  comps_tagged : (cs : RawComps) (t n : ℕ) (sc : List ℕ) (A : TypeTree) → comps_tags (number_comps t n sc A cs) ≡ count_from t (tags_in_comps cs)
  comps_tagged no_raw_comp t n sc A = refl
  comps_tagged (raw_comp gs bs b cs) t n sc A =
      let m = n + length gs in
      ap (λ (l : List ℕ). t ∷ l) (join_counts (suc t) (tags_in_body b) (tags_in_comps cs) (body_tags (number_body (suc t) (m + gens_in_conds bs) (deal n gs sc) A b)) (comps_tags (number_comps (suc t + tags_in_body b) (m + gens_in_conds bs + gens_in_body b) sc A cs)) (body_tagged b (suc t) (m + gens_in_conds bs) (deal n gs sc) A) (comps_tagged cs (suc t + tags_in_body b) (m + gens_in_conds bs + gens_in_body b) sc A))

-- the tags in pre-order are 1, 2 and so on, and so are the generator numbers in the order of the text
pub tags_in_order : (cs : RawComps) (A : TypeTree) → comps_tags (number_comps 1 1 [] A cs) ≡ count_from 1 (tags_in_comps cs)
tags_in_order cs A = comps_tagged cs 1 1 [] A

pub numbers_in_order : (cs : RawComps) (A : TypeTree) → comps_numbers (number_comps 1 1 [] A cs) ≡ count_from 1 (gens_in_comps cs)
numbers_in_order cs A = comps_dealt cs 1 1 [] A

pub counted_above : (b a k : ℕ) → b ≤ a → Each (λ y. b ≤ y) (count_from a k)
counted_above b a zero h = tt
counted_above b a (suc k) h = (h, counted_above b (suc a) k (omega arith))

pub counted_differ : (a k : ℕ) → AreDistinct (count_from a k)
counted_differ a zero = tt
counted_differ a (suc k) =
    (each_weaker (λ y. suc a ≤ y) (λ y. a ≡ y → ⊥) (λ y h e. let f : a ≡ y = e in absurd (omega arith)) (count_from (suc a) k) (counted_above (suc a) (suc a) k (omega arith)), counted_differ (suc a) k)
