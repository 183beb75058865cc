-- Values and bodies that mean the same, part by part: fields, elements, emptiness tests, conditions and choices.
use Rattle.nq_model.specs.declared.table.Cell.{Cell}
use Rattle.nq_model.specs.declared.table.Cell.TheVariants as cell
use Rattle.nq_model.proofs.Numberings.{length_map}
use Rattle.nq_ir.proofs.Nested.{map_same, map_of_map}
use Rattle.std.specs.Int.{int_wrap, w64}
use Rattle.nq_model.proofs.Aggregates.{count_joined, sum_joined, count_none, sum_none}
use Rattle.nq_model.specs.declared.term.Binary.TheVariants.{Add}
use Rattle.nq_model.specs.Totals.{sum_of}
use Rattle.nq_model.specs.Terms.{Aggregate, Emptiness, Count, Sum}
use Rattle.std.proofs.Common.{◌≡◌, ℕ, pos, append_assoc, zero, suc, List, [], ◌∷◌, ◌++◌, map, refl, sym, ap, ap₂, ◌∙◌, subst, subst₂, Bool, true, false, cond, filter, flat_map, length, get_or, append-nil, ◌&&◌, not}
use Rattle.std.specs.List.{AllByRecursion as Each}
use Rattle.std.specs.Ordering.{is_gt}
use Rattle.std.specs.Str.{bytes_eq}
use Rattle.nq_model.specs.Bags.{Pick, here, there, Matched, Reordered}
use Rattle.nq_model.specs.Meaning.{is_none, cell_of, elements_in, value_under, field_in, aggregate_value}
use Rattle.nq_model.specs.Operators.{is_true, binary_value}
use Rattle.nq_model.specs.Orders.{label_cmp, put_by}
use Rattle.nq_model.specs.Types.{TypeTree, FieldTypes}
use Rattle.nq_model.specs.Values.{Nested, base, rec, bag, Fields, field, elements, elements_of, fields_of, bag_of, Same, SameFields}
use Rattle.nq_model.specs.declared.table.TableShape.{TableShape}
use Rattle.nq_model.specs.declared.term.Unary.TheVariants.{Not}
use Rattle.nq_model.proofs.Bags.{matched_weaker, reordered_append, reordered_sym}
use Rattle.nq_model.proofs.Sameness.{same_refl, same_bag, matched_same, elements_back}
use Rattle.nq_model.specs.NamedRows.{Label, Row, no_cell}
use Rattle.nq_ir.specs.Meanings.{Tables}
use Rattle.nq_ir.specs.RawForms.{RawConds, RawBase, no_raw, and_raw, raw_unary, RawBody, raw_plain, raw_rec, raw_bag, RawFields, no_raw_field, raw_field, RawComps, no_raw_comp, raw_comp, up_body, raw_base_in, raw_comps_in, raw_field_among, raw_field_in, put_raw, append_raw, inside, where_raw, choice, choice_of_fields, raw_tests_of, no_raw_body, raw_literal, raw_binary, of_each, raw_count, raw_sum, plus_each, plus_all, raw_aggregate}
use Rattle.nq_ir.proofs.RawMeanings.{picks, raw_value, raw_true, raw_none, raw_kept, raw_meaning, raw_fields_meaning, raw_comps_meaning, body_skips, inside_means, append_means}
use Rattle.nq_ir.proofs.RawTypes.{RawBodyHas, RawFieldsHave, not_record, not_bag, mixed}
use Rattle.nq_ir.proofs.Equal.{bytes_turned}

pub unpick_map : {A B : Type 0} (g : A → B) {z : B} {rest : List B} (ys : List A) → Pick z (map g ys) rest → (y : A) × (left : List A) × Pick y ys left × (z ≡ g y) × (rest ≡ map g left)
unpick_map g ys p = go g ys p refl
  where
    go : {A B : Type 0} (g : A → B) {z : B} {zs rest : List B} (ys : List A) → Pick z zs rest → zs ≡ map g ys → (y : A) × (left : List A) × Pick y ys left × (z ≡ g y) × (rest ≡ map g left)
    go g [] here e = absurd (cc)
    go {A = A} {B = B} g {z = z} {rest = rest} (y ∷ ys) here e =
        let a : z ≡ g y = cc in
        let b : rest ≡ map g ys = cc in
        (y, ys, here, a, b)
    go g [] (there p) e = absurd (cc)
    go g (y ∷ ys) (there {z = w} {ys = zs} {rest = left} p) e =
        let a : w ≡ g y = cc in
        let b : zs ≡ map g ys = cc in
        let r = go g ys p b in
        (r.0, y ∷ r.1, there r.2, r.3, ap₂ (λ x (l : List _). x ∷ l) a r.4)

pub matched_unmap : {A B C : Type 0} (R : A → C → Type 0) (g : B → C) (xs : List A) (ys : List B) → Matched R xs (map g ys) → Matched (λ x y. R x (g y)) xs ys
matched_unmap R g [] [] m = refl
matched_unmap R g [] (y ∷ ys) m = absurd (cc)
matched_unmap R g (x ∷ xs) ys m =
    let u = unpick_map g ys m.2 in
    (u.0, u.1, u.2, subst (R x) u.3 m.3, matched_unmap R g xs u.1 (subst (λ (l : List _). Matched R xs l) u.4 m.4))

each_picked : {A : Type 0} (P : A → Type 0) {y : A} {ys rest : List A} → Pick y ys rest → Each P ys → P y × Each P rest
each_picked P here e = e
each_picked P (there p) e = let r = each_picked P p e.1 in (r.0, (e.0, r.1))

pub matched_each : {A B : Type 0} (R : A → B → Type 0) (P : B → Type 0) (xs : List A) (ys : List B) → Matched R xs ys → Each P ys → Matched (λ x y. R x y × P y) xs ys
matched_each R P [] ys m e = m
matched_each R P (x ∷ xs) ys m e =
    let k = each_picked P m.2 e in
    (m.0, m.1, m.2, (m.3, k.0), matched_each R P xs m.1 m.4 k.1)

-- values and bodies that mean the same
abbrev pub Related : Tables → List Nested → List RawBody → List Row → Type 0
Related ts [] [] env = Unit {0}
Related ts [] (b ∷ es) env = ⊥
Related ts (v ∷ vs) [] env = ⊥
Related ts (v ∷ vs) (b ∷ es) env = Same v (raw_meaning ts b env) × Related ts vs es env

pub related_up : (ts : Tables) (vs : List Nested) (es : List RawBody) (n : ℕ) (mid env : List Row) → length mid ≡ n → Related ts vs es env → Related ts vs (map (up_body n 0) es) (mid ++ env)
related_up ts [] [] n mid env h r = tt
related_up ts [] (b ∷ es) n mid env h r = absurd r
related_up ts (v ∷ vs) [] n mid env h r = absurd r
related_up ts (v ∷ vs) (b ∷ es) n mid env h r =
    (subst (λ z. Same v z) (sym (ap (λ k. raw_meaning ts (up_body k 0 b) (mid ++ env)) (sym h) ∙ body_skips ts mid env b [])) r.0, related_up ts vs es n mid env h r.1)

pub related_at : (ts : Tables) (vs : List Nested) (es : List RawBody) (env : List Row) (k : ℕ) → Related ts vs es env → Same (get_or vs k (base no_cell)) (raw_meaning ts (get_or es k (no_raw_body)) env)
related_at ts [] [] env k r = refl
related_at ts [] (b ∷ es) env k r = absurd r
related_at ts (v ∷ vs) [] env k r = absurd r
related_at ts (v ∷ vs) (b ∷ es) env zero r = r.0
related_at ts (v ∷ vs) (b ∷ es) env (suc k) r = related_at ts vs es env k r.1

pub cell_means : (ts : Tables) (env : List Row) (v : Nested) (b : RawBody) → Same v (raw_meaning ts b env) → cell_of v ≡ raw_value ts (raw_base_in b) env
cell_means ts env (base c) (raw_plain b) s = s
cell_means ts env (base c) (raw_rec fs) s = absurd s
cell_means ts env (base c) (raw_bag cs) s = absurd s
cell_means ts env (rec gs) (raw_plain b) s = absurd s
cell_means ts env (rec gs) (raw_rec fs) s = refl
cell_means ts env (rec gs) (raw_bag cs) s = absurd s
cell_means ts env (bag vs) (raw_plain b) s = absurd s
cell_means ts env (bag vs) (raw_rec fs) s = absurd s
cell_means ts env (bag vs) (raw_bag cs) s = refl

pub elements_mean : (ts : Tables) (env : List Row) (v : Nested) (b : RawBody) → Same v (raw_meaning ts b env) → Matched Same (elements_in v) (raw_comps_meaning ts (raw_comps_in b) env)
elements_mean ts env (base c) (raw_plain b) s = refl
elements_mean ts env (base c) (raw_rec fs) s = absurd s
elements_mean ts env (base c) (raw_bag cs) s = absurd s
elements_mean ts env (rec gs) (raw_plain b) s = absurd s
elements_mean ts env (rec gs) (raw_rec fs) s = refl
elements_mean ts env (rec gs) (raw_bag cs) s = absurd s
elements_mean ts env (bag vs) (raw_plain b) s = absurd s
elements_mean ts env (bag vs) (raw_rec fs) s = absurd s
elements_mean ts env (bag vs) (raw_bag cs) s = subst (λ (l : List Nested). Matched Same (elements vs) l) (elements_back (raw_comps_meaning ts cs env)) (matched_same vs (elements (elements_of (raw_comps_meaning ts cs env))) s)

field_found : (ts : Tables) (env : List Row) (l : Label) (gs : Fields) (fs : RawFields) → SameFields gs (raw_fields_meaning ts fs env) → Same (value_under l gs) (raw_meaning ts (raw_field_among l fs) env)
field_found ts env l Fields.none no_raw_field s = refl
field_found ts env l Fields.none (raw_field k b fs) s = absurd s
field_found ts env l (field k v gs) no_raw_field s = absurd s
field_found ts env l (field k v gs) (raw_field j b fs) s = subst₂ (λ x z. Same (cond x v (value_under l gs)) (raw_meaning ts (cond (bytes_eq l z) b (raw_field_among l fs)) env)) (bytes_turned l k) s.0 (go (bytes_eq l k) (field_found ts env l gs fs s.2))
  where
    go : (c : Bool) → Same (value_under l gs) (raw_meaning ts (raw_field_among l fs) env) → Same (cond c v (value_under l gs)) (raw_meaning ts (cond c b (raw_field_among l fs)) env)
    go true h = s.1
    go false h = h

pub field_means : (ts : Tables) (env : List Row) (l : Label) (v : Nested) (b : RawBody) → Same v (raw_meaning ts b env) → Same (field_in l v) (raw_meaning ts (raw_field_in l b) env)
field_means ts env l (base c) (raw_plain b) s = refl
field_means ts env l (base c) (raw_rec fs) s = absurd s
field_means ts env l (base c) (raw_bag cs) s = absurd s
field_means ts env l (rec gs) (raw_plain b) s = absurd s
field_means ts env l (rec gs) (raw_rec fs) s = field_found ts env l gs fs s
field_means ts env l (rec gs) (raw_bag cs) s = absurd s
field_means ts env l (bag vs) (raw_plain b) s = absurd s
field_means ts env l (bag vs) (raw_rec fs) s = absurd s
field_means ts env l (bag vs) (raw_bag cs) s = refl

-- an emptiness test over comprehensions
pub tests_mean : (ts : Tables) (cs : RawComps) (env : List Row) → raw_none ts (raw_tests_of cs) env ≡ is_none (raw_comps_meaning ts cs env)
tests_mean ts no_raw_comp env = refl
tests_mean ts (raw_comp gs bs b cs) env =
    let f = filter (λ rs. raw_true ts bs (rs ++ env)) (picks ts gs) in
    ap (λ z. is_none f && z) (tests_mean ts cs env) ∙ go f (raw_comps_meaning ts cs env)
  where
    go : (f : List (List Row)) (l : List Nested) → (is_none f && is_none l) ≡ is_none (map (λ e. raw_meaning ts b e) (map (λ rs. rs ++ env) f) ++ l)
    go [] l = refl
    go (x ∷ f) l = refl

pub none_matched : (xs ys : List Nested) → Matched Same xs ys → is_none xs ≡ is_none ys
none_matched [] ys m = ap is_none (sym m)
none_matched (x ∷ xs) [] m = absurd (no_pick m.2)
  where
    no_pick : {z : Nested} {rest : List Nested} → Pick z [] rest → ⊥
    no_pick p = elim p [ ]
none_matched (x ∷ xs) (y ∷ ys) m = refl

-- the comprehensions one by one, joined by +, give what they give together
module _ (ts : Tables) (env : List Row) (f : List Nested → Cell) (append : (xs ys : List Nested) → f (xs ++ ys) ≡ binary_value Add (f xs) (f ys)) (one : List Label → RawConds → RawBody → RawBase) (means : (gs : List Label) (bs : RawConds) (b : RawBody) → raw_value ts (one gs bs b) env ≡ f (map (λ e. raw_meaning ts b e) (raw_kept ts gs bs env))) where
  plus_each_means : (cs : RawComps) (a : RawBase) (xs : List Nested) → raw_value ts a env ≡ f xs → raw_value ts (plus_each a (of_each one cs)) env ≡ f (xs ++ raw_comps_meaning ts cs env)
  plus_each_means no_raw_comp a xs h = h ∙ ap f (sym (append-nil xs))
  plus_each_means (raw_comp gs bs b cs) a xs h =
      let here : List Nested = map (λ e. raw_meaning ts b e) (raw_kept ts gs bs env) in
      plus_each_means cs (raw_binary Add a (one gs bs b)) (xs ++ here) (ap₂ (binary_value Add) h (means gs bs b) ∙ sym (append xs here)) ∙ ap f (append_assoc xs here (raw_comps_meaning ts cs env))

  plus_all_means : f [] ≡ cell.Int (pos 0) → (cs : RawComps) → raw_value ts (plus_all (of_each one cs)) env ≡ f (raw_comps_meaning ts cs env)
  plus_all_means none no_raw_comp = sym none
  plus_all_means none (raw_comp gs bs b cs) = plus_each_means cs (one gs bs b) (map (λ e. raw_meaning ts b e) (raw_kept ts gs bs env)) (means gs bs b)

cells_of_body : (ts : Tables) (b : RawBody) (e : List Row) → cell_of (raw_meaning ts b e) ≡ raw_value ts (raw_base_in b) e
cells_of_body ts (raw_plain b) e = refl
cells_of_body ts (raw_rec fs) e = refl
cells_of_body ts (raw_bag cs) e = refl

-- what is asked of the elements is the value of the base term that asks it
pub aggregate_means : (ts : Tables) (g : Aggregate) (cs : RawComps) (env : List Row) → raw_value ts (raw_aggregate g cs) env ≡ aggregate_value g (raw_comps_meaning ts cs env)
aggregate_means ts Emptiness cs env = ap cell.Bool (tests_mean ts cs env)
aggregate_means ts Count cs env = plus_all_means ts env (aggregate_value Count) count_joined raw_count (λ gs bs b. ap (λ n. cell.Int (int_wrap w64 (pos n))) (as_many gs bs b)) count_none cs
  where
    as_many : (gs : List Label) (bs : RawConds) (b : RawBody) → length (map (λ rs. raw_value ts (raw_literal (cell.Int (pos 1))) (rs ++ env)) (filter (λ rs. raw_true ts bs (rs ++ env)) (picks ts gs))) ≡ length (map (λ e. raw_meaning ts b e) (raw_kept ts gs bs env))
    as_many gs bs b = length_map (λ rs. cell.Int (pos 1)) (filter (λ rs. raw_true ts bs (rs ++ env)) (picks ts gs)) ∙ sym (length_map (λ e. raw_meaning ts b e) (raw_kept ts gs bs env) ∙ length_map (λ rs. rs ++ env) (filter (λ rs. raw_true ts bs (rs ++ env)) (picks ts gs)))
aggregate_means ts Sum cs env = plus_all_means ts env (aggregate_value Sum) sum_joined raw_sum (λ gs bs b. ap (λ (l : List Cell). cell.Int (sum_of l)) (values gs bs b)) sum_none cs
  where
    values : (gs : List Label) (bs : RawConds) (b : RawBody) → map (λ rs. raw_value ts (raw_base_in b) (rs ++ env)) (filter (λ rs. raw_true ts bs (rs ++ env)) (picks ts gs)) ≡ map cell_of (map (λ e. raw_meaning ts b e) (raw_kept ts gs bs env))
    values gs bs b = map_same (λ rs. raw_value ts (raw_base_in b) (rs ++ env)) (λ rs. cell_of (raw_meaning ts b (rs ++ env))) (λ rs. sym (cells_of_body ts b (rs ++ env))) (filter (λ rs. raw_true ts bs (rs ++ env)) (picks ts gs)) ∙ sym (ap (map cell_of) (map_of_map (λ e. raw_meaning ts b e) (λ rs. rs ++ env) (filter (λ rs. raw_true ts bs (rs ++ env)) (picks ts gs))) ∙ map_of_map cell_of (λ rs. raw_meaning ts b (rs ++ env)) (filter (λ rs. raw_true ts bs (rs ++ env)) (picks ts gs)))

-- conditions in front
pub where_means : (ts : Tables) (x : RawBase) (cs : RawComps) (env : List Row) → Reordered (cond (is_true (raw_value ts x env)) (raw_comps_meaning ts cs env) []) (raw_comps_meaning ts (inside [] (and_raw x no_raw) cs) env)
where_means ts x cs env = go (is_true (raw_value ts x env)) (reordered_sym (raw_comps_meaning ts (inside [] (and_raw x no_raw) cs) env) (flat_map (λ e. raw_comps_meaning ts cs e) (raw_kept ts [] (and_raw x no_raw) env)) (inside_means ts [] (and_raw x no_raw) cs env))
  where
    go : (b : Bool) → Reordered (flat_map (λ e. raw_comps_meaning ts cs e) (map (λ rs. rs ++ env) (cond (b && true) ([] ∷ []) []))) (raw_comps_meaning ts (inside [] (and_raw x no_raw) cs) env) → Reordered (cond b (raw_comps_meaning ts cs env) []) (raw_comps_meaning ts (inside [] (and_raw x no_raw) cs) env)
    go true h = subst (λ (l : List Nested). Reordered l (raw_comps_meaning ts (inside [] (and_raw x no_raw) cs) env)) (append-nil (raw_comps_meaning ts cs env)) h
    go false h = h

-- a field put into a record, in the byte order of the labels
abbrev pub put_value : Label → Nested → Fields → Fields
put_value l v Fields.none = field l v Fields.none
put_value l v (field k w fs) = cond (is_gt (label_cmp l k)) (field k w (put_value l v fs)) (field l v (field k w fs))

pub put_listed : (l : Label) (v : Nested) (fs : List (Label × Nested)) → fields_of (put_by (λ f g. label_cmp f.0 g.0) (l, v) fs) ≡ put_value l v (fields_of fs)
put_listed l v [] = refl
put_listed l v (f ∷ fs) = go (is_gt (label_cmp l f.0)) (put_listed l v fs)
  where
    go : (t : Bool) → fields_of (put_by (λ f g. label_cmp f.0 g.0) (l, v) fs) ≡ put_value l v (fields_of fs) → fields_of (cond t (f ∷ put_by (λ f g. label_cmp f.0 g.0) (l, v) fs) ((l, v) ∷ f ∷ fs)) ≡ cond t (field f.0 f.1 (put_value l v (fields_of fs))) (field l v (field f.0 f.1 (fields_of fs)))
    go true i = ap (field f.0 f.1) i
    go false i = refl

-- a field put in its place on both sides
pub same_put : (l : Label) (v w : Nested) (fs gs : Fields) → Same v w → SameFields fs gs → SameFields (put_value l v fs) (put_value l w gs)
same_put l v w Fields.none Fields.none h s = (refl, h, tt)
same_put l v w Fields.none (field j b gs) h s = absurd s
same_put l v w (field k a fs) Fields.none h s = absurd s
same_put l v w (field k a fs) (field j b gs) h s =
    subst (λ z. SameFields (put_value l v (field k a fs)) (cond (is_gt (label_cmp l z)) (field z b (put_value l w gs)) (field l w (field z b gs)))) s.0 (go (is_gt (label_cmp l k)) (same_put l v w fs gs h s.2))
  where
    go : (t : Bool) → SameFields (put_value l v fs) (put_value l w gs) → SameFields (cond t (field k a (put_value l v fs)) (field l v (field k a fs))) (cond t (field k b (put_value l w gs)) (field l w (field k b gs)))
    go true i = (refl, s.1, i)
    go false i = (refl, h, (refl, s.1, s.2))

pub put_means : (ts : Tables) (l : Label) (b : RawBody) (fs : RawFields) (env : List Row) → raw_fields_meaning ts (put_raw l b fs) env ≡ put_value l (raw_meaning ts b env) (raw_fields_meaning ts fs env)
put_means ts l b no_raw_field env = refl
put_means ts l b (raw_field k d fs) env = go (is_gt (label_cmp l k)) (put_means ts l b fs env)
  where
    go : (t : Bool) → raw_fields_meaning ts (put_raw l b fs) env ≡ put_value l (raw_meaning ts b env) (raw_fields_meaning ts fs env) → raw_fields_meaning ts (cond t (raw_field k d (put_raw l b fs)) (raw_field l b (raw_field k d fs))) env ≡ cond t (field k (raw_meaning ts d env) (put_value l (raw_meaning ts b env) (raw_fields_meaning ts fs env))) (field l (raw_meaning ts b env) (field k (raw_meaning ts d env) (raw_fields_meaning ts fs env)))
    go true i = ap (field k (raw_meaning ts d env)) i
    go false i = refl

-- a choice between bodies of one type
same_of : (xs ys : List Nested) → Reordered xs ys → Same (bag_of xs) (bag_of ys)
same_of xs ys r = same_bag xs ys (matched_weaker (λ x y. x ≡ y) Same (λ x y e. subst (Same x) e (same_refl x)) xs ys r)

mutual
  pub choose_means : (ts : Tables) (c : List TableShape) (sc : List Label) (x : RawBase) (a b : RawBody) (A : TypeTree) (env : List Row) → RawBodyHas c sc a A → RawBodyHas c sc b A → Same (cond (is_true (raw_value ts x env)) (raw_meaning ts a env) (raw_meaning ts b env)) (raw_meaning ts (choice x a b) env)
  choose_means ts c sc x (raw_plain a) (raw_plain b) A env g h = go (is_true (raw_value ts x env))
    where
      go : (t : Bool) → Same (cond t (base (raw_value ts a env)) (base (raw_value ts b env))) (base (cond t (raw_value ts a env) (raw_value ts b env)))
      go true = refl
      go false = refl
  choose_means ts c sc x (raw_plain a) (raw_rec gs) A env g h = absurd (not_record A g.0 h.0 g.2 h.2)
  choose_means ts c sc x (raw_plain a) (raw_bag ds) A env g h = absurd (not_bag A g.0 h.0 g.2 h.2)
  choose_means ts c sc x (raw_rec fs) (raw_plain b) A env g h = absurd (not_record A h.0 g.0 h.2 g.2)
  choose_means ts c sc x (raw_rec fs) (raw_rec gs) A env g h =
      let u : TypeTree.rec h.0 ≡ TypeTree.rec g.0 = sym h.2 ∙ g.2 in
      let v : h.0 ≡ g.0 = cc in
      go (is_true (raw_value ts x env)) (choose_fields_mean ts c sc x fs gs g.0 env g.1 (subst (λ (z : FieldTypes). RawFieldsHave c sc gs z) v h.1))
    where
      go : (t : Bool) → SameFields (cond t (raw_fields_meaning ts fs env) (raw_fields_meaning ts gs env)) (raw_fields_meaning ts (choice_of_fields x fs gs) env) → Same (cond t (rec (raw_fields_meaning ts fs env)) (rec (raw_fields_meaning ts gs env))) (rec (raw_fields_meaning ts (choice_of_fields x fs gs) env))
      go true i = i
      go false i = i
  choose_means ts c sc x (raw_rec fs) (raw_bag ds) A env g h = absurd (mixed g.0 A h.0 g.2 h.2)
  choose_means ts c sc x (raw_bag cs) (raw_plain b) A env g h = absurd (not_bag A h.0 g.0 h.2 g.2)
  choose_means ts c sc x (raw_bag cs) (raw_rec gs) A env g h = absurd (mixed h.0 A g.0 h.2 g.2)
  choose_means ts c sc x (raw_bag cs) (raw_bag ds) A env g h =
      let t = is_true (raw_value ts x env) in
      let xs = raw_comps_meaning ts cs env in
      let ys = raw_comps_meaning ts ds env in
      let l = raw_comps_meaning ts (where_raw x cs) env in
      let r = raw_comps_meaning ts (where_raw (raw_unary Not x) ds) env in
      let two : Reordered (cond t xs [] ++ cond (not t) ys []) (l ++ r) = reordered_append (cond t xs []) (cond (not t) ys []) l r (where_means ts x cs env) (where_means ts (raw_unary Not x) ds env) in
      go t (subst (λ (z : List Nested). Reordered (cond t xs [] ++ cond (not t) ys []) z) (sym (append_means ts (where_raw x cs) (where_raw (raw_unary Not x) ds) env)) two)
    where
      go : (t : Bool) → Reordered (cond t (raw_comps_meaning ts cs env) [] ++ cond (not t) (raw_comps_meaning ts ds env) []) (raw_comps_meaning ts (append_raw (where_raw x cs) (where_raw (raw_unary Not x) ds)) env) → Same (cond t (bag_of (raw_comps_meaning ts cs env)) (bag_of (raw_comps_meaning ts ds env))) (bag_of (raw_comps_meaning ts (append_raw (where_raw x cs) (where_raw (raw_unary Not x) ds)) env))
      go true i = same_of (raw_comps_meaning ts cs env) (raw_comps_meaning ts (append_raw (where_raw x cs) (where_raw (raw_unary Not x) ds)) env) (subst (λ (z : List Nested). Reordered z (raw_comps_meaning ts (append_raw (where_raw x cs) (where_raw (raw_unary Not x) ds)) env)) (append-nil (raw_comps_meaning ts cs env)) i)
      go false i = same_of (raw_comps_meaning ts ds env) (raw_comps_meaning ts (append_raw (where_raw x cs) (where_raw (raw_unary Not x) ds)) env) i

  choose_fields_mean : (ts : Tables) (c : List TableShape) (sc : List Label) (x : RawBase) (fs gs : RawFields) (us : FieldTypes) (env : List Row) → RawFieldsHave c sc fs us → RawFieldsHave c sc gs us → SameFields (cond (is_true (raw_value ts x env)) (raw_fields_meaning ts fs env) (raw_fields_meaning ts gs env)) (raw_fields_meaning ts (choice_of_fields x fs gs) env)
  choose_fields_mean ts c sc x no_raw_field no_raw_field us env g h = go (is_true (raw_value ts x env))
    where
      go : (t : Bool) → SameFields (cond t Fields.none Fields.none) Fields.none
      go true = tt
      go false = tt
  choose_fields_mean ts c sc x no_raw_field (raw_field k b gs) us env g h =
      let u : FieldTypes.none ≡ FieldTypes.field k h.0 h.1 = sym g ∙ h.4 in absurd (cc)
  choose_fields_mean ts c sc x (raw_field l a fs) no_raw_field us env g h =
      let u : FieldTypes.none ≡ FieldTypes.field l g.0 g.1 = sym h ∙ g.4 in absurd (cc)
  choose_fields_mean ts c sc x (raw_field l a fs) (raw_field k b gs) us env g h =
      let u : FieldTypes.field k h.0 h.1 ≡ FieldTypes.field l g.0 g.1 = sym h.4 ∙ g.4 in
      let e : k ≡ l = cc in
      let v : h.0 ≡ g.0 = cc in
      let w : h.1 ≡ g.1 = cc in
      go e (is_true (raw_value ts x env)) (choose_means ts c sc x a b g.0 env g.2 (subst (λ (z : TypeTree). RawBodyHas c sc b z) v h.2)) (choose_fields_mean ts c sc x fs gs g.1 env g.3 (subst (λ (z : FieldTypes). RawFieldsHave c sc gs z) w h.3))
    where
      go : k ≡ l → (t : Bool) → Same (cond t (raw_meaning ts a env) (raw_meaning ts b env)) (raw_meaning ts (choice x a b) env) → SameFields (cond t (raw_fields_meaning ts fs env) (raw_fields_meaning ts gs env)) (raw_fields_meaning ts (choice_of_fields x fs gs) env) → SameFields (cond t (field l (raw_meaning ts a env) (raw_fields_meaning ts fs env)) (field k (raw_meaning ts b env) (raw_fields_meaning ts gs env))) (field l (raw_meaning ts (choice x a b) env) (raw_fields_meaning ts (choice_of_fields x fs gs) env))
      go e true s i = (refl, s, i)
      go e false s i = (e, s, i)
