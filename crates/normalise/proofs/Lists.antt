-- Lists of the code and the lists of raw forms.
use Rattle.std.proofs.Common.{◌≡◌, ℕ, zero, suc, List, [], ◌∷◌, ◌++◌, map, refl, sym, ap, ap₂, ◌∙◌, append_assoc, length, ◌+◌, ◌<◌, ◌≤◌, arith}
use Rattle.std.proofs.lemmas.List.{map-append}
use Rattle.nq_model.specs.NamedRows.{Label}
use Rattle.nq_ir.specs.RawForms.{RawBase, RawConds, no_raw, and_raw, raw_test, RawBody, raw_field, RawComps, no_raw_comp, raw_comp, up_index, up_base, up_bases, up_body, up_fields, up_comps, both_raw, append_raw, inside, where_raw, raw_tests_of}
use Rattle.normalise.specs.declared.raw.MovedBase.{MovedBase}
use Rattle.normalise.specs.declared.raw.RawTest.{RawTest as CodeTest, out-RawTest, roll-RawTest}
use Rattle.normalise.specs.declared.raw.MovedBody.{MovedBody}
use Rattle.normalise.specs.declared.raw.RawComp.{RawComp as CodeComp, roll-RawComp}
use Rattle.normalise.proofs.Views.{test_is, test_rolled, comp_is}
use Rattle.normalise.specs.Raw.{bodiless, moved_body, test_part, TestPart, CompPart, conds_of, tests_of, fields_of, comps_of, append_tests, moved_base, raw_conds, raw_comps, raw_tests, comp_part, test_inside, tests_inside, up_comp, inside_part, where_tests}

pub conds_up : (n c : ℕ) (bs : List RawBase) → up_bases n c (conds_of bs) ≡ conds_of (map (up_base n c) bs)
conds_up n c [] = refl
conds_up n c (b ∷ bs) = ap (and_raw (up_base n c b)) (conds_up n c bs)

pub fields_up : (n c : ℕ) (fs : List (Label × RawBody)) → up_fields n c (fields_of fs) ≡ fields_of (map (λ f. (f.0, up_body n c f.1)) fs)
fields_up n c [] = refl
fields_up n c (f ∷ fs) = ap (raw_field f.0 (up_body n c f.1)) (fields_up n c fs)

pub comps_up : (n c : ℕ) (cs : List CompPart) → up_comps n c (comps_of cs) ≡ comps_of (map (up_comp n c) cs)
comps_up n c [] = refl
comps_up n c (d ∷ cs) =
    ap (raw_comp d.tables (up_bases n (length d.tables + c) d.conds) (up_body n (length d.tables + c) d.body)) (comps_up n c cs)

pub comps_append : (cs ds : List CompPart) → comps_of (cs ++ ds) ≡ append_raw (comps_of cs) (comps_of ds)
comps_append [] ds = refl
comps_append (c ∷ cs) ds = ap (raw_comp c.tables c.conds c.body) (comps_append cs ds)

pub conds_append : (bs cs : List RawBase) → conds_of (bs ++ cs) ≡ both_raw (conds_of bs) (conds_of cs)
conds_append [] cs = refl
conds_append (b ∷ bs) cs = ap (and_raw b) (conds_append bs cs)

pub inside_of : (gs : List Label) (bs : RawConds) (ds : List CompPart) → comps_of (map (inside_part gs bs) ds) ≡ inside gs bs (comps_of ds)
inside_of gs bs [] = refl
inside_of gs bs (d ∷ ds) = ap (raw_comp (gs ++ d.tables) (both_raw (up_bases (length d.tables) 0 bs) d.conds) d.body) (inside_of gs bs ds)

pub comps_joined : (xs ys : List CodeComp) → raw_comps (xs ++ ys) ≡ append_raw (raw_comps xs) (raw_comps ys)
comps_joined xs ys = ap comps_of (map-append comp_part xs ys) ∙ comps_append (map comp_part xs) (map comp_part ys)

-- the last of several, put behind what is there
pub put_last : {C P : Type 0} (v : C → P) (g : P → P) (old mid new parts before : List C) (last made : C) → parts ≡ before ++ last ∷ [] → map v mid ≡ map v old ++ map g (map v before) → v made ≡ g (v last) → new ≡ mid ++ made ∷ [] → map v new ≡ map v old ++ map g (map v parts)
put_last {C = C} {P = P} v g old mid new parts before last made p m e n =
    ap (map v) n
    ∙ map-append v mid (made ∷ [])
    ∙ ap₂ (λ (y : List P) (z : P). y ++ z ∷ []) m e
    ∙ append_assoc (map v old) (map g (map v before)) (g (v last) ∷ [])
    ∙ ap (λ (z : List P). map v old ++ z) (sym (ap (λ (l : List C). map g (map v l)) p ∙ ap (map g) (map-append v before (last ∷ [])) ∙ map-append g (map v before) (v last ∷ [])))

-- copied conditions, then others
pub conds_inside : (n : ℕ) (copies bs own : List MovedBase) → map moved_base copies ≡ map (up_base n 0) (map moved_base bs) → raw_conds (copies ++ own) ≡ both_raw (up_bases n 0 (raw_conds bs)) (raw_conds own)
conds_inside n copies bs own e =
    ap conds_of (map-append moved_base copies own ∙ ap (λ (l : List RawBase). l ++ map moved_base own) e)
    ∙ conds_append (map (up_base n 0) (map moved_base bs)) (map moved_base own)
    ∙ ap (λ z. both_raw z (raw_conds own)) (sym (conds_up n 0 (map moved_base bs)))

-- what a copy is made of
pub comp_made : (n c m : ℕ) (x : CodeComp) (tables : List Label) (conds : List MovedBase) (deepest : ℕ) (body : MovedBody) → m ≡ length x.tables + c → tables ≡ x.tables → map moved_base conds ≡ map (up_base n m) (map moved_base x.conds) → moved_body body ≡ up_body n m (moved_body x.body) → comp_part (roll-RawComp (record { tables = tables; conds = conds; deepest = deepest; body = body })) ≡ up_comp n c (comp_part x)
comp_made n c m x tables conds deepest body e g f h =
    comp_is (roll-RawComp (record { tables = tables; conds = conds; deepest = deepest; body = body }))
    ∙ ap₂ (λ (y : List Label) z. record { tables = y; conds = z; body = moved_body body }) g (ap conds_of f ∙ sym (conds_up n m (map moved_base x.conds)) ∙ ap (λ k. up_bases n k (raw_conds x.conds)) e)
    ∙ ap (λ z. record { tables = x.tables; conds = up_bases n (length x.tables + c) (raw_conds x.conds); body = z }) (h ∙ ap (λ k. up_body n k (moved_body x.body)) e)
    ∙ ap (up_comp n c) (sym (comp_is x))

pub comp_inside : (o : TestPart) (x : CodeComp) (t : CodeTest) → test_part t ≡ test_inside o.tables o.conds (test_part (roll-RawTest (record { tables = x.tables; conds = x.conds; deepest = x.deepest }))) → comp_part (roll-RawComp (record { tables = (out-RawTest t).tables; conds = (out-RawTest t).conds; deepest = (out-RawTest t).deepest; body = x.body })) ≡ inside_part o.tables o.conds (comp_part x)
comp_inside o x t h =
    comp_is (roll-RawComp (record { tables = (out-RawTest t).tables; conds = (out-RawTest t).conds; deepest = (out-RawTest t).deepest; body = x.body }))
    ∙ ap (λ (p : TestPart). record { tables = p.tables; conds = p.conds; body = moved_body x.body }) (sym (test_is t) ∙ h ∙ ap (test_inside o.tables o.conds) (test_rolled x.tables x.conds x.deepest))
    ∙ ap (inside_part o.tables o.conds) (sym (comp_is x))

-- one more condition before those of each comprehension
pub guarded_is : (b : RawBase) (o : TestPart) (parts all : List CodeComp) → (o.tables ≡ []) × (o.conds ≡ and_raw b no_raw) → map comp_part all ≡ map (inside_part o.tables o.conds) (map comp_part parts) → raw_comps all ≡ where_raw b (raw_comps parts)
guarded_is b o parts all h e =
    ap comps_of (e ∙ ap₂ (λ (gs : List Label) bs. map (inside_part gs bs) (map comp_part parts)) h.0 h.1) ∙ inside_of [] (and_raw b no_raw) (map comp_part parts)

pub bodiless_is : (x : CodeComp) → test_part (roll-RawTest (record { tables = x.tables; conds = x.conds; deepest = x.deepest })) ≡ bodiless (comp_part x)
bodiless_is x = test_rolled x.tables x.conds x.deepest ∙ ap bodiless (sym (comp_is x))

pub tests_bodiless : (cs : List CompPart) → tests_of (map bodiless cs) ≡ raw_tests_of (comps_of cs)
tests_bodiless [] = refl
tests_bodiless (c ∷ cs) = ap (raw_test c.tables c.conds) (tests_bodiless cs)

pub tests_append : (xs ys : List TestPart) → tests_of (xs ++ ys) ≡ append_tests (tests_of xs) (tests_of ys)
tests_append [] ys = refl
tests_append (x ∷ xs) ys = ap (raw_test x.tables x.conds) (tests_append xs ys)

pub tests_joined : (xs ys : List CodeTest) → raw_tests (xs ++ ys) ≡ append_tests (raw_tests xs) (raw_tests ys)
tests_joined xs ys = ap tests_of (map-append test_part xs ys) ∙ tests_append (map test_part xs) (map test_part ys)

pub tests_inside_of : (gs : List Label) (bs : RawConds) (xs : List TestPart) → tests_of (map (test_inside gs bs) xs) ≡ tests_inside gs bs (tests_of xs)
tests_inside_of gs bs [] = refl
tests_inside_of gs bs (x ∷ xs) = ap (raw_test (gs ++ x.tables) (both_raw (up_bases (length x.tables) 0 bs) x.conds)) (tests_inside_of gs bs xs)

pub test_inside_is : (o x : CodeTest) (tables : List Label) (copies conds : List MovedBase) (deepest : ℕ) → tables ≡ (out-RawTest o).tables ++ (out-RawTest x).tables → conds ≡ copies ++ (out-RawTest x).conds → map moved_base copies ≡ map (up_base (length (out-RawTest x).tables) 0) (map moved_base (out-RawTest o).conds) → test_part (roll-RawTest (record { tables = tables; conds = conds; deepest = deepest })) ≡ test_inside (test_part o).tables (test_part o).conds (test_part x)
test_inside_is o x tables copies conds deepest g k f =
    test_rolled tables conds deepest
    ∙ ap₂ (λ (y : List Label) z. record { tables = y; conds = z }) g (ap raw_conds k ∙ conds_inside (length (out-RawTest x).tables) copies (out-RawTest o).conds (out-RawTest x).conds f)
    ∙ ap₂ (λ (p q : TestPart). test_inside p.tables p.conds q) (sym (test_is o)) (sym (test_is x))

-- a copy of generators and conditions
pub test_same : (x : CodeTest) (tables : List Label) (conds : List MovedBase) (deepest : ℕ) → tables ≡ (out-RawTest x).tables → map moved_base conds ≡ map moved_base (out-RawTest x).conds → test_part (roll-RawTest (record { tables = tables; conds = conds; deepest = deepest })) ≡ test_part x
test_same x tables conds deepest g f =
    test_rolled tables conds deepest ∙ ap₂ (λ (y : List Label) z. record { tables = y; conds = conds_of z }) g f ∙ sym (test_is x)

pub tests_guarded : (b : RawBase) (o : TestPart) (parts all : List CodeTest) → (o.tables ≡ []) × (o.conds ≡ and_raw b no_raw) → map test_part all ≡ map (test_inside o.tables o.conds) (map test_part parts) → raw_tests all ≡ where_tests b (raw_tests parts)
tests_guarded b o parts all h e =
    ap tests_of (e ∙ ap₂ (λ (gs : List Label) bs. map (test_inside gs bs) (map test_part parts)) h.0 h.1) ∙ tests_inside_of [] (and_raw b no_raw) (map test_part parts)

-- the tests of comprehensions one behind the other, and inside others
pub tests_of_append : (cs ds : RawComps) → raw_tests_of (append_raw cs ds) ≡ append_tests (raw_tests_of cs) (raw_tests_of ds)
tests_of_append no_raw_comp ds = refl
tests_of_append (raw_comp gs bs b cs) ds = ap (raw_test gs bs) (tests_of_append cs ds)

pub tests_of_inside : (gs : List Label) (bs : RawConds) (cs : RawComps) → raw_tests_of (inside gs bs cs) ≡ tests_inside gs bs (raw_tests_of cs)
tests_of_inside gs bs no_raw_comp = refl
tests_of_inside gs bs (raw_comp hs cs b ds) = ap (raw_test (gs ++ hs) (both_raw (up_bases (length hs) 0 bs) cs)) (tests_of_inside gs bs ds)

pub index_inner : (n c i : ℕ) → i < c → i ≡ up_index n c i
index_inner n zero i h = absurd (omega arith)
index_inner n (suc c) zero h = refl
index_inner n (suc c) (suc i) h = ap suc (index_inner n c i (omega arith))

pub index_outer : (n c i j : ℕ) → c ≤ i → j ≡ n + i → j ≡ up_index n c i
index_outer n zero i j h e = e
index_outer n (suc c) zero j h e = absurd (omega arith)
index_outer n (suc c) (suc i) zero h e = absurd (omega arith)
index_outer n (suc c) (suc i) (suc j) h e = ap suc (index_outer n c i j (omega arith) (omega arith))
