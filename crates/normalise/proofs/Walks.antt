-- What the walk over a term builds.
use Rattle.std.proofs.Common.{◌≡◌, List, [], ◌∷◌, ◌++◌, map, refl, sym, ap, ap₂, ◌∙◌}
use Rattle.nq_model.specs.NamedRows.{Label}
use Rattle.nq_ir.specs.RawForms.{RawBody, RawComps, no_raw_comp, raw_comp, append_raw, inside, each_comp, raw_tests_of}
use Rattle.normalise.specs.Raw.{append_tests, bodiless, CompPart, TestPart, comps_of, comp_part, inside_part, moved_body, raw_comps, raw_conds, raw_tests, test_inside, test_part, tests_inside, tests_of}
use Rattle.normalise.specs.declared.raw.RawComp.{RawComp as CodeComp}
use Rattle.normalise.specs.declared.raw.RawTest.{RawTest as CodeTest}
use Rattle.normalise.proofs.Views.{comp_is}
use Rattle.normalise.proofs.Lists.{comps_append, comps_joined, inside_of, tests_append, tests_inside_of, tests_of_append, tests_of_inside}

append_none : (cs : RawComps) → append_raw cs no_raw_comp ≡ cs
append_none no_raw_comp = refl
append_none (raw_comp gs bs b cs) = ap (raw_comp gs bs b) (append_none cs)

append_twice : (xs ys zs : RawComps) → append_raw (append_raw xs ys) zs ≡ append_raw xs (append_raw ys zs)
append_twice no_raw_comp ys zs = refl
append_twice (raw_comp gs bs b xs) ys zs = ap (raw_comp gs bs b) (append_twice xs ys zs)

each_append : (rest : List Label → RawBody → RawComps) (cs ds : RawComps) → each_comp (append_raw cs ds) rest ≡ append_raw (each_comp cs rest) (each_comp ds rest)
each_append rest no_raw_comp ds = refl
each_append rest (raw_comp gs bs b cs) ds =
    ap (append_raw (inside gs bs (rest gs b))) (each_append rest cs ds) ∙ sym (append_twice (inside gs bs (rest gs b)) (each_comp cs rest) (each_comp ds rest))

-- a loop that puts the comprehensions of each item of a source behind what is there
module _ (rest : List Label → RawBody → RawComps) (done : List CodeComp) (x : CodeComp) where
  one_more : each_comp (raw_comps (done ++ x ∷ [])) rest ≡ append_raw (each_comp (raw_comps done) rest) (inside x.tables (raw_conds x.conds) (rest x.tables (moved_body x.body)))
  one_more =
      ap (λ (z : RawComps). each_comp z rest) (comps_joined done (x ∷ []) ∙ ap (λ (p : CompPart). append_raw (raw_comps done) (comps_of (p ∷ []))) (comp_is x))
      ∙ each_append rest (raw_comps done) (raw_comp x.tables (raw_conds x.conds) (moved_body x.body) no_raw_comp)
      ∙ ap (append_raw (each_comp (raw_comps done) rest)) (append_none (inside x.tables (raw_conds x.conds) (rest x.tables (moved_body x.body))))

  pub loop_step : (o : CodeTest) (old next parts : List CodeComp) → test_part o ≡ bodiless (comp_part x) → raw_comps old ≡ each_comp (raw_comps done) rest → map comp_part next ≡ map comp_part old ++ map (inside_part (test_part o).tables (test_part o).conds) (map comp_part parts) → raw_comps parts ≡ rest x.tables (moved_body x.body) → raw_comps next ≡ each_comp (raw_comps (done ++ x ∷ [])) rest
  loop_step o old next parts is h n p =
      let gs = x.tables in
      let bs = raw_conds x.conds in
      ap comps_of (n ∙ ap (λ (t : TestPart). map comp_part old ++ map (inside_part t.tables t.conds) (map comp_part parts)) (is ∙ ap bodiless (comp_is x)))
      ∙ comps_append (map comp_part old) (map (inside_part gs bs) (map comp_part parts))
      ∙ ap₂ append_raw h (inside_of gs bs (map comp_part parts) ∙ ap (inside gs bs) p)
      ∙ sym one_more

  pub tests_step : (o : CodeTest) (old next parts : List CodeTest) → test_part o ≡ bodiless (comp_part x) → raw_tests old ≡ raw_tests_of (each_comp (raw_comps done) rest) → map test_part next ≡ map test_part old ++ map (test_inside (test_part o).tables (test_part o).conds) (map test_part parts) → raw_tests parts ≡ raw_tests_of (rest x.tables (moved_body x.body)) → raw_tests next ≡ raw_tests_of (each_comp (raw_comps (done ++ x ∷ [])) rest)
  tests_step o old next parts is h n p =
      let gs = x.tables in
      let bs = raw_conds x.conds in
      let made = rest gs (moved_body x.body) in
      ap tests_of (n ∙ ap (λ (t : TestPart). map test_part old ++ map (test_inside t.tables t.conds) (map test_part parts)) (is ∙ ap bodiless (comp_is x)))
      ∙ tests_append (map test_part old) (map (test_inside gs bs) (map test_part parts))
      ∙ ap₂ append_tests h (tests_inside_of gs bs (map test_part parts) ∙ ap (tests_inside gs bs) p ∙ sym (tests_of_inside gs bs made))
      ∙ sym (tests_of_append (each_comp (raw_comps done) rest) (inside gs bs made))
      ∙ sym (ap raw_tests_of one_more)
