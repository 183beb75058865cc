-- The tests of a bag are those of its comprehensions, and a choice between bodies has those of both.
use Rattle.std.proofs.Common.{◌≡◌, [], refl, ap, ap₂, ◌∙◌, Some}
use Rattle.nq_model.specs.declared.term.Unary.TheVariants.{Not}
use Rattle.nq_ir.specs.RawForms.{RawBase, raw_unary, no_raw, and_raw, RawTests, RawBody, raw_plain, raw_rec, raw_bag, raw_comps_in, where_raw, choice, raw_tests_of}
use Rattle.normalise.specs.Raw.{append_tests}
use Rattle.normalise.specs.BagTests.{bag_tests, choice_of_tests}
use Rattle.normalise.proofs.Lists.{tests_of_append, tests_of_inside}

pub tests_found : (b : RawBody) (ts : RawTests) → Some ts ≡ bag_tests b → ts ≡ raw_tests_of (raw_comps_in b)
tests_found (raw_plain b) ts e = absurd (cc)
tests_found (raw_rec fs) ts e = absurd (cc)
tests_found (raw_bag cs) ts e = cc

pub choice_tests : (x : RawBase) (a b : RawBody) → bag_tests (choice x a b) ≡ choice_of_tests x (bag_tests a) (bag_tests b)
choice_tests x (raw_plain a) (raw_plain b) = refl
choice_tests x (raw_plain a) (raw_rec gs) = refl
choice_tests x (raw_plain a) (raw_bag ds) = refl
choice_tests x (raw_rec fs) (raw_plain b) = refl
choice_tests x (raw_rec fs) (raw_rec gs) = refl
choice_tests x (raw_rec fs) (raw_bag ds) = refl
choice_tests x (raw_bag cs) (raw_plain b) = refl
choice_tests x (raw_bag cs) (raw_rec gs) = refl
choice_tests x (raw_bag cs) (raw_bag ds) =
    ap Some (tests_of_append (where_raw x cs) (where_raw (raw_unary Not x) ds) ∙ ap₂ append_tests (tests_of_inside [] (and_raw x no_raw) cs) (tests_of_inside [] (and_raw (raw_unary Not x) no_raw) ds))
