-- The tests of bags, and of a choice between them.
use Rattle.std.specs.Prelude.{Option, Some, None}
use Rattle.nq_model.specs.declared.term.Unary.TheVariants.{Not}
use Rattle.nq_ir.specs.RawForms.{RawBase, raw_unary, RawTests, RawBody, raw_plain, raw_rec, raw_bag, raw_tests_of}
use Rattle.normalise.specs.Raw.{append_tests, where_tests}

-- the comprehensions of a bag without their bodies; none of another body
abbrev pub bag_tests : RawBody → Option RawTests
bag_tests (raw_plain b) = None
bag_tests (raw_rec fs) = None
bag_tests (raw_bag cs) = Some (raw_tests_of cs)

-- those of the choice between two bodies that have these
abbrev pub choice_of_tests : RawBase → Option RawTests → Option RawTests → Option RawTests
choice_of_tests x None t = None
choice_of_tests x (Some a) None = Some a
choice_of_tests x (Some a) (Some b) = Some (append_tests (where_tests x a) (where_tests (raw_unary Not x) b))
