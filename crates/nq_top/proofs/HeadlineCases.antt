-- The inputs of a command are given, refused for one reason, or one of them is missing.
use Rattle.std.proofs.Common.{◌≡◌, ◌⊎◌, ℕ, List, Option, Some, sym, ap, ◌∙◌, inl, inr}
use Rattle.nq_edge.specs.Edge.{Files}
use Rattle.nq_execute.specs.Plans.{Plan}
use Rattle.nq_top.specs.Headline.{keys, Names, Accepted, GivenKeys, GivenRun, IsMissing}
use Rattle.nq_top.specs.Headline.{AreRefused}
use Rattle.nq_top.specs.Judging.{Verdict, missing, refused, planned}
use Rattle.nq_top.specs.Plans.{Question}
use Rattle.command_line.specs.declared.refusal.Refused.{Refused}
use Rattle.nq_top.proofs.HeadlineQueries.{whole, aim_for, aims_at, run_planned, is_missing}
use Rattle.nq_top.proofs.HeadlineQueries.{is_refused, Cases, are_given, are_refused, are_missing}
use Rattle.nq_top.proofs.HeadlineQueries.{accepted_cases, keyed_cases, run_cases}
use Rattle.nq_top.proofs.Readings.{one_reading}

either : (files : Files) (names : Names) (Given : Type 0) → Cases files names Given
    → Given ⊎ (((why : Refused) × AreRefused files names why) ⊎ ((name : List ℕ) × IsMissing files names name))
either files names Given (are_given given) = inl given
either files names Given (are_refused why wrong) = inr (inl (why, wrong))
either files names Given (are_missing name limit looks absent) = inr (inr (name, (limit, looks, absent)))

pub accepted_or_not : (files : Files) (names : Names)
    → Accepted files names ⊎ (((why : Refused) × AreRefused files names why) ⊎ ((name : List ℕ) × IsMissing files names name))
accepted_or_not files names = either files names (Accepted files names) (accepted_cases one_reading files names)

pub given_or_not : (files : Files) (names : Names) (folder : List ℕ) → names.folder ≡ Some folder
    → GivenRun files names folder ⊎ (((why : Refused) × AreRefused files names why) ⊎ ((name : List ℕ) × IsMissing files names name))
given_or_not files names folder is_run = either files names (GivenRun files names folder) (run_cases one_reading files names folder is_run)

pub keyed_or_not : (files : Files) (names : Names) → names.naming ≡ keys
    → GivenKeys files names ⊎ (((why : Refused) × AreRefused files names why) ⊎ ((name : List ℕ)
    × IsMissing files names name))
keyed_or_not files names by_keys =
    either files names (GivenKeys files names) (keyed_cases one_reading files names by_keys)

module _ (files : Files) (names : Names) where
  verdict : Verdict
  verdict = (whole one_reading files names (aim_for names.folder names.naming)).verdict

  refused_is : (why : Refused) → AreRefused files names why → verdict ≡ refused why
  unfolding verdict
  refused_is why wrong =
      is_refused one_reading files names (aim_for names.folder names.naming)
      (aims_at one_reading files names) why wrong

  missing_is : (name : List ℕ) → IsMissing files names name → verdict ≡ missing name
  unfolding verdict
  missing_is name (limit, looks, absent) =
      is_missing one_reading files names (aim_for names.folder names.naming)
      (aims_at one_reading files names) name limit looks absent

  pub one_refusal : (why other : Refused) → AreRefused files names why → AreRefused files names other → why ≡ other
  one_refusal why other wrong also = let same : refused why ≡ refused other = sym (refused_is why wrong) ∙ refused_is other also in cc

  pub refused_or_missing : (why : Refused) (name : List ℕ) → AreRefused files names why → IsMissing files names name → ⊥
  refused_or_missing why name wrong absent = absurd (let same : refused why ≡ missing name = sym (refused_is why wrong) ∙ missing_is name absent in cc)

  pub given_not_refused : (folder : List ℕ) → names.folder ≡ Some folder → GivenRun files names folder → (why : Refused) → AreRefused files names why → ⊥
  unfolding verdict
  given_not_refused folder is_run given why wrong =
      go (run_planned one_reading files names (aim_for names.folder names.naming) folder given
      (ap (λ (f : Option (List ℕ)). aim_for f names.naming) is_run))
    where
      go : {plan : Plan} {question : Question}
          → (whole one_reading files names (aim_for names.folder names.naming)).verdict
          ≡ planned plan question → ⊥
      go {plan} {question} planned_is = absurd (let same : planned plan question ≡ refused why = sym planned_is ∙ refused_is why wrong in cc)
