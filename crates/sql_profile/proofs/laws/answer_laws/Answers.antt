use Rattle.sql_profile.proofs.AnswersFit.{answer_fits}
use Rattle.sql_profile.proofs.NumberedKeys.{numbers_stand_for, numbers_are_fixed}
use Rattle.sql_profile.proofs.laws.answer_laws.Goals as goal

pub returns : goal.returns
returns c = record {
  fitting = answer_fits;
  nth_key = numbers_stand_for;
  numbers_fixed = numbers_are_fixed;
}
