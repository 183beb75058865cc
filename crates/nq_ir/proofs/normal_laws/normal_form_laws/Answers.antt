use Rattle.nq_ir.proofs.NormalForms.{normal_well, normal_means, normal_words, tables_there, tags_count, numbers_count}
use Rattle.std.proofs.Common.{◌≡◌, true}
use Rattle.nq_model.specs.Databases.{database}
use Rattle.nq_ir.proofs.normal_laws.normal_form_laws.Goals as goal

pub returns : goal.returns
returns c = record {
  well_formed = λ schema element term proper plain good closed typed tags gens. normal_well schema proper element term plain good typed tags gens;
  meaning = λ schema element term proper plain good closed typed tables held. normal_means schema proper (database schema.tables tables) (tables_there schema.tables tables held) element term plain good typed;
  words = λ holds schema element term proper plain good closed typed names own. normal_words (λ l. holds l ≡ true) schema proper names element term plain good typed own;
  tags = λ schema element term. tags_count schema.tables element term;
  numbers = λ schema element term. numbers_count schema.tables element term;
}
