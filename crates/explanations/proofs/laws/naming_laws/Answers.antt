use Rattle.expected_sql_tokens.specs.declared.kinds.SqlTokenKind.{SqlTokenKind}
use Rattle.expected_tokens.specs.declared.kinds.TokenKind.{TokenKind}
use Rattle.explanations.specs.Groups.{groups}
use Rattle.explanations.specs.SqlGroups.{sql_groups}
use Rattle.explanations.specs.SqlWords.{sql_kind_words}
use Rattle.explanations.specs.Words.{kind_words}
use Rattle.explanations.proofs.Alone.{kind_listed, sql_listed}
use Rattle.explanations.proofs.Naming.{all_named}
use Rattle.explanations.proofs.laws.naming_laws.Goals as goal

pub returns : goal.returns
returns c = record {
  queries = all_named TokenKind kind_words groups kind_listed;
  sql = all_named SqlTokenKind sql_kind_words sql_groups sql_listed;
}
