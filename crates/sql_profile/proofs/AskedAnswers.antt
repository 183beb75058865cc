-- An answer to a text that may be asked has the types of the text's columns.
use Rattle.std.proofs.Common.{◌≡◌, ℕ, List, length, All, subst}
use Rattle.nq_model.specs.Cells.{RowFits}
use Rattle.nq_model.specs.Tables.{types_of}
use Rattle.nq_model.specs.declared.table.Cell.{Cell}
use Rattle.sql_profile.specs.declared.server.Loaded.{Loaded}
use Rattle.sql_profile.specs.Scope.{IsWellScoped, shapes_of}
use Rattle.sql_profile.specs.Tokens.{Edition}
use Rattle.sql_profile.specs.Trees.{PlacedSql, bare}
use Rattle.sql_profile.specs.Texts.{IsAskable, TextAllows}
use Rattle.sql_profile.proofs.AnswersFit.{answer_fits}
use Rattle.sql_profile.proofs.TextLaws.{at_most_one_tree}

-- an answer to a text that may be asked has the types of the text's columns
pub asked_fits : (edition : Edition) (held : List Loaded) (text : List ℕ) (rows : List (List Cell)) → All (λ table. All (RowFits (types_of table.columns)) table.rows) held → (asked : IsAskable edition held text) → TextAllows edition held text rows → All (RowFits (types_of asked.columns)) rows
asked_fits edition held text rows fit asked a =
    let same : asked.tree ≡ a.tree = at_most_one_tree edition (length text) (length text) text asked.tree a.tree asked.spelled a.spelled in
    answer_fits held (bare a.tree) asked.columns rows fit (subst (λ (t : PlacedSql). IsWellScoped (shapes_of held) (bare t) asked.columns) same asked.scoped) a.allowed
