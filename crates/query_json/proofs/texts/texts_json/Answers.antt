use Rattle.std.proofs.Common.{ℕ, List, subst, sym, ◌∙◌}
use Rattle.std.specs.Str.{IsUtf8}
use Rattle.query_json.proofs.texts.texts_json.Goals as goal

pub text_json-requires : goal.text_json-requires
text_json-requires c =
    let same = c.as_slice-sql.ensures ∙ c.index-texts-at.is in
    subst (λ (sql : List ℕ). IsUtf8 sql) (sym same) (c.requires.utf8 c.loop-at.at c.index-texts-at.result c.loop-at-test.true)
