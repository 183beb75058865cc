use Rattle.std.proofs.Common.{ap, ◌∙◌, sym, subst}
use Rattle.std.specs.Str.{IsUtf8}
use Rattle.std.proofs.lemmas.Str.{IsUtf8-string_bytes}
use Rattle.sql_profile.specs.Trees.{sql_tree}
use Rattle.sql_printer.proofs.Texts.{text_spells, text_written}
use Rattle.sql_printer.proofs.text.print.Goals as goal

pub returns-clause-is : goal.returns-clause-is
returns-clause-is c =
    text_written c.args.text.now _ _ _ _ c.new-written.ensures.bytes (rw c.as_slice.ensures at c.in_ok-put_withs.ensures) c.in_ok-put_query.ensures (c.from_vec.ensures ∙ ap (λ v. v.items) c.into_bytes.ensures.value)

pub returns-clause-spells : goal.returns-clause-spells
returns-clause-spells c = λ spellable.
    text_spells (sql_tree c.args.text.now) c.from_vec.result (returns-clause-is c)
    (subst IsUtf8 (sym (c.from_vec.ensures ∙ ap (λ v. v.items) c.into_bytes.ensures.value)) (IsUtf8-string_bytes c.put_query.new.text)) spellable
