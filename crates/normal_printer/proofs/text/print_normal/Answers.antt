use Rattle.std.proofs.Common.{◌++◌, ap, ◌∙◌, sym, subst}
use Rattle.std.specs.Str.{IsUtf8}
use Rattle.std.proofs.lemmas.Str.{IsUtf8-string_bytes}
use Rattle.nq_ir.specs.Printed.{header_text, named_form, text_of}
use Rattle.nq_ir.specs.Trees.{form_tree}
use Rattle.normal_printer.proofs.Meant.{well_shown}
use Rattle.normal_printer.proofs.Texts.{form_spells}
use Rattle.normal_printer.proofs.text.print_normal.Goals as goal

pub returns-clause-is : goal.returns-clause-is
returns-clause-is c =
    c.from_vec.ensures ∙ ap (λ v. v.items) c.into_bytes.ensures.value ∙ c.in_ok-put_form.ensures
    ∙ ap (λ l. l ++ text_of (named_form (form_tree c.args.normal.now))) (c.in_ok-put_header.ensures ∙ ap (λ l. l ++ header_text (form_tree c.args.normal.now)) c.new-text.ensures.bytes)

pub returns-clause-spells : goal.returns-clause-spells
returns-clause-spells c = λ spellable.
    form_spells (form_tree c.args.normal.now) c.from_vec.result (returns-clause-is c)
    (subst IsUtf8 (sym (c.from_vec.ensures ∙ ap (λ v. v.items) c.into_bytes.ensures.value)) (IsUtf8-string_bytes c.put_form.new.text)) spellable

pub returns-clause-meaning : goal.returns-clause-meaning
returns-clause-meaning c = λ spellable tables. well_shown spellable.schema.tables tables (form_tree c.args.normal.now) spellable.well_formed
