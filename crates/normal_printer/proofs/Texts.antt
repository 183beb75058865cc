-- Whole texts.
use Rattle.std.proofs.Common.{◌≡◌, ℕ, List, length, sym, subst}
use Rattle.std.specs.Str.{IsUtf8}
use Rattle.nq_model.specs.QueryTexts.{Spells}
use Rattle.nq_model.specs.Terms.{PlacedTerm, bare}
use Rattle.nq_ir.specs.Printed.{named_form, printed_term, printed_text}
use Rattle.nq_ir.specs.Trees.{FormTree}
use Rattle.normal_printer.specs.Spellable.{IsSpellable}
use Rattle.normal_printer.proofs.LegibleForms.{form_legible}
use Rattle.normal_printer.proofs.Spelled.{text_spelled}

-- the text of a form spells the term as which the form prints
pub form_spells : (form : FormTree) (bytes : List ℕ) → bytes ≡ printed_text form → IsUtf8 bytes → IsSpellable form → (tree : PlacedTerm) × Spells (length bytes) bytes tree × (bare tree ≡ printed_term form)
form_spells form bytes is utf8 spellable =
    subst (λ (l : List ℕ). (tree : PlacedTerm) × Spells (length l) l tree × (bare tree ≡ printed_term form)) (sym is) (text_spelled (named_form form) (form_legible form spellable) (subst IsUtf8 is utf8))
