-- Texts of records, written field by field.
use Rattle.std.proofs.Common.{◌≡◌, ℕ, List, ◌++◌, sym, ap, ◌∙◌, append_assoc}

-- the text after start grows by a separator, a label and what stands behind it, and a value
pub headed : (start old mid new done sep label behind value all : List ℕ) → old ≡ start ++ done
    → mid ≡ old ++ (sep ++ (label ++ behind)) → new ≡ mid ++ value
    → all ≡ done ++ (sep ++ (label ++ (behind ++ value))) → new ≡ start ++ all
headed start old mid new done sep label behind value all p q r s =
    r ∙ ap (λ (l : List ℕ). l ++ value) (q ∙ ap (λ (l : List ℕ). l ++ (sep ++ (label ++ behind))) p)
    ∙ (simp append_assoc) ∙ ap (λ (l : List ℕ). start ++ l) (sym s)
