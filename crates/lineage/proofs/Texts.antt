-- The text of an element: that of its value, and those of its rows.
use Rattle.std.proofs.Common.{◌≡◌, ℕ, ◌-◌, ◌<◌, List, [], ◌∷◌, ◌++◌, ap, ◌∙◌, length, take, drop}
use Rattle.std.proofs.Common.{get_or, append_assoc, arith}
use Rattle.std.proofs.lemmas.List.{take_all}
use Rattle.nq_model.specs.NamedRows.{Label}
use Rattle.nq_model.specs.Values.{nested, rec_of, fields_of, fields_view}
use Rattle.nq_model.specs.declared.value.Value.{Value}
use Rattle.lineage.specs.TracedTexts.{traced_written, element_written, rows_written}

pub parts_put : (parts : List (Label × Value)) (d : Label × Value) (old mid new : List ℕ)
    → 0 < length parts → mid ≡ old ++ traced_written (nested (get_or parts 0 d).1)
    → new ≡ mid ++ rows_written (fields_of (fields_view (take (length parts - 1) (drop 1 parts))))
    → new ≡ old ++ element_written (rec_of (fields_view parts))
parts_put [] d old mid new some p q = absurd (omega arith)
parts_put (y ∷ ys) d old mid new some p q =
    let rows = rows_written (fields_of (fields_view ys)) in
    let n = length (y ∷ ys) - 1 in
    let all : take n ys ≡ ys = take_all n ys (omega arith) in
    q ∙ ap (λ (l : List (Label × Value)). mid ++ rows_written (fields_of (fields_view l))) all
    ∙ ap (λ (l : List ℕ). l ++ rows) p ∙ append_assoc old (traced_written (nested y.1)) rows
