use Rattle.std.proofs.Common.{◌≡◌, IfOk, List, ℕ, option_map, sym, ap, ◌∙◌, subst as along}
use Rattle.nq_model.specs.Terms.{PlacedTerm, at, placed, placed_node, placed_fields}
use Rattle.nq_model.specs.Unfolding.{contract_field, picked}
use Rattle.nq_model.specs.declared.term.Term.{Term}
use Rattle.nq_model.proofs.Terms.{node_record, placed_term}
use Rattle.reference_terms.proofs.contraction.contract_field.Goals as goal

pub returns-in-Rec : goal.returns-in-Rec
returns-in-Rec c =
    let of = c.args.of.now in
    let tree = placed_term of ∙ ap (at of.place) (ap placed_node c.in-Rec.is ∙ node_record c.in-Rec.fields) in
    along (λ (x : PlacedTerm). IfOk c.picked.result (λ made. option_map placed made ≡ contract_field c.args.place x c.args.label.now)) (sym tree)
    (along (λ (fs : List (List ℕ × Term)). IfOk c.picked.result (λ made. option_map placed made ≡ picked c.args.label.now (placed_fields fs))) c.as_slice.ensures
    (along (λ (l : List ℕ). IfOk c.picked.result (λ made. option_map placed made ≡ picked l (placed_fields c.as_slice.result.now))) c.as_str.ensures.value c.picked.ensures))
