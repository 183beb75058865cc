-- Terms by their nodes, and what is seen of numbers, of truth values and of bags that are empty.
use Rattle.std.proofs.Common.{◌≡◌, ◌↔◌, IsTrue, ℤ, Bool, true, false, List, [], ◌∷◌, map, refl, sym, ap, ◌∙◌}
use Rattle.nq_model.specs.Meaning.{is_none}
use Rattle.nq_model.specs.Terms.{bare, term_tree, node_tree}
use Rattle.nq_model.specs.Values.{Nested, base, value_layer, nested}
use Rattle.nq_model.proofs.Terms.{placed_term}
use Rattle.nq_model.specs.declared.table.Cell.TheVariants as cell
use Rattle.nq_model.specs.declared.term.Term.{Term}
use Rattle.nq_model.specs.declared.value.Value.{Value, Value-F, fold-roll-Value}
use Rattle.nq_model.specs.declared.value.Value.TheVariants as value

pub term_node : (t : Term) → term_tree t ≡ node_tree t.node
term_node t = ap bare (placed_term t)

pub nested_number : (n : ℤ) → nested (value.Int n) ≡ base (cell.Int n)
nested_number n = ap nested (sym (value.rolls-Int n)) ∙ fold-roll-Value Nested value_layer (Value-F.Int n)

pub nested_truth : (b : Bool) → nested (value.Bool b) ≡ base (cell.Bool b)
nested_truth b = ap nested (sym (value.rolls-Bool b)) ∙ fold-roll-Value Nested value_layer (Value-F.Bool b)

pub is_empty : (b : Bool) (vs : List Value) → (IsTrue b ↔ (vs ≡ [])) → b ≡ is_none (map nested vs)
is_empty true [] h = refl
is_empty true (v ∷ vs) h = absurd (let e : v ∷ vs ≡ [] = h.0 refl in cc)
is_empty false [] h = h.1 refl
is_empty false (v ∷ vs) h = refl
