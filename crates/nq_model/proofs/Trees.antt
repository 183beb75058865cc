-- The trees of the values that hold lists.
use Rattle.std.proofs.Common.{◌≡◌, ℕ, List, map, ap, sym, ◌∙◌}
use Rattle.nq_model.specs.Values.{Nested, rec_of, bag_of, value_layer, nested}
use Rattle.nq_model.specs.declared.value.Value.{Value, Value-F, fold-roll-Value}
use Rattle.nq_model.specs.declared.value.Value.TheVariants.{Rec, Bag, rolls-Rec, rolls-Bag}

pub nested_record : (fields : List (List ℕ × Value)) → nested (Rec fields) ≡ rec_of (map (λ f. (f.0, nested f.1)) fields)
nested_record fields = ap nested (sym (rolls-Rec fields)) ∙ fold-roll-Value Nested value_layer (Value-F.Rec fields)

pub nested_bag : (elements : List Value) → nested (Bag elements) ≡ bag_of (map nested elements)
nested_bag elements =
    ap nested (sym (rolls-Bag elements)) ∙ fold-roll-Value Nested value_layer (Value-F.Bag elements)
