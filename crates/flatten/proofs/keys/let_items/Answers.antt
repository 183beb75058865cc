use Rattle.std.proofs.Common.{List, [], ◌∷◌, ◌++◌, map, ap, ap₂, ◌∙◌}
use Rattle.std.proofs.lemmas.List.{map-append}
use Rattle.flatten.specs.Views.{NamedValue, item_view}
use Rattle.flatten.proofs.Lists.{let_done}
use Rattle.flatten.proofs.keys.let_items.Goals as goal

pub returns : goal.returns
returns c =
    let_done c.args.schema.now.tables c.args.gens.now c.in_ok-keys.keys c.push.new.self c.in_ok-keys.ensures
    (ap (map item_view) c.in_ok-push.ensures.ok ∙ map-append item_view c.in_ok-items.items (c.in_ok-number_item.field-0 ∷ []) ∙ ap₂ (λ (l : List NamedValue) i. l ++ i ∷ []) c.in_ok-items.ensures c.in_ok-number_item.ensures)
