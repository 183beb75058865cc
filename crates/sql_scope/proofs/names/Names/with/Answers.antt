use Rattle.std.proofs.Common.{◌∙◌, ◌≡◌, ap, cond, is_some, sym, length, List, ℕ, Some}
use Rattle.std.specs.BTreeMap.{get_by}
use Rattle.std.specs.Cmp.Lexicographic.{slice_cmp}
use Rattle.std.specs.Ordering.{nat_cmp}
use Rattle.std.specs.Str.{bytes_eq}
use Rattle.std.proofs.lemmas.Map.Text.{btree_map_updates_str}
use Rattle.sql_scope.specs.Names.{named, place_of}
use Rattle.sql_scope.proofs.Naming.{named-more, length-named, place_of-again, place_of-new}
use Rattle.sql_scope.proofs.names.Names.with.Goals as goal
use Rattle.sql_scope.proofs.names.Names.with.Goals.{then-not-contains_key+in_ok-insert, else-not-contains_key}

pub invariant_of-result : goal.invariant_of-result
invariant_of-result g c = λ n.
    let name = c.args.name.now in
    let xs = named c.self.inside.listed in
    let more = ap named (c.in_ok-push.ensures.ok) ∙ named-more c.self.inside.listed c.args.name c.args.value in
    let there : is_some (place_of name xs) ≡ c.contains_key.result
    = ap is_some (sym (c.self.invariant name) ∙ ap (λ (m : List ℕ). get_by (λ k. slice_cmp nat_cmp m k.now) c.self.inside.firsts) (sym c.as_str.ensures.value)) ∙ sym c.contains_key.ensures in
    elim c.if-not-contains_key.branch [
      | then-not-contains_key+in_ok-insert w ↦
          let updated = btree_map_updates_str w.as_str-then-not-contains_key.result.now c.self.inside.firsts w.insert.new.self _ w.in_ok-insert.ensures.updates n in
          ap (λ m. get_by (λ k. slice_cmp nat_cmp n k.now) m) w.firsts-is ∙ updated
          ∙ ap (λ (m : List ℕ). cond (bytes_eq m n) (Some w.len.result) (get_by (λ k. slice_cmp nat_cmp n k.now) c.self.inside.firsts)) w.as_str-then-not-contains_key.ensures.value
          ∙ ap (λ k. cond (bytes_eq name n) (Some k) (get_by (λ k. slice_cmp nat_cmp n k.now) c.self.inside.firsts)) (w.len.ensures ∙ sym (length-named c.self.inside.listed))
          ∙ ap (cond (bytes_eq name n) (Some (length xs))) (c.self.invariant n)
          ∙ sym (ap (place_of n) more ∙ place_of-new n xs (name, c.args.value) (there ∙ w.if-not-contains_key.true))
      | else-not-contains_key w ↦
          ap (λ m. get_by (λ k. slice_cmp nat_cmp n k.now) m) w.firsts-is ∙ c.self.invariant n
          ∙ sym (ap (place_of n) more ∙ place_of-again n xs (name, c.args.value) (there ∙ w.if-not-contains_key.false))
    ]
