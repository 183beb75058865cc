use Rattle.std.proofs.Common.{◌≡◌, ◌∙◌, ◌++◌, ◌∷◌, [], List, map, ap, ap₂, sym, length, slice_get}
use Rattle.std.proofs.lemmas.List.{map-append}
use Rattle.nq_model.proofs.Numberings.{length_map}
use Rattle.nq_model.specs.Types.{bag}
use Rattle.nq_ir.specs.Shredded.{ShreddedTree, shredded_tree}
use Rattle.nq_ir.specs.Spots.{StrandTree, strand_tree}
use Rattle.nq_ir.specs.Trees.{form_tree}
use Rattle.shred_terms.specs.Levels.{levels_view, paired}
use Rattle.shred_terms.proofs.AllPaths.{none_paired, paired_enough, paired_more}
use Rattle.shred_terms.proofs.all.forms_of.Goals as goal

pub loop-strands-init : goal.loop-strands-init
loop-strands-init c =
    ap (map shredded_tree) c.in_ok-forms.ensures ∙ sym (none_paired (bag (form_tree c.args.normal.now).element) (map (λ p. p.steps) c.args.places.now))

pub loop-strands-preserved-in_ok-push : goal.loop-strands-preserved-in_ok-push
loop-strands-preserved-in_ok-push c =
    let a = bag (form_tree c.args.normal.now).element in
    let places = c.args.places.now in
    let before = levels_view c.loop-strands.yielded in
    let own = map strand_tree c.in-Some.strands in
    let many : length (paired a (map (λ p. p.steps) places) before) ≡ c.len-in-loop-strands.result = sym (ap length c.loop-strands.invariant) ∙ length_map shredded_tree c.loop-strands.forms ∙ sym c.len-in-loop-strands.ensures in
    ap (map shredded_tree) c.in_ok-push.ensures.ok
    ∙ map-append shredded_tree c.loop-strands.forms (c.in_ok-form_at.field-0 ∷ [])
    ∙ ap₂ (λ (x : List ShreddedTree) (y : ShreddedTree). x ++ y ∷ []) c.loop-strands.invariant c.in_ok-form_at.ensures
    ∙ sym (paired_more a places before own c.in-Some-get.path.now (ap (slice_get places) many ∙ sym c.in-Some-get.ensures))
    ∙ ap (λ (l : List (List StrandTree)). paired a (map (λ p. p.steps) places) l) (sym (map-append (map strand_tree) c.loop-strands.yielded (c.in-Some.strands ∷ [])))

pub loop-strands-preserved : goal.loop-strands-preserved
loop-strands-preserved c =
    let a = bag (form_tree c.args.normal.now).element in
    let places = c.args.places.now in
    let before = levels_view c.loop-strands.yielded in
    let own = map strand_tree c.in-Some.strands in
    let many : length (paired a (map (λ p. p.steps) places) before) ≡ c.len-in-loop-strands.result = sym (ap length c.loop-strands.invariant) ∙ length_map shredded_tree c.loop-strands.forms ∙ sym c.len-in-loop-strands.ensures in
    c.loop-strands.invariant
    ∙ sym (paired_enough a places before own (ap (slice_get places) many ∙ sym c.in_default.ensures))
    ∙ ap (λ (l : List (List StrandTree)). paired a (map (λ p. p.steps) places) l) (sym (map-append (map strand_tree) c.loop-strands.yielded (c.in-Some.strands ∷ [])))
