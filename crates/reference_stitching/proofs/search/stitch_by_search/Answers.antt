use Rattle.std.proofs.Common.{◌≡◌, ap, sym, ◌∙◌}
use Rattle.nq_ir.specs.Parts.{element_types}
use Rattle.nq_model.specs.Types.{bag, type_tree}
use Rattle.shred_types.proofs.Under.{type_of_bag}
use Rattle.stitcher.proofs.Walking.{whole_at}
use Rattle.reference_stitching.proofs.search.stitch_by_search.Goals as goal

pub elements-requires-clause-path : goal.elements-requires-clause-path
elements-requires-clause-path g c =
    let S = g.S.IndexScheme.scheme c.args.scheme.now in
    let of : type_tree c.args.of.now ≡ bag (type_tree c.deref.result.now) = ap type_tree c.in-Bag.is ∙ type_of_bag c.in-Bag.element ∙ ap (λ (t : _). bag (type_tree t)) (sym c.deref.ensures) in
    whole_at S.elements (type_tree c.deref.result.now) (c.requires.answers.of_type ∙ ap element_types of)
