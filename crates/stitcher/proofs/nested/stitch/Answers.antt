use Rattle.std.proofs.Common.{◌≡◌, ap, subst, sym, ◌∙◌}
use Rattle.nq_ir.specs.Parts.{element_types}
use Rattle.nq_model.specs.Types.{TypeTree, bag, type_tree}
use Rattle.nq_model.specs.Values.{Nested, Same, nested, bag_of}
use Rattle.nq_model.specs.declared.value.Value.TheVariants.{Bag}
use Rattle.nq_model.proofs.Trees.{nested_bag}
use Rattle.nq_ir.specs.Building.{built}
use Rattle.nq_ir.specs.Meanings.{form_meaning}
use Rattle.stitcher.specs.Schemes.{answers as source, stitched}
use Rattle.stitcher.specs.Stitching.{rows_of}
use Rattle.stitcher.specs.Walks.{AreAt}
use Rattle.shred_types.proofs.Under.{type_of_bag}
use Rattle.stitcher.proofs.Stitched.{read_is_mean}
use Rattle.stitcher.proofs.Walking.{whole_at}
use Rattle.stitcher.proofs.nested.stitch.Goals as goal

pub elements-requires-clause-path : goal.elements-requires-clause-path
elements-requires-clause-path g c =
    let S = g.S.IndexScheme.scheme c.args.scheme.now in
    let of : type_tree c.args.of.now ≡ bag (type_tree c.deref.result.now) = ap type_tree c.in-Bag.is ∙ type_of_bag c.in-Bag.element ∙ ap (λ (t : _). bag (type_tree t)) (sym c.deref.ensures) in
    subst (λ (s : _). AreAt (g.S.IndexScheme.scheme s).elements (bag (type_tree c.deref.result.now)) 0) (sym c.in_ok-from.ensures.same.0) (whole_at S.elements (type_tree c.deref.result.now) (c.requires.answers.of_type ∙ ap element_types of))

pub returns-in-Bag-clause-meaning : goal.returns-in-Bag-clause-meaning
returns-in-Bag-clause-meaning g c = λ schema form ts is well reads.
    let S = g.S.IndexScheme.scheme c.args.scheme.now in
    let ans = rows_of c.args.answers.now in
    let of : type_tree c.args.of.now ≡ bag (type_tree c.deref.result.now) = ap type_tree c.in-Bag.is ∙ type_of_bag c.in-Bag.element ∙ ap (λ (t : _). bag (type_tree t)) (sym c.deref.ensures) in
    let own : type_tree c.deref.result.now ≡ form.element = cc in
    let value : nested (Bag c.in_ok-elements-in-Bag.elements) ≡ stitched S form.element ans =
    nested_bag c.in_ok-elements-in-Bag.elements
    ∙ ap bag_of (c.in_ok-elements-in-Bag.ensures
    ∙ ap (λ (s : _). built (source (g.S.IndexScheme.scheme s) (rows_of c.in_ok-from.from.answers.now)) (type_tree c.deref.result.now) 0 c.top-top.result) c.in_ok-from.ensures.same.0
    ∙ ap (λ (a : _). built (source S (rows_of a)) (type_tree c.deref.result.now) 0 c.top-top.result) (c.in_ok-from.ensures.same.1 ∙ c.as_slice.ensures)
    ∙ ap (λ (i : _). built (source S ans) (type_tree c.deref.result.now) 0 i) c.top-top.ensures
    ∙ ap (λ (a : TypeTree). built (source S ans) a 0 S.top) own)
    in
    subst (λ (v : Nested). Same v (form_meaning ts form)) (sym value) (read_is_mean S schema form ts ans well reads)
