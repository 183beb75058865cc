use Rattle.std.proofs.Common.{◌≡◌, ◌∙◌, List, map, ap, ap₂, sym, subst}
use Rattle.nq_ir.proofs.Insert.{parents_rise}
use Rattle.nq_ir.proofs.Nested.{map_of_map}
use Rattle.nq_ir.specs.Lets.{LetTree, PartTree, by_parent, let_tree, lets_after, lets_of, part_tree, parts_on}
use Rattle.nq_ir.specs.Shredded.{IsRising}
use Rattle.nq_ir.specs.Spots.{strand_tree}
use Rattle.nq_ir.specs.declared.lets.LetQuery.{LetQuery}
use Rattle.nq_ir.specs.declared.path.Path.{Path}
use Rattle.nq_ir.specs.declared.path.Step.{Step}
use Rattle.nq_model.specs.Types.{TypeTree, type_tree}
use Rattle.let_insert.proofs.form.insert_lets.Goals as goal

pub parts_of-requires : goal.parts_of-requires
parts_of-requires c =
    let here = map strand_tree c.args.shredded.now.parts in
    let lets : map let_tree c.in_ok-lets.lets ≡ lets_of here = c.in_ok-lets.ensures ∙ ap (lets_after 0) (ap (map (λ d. strand_tree d.now)) c.as_slice.ensures.value ∙ c.in_ok-sorted.ensures ∙ ap (λ l. by_parent (map strand_tree l)) c.as_slice-strands.ensures) in
    let parents : c.as_slice-3.result.now ≡ map (λ (l : LetTree). l.parent) (lets_of here) = c.as_slice-3.ensures.value ∙ c.in_ok-parents.ensures ∙ ap (map (λ (l : LetQuery). l.parent)) c.as_slice-2.ensures ∙ sym (map_of_map (λ (l : LetTree). l.parent) let_tree c.in_ok-lets.lets) ∙ ap (map (λ (l : LetTree). l.parent)) lets in
    subst IsRising (sym parents) (parents_rise here).1

pub returns : goal.returns
returns c =
    let here = map strand_tree c.args.shredded.now.parts in
    let lets : map let_tree c.in_ok-lets.lets ≡ lets_of here = c.in_ok-lets.ensures ∙ ap (lets_after 0) (ap (map (λ d. strand_tree d.now)) c.as_slice.ensures.value ∙ c.in_ok-sorted.ensures ∙ ap (λ l. by_parent (map strand_tree l)) c.as_slice-strands.ensures) in
    let parents : c.as_slice-3.result.now ≡ map (λ (l : LetTree). l.parent) (lets_of here) = c.as_slice-3.ensures.value ∙ c.in_ok-parents.ensures ∙ ap (map (λ (l : LetQuery). l.parent)) c.as_slice-2.ensures ∙ sym (map_of_map (λ (l : LetTree). l.parent) let_tree c.in_ok-lets.lets) ∙ ap (map (λ (l : LetTree). l.parent)) lets in
    let parts : map part_tree c.in_ok-parts.parts ≡ parts_on (lets_of here) here = c.in_ok-parts.ensures (lets_of here) (sym parents) ∙ ap (λ l. parts_on (lets_of here) (map strand_tree l)) c.as_slice-strands.ensures in
    ap₂ (λ (p : List Step) (a : TypeTree). record { path = p; element = a; lets = map let_tree c.in_ok-lets.lets; parts = map part_tree c.in_ok-parts.parts }) (ap (λ (p : Path). p.steps) c.in_ok-copy.ensures) c.in_ok-copy-2.ensures
    ∙ ap₂ (λ (l : List LetTree) (p : List PartTree). record { path = c.args.shredded.now.path.steps; element = type_tree c.args.shredded.now.element; lets = l; parts = p }) lets parts
