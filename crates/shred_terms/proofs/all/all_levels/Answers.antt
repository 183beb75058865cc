use Rattle.std.proofs.Common.{◌≡◌, ◌∙◌, ◌++◌, ◌∷◌, [], List, map, ap, ap₂, sym}
use Rattle.nq_model.specs.Types.{TypeTree, type_tree}
use Rattle.nq_ir.proofs.Forms.{form_is}
use Rattle.nq_ir.specs.Spots.{StrandTree, placed}
use Rattle.nq_ir.specs.Trees.{Comps, FormTree, conds_tree, form_tree, no_cond}
use Rattle.nq_ir.specs.declared.base.Base.{Base}
use Rattle.nq_ir.specs.declared.base.Gen.{Gen}
use Rattle.nq_ir.specs.declared.normal.Normal.{out-Normal}
use Rattle.nq_ir.specs.declared.shredded.Strand.{Strand}
use Rattle.shred_terms.specs.Levels.{NodeTree, levels_view, node_levels, node_of, node_view}
use Rattle.shred_terms.specs.Placed.{comps_tree}
use Rattle.shred_terms.specs.declared.nodes.Node.{Node}
use Rattle.shred_terms.proofs.AllPaths.{all_from}
use Rattle.shred_terms.proofs.all.all_levels.Goals as goal

pub returns : goal.returns
returns c =
    let n = c.args.normal.now in
    let form = form_tree n in
    let here : List NodeTree = map node_view c.push_nodes.new.nodes.items in
    let comps : comps_tree c.as_slice.result.now ≡ form.comps = ap comps_tree c.as_slice.ensures ∙ sym (ap (λ (f : FormTree). f.comps) (form_is n)) in
    let own : here ≡ map node_of (placed 0 [] no_cond form.comps) =
    c.in_ok-push_nodes.ensures
    ∙ ap (λ (l : List Node). map node_view l ++ map node_of (placed 0 c.new.result (conds_tree c.new-2.result) (comps_tree c.as_slice.result.now))) c.new-here.ensures.items
    ∙ ap₂ (λ (g : List Gen) (b : List Base). map node_of (placed 0 g (conds_tree b) (comps_tree c.as_slice.result.now))) c.new.ensures c.new-2.ensures
    ∙ ap (λ (z : Comps). map node_of (placed 0 [] no_cond z)) comps
    in
    let inner : levels_view c.push_levels.new.levels.items ≡ node_levels form.element 0 here =
    c.in_ok-push_levels.ensures.levels
    ∙ ap (λ (l : List (List Strand)). levels_view l ++ node_levels (type_tree (out-Normal n).element) 0 (map node_view c.as_slice-2.result.now)) c.new-below.ensures.items
    ∙ ap₂ (λ (a : TypeTree) (l : List Node). node_levels a 0 (map node_view l)) (sym (ap (λ (f : FormTree). f.element) (form_is n))) c.as_slice-2.ensures.value
    in
    let all : levels_view c.append.new.self.items ≡ map (λ d. d.0) here ∷ levels_view c.push_levels.new.levels.items =
    ap levels_view (c.in_ok-append.ensures.items ∙ ap (λ (l : List (List Strand)). l ++ c.push_levels.new.levels.items) (c.in_ok-push.ensures.items ∙ ap (λ (l : List (List Strand)). l ++ c.in_ok-strands_of.field-0 ∷ []) c.in_ok-levels.ensures.items))
    ∙ ap (λ (l : List StrandTree). l ∷ levels_view c.push_levels.new.levels.items) c.in_ok-strands_of.ensures
    in
    all_from form here (levels_view c.push_levels.new.levels.items) (levels_view c.append.new.self.items) own inner all
