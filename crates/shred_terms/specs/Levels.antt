-- The strands at all paths, from strands that keep the bags in the bodies of their comprehensions.
use Rattle.std.specs.Prelude.{ℕ, ◌+◌, List, [], ◌∷◌, ◌++◌, map, flat_map, get_or}
use Rattle.std.specs.Borrow.{Bor}
use Rattle.nq_model.specs.Types.{TypeTree, int, bool, text, rec, bag, fun, FieldTypes, none, field}
use Rattle.nq_ir.specs.declared.normal.Body.{Body}
use Rattle.nq_ir.specs.declared.normal.Normal.{Normal}
use Rattle.nq_ir.specs.declared.path.Step.{Step}
use Rattle.nq_ir.specs.declared.shredded.Strand.{Strand}
use Rattle.nq_ir.specs.Parts.{slots}
use Rattle.nq_ir.specs.Paths.{element_at}
use Rattle.nq_ir.specs.Shredded.{ShreddedTree}
use Rattle.nq_ir.specs.Spots.{PlacedComp, StrandTree, bags_of, bags_of_fields, both, by_tag, placed, shaped, strand_tree}
use Rattle.nq_ir.specs.Trees.{Comps, form_tree, no_comp}
use Rattle.shred_terms.specs.Placed.{fields_tree}
use Rattle.shred_terms.specs.declared.nodes.Node.{Node}

-- a strand, and the comprehensions of each bag in its comprehension's body
abbrev pub NodeTree : Type 0
NodeTree = StrandTree × List Comps

abbrev pub node_of : PlacedComp → NodeTree
node_of c = (shaped c, bags_of c.body)

abbrev pub bags_view : List (Bor Normal) → List Comps
bags_view bags = map (λ b. (form_tree b.now).comps) bags

abbrev pub field_bags : List (List ℕ × Body) → List Comps
field_bags fs = bags_of_fields (fields_tree fs)

abbrev pub node_view : Node → NodeTree
node_view n = (strand_tree n.strand, bags_view n.bags.items)

abbrev pub levels_view : List (List Strand) → List (List StrandTree)
levels_view levels = map (map strand_tree) levels

-- those in the inner bag with this number
abbrev pub under_node : ℕ → NodeTree → List NodeTree
under_node s d =
    map node_of (placed d.0.tag (d.0.outer_gens ++ d.0.gens) (both d.0.outer_conds d.0.conds) (get_or d.1 s no_comp))

-- for each path inside a type, in path order, the strands there; s inner bags stand before
abbrev mutual
  pub node_levels : TypeTree → ℕ → List NodeTree → List (List StrandTree)
  node_levels int s here = []
  node_levels bool s here = []
  node_levels text s here = []
  node_levels (rec fs) s here = node_fields fs s here
  node_levels (bag a) s here =
      map (λ d. d.0) (flat_map (under_node s) here) ∷ node_levels a 0 (flat_map (under_node s) here)
  node_levels (fun a b) s here = []

  pub node_fields : FieldTypes → ℕ → List NodeTree → List (List StrandTree)
  node_fields none s here = []
  node_fields (field k a fs) s here = node_levels a s here ++ node_fields fs (s + slots a) here

-- the shredded form of these strands at a path of a type
abbrev pub form_of : TypeTree → List Step → List StrandTree → ShreddedTree
form_of a p ds = record { path = p; element = element_at a p; parts = by_tag ds }

-- those at each of these paths
abbrev pub paired : TypeTree → List (List Step) → List (List StrandTree) → List ShreddedTree
paired a [] levels = []
paired a (p ∷ ps) [] = []
paired a (p ∷ ps) (ds ∷ levels) = form_of a p ds ∷ paired a ps levels
