-- Comprehensions of the program, placed below what stands around them.
use Rattle.std.specs.Prelude.{ℕ, List, map}
use Rattle.nq_ir.specs.declared.normal.Body.{Body}
use Rattle.nq_ir.specs.declared.normal.Comp.{Comp}
use Rattle.nq_ir.specs.declared.normal.Normal.{Normal}
use Rattle.nq_ir.specs.declared.path.Step.{Step}
use Rattle.nq_ir.specs.Spots.{PlacedComp, comps_at, comps_below, comps_in, placed, shape_of}
use Rattle.nq_ir.specs.Trees.{Bodies, Comps, bag_body, bodies_of, body_tree, comp_part, comps_of, conds_tree, form_tree, ShapeTree}
use Rattle.shred_terms.specs.declared.around.Around.{Around}

abbrev pub comps_tree : List Comp → Comps
comps_tree cs = comps_of (map comp_part cs)

abbrev pub fields_tree : List (List ℕ × Body) → Bodies
fields_tree fs = bodies_of (map (λ f. (f.0, body_tree f.1)) fs)

-- each field's label and the shape of its body
abbrev pub field_shapes : List (List ℕ × Body) → List (List ℕ × ShapeTree)
field_shapes fs = map (λ f. (f.0, shape_of (body_tree f.1))) fs

-- a comprehension with its whole body
abbrev pub whole : Around → Comp → PlacedComp
whole a c = record {
  parent = a.parent;
  outer_gens = a.gens;
  outer_conds = conds_tree a.conds;
  tag = c.tag;
  gens = c.gens;
  conds = conds_tree c.conds;
  body = body_tree c.body;
}

-- these comprehensions
abbrev pub placed_in : Around → List Comp → List PlacedComp
placed_in a cs = placed a.parent a.gens (conds_tree a.conds) (comps_tree cs)

-- those at a path of a bag, of a body, of a field among these, and below these comprehensions
abbrev pub at_bag : Around → Normal → List Step → List PlacedComp
at_bag a n p = comps_at a.parent a.gens (conds_tree a.conds) (bag_body (form_tree n).element (form_tree n).comps) p

abbrev pub at_body : Around → Body → List Step → List PlacedComp
at_body a b p = comps_at a.parent a.gens (conds_tree a.conds) (body_tree b) p

abbrev pub at_field : Around → List (List ℕ × Body) → List ℕ → List Step → List PlacedComp
at_field a fs l p = comps_in a.parent a.gens (conds_tree a.conds) (fields_tree fs) l p

abbrev pub below : Around → List Comp → List Step → List PlacedComp
below a cs p = comps_below a.gens (conds_tree a.conds) (comps_tree cs) p
