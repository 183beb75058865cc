-- Spots of a normal form, their children, and the rows of a shredded form.
--
-- After Cheney, Lindley and Wadler, "Query Shredding", SIGMOD 2014: a spot is what an index stands for, its
-- tag being the static and its rows the dynamic part.
use Rattle.std.specs.Prelude.{◌≡◌, ℕ, ◌+◌, List, [], ◌∷◌, ◌++◌, map, filter, flat_map, cond, nat_eq, get_or, bytes_eq}
use Rattle.std.specs.List.{AllByRecursion as Each}
use Rattle.std.specs.Ordering.{nat_cmp}
use Rattle.nq_model.specs.Orders.{sorted_by}
use Rattle.nq_model.specs.Types.{TypeTree, int, bool, text, rec, bag, fun, FieldTypes, none, field}
use Rattle.nq_model.specs.declared.table.Cell.{Cell}
use Rattle.nq_ir.specs.declared.base.Gen.{Gen}
use Rattle.nq_ir.specs.declared.path.Step.{Step}
use Rattle.nq_ir.specs.declared.path.Step.TheVariants.{Down, Field}
use Rattle.nq_ir.specs.declared.shredded.Strand.{Strand}
use Rattle.nq_ir.specs.Trees.{BaseTree, literal, Conds, no_cond, and_cond, conds_tree, BodyTree, plain_body, rec_body, bag_body, Bodies, no_body, with_body, Comps, no_comp, comp, ShapeTree, plain_shape, rec_shape, index_shape, Shapes, no_shape, with_shape, shape_tree}
use Rattle.nq_model.specs.NamedRows.{Label, no_cell}
use Rattle.nq_ir.specs.Meanings.{Tables, Env, kept, value}
use Rattle.nq_ir.specs.Parts.{slots}
use Rattle.nq_ir.specs.Building.{Source}

-- a comprehension at its path, with its whole body: the parent's tag, the generators and conditions around it, and its own
pub record PlacedComp : Type 0 where
  pub parent : ℕ
  pub outer_gens : List Gen
  pub outer_conds : Conds
  pub tag : ℕ
  pub gens : List Gen
  pub conds : Conds
  pub body : BodyTree

-- the same with the shape of its body
pub record StrandTree : Type 0 where
  pub parent : ℕ
  pub outer_gens : List Gen
  pub outer_conds : Conds
  pub tag : ℕ
  pub gens : List Gen
  pub conds : Conds
  pub shape : ShapeTree

-- the tree of a strand of the program
abbrev pub strand_tree : Strand → StrandTree
strand_tree d = record {
  parent = d.parent;
  outer_gens = d.outer_gens;
  outer_conds = conds_tree d.outer_conds;
  tag = d.tag;
  gens = d.gens;
  conds = conds_tree d.conds;
  shape = shape_tree d.shape;
}

-- a body with an index in the place of each bag
abbrev mutual
  pub shape_of : BodyTree → ShapeTree
  shape_of (plain_body b) = plain_shape b
  shape_of (rec_body fs) = rec_shape (shape_of_fields fs)
  shape_of (bag_body element cs) = index_shape

  pub shape_of_fields : Bodies → Shapes
  shape_of_fields no_body = no_shape
  shape_of_fields (with_body l b fs) = with_shape l (shape_of b) (shape_of_fields fs)

abbrev pub shaped : PlacedComp → StrandTree
shaped d = record {
  parent = d.parent;
  outer_gens = d.outer_gens;
  outer_conds = d.outer_conds;
  tag = d.tag;
  gens = d.gens;
  conds = d.conds;
  shape = shape_of d.body;
}

-- conditions, then more conditions
abbrev pub both : Conds → Conds → Conds
both no_cond ys = ys
both (and_cond x xs) ys = and_cond x (both xs ys)

-- the comprehensions of a bag, under the parent with this tag
abbrev pub placed : ℕ → List Gen → Conds → Comps → List PlacedComp
placed p og oc no_comp = []
placed p og oc (comp t gens conds b cs) =
    record { parent = p; outer_gens = og; outer_conds = oc; tag = t; gens = gens; conds = conds; body = b } ∷ placed p og oc cs

-- the inner bags of a body, fields in order
abbrev mutual
  pub bags_of : BodyTree → List Comps
  bags_of (plain_body b) = []
  bags_of (rec_body fs) = bags_of_fields fs
  bags_of (bag_body element cs) = cs ∷ []

  pub bags_of_fields : Bodies → List Comps
  bags_of_fields no_body = []
  bags_of_fields (with_body l b fs) = bags_of b ++ bags_of_fields fs

-- the base parts of a shape, fields in order
abbrev mutual
  pub shape_leaves : ShapeTree → List BaseTree
  shape_leaves (plain_shape b) = b ∷ []
  shape_leaves (rec_shape fs) = shape_leaves_in fs
  shape_leaves index_shape = []

  pub shape_leaves_in : Shapes → List BaseTree
  shape_leaves_in no_shape = []
  shape_leaves_in (with_shape l b fs) = shape_leaves b ++ shape_leaves_in fs

-- the number of its inner bags
abbrev mutual
  pub shape_slots : ShapeTree → ℕ
  shape_slots (plain_shape b) = 0
  shape_slots (rec_shape fs) = shape_slots_in fs
  shape_slots index_shape = 1

  pub shape_slots_in : Shapes → ℕ
  shape_slots_in no_shape = 0
  shape_slots_in (with_shape l b fs) = shape_slots b + shape_slots_in fs

-- the comprehensions of the inner bag s of a comprehension
abbrev pub under : ℕ → PlacedComp → List PlacedComp
under s d = placed d.tag (d.outer_gens ++ d.gens) (both d.outer_conds d.conds) (get_or (bags_of d.body) s no_comp)

-- for each path inside a type, in path order, the comprehensions there; here are those at the enclosing path
abbrev mutual
  pub levels_in : TypeTree → ℕ → List PlacedComp → List (List PlacedComp)
  levels_in int s here = []
  levels_in bool s here = []
  levels_in text s here = []
  levels_in (rec fs) s here = levels_fields fs s here
  levels_in (bag a) s here = flat_map (under s) here ∷ levels_in a 0 (flat_map (under s) here)
  levels_in (fun a b) s here = []

  pub levels_fields : FieldTypes → ℕ → List PlacedComp → List (List PlacedComp)
  levels_fields none s here = []
  levels_fields (field k a fs) s here = levels_in a s here ++ levels_fields fs (s + slots a) here

-- for each path of a form, in path order, the comprehensions there
abbrev pub levels : TypeTree → Comps → List (List PlacedComp)
levels a cs = placed 0 [] no_cond cs ∷ levels_in a 0 (placed 0 [] no_cond cs)

-- the strands at each path, in path order
abbrev pub strands : TypeTree → Comps → List (List StrandTree)
strands a cs = map (map shaped) (levels a cs)

-- a tag with the row of each generator in scope, outermost first
pub record Spot : Type 0 where
  pub tag : ℕ
  pub rows : Env

-- its rows of cells, one for each generator; with the tag they are all that a spot is
abbrev pub spot_cells : Env → List (List Cell)
spot_cells e = map (λ b. map (λ c. c.1) b.1) e

abbrev pub top_spot : Spot
top_spot = record { tag = 0; rows = [] }

-- a strand with a choice that it keeps, the rows around before its own
pub record Child : Type 0 where
  pub of : StrandTree
  pub rows : Env

abbrev pub own_spot : Child → Spot
own_spot c = record { tag = c.of.tag; rows = c.rows }

abbrev pub children_of : Tables → Env → StrandTree → List Child
children_of ts env d = map (λ e. record { of = d; rows = e }) (kept ts d.gens d.conds env)

-- the children of a spot among the strands at a path: those whose parent is the spot's tag, each at each choice that it keeps
abbrev pub children : Tables → List StrandTree → Spot → List Child
children ts here s = flat_map (children_of ts s.rows) (filter (λ d. nat_eq d.parent s.tag) here)

-- the spots of a form as a source of rows
abbrev pub spots : Tables → List (List StrandTree) → Source Spot Child
spots ts all = record {
  rows = λ q s. children ts (get_or all q []) s;
  leaf = λ q l c. value ts (get_or (shape_leaves c.of.shape) l (literal no_cell)) c.rows;
  inner = λ q s c. own_spot c;
}

-- the spots of a strand's parent: the kept choices of the generators around
abbrev pub outer_spots : Tables → StrandTree → List Spot
outer_spots ts d = map (λ e. record { tag = d.parent; rows = e }) (kept ts d.outer_gens d.outer_conds [])

-- the rows of a shredded form: each spot with each of its children
abbrev pub strand_rows : Tables → StrandTree → List (Spot × Child)
strand_rows ts d = flat_map (λ s. map (λ c. (s, c)) (children_of ts s.rows d)) (outer_spots ts d)

abbrev pub shredded_rows : Tables → List StrandTree → List (Spot × Child)
shredded_rows ts ds = flat_map (strand_rows ts) ds

-- the children in the rows of a strand stand at the kept choices of all generators in scope
abbrev pub OutersKept : Tables → StrandTree → Type 0
OutersKept ts d = map (λ r. r.1.rows) (strand_rows ts d) ≡ kept ts (d.outer_gens ++ d.gens) (both d.outer_conds d.conds) []

-- the tags of these comprehensions differ
abbrev pub TagsDiffer : List PlacedComp → Type 0
TagsDiffer here = Each (λ d. filter (λ c. nat_eq c.tag d.tag) here ≡ d ∷ []) here

-- the comprehensions at a path of a body, below the parent with this tag, generators and conditions
abbrev mutual
  pub comps_at : ℕ → List Gen → Conds → BodyTree → List Step → List PlacedComp
  comps_at t og oc (plain_body b) p = []
  comps_at t og oc (rec_body fs) [] = []
  comps_at t og oc (rec_body fs) (Down ∷ p) = []
  comps_at t og oc (rec_body fs) (Field l ∷ p) = comps_in t og oc fs l p
  comps_at t og oc (bag_body element cs) [] = placed t og oc cs
  comps_at t og oc (bag_body element cs) (Down ∷ p) = comps_below og oc cs p
  comps_at t og oc (bag_body element cs) (Field l ∷ p) = []

  pub comps_in : ℕ → List Gen → Conds → Bodies → Label → List Step → List PlacedComp
  comps_in t og oc no_body l p = []
  comps_in t og oc (with_body k b fs) l p = cond (bytes_eq l k) (comps_at t og oc b p) (comps_in t og oc fs l p)

  pub comps_below : List Gen → Conds → Comps → List Step → List PlacedComp
  comps_below og oc no_comp p = []
  comps_below og oc (comp t gens conds b cs) p =
      comps_at t (og ++ gens) (both oc conds) b p ++ comps_below og oc cs p

-- strands in the order of their tags
abbrev pub by_tag : List StrandTree → List StrandTree
by_tag ds = sorted_by (λ d e. nat_cmp d.tag e.tag) ds

-- the strands of a form at a path: one for each comprehension there, in the order of their tags
abbrev pub strands_at : TypeTree → Comps → List Step → List StrandTree
strands_at a cs p = by_tag (map shaped (comps_at 0 [] no_cond (bag_body a cs) p))
