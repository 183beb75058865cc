-- The rows of a let form as the pairs of a shredded form, each spot written as a tag and a number.
use Rattle.std.specs.Prelude.{◌≡◌, List, [], ◌∷◌, ◌++◌, length, map, flat_map}
use Rattle.std.specs.List.{AllByRecursion as Each}
use Rattle.std.specs.Cmp.Lexicographic.{slice_cmp}
use Rattle.nq_model.specs.Bags.{Matched, Reordered}
use Rattle.nq_model.specs.Cells.{cell_cmp}
use Rattle.nq_model.specs.NamedRows.{Label}
use Rattle.nq_model.specs.Numberings.{numbered}
use Rattle.nq_model.specs.Orders.{sorted_by}
use Rattle.nq_ir.specs.declared.base.Gen.{Gen}
use Rattle.nq_ir.specs.Among.{Among}
use Rattle.nq_ir.specs.Lets.{FlatRow, LetRow, LetTree, key_of, lets_of}
use Rattle.nq_ir.specs.Meanings.{Tables, kept, value}
use Rattle.nq_ir.specs.Spots.{StrandTree, Spot, Child, both, children, shape_leaves, shape_slots, shredded_rows, top_spot}
use Rattle.nq_ir.specs.Trees.{Conds}

-- the kept choices of these generators, sorted by all their cells, each with its number; equal choices have one number each
abbrev pub numbered_spots : (Label → List Label) → Tables → List Gen → Conds → List LetRow
numbered_spots cols ts gens conds =
    numbered 1 (sorted_by (λ e f. slice_cmp cell_cmp (key_of cols gens e) (key_of cols gens f)) (kept ts gens conds []))

-- A row writes a spot and its child: the spot as its tag and a number that it has among the spots of its tag, the
-- child's base parts, and for each inner bag the child's own spot in the same way.
pub record Writes (cols : Label → List Label) (ts : Tables) (r : FlatRow) (pair : Spot × Child) : Type 0 where
  pub outer_tag : r.outer.0 ≡ pair.0.tag
  pub outer_number : Among (r.outer.1, pair.0.rows) (numbered_spots cols ts pair.1.of.outer_gens pair.1.of.outer_conds)
  pub leaf_cells : r.leaf_cells ≡ map (λ b. value ts b pair.1.rows) (shape_leaves pair.1.of.shape)
  pub as_many : length r.inners ≡ shape_slots pair.1.of.shape
  pub inners : Each (λ i. (i.0 ≡ pair.1.of.tag) × Among (i.1, pair.1.rows) (numbered_spots cols ts (pair.1.of.outer_gens ++ pair.1.of.gens) (both pair.1.of.outer_conds pair.1.of.conds))) r.inners

-- rows that write the pairs of these strands, each pair once, in any order
abbrev pub WriteAll : (Label → List Label) → Tables → List StrandTree → List FlatRow → Type 0
WriteAll cols ts ds rows = Matched (Writes cols ts) rows (shredded_rows ts ds)

-- the spots of a let's parent
abbrev pub let_spots : Tables → LetTree → List Spot
let_spots ts l = map (λ e. record { tag = l.parent; rows = e }) (kept ts l.gens l.conds [])

-- the spots that may have children among these strands: the top, and those of each let's parent
abbrev pub parent_spots : Tables → List StrandTree → List Spot
parent_spots ts ds = top_spot ∷ flat_map (let_spots ts) (lets_of ds)

-- the pairs of a shredded form are its parents' spots, each with each of its children, in some order
abbrev pub PairsAreChildren : Tables → List StrandTree → Type 0
PairsAreChildren ts ds =
    Reordered (shredded_rows ts ds) (flat_map (λ s. map (λ c. (s, c)) (children ts ds s)) (parent_spots ts ds))
