-- Shredded forms: the strands at one path of a normal form.
--
-- After Cheney, Lindley and Wadler, "Query Shredding", SIGMOD 2014.
use Rattle.std.specs.Prelude.{◌≡◌, ℕ, ◌<◌, List, [], ◌∷◌, map, ⊤}
use Rattle.std.specs.List.{AllByRecursion as Each}
use Rattle.nq_model.specs.Types.{TypeTree, bag, type_tree}
use Rattle.nq_model.specs.declared.table.Schema.{Schema}
use Rattle.nq_ir.specs.declared.path.Step.{Step}
use Rattle.nq_ir.specs.declared.shredded.Shredded.{Shredded}
use Rattle.nq_ir.specs.Among.{Among}
use Rattle.nq_ir.specs.Paths.{paths, element_at}
use Rattle.nq_ir.specs.Spots.{StrandTree, strand_tree, strands_at}
use Rattle.nq_ir.specs.Trees.{FormTree}
use Rattle.nq_ir.specs.WellFormed.{IsWellFormed}

-- a path, the type of the elements there, and the strands there
pub record ShreddedTree : Type 0 where
  pub path : List Step
  pub element : TypeTree
  pub parts : List StrandTree

-- the tree of a shredded form of the program
abbrev pub shredded_tree : Shredded → ShreddedTree
shredded_tree s = record {
  path = s.path.steps;
  element = type_tree s.element;
  parts = map strand_tree s.parts;
}

-- the shredded form of a form at a path
abbrev pub shredded : FormTree → List Step → ShreddedTree
shredded form p = record {
  path = p;
  element = element_at (bag form.element) p;
  parts = strands_at form.element form.comps p;
}

-- the shredded form of a form that is well formed over the schema, at one of its paths
pub record IsShreddedOf (schema : Schema) (s : ShreddedTree) : Type 0 where
  pub form : FormTree
  pub well_formed : IsWellFormed schema.tables form
  pub at_path : Among s.path (paths (bag form.element))
  pub is : s ≡ shredded form s.path

-- each number is below all that come after it
abbrev pub IsRising : List ℕ → Type 0
IsRising [] = ⊤
IsRising (n ∷ ns) = Each (λ m. n < m) ns × IsRising ns
