-- The tables of each comprehension's own generators.
use Rattle.std.specs.Prelude.{ℕ, List, [], ◌∷◌, ◌++◌, map}
use Rattle.nq_model.specs.NamedRows.{Label}
use Rattle.nq_ir.specs.declared.base.Gen.{Gen}
use Rattle.nq_ir.specs.Trees.{BodyTree, plain_body, rec_body, bag_body, Bodies, no_body, with_body}
use Rattle.nq_ir.specs.Trees.{Comps, no_comp, comp}

-- the tables of generators, in order
abbrev pub gen_tables : List Gen → List Label
gen_tables gens = map (λ g. g.table) gens

-- tables by tag
abbrev pub ByTag : Type 0
ByTag = List (ℕ × List Label)

-- those of comprehensions and of those inside, in pre-order
abbrev mutual
  pub listed : Comps → ByTag
  listed no_comp = []
  listed (comp t gens conds b cs) = (t, gen_tables gens) ∷ (listed_body b ++ listed cs)

  pub listed_body : BodyTree → ByTag
  listed_body (plain_body b) = []
  listed_body (rec_body fs) = listed_bodies fs
  listed_body (bag_body e cs) = listed cs

  pub listed_bodies : Bodies → ByTag
  listed_bodies no_body = []
  listed_bodies (with_body l b fs) = listed_body b ++ listed_bodies fs
