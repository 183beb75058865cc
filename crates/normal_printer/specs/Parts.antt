-- The parts of a printed form, one behind the other.
use Rattle.std.specs.Prelude.{ℕ, zero, suc, List, [], ◌∷◌, ◌++◌, nat_le, codes}
use Rattle.nq_ir.specs.declared.base.Gen.{Gen}
use Rattle.nq_ir.specs.declared.base.Test.{Test}
use Rattle.nq_ir.specs.declared.normal.Comp.{Comp}
use Rattle.nq_ir.specs.Trees.{Conds, no_cond, and_cond, conds_tree, body_tree}
use Rattle.nq_ir.specs.Printed.{NamedTerm, single, rec, no_field, under_gens, named_base, named_body, named_where, and_then, level, name_text, fenced, text_of}

-- the text of a part where this level is asked for
abbrev pub text_at : ℕ → NamedTerm → List ℕ
text_at asked s = fenced (nat_le asked (level s)) (text_of s)

-- What is asked for at a place of so many parts that an operator of a level joins from the left: nothing where a part
-- is alone, the level at the first, and the next level at each further one.
abbrev pub level_in : ℕ → ℕ → ℕ → ℕ
level_in joined zero place = 0
level_in joined (suc zero) place = 0
level_in joined (suc (suc more)) zero = joined
level_in joined (suc (suc more)) (suc place) = suc joined

-- what stands before the part at a place: before the first, or before a further one
abbrev pub lead : ℕ → List ℕ → List ℕ → List ℕ
lead zero first further = first
lead (suc place) first further = further

-- a comprehension whose body is this; that of a test or a count is the record without fields
abbrev pub comp_term : List Gen → Conds → NamedTerm → NamedTerm
comp_term gens conds body = under_gens gens (named_where conds (single body))

-- `for (xk <- table t) ` for each generator
abbrev pub gens_text : List Gen → List ℕ
gens_text [] = []
gens_text (g ∷ gs) = codes "for (" ++ (name_text g.number ++ (codes " <- table " ++ (g.table ++ (codes ") " ++ gens_text gs))))

-- `where (X) `, or nothing
abbrev pub where_text : Conds → List ℕ
where_text no_cond = []
where_text (and_cond b bs) = codes "where (" ++ (text_of (and_then (named_base b) bs) ++ codes ") ")

-- the comprehensions of the program
abbrev pub test_term : Test → NamedTerm
test_term t = comp_term t.gens (conds_tree t.conds) (rec no_field)

abbrev pub whole_term : Comp → NamedTerm
whole_term c = comp_term c.gens (conds_tree c.conds) (named_body (body_tree c.body))
