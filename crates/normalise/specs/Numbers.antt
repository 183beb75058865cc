-- The numbers of the generators in scope, and what is numbered one after the other.
use Rattle.std.specs.Prelude.{ℕ, zero, suc, ◌+◌, List, [], ◌∷◌, drop, length}
use Rattle.nq_model.specs.NamedRows.{Label}
use Rattle.nq_model.specs.Types.{TypeTree, FieldTypes}
use Rattle.nq_ir.specs.NormalForms.{gens_in_base, gens_in_body, gens_in_conds, tags_in_body, number_gens, deal, number_base, number_body, number_conds, first_type, rest_types}
use Rattle.nq_ir.specs.RawForms.{RawBase, RawBody}
use Rattle.nq_ir.specs.Trees.{BaseTree, BodyTree, CompPart as NumberedComp, TestPart as NumberedPart}
use Rattle.normalise.specs.Raw.{CompPart, TestPart}
use Rattle.normalise.specs.declared.numbers.Numbers.{Numbers}
use Rattle.normalise.specs.declared.numbers.Numbers.TheOpen.{Numbers-F}
use Rattle.normalise.specs.declared.numbers.Numbers.TheFolds.{fold-Numbers}

-- k numbers from n on, the last innermost
abbrev pub dealt : ℕ → ℕ → List ℕ → List ℕ
dealt n zero sc = sc
dealt n (suc k) sc = dealt (suc n) k (n ∷ sc)

-- without k numbers behind the first c
abbrev pub without : ℕ → ℕ → List ℕ → List ℕ
without k zero sc = drop k sc
without k (suc c) [] = []
without k (suc c) (n ∷ sc) = n ∷ without k c sc

abbrev pub numbers_layer : Numbers-F (List ℕ) → List ℕ
numbers_layer Numbers-F.Top = []
numbers_layer (Numbers-F.Dealt first count outer) = dealt first count outer.now
numbers_layer (Numbers-F.Without from count outer) = without count from outer.now

-- the numbers in scope, the innermost first
abbrev pub numbers : Numbers → List ℕ
numbers = fold-Numbers (List ℕ) numbers_layer

-- base terms numbered one after the other, and how many generators stand in them
abbrev pub bases_numbered : ℕ → List ℕ → List RawBase → List BaseTree
bases_numbered n sc [] = []
bases_numbered n sc (b ∷ bs) = number_base n sc b ∷ bases_numbered (n + gens_in_base b) sc bs

abbrev pub gens_in_bases : List RawBase → ℕ
gens_in_bases [] = 0
gens_in_bases (b ∷ bs) = gens_in_base b + gens_in_bases bs

-- comprehensions of a test
abbrev pub gens_in_test : TestPart → ℕ
gens_in_test t = length t.tables + gens_in_conds t.conds

abbrev pub test_numbered : ℕ → List ℕ → TestPart → NumberedPart
test_numbered n sc t = record { gens = number_gens n t.tables; conds = number_conds (n + length t.tables) (deal n t.tables sc) t.conds }

abbrev pub tests_numbered : ℕ → List ℕ → List TestPart → List NumberedPart
tests_numbered n sc [] = []
tests_numbered n sc (t ∷ ts) = test_numbered n sc t ∷ tests_numbered (n + gens_in_test t) sc ts

abbrev pub gens_in_parts : List TestPart → ℕ
gens_in_parts [] = 0
gens_in_parts (t ∷ ts) = gens_in_test t + gens_in_parts ts

-- comprehensions, and how many tags and generators stand in them
abbrev pub tags_in_part : CompPart → ℕ
tags_in_part c = suc (tags_in_body c.body)

abbrev pub gens_in_comp : CompPart → ℕ
gens_in_comp c = length c.tables + (gens_in_conds c.conds + gens_in_body c.body)

abbrev pub tags_in_parts : List CompPart → ℕ
tags_in_parts [] = 0
tags_in_parts (c ∷ cs) = tags_in_part c + tags_in_parts cs

abbrev pub gens_in_comps : List CompPart → ℕ
gens_in_comps [] = 0
gens_in_comps (c ∷ cs) = gens_in_comp c + gens_in_comps cs

abbrev pub comp_numbered : ℕ → ℕ → List ℕ → TypeTree → CompPart → NumberedComp
comp_numbered t n sc a c =
    record { tag = t; gens = number_gens n c.tables; conds = number_conds (n + length c.tables) (deal n c.tables sc) c.conds; body = number_body (suc t) (n + length c.tables + gens_in_conds c.conds) (deal n c.tables sc) a c.body }

abbrev pub comps_numbered : ℕ → ℕ → List ℕ → TypeTree → List CompPart → List NumberedComp
comps_numbered t n sc a [] = []
comps_numbered t n sc a (c ∷ cs) = comp_numbered t n sc a c ∷ comps_numbered (t + tags_in_part c) (n + gens_in_comp c) sc a cs

-- the fields of a record
abbrev pub tags_in_list : List (Label × RawBody) → ℕ
tags_in_list [] = 0
tags_in_list (f ∷ fs) = tags_in_body f.1 + tags_in_list fs

abbrev pub gens_in_list : List (Label × RawBody) → ℕ
gens_in_list [] = 0
gens_in_list (f ∷ fs) = gens_in_body f.1 + gens_in_list fs

abbrev pub fields_numbered : ℕ → ℕ → List ℕ → FieldTypes → List (Label × RawBody) → List (Label × BodyTree)
fields_numbered t n sc gs [] = []
fields_numbered t n sc gs (f ∷ fs) =
    (f.0, number_body t n sc (first_type gs) f.1) ∷ fields_numbered (t + tags_in_body f.1) (n + gens_in_body f.1) sc (rest_types gs) fs
