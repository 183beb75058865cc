-- Whether a count or a sum stands in a printed term, part by part.
use Rattle.std.proofs.Common.{◌≡◌, Bool, true, false, ◌||◌, List, [], ◌∷◌, map, refl, sym, ap, ◌∙◌, Box, Global}
use Rattle.std.specs.List.{list_any}
use Rattle.nq_model.specs.Types.{TypeTree, type_tree}
use Rattle.nq_model.specs.declared.term.Binary.TheVariants.{And}
use Rattle.nq_ir.specs.declared.base.Gen.{Gen}
use Rattle.nq_ir.specs.declared.base.Base.{Base}
use Rattle.nq_ir.specs.declared.base.Base.TheVariants as base
use Rattle.nq_ir.specs.declared.base.Test.{Test}
use Rattle.nq_ir.specs.declared.normal.Comp.{Comp}
use Rattle.nq_ir.specs.declared.normal.Normal.{Normal, out-Normal}
use Rattle.nq_ir.specs.Trees.{base_tree, conds_tree, TestPart, test, test_part, tests_of, CompPart, comp, comp_part, comps_of, body_tree, form_tree}
use Rattle.nq_ir.specs.Printed.{NamedTerm, binary, union, single, rec, no_field, under_gens, named_base, named_body, named_where, named_tests, named_comps, named_form, and_then, has_total}
use Rattle.nq_ir.proofs.Forms.{base_empty, base_count, base_sum, test_is, comp_is, form_is}
use Rattle.normal_printer.specs.Parts.{comp_term, test_term, whole_term}
use Rattle.normal_printer.proofs.Chains.{or_assoc, or_none}
use Rattle.normal_printer.proofs.Joined.{chain, comps_chain, cond_term, tests_chain}

-- generators hold no total
under_total : (gens : List Gen) (s : NamedTerm) → has_total (under_gens gens s) ≡ has_total s
under_total [] s = refl
under_total (g ∷ gens) s = under_total gens s

abbrev conds_total : List Base → Bool
conds_total bs = list_any (λ b. has_total (cond_term b)) bs

and_total : (x : NamedTerm) (bs : List Base) → has_total (and_then x (conds_tree bs)) ≡ (has_total x || conds_total bs)
and_total x [] = or_none (has_total x)
and_total x (b ∷ bs) = and_total (binary And x (cond_term b)) bs ∙ or_assoc (has_total x) (has_total (cond_term b)) (conds_total bs)

where_total : (bs : List Base) (s : NamedTerm) → has_total (named_where (conds_tree bs) s) ≡ (conds_total bs || has_total s)
where_total [] s = refl
where_total (b ∷ bs) s = ap (λ t. t || has_total s) (and_total (cond_term b) bs)

head_total : (gens : List Gen) (bs : List Base) (body : NamedTerm) → has_total (comp_term gens (conds_tree bs) body) ≡ (conds_total bs || has_total body)
head_total gens bs body = under_total gens (named_where (conds_tree bs) (single body)) ∙ where_total bs (single body)

pub test_total : (t : Test) → has_total (test_term t) ≡ list_any (λ b. has_total (named_base (base_tree b))) t.conds
test_total t = head_total t.gens t.conds (rec no_field) ∙ sym (or_none (conds_total t.conds))

pub comp_total : (c : Comp) → has_total (whole_term c) ≡ (list_any (λ b. has_total (named_base (base_tree b))) c.conds || has_total (named_body (body_tree c.body)))
comp_total c = head_total c.gens c.conds (named_body (body_tree c.body))

-- the parts of a union
chain_total : {A : Type 0} (named : A → NamedTerm) (s : NamedTerm) (xs : List A) → has_total (chain union s (map named xs)) ≡ (has_total s || list_any (λ x. has_total (named x)) xs)
chain_total named s [] = or_none (has_total s)
chain_total named s (x ∷ xs) = chain_total named (union s (named x)) xs ∙ or_assoc (has_total s) (has_total (named x)) (list_any (λ x. has_total (named x)) xs)

tests_total : (ts : List Test) → has_total (named_tests (tests_of (map test_part ts))) ≡ list_any (λ t. has_total (test_term t)) ts
tests_total [] = refl
tests_total (t ∷ ts) =
    ap (λ (p : TestPart). has_total (named_tests (test p.gens p.conds (tests_of (map test_part ts))))) (test_is t)
    ∙ ap has_total (tests_chain (test_term t) ts)
    ∙ chain_total test_term (test_term t) ts

comps_total : (a : TypeTree) (cs : List Comp) → has_total (named_comps a (comps_of (map comp_part cs))) ≡ list_any (λ c. has_total (whole_term c)) cs
comps_total a [] = refl
comps_total a (c ∷ cs) =
    ap (λ (p : CompPart). has_total (named_comps a (comp p.tag p.gens p.conds p.body (comps_of (map comp_part cs))))) (comp_is c)
    ∙ ap has_total (comps_chain (whole_term c) cs)
    ∙ chain_total whole_term (whole_term c) cs

pub form_total : (n : Normal) → has_total (named_form (form_tree n)) ≡ list_any (λ c. has_total (whole_term c)) (out-Normal n).parts
form_total n = ap (λ form. has_total (named_form form)) (form_is n) ∙ comps_total (type_tree (out-Normal n).element) (out-Normal n).parts

pub empty_total : (ts : List Test) → has_total (named_base (base_tree (base.Empty ts))) ≡ list_any (λ t. has_total (test_term t)) ts
empty_total ts = ap (λ b. has_total (named_base b)) (base_empty ts) ∙ tests_total ts

pub count_total : (t : Test) → has_total (named_base (base_tree (base.Count t))) ≡ true
count_total t = ap (λ b. has_total (named_base b)) (base_count t)

pub sum_total : (t : Test) (b : Box Base Global) → has_total (named_base (base_tree (base.Sum t b))) ≡ true
sum_total t b = ap (λ b. has_total (named_base b)) (base_sum t b)
