-- Counts and sums of comprehensions, joined by `+` from the left.
use Rattle.std.proofs.Common.{◌≡◌, List, [], ◌∷◌, map, refl, ap, ◌∙◌}
use Rattle.nq_model.specs.declared.term.Binary.TheVariants.{Add}
use Rattle.nq_ir.specs.RawForms.{RawBase, raw_binary, RawComps, no_raw_comp, raw_comp, raw_tests_of, of_each, raw_count, raw_sum, plus_each}
use Rattle.normalise.specs.Raw.{TestPart, CompPart, chain, comps_of, count_in, sum_in, moved_base, raw_base, tests_of}
use Rattle.normalise.specs.Totals.{counts_of}
use Rattle.normalise.specs.declared.raw.MovedBase.{MovedBase}
use Rattle.normalise.specs.declared.raw.RawBase.TheVariants as base
use Rattle.normalise.proofs.Views.{base_chain}

pub counts_are : (ts : List TestPart) → map count_in ts ≡ counts_of (tests_of ts)
counts_are [] = refl
counts_are (t ∷ ts) = ap (λ (z : List RawBase). count_in t ∷ z) (counts_are ts)

-- a count needs no bodies
pub counts_each : (cs : RawComps) → counts_of (raw_tests_of cs) ≡ of_each raw_count cs
counts_each no_raw_comp = refl
counts_each (raw_comp gs bs b cs) = ap (λ (z : List RawBase). raw_count gs bs b ∷ z) (counts_each cs)

pub sums_are : (cs : List CompPart) → map sum_in cs ≡ of_each raw_sum (comps_of cs)
sums_are [] = refl
sums_are (c ∷ cs) = ap (λ (z : List RawBase). sum_in c ∷ z) (sums_are cs)

-- what is joined by `+` is one chain of it
pub plus_chain : (a : RawBase) (bs : List RawBase) → chain Add a bs ≡ plus_each a bs
plus_chain a [] = refl
plus_chain a (b ∷ bs) = plus_chain (raw_binary Add a b) bs

pub chain_of_plus : (a : MovedBase) (bs : List MovedBase) → raw_base (base.Chain Add a bs) ≡ plus_each (moved_base a) (map moved_base bs)
chain_of_plus a bs = base_chain Add a bs ∙ plus_chain (moved_base a) (map moved_base bs)
