use Rattle.std.proofs.Common.{length, ◌≡◌, ◌∙◌, ap, sym, arith, Some, None, get_or, List, ℕ}
use Rattle.std.specs.BTreeMap.{get_by}
use Rattle.std.specs.Cmp.Lexicographic.{slice_cmp}
use Rattle.std.specs.Ordering.{nat_cmp}
use Rattle.sql_profile.specs.Scope.{found}
use Rattle.sql_scope.specs.Names.{named, place_of}
use Rattle.sql_scope.proofs.Naming.{found_at, found_nowhere}
use Rattle.sql_scope.proofs.names.Names.get.Goals as goal

pub offset_bounds-as_slice-place : goal.offset_bounds-as_slice-place
offset_bounds-as_slice-place g c =
    let at : place_of c.args.name.now (named c.self.inside.listed) ≡ Some c.in-Some.place.now
    = sym (c.self.invariant c.args.name.now) ∙ ap (λ (m : List ℕ). get_by (λ k. slice_cmp nat_cmp m k.now) c.self.inside.firsts) (sym c.as_str.ensures.value) ∙ sym c.in-Some.ensures.value in
    let low = (found_at c.args.name.now c.self.inside.listed c.in-Some.place.now at).0 in
    omega (arith, low, ap length c.as_slice.ensures)

pub bounds-as_slice-place : goal.bounds-as_slice-place
bounds-as_slice-place g c =
    let at : place_of c.args.name.now (named c.self.inside.listed) ≡ Some c.in-Some.place.now
    = sym (c.self.invariant c.args.name.now) ∙ ap (λ (m : List ℕ). get_by (λ k. slice_cmp nat_cmp m k.now) c.self.inside.firsts) (sym c.as_str.ensures.value) ∙ sym c.in-Some.ensures.value in
    let low = (found_at c.args.name.now c.self.inside.listed c.in-Some.place.now at).0 in
    omega (arith, low, ap length c.as_slice.ensures)

pub returns-in-Some : goal.returns-in-Some
returns-in-Some g c =
    let at : place_of c.args.name.now (named c.self.inside.listed) ≡ Some c.in-Some.place.now
    = sym (c.self.invariant c.args.name.now) ∙ ap (λ (m : List ℕ). get_by (λ k. slice_cmp nat_cmp m k.now) c.self.inside.firsts) (sym c.as_str.ensures.value) ∙ sym c.in-Some.ensures.value in
    let there = (found_at c.args.name.now c.self.inside.listed c.in-Some.place.now at).1 c.index-as_slice-place.result in
    ap (λ l. Some (get_or l c.in-Some.place.now c.index-as_slice-place.result).1) c.as_slice.ensures ∙ sym there ∙ ap (found c.args.name.now) c.self.view_is

pub returns-in-None : goal.returns-in-None
returns-in-None g c =
    let at : place_of c.args.name.now (named c.self.inside.listed) ≡ None
    = sym (c.self.invariant c.args.name.now) ∙ ap (λ (m : List ℕ). get_by (λ k. slice_cmp nat_cmp m k.now) c.self.inside.firsts) (sym c.as_str.ensures.value) ∙ sym c.in-None.ensures.value in
    let there = found_nowhere c.args.name.now (named c.self.inside.listed) at in
    sym there ∙ ap (found c.args.name.now) c.self.view_is
