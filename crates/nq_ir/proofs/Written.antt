-- The rows of a let form write the pairs of its shredded form.
use Rattle.std.proofs.Common.{◌≡◌, ℕ, suc, List, [], ◌∷◌, ◌++◌, map, refl, sym, ap, ◌∙◌, subst, flat_map, length, arith, zip}
use Rattle.std.specs.List.{AllByRecursion as Each}
use Rattle.std.specs.Cmp.Lexicographic.{slice_cmp}
use Rattle.std.proofs.lemmas.Cmp.{lists_total}
use Rattle.nq_model.proofs.Bags.{matched_append, matched_flat_map, matched_trans, reordered_refl, reordered_sym, reordered_trans}
use Rattle.nq_model.proofs.Canonical.{cell_order}
use Rattle.nq_model.proofs.Numberings.{each_map, each_two_reordered, key_ranks, length_map, numbers_fixed_by, reordered_map}
use Rattle.nq_model.specs.Bags.{Matched, Reordered, here}
use Rattle.nq_model.specs.Cells.{cell_cmp}
use Rattle.nq_model.specs.NamedRows.{Label}
use Rattle.nq_model.specs.Numberings.{Numbers, TellsApart, key_lt, numbered}
use Rattle.nq_model.specs.declared.table.Cell.{Cell}
use Rattle.nq_ir.specs.declared.base.Gen.{Gen}
use Rattle.nq_ir.specs.Among.{Among}
use Rattle.nq_ir.specs.Lets.{Deals, FlatRow, LetRow, PartGives, PartsGive, Side, combos, head_of, key_of, part_rows, tail_of}
use Rattle.nq_ir.specs.Meanings.{Env, Tables, kept, value}
use Rattle.nq_ir.specs.Spots.{Child, Spot, StrandTree, both, children_of, outer_spots, shape_leaves, shape_slots, shredded_rows, strand_rows}
use Rattle.nq_ir.specs.Trees.{Conds}
use Rattle.nq_ir.specs.Written.{Writes, WriteAll, numbered_spots}
use Rattle.nq_ir.proofs.Legible.{among_reordered, combos_envs, each_among, matched_map_right}
use Rattle.nq_ir.proofs.Nested.{each_mapped, map_of_map}
use Rattle.nq_ir.proofs.Sorting.{sort_by, sort_reorders, sort_rises, sorted_is}

-- these numbers name these spots
abbrev Named : List LetRow → List LetRow → List ℕ → Type 0
Named all [] m = Unit {0}
Named all (p ∷ ps) m = Among (head_of m, p.1) all × Named all ps (tail_of m)

named_from : (all ps : List LetRow) (m : List ℕ) → length m ≡ length ps → Each (λ q. Among q all) (zip m (map (λ p. p.1) ps)) → Named all ps m
named_from all [] m l e = tt
named_from all (p ∷ ps) [] l e = absurd (omega (arith, l))
named_from all (p ∷ ps) (n ∷ m) l e = (e.0, named_from all ps m (omega (arith, l)) e.1)

-- a row tells of a combination of a strand
record TellsOf (all : List LetRow) (ts : Tables) (d : StrandTree) (r : FlatRow) (x : LetRow) : Type 0 where
  outer : r.outer ≡ (d.parent, x.0)
  leaf_cells : r.leaf_cells ≡ map (λ b. value ts b x.1) (shape_leaves d.shape)
  as_many : length r.inners ≡ shape_slots d.shape
  inners : Each (λ i. (i.0 ≡ d.tag) × Among (i.1, x.1) all) r.inners

part_tells_of : (all : List LetRow) (ts : Tables) (d : StrandTree) (ps : List LetRow) (ms : List (List ℕ)) → length ms ≡ shape_slots d.shape → Each (Named all ps) ms → Matched (TellsOf all ts d) (part_rows ts d ps ms) ps
part_tells_of all ts d [] ms l e = refl
part_tells_of all ts d (p ∷ ps) ms l e = (
  p,
  ps,
  here,
  record {
    outer = refl;
    leaf_cells = refl;
    as_many = length_map (λ n. (d.tag, head_of n)) ms ∙ l;
    inners = each_mapped (λ n. (d.tag, head_of n)) (Named all (p ∷ ps)) (λ i. (i.0 ≡ d.tag) × Among (i.1, p.1) all) (λ n h. (refl, h.0)) ms e;
  },
  part_tells_of all ts d ps (map tail_of ms) (length_map tail_of ms ∙ l) (each_mapped tail_of (Named all (p ∷ ps)) (Named all ps) (λ n h. h.1) ms e),
)

matched_each : {A B : Type 0} (P : A → Type 0) (R S : A → B → Type 0) → ((x : A) (y : B) → P x → R x y → S x y) → (xs : List A) (ys : List B) → Each P xs → Matched R xs ys → Matched S xs ys
matched_each P R S t [] ys e m = m
matched_each P R S t (x ∷ xs) ys e m = (m.0, m.1, m.2, t x m.0 e.0 m.3, matched_each P R S t xs m.1 e.1 m.4)

matched_unmap : {A B : Type 0} (f : A → B) (xs : List A) (ys : List B) → Reordered (map f xs) ys → Matched (λ x y. f x ≡ y) xs ys
matched_unmap f [] ys m = m
matched_unmap f (x ∷ xs) ys m = (m.0, m.1, m.2, m.3, matched_unmap f xs m.1 m.4)

zip_seconds : {A B : Type 0} (ns : List A) (xs : List B) → length ns ≡ length xs → map (λ p. p.1) (zip ns xs) ≡ xs
zip_seconds [] [] e = refl
zip_seconds [] (x ∷ xs) e = absurd (omega (arith, e))
zip_seconds (n ∷ ns) [] e = absurd (omega (arith, e))
zip_seconds (n ∷ ns) (x ∷ xs) e = ap (λ (l : List _). x ∷ l) (zip_seconds ns xs (omega (arith, e)))

numbered_seconds : {B : Type 0} (a : ℕ) (xs : List B) → map (λ (p : ℕ × B). p.1) (numbered a xs) ≡ xs
numbered_seconds a [] = refl
numbered_seconds a (x ∷ xs) = ap (λ (l : List _). x ∷ l) (numbered_seconds (suc a) xs)

module _ (cols : Label → List Label) (ts : Tables) where
  abbrev pub K : List Gen → Env → List Cell
  K = key_of cols

  abbrev in_order : List Gen → Conds → List Env
  in_order gens conds = sort_by key_lt (K gens) (kept ts gens conds [])

  numbered_is : (gens : List Gen) (conds : Conds) → numbered_spots cols ts gens conds ≡ numbered 1 (in_order gens conds)
  numbered_is gens conds = ap (λ (l : List Env). numbered 1 l) (sorted_is (slice_cmp cell_cmp) (lists_total cell_order.total) (K gens) (kept ts gens conds []))

  -- numbers dealt to choices that are told apart, in some order
  dealt : (gens : List Gen) (conds : Conds) → TellsApart (K gens) (kept ts gens conds []) → (es : List Env) → Reordered es (kept ts gens conds []) → (ns : List ℕ) → Numbers key_lt (map (K gens) es) ns → Reordered (zip ns es) (numbered_spots cols ts gens conds)
  dealt gens conds apart es m ns h =
      subst (λ (l : List LetRow). Reordered (zip ns es) l) (sym (numbered_is gens conds)) (numbers_fixed_by key_lt (K gens) key_ranks es (in_order gens conds) ns (each_two_reordered (λ x y. K gens x ≡ K gens y → x ≡ y) (kept ts gens conds []) es (reordered_sym es (kept ts gens conds []) m) apart) h (reordered_trans es (kept ts gens conds []) (in_order gens conds) m (sort_reorders key_lt (K gens) (kept ts gens conds []))) (sort_rises key_lt (K gens) key_ranks (kept ts gens conds [])))

  -- the rows of a let are its numbered spots
  pub let_numbered : (gens : List Gen) (conds : Conds) → TellsApart (K gens) (kept ts gens conds []) → (l : List LetRow) → (ns : List ℕ) → Numbers key_lt (map (K gens) (kept ts gens conds [])) ns → Reordered (zip ns (kept ts gens conds [])) l → Reordered l (numbered_spots cols ts gens conds)
  let_numbered gens conds apart l ns h m =
      reordered_trans l (zip ns (kept ts gens conds [])) (numbered_spots cols ts gens conds) (reordered_sym (zip ns (kept ts gens conds [])) l m) (dealt gens conds apart (kept ts gens conds []) (reordered_refl (kept ts gens conds [])) ns h)

  spots_back : (gens : List Gen) (conds : Conds) → Reordered (map (λ (p : LetRow). p.1) (numbered_spots cols ts gens conds)) (kept ts gens conds [])
  spots_back gens conds =
      subst (λ (l : List Env). Reordered l (kept ts gens conds [])) (sym (ap (map (λ (p : LetRow). p.1)) (numbered_is gens conds) ∙ numbered_seconds 1 (in_order gens conds))) (reordered_sym (kept ts gens conds []) (in_order gens conds) (sort_reorders key_lt (K gens) (kept ts gens conds [])))

  -- what is known of a strand: its parent's spots and its own are told apart, and its own are those of its parent, each with every choice that it keeps
  pub record Sound (d : StrandTree) : Type 0 where
    pub outer : TellsApart (K d.outer_gens) (kept ts d.outer_gens d.outer_conds [])
    pub own : TellsApart (K (d.outer_gens ++ d.gens)) (kept ts (d.outer_gens ++ d.gens) (both d.outer_conds d.conds) [])
    pub nested : kept ts (d.outer_gens ++ d.gens) (both d.outer_conds d.conds) [] ≡ flat_map (λ e. kept ts d.gens d.conds e) (kept ts d.outer_gens d.outer_conds [])

  abbrev OuterNames : StrandTree → LetRow → Spot → Type 0
  OuterNames d q s = (s ≡ record { tag = d.parent; rows = q.1 }) × Among q (numbered_spots cols ts d.outer_gens d.outer_conds)

  abbrev PairNames : StrandTree → LetRow → Spot × Child → Type 0
  PairNames d x y = (y.1 ≡ record { of = d; rows = x.1 }) × (y.0.tag ≡ d.parent) × Among (x.0, y.0.rows) (numbered_spots cols ts d.outer_gens d.outer_conds)

  outer_named : (d : StrandTree) (l : List LetRow) → Reordered l (numbered_spots cols ts d.outer_gens d.outer_conds) → Matched (OuterNames d) l (outer_spots ts d)
  outer_named d l m =
      let all = numbered_spots cols ts d.outer_gens d.outer_conds in
      let es = kept ts d.outer_gens d.outer_conds [] in
      let rows : Reordered (map (λ (p : LetRow). p.1) l) es = reordered_trans (map (λ (p : LetRow). p.1) l) (map (λ (p : LetRow). p.1) all) es (reordered_map (λ (p : LetRow). p.1) l all m) (spots_back d.outer_gens d.outer_conds) in
      let known : Each (λ q. Among q all) l = each_map (λ q. Among q l) (λ q. Among q all) (λ q a. among_reordered q l all a m) l (each_among l) in
      matched_each (λ q. Among q all) (λ q s. s ≡ record { tag = d.parent; rows = q.1 }) (OuterNames d) (λ q s a e. (e, a)) l (outer_spots ts d) known
      (matched_map_right (λ (q : LetRow) e. q.1 ≡ e) (λ q s. s ≡ record { tag = d.parent; rows = q.1 }) (λ e. record { tag = d.parent; rows = e }) (λ q e i. ap (λ z. record { tag = d.parent; rows = z }) (sym i)) l es (matched_unmap (λ (q : LetRow). q.1) l es rows))

  one_named : (d : StrandTree) (q : LetRow) (s : Spot) → OuterNames d q s → Matched (PairNames d) (map (λ e. (q.0, e)) (kept ts d.gens d.conds q.1)) (map (λ c. (s, c)) (children_of ts s.rows d))
  one_named d q s h =
      subst (λ (z : Spot). Matched (PairNames d) (map (λ e. (q.0, e)) (kept ts d.gens d.conds q.1)) (map (λ c. (z, c)) (children_of ts z.rows d))) (sym h.0) (each (kept ts d.gens d.conds q.1))
    where
      each : (es : List Env) → Matched (PairNames d) (map (λ e. (q.0, e)) es) (map (λ c. (record { tag = d.parent; rows = q.1 }, c)) (map (λ e. record { of = d; rows = e }) es))
      each [] = refl
      each (e ∷ es) = ((record { tag = d.parent; rows = q.1 }, record { of = d; rows = e }), map (λ c. (record { tag = d.parent; rows = q.1 }, c)) (map (λ e. record { of = d; rows = e }) es), here, (refl, refl, h.1), each es)

  pairs_named : (d : StrandTree) (l : List LetRow) → Reordered l (numbered_spots cols ts d.outer_gens d.outer_conds) → Matched (PairNames d) (combos ts l d) (strand_rows ts d)
  pairs_named d l m =
      matched_flat_map (OuterNames d) (PairNames d) (λ q. map (λ e. (q.0, e)) (kept ts d.gens d.conds q.1)) (λ s. map (λ c. (s, c)) (children_of ts s.rows d)) (one_named d) l (outer_spots ts d) (outer_named d l m)

  -- the combinations of a part are the strand's own spots
  combos_kept : (d : StrandTree) → Sound d → (l : List LetRow) → Reordered l (numbered_spots cols ts d.outer_gens d.outer_conds) → Reordered (map (λ (p : LetRow). p.1) (combos ts l d)) (kept ts (d.outer_gens ++ d.gens) (both d.outer_conds d.conds) [])
  combos_kept d h l m =
      let es = kept ts d.outer_gens d.outer_conds [] in
      let rows : Reordered (map (λ (p : LetRow). p.1) l) es = reordered_trans (map (λ (p : LetRow). p.1) l) (map (λ (p : LetRow). p.1) (numbered_spots cols ts d.outer_gens d.outer_conds)) es (reordered_map (λ (p : LetRow). p.1) l (numbered_spots cols ts d.outer_gens d.outer_conds) m) (spots_back d.outer_gens d.outer_conds) in
      subst (λ (z : List Env). Reordered (map (λ (p : LetRow). p.1) (combos ts l d)) z) (sym h.nested) (subst (λ (z : List Env). Reordered z (flat_map (λ e. kept ts d.gens d.conds e) es)) (sym (combos_envs ts d l)) (matched_flat_map (λ x y. x ≡ y) (λ x y. x ≡ y) (λ e. kept ts d.gens d.conds e) (λ e. kept ts d.gens d.conds e) (λ x y e. subst (λ z. Reordered (kept ts d.gens d.conds x) (kept ts d.gens d.conds z)) e (reordered_refl (kept ts d.gens d.conds x))) (map (λ (p : LetRow). p.1) l) es rows))

  part_writes : (side : Side) (rows : List FlatRow) → Sound side.0 → Reordered side.1 (numbered_spots cols ts side.0.outer_gens side.0.outer_conds) → PartGives cols ts side rows → Matched (Writes cols ts) rows (strand_rows ts side.0)
  part_writes side rows h m g =
      let d = side.0 in
      let ps = combos ts side.1 d in
      let gens = d.outer_gens ++ d.gens in
      let conds = both d.outer_conds d.conds in
      let all = numbered_spots cols ts gens conds in
      let es : List Env = map (λ (p : LetRow). p.1) ps in
      let keys : map (λ (p : LetRow). K gens p.1) ps ≡ map (K gens) es = sym (map_of_map (K gens) (λ (p : LetRow). p.1) ps) in
      let name : (n : List ℕ) → Deals (map (λ (p : LetRow). K gens p.1) ps) n → Named all ps n = λ n q.
      let nums : Numbers key_lt (map (K gens) es) n = subst (λ (l : List (List Cell)). Numbers key_lt l n) keys q.numbers in
      let there_is : Reordered (zip n es) all = dealt gens conds h.own es (combos_kept d h side.1 m) n nums in
      named_from all ps n (nums.as_many ∙ length_map (K gens) es ∙ length_map (λ (p : LetRow). p.1) ps) (each_map (λ x. Among x (zip n es)) (λ x. Among x all) (λ x a. among_reordered x (zip n es) all a there_is) (zip n es) (each_among (zip n es)))
      in
      let named : Each (Named all ps) g.0 = each_map (λ n. Deals (map (λ (p : LetRow). K gens p.1) ps) n) (Named all ps) name g.0 g.2 in
      let tells : Matched (TellsOf all ts d) rows ps = subst (λ (l : List FlatRow). Matched (TellsOf all ts d) l ps) (sym g.3) (part_tells_of all ts d ps g.0 g.1 named) in
      matched_trans (TellsOf all ts d) (PairNames d) (Writes cols ts) (write d) rows ps (strand_rows ts d) tells (pairs_named d side.1 m)
    where
      write : (d : StrandTree) (r : FlatRow) (x : LetRow) (y : Spot × Child) → TellsOf (numbered_spots cols ts (d.outer_gens ++ d.gens) (both d.outer_conds d.conds)) ts d r x → PairNames d x y → Writes cols ts r y
      write d r x y t n =
          subst (λ (z : Child). Writes cols ts r (y.0, z)) (sym n.0) (record {
            outer_tag = ap (λ (o : ℕ × ℕ). o.0) t.outer ∙ sym n.1;
            outer_number = subst (λ (k : ℕ). Among (k, y.0.rows) (numbered_spots cols ts d.outer_gens d.outer_conds)) (sym (ap (λ (o : ℕ × ℕ). o.1) t.outer)) n.2;
            leaf_cells = t.leaf_cells;
            as_many = t.as_many;
            inners = t.inners;
          })

  pub parts_write : (sides : List Side) (rows : List FlatRow) → Each (λ (s : Side). Sound s.0 × Reordered s.1 (numbered_spots cols ts s.0.outer_gens s.0.outer_conds)) sides → PartsGive cols ts sides rows → WriteAll cols ts (map (λ s. s.0) sides) rows
  parts_write [] rows e g = subst (λ (l : List FlatRow). Matched (Writes cols ts) l []) (sym g) refl
  parts_write (s ∷ sides) rows e g =
      subst (λ (l : List FlatRow). Matched (Writes cols ts) l (shredded_rows ts (map (λ s. s.0) (s ∷ sides)))) (sym g.4) (matched_append (Writes cols ts) g.0 g.1 (strand_rows ts s.0) (shredded_rows ts (map (λ s. s.0) sides)) (part_writes s g.0 e.0.0 e.0.1 g.2) (parts_write sides g.1 e.1 g.3))
