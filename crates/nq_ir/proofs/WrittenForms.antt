-- The pairs and the rows of the forms at the paths of a well-formed form.
use Rattle.std.proofs.Common.{◌≡◌, ℕ, zero, suc, ◌≤◌, List, [], ◌∷◌, ◌++◌, map, refl, sym, ◌∙◌, subst, get_or, length, arith}
use Rattle.std.specs.List.{AllByRecursion as Each}
use Rattle.nq_model.proofs.Bags.{reordered_matched, reordered_refl}
use Rattle.nq_model.proofs.Numberings.{each_reordered}
use Rattle.nq_model.specs.Bags.{Reordered}
use Rattle.nq_model.specs.Databases.{database}
use Rattle.nq_model.specs.NamedRows.{Label}
use Rattle.nq_model.specs.Numberings.{TellsApart}
use Rattle.nq_model.specs.SchemaTables.{AreTablesOf}
use Rattle.nq_model.specs.Tables.{IsProperSchema}
use Rattle.nq_model.specs.declared.table.Schema.{Schema}
use Rattle.nq_model.specs.declared.table.Cell.{Cell}
use Rattle.nq_ir.specs.Lets.{FlatRow, FormGives, LetGives, LetRow, LetTree, PartTree, Side, insert_lets, let_of, let_rows, no_let, strand_of}
use Rattle.nq_ir.specs.Meanings.{EachBoth, Tables, kept, rows_in}
use Rattle.nq_ir.specs.Shredded.{IsShreddedOf, ShreddedTree, shredded}
use Rattle.nq_ir.specs.Spots.{PlacedComp, StrandTree, both, shaped}
use Rattle.nq_ir.specs.WellFormed.{column_names, numbers}
use Rattle.nq_ir.specs.Written.{PairsAreChildren, WriteAll, Writes, numbered_spots}
use Rattle.nq_ir.proofs.Allowed.{both_at, each_two, each_unmapped}
use Rattle.nq_ir.proofs.Distinct.{Distinct, distinct_sub, sub_left}
use Rattle.nq_ir.proofs.Insert.{lets_known}
use Rattle.nq_ir.proofs.Inserted.{around_at, good_at, again_at}
use Rattle.nq_ir.proofs.Nested.{each_mapped, map_of_map, nested_kept}
use Rattle.nq_ir.proofs.Pairs.{pairs}
use Rattle.nq_ir.proofs.Paths.{LabelsDiffer}
use Rattle.nq_ir.proofs.Rows.{Uniform, kept_rows}
use Rattle.nq_ir.proofs.Scopes.{StrandGood, all_scopes, all_tags, look, numbers_append}
use Rattle.nq_ir.proofs.Stored.{columns_differ, uniform}
use Rattle.nq_ir.proofs.TellsApart.{cells_tell_apart}
use Rattle.nq_ir.proofs.Written.{K, Sound, let_numbered, parts_write}

-- the pairs of a shredded form
pub pairs_of : (schema : Schema) (s : ShreddedTree) → IsShreddedOf schema s → (ts : Tables) → PairsAreChildren ts s.parts
pairs_of schema s h ts =
    subst (λ (z : ShreddedTree). PairsAreChildren ts z.parts) (sym h.is) (pairs ts (look (all_scopes h.form.comps)) refl (shredded h.form s.path).parts (around_at schema h.form h.well_formed s.path h.at_path))

module _ (cols : Label → List Label) (differ : (t : Label) → LabelsDiffer (cols t)) (ts : Tables) (same : Uniform cols ts) where
  sound : (info : ℕ → _) (tags : List ℕ) (c : PlacedComp) → StrandGood info tags c → Sound cols ts (shaped c)
  sound info tags c g = record {
    outer = cells_tell_apart cols differ c.outer_gens (kept ts c.outer_gens c.outer_conds []) (distinct_sub (sub_left (numbers c.outer_gens) (numbers c.gens)) (subst Distinct (numbers_append c.outer_gens c.gens) g.differ)) (kept_rows cols ts same c.outer_gens c.outer_conds);
    own = cells_tell_apart cols differ (c.outer_gens ++ c.gens) (kept ts (c.outer_gens ++ c.gens) (both c.outer_conds c.conds) []) g.differ (kept_rows cols ts same (c.outer_gens ++ c.gens) (both c.outer_conds c.conds));
    nested = nested_kept ts c.outer_gens c.gens c.outer_conds c.conds g.avoids;
  }

  -- the list of a let's rows has each spot with its number
  let_is : (lets : List LetTree) (lists : List (List LetRow)) → EachBoth (LetGives cols ts) lets lists → (k : ℕ) → k ≤ length lets → TellsApart (K cols ts (let_of lets k).gens) (kept ts (let_of lets k).gens (let_of lets k).conds []) → Reordered (let_rows lists k) (numbered_spots cols ts (let_of lets k).gens (let_of lets k).conds)
  let_is lets lists g zero l a = reordered_refl {A = LetRow} ((1, []) ∷ [])
  let_is lets lists g (suc k) l a =
      let given = both_at (LetGives cols ts) no_let [] lets lists g k (omega (arith, l)) in
      let_numbered cols ts (get_or lets k no_let).gens (get_or lets k no_let).conds a (get_or lists k []) given.0 given.1.numbers given.2

  rows_write : (s : ShreddedTree) → Each (Sound cols ts) s.parts → map (strand_of (insert_lets s).lets) (insert_lets s).parts ≡ s.parts → (rows : List FlatRow) → FormGives cols ts (insert_lets s) rows → WriteAll cols ts s.parts rows
  rows_write s ok again rows g =
      let f = insert_lets s in
      let side : PartTree → Side = λ p. (strand_of f.lets p, let_rows g.lists p.from) in
      let back : Each (Sound cols ts) (map (strand_of f.lets) f.parts) = subst (λ (l : List StrandTree). Each (Sound cols ts) l) (sym again) ok in
      let parts : Each (λ p. Sound cols ts (strand_of f.lets p)) f.parts = each_unmapped (strand_of f.lets) (Sound cols ts) f.parts back in
      let two : Each (λ p. (p.from ≤ length f.lets) × Sound cols ts (strand_of f.lets p)) f.parts = each_two (λ p. p.from ≤ length f.lets) (λ p. Sound cols ts (strand_of f.lets p)) f.parts (lets_known s.parts) parts in
      let named = each_mapped side (λ p. (p.from ≤ length f.lets) × Sound cols ts (strand_of f.lets p)) (λ (d : Side). Sound cols ts d.0 × Reordered d.1 (numbered_spots cols ts d.0.outer_gens d.0.outer_conds)) (λ p k. (k.1, let_is f.lets g.lists g.numbered_once p.from k.0 k.1.outer)) f.parts two in
      let all_rows : WriteAll cols ts (map (λ (d : Side). d.0) (map side f.parts)) g.all = parts_write cols ts (map side f.parts) g.all named g.parts in
      reordered_matched (Writes cols ts) rows g.all _ g.any_order (subst (λ (l : List StrandTree). WriteAll cols ts l g.all) (map_of_map (λ (d : Side). d.0) side f.parts ∙ again) all_rows)

-- what the let form of a shredded form allows
pub writes_of : (schema : Schema) (s : ShreddedTree) (tables : List (List (List Cell))) → IsProperSchema schema → IsShreddedOf schema s → AreTablesOf schema.tables tables → (rows : List FlatRow) → FormGives (column_names schema.tables) (rows_in (database schema.tables tables)) (insert_lets s) rows → WriteAll (column_names schema.tables) (rows_in (database schema.tables tables)) s.parts rows
writes_of schema s tables proper h fit rows g =
    let cols = column_names schema.tables in
    let ts = rows_in (database schema.tables tables) in
    let info = look (all_scopes h.form.comps) in
    let tags = all_tags h.form.comps in
    let known = good_at schema h.form h.well_formed s.path h.at_path in
    let ok : Each (Sound cols ts) (shredded h.form s.path).parts = each_reordered (Sound cols ts) (map shaped known.0) (shredded h.form s.path).parts known.1 (each_mapped shaped (StrandGood info tags) (Sound cols ts) (sound cols (columns_differ schema proper) ts (uniform schema.tables tables fit) info tags) known.0 known.2) in
    let own : Each (Sound cols ts) s.parts = subst (λ (z : ShreddedTree). Each (Sound cols ts) z.parts) (sym h.is) ok in
    let again : map (strand_of (insert_lets s).lets) (insert_lets s).parts ≡ s.parts = subst (λ (z : ShreddedTree). map (strand_of (insert_lets z).lets) (insert_lets z).parts ≡ z.parts) (sym h.is) (again_at schema h.form h.well_formed s.path h.at_path) in
    rows_write cols (columns_differ schema proper) ts (uniform schema.tables tables fit) s own again rows g
