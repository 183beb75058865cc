-- The laws of the forms, from well-formedness.
use Rattle.std.proofs.Common.{◌≡◌, ℕ, List, [], ◌∷◌, ◌++◌, map, refl, sym, ap, ◌∙◌, subst, false, flat_map, nat_eq, ◌≤◌, arith}
use Rattle.std.specs.List.{AllByRecursion as Each}
use Rattle.nq_model.proofs.Numberings.{each_map}
use Rattle.nq_model.specs.Databases.{database}
use Rattle.nq_model.specs.SchemaTables.{AreTablesOf}
use Rattle.nq_model.specs.Tables.{IsProperSchema}
use Rattle.nq_model.specs.Types.{TypeTree, bag}
use Rattle.nq_model.specs.Values.{Same, bag_of}
use Rattle.nq_model.specs.declared.table.Schema.{Schema}
use Rattle.nq_model.specs.declared.table.Cell.{Cell}
use Rattle.nq_ir.specs.Building.{built}
use Rattle.nq_ir.specs.Lets.{FlatRow, flat, AllGive}
use Rattle.nq_ir.specs.Meanings.{Tables, Env, rows_in, kept, EachBoth, form_meaning}
use Rattle.nq_ir.specs.Parts.{element_types}
use Rattle.nq_ir.specs.Paths.{paths}
use Rattle.nq_ir.specs.Spots.{StrandTree, Child, Spot, both, levels, strands, spots, top_spot, children_of, outer_spots, strand_rows, by_tag, strands_at, TagsDiffer}
use Rattle.nq_ir.specs.Trees.{FormTree}
use Rattle.nq_ir.specs.WellFormed.{IsNumber, IsWellFormed, comps_tags, comps_numbers, column_names}
use Rattle.nq_ir.proofs.Allowed.{Legibly, StrandFine, levels_ok, legibly, legible_same}
use Rattle.nq_ir.proofs.Distinct.{Distinct, distinct}
use Rattle.nq_ir.proofs.Equal.{nat_differ}
use Rattle.nq_ir.proofs.Fits.{FitsComps, typed_comps_fit}
use Rattle.nq_ir.proofs.Levels.{levels_tags}
use Rattle.nq_ir.proofs.Nested.{nested_kept, map_flat, flat_same, flat_of_map}
use Rattle.nq_ir.proofs.Paths.{strands_sorted}
use Rattle.nq_ir.proofs.Scopes.{look, all_scopes, all_tags}
use Rattle.nq_ir.proofs.Spots.{spots_mean}
use Rattle.nq_ir.proofs.Stored.{uniform, columns_differ}

not_top : (ns : List ℕ) → Each IsNumber ns → Each (λ n. nat_eq 0 n ≡ false) ns
not_top ns h = each_map IsNumber (λ n. nat_eq 0 n ≡ false) (λ n k. nat_differ 0 n (λ e. let u : 1 ≤ n = k.0 in absurd (omega arith))) ns h

module _ (schema : Schema) (form : FormTree) (w : IsWellFormed schema.tables form) where
  pub tags_apart : Distinct (0 ∷ comps_tags form.comps)
  tags_apart = (not_top (comps_tags form.comps) w.tags_fit, distinct (comps_tags form.comps) w.tags_differ)

  pub fits : FitsComps form.comps form.element
  fits = typed_comps_fit schema.tables [] form.comps form.element w.typed

  tags_differ : Each TagsDiffer (levels form.element form.comps)
  tags_differ = levels_tags form.element form.comps (distinct (comps_tags form.comps) w.tags_differ)

  pub spots_build : (ts : Tables) → bag_of (built (spots ts (strands form.element form.comps)) form.element 0 top_spot) ≡ form_meaning ts form
  spots_build ts = ap bag_of (spots_mean ts form.element form.comps fits tags_differ)

  pub strands_at_paths : map (strands_at form.element form.comps) (paths (bag form.element)) ≡ map by_tag (strands form.element form.comps)
  strands_at_paths = strands_sorted form.element form.comps w.labels_rise fits

  module _ (proper : IsProperSchema schema) where
    rows_are : (ts : Tables) (d : StrandTree) → kept ts (d.outer_gens ++ d.gens) (both d.outer_conds d.conds) [] ≡ flat_map (λ e. kept ts d.gens d.conds e) (kept ts d.outer_gens d.outer_conds []) → map (λ (r : Spot × Child). r.1.rows) (strand_rows ts d) ≡ kept ts (d.outer_gens ++ d.gens) (both d.outer_conds d.conds) []
    rows_are ts d h =
        map_flat (λ (r : Spot × Child). r.1.rows) (λ s. map (λ c. (s, c)) (children_of ts s.rows d)) (outer_spots ts d)
        ∙ flat_of_map (λ (s : Spot). map (λ (r : Spot × Child). r.1.rows) (map (λ c. (s, c)) (children_of ts s.rows d))) (λ e. record { tag = d.parent; rows = e }) (kept ts d.outer_gens d.outer_conds [])
        ∙ flat_same (λ e. map (λ (r : Spot × Child). r.1.rows) (map (λ c. (record { tag = d.parent; rows = e }, c)) (children_of ts e d))) (λ e. kept ts d.gens d.conds e) (λ e. own e (kept ts d.gens d.conds e)) (kept ts d.outer_gens d.outer_conds [])
        ∙ sym h
      where
        own : (e : Env) (es : List Env) → map (λ (r : Spot × Child). r.1.rows) (map (λ c. (record { tag = d.parent; rows = e }, c)) (map (λ e. record { of = d; rows = e }) es)) ≡ es
        own e [] = refl
        own e (f ∷ es) = ap (λ (l : List Env). f ∷ l) (own e es)

    each_level : (ts : Tables) (Bs : List TypeTree) (ls : List (List StrandTree)) → EachBoth (λ B here. Each (StrandFine (look (all_scopes form.comps)) (all_tags form.comps) B) here) Bs ls → Each (λ here. Each (λ d. map (λ (r : Spot × Child). r.1.rows) (strand_rows ts d) ≡ kept ts (d.outer_gens ++ d.gens) (both d.outer_conds d.conds) []) here) ls
    each_level ts [] ls h = subst (λ (z : List (List StrandTree)). Each (λ here. Each (λ d. map (λ (r : Spot × Child). r.1.rows) (strand_rows ts d) ≡ kept ts (d.outer_gens ++ d.gens) (both d.outer_conds d.conds) []) here) z) (sym h) tt
    each_level ts (B ∷ Bs) [] h = tt
    each_level ts (B ∷ Bs) (l ∷ ls) h =
        (each_map (StrandFine (look (all_scopes form.comps)) (all_tags form.comps) B) (λ d. map (λ (r : Spot × Child). r.1.rows) (strand_rows ts d) ≡ kept ts (d.outer_gens ++ d.gens) (both d.outer_conds d.conds) []) (λ d k. rows_are ts d (nested_kept ts d.outer_gens d.gens d.outer_conds d.conds k.avoids)) l h.0, each_level ts Bs ls h.1)

    pub children_kept : (ts : Tables) → Each (λ here. Each (λ d. map (λ (r : Spot × Child). r.1.rows) (strand_rows ts d) ≡ kept ts (d.outer_gens ++ d.gens) (both d.outer_conds d.conds) []) here) (strands form.element form.comps)
    children_kept ts =
        each_level ts (element_types (bag form.element)) (strands form.element form.comps) (levels_ok schema.tables (columns_differ schema proper) form.element form.comps w.typed tags_apart (distinct (comps_numbers form.comps) w.numbers_differ))

    module _ (tables : List (List (List Cell))) (h : AreTablesOf schema.tables tables) where
      pub read_by_number : (rows : List (List FlatRow)) → AllGive (column_names schema.tables) (rows_in (database schema.tables tables)) form rows → Legibly (rows_in (database schema.tables tables)) form.element form.comps rows
      read_by_number rows g =
          legibly schema.tables (columns_differ schema proper) form.element form.comps w.typed tags_apart (distinct (comps_numbers form.comps) w.numbers_differ) (rows_in (database schema.tables tables)) (uniform schema.tables tables h) w.labels_rise rows g

      pub lets_build : (rows : List (List FlatRow)) → AllGive (column_names schema.tables) (rows_in (database schema.tables tables)) form rows → Same (bag_of (built (flat rows) form.element 0 (0, 1))) (form_meaning (rows_in (database schema.tables tables)) form)
      lets_build rows g = legible_same (rows_in (database schema.tables tables)) rows form.element form.comps fits tags_differ (read_by_number rows g)
