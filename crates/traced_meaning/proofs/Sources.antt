-- The source of a `for`: its elements, and the rows that they put before those of the body's
-- elements.
use Rattle.std.proofs.Common.{◌≡◌, List, [], ◌++◌, map, refl, sym, ap, ap₂, ◌∙◌, subst, filter, length, append_assoc, length-append, arith}
use Rattle.std.proofs.lemmas.List.{map-append}
use Rattle.std.specs.List.{AllByRecursion as Each}
use Rattle.nq_model.specs.NamedRows.{Label, Row}
use Rattle.nq_model.specs.Values.{Nested}
use Rattle.nq_ir.proofs.Distinct.{each_join}
use Rattle.nq_ir.proofs.Nested.{map_of_map, each_mapped}
use Rattle.nq_ir.proofs.RawMeanings.{picks, raw_true, raw_kept, raw_meaning, raw_comps_meaning, map_each, Run, runs}
use Rattle.nq_ir.proofs.RawTypes.{under, RawBodyHas, RawCompsHave}
use Rattle.nq_ir.proofs.Spots.{each_filter}
use Rattle.nq_ir.specs.Meanings.{Tables}
use Rattle.nq_ir.specs.RawForms.{RawConds, RawBody, RawComps, no_raw_comp, raw_comp}
use Rattle.nq_model.specs.Types.{TypeTree}
use Rattle.nq_model.specs.declared.table.TableShape.{TableShape}
use Rattle.traced_meaning.proofs.RowNames.{IsNumbered, AreNumbered, Picked, picked, row_names, names_back, names_join, element_means}
use Rattle.traced_meaning.proofs.Wrapped.{element_body, wrapped, wrapped_comps}
use Rattle.traced_meaning.specs.TracedValues.{RowName, element_of, rows_value, with_rows}

-- the element that a comprehension gives at one choice of rows
abbrev pub run_element : Tables → List Row → Run → Nested
run_element ts env x = element_of (raw_meaning ts (wrapped x.1) (x.2 ++ env))
    (rows_value (row_names x.0 (x.2 ++ env)))

module _ (ts : Tables) (all : AreNumbered ts) where
  kept_picked : (gs : List Label) (bs : RawConds) (env : List Row)
      → Each (Picked gs) (filter (λ rs. raw_true ts bs (rs ++ env)) (picks ts gs))
  kept_picked gs bs env = each_filter (Picked gs) (λ rs. raw_true ts bs (rs ++ env)) (picks ts gs)
      (picked ts all gs)

  -- an element with the rows of generators around, and with its own alone
  one_under : (gs hs : List Label) (b : RawBody) (rs env qs : List Row) → length rs ≡ length gs
      → Each IsNumbered rs → Picked hs qs → raw_meaning ts (element_body (wrapped b) (gs ++ hs))
      (qs ++ (rs ++ env)) ≡ with_rows (row_names gs (rs ++ env))
      (raw_meaning ts (element_body (wrapped b) hs) (qs ++ (rs ++ env)))
  one_under gs hs b rs env qs h n p =
      let here = qs ++ (rs ++ env) in
      let v = raw_meaning ts (wrapped b) here in
      let outer = row_names gs (rs ++ env) in
      let long : length (gs ++ hs) ≡ length (qs ++ rs) = omega
      (arith, length-append gs hs, length-append qs rs, h, p.0) in
      let both : raw_meaning ts (element_body (wrapped b) (gs ++ hs)) here
      ≡ element_of v (rows_value (row_names (gs ++ hs) here))
      = subst (λ (l : List Row). raw_meaning ts (element_body (wrapped b) (gs ++ hs)) l
      ≡ element_of (raw_meaning ts (wrapped b) l) (rows_value (row_names (gs ++ hs) l)))
      (append_assoc qs rs env) (element_means ts (wrapped b) (gs ++ hs) (qs ++ rs) env
      (each_join IsNumbered qs rs p.1 n) (omega arith)) in
      let own : raw_meaning ts (element_body (wrapped b) hs) here
      ≡ element_of v (rows_value (row_names hs here))
      = element_means ts (wrapped b) hs qs (rs ++ env) p.1 (omega (arith, p.0)) in
      both ∙ ap (λ (l : List RowName). element_of v (rows_value l))
      (names_join gs hs qs (rs ++ env) p.0) ∙ sym (ap (with_rows outer) own
      ∙ ap (λ (l : List RowName). element_of v (rows_value (outer ++ l)))
      (names_back (row_names hs here)))

  pub under_rows : (gs : List Label) (ds : RawComps) (rs env : List Row) → length rs ≡ length gs
      → Each IsNumbered rs → raw_comps_meaning ts (wrapped_comps gs ds) (rs ++ env)
      ≡ map (with_rows (row_names gs (rs ++ env))) (raw_comps_meaning ts (wrapped_comps [] ds)
      (rs ++ env))
  under_rows gs no_raw_comp rs env h n = refl
  under_rows gs (raw_comp hs bs b ds) rs env h n =
      let around = rs ++ env in
      let f = filter (λ qs. raw_true ts bs (qs ++ around)) (picks ts hs) in
      let outer = row_names gs around in
      let whole : List Row → Nested = λ e. raw_meaning ts (element_body (wrapped b) (gs ++ hs)) e in
      let own : List Row → Nested = λ e. raw_meaning ts (element_body (wrapped b) hs) e in
      let here : map whole (raw_kept ts hs bs around) ≡ map (with_rows outer)
      (map own (raw_kept ts hs bs around)) = map_of_map whole (λ qs. qs ++ around) f
      ∙ map_each (Picked hs) (λ qs. whole (qs ++ around))
      (λ qs. with_rows outer (own (qs ++ around)))
      (λ qs p. one_under gs hs b rs env qs h n p) f (kept_picked hs bs around)
      ∙ sym (ap (map (with_rows outer)) (map_of_map own (λ qs. qs ++ around) f)
      ∙ map_of_map (with_rows outer) (λ qs. own (qs ++ around)) f) in
      ap₂ (λ (x y : List Nested). x ++ y) here (under_rows gs ds rs env h n)
      ∙ sym (map-append (with_rows outer) (map own (raw_kept ts hs bs around))
      (raw_comps_meaning ts (wrapped_comps [] ds) around))

  pub runs_elements : (cs : RawComps) (env : List Row) → raw_comps_meaning ts
      (wrapped_comps [] cs) env ≡ map (run_element ts env) (runs ts cs env)
  unfolding runs
  runs_elements no_raw_comp env = refl
  runs_elements (raw_comp gs bs b cs) env =
      let f = filter (λ rs. raw_true ts bs (rs ++ env)) (picks ts gs) in
      let own : List Row → Nested = λ e. raw_meaning ts (element_body (wrapped b) gs) e in
      ap₂ (λ (x y : List Nested). x ++ y) (map_of_map own (λ rs. rs ++ env) f
      ∙ map_each (Picked gs) (λ rs. own (rs ++ env)) (λ rs. run_element ts env (gs, b, rs))
      (λ rs p. element_means ts (wrapped b) gs rs env p.1 (omega (arith, p.0))) f
      (kept_picked gs bs env) ∙ sym (map_of_map (run_element ts env) (λ rs. (gs, b, rs)) f))
      (runs_elements cs env)
      ∙ sym (map-append (run_element ts env) (map (λ rs. (gs, b, rs)) f) (runs ts cs env))

  -- what is known of each: its rows, and the type of its body
  pub runs_known : (S : List TableShape) (sc : List Label) (cs : RawComps) (B : TypeTree)
      (env : List Row) → RawCompsHave S sc cs B → Each (λ (x : Run). Picked x.0 x.2
      × RawBodyHas S (under x.0 sc) x.1 B) (runs ts cs env)
  unfolding runs
  runs_known S sc no_raw_comp B env h = tt
  runs_known S sc (raw_comp gs bs b cs) B env h =
      let f = filter (λ rs. raw_true ts bs (rs ++ env)) (picks ts gs) in
      each_join (λ (x : Run). Picked x.0 x.2 × RawBodyHas S (under x.0 sc) x.1 B)
      (map (λ rs. (gs, b, rs)) f) (runs ts cs env) (each_mapped (λ rs. (gs, b, rs)) (Picked gs)
      (λ (x : Run). Picked x.0 x.2 × RawBodyHas S (under x.0 sc) x.1 B) (λ rs p. (p, h.2)) f
      (kept_picked gs bs env)) (runs_known S sc cs B env h.3)
