-- Let forms number the spots of a tag from 1 on, each number once, where the spots are given and where rows stand under them.
use Rattle.std.proofs.Common.{◌≡◌, ℕ, zero, suc, ◌+◌, ◌<◌, ◌≤◌, List, [], ◌∷◌, ◌++◌, map, refl, sym, ap, ap₂, ◌∙◌, subst, length, arith, flat_map, get_or, zip, append-nil}
use Rattle.std.proofs.lemmas.List.{map-append}
use Rattle.std.specs.List.{AllByRecursion as Each}
use Rattle.std.specs.Ordering.{nat_cmp}
use Rattle.nq_model.proofs.Bags.{matched_flat_map, matched_length, reordered_append, reordered_refl, reordered_sym, reordered_trans}
use Rattle.nq_model.proofs.Canonical.{reordered_sorted}
use Rattle.nq_model.proofs.Numberings.{each_map, each_reordered, length_map, reordered_map}
use Rattle.nq_model.specs.Bags.{Reordered}
use Rattle.nq_model.specs.NamedRows.{Label}
use Rattle.nq_model.specs.Numberings.{Numbers, count_from}
use Rattle.nq_model.specs.Types.{TypeTree}
use Rattle.nq_ir.specs.declared.path.Step.{Step}
use Rattle.nq_ir.specs.Lets.{LetTree, PartTree, LetRow, Side, FlatRow, Deals, PartGives, PartsGive, LetGives, FormGives, insert_lets, lets_of, no_let, let_of, let_rows, parts_on, strand_of, key_of, combos, part_rows, head_of, tail_of}
use Rattle.nq_ir.specs.Meanings.{Tables, Env, kept, EachBoth}
use Rattle.nq_ir.specs.Parts.{slots}
use Rattle.nq_ir.specs.Spots.{StrandTree, by_tag}
use Rattle.nq_ir.specs.Trees.{Conds, no_cond}
use Rattle.nq_ir.specs.declared.base.Gen.{Gen}
use Rattle.nq_ir.proofs.Allowed.{StrandFine, each_two, each_mapped, each_unmapped, both_at}
use Rattle.nq_ir.proofs.Distinct.{Among, first, later, each_join}
use Rattle.nq_ir.proofs.Insert.{Around, strands_again, lets_known}
use Rattle.nq_ir.proofs.Legible.{combos_envs}
use Rattle.nq_ir.proofs.Nested.{map_of_map, nested_kept}
use Rattle.nq_ir.proofs.Scopes.{Scoping}

-- the index that a row gives for the inner bag s
abbrev pub inner_at : ℕ → FlatRow → ℕ × ℕ
inner_at s r = get_or r.inners s (0, 0)

-- one of the numbers from 1 to n
abbrev pub IsOneOf : ℕ → ℕ → Type 0
IsOneOf n k = (j : ℕ) × (j < n) × (k ≡ suc j)

count_each : (P : ℕ → Type 0) (a n : ℕ) → ((j : ℕ) → j < n → P (a + j)) → Each P (count_from a n)
count_each P a zero h = tt
count_each P a (suc n) h =
    let here : a + 0 ≡ a = omega arith in (
      subst P here (h 0 (omega arith)),
      count_each P (suc a) n (λ j b. let e : a + suc j ≡ suc a + j = omega arith in subst P e (h (suc j) (omega (arith, b)))),
    )

one_each : (n : ℕ) → Each (IsOneOf n) (count_from 1 n)
one_each n = count_each (IsOneOf n) 1 n (λ j b. (j, b, omega arith))

-- elements with numbers of which P holds, and the elements alone
zip_each : {A B : Type 0} (P : A → Type 0) (ns : List A) (xs : List B) → Each P ns → Each (λ p. P p.0) (zip ns xs)
zip_each P [] xs e = tt
zip_each P (n ∷ ns) [] e = tt
zip_each P (n ∷ ns) (x ∷ xs) e = (e.0, zip_each P ns xs e.1)

zip_right : {A B : Type 0} (ns : List A) (xs : List B) → length ns ≡ length xs → map (λ p. p.1) (zip ns xs) ≡ xs
zip_right [] [] e = refl
zip_right [] (x ∷ xs) e = absurd (omega (arith, e))
zip_right (n ∷ ns) [] e = absurd (omega (arith, e))
zip_right (n ∷ ns) (x ∷ xs) e = ap (λ (l : List _). x ∷ l) (zip_right ns xs (omega (arith, e)))

map_numbered : (n : ℕ) (es : List Env) → Each (λ (p : LetRow). p.0 ≡ n) (map (λ e. (n, e)) es)
map_numbered n [] = tt
map_numbered n (e ∷ es) = (refl, map_numbered n es)

-- the combinations have the numbers of their let's rows
combos_each : (ts : Tables) (c : StrandTree) (P : ℕ → Type 0) (lets : List LetRow) → Each (λ (p : LetRow). P p.0) lets → Each (λ (p : LetRow). P p.0) (combos ts lets c)
combos_each ts c P [] e = tt
combos_each ts c P (p ∷ lets) e =
    each_join (λ (z : LetRow). P z.0) (map (λ e. (p.0, e)) (kept ts c.gens c.conds p.1)) (combos ts lets c)
    (each_map (λ (z : LetRow). z.0 ≡ p.0) (λ z. P z.0) (λ z h. subst P (sym h) e.0) (map (λ e. (p.0, e)) (kept ts c.gens c.conds p.1)) (map_numbered p.0 (kept ts c.gens c.conds p.1)))
    (combos_each ts c P lets e.1)

-- the outer indexes of the rows of a part
part_outers : (ts : Tables) (c : StrandTree) (P : ℕ × ℕ → Type 0) (ps : List LetRow) (ms : List (List ℕ)) → Each (λ (p : LetRow). P (c.parent, p.0)) ps → Each (λ r. P r.outer) (part_rows ts c ps ms)
part_outers ts c P [] ms e = tt
part_outers ts c P (p ∷ ps) ms e = (e.0, part_outers ts c P ps (map tail_of ms) e.1)

got_mapped : {A B : Type 0} (f : A → B) (xs : List A) (s : ℕ) (d : B) (z : A) → s < length xs → get_or (map f xs) s d ≡ f (get_or xs s z)
got_mapped f [] s d z h = absurd (omega (arith, h))
got_mapped f (x ∷ xs) zero d z h = refl
got_mapped f (x ∷ xs) (suc s) d z h = got_mapped f xs s d z (omega (arith, h))

long_tails : (n : ℕ) (ms : List (List ℕ)) → Each (λ m. length m ≡ suc n) ms → Each (λ m. length m ≡ n) (map tail_of ms)
long_tails n ms e = each_mapped tail_of (λ m. length m ≡ suc n) (λ m. length m ≡ n) (λ m h. tail_long m h) ms e
  where
    tail_long : (m : List ℕ) → length m ≡ suc n → length (tail_of m) ≡ n
    tail_long [] h = absurd (omega (arith, h))
    tail_long (x ∷ m) h = omega (arith, h)

each_got : {A : Type 0} (P : A → Type 0) (xs : List A) (s : ℕ) (d : A) → s < length xs → Each P xs → P (get_or xs s d)
each_got P [] s d h e = absurd (omega (arith, h))
each_got P (x ∷ xs) zero d h e = e.0
each_got P (x ∷ xs) (suc s) d h e = each_got P xs s d (omega (arith, h)) e.1

-- the indexes that they give for an inner bag
part_inners : (ts : Tables) (c : StrandTree) (s : ℕ) (ps : List LetRow) (ms : List (List ℕ)) → s < length ms → Each (λ m. length m ≡ length ps) ms → map (inner_at s) (part_rows ts c ps ms) ≡ map (λ n. (c.tag, n)) (get_or ms s [])
part_inners ts c s [] ms h e = none (get_or ms s []) (each_got (λ m. length m ≡ 0) ms s [] h e)
  where
    none : (m : List ℕ) → length m ≡ 0 → ◌≡◌ {A = List (ℕ × ℕ)} [] (map (λ n. (c.tag, n)) m)
    none [] e = refl
    none (x ∷ m) e = absurd (omega (arith, e))
part_inners ts c s (p ∷ ps) ms h e =
    let own : List ℕ = get_or ms s [] in
    let head : ◌≡◌ {A = ℕ × ℕ} (get_or (map (λ n. (c.tag, head_of n)) ms) s (0, 0)) (c.tag, head_of own) = got_mapped (λ (n : List ℕ). (c.tag, head_of n)) ms s (0, 0) [] h in
    let tail : get_or (map tail_of ms) s [] ≡ tail_of own = got_mapped tail_of ms s [] [] h in
    ap₂ (λ (x : ℕ × ℕ) (l : List (ℕ × ℕ)). x ∷ l) head (part_inners ts c s ps (map tail_of ms) (omega (arith, h, length_map tail_of ms)) (long_tails (length ps) ms e) ∙ ap (map (λ n. (c.tag, n))) tail)
    ∙ whole own (each_got (λ m. length m ≡ suc (length ps)) ms s [] h e)
  where
    whole : (m : List ℕ) → length m ≡ suc (length ps) → ◌≡◌ {A = List (ℕ × ℕ)} ((c.tag, head_of m) ∷ map (λ n. (c.tag, n)) (tail_of m)) (map (λ n. (c.tag, n)) m)
    whole [] e = absurd (omega (arith, e))
    whole (x ∷ m) e = refl

module _ (cols : Label → List Label) (ts : Tables) (info : ℕ → Scoping) (top : info 0 ≡ ([], no_cond)) (tags : List ℕ) where
  -- the spots of a tag, and how many there are
  abbrev pub around : ℕ → List Env
  around t = kept ts (info t).0 (info t).1 []

  abbrev pub count : ℕ → ℕ
  count t = length (around t)

  -- the indexes of the spots of strands
  abbrev pub indexes : List StrandTree → List (ℕ × ℕ)
  indexes cs = flat_map (λ c. map (λ n. (c.tag, n)) (count_from 1 (count c.tag))) cs

  -- the index of a spot of the parent of one of these strands
  abbrev pub IsAround : List StrandTree → ℕ × ℕ → Type 0
  IsAround cs i = (c : StrandTree) × Among c cs × (j : ℕ) × (j < count c.parent) × (i ≡ (c.parent, suc j))

  -- Rows at a path with these strands: they stand under spots of parents, and for each of the w inner bags they give each spot's index once.
  pub record Spread (w : ℕ) (cs : List StrandTree) (rows : List FlatRow) : Type 0 where
    pub outers : Each (λ r. IsAround cs r.outer) rows
    pub inners : (s : ℕ) → s < w → Reordered (map (inner_at s) rows) (indexes cs)

  -- the rows of the let of a tag: its spots, numbered
  record LetHas (t : ℕ) (rows : List LetRow) : Type 0 where
    numbered : Each (λ (p : LetRow). IsOneOf (count t) p.0) rows
    envs : Reordered (map (λ p. p.1) rows) (around t)

  abbrev Fine : TypeTree → StrandTree → Type 0
  Fine B c = StrandFine info tags B c

  top_has : LetHas 0 ((1, []) ∷ [])
  top_has =
      let P : Scoping → Type 0 = λ z. LetHasOf (kept ts z.0 z.1 []) in
      let r : LetHasOf (kept ts (info 0).0 (info 0).1 []) = subst P (sym top) (((0, omega arith, refl), tt), reordered_refl {A = Env} ([] ∷ [])) in
      record { numbered = r.0; envs = r.1 }
    where
      LetHasOf : List Env → Type 0
      LetHasOf es = Each (λ (p : LetRow). IsOneOf (length es) p.0) ((1, []) ∷ []) × Reordered (map (λ (p : LetRow). p.1) ((1, []) ∷ [])) es

  let_has : (gens : List Gen) (conds : Conds) (t : ℕ) (rows : List LetRow) → (info t).0 ≡ gens → (info t).1 ≡ conds → LetGives cols ts (record { parent = t; gens = gens; conds = conds }) rows → LetHas t rows
  let_has gens conds t rows g b h =
      let es : List Env = kept ts gens conds [] in
      let same : around t ≡ es = ap₂ (λ (x : List Gen) (y : Conds). kept ts x y []) g b in
      let ns : List ℕ = h.0 in
      let n : Numbers _ (map (key_of cols gens) es) ns = h.1.numbers in
      let keys : length (map (key_of cols gens) es) ≡ length es = length_map (key_of cols gens) es in
      let ones : Each (IsOneOf (length es)) ns = each_reordered (IsOneOf (length es)) (count_from 1 (length es)) ns (reordered_sym ns (count_from 1 (length es)) (subst (λ m. Reordered ns (count_from 1 m)) keys n.each_once)) (one_each (length es)) in
      let numbered : Each (λ (p : LetRow). IsOneOf (length es) p.0) rows = each_reordered (λ (p : LetRow). IsOneOf (length es) p.0) (zip ns es) rows h.2 (zip_each (IsOneOf (length es)) ns es ones) in
      let right : map (λ (p : LetRow). p.1) (zip ns es) ≡ es = zip_right ns es (n.as_many ∙ keys) in
      let envs : Reordered (map (λ (p : LetRow). p.1) rows) es = subst (λ (l : List Env). Reordered (map (λ (p : LetRow). p.1) rows) l) right (reordered_map (λ (p : LetRow). p.1) rows (zip ns es) (reordered_sym (zip ns es) rows h.2)) in
      record {
        numbered = subst (λ (l : List Env). Each (λ (p : LetRow). IsOneOf (length l) p.0) rows) (sym same) numbered;
        envs = subst (λ (l : List Env). Reordered (map (λ (p : LetRow). p.1) rows) l) (sym same) envs;
      }

  -- the rows of the let on which a part stands
  rows_of_let : (lets : List LetTree) (lists : List (List LetRow)) → EachBoth (LetGives cols ts) lets lists → (p : PartTree) (from : ℕ) → p.from ≡ from → from ≤ length lets → Around info (strand_of lets p) → LetHas (strand_of lets p).parent (let_rows lists from)
  rows_of_let lets lists g p zero e b a = subst (λ t. LetHas t ((1, []) ∷ [])) (sym (ap (λ k. (let_of lets k).parent) e)) top_has
  rows_of_let lets lists g p (suc k) e b a =
      let l : LetTree = let_of lets p.from in
      let is : l ≡ get_or lets k no_let = ap (let_of lets) e in
      let given : LetGives cols ts l (get_or lists k []) = subst (λ z. LetGives cols ts z (get_or lists k [])) (sym is) (both_at (LetGives cols ts) no_let [] lets lists g k (omega (arith, b))) in
      let_has l.gens l.conds l.parent (get_or lists k []) a.0 a.1 given

  -- the kept choices of a strand are the spots of its tag
  combos_around : (B : TypeTree) (c : StrandTree) (lets : List LetRow) → Fine B c → LetHas c.parent lets → length (combos ts lets c) ≡ count c.tag
  combos_around B c lets f h =
      let choices : Env → List Env = λ e. kept ts c.gens c.conds e in
      let own : flat_map choices (around c.parent) ≡ around c.tag =
      ap₂ (λ (g : List Gen) (b : Conds). flat_map choices (kept ts g b [])) f.around.0 f.around.1
      ∙ sym (nested_kept ts c.outer_gens c.gens c.outer_conds c.conds f.avoids)
      ∙ ap₂ (λ (g : List Gen) (b : Conds). kept ts g b []) (sym f.own_gens) (sym f.own_conds) in
      let mixed : Reordered (flat_map choices (map (λ (p : LetRow). p.1) lets)) (flat_map choices (around c.parent)) = matched_flat_map (λ x y. x ≡ y) (λ x y. x ≡ y) choices choices (λ x y e. subst (λ z. Reordered (choices x) (choices z)) e (reordered_refl (choices x))) (map (λ (p : LetRow). p.1) lets) (around c.parent) h.envs in
      sym (length_map (λ (p : LetRow). p.1) (combos ts lets c))
      ∙ ap length (combos_envs ts c lets)
      ∙ matched_length (λ x y. x ≡ y) (flat_map choices (map (λ (p : LetRow). p.1) lets)) (flat_map choices (around c.parent)) mixed
      ∙ ap length own

  -- the rows of one part
  part_spread : (B : TypeTree) (d : Side) (rows : List FlatRow) → Fine B d.0 → LetHas d.0.parent d.1 → PartGives cols ts d rows → Spread (slots B) (d.0 ∷ []) rows
  part_spread B d rows f h g =
      let c : StrandTree = d.0 in
      let ps : List LetRow = combos ts d.1 c in
      let long : length ps ≡ count c.tag = combos_around B c d.1 f h in
      let keys : length (map (λ (p : LetRow). key_of cols (c.outer_gens ++ c.gens) p.1) ps) ≡ length ps = length_map (λ (p : LetRow). key_of cols (c.outer_gens ++ c.gens) p.1) ps in
      let counted : Each (λ m. length m ≡ length ps) g.0 = each_map (λ m. Deals (map (λ (p : LetRow). key_of cols (c.outer_gens ++ c.gens) p.1) ps) m) (λ m. length m ≡ length ps) (λ m k. k.numbers.as_many ∙ keys) g.0 g.2 in
      let once : Each (λ m. Reordered m (count_from 1 (count c.tag))) g.0 = each_map (λ m. Deals (map (λ (p : LetRow). key_of cols (c.outer_gens ++ c.gens) p.1) ps) m) (λ m. Reordered m (count_from 1 (count c.tag))) (λ m k. subst (λ n. Reordered m (count_from 1 n)) (keys ∙ long) k.numbers.each_once) g.0 g.2 in
      let under : Each (λ (p : LetRow). IsAround (c ∷ []) (c.parent, p.0)) ps = combos_each ts c (λ n. IsAround (c ∷ []) (c.parent, n)) d.1 (each_map (λ (p : LetRow). IsOneOf (count c.parent) p.0) (λ (p : LetRow). IsAround (c ∷ []) (c.parent, p.0)) (λ p k. (c, first, k.0, k.1, ap (λ n. (c.parent, n)) k.2)) d.1 h.numbered) in
      subst (λ (l : List FlatRow). Spread (slots B) (c ∷ []) l) (sym g.3) (record {
        outers = part_outers ts c (IsAround (c ∷ [])) ps g.0 under;
        inners = λ s b.
            let there : s < length g.0 = omega (arith, b, g.1, f.bags_are) in
            subst (λ (l : List (ℕ × ℕ)). Reordered l (indexes (c ∷ []))) (sym (part_inners ts c s ps g.0 there counted))
            (subst (λ (l : List (ℕ × ℕ)). Reordered (map (λ n. (c.tag, n)) (get_or g.0 s [])) l) (sym (append-nil (map (λ n. (c.tag, n)) (count_from 1 (count c.tag)))))
            (reordered_map (λ n. (c.tag, n)) (get_or g.0 s []) (count_from 1 (count c.tag)) (each_got (λ m. Reordered m (count_from 1 (count c.tag))) g.0 s [] there once)));
      })

  around_later : (c : StrandTree) (cs : List StrandTree) (i : ℕ × ℕ) → IsAround cs i → IsAround (c ∷ cs) i
  around_later c cs i h = (h.0, later h.1, h.2, h.3, h.4)

  around_first : (c : StrandTree) (cs : List StrandTree) (i : ℕ × ℕ) → IsAround (c ∷ []) i → IsAround (c ∷ cs) i
  around_first c cs i h = (h.0, one h.1, h.2, h.3, h.4)
    where
      one : {x : StrandTree} → Among x (c ∷ []) → Among x (c ∷ cs)
      one first = first
      one (later m) = elim m [ ]

  -- the rows of all parts
  parts_spread : (B : TypeTree) (ds : List Side) (rows : List FlatRow) → Each (λ (d : Side). Fine B d.0 × LetHas d.0.parent d.1) ds → PartsGive cols ts ds rows → Spread (slots B) (map (λ (d : Side). d.0) ds) rows
  parts_spread B [] rows e g = subst (λ (l : List FlatRow). Spread (slots B) [] l) (sym g) (record { outers = tt; inners = λ s b. refl })
  parts_spread B (d ∷ ds) rows e g =
      let own = part_spread B d g.0 e.0.0 e.0.1 g.2 in
      let others = parts_spread B ds g.1 e.1 g.3 in
      let cs : List StrandTree = map (λ (d : Side). d.0) ds in
      subst (λ (l : List FlatRow). Spread (slots B) (d.0 ∷ cs) l) (sym g.4) (record {
        outers = each_join (λ r. IsAround (d.0 ∷ cs) r.outer) g.0 g.1
            (each_map (λ r. IsAround (d.0 ∷ []) r.outer) (λ r. IsAround (d.0 ∷ cs) r.outer) (λ r h. around_first d.0 cs r.outer h) g.0 own.outers)
            (each_map (λ r. IsAround cs r.outer) (λ r. IsAround (d.0 ∷ cs) r.outer) (λ r h. around_later d.0 cs r.outer h) g.1 others.outers);
        inners = λ s b.
            let mine : List (ℕ × ℕ) = map (λ n. (d.0.tag, n)) (count_from 1 (count d.0.tag)) in
            subst (λ (l : List (ℕ × ℕ)). Reordered l (mine ++ indexes cs)) (sym (map-append (inner_at s) g.0 g.1))
            (reordered_append (map (inner_at s) g.0) (map (inner_at s) g.1) mine (indexes cs)
            (subst (λ (l : List (ℕ × ℕ)). Reordered (map (inner_at s) g.0) l) (append-nil mine) (own.inners s b)) (others.inners s b));
      })

  -- what the let form of these strands, in tag order, allows
  pub form_spread : (B : TypeTree) (here : List StrandTree) (rows : List FlatRow) (path : List Step) (element : TypeTree) → Each (Fine B) here
      → FormGives cols ts (insert_lets (record { path = path; element = element; parts = by_tag here })) rows → Spread (slots B) (by_tag here) rows
  form_spread B here rows path element h g =
      let cs : List StrandTree = by_tag here in
      let lets : List LetTree = lets_of cs in
      let parts : List PartTree = parts_on lets cs in
      let mixed : Reordered here cs = reordered_sorted (λ (d e : StrandTree). nat_cmp d.tag e.tag) here in
      let fine : Each (Fine B) cs = each_reordered (Fine B) here cs mixed h in
      let again : map (strand_of lets) parts ≡ cs = strands_again info cs top (each_map (Fine B) (Around info) (λ c k. k.around) cs fine) in
      let side : PartTree → Side = λ p. (strand_of lets p, let_rows g.lists p.from) in
      let back : Each (λ p. Fine B (strand_of lets p)) parts = each_unmapped (strand_of lets) (Fine B) parts (subst (λ (l : List StrandTree). Each (Fine B) l) (sym again) fine) in
      let two : Each (λ p. (p.from ≤ length lets) × Fine B (strand_of lets p)) parts = each_two (λ p. p.from ≤ length lets) (λ p. Fine B (strand_of lets p)) parts (lets_known cs) back in
      let sides : Each (λ (d : Side). Fine B d.0 × LetHas d.0.parent d.1) (map side parts) = each_mapped side (λ p. (p.from ≤ length lets) × Fine B (strand_of lets p)) (λ (d : Side). Fine B d.0 × LetHas d.0.parent d.1) (λ p k. (k.1, rows_of_let lets g.lists g.numbered_once p p.from refl k.0 k.1.around)) parts two in
      let all = parts_spread B (map side parts) g.all sides g.parts in
      let strands : map (λ (d : Side). d.0) (map side parts) ≡ cs = map_of_map (λ (d : Side). d.0) side parts ∙ again in
      let whole : Spread (slots B) cs g.all = subst (λ (l : List StrandTree). Spread (slots B) l g.all) strands all in
      record {
        outers = each_reordered (λ r. IsAround cs r.outer) g.all rows (reordered_sym rows g.all g.any_order) whole.outers;
        inners = λ s b. reordered_trans (map (inner_at s) rows) (map (inner_at s) g.all) (indexes cs) (reordered_map (inner_at s) rows g.all g.any_order) (whole.inners s b);
      }
