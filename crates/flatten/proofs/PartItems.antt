-- The element columns of a part are the base parts and inner bags of its rows, laid out.
use Rattle.std.proofs.Common.{◌≡◌, ℕ, zero, suc, ◌+◌, ◌<◌, ◌^◌, List, [], ◌∷◌, ◌++◌, map, refl, sym, ap, ap₂, ◌∙◌, subst, Bool, length, append_assoc, length-append, get_or, arith}
use Rattle.std.specs.List.{AllByRecursion as Each}
use Rattle.nq_model.specs.NamedRows.{NamedTables, no_cell}
use Rattle.nq_model.specs.Types.{TypeTree, int, bool, text, rec, bag, fun, FieldTypes, none, field}
use Rattle.nq_model.specs.declared.table.Cell.{Cell}
use Rattle.nq_model.proofs.Numberings.{length_map}
use Rattle.nq_ir.specs.Trees.{BaseTree, literal, ShapeTree, plain_shape, rec_shape, index_shape, Shapes, no_shape, with_shape}
use Rattle.nq_ir.specs.Meanings.{Tables, value}
use Rattle.nq_ir.specs.Parts.{leaves, leaves_in, slots, slots_in}
use Rattle.nq_ir.specs.Spots.{StrandTree, shape_leaves, shape_leaves_in, shape_slots, shape_slots_in}
use Rattle.nq_ir.specs.Lets.{FlatRow, LetRow, Deals, part_rows, head_of, tail_of}
use Rattle.nq_ir.proofs.Spots.{found, get_or_map}
use Rattle.shred_types.specs.Columns.{laid, laid_fields, number_cell}
use Rattle.sql_profile.specs.AllowedAnswers.{Scope, expr_value, key_of, ValueGives, ItemsGive, beside}
use Rattle.sql_profile.specs.Trees.{ExprTrees, ValueTree}
use Rattle.flatten.specs.Exprs.{base_expr}
use Rattle.flatten.specs.Emitted.{shape_values, shapes_values, answer_items}

-- a shape has the form of an element type
abbrev mutual
  pub FitsShape : ShapeTree → TypeTree → Type 0
  FitsShape (plain_shape b) int = Unit {0}
  FitsShape (plain_shape b) bool = Unit {0}
  FitsShape (plain_shape b) text = Unit {0}
  FitsShape (plain_shape b) (rec gs) = ⊥
  FitsShape (plain_shape b) (bag a) = ⊥
  FitsShape (plain_shape b) (fun a c) = ⊥
  FitsShape (rec_shape fs) int = ⊥
  FitsShape (rec_shape fs) bool = ⊥
  FitsShape (rec_shape fs) text = ⊥
  FitsShape (rec_shape fs) (rec gs) = FitsShapes fs gs
  FitsShape (rec_shape fs) (bag a) = ⊥
  FitsShape (rec_shape fs) (fun a c) = ⊥
  FitsShape index_shape int = ⊥
  FitsShape index_shape bool = ⊥
  FitsShape index_shape text = ⊥
  FitsShape index_shape (rec gs) = ⊥
  FitsShape index_shape (bag a) = Unit {0}
  FitsShape index_shape (fun a c) = ⊥

  pub FitsShapes : Shapes → FieldTypes → Type 0
  FitsShapes no_shape none = Unit {0}
  FitsShapes no_shape (field k a gs) = ⊥
  FitsShapes (with_shape l s fs) none = ⊥
  FitsShapes (with_shape l s fs) (field k a gs) = (l ≡ k) × FitsShape s a × FitsShapes fs gs

-- its base parts and inner bags are as many
abbrev Counts : ShapeTree → TypeTree → Type 0
Counts s a = (length (shape_leaves s) ≡ leaves a) × (shape_slots s ≡ slots a)

mutual
  fits_counts : (s : ShapeTree) (a : TypeTree) → FitsShape s a → Counts s a
  fits_counts (plain_shape b) int h = (refl, refl)
  fits_counts (plain_shape b) bool h = (refl, refl)
  fits_counts (plain_shape b) text h = (refl, refl)
  fits_counts (plain_shape b) (rec gs) h = absurd h
  fits_counts (plain_shape b) (bag a) h = absurd h
  fits_counts (plain_shape b) (fun a c) h = absurd h
  fits_counts (rec_shape fs) int h = absurd h
  fits_counts (rec_shape fs) bool h = absurd h
  fits_counts (rec_shape fs) text h = absurd h
  fits_counts (rec_shape fs) (rec gs) h = fits_counts_in fs gs h
  fits_counts (rec_shape fs) (bag a) h = absurd h
  fits_counts (rec_shape fs) (fun a c) h = absurd h
  fits_counts index_shape int h = absurd h
  fits_counts index_shape bool h = absurd h
  fits_counts index_shape text h = absurd h
  fits_counts index_shape (rec gs) h = absurd h
  fits_counts index_shape (bag a) h = (refl, refl)
  fits_counts index_shape (fun a c) h = absurd h

  fits_counts_in : (fs : Shapes) (gs : FieldTypes) → FitsShapes fs gs → (length (shape_leaves_in fs) ≡ leaves_in gs) × (shape_slots_in fs ≡ slots_in gs)
  fits_counts_in no_shape none h = (refl, refl)
  fits_counts_in no_shape (field k a gs) h = absurd h
  fits_counts_in (with_shape l s fs) none h = absurd h
  fits_counts_in (with_shape l s fs) (field k a gs) h =
      let one = fits_counts s a h.1 in
      let more = fits_counts_in fs gs h.2 in
      (length-append (shape_leaves s) (shape_leaves_in fs) ∙ ap₂ (λ x y. x + y) one.0 more.0, ap₂ (λ x y. x + y) one.1 more.1)

-- what values may give, whatever their names
abbrev pub ValuesGive : NamedTables → List Scope → List ValueTree → List (List Cell) → Type 0
ValuesGive ts kept [] rows = rows ≡ map (λ c. []) kept
ValuesGive ts kept (v ∷ vs) rows =
    (cells : List Cell) × (rest : List (List Cell)) × ValueGives ts kept v cells × ValuesGive ts kept vs rest × (rows ≡ beside cells rest)

pub nameless : (ts : NamedTables) (kept : List Scope) (k : ℕ) (vs : List ValueTree) (rows : List (List Cell)) → ItemsGive ts kept (answer_items k vs) rows → ValuesGive ts kept vs rows
nameless ts kept k [] rows g = g
nameless ts kept k (v ∷ vs) rows g = (g.0, g.1, g.2, nameless ts kept (suc k) vs g.1 g.3, g.4)

module _ (outer : ℕ → Bool) (tag : ℕ) (keys : ExprTrees) (ts : NamedTables) (scopes : List Scope) where
  -- the cells of an element before further rows, where the inner bags have these numbers
  abbrev mutual
    pub in_front : ShapeTree → List (List ℕ) → (List (List ℕ) → List (List Cell)) → List (List Cell)
    in_front (plain_shape b) ms k = beside (map (λ c. expr_value ts (base_expr outer b) c) scopes) (k ms)
    in_front (rec_shape fs) ms k = fields_front fs ms k
    in_front index_shape [] k = []
    in_front index_shape (m ∷ ms) k = beside (map (λ c. number_cell tag) scopes) (beside (map number_cell m) (k ms))

    pub fields_front : Shapes → List (List ℕ) → (List (List ℕ) → List (List Cell)) → List (List Cell)
    fields_front no_shape ms k = k ms
    fields_front (with_shape l b fs) ms k = in_front b ms (λ more. fields_front fs more k)

  -- each inner bag has numbers of its own
  abbrev pub Numbered : List (List ℕ) → Type 0
  Numbered ms = Each (λ n. Deals (map (λ c. key_of ts keys c) scopes) n) ms

  -- what the values that follow give
  abbrev pub Gives : List ValueTree → ℕ → (List (List ℕ) → List (List Cell)) → Type 0
  Gives rest n k = (rows : List (List Cell)) → ValuesGive ts scopes rest rows → (ms : List (List ℕ)) × Numbered ms × (length ms ≡ n) × (rows ≡ k ms)

  mutual
    pub element_gives : (b : ShapeTree) (rest : List ValueTree) (n : ℕ) (k : List (List ℕ) → List (List Cell)) → Gives rest n k → Gives (shape_values outer tag keys b ++ rest) (shape_slots b + n) (λ ms. in_front b ms k)
    element_gives (plain_shape b) rest n k h rows g =
        let r = h g.1 g.3 in
        (r.0, r.1, omega (arith, r.2), g.4 ∙ ap₂ (λ (x : List Cell) (y : List (List Cell)). beside x y) g.2 r.3)
    element_gives (rec_shape fs) rest n k h rows g = fields_give fs rest n k h rows g
    element_gives index_shape rest n k h rows g =
        let i = g.3 in
        let r = h i.1 i.3 in
        let few : length (map (λ c. key_of ts keys c) scopes) < 2 ^ 63 = subst (λ z. z < 2 ^ 63) (sym (length_map (λ c. key_of ts keys c) scopes)) i.2.2 in
        (i.2.0 ∷ r.0, (record { numbers = i.2.1; fits = few }, r.1), omega (arith, r.2), g.4 ∙ ap₂ (λ (x : List Cell) (y : List (List Cell)). beside x y) g.2 (i.4 ∙ ap₂ (λ (x : List Cell) (y : List (List Cell)). beside x y) i.2.3 r.3))

    fields_give : (fs : Shapes) (rest : List ValueTree) (n : ℕ) (k : List (List ℕ) → List (List Cell)) → Gives rest n k → Gives (shapes_values outer tag keys fs ++ rest) (shape_slots_in fs + n) (λ ms. fields_front fs ms k)
    fields_give no_shape rest n k h rows g = let r = h rows g in (r.0, r.1, omega (arith, r.2), r.3)
    fields_give (with_shape l b fs) rest n k h rows g =
        let both : ValuesGive ts scopes (shape_values outer tag keys b ++ (shapes_values outer tag keys fs ++ rest)) rows = subst (λ (z : List ValueTree). ValuesGive ts scopes z rows) (append_assoc (shape_values outer tag keys b) (shapes_values outer tag keys fs) rest) g in
        let r = element_gives b (shapes_values outer tag keys fs ++ rest) (shape_slots_in fs + n) (λ ms. fields_front fs ms k) (λ rows' g'. fields_give fs rest n k h rows' g') rows both in
        (r.0, r.1, omega (arith, r.2), r.3)

-- rows side by side
abbrev pub zip_rows : List (List Cell) → List (List Cell) → List (List Cell)
zip_rows [] ys = []
zip_rows (x ∷ xs) [] = []
zip_rows (x ∷ xs) (y ∷ ys) = (x ++ y) ∷ zip_rows xs ys

one_column : (f : FlatRow → Cell) (rs : List FlatRow) (ys : List (List Cell)) → zip_rows (map (λ r. f r ∷ []) rs) ys ≡ beside (map f rs) ys
one_column f [] ys = refl
one_column f (r ∷ rs) [] = refl
one_column f (r ∷ rs) (y ∷ ys) = ap (λ (l : List (List Cell)). (f r ∷ y) ∷ l) (one_column f rs ys)

two_columns : (f g : FlatRow → Cell) (rs : List FlatRow) (ys : List (List Cell)) → zip_rows (map (λ r. f r ∷ g r ∷ []) rs) ys ≡ beside (map f rs) (beside (map g rs) ys)
two_columns f g [] ys = refl
two_columns f g (r ∷ rs) [] = refl
two_columns f g (r ∷ rs) (y ∷ ys) = ap (λ (l : List (List Cell)). (f r ∷ g r ∷ y) ∷ l) (two_columns f g rs ys)

joined : (f g : FlatRow → List Cell) (rs : List FlatRow) (ys : List (List Cell)) → zip_rows (map (λ r. f r ++ g r) rs) ys ≡ zip_rows (map f rs) (zip_rows (map g rs) ys)
joined f g [] ys = refl
joined f g (r ∷ rs) [] = refl
joined f g (r ∷ rs) (y ∷ ys) = ap₂ (λ (x : List Cell) (l : List (List Cell)). x ∷ l) (append_assoc (f r) (g r) y) (joined f g rs ys)

no_column : (rs : List FlatRow) (ys : List (List Cell)) → length rs ≡ length ys → zip_rows (map (λ r. []) rs) ys ≡ ys
no_column [] [] h = refl
no_column [] (y ∷ ys) h = absurd (omega arith)
no_column (r ∷ rs) [] h = absurd (omega arith)
no_column (r ∷ rs) (y ∷ ys) h = ap (λ (l : List (List Cell)). y ∷ l) (no_column rs ys (omega arith))

get_mapped_in : {A B : Type 0} (f : A → B) (xs : List A) (n : ℕ) (d : B) (d' : A) → n < length xs → get_or (map f xs) n d ≡ f (get_or xs n d')
get_mapped_in f [] n d d' h = absurd (omega arith)
get_mapped_in f (x ∷ xs) zero d d' h = refl
get_mapped_in f (x ∷ xs) (suc n) d d' h = get_mapped_in f xs n d d' (omega arith)

module _ (us : Tables) (c : StrandTree) where
  leaf_column : (l : ℕ) (ps : List LetRow) (ms : List (List ℕ)) → map (λ (r : FlatRow). get_or r.leaf_cells l no_cell) (part_rows us c ps ms) ≡ map (λ p. value us (get_or (shape_leaves c.shape) l (literal no_cell)) p.1) ps
  leaf_column l [] ms = refl
  leaf_column l (p ∷ ps) ms = ap₂ (λ (x : Cell) (z : List Cell). x ∷ z) (get_or_map (λ b. value us b p.1) (shape_leaves c.shape) l (literal no_cell)) (leaf_column l ps (map tail_of ms))

  tag_column : (s : ℕ) (ps : List LetRow) (ms : List (List ℕ)) → s < length ms → map (λ (r : FlatRow). number_cell (get_or r.inners s (0, 0)).0) (part_rows us c ps ms) ≡ map (λ p. number_cell c.tag) ps
  tag_column s [] ms h = refl
  tag_column s (p ∷ ps) ms h = ap₂ (λ (x : Cell) (z : List Cell). x ∷ z) (ap (λ (z : ℕ × ℕ). number_cell z.0) (get_mapped_in (λ n. (c.tag, head_of n)) ms s (0, 0) [] h)) (tag_column s ps (map tail_of ms) (omega (arith, h, length_map tail_of ms)))

  number_column : (s : ℕ) (ps : List LetRow) (ms : List (List ℕ)) → s < length ms → length (get_or ms s []) ≡ length ps → map (λ (r : FlatRow). number_cell (get_or r.inners s (0, 0)).1) (part_rows us c ps ms) ≡ map number_cell (get_or ms s [])
  number_column s [] ms h e = nothing (get_or ms s []) e
    where
      nothing : (m : List ℕ) → length m ≡ 0 → ◌≡◌ {A = List Cell} [] (map number_cell m)
      nothing [] e = refl
      nothing (n ∷ m) e = absurd (omega arith)
  number_column s (p ∷ ps) ms h e =
      let tails : get_or (map tail_of ms) s [] ≡ tail_of (get_or ms s []) = get_or_map tail_of ms s [] in
      let short : length (get_or (map tail_of ms) s []) ≡ length ps = ap length tails ∙ shorter (get_or ms s []) e in
      ap₂ (λ (x : Cell) (z : List Cell). x ∷ z) (ap (λ (z : ℕ × ℕ). number_cell z.1) (get_mapped_in (λ n. (c.tag, head_of n)) ms s (0, 0) [] h)) (number_column s ps (map tail_of ms) (omega (arith, h, length_map tail_of ms)) short ∙ ap (map number_cell) tails)
      ∙ whole (get_or ms s []) e
    where
      shorter : (m : List ℕ) → length m ≡ suc (length ps) → length (tail_of m) ≡ length ps
      shorter [] e = absurd (omega arith)
      shorter (n ∷ m) e = omega arith

      whole : (m : List ℕ) → length m ≡ suc (length ps) → ◌≡◌ {A = List Cell} (number_cell (head_of m) ∷ map number_cell (tail_of m)) (map number_cell m)
      whole [] e = absurd (omega arith)
      whole (n ∷ m) e = refl

-- a list in two parts
split_at : {A : Type 0} (n : ℕ) (xs : List A) (m : ℕ) → length xs ≡ n + m → (ys : List A) × (zs : List A) × (xs ≡ ys ++ zs) × (length ys ≡ n) × (length zs ≡ m)
split_at zero xs m h = ([], xs, refl, refl, omega arith)
split_at (suc n) [] m h = absurd (omega arith)
split_at (suc n) (x ∷ xs) m h =
    let r = split_at n xs m (omega arith) in (x ∷ r.0, r.1, ap (λ (l : List _). x ∷ l) r.2, ap suc r.3, r.4)

-- scopes show the base parts of a strand at combinations, whose inner bags have these numbers
pub record Shown (outer : ℕ → Bool) (ts : NamedTables) (us : Tables) (c : StrandTree) (scopes : List Scope) (ps : List LetRow) (ms : List (List ℕ)) : Type 0 where
  pub as_many : length scopes ≡ length ps
  pub values : Each (λ b. map (λ z. expr_value ts (base_expr outer b) z) scopes ≡ map (λ p. value us b p.1) ps) (shape_leaves c.shape)
  pub long : Each (λ m. length m ≡ length ps) ms

module _ (outer : ℕ → Bool) (ts : NamedTables) (us : Tables) (c : StrandTree) (keys : ExprTrees) (scopes : List Scope) (ps : List LetRow) (ms : List (List ℕ)) (shown : Shown outer ts us c scopes ps ms) where
  each_get : (s : ℕ) → s < length ms → length (get_or ms s []) ≡ length ps
  each_get s h = go ms s h shown.long
    where
      go : (l : List (List ℕ)) (s : ℕ) → s < length l → Each (λ m. length m ≡ length ps) l → length (get_or l s []) ≡ length ps
      go [] s h e = absurd (omega arith)
      go (m ∷ l) zero h e = e.0
      go (m ∷ l) (suc s) h e = go l s (omega arith) e.1

  rows_length : (qs : List LetRow) (l : List (List ℕ)) → length (part_rows us c qs l) ≡ length qs
  rows_length [] l = refl
  rows_length (q ∷ qs) l = ap suc (rows_length qs (map tail_of l))

  zip_length : (xs ys : List (List Cell)) (n : ℕ) → length xs ≡ n → length ys ≡ n → length (zip_rows xs ys) ≡ n
  zip_length [] ys n h k = h
  zip_length (x ∷ xs) [] n h k = absurd (omega arith)
  zip_length (x ∷ xs) (y ∷ ys) zero h k = absurd (omega arith)
  zip_length (x ∷ xs) (y ∷ ys) (suc n) h k = ap suc (zip_length xs ys n (omega arith) (omega arith))

  each_found : (P : BaseTree → Type 0) (xs ys zs : List BaseTree) (x : BaseTree) → xs ≡ ys ++ x ∷ zs → Each P xs → P x
  each_found P xs ys zs x e h = go ys (subst (λ (l : List BaseTree). Each P l) e h)
    where
      go : (ys : List BaseTree) → Each P (ys ++ x ∷ zs) → P x
      go [] h = h.0
      go (y ∷ ys) h = go ys h.1

  same_tags : (l : List Scope) (qs : List LetRow) → length l ≡ length qs → map (λ z. number_cell c.tag) l ≡ map (λ p. number_cell c.tag) qs
  same_tags [] [] h = refl
  same_tags [] (q ∷ qs) h = absurd (omega arith)
  same_tags (z ∷ l) [] h = absurd (omega arith)
  same_tags (z ∷ l) (q ∷ qs) h = ap (λ (k : List Cell). number_cell c.tag ∷ k) (same_tags l qs (omega arith))

  leaf_laid : (x : BaseTree) (l : ℕ) (lb la : List BaseTree) (ys : List (List Cell)) → shape_leaves c.shape ≡ lb ++ (x ∷ la) → length lb ≡ l → beside (map (λ z. expr_value ts (base_expr outer x) z) scopes) ys ≡ zip_rows (map (λ r. get_or r.leaf_cells l no_cell ∷ []) (part_rows us c ps ms)) ys
  leaf_laid x l lb la ys e el =
      ap (λ (z : List Cell). beside z ys) (each_found (λ b. map (λ z. expr_value ts (base_expr outer b) z) scopes ≡ map (λ p. value us b p.1) ps) (shape_leaves c.shape) lb la x e shown.values ∙ ap (λ b. map (λ p. value us b p.1) ps) (sym (found (shape_leaves c.shape) lb la x (literal no_cell) l e el)) ∙ sym (leaf_column us c l ps ms))
      ∙ sym (one_column (λ r. get_or r.leaf_cells l no_cell) (part_rows us c ps ms) ys)

  bag_laid : (s : ℕ) (before after : List (List ℕ)) (m : List ℕ) (ys : List (List Cell)) → ms ≡ before ++ (m ∷ after) → length before ≡ s → beside (map (λ z. number_cell c.tag) scopes) (beside (map number_cell m) ys) ≡ zip_rows (map (λ (r : FlatRow). number_cell (get_or r.inners s (0, 0)).0 ∷ number_cell (get_or r.inners s (0, 0)).1 ∷ []) (part_rows us c ps ms)) ys
  bag_laid s before after m ys f fl =
      let inside : s < length ms = omega (arith, ap length f, length-append before (m ∷ after), fl) in
      let at : get_or ms s [] ≡ m = found ms before after m [] s f fl in
      ap₂ (λ (a b : List Cell). beside a (beside b ys)) (same_tags scopes ps shown.as_many ∙ sym (tag_column us c s ps ms inside)) (ap (map number_cell) (sym at) ∙ sym (number_column us c s ps ms inside (each_get s inside)))
      ∙ sym (two_columns (λ r. number_cell (get_or r.inners s (0, 0)).0) (λ r. number_cell (get_or r.inners s (0, 0)).1) (part_rows us c ps ms) ys)

  no_own : (own after : List (List ℕ)) → length own ≡ 0 → own ++ after ≡ after
  no_own [] after h = refl
  no_own (m ∷ own) after h = absurd (omega arith)

  bag_case : (a : TypeTree) (l s : ℕ) (before own after : List (List ℕ)) (k : List (List ℕ) → List (List Cell)) → ms ≡ before ++ (own ++ after) → length before ≡ s → length own ≡ 1 → in_front outer c.tag keys ts scopes index_shape (own ++ after) k ≡ zip_rows (map (laid (bag a) l s) (part_rows us c ps ms)) (k after)
  bag_case a l s before [] after k f fl o = absurd (omega arith)
  bag_case a l s before (m ∷ []) after k f fl o = bag_laid s before after m (k after) f fl
  bag_case a l s before (m ∷ m2 ∷ own) after k f fl o = absurd (omega arith)

  -- what stands before and behind a part of the shape
  abbrev Laid : ShapeTree → TypeTree → Type 0
  Laid b a = (l s : ℕ) (lb la : List BaseTree) (before own after : List (List ℕ)) (k : List (List ℕ) → List (List Cell)) → shape_leaves c.shape ≡ lb ++ (shape_leaves b ++ la) → length lb ≡ l → ms ≡ before ++ (own ++ after) → length before ≡ s → length own ≡ shape_slots b → length (k after) ≡ length ps → in_front outer c.tag keys ts scopes b (own ++ after) k ≡ zip_rows (map (laid a l s) (part_rows us c ps ms)) (k after)

  mutual
    pub front_laid : (b : ShapeTree) (a : TypeTree) → FitsShape b a → Laid b a
    front_laid (plain_shape x) int fit l s lb la before own after k e el f fl o long = ap (λ (z : List (List ℕ)). beside (map (λ z. expr_value ts (base_expr outer x) z) scopes) (k z)) (no_own own after o) ∙ leaf_laid x l lb la (k after) e el
    front_laid (plain_shape x) bool fit l s lb la before own after k e el f fl o long = ap (λ (z : List (List ℕ)). beside (map (λ z. expr_value ts (base_expr outer x) z) scopes) (k z)) (no_own own after o) ∙ leaf_laid x l lb la (k after) e el
    front_laid (plain_shape x) text fit l s lb la before own after k e el f fl o long = ap (λ (z : List (List ℕ)). beside (map (λ z. expr_value ts (base_expr outer x) z) scopes) (k z)) (no_own own after o) ∙ leaf_laid x l lb la (k after) e el
    front_laid (plain_shape x) (rec gs) fit l s lb la before own after k e el f fl o long = absurd fit
    front_laid (plain_shape x) (bag a) fit l s lb la before own after k e el f fl o long = absurd fit
    front_laid (plain_shape x) (fun a b) fit l s lb la before own after k e el f fl o long = absurd fit
    front_laid (rec_shape fs) int fit l s lb la before own after k e el f fl o long = absurd fit
    front_laid (rec_shape fs) bool fit l s lb la before own after k e el f fl o long = absurd fit
    front_laid (rec_shape fs) text fit l s lb la before own after k e el f fl o long = absurd fit
    front_laid (rec_shape fs) (rec gs) fit l s lb la before own after k e el f fl o long = fields_laid fs gs fit l s lb la before own after k e el f fl o long
    front_laid (rec_shape fs) (bag a) fit l s lb la before own after k e el f fl o long = absurd fit
    front_laid (rec_shape fs) (fun a b) fit l s lb la before own after k e el f fl o long = absurd fit
    front_laid index_shape int fit l s lb la before own after k e el f fl o long = absurd fit
    front_laid index_shape bool fit l s lb la before own after k e el f fl o long = absurd fit
    front_laid index_shape text fit l s lb la before own after k e el f fl o long = absurd fit
    front_laid index_shape (rec gs) fit l s lb la before own after k e el f fl o long = absurd fit
    front_laid index_shape (bag a) fit l s lb la before own after k e el f fl o long = bag_case a l s before own after k f fl o
    front_laid index_shape (fun a b) fit l s lb la before own after k e el f fl o long = absurd fit

    fields_laid : (fs : Shapes) (gs : FieldTypes) → FitsShapes fs gs → (l s : ℕ) (lb la : List BaseTree) (before own after : List (List ℕ)) (k : List (List ℕ) → List (List Cell)) → shape_leaves c.shape ≡ lb ++ (shape_leaves_in fs ++ la) → length lb ≡ l → ms ≡ before ++ (own ++ after) → length before ≡ s → length own ≡ shape_slots_in fs → length (k after) ≡ length ps → fields_front outer c.tag keys ts scopes fs (own ++ after) k ≡ zip_rows (map (laid_fields gs l s) (part_rows us c ps ms)) (k after)
    fields_laid no_shape none fit l s lb la before own after k e el f fl o long =
        ap k (no_own own after o) ∙ sym (no_column (part_rows us c ps ms) (k after) (rows_length ps ms ∙ sym long))
    fields_laid no_shape (field j a gs) fit l s lb la before own after k e el f fl o long = absurd fit
    fields_laid (with_shape j b fs) none fit l s lb la before own after k e el f fl o long = absurd fit
    fields_laid (with_shape j b fs) (field i a gs) fit l s lb la before own after k e el f fl o long =
        let d = split_at (shape_slots b) own (shape_slots_in fs) o in
        let rs = part_rows us c ps ms in
        let more = d.1 ++ after in
        let counts = fits_counts b a fit.1 in
        let join : own ++ after ≡ d.0 ++ more = ap (λ (z : List (List ℕ)). z ++ after) d.2 ∙ append_assoc d.0 d.1 after in
        let f1 : ms ≡ before ++ (d.0 ++ more) = f ∙ ap (λ (z : List (List ℕ)). before ++ z) join in
        let f2 : ms ≡ (before ++ d.0) ++ more = f1 ∙ sym (append_assoc before d.0 more) in
        let e1 : shape_leaves c.shape ≡ lb ++ (shape_leaves b ++ (shape_leaves_in fs ++ la)) = e ∙ ap (λ (z : List BaseTree). lb ++ z) (append_assoc (shape_leaves b) (shape_leaves_in fs) la) in
        let tail : fields_front outer c.tag keys ts scopes fs more k ≡ zip_rows (map (laid_fields gs (l + leaves a) (s + slots a)) rs) (k after) = fields_laid fs gs fit.2 (l + leaves a) (s + slots a) (lb ++ shape_leaves b) la (before ++ d.0) d.1 after k (e1 ∙ sym (append_assoc lb (shape_leaves b) (shape_leaves_in fs ++ la))) (length-append lb (shape_leaves b) ∙ ap₂ (λ x y. x + y) el counts.0) f2 (length-append before d.0 ∙ ap₂ (λ x y. x + y) fl (d.3 ∙ counts.1)) d.4 long in
        let tail_long : length (fields_front outer c.tag keys ts scopes fs more k) ≡ length ps = ap length tail ∙ zip_length (map (laid_fields gs (l + leaves a) (s + slots a)) rs) (k after) (length ps) (length_map (laid_fields gs (l + leaves a) (s + slots a)) rs ∙ rows_length ps ms) long in
        ap (λ (z : List (List ℕ)). in_front outer c.tag keys ts scopes b z (λ more. fields_front outer c.tag keys ts scopes fs more k)) join
        ∙ front_laid b a fit.1 l s lb (shape_leaves_in fs ++ la) before d.0 more (λ more. fields_front outer c.tag keys ts scopes fs more k) e1 el f1 fl d.3 tail_long
        ∙ ap (zip_rows (map (laid a l s) rs)) tail
        ∙ sym (joined (laid a l s) (laid_fields gs (l + leaves a) (s + slots a)) rs (k after))
