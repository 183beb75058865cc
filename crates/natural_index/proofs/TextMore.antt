-- One more text behind those of the paths before.
use Rattle.std.proofs.Common.{◌≡◌, ℕ, zero, suc, ◌+◌, ◌≤◌, ◌<◌, List, [], ◌∷◌, ◌++◌, map, refl, sym, ap, ap₂, ◌∙◌, subst, Bool, true, false, nat_le, get_or, length, arith}
use Rattle.std.proofs.lemmas.Bool.{leb-true, leb-false}
use Rattle.std.proofs.lemmas.List.{map-append}
use Rattle.nq_model.specs.Numberings.{count_from}
use Rattle.nq_model.specs.Types.{int, type_tree}
use Rattle.nq_model.specs.declared.table.ColumnType.{ColumnType}
use Rattle.nq_model.specs.declared.table.TableShape.{TableShape}
use Rattle.nq_ir.specs.Shredded.{ShreddedTree, shredded_tree}
use Rattle.nq_ir.specs.Spots.{strand_tree}
use Rattle.nq_ir.specs.declared.shredded.Shredded.{Shredded}
use Rattle.sql_profile.specs.Trees.{SqlTree, sql_tree}
use Rattle.sql_profile.specs.declared.tree.SqlText.{SqlText}
use Rattle.stitcher.specs.Schemes.{element_of}
use Rattle.natural_keys.specs.declared.layout.Layout.{Layout}
use Rattle.natural_keys.specs.Layouts.{layout_at}
use Rattle.natural_keys.specs.NaturalKeys.{element_columns, index_columns}
use Rattle.natural_index.specs.Trees.{HasNumbers, elements_of, natural_selects, parts_of, tree_in, union_tree}

last_count : (a n : ℕ) → count_from a (suc n) ≡ count_from a n ++ (a + n) ∷ []
last_count a zero = let e : a ≡ a + 0 = omega arith in ap (λ (k : ℕ). k ∷ []) e
last_count a (suc n) = let e : suc a + n ≡ a + suc n = omega arith in ap (λ (l : List ℕ). a ∷ l) (last_count (suc a) n ∙ ap (λ (k : ℕ). count_from (suc a) n ++ k ∷ []) e)

-- one more text, which has the tree of the next number
pub made_more : (f : ℕ → SqlTree) (texts after : List SqlText) (new : SqlText) (k : ℕ)
    → map sql_tree texts ≡ map f (count_from 0 k) → after ≡ texts ++ new ∷ [] → sql_tree new ≡ f k
    → map sql_tree after ≡ map f (count_from 0 (k + 1))
made_more f texts after new k made more is =
    let next : suc k ≡ k + 1 = omega arith in
    let here : k ≡ 0 + k = omega arith in
    ap (map sql_tree) more
    ∙ map-append sql_tree texts (new ∷ [])
    ∙ ap₂ (λ (l : List SqlTree) (y : SqlTree). l ++ y ∷ []) made (is ∙ ap f here)
    ∙ sym (map-append f (count_from 0 k) ((0 + k) ∷ []))
    ∙ ap (map f) (sym (last_count 0 k))
    ∙ ap (λ (n : ℕ). map f (count_from 0 n)) next

-- what holds below a number and of it holds below the next
pub below_more : (P : ℕ → Type 0) (k : ℕ) → ((q : ℕ) → q < k → P q) → P k → (q : ℕ) → q < k + 1
    → P q
below_more P k before here q h = go (nat_le k q) refl
  where
    go : (b : Bool) → nat_le k q ≡ b → P q
    go true e = (let l : k ≤ q = leb-true k q e in let same : k ≡ q = omega (arith, l, h) in subst P same here)
    go false e = before q (leb-false k q e)

twice_at : {A B C : Type 0} (g : B → C) (f : A → B) (xs : List A) (k : ℕ) (d : A) (e : C)
    → k < length xs → g (f (get_or xs k d)) ≡ get_or (map g (map f xs)) k e
twice_at g f [] k d e h = absurd (omega (arith, h))
twice_at g f (x ∷ xs) zero d e h = refl
twice_at g f (x ∷ xs) (suc k) d e h = twice_at g f xs k d e (omega (arith, h))

module _ (outers inners : List Layout) (forms : List Shredded) (k : ℕ) (within : k < length forms)
    (r d : Shredded) (r_is : r ≡ get_or forms k d) where
  element_at : type_tree r.element ≡ element_of (elements_of forms) k
  element_at = ap (λ (f : Shredded). type_tree f.element) r_is
      ∙ twice_at (λ (f : ShreddedTree). f.element) shredded_tree forms k d int within

  parts_at : map strand_tree r.parts ≡ get_or (parts_of forms) k []
  parts_at = ap (λ (f : Shredded). map strand_tree f.parts) r_is
      ∙ twice_at (λ (f : ShreddedTree). f.parts) shredded_tree forms k d [] within

  -- the text of the form at a path has the tree there
  pub text_is : (S : List TableShape) (tree : SqlTree) → tree
      ≡ union_tree (natural_selects S (layout_at outers k) (layout_at inners k)
      (type_tree r.element) (map strand_tree r.parts)) → tree
      ≡ tree_in S outers inners (elements_of forms) (parts_of forms) k
  text_is S tree is = is ∙ (λ t. union_tree (natural_selects S (layout_at outers k)
      (layout_at inners k) (element_at t) (parts_at t)))

  -- and there are numbers for its columns
  pub numbers_are : (columns : List ColumnType) → columns
      ≡ element_columns (index_columns (layout_at inners k)) (type_tree r.element)
      → HasNumbers (layout_at outers k) columns → HasNumbers (layout_at outers k)
      (element_columns (index_columns (layout_at inners k)) (element_of (elements_of forms) k))
  numbers_are columns is few = subst (λ (cs : List ColumnType). HasNumbers (layout_at outers k) cs)
      (is ∙ ap (element_columns (index_columns (layout_at inners k))) element_at) few
