-- Parts of lists, written one after another.
use Rattle.std.proofs.Common.{◌≡◌, ℕ, suc, ◌+◌, ◌≤◌, List, [], ◌∷◌, ◌++◌, codes, length, drop, map, refl, sym, ap, ◌∙◌, append_assoc, append-nil, arith}
use Rattle.std.proofs.lemmas.List.{drop_all}
use Rattle.sql_profile.specs.declared.tree.Expr.{Expr}
use Rattle.sql_profile.specs.declared.tree.Item.{Item}
use Rattle.sql_profile.specs.declared.tree.Select.{Select}
use Rattle.sql_profile.specs.Parts.{exprs_tree, items_tree, selects_tree}
use Rattle.sql_profile.specs.Printed.{more_items, more_keys, more_selects, printed_expr, printed_items, printed_keys, printed_query, printed_select, printed_value, quoted}
use Rattle.sql_profile.specs.Trees.{PlacedItem, bare_items, bare_value, expr_tree, items_of, placed_item, placed_value, select_tree}
use Rattle.sql_profile.proofs.Trees.{item_placed}
use Rattle.sql_printer.specs.Leads.{lead}

-- parts that begin with what stands before them
abbrev pub joined : {A : Type 0} → (A → List ℕ) → List ℕ → List ℕ → ℕ → List A → List ℕ
joined part first further place [] = []
joined part first further place (x ∷ xs) = lead place first further ++ (part x ++ joined part first further (place + 1) xs)

-- a part more
pub part_more : {A : Type 0} (part : A → List ℕ) (first further : List ℕ) (place : ℕ) (x : A) (xs : List A) (old mid new all : List ℕ)
    → mid ≡ old ++ lead place first further → new ≡ mid ++ part x → old ++ joined part first further place (x ∷ xs) ≡ all → new ++ joined part first further (place + 1) xs ≡ all
part_more part first further place x xs old mid new all e f h =
    ap (λ (l : List ℕ). l ++ joined part first further (place + 1) xs) (f ∙ ap (λ (l : List ℕ). l ++ part x) e) ∙ (simp append_assoc) ∙ h

-- all parts are written
pub parts_end : {A : Type 0} (part : A → List ℕ) (first further : List ℕ) (place : ℕ) (xs : List A) (old all : List ℕ) → length xs ≤ place → old ++ joined part first further place (drop place xs) ≡ all → old ≡ all
parts_end part first further place xs old all h e = sym (append-nil old) ∙ ap (λ l. old ++ joined part first further place l) (sym (drop_all place xs h)) ∙ e

suc_is : (n : ℕ) → n + 1 ≡ suc n
suc_is n = omega arith

abbrev pub item_text : Item → List ℕ
item_text i = printed_value (bare_value (placed_value i.value)) ++ (codes " AS " ++ quoted i.name)

one_item : (v n more : List ℕ) → (v ++ (codes " AS " ++ n)) ++ more ≡ v ++ (codes " AS " ++ (n ++ more))
one_item v n more = simp append_assoc

item_first : (i : Item) (is : List Item) → item_text i ++ more_items (items_tree is) ≡ printed_items (items_tree (i ∷ is))
item_first i is =
    one_item (printed_value (bare_value (placed_value i.value))) (quoted i.name) (more_items (items_tree is))
    ∙ ap (λ (j : PlacedItem). printed_items (bare_items (items_of (j ∷ map placed_item is)))) (sym (item_placed i))

further_items : (place : ℕ) (is : List Item) → joined item_text [] (codes ", ") (suc place) is ≡ more_items (items_tree is)
further_items place [] = refl
further_items place (i ∷ is) =
    ap (λ n. codes ", " ++ (item_text i ++ joined item_text [] (codes ", ") n is)) (suc_is (suc place))
    ∙ ap (λ (l : List ℕ). codes ", " ++ (item_text i ++ l)) (further_items (suc place) is) ∙ ap (λ (l : List ℕ). codes ", " ++ l) (item_first i is)
    ∙ shifted i is
  where
    shifted : (i : Item) (is : List Item) → codes ", " ++ printed_items (items_tree (i ∷ is)) ≡ more_items (items_tree (i ∷ is))
    shifted i is =
        ap (λ (j : PlacedItem). codes ", " ++ printed_items (bare_items (items_of (j ∷ map placed_item is)))) (item_placed i)
        ∙ ap (λ (j : PlacedItem). more_items (bare_items (items_of (j ∷ map placed_item is)))) (sym (item_placed i))

pub items_joined : (is : List Item) → joined item_text [] (codes ", ") 0 is ≡ printed_items (items_tree is)
items_joined [] = refl
items_joined (i ∷ is) = ap (λ (l : List ℕ). item_text i ++ l) (further_items 0 is) ∙ item_first i is

abbrev pub key_text : Expr → List ℕ
key_text e = printed_expr (expr_tree e)

further_keys : (place : ℕ) (es : List Expr) → joined key_text (codes "ORDER BY ") (codes ", ") (suc place) es ≡ more_keys (exprs_tree es)
further_keys place [] = refl
further_keys place (e ∷ es) =
    ap (λ n. codes ", " ++ (key_text e ++ joined key_text (codes "ORDER BY ") (codes ", ") n es)) (suc_is (suc place))
    ∙ ap (λ (l : List ℕ). codes ", " ++ (key_text e ++ l)) (further_keys (suc place) es)

pub keys_joined : (es : List Expr) → joined key_text (codes "ORDER BY ") (codes ", ") 0 es ≡ printed_keys (exprs_tree es)
keys_joined [] = refl
keys_joined (e ∷ es) = ap (λ (l : List ℕ). codes "ORDER BY " ++ (key_text e ++ l)) (further_keys 0 es)

abbrev pub select_text : Select → List ℕ
select_text s = printed_select (select_tree s)

further_selects : (place : ℕ) (ss : List Select) → joined select_text [] (codes " UNION ALL ") (suc place) ss ≡ more_selects (selects_tree ss)
further_selects place [] = refl
further_selects place (s ∷ ss) =
    ap (λ n. codes " UNION ALL " ++ (select_text s ++ joined select_text [] (codes " UNION ALL ") n ss)) (suc_is (suc place))
    ∙ ap (λ (l : List ℕ). codes " UNION ALL " ++ (select_text s ++ l)) (further_selects (suc place) ss)

pub selects_joined : (ss : List Select) → joined select_text [] (codes " UNION ALL ") 0 ss ≡ printed_query (selects_tree ss)
selects_joined [] = refl
selects_joined (s ∷ ss) = ap (λ (l : List ℕ). select_text s ++ l) (further_selects 0 ss)
