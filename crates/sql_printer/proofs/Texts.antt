-- Whole texts, written one piece after another.
use Rattle.std.proofs.Common.{◌≡◌, ℕ, List, [], ◌++◌, length, map, sym, ap, ◌∙◌, subst, append_assoc}
use Rattle.std.specs.Str.{IsUtf8}
use Rattle.std.proofs.lemmas.Simd.{map-map}
use Rattle.sql_profile.specs.declared.tree.SqlText.{SqlText}
use Rattle.sql_profile.specs.Printed.{printed, printed_query, printed_withs}
use Rattle.sql_profile.specs.Spellable.{IsSpellable}
use Rattle.sql_profile.specs.Texts.{Spells}
use Rattle.sql_profile.specs.Tokens.{First}
use Rattle.sql_profile.specs.Trees.{PlacedSql, SqlTree, WithTree, bare, bare_with, placed_with, query_tree, sql_tree, with_tree}
use Rattle.sql_profile.proofs.Spelled.{printed_spelled}

-- three pieces, one after another
pub three_pieces : (old mid last new p q r : List ℕ) → mid ≡ old ++ p → last ≡ mid ++ q → new ≡ last ++ r → new ≡ old ++ (p ++ (q ++ r))
three_pieces old mid last new p q r e f g =
    g ∙ ap (λ (l : List ℕ). l ++ r) (f ∙ ap (λ (l : List ℕ). l ++ q) e) ∙ (simp append_assoc)

-- the WITH queries and then the main query
pub text_written : (t : SqlText) (first mid new bytes : List ℕ) → first ≡ [] → mid ≡ first ++ printed_withs (map with_tree t.withs) → new ≡ mid ++ printed_query (query_tree t.main) → bytes ≡ new → bytes ≡ printed (sql_tree t)
text_written t first mid new bytes none e f g =
    g ∙ f ∙ ap (λ (l : List ℕ). l ++ printed_query (query_tree t.main)) (e ∙ ap (λ (l : List ℕ). l ++ printed_withs (map with_tree t.withs)) none)
    ∙ ap (λ (ws : List WithTree). printed_withs ws ++ printed_query (query_tree t.main)) (sym (map-map bare_with placed_with t.withs))

-- the text of the tree spells it
pub text_spells : (t : SqlTree) (bytes : List ℕ) → bytes ≡ printed t → IsUtf8 bytes → IsSpellable t → (tree : PlacedSql) × Spells First (length bytes) bytes tree × (bare tree ≡ t)
text_spells t bytes is utf8 spellable =
    subst (λ (l : List ℕ). (tree : PlacedSql) × Spells First (length l) l tree × (bare tree ≡ t)) (sym is) (printed_spelled t spellable (subst IsUtf8 is utf8))
