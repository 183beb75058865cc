-- Tables with numbers, one after the other.
use Rattle.std.proofs.Common.{◌≡◌, ◌<◌, ◌^◌, ◌+◌, ◌++◌, ℕ, List, [], ◌∷◌, All, length, map, take}
use Rattle.std.proofs.Common.{get_or, sym, ap, ap₂, ◌∙◌, subst}
use Rattle.std.proofs.lemmas.List.{take_more, map-append}
use Rattle.std.proofs.lemmas.List.Elements.{All-push}
use Rattle.sql_profile.specs.declared.server.Loaded.{Loaded}
use Rattle.lineage_compile.specs.Tables.{HaveFewRows, numbered_table}

module _ (tables : List Loaded) (k : ℕ) (table : Loaded) (below : k < length tables)
    (here : table ≡ get_or tables k table) where
  tables_more : take (k + 1) tables ≡ take k tables ++ table ∷ []
  tables_more = take_more tables k table below
      ∙ ap (λ (t : Loaded). take k tables ++ t ∷ []) (sym here)

  pub numbered_more : (made more : List Loaded) (one : Loaded)
      → made ≡ map numbered_table (take k tables) → one ≡ numbered_table table
      → more ≡ made ++ one ∷ [] → more ≡ map numbered_table (take (k + 1) tables)
  numbered_more made more one are is pushed =
      pushed ∙ ap₂ (λ (l : List Loaded) (t : Loaded). l ++ t ∷ []) are is
      ∙ sym (map-append numbered_table (take k tables) (table ∷ []))
      ∙ ap (map numbered_table) (sym tables_more)

  pub few_more : HaveFewRows (take k tables) → length table.rows < 2 ^ 63
      → HaveFewRows (take (k + 1) tables)
  few_more before own =
      subst (λ (ts : List Loaded). HaveFewRows ts) (sym tables_more)
      (All-push (λ (t : Loaded). length t.rows < 2 ^ 63) (take k tables) table before own)
