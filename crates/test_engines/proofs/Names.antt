-- The names of the two tables differ.
use Rattle.std.proofs.Common.{◌≡◌, zero, suc, List, [], ◌∷◌, Contains, codes, get_or}
use Rattle.std.proofs.Common.{refl, subst, ap, ◌∙◌, arith}
use Rattle.nq_model.specs.NamedRows.{Label}
use Rattle.sql_profile.specs.Scope.{Shapes, names_in, shapes_of}
use Rattle.sql_profile.specs.Servers.{table_names}
use Rattle.sql_profile.specs.declared.server.Loaded.{Loaded}
use Rattle.test_engines.specs.Shapes.{first_shapes}

names_of : (tables : List Loaded) → table_names tables ≡ names_in (shapes_of tables)
names_of [] = refl
names_of (table ∷ tables) = ap (λ (names : List Label). table.name ∷ names) (names_of tables)

pub other_name : (tables : List Loaded) → shapes_of tables ≡ first_shapes
    → Contains (table_names tables) (codes "e") → ⊥
other_name tables is h =
    go (subst (λ (names : List Label). Contains names (codes "e"))
    (names_of tables ∙ ap (λ (shapes : Shapes). names_in shapes) is) h)
  where
    go : Contains (codes "t" ∷ []) (codes "e") → ⊥
    go (zero, l, e) = let letters : 116 ≡ 101 = ap (λ l. get_or l 0 0) e in absurd (omega (arith, letters))
    go (suc x, l, e) = absurd (omega (arith, l))
