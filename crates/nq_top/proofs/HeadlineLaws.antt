-- An accepted query has one text over any tables, and as many SQL texts shred it as its type has bags.
use Rattle.std.proofs.Common.{◌≡◌, ℕ, suc, List, [], ◌∷◌, length, refl, ap, ◌∙◌}
use Rattle.nq_compile.specs.Shreds.{IsScopedText, Shreds}
use Rattle.nq_ir.specs.Meanings.{EachBoth}
use Rattle.nq_ir.specs.Parts.{bags}
use Rattle.nq_ir.specs.Paths.{paths}
use Rattle.nq_ir.proofs.Paths.{paths_count}
use Rattle.nq_model.specs.Canonical.{canonical_text}
use Rattle.nq_model.specs.Databases.{database}
use Rattle.nq_model.specs.Meaning.{meaning}
use Rattle.nq_model.specs.QueryMeaning.{Means}
use Rattle.nq_model.specs.Terms.{PlacedTerm, bare}
use Rattle.nq_model.specs.Types.{TypeTree, bag}
use Rattle.nq_model.specs.Typing.{IsAccepted}
use Rattle.nq_model.specs.Values.{Nested}
use Rattle.nq_model.specs.declared.table.Cell.{Cell}
use Rattle.nq_model.specs.declared.table.Schema.{Schema}
use Rattle.nq_model.proofs.ValueTypes.{one_meaning}
use Rattle.shred_types.specs.Columns.{columns_at}
use Rattle.unfold.specs.Hereditary.{unfolded}
use Rattle.unfold.proofs.Whole.{is_unfolding}

-- lists that go together are of one length
as_long : {A B : Type 0} (P : A → B → Type 0) (xs : List A) (ys : List B) → EachBoth P xs ys → length ys ≡ length xs
as_long P [] ys h = ap length h
as_long P (x ∷ xs) [] h = absurd h
as_long P (x ∷ xs) (y ∷ ys) h = ap suc (as_long P xs ys h.1)

-- texts that shred a query are as many as the bag constructors of its type
pub as_many_texts : (schema : Schema) (query : PlacedTerm) (element : TypeTree) (texts : List (List ℕ)) → Shreds schema element texts (λ tables value. Means tables query value) → length texts ≡ bags (bag element)
as_many_texts schema query element texts shreds =
    as_long (λ path text. IsScopedText schema (columns_at (bag element) path) text) (paths (bag element)) texts shreds.scoped ∙ paths_count (bag element)

module _ (schema : Schema) (query : PlacedTerm) (type : TypeTree) (accepted : IsAccepted schema (bare query) type) (tables : List (List (List Cell))) where
  means_it : Means (database schema.tables tables) query (meaning (database schema.tables tables) [] (bare (unfolded query)))
  means_it =
      let reached = is_unfolding schema query type accepted in
      record { plain_term = unfolded query; unfolds = reached.unfolds; plain = reached.plain; is = refl }

  -- one canonical text, and no other
  pub some_text : (text : List ℕ) × ((value : Nested) × Means (database schema.tables tables) query value × (text ≡ canonical_text value))
      × ((value : Nested) → Means (database schema.tables tables) query value → text ≡ canonical_text value)
  some_text =
      let value = meaning (database schema.tables tables) [] (bare (unfolded query)) in
      (canonical_text value, (value, means_it, refl), λ other means. ap canonical_text (one_meaning (database schema.tables tables) query value other means_it means))
