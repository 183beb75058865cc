-- The columns of tags, path by path.
use Rattle.std.proofs.Common.{◌≡◌, ℕ, zero, suc, List, [], ◌∷◌, map, refl, ap, ◌∙◌, get_or, length}
use Rattle.nq_model.specs.Types.{TypeTree}
use Rattle.nq_ir.specs.Parts.{slots}
use Rattle.shred_types.proofs.Places.{slots_long}
use Rattle.stitcher.specs.Linked.{tag_column}
use Rattle.stitcher.specs.Schemes.{element_of}
use Rattle.foreign_answers.specs.Columns.{tags_of}
use Rattle.foreign_answers.specs.Judging.{column_in}

-- at each path
tags_at : (elements : List TypeTree) (q : ℕ) → get_or (map tags_of elements) q [] ≡ tags_of (element_of elements q)
tags_at [] q = refl
tags_at (a ∷ elements) zero = refl
tags_at (a ∷ elements) (suc q) = tags_at elements q

pub column_same : (elements : List TypeTree) (columns : List (List ℕ)) → columns ≡ map tags_of elements → column_in columns ≡ tag_column elements
column_same elements columns e = λ t. λ q s. get_or ((ap (λ (l : List (List ℕ)). get_or l q []) e ∙ tags_at elements q) t) s 0

pub tags_counted : (elements : List TypeTree) (columns : List (List ℕ)) → columns ≡ map tags_of elements → (q : ℕ) → length (get_or columns q []) ≡ slots (element_of elements q)
tags_counted elements columns e q = ap (λ (l : List (List ℕ)). length (get_or l q [])) e ∙ ap length (tags_at elements q) ∙ slots_long (element_of elements q) 3
