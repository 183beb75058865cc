-- The choice between records, field by field.
use Rattle.std.specs.Prelude.{ℕ, suc, ◌+◌, List, [], ◌∷◌}
use Rattle.nq_model.specs.NamedRows.{Label}
use Rattle.nq_ir.specs.RawForms.{RawBase, RawBody, raw_plain, raw_rec, raw_bag, RawFields, no_raw_field, raw_field, choice}

abbrev pub choice_list : RawBase → List (Label × RawBody) → List (Label × RawBody) → List (Label × RawBody)
choice_list x [] gs = []
choice_list x (f ∷ fs) [] = f ∷ fs
choice_list x (f ∷ fs) (g ∷ gs) = (f.0, choice x f.1 g.1) ∷ choice_list x fs gs

-- how many records and fields stand in a body, for the measure of a choice
abbrev mutual
  pub weight : RawBody → ℕ
  weight (raw_plain b) = 0
  weight (raw_rec fs) = suc (weights fs)
  weight (raw_bag cs) = 0

  pub weights : RawFields → ℕ
  weights no_raw_field = 0
  weights (raw_field l b fs) = suc (weight b + weights fs)
