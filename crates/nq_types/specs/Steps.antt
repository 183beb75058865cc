-- What a step of the checker answers, beside the verdict of the walk.
use Rattle.std.specs.Prelude.{◌≡◌, ℕ, ⊤, List, [], ◌∷◌, ◌++◌, Result, Ok, Err}
use Rattle.nq_model.specs.Types.{TypeTree, type_tree}
use Rattle.nq_model.specs.Terms.{PlacedFields}
use Rattle.nq_model.specs.Judging.{Verdict, broken, judged, then_judge}
use Rattle.nq_model.specs.declared.ty.Ty.{Ty}
use Rattle.nq_model.specs.declared.table.Schema.{Schema}
use Rattle.nq_types.specs.declared.fault.CheckFault.{CheckFault}
use Rattle.nq_types.specs.declared.fault.CheckFault.TheVariants.{Memory, Ill}

-- the fault of a step, where it is not want of memory, is that of the verdict
abbrev pub Faults : {A : Type 0} → Verdict A → CheckFault → Type 0
Faults v Memory = ⊤
Faults v (Ill rule place) = v ≡ Err (broken rule place)

-- the types of fields in the order of the text
abbrev pub listed : Schema → List TypeTree → PlacedFields → Verdict (List (List ℕ × TypeTree))
listed schema context PlacedFields.none = Ok []
listed schema context (PlacedFields.with_field l t fs) =
    then_judge (judged schema context t) (λ k. then_judge (listed schema context fs) (λ rest. Ok ((l, k) ∷ rest)))

-- these types before those of a verdict
abbrev pub after_types : List (List ℕ × TypeTree) → Verdict (List (List ℕ × TypeTree)) → Verdict (List (List ℕ × TypeTree))
after_types types v = then_judge v (λ more. Ok (types ++ more))

-- the step answers the verdict, but for want of memory
abbrev pub Gives : Result Ty CheckFault → Verdict TypeTree → Type 0
Gives (Ok ty) v = v ≡ Ok (type_tree ty)
Gives (Err e) v = Faults v e
