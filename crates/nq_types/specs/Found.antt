-- The types that are found where judging a term stops: those of the parts of the first node that
-- breaks a rule, in the order of the text, as far as the rule asks for them.
use Rattle.std.specs.Prelude.{◌≡◌, Bool, true, false, List, [], ◌∷◌, Option, Some, None}
use Rattle.std.specs.Prelude.{Result, Ok, Err, map}
use Rattle.nq_model.specs.Judging.{Verdict, judged}
use Rattle.nq_model.specs.Terms.{PlacedTerm, PlacedNode, PlacedFields, at}
use Rattle.nq_model.specs.TypeOf.{element_of}
use Rattle.nq_model.specs.Types.{TypeTree, type_tree, is_well_formed}
use Rattle.nq_model.specs.declared.table.Schema.{Schema}
use Rattle.nq_model.specs.declared.ty.Ty.{Ty}
use Rattle.nq_types.specs.declared.found.Part.{Part}
use Rattle.nq_types.specs.declared.found.Part.TheVariants.{Typed, Stopped}

-- what is found behind a part that has a type, or else inside it
abbrev pub behind : Verdict TypeTree → List TypeTree → (TypeTree → List TypeTree) → List TypeTree
behind (Ok a) inside more = more a
behind (Err e) inside more = inside

-- a comprehension's source, where it is no bag; or else what is found behind it
abbrev pub behind_source : TypeTree → Option TypeTree → (TypeTree → List TypeTree) → List TypeTree
behind_source a None more = a ∷ []
behind_source a (Some element) more = more element

-- a function's parameter, where it is not well formed; or else what is found in the body
abbrev pub behind_parameter : TypeTree → Bool → List TypeTree → List TypeTree
behind_parameter a false more = a ∷ []
behind_parameter a true more = more

-- what is found behind one part, and behind two
abbrev pub behind_one : Verdict TypeTree → List TypeTree → List TypeTree
behind_one v inside = behind v inside (λ a. a ∷ [])

abbrev pub behind_two : Verdict TypeTree → List TypeTree → Verdict TypeTree → List TypeTree
    → List TypeTree
behind_two v inside w within = behind v inside (λ a. behind w within (λ b. a ∷ b ∷ []))

module _ (schema : Schema) where
  abbrev mutual
    pub found : List TypeTree → PlacedTerm → List TypeTree
    found context (at place n) = found_in context n

    pub found_in : List TypeTree → PlacedNode → List TypeTree
    found_in context (PlacedNode.var n) = []
    found_in context (PlacedNode.int n) = []
    found_in context (PlacedNode.bool b) = []
    found_in context (PlacedNode.text t) = []
    found_in context (PlacedNode.table l) = []
    found_in context (PlacedNode.unary op t) =
        behind_one (judged schema context t) (found context t)
    found_in context (PlacedNode.binary op t u) =
        behind_two (judged schema context t) (found context t) (judged schema context u)
        (found context u)
    found_in context (PlacedNode.choose x t u) =
        behind (judged schema context x) (found context x)
        (λ c. behind (judged schema context t) (found context t)
        (λ a. behind (judged schema context u) (found context u) (λ b. c ∷ a ∷ b ∷ [])))
    found_in context (PlacedNode.fun a t) =
        behind_parameter a (is_well_formed a) (found (a ∷ context) t)
    found_in context (PlacedNode.apply t u) =
        behind_two (judged schema context t) (found context t) (judged schema context u)
        (found context u)
    found_in context (PlacedNode.rec fs) = found_among context fs
    found_in context (PlacedNode.field t l) =
        behind_one (judged schema context t) (found context t)
    found_in context (PlacedNode.aggregate g t) =
        behind_one (judged schema context t) (found context t)
    found_in context (PlacedNode.single t) =
        behind_one (judged schema context t) (found context t)
    found_in context (PlacedNode.nil a) = a ∷ []
    found_in context (PlacedNode.union t u) =
        behind_two (judged schema context t) (found context t) (judged schema context u)
        (found context u)
    found_in context (PlacedNode.for t u) =
        behind (judged schema context t) (found context t)
        (λ a. behind_source a (element_of a)
        (λ e. behind (judged schema (e ∷ context) u) (found (e ∷ context) u) (λ b. a ∷ b ∷ [])))
    found_in context (PlacedNode.guard x u) =
        behind_two (judged schema context x) (found context x) (judged schema context u)
        (found context u)
    found_in context (PlacedNode.bind t u) =
        behind (judged schema context t) (found context t) (λ a. found (a ∷ context) u)

    pub found_among : List TypeTree → PlacedFields → List TypeTree
    found_among context PlacedFields.none = []
    found_among context (PlacedFields.with_field l t fs) =
        behind (judged schema context t) (found context t) (λ _. found_among context fs)

  -- of a whole program, which has to be a bag
  abbrev pub program_found : PlacedTerm → List TypeTree
  program_found p = behind_one (judged schema [] p) (found [] p)

-- types as the checker has them
abbrev pub types_found : List Ty → List TypeTree
types_found types = map type_tree types

-- the part has the type, or judging it stops and these types are found
abbrev pub IsPart : Verdict TypeTree → List TypeTree → Part → Type 0
IsPart v inside (Typed ty) = v ≡ Ok (type_tree ty)
IsPart v inside (Stopped types) =
    (more : TypeTree → List TypeTree) → types_found types ≡ behind v inside more
