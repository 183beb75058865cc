-- What a fetch and a put do to what stands outside the program.
use Rattle.std.specs.Prelude.{◌≡◌, ◌<◌, ◌≤◌, ◌-◌, ◌^◌, ◌⊎◌, ℕ, List, [], ◌∷◌, ◌++◌, length, take, ⊤, Option, Some, None, find, option_map, Result, Ok, Err}
use Rattle.std.specs.Str.{bytes_eq}
use Rattle.nq_edge.specs.declared.inputs.FetchFault.{FetchFault}
use Rattle.nq_edge.specs.declared.inputs.FetchFault.TheVariants.{Memory, Failed, Long}
use Rattle.nq_edge.specs.declared.sink.PutFault.{PutFault}
use Rattle.nq_edge.specs.declared.sink.PutFault.TheVariants as put

-- the names that are held, each with its bytes
abbrev pub Files : Type 0
Files = List (List ℕ × List ℕ)

-- the bytes that are held under a name
abbrev pub bytes_at : Files → List ℕ → Option (List ℕ)
bytes_at files name = option_map (λ file. file.1) (find (λ file. bytes_eq file.0 name) files)

-- a count rose, or stands at the greatest value that 64 bits have
abbrev pub Rose : ℕ → ℕ → Type 0
Rose before now = (before < now) ⊎ ((before ≡ 2 ^ 64 - 1) × (now ≡ 2 ^ 64 - 1))

-- what is told grew by these, and what is not told stays so
pub record TellsMore {A : Type 0} (old new : Option (List A)) (more : List A) : Type 0 where
  pub told : new ≡ option_map (λ all. all ++ more) old

-- what is told grew by a prefix of these
abbrev pub AppendsPrefix : Option (List ℕ) → Option (List ℕ) → List ℕ → Type 0
AppendsPrefix old new bytes = (count : ℕ) × (count ≤ length bytes) × TellsMore old new (take count bytes)

-- the count rose where the fetch failed, and else stayed
abbrev pub FetchCounts : {T : Type 0} → ℕ → ℕ → Result T FetchFault → Type 0
FetchCounts before now (Ok _) = now ≡ before
FetchCounts before now (Err Memory) = now ≡ before
FetchCounts before now (Err Failed) = Rose before now
FetchCounts before now (Err Long) = now ≡ before

-- the told names grew by the name of the call, but for a call that found no memory
abbrev pub FetchTells : {T : Type 0} → Option (List (List ℕ)) → Option (List (List ℕ)) → List ℕ → Result T FetchFault → Type 0
FetchTells old new name (Ok _) = TellsMore old new (name ∷ [])
FetchTells old new name (Err Memory) = new ≡ old
FetchTells old new name (Err Failed) = TellsMore old new (name ∷ [])
FetchTells old new name (Err Long) = TellsMore old new (name ∷ [])

-- bytes are held, and more of them than the limit
abbrev pub IsLonger : ℕ → Option (List ℕ) → Type 0
IsLonger limit None = ⊥
IsLonger limit (Some bytes) = limit < length bytes

-- the answer is right for what is held under the name
abbrev pub FetchAnswers : Option (List ℕ) → ℕ → Result (List ℕ) FetchFault → Type 0
FetchAnswers held limit (Ok bytes) = held ≡ Some bytes
FetchAnswers held limit (Err Memory) = ⊤
FetchAnswers held limit (Err Failed) = ⊤
FetchAnswers held limit (Err Long) = IsLonger limit held

-- the count rose where the put failed, and else stayed
abbrev pub PutCounts : {T : Type 0} → ℕ → ℕ → Result T PutFault → Type 0
PutCounts before now (Ok _) = now ≡ before
PutCounts before now (Err put.Failed) = Rose before now

-- all of the bytes were appended, or a prefix of them where the put failed
abbrev pub PutAppends : {T : Type 0} → Option (List ℕ) → Option (List ℕ) → List ℕ → Result T PutFault → Type 0
PutAppends old new bytes (Ok _) = TellsMore old new bytes
PutAppends old new bytes (Err put.Failed) = AppendsPrefix old new bytes
