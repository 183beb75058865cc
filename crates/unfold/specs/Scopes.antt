-- How the code's binders stand for the entries of an environment.
use Rattle.std.specs.Prelude.{◌≡◌, List, [], ◌∷◌, reverse}
use Rattle.unfold.specs.declared.scope.Binder.{Binder}
use Rattle.unfold.specs.declared.scope.Binder.TheVariants.{Stays, Given}
use Rattle.unfold.specs.declared.scope.Scope.{Scope}
use Rattle.unfold.specs.Environments.{Entry, stays, given}
use Rattle.unfold.specs.Slots.{Holds}

-- the binder stands for the entry, whose term it holds or has given away
abbrev pub IsFor : Binder → Entry → Type 0
IsFor (Stays m) (stays n) = m ≡ n
IsFor (Given m slot) (given n s) = (m ≡ n) × Holds slot s
IsFor _ _ = ⊥

-- each binder stands for the entry at its place
abbrev pub EachFor : List Binder → List Entry → Type 0
EachFor [] [] = Unit {0}
EachFor (b ∷ bs) (e ∷ es) = IsFor b e × EachFor bs es
EachFor _ _ = ⊥

-- the scope stands for the entries, of which the innermost is the first and in the scope the last
abbrev pub Stands : Scope → List Entry → Type 0
Stands scope es = EachFor scope.binders.items (reverse es)

-- a call that leaves the scope standing for what it stood for, and of which this is known
abbrev pub Keeps : Scope → Scope → (List Entry → Type 0) → Type 0
Keeps old new known = (es : List Entry) → Stands old es → known es × Stands new es
