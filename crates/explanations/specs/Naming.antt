-- What the names of expected kinds say.
use Rattle.std.specs.Prelude.{◌≡◌, ℕ, true, List}
use Rattle.std.specs.List.{Contains}
use Rattle.explanations.specs.Groups.{Group}
use Rattle.explanations.specs.Lists.{among, all_among}

-- all kinds of one of the groups are expected, and its name is among these
pub record IsNamed (groups : List Group) (expected said : List (List ℕ)) (group : Group) : Type 0
  where
    pub listed : Contains groups group
    pub full : all_among expected group.1 ≡ true
    pub named : Contains said group.0

-- Each name is that of a group all of whose kinds are expected, and each expected kind is in such a
-- group, where these are the groups, and the words of the kinds.
pub record Names (Kind : Type 0) (words : Kind → List ℕ) (groups : List Group)
    (expected said : List (List ℕ)) : Type 0 where
  pub right : (name : List ℕ) → Contains said name
      → (group : Group) × IsNamed groups expected said group × (group.0 ≡ name)
  pub whole : (kind : Kind) → among expected (words kind) ≡ true
      → (group : Group) × IsNamed groups expected said group
      × (among group.1 (words kind) ≡ true)
