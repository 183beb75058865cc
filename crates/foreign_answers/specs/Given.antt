-- What a map from inner bags and indexes to rows tells.
use Rattle.std.specs.Prelude.{ℕ, nat_eq, Bool, ◌&&◌, Option}
use Rattle.std.specs.BTreeMap.{BTreeMap}
use Rattle.std.specs.Map.{lookup}

-- whether two inner bags are the same, and their indexes
abbrev pub same_key : {I : Type 0} → (I → I → Bool) → (ℕ × I) → (ℕ × I) → Bool
same_key eq a b = nat_eq a.0 b.0 && eq a.1 b.1

-- the number of the row that is entered with an index for the inner bag s
abbrev pub first_given : {I : Type 0} → (I → I → Bool) → BTreeMap (ℕ × I) ℕ → ℕ
    → I → Option ℕ
first_given eq firsts s i = lookup (same_key eq (s, i)) firsts.entries
