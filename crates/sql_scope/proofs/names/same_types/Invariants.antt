use Rattle.std.proofs.Common.{◌≡◌, drop, map}
use Rattle.sql_profile.specs.Scope.{same_types}
use Rattle.sql_scope.proofs.names.same_types.Given as goal

abbrev pub invariant-loop-place : goal.invariant-loop-place
invariant-loop-place l = same_types (map (λ c. c.1) (drop l.place l.some)) (map (λ c. c.1) (drop l.place l.others)) ≡ same_types (map (λ c. c.1) l.some) (map (λ c. c.1) l.others)
