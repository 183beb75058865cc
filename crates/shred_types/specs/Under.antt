-- Paths under a path.
use Rattle.std.specs.Prelude.{List, map, ◌++◌}
use Rattle.nq_ir.specs.declared.path.Step.{Step}
use Rattle.nq_ir.specs.declared.path.Path.{Path}

-- the steps of each path
abbrev pub steps_of : List Path → List (List Step)
steps_of paths = map (λ p. p.steps) paths

-- each path after these steps
abbrev pub under : List Step → List (List Step) → List (List Step)
under prefix paths = map (λ p. prefix ++ p) paths
