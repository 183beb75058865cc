-- What `show sql` writes of SQL texts: each in a frame that tells its path and its length in bytes,
-- so that the texts can be cut out by counting.
use Rattle.std.specs.Prelude.{ℕ, List, [], ◌∷◌, ◌++◌, codes, length}
use Rattle.std.specs.Fmt.{decimal}
use Rattle.nq_ir.specs.declared.path.Step.{Step}
use Rattle.command_line.specs.Paths.{path_text}

abbrev pub frame : List Step → List ℕ → List ℕ
frame path text =
    codes "-- " ++ (path_text path ++ (codes " " ++ (decimal (length text)
    ++ (codes "\n" ++ (text ++ codes "\n;\n")))))

-- a frame for each path with its text
abbrev pub frames : List (List Step) → List (List ℕ) → List ℕ
frames [] texts = []
frames (path ∷ paths) [] = []
frames (path ∷ paths) (text ∷ texts) = frame path text ++ frames paths texts
