use Rattle.std.proofs.Common.{◌≡◌, All, map, take}
use Rattle.sql_profile.specs.Printed.{printed}
use Rattle.sql_profile.specs.Trees.{sql_tree}
use Rattle.natural_compile.specs.Texts.{SpellsTree}
use Rattle.natural_compile.proofs.normal.printed_texts.Given as goal

abbrev pub invariant-loop-text : goal.invariant-loop-text
invariant-loop-text l =
    (l.all ≡ map printed (map sql_tree (take l.text-index l.texts)))
    × All SpellsTree (map sql_tree (take l.text-index l.texts))
