use Rattle.std.proofs.Common.{◌≡◌, ◌++◌, drop, map, string_bytes}
use Rattle.sql_profile.specs.Printed.{more_withs}
use Rattle.sql_profile.specs.Trees.{with_tree}
use Rattle.sql_printer.proofs.text.put_more_withs.Given as goal

abbrev pub invariant-loop-with : goal.invariant-loop-with
invariant-loop-with l = string_bytes l.text ++ more_withs (map with_tree (drop l.with-index l.withs)) ≡ string_bytes l.initial.text ++ more_withs (map with_tree l.withs)
