use Rattle.std.proofs.Common.{◌≡◌, ◌++◌, drop, map, string_bytes}
use Rattle.sql_profile.specs.Printed.{more_sources}
use Rattle.sql_profile.specs.Trees.{bare_source}
use Rattle.sql_printer.proofs.from.put_more_sources.Given as goal

abbrev pub invariant-loop-source : goal.invariant-loop-source
invariant-loop-source l = string_bytes l.text ++ more_sources (map bare_source (drop l.source-index l.sources)) ≡ string_bytes l.initial.text ++ more_sources (map bare_source l.sources)
