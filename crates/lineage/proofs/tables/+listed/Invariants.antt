use Rattle.std.proofs.Common.{◌≡◌, ◌++◌, drop, map}
use Rattle.nq_ir.specs.Trees.{comps_of, comp_part, bodies_of}
use Rattle.lineage.specs.ListedTables.{listed, listed_bodies}
use Rattle.lineage.specs.Places.{bodies_view}
use Rattle.lineage.proofs.tables.+listed.Given as goal

abbrev pub invariant-push_listed-loop-comp : goal.invariant-push_listed-loop-comp
invariant-push_listed-loop-comp l =
    l.tables ++ listed (comps_of (map comp_part (drop l.comp-index l.comps)))
    ≡ l.initial.tables ++ listed (comps_of (map comp_part l.comps))

abbrev pub invariant-push_fields-loop-field : goal.invariant-push_fields-loop-field
invariant-push_fields-loop-field l =
    l.tables ++ listed_bodies (bodies_of (bodies_view (drop l.field-index l.fields)))
    ≡ l.initial.tables ++ listed_bodies (bodies_of (bodies_view l.fields))
