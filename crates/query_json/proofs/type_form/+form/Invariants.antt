use Rattle.std.proofs.Common.{◌≡◌, ◌-◌, length, drop}
use Rattle.nq_model.specs.Types.{field_types_of, fields_view}
use Rattle.serde_json.specs.View.{members_view}
use Rattle.query_json.specs.TypeForms.{fields_json}
use Rattle.query_json.proofs.type_form.+form.Given as goal

abbrev pub invariant-fields_json-loop-done : goal.invariant-fields_json-loop-done
invariant-fields_json-loop-done l =
    members_view l.map.entries ≡ fields_json (field_types_of (fields_view (drop (length l.fields - l.done) l.fields)))
