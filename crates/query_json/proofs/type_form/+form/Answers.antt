use Rattle.std.proofs.Common.{◌∙◌, ◌-◌, length, refl}
use Rattle.query_json.proofs.TypeFacts.{field_more}
use Rattle.query_json.proofs.type_form.+form.Goals as goal

pub fields_json-loop-done-preserved : goal.fields_json-loop-done-preserved
fields_json-loop-done-preserved t c =
    field_more c.args.fields.now c.loop-done.done (length c.args.fields.now - 1 - c.loop-done.done) c.index-fields-fields.result c.loop-done.map.entries c.insert.new.self.entries c.in_ok-name.name c.in_ok-member.member
    c.loop-done-test.true refl c.index-fields-fields.is (c.in_ok-name.ensures.ok ∙ c.as_str.ensures.value) c.in_ok-member.ensures c.in_ok-insert.ensures.entries c.loop-done.invariant
