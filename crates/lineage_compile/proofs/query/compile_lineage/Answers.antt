use Rattle.std.proofs.Common.{refl}
use Rattle.nq_ir.specs.Trees.{form_tree}
use Rattle.nq_model.specs.Terms.{placed}
use Rattle.lineage_compile.specs.declared.compiled.TracedTexts.{TracedTexts}
use Rattle.lineage_compile.proofs.Queries.{lineage_made}
use Rattle.lineage_compile.proofs.query.compile_lineage.Goals as goal

pub returns : goal.returns
returns c =
    let traced = c.in_ok-form.form in
    let compiled = c.in_ok-compiled.compiled in
    let says = c.in_ok-compiled.ensures in
    let made : TracedTexts = record {
      form = traced;
      result = compiled.result;
      texts = compiled.texts;
      columns = compiled.columns;
    } in
    lineage_made c.args.schema.now (placed c.args.term) (placed c.in_ok-plain.plain)
    (form_tree c.in_ok-normal.normal) c.requires.schema c.requires.free c.requires.proper
    c.in_ok-plain.ensures.reached c.in_ok-normal.ensures.of_type c.in_ok-normal.ensures.well_formed
    c.in_ok-normal.ensures.form made c.trace_laws.ensures.fit c.lineage_laws.ensures.traces
    traced.schema (form_tree traced.normal) c.in_ok-form.ensures.schema c.in_ok-form.ensures.normal
    c.in_ok-form.ensures.tables (record {
      normal = refl;
      result = says.result;
      columns = says.columns;
      texts = says.texts;
      proper_over = c.in_ok-form.ensures.proper;
      well_formed = c.in_ok-form.ensures.well_formed;
      shreds = says.shreds;
    })
