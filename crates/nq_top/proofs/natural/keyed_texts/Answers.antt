use Rattle.std.proofs.Common.{◌≡◌, subst, rules}
use Rattle.nq_model.specs.Terms.{bare, placed}
use Rattle.nq_model.specs.Types.{type_tree}
use Rattle.nq_ir.specs.NormalForms.{normal_form}
use Rattle.natural_index.specs.Naming.{NoKeySays, no_key}
use Rattle.natural_index.specs.declared.fault.NaturalFault.{NaturalFault}
use Rattle.natural_index.specs.declared.fault.NaturalFault.TheVariants.{NoKey}
use Rattle.nq_top.specs.Steps.{typed_view}
use Rattle.nq_top.proofs.NaturalTexts.{says_keyless, says_made, stands}
use Rattle.nq_top.proofs.Showings.{typed_accepted}
use Rattle.nq_top.proofs.natural.keyed_texts.Goals as goal

pub compile_by_keys-requires-clause-schema : goal.compile_by_keys-requires-clause-schema
compile_by_keys-requires-clause-schema c = c.requires.proper_schema

pub compile_by_keys-requires-clause-proper : goal.compile_by_keys-requires-clause-proper
compile_by_keys-requires-clause-proper c = c.requires.proper

pub compile_by_keys-requires-clause-accepted : goal.compile_by_keys-requires-clause-accepted
compile_by_keys-requires-clause-accepted c =
    typed_accepted c.args.schema.now (placed c.args.query.term) (type_tree c.args.query.ty)
    c.requires.typed

pub returns-in-Ok-clause-stands : goal.returns-in-Ok-clause-stands
returns-in-Ok-clause-stands c =
    let made = c.in-Ok.made in
    let says = c.in-Ok.ensures in
    stands c.args.schema.now (typed_view c.args.query) c.requires made says.result says.paths
    says.of_type says.columns says.scoped says.stitched

pub returns-in-Ok-clause-says : goal.returns-in-Ok-clause-says
returns-in-Ok-clause-says c =
    let says = c.in-Ok.ensures in
    says_made c.args.schema.now (typed_view c.args.query) c.requires c.in-Ok.made says.named
    says.keys says.texts

pub returns-clause-says : goal.returns-clause-says
returns-clause-says c =
    let at : c.in-Err-NoKey.field-0 ≡ NoKey c.in-Err-NoKey.table = search rules in
    says_keyless c.args.schema.now (typed_view c.args.query) c.requires c.in-Err-NoKey.table
    (λ element plain accepted unfolds. subst (λ (f : NaturalFault). NoKeySays
    (no_key c.args.schema.now.tables
    (normal_form c.args.schema.now.tables element (bare plain))) f) at
    (c.in-Err-NoKey.ensures.fault element plain accepted unfolds))
