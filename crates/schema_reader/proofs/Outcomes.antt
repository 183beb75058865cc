-- What reading answers is what the text spells, or its fault.
use Rattle.std.proofs.Common.{◌≡◌, ℕ, List, [], refl, sym, subst, Option, Some, None, Result, Ok, Err, IfOk, IfSome, IsErrAnd, MatchResult, inl, inr}
use Rattle.std.specs.Str.{IsUtf8}
use Rattle.nq_model.specs.Tables.{IsProperSchema}
use Rattle.nq_model.specs.SchemaTexts.{WrittenTable, WritesTables, Fault, HasFault, Spells, schema_of}
use Rattle.nq_model.specs.declared.table.Schema.{Schema}
use Rattle.schema_reader.specs.Shapes.{tables_fault}
use Rattle.schema_reader.specs.Answers.{fault_view, Answers, IsFault, Reads}
use Rattle.schema_reader.specs.declared.fault.SchemaFault.{SchemaFault}
use Rattle.schema_reader.specs.declared.fault.SchemaFault.TheVariants as code
use Rattle.schema_reader.proofs.Verdicts.{spells, has_fault, spelled_proper, not_both, one_schema, one_fault}

pub answers_reads : (text : List ℕ) (result : Result Schema SchemaFault) (tables : List WrittenTable) → IsUtf8 text → WritesTables text tables
    → Answers result (tables_fault [] tables) (schema_of tables) → Reads result text
answers_reads text (Ok schema) tables u w h = subst (Spells text) (sym h.1) (spells text tables u w h.0)
answers_reads text (Err e) tables u w h = go (fault_view e) h
  where
    go : (o : Option (Fault × ℕ)) → IfSome o (λ x. tables_fault [] tables ≡ Some x) → IfSome o (λ x. HasFault text x.0 x.1)
    go None k = tt
    go (Some x) k = has_fault text tables x.0 x.1 u w k

pub reads_ok : (text : List ℕ) (result : Result Schema SchemaFault) → Reads result text → IfOk result (λ schema. IsProperSchema schema × Spells text schema)
reads_ok text (Ok schema) h = (spelled_proper text schema h, h)
reads_ok text (Err e) h = tt

pub reads_spelled : (text : List ℕ) (result : Result Schema SchemaFault) → Reads result text → (schema : Schema) → Spells text schema
    → MatchResult result (λ found. found ≡ schema) (λ e. e ≡ code.Memory)
reads_spelled text (Ok found) h schema s = one_schema text found schema h s
reads_spelled text (Err code.Memory) h schema s = refl
reads_spelled text (Err (code.NotUtf8 p)) h schema s = absurd (not_both text schema Fault.not_utf8 p s h)
reads_spelled text (Err (code.Syntax p)) h schema s = absurd (not_both text schema Fault.syntax p s h)
reads_spelled text (Err (code.TwiceTable p)) h schema s = absurd (not_both text schema Fault.twice_table p s h)
reads_spelled text (Err (code.TwiceColumn p)) h schema s = absurd (not_both text schema Fault.twice_column p s h)
reads_spelled text (Err (code.NoColumn p)) h schema s = absurd (not_both text schema Fault.no_column p s h)
reads_spelled text (Err (code.KeyColumn p)) h schema s = absurd (not_both text schema Fault.key_column p s h)
reads_spelled text (Err (code.OverLimit p)) h schema s = absurd (not_both text schema Fault.over_limit p s h)

same_fault : (text : List ℕ) (f g : Fault) (p q : ℕ) → HasFault text f p → HasFault text g q → ◌≡◌ {A = Option (Fault × ℕ)} (Some (f, p)) (Some (g, q))
same_fault text f g p q h k = let e = one_fault text f g p q h k in λ i. Some (e.0 i, e.1 i)

pub reads_faulty : (text : List ℕ) (result : Result Schema SchemaFault) → Reads result text → (f : Fault) (place : ℕ) → HasFault text f place → IsErrAnd result (IsFault f place)
reads_faulty text (Ok found) h f q k = absurd (not_both text found f q h k)
reads_faulty text (Err code.Memory) h f q k = inl refl
reads_faulty text (Err (code.NotUtf8 p)) h f q k = inr (same_fault text Fault.not_utf8 f p q h k)
reads_faulty text (Err (code.Syntax p)) h f q k = inr (same_fault text Fault.syntax f p q h k)
reads_faulty text (Err (code.TwiceTable p)) h f q k = inr (same_fault text Fault.twice_table f p q h k)
reads_faulty text (Err (code.TwiceColumn p)) h f q k = inr (same_fault text Fault.twice_column f p q h k)
reads_faulty text (Err (code.NoColumn p)) h f q k = inr (same_fault text Fault.no_column f p q h k)
reads_faulty text (Err (code.KeyColumn p)) h f q k = inr (same_fault text Fault.key_column f p q h k)
reads_faulty text (Err (code.OverLimit p)) h f q k = inr (same_fault text Fault.over_limit f p q h k)
