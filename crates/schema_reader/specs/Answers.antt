-- What a judgement of written tables answers.
use Rattle.std.specs.Prelude.{◌≡◌, ℕ, List, Option, Some, None, Result, Ok, Err, IfSome, ◌⊎◌}
use Rattle.nq_model.specs.SchemaTexts.{Fault, WrittenColumn, HasFault, Spells}
use Rattle.nq_model.specs.declared.table.Schema.{Schema}
use Rattle.nq_model.specs.declared.table.ColumnType.{ColumnType}
use Rattle.schema_reader.specs.declared.fault.SchemaFault.{SchemaFault}
use Rattle.schema_reader.specs.declared.fault.SchemaFault.TheVariants as code

-- the fault with its place; want of memory is none
abbrev pub fault_view : SchemaFault → Option (Fault × ℕ)
fault_view code.Memory = None
fault_view (code.NotUtf8 p) = Some (Fault.not_utf8, p)
fault_view (code.Syntax p) = Some (Fault.syntax, p)
fault_view (code.TwiceTable p) = Some (Fault.twice_table, p)
fault_view (code.TwiceColumn p) = Some (Fault.twice_column, p)
fault_view (code.NoColumn p) = Some (Fault.no_column, p)
fault_view (code.KeyColumn p) = Some (Fault.key_column, p)
fault_view (code.OverLimit p) = Some (Fault.over_limit, p)

-- an error is want of memory, or the fault that was found
abbrev pub Tells : SchemaFault → Option (Fault × ℕ) → Type 0
Tells e found = IfSome (fault_view e) (λ x. found ≡ Some x)

-- an `Ok` says that no fault was found
abbrev pub Judges : Result (Unit {0}) SchemaFault → Option (Fault × ℕ) → Type 0
Judges (Ok _) found = found ≡ None
Judges (Err e) found = Tells e found

-- where no fault was found the answer is this value
abbrev pub Answers : {A : Type 0} → Result A SchemaFault → Option (Fault × ℕ) → A → Type 0
Answers (Ok x) found y = (found ≡ None) × (x ≡ y)
Answers (Err e) found y = Tells e found

-- a column of a schema, of a written one
abbrev pub pair_of : WrittenColumn → List ℕ × ColumnType
pair_of c = (c.name.text, c.kind)

-- an error is want of memory, or the fault of the text
abbrev pub HasCause : List ℕ → SchemaFault → Type 0
HasCause text e = IfSome (fault_view e) (λ x. HasFault text x.0 x.1)

-- the error is want of memory, or this fault at this place
abbrev pub IsFault : Fault → ℕ → SchemaFault → Type 0
IsFault f place e = (e ≡ code.Memory) ⊎ (fault_view e ≡ Some (f, place))

-- the text spells the schema, or it has the fault
abbrev pub Reads : Result Schema SchemaFault → List ℕ → Type 0
Reads (Ok schema) text = Spells text schema
Reads (Err e) text = HasCause text e
