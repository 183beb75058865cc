-- The walk beside the machine of `csv`, one byte at a time.
use Rattle.std.proofs.Common.{◌≡◌, ℕ, true, arith}
use Rattle.csv.specs.Machine.{step as machine_step}
use Rattle.csv.specs.Reading.{default_config}
use Rattle.csv.specs.declared.parser.State.{State}
use Rattle.csv.specs.declared.parser.State.TheVariants as st
use Rattle.table_explanations.specs.Agreement.{is_met, walk_after, walk_at}
use Rattle.table_explanations.specs.Places.{step}

pub goes : (row column byte : ℕ) (state : State) → is_met state ≡ true
    → step (walk_at row column state) byte
    ≡ walk_after row column (machine_step default_config state byte).0
    (machine_step default_config state byte).1
goes row column byte st.StartRecord e = grind arith
goes row column byte st.AfterCr e = grind arith
goes row column byte st.StartField e = grind arith
goes row column byte st.InField e = grind arith
goes row column byte st.InQuoted e = grind arith
goes row column byte st.AfterQuote e = grind arith
goes row column byte st.InEscape e = cc
goes row column byte st.InComment e = cc

pub met : (byte : ℕ) (state : State) → is_met state ≡ true
    → is_met (machine_step default_config state byte).0 ≡ true
met byte st.StartRecord e = grind arith
met byte st.AfterCr e = grind arith
met byte st.StartField e = grind arith
met byte st.InField e = grind arith
met byte st.InQuoted e = grind arith
met byte st.AfterQuote e = grind arith
met byte st.InEscape e = cc
met byte st.InComment e = cc
