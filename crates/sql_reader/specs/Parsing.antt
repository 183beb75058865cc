-- What an answer of the reader of SQL texts says.
use Rattle.std.specs.Prelude.{ℕ, List, ⊤, Result, Ok, Err}
use Rattle.sql_profile.specs.Texts.{Fault, Spells, HasFault}
use Rattle.sql_profile.specs.Tokens.{First}
use Rattle.sql_profile.specs.Trees.{placed}
use Rattle.sql_profile.specs.declared.tree.SqlText.{SqlText}
use Rattle.sql_reader.specs.declared.fault.SqlFault.{SqlFault}
use Rattle.sql_reader.specs.declared.fault.SqlFault.TheVariants as code

-- the tree that the text spells at depth d, or the fault that it has; want of memory is free
abbrev pub Parsed : Result SqlText SqlFault → ℕ → List ℕ → Type 0
Parsed (Ok t) d text = Spells First d text (placed t)
Parsed (Err code.Memory) d text = ⊤
Parsed (Err (code.NotUtf8 p)) d text = HasFault First d text Fault.not_utf8 p
Parsed (Err (code.Token p)) d text = HasFault First d text Fault.token p
Parsed (Err (code.IntRange p)) d text = HasFault First d text Fault.int_range p
Parsed (Err (code.Unexpected p)) d text = HasFault First d text Fault.unexpected p
Parsed (Err (code.Deep p)) d text = HasFault First d text Fault.deep p
