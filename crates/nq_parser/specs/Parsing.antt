-- What an answer of the reader of query texts says.
use Rattle.std.specs.Prelude.{ℕ, List, ⊤, Result, Ok, Err}
use Rattle.nq_model.specs.Terms.{placed}
use Rattle.nq_model.specs.QueryTexts.{Fault, Spells, HasFault}
use Rattle.nq_model.specs.declared.term.Term.{Term}
use Rattle.query_syntax.specs.declared.fault.SyntaxFault.{SyntaxFault}
use Rattle.query_syntax.specs.declared.fault.SyntaxFault.TheVariants as code

-- the term that the text spells at depth d, or the fault that it has; want of memory is free
abbrev pub Parsed : Result Term SyntaxFault → ℕ → List ℕ → Type 0
Parsed (Ok t) d text = Spells d text (placed t)
Parsed (Err code.Memory) d text = ⊤
Parsed (Err (code.NotUtf8 p)) d text = HasFault d text Fault.not_utf8 p
Parsed (Err (code.Token p)) d text = HasFault d text Fault.token p
Parsed (Err (code.Unexpected p)) d text = HasFault d text Fault.unexpected p
Parsed (Err (code.IntRange p)) d text = HasFault d text Fault.int_range p
Parsed (Err (code.Deep p)) d text = HasFault d text Fault.deep p
Parsed (Err (code.Unbound p)) d text = HasFault d text Fault.unbound p
Parsed (Err (code.TwiceLabel p)) d text = HasFault d text Fault.twice_label p
