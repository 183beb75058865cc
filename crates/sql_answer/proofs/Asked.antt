-- A text that spells a tree has no fault, so that of its reading only want of memory is left.
use Rattle.std.proofs.Common.{◌≡◌, ℕ, List, length, Err, refl}
use Rattle.sql_answer.specs.Asked.{IsSpelled}
use Rattle.sql_profile.specs.Texts.{Fault}
use Rattle.sql_profile.specs.Tokens.{First}
use Rattle.sql_profile.proofs.TextLaws.{spelled_faultless}
use Rattle.sql_reader.specs.Parsing.{Parsed}
use Rattle.sql_reader.specs.declared.fault.SqlFault.{SqlFault}
use Rattle.sql_reader.specs.declared.fault.SqlFault.TheVariants as code

pub only_memory : (text : List ℕ) (fault : SqlFault) → IsSpelled text → Parsed (Err fault) (length text) text → fault ≡ code.Memory
only_memory text code.Memory s p = refl
only_memory text (code.NotUtf8 place) s p = absurd (spelled_faultless First (length text) text s.0 Fault.not_utf8 place s.1 p)
only_memory text (code.Token place) s p = absurd (spelled_faultless First (length text) text s.0 Fault.token place s.1 p)
only_memory text (code.IntRange place) s p = absurd (spelled_faultless First (length text) text s.0 Fault.int_range place s.1 p)
only_memory text (code.Unexpected place) s p = absurd (spelled_faultless First (length text) text s.0 Fault.unexpected place s.1 p)
only_memory text (code.Deep place) s p = absurd (spelled_faultless First (length text) text s.0 Fault.deep place s.1 p)
