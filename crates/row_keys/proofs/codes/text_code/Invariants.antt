use Rattle.std.proofs.Common.{◌≡◌, take}
use Rattle.std.specs.List.{fold}
use Rattle.row_keys.specs.Codes.{code_with}
use Rattle.row_keys.proofs.codes.text_code.Given as goal

abbrev pub invariant-loop-byte : goal.invariant-loop-byte
invariant-loop-byte l = l.code ≡ fold code_with l.fn.code (take l.byte-index l.text)
