use Rattle.std.proofs.Common.{◌≡◌, ◌++◌, string_bytes, length}
use denote.Text.{Utf8}
use denote.Shadow.{shadow}
use Rattle.nq_model.specs.Canonical.{doubled_quotes}
use Rattle.canon.proofs.pieces.write_quoted.Given as goal

abbrev pub invariant-loop-before : goal.invariant-loop-before
invariant-loop-before l =
    shadow (Utf8 l.rest) × (string_bytes l.text ++ doubled_quotes l.rest
    ≡ string_bytes l.initial.text ++ doubled_quotes l.quoted)

abbrev pub decreases-loop-before : goal.decreases-loop-before
decreases-loop-before l = length l.rest
