use Rattle.diagnostics.proofs.Utf8.{excerpt_utf8}
use Rattle.diagnostics.proofs.laws.excerpt_laws.Goals as goal

pub returns : goal.returns
returns c = excerpt_utf8
