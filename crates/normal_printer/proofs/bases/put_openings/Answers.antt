use Rattle.std.proofs.Common.{◌++◌, string_bytes, append-nil, sym, ap, ◌∙◌}
use Rattle.normal_printer.specs.Chains.{openings}
use Rattle.normal_printer.proofs.Chains.{bare_openings, opened}
use Rattle.normal_printer.proofs.bases.put_openings.Goals as goal

pub loop-preserved : goal.loop-preserved
loop-preserved c = opened c.loop.counter (string_bytes c.args.text.now) _ _ c.loop.invariant c.in_ok-push_str.ensures.bytes

pub returns-then-is_bare : goal.returns-then-is_bare
returns-then-is_bare c =
    let old = string_bytes c.args.text.now in
    let none = ap (λ bare. openings bare c.args.inner) (sym c.is_bare.ensures ∙ c.if-is_bare.true) ∙ bare_openings c.args.inner in
    sym (append-nil old) ∙ ap (λ l. old ++ l) (sym none)
