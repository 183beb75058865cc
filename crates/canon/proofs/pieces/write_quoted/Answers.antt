use Rattle.std.proofs.Common.{rules, lit<}
use Rattle.std.proofs.lemmas.Str.Pattern.{split_parts}
use Rattle.canon.proofs.Writing.{quote_written, quoted_ends}
use Rattle.canon.proofs.pieces.write_quoted.Goals as goal

pub loop-before-preserved : goal.loop-before-preserved
loop-before-preserved c =
    let found = rw c.in-Some.is at
    (split_parts 39 c.loop-before.rest.now c.split_once.result c.split_once.ensures.cases
    (lit< tt)) in (
      search rules,
      quote_written _ _ _ _ _ _ _ found.0 found.1 c.in_ok-push_str-2.ensures.bytes
          c.in_ok-push_str-3.ensures.bytes c.loop-before.invariant.1,
    )

pub returns : goal.returns
returns c =
    let none = rw c.in_default.is at
    (split_parts 39 c.loop-before.rest.now c.split_once.result c.split_once.ensures.cases
    (lit< tt)) in
    quoted_ends _ _ _ _ _ _ c.args.quoted.now none c.in_ok-push_str.ensures.bytes
    c.loop-before.invariant.1 c.in_ok-push_str-4.ensures.bytes c.in_ok-push_str-5.ensures.bytes
