use Rattle.std.proofs.Common.{◌≡◌, [], ◌++◌, codes, drop, length, string_bytes}
use Rattle.normal_printer.specs.Chains.{chain_rest}
use Rattle.normal_printer.specs.Parts.{test_term}
use Rattle.normal_printer.proofs.Joined.{cond_term, joined, part_at}
use Rattle.normal_printer.proofs.bases.+put_base.Given as goal

abbrev pub invariant-put_where-loop-place : goal.invariant-put_where-loop-place
invariant-put_where-loop-place l =
    string_bytes l.text ++ joined (part_at cond_term 4 (length l.conds)) (codes "where (") (codes " && ") l.place (drop l.place l.conds)
    ≡ string_bytes l.initial.text ++ joined (part_at cond_term 4 (length l.conds)) (codes "where (") (codes " && ") 0 l.conds

abbrev pub invariant-put_tests-loop-place : goal.invariant-put_tests-loop-place
invariant-put_tests-loop-place l =
    string_bytes l.text ++ joined (part_at test_term 2 (length l.tests)) [] (codes " ++ ") l.place (drop l.place l.tests)
    ≡ string_bytes l.initial.text ++ joined (part_at test_term 2 (length l.tests)) [] (codes " ++ ") 0 l.tests

abbrev pub invariant-put_more-loop-place : goal.invariant-put_more-loop-place
invariant-put_more-loop-place l =
    string_bytes l.text ++ chain_rest l.op l.place (drop l.place l.more) ≡ string_bytes l.initial.text ++ chain_rest l.op 0 l.more
