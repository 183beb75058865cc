use Rattle.std.proofs.Common.{◌≡◌, [], ◌++◌, codes, drop, string_bytes}
use Rattle.sql_printer.specs.Chains.{printed_links}
use Rattle.sql_printer.proofs.Items.{item_text, joined, key_text, select_text}
use Rattle.sql_printer.proofs.+put.Given as goal

abbrev pub invariant-expr::put_keys-loop-place : goal.invariant-expr::put_keys-loop-place
invariant-expr::put_keys-loop-place l =
    string_bytes l.text ++ joined key_text (codes "ORDER BY ") (codes ", ") l.place (drop l.place l.keys)
    ≡ string_bytes l.initial.text ++ joined key_text (codes "ORDER BY ") (codes ", ") 0 l.keys

abbrev pub invariant-query::put_query-loop-place : goal.invariant-query::put_query-loop-place
invariant-query::put_query-loop-place l =
    string_bytes l.text ++ joined select_text [] (codes " UNION ALL ") l.place (drop l.place l.select-items)
    ≡ string_bytes l.initial.text ++ joined select_text [] (codes " UNION ALL ") 0 l.select-items

abbrev pub invariant-query::put_items-loop-place : goal.invariant-query::put_items-loop-place
invariant-query::put_items-loop-place l =
    string_bytes l.text ++ joined item_text [] (codes ", ") l.place (drop l.place l.items)
    ≡ string_bytes l.initial.text ++ joined item_text [] (codes ", ") 0 l.items

abbrev pub invariant-expr::put_links-loop-link : goal.invariant-expr::put_links-loop-link
invariant-expr::put_links-loop-link l = string_bytes l.text ++ printed_links l.op (drop l.link-index l.links) ≡ string_bytes l.initial.text ++ printed_links l.op l.links
