use Rattle.std.proofs.Common.{[], ◌∷◌, ◌++◌, ◌∙◌, List, ℕ, ap}
use Rattle.std.proofs.lemmas.Str.{IsUtf8-append}
use Rattle.nq_json.proofs.Newline.{newline_read, newline_utf8}
use Rattle.nq_json.proofs.form.write_line.Goals as goal

pub returns-clause-text : goal.returns-clause-text
returns-clause-text c =
    c.from_vec.ensures ∙ c.in_ok-push.ensures.items ∙ ap (λ (t : List ℕ). t ++ 10 ∷ []) (c.in_ok-text.ensures.text c.requires)

pub returns-clause-reads_back : goal.returns-clause-reads_back
returns-clause-reads_back c = λ shallow.
    rw (c.from_vec.ensures ∙ c.in_ok-push.ensures.items)
    (newline_read c.in_ok-text.text.items _ c.in_ok-text.ensures.compact (c.in_ok-text.ensures.reads_back shallow))

pub returns-clause-utf8 : goal.returns-clause-utf8
returns-clause-utf8 c = rw (c.from_vec.ensures ∙ c.in_ok-push.ensures.items) (IsUtf8-append c.in_ok-text.text.items (10 ∷ []) c.in_ok-text.ensures.utf8 newline_utf8)
