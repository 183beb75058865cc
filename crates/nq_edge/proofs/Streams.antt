-- What was written before, and what is written next.
use Rattle.std.proofs.Common.{◌≡◌, ℕ, List, ◌++◌, take, drop, Option, ap, sym, ◌∙◌, append_assoc, take-append-drop}
use Rattle.std.proofs.KnownBytes.{Appends-trans}
use Rattle.std.specs.Io.KnownBytes.{Appends}
use Rattle.nq_edge.specs.Streams.{WritesBefore}

-- the writer took the first of what was left
pub writes_more : (old mid new : Option (List ℕ)) (bytes rest later : List ℕ) (count : ℕ)
    → WritesBefore old mid bytes rest → Appends mid new (take count rest) → later ≡ drop count rest → WritesBefore old new bytes later
writes_more old mid new bytes rest later count before next is = record {
  front = before.front ++ take count rest;
  whole = before.whole ∙ ap (λ l. before.front ++ l) (sym (take-append-drop count rest)) ∙ sym (append_assoc before.front (take count rest) (drop count rest))
      ∙ ap (λ l. (before.front ++ take count rest) ++ l) (sym is);
  appended = Appends-trans old mid new before.front (take count rest) before.appended next;
}
