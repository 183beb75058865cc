-- Lines that are put in pieces.
use Rattle.std.proofs.Common.{◌≡◌, ◌+◌, ℕ, List, ◌++◌, length, take, Option, Some, None, option_map, ap, ◌∙◌, sym, subst, arith, append_assoc, length-append}
use Rattle.std.proofs.Math.Seq.{take-append-add}
use Rattle.nq_edge.specs.Edge.{Rose, TellsMore}
use Rattle.nq_edge.specs.Lines.{PutsLine, whole, part}

-- two pieces that are told one after the other
pub tells_more : (old mid new : Option (List ℕ)) (first later : List ℕ) → TellsMore old mid first → TellsMore mid new later → TellsMore old new (first ++ later)
tells_more None mid new first later p q = record { told = q.told ∙ ap (option_map (λ all. all ++ later)) p.told }
tells_more (Some all) mid new first later p q =
    record { told = q.told ∙ ap (option_map (λ all. all ++ later)) p.told ∙ ap Some (append_assoc all first later) }

-- a piece that was put whole, and then what was put of the rest
pub put_then : (old mid new : Option (List ℕ)) (before between now : ℕ) (first later : List ℕ)
    → TellsMore old mid first → between ≡ before → PutsLine mid new between now later → PutsLine old new before now (first ++ later)
put_then old mid new before between now first later put same (whole rest stays) =
    whole (tells_more old mid new first later put rest) (stays ∙ same)
put_then old mid new before between now first later put same (part (count, within, rest) rose) =
    let P : List ℕ → Type 0 = λ bytes. TellsMore old new bytes in
    part
    (length first + count, omega (arith, length-append first later), subst P (sym (take-append-add first later count)) (tells_more old mid new first (take count later) put rest))
    (let Q : ℕ → Type 0 = λ n. Rose n now in subst Q same rose)
