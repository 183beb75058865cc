use Rattle.std.proofs.Common.{◌≡◌, ℕ, List, IsPermutation, map, refl, ap, ◌∙◌, subst, rules}
use Rattle.std.proofs.lemmas.Fn.{always_returns_same}
use Rattle.std.proofs.lemmas.List.Elements.{All-map, All-same}
use Rattle.std.proofs.lemmas.List.Sorted.{All-permutation, IsPermutation-map, ranks_by}
use Rattle.std.proofs.lemmas.Simd.{map-map}
use Rattle.std.specs.List.{All}
use Rattle.row_order.specs.declared.ranks.Ranked.{Ranked}
use Rattle.row_order.specs.declared.heads.Frame.{Frame}
use Rattle.row_order.specs.Ranks.{ranked_at}
use Rattle.row_order.specs.Runs.{places_of}
use Rattle.row_order.proofs.Ranking.{head_order}
use Rattle.row_order.proofs.runs.sort_by_rank.Goals as goal

pub returns-clause-permutation : goal.returns-clause-permutation
returns-clause-permutation c =
    let rank : Ranked → Ranked = λ ranked. ranked_at c.args.rows.now c.args.column c.frame_of-frame.result ranked.place in
    let place : Ranked → ℕ = λ ranked. ranked.place in
    let same : places_of c.rank_rows.new.ranks ≡ places_of c.args.ranks.now = ap places_of c.rank_rows.ensures ∙ map-map place rank c.args.ranks.now in
    let P : List ℕ → Type 0 = λ l. IsPermutation l (places_of c.sort_unstable_by.new.self) in
    subst P same (IsPermutation-map place c.rank_rows.new.ranks c.sort_unstable_by.new.self c.sort_unstable_by.ensures.permutation)

pub returns-clause-ranked : goal.returns-clause-ranked
returns-clause-ranked c =
    let frame : Frame = c.frame_of-frame.result in
    let rank : Ranked → Ranked = λ ranked. ranked_at c.args.rows.now c.args.column frame ranked.place in
    let P : Ranked → Type 0 = λ ranked. ranked ≡ rank ranked in
    let made : All P (map rank c.args.ranks.now) = All-map P rank c.args.ranks.now (λ k d h. refl) in
    (frame, All-permutation P c.rank_rows.new.ranks c.sort_unstable_by.new.self c.sort_unstable_by.ensures.permutation (All-same P c.rank_rows.new.ranks (map rank c.args.ranks.now) c.rank_rows.ensures made))

pub returns-clause-sorted : goal.returns-clause-sorted
returns-clause-sorted c =
    let stored : Ranked → ℕ = λ ranked. ranked.head in
    c.sort_unstable_by.ensures.sorted _ (ranks_by head_order.total stored) (always_returns_same _ _ _ (λ a r f h. (search rules, search rules)))
