use Rattle.std.proofs.Common.{◌∙◌, ap, length, sym}
use Rattle.std.proofs.lemmas.List.Sorted.{length_permutation}
use Rattle.answer_text.proofs.order.sort_by_cells.Goals as goal

pub copy_from_slice-requires : goal.copy_from_slice-requires
copy_from_slice-requires c = sym (ap length c.as_slice.ensures.value
    ∙ length_permutation _ _ c.in_ok-sorted.ensures.places ∙ ap length c.in_ok-copy.ensures.items)
