-- Fields whose labels rise are members in the same order.
use Rattle.std.proofs.Common.{◌≡◌, ℕ, List, refl, ap, ◌∙◌, Less}
use Rattle.std.specs.List.{AllByRecursion as Each}
use Rattle.nq_model.specs.Orders.{AreRising, label_cmp}
use Rattle.nq_model.specs.Values.{Fields, none, field}
use Rattle.serde_json.specs.Data.{Data, Members, no_members, member, put}
use Rattle.nq_json.specs.Json.{json, members_json}
use Rattle.nq_json.specs.Shapes.{keys_of}
use Rattle.nq_json.specs.Reading.{members_in_order}

-- a key below all others goes first
put_first : (l : List ℕ) (d : Data) (ms : Members) → Each (λ m. label_cmp l m ≡ Less) (keys_of ms) → put l d ms ≡ member l d ms
put_first l d no_members h = refl
put_first l d (member k e ms) h = rw h.0 refl

pub in_order : (gs : Fields) → AreRising (keys_of (members_in_order gs)) → members_json gs ≡ members_in_order gs
in_order none h = refl
in_order (field l v gs) h = ap (put l (json v)) (in_order gs h.1) ∙ put_first l (json v) (members_in_order gs) h.0
