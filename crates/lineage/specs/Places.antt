-- Bodies that stand at one place of a form: what stands in their bags and in their fields.
use Rattle.std.specs.Prelude.{ℕ, max, List, [], ◌∷◌, cond, length, map}
use Rattle.std.specs.Borrow.{Bor}
use Rattle.std.specs.List.{flat_map}
use Rattle.std.specs.Str.{bytes_eq}
use Rattle.nq_model.specs.NamedRows.{Label}
use Rattle.nq_ir.specs.Trees.{BodyTree, plain_body, rec_body, bag_body, Bodies, no_body, with_body}
use Rattle.nq_ir.specs.Trees.{Comps, no_comp, comp, body_tree}
use Rattle.nq_ir.specs.declared.normal.Body.{Body}

-- the comprehensions of a bag; what is no bag has none
abbrev pub comps_in : BodyTree → Comps
comps_in (plain_body b) = no_comp
comps_in (rec_body fs) = no_comp
comps_in (bag_body e cs) = cs

-- of comprehensions, not of those inside: their tags, their bodies, and the most generators of one
abbrev pub own_tags : Comps → List ℕ
own_tags no_comp = []
own_tags (comp t gens conds b cs) = t ∷ own_tags cs

abbrev pub own_bodies : Comps → List BodyTree
own_bodies no_comp = []
own_bodies (comp t gens conds b cs) = b ∷ own_bodies cs

abbrev pub most_gens : Comps → ℕ
most_gens no_comp = 0
most_gens (comp t gens conds b cs) = max (length gens) (most_gens cs)

-- the same of all bags that stand at a place
abbrev pub tags_in : List BodyTree → List ℕ
tags_in bs = flat_map (λ b. own_tags (comps_in b)) bs

abbrev pub inside : List BodyTree → List BodyTree
inside bs = flat_map (λ b. own_bodies (comps_in b)) bs

abbrev pub width : List BodyTree → ℕ
width [] = 0
width (b ∷ bs) = max (most_gens (comps_in b)) (width bs)

-- the body under a label, the first if there are more
abbrev pub field_body : Label → Bodies → List BodyTree
field_body l no_body = []
field_body l (with_body k b fs) = cond (bytes_eq l k) (b ∷ []) (field_body l fs)

abbrev pub body_under : Label → BodyTree → List BodyTree
body_under l (plain_body b) = []
body_under l (rec_body fs) = field_body l fs
body_under l (bag_body e cs) = []

-- the bodies under a label of all records that stand at a place
abbrev pub under : Label → List BodyTree → List BodyTree
under l bs = flat_map (body_under l) bs

-- bodies that are lent
abbrev pub lent : List (Bor Body) → List BodyTree
lent bodies = map (λ b. body_tree b.now) bodies

-- each field's label and body
abbrev pub bodies_view : List (Label × Body) → List (Label × BodyTree)
bodies_view fields = map (λ f. (f.0, body_tree f.1)) fields
