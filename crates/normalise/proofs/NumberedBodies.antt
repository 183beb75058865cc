-- What the numbering of the code's bodies gives.
use Rattle.std.proofs.Common.{◌≡◌, ℕ, zero, suc, ◌+◌, ◌<◌, ◌≤◌, List, [], ◌∷◌, ◌++◌, drop, drop-cons, add-one, append_assoc, get_or, map, refl, sym, ap, ap₂, ◌∙◌, length, arith}
use Rattle.nq_model.specs.NamedRows.{Label}
use Rattle.nq_model.specs.Types.{TypeTree, FieldTypes, field_types_of, fields_view as types_view, type_tree}
use Rattle.nq_model.specs.declared.ty.Ty.{Ty}
use Rattle.nq_ir.specs.NormalForms.{gens_in_body, gens_in_conds, gens_in_fields, gens_in_comps as gens_in_form, tags_in_body, tags_in_fields, tags_in_comps, number_gens, deal, number_conds, number_body, number_fields, number_comps, first_type, rest_types}
use Rattle.nq_ir.specs.RawForms.{RawBody}
use Rattle.nq_ir.specs.Trees.{BodyTree, FormTree, CompPart as NumberedComp, with_body, comp, body_layer, comp_layer, normal_layer, form_tree, base_tree, body_tree, comp_part as numbered_part, conds_of as numbered_conds, bodies_of, comps_of as numbered_comps}
use Rattle.nq_ir.specs.declared.base.Base.{Base}
use Rattle.nq_ir.specs.declared.base.Gen.{Gen}
use Rattle.nq_ir.specs.declared.normal.Body.{Body}
use Rattle.nq_ir.specs.declared.normal.Comp.{Comp, roll-Comp}
use Rattle.nq_ir.specs.declared.normal.Normal.{fold-roll-Normal, roll-Normal}
use Rattle.nq_ir.proofs.Forms.{comp_is as numbered_is}
use Rattle.normalise.specs.Raw.{CompPart, comps_of, comp_part, fields_of, fields_view, moved_base, moved_body, raw_body, raw_conds}
use Rattle.normalise.specs.Numbers.{without, numbers, numbers_layer, dealt, bases_numbered, gens_in_bases, tags_in_part, gens_in_comp, tags_in_parts, gens_in_comps, comp_numbered, comps_numbered, tags_in_list, gens_in_list, fields_numbered}
use Rattle.normalise.specs.declared.raw.MovedBody.{MovedBody}
use Rattle.normalise.specs.declared.raw.RawComp.{RawComp as CodeComp}
use Rattle.normalise.specs.declared.numbers.Numbers.{Numbers-F, fold-roll-Numbers}
use Rattle.normalise.specs.declared.numbers.Numbers.TheVariants.{Top, rolls-Top}
use Rattle.normalise.proofs.MovedBodies.{body_gens_moved, body_numbered, tags_moved}
use Rattle.normalise.proofs.Views.{comp_is, moved_body_is}
use Rattle.normalise.proofs.Numbering.{deal_dealt, conds_are, conds_have}

pub fields_are : (t n : ℕ) (sc : List ℕ) (gs : FieldTypes) (fs : List (Label × RawBody)) → number_fields t n sc gs (fields_of fs) ≡ bodies_of (fields_numbered t n sc gs fs)
fields_are t n sc gs [] = refl
fields_are t n sc gs (f ∷ fs) =
    ap (with_body f.0 (number_body t n sc (first_type gs) f.1)) (fields_are (t + tags_in_body f.1) (n + gens_in_body f.1) sc (rest_types gs) fs)

pub fields_tags : (fs : List (Label × RawBody)) → tags_in_fields (fields_of fs) ≡ tags_in_list fs
fields_tags [] = refl
fields_tags (f ∷ fs) = ap (λ z. tags_in_body f.1 + z) (fields_tags fs)

pub fields_gens : (fs : List (Label × RawBody)) → gens_in_fields (fields_of fs) ≡ gens_in_list fs
fields_gens [] = refl
fields_gens (f ∷ fs) = ap (λ z. gens_in_body f.1 + z) (fields_gens fs)

pub comps_are : (t n : ℕ) (sc : List ℕ) (a : TypeTree) (cs : List CompPart) → number_comps t n sc a (comps_of cs) ≡ numbered_comps (comps_numbered t n sc a cs)
comps_are t n sc a [] = refl
comps_are t n sc a (c ∷ cs) =
    let e : suc t + tags_in_body c.body ≡ t + suc (tags_in_body c.body) = omega arith in
    let f : n + length c.tables + gens_in_conds c.conds + gens_in_body c.body ≡ n + (length c.tables + (gens_in_conds c.conds + gens_in_body c.body)) = omega arith in
    ap (comp t (number_gens n c.tables) (number_conds (n + length c.tables) (deal n c.tables sc) c.conds) (number_body (suc t) (n + length c.tables + gens_in_conds c.conds) (deal n c.tables sc) a c.body)) (ap₂ (λ x y. number_comps x y sc a (comps_of cs)) e f ∙ comps_are (t + tags_in_part c) (n + gens_in_comp c) sc a cs)

pub comps_tags : (cs : List CompPart) → tags_in_comps (comps_of cs) ≡ tags_in_parts cs
comps_tags [] = refl
comps_tags (c ∷ cs) = let h = comps_tags cs in omega arith

pub comps_gens : (cs : List CompPart) → gens_in_form (comps_of cs) ≡ gens_in_comps cs
comps_gens [] = refl
comps_gens (c ∷ cs) = let h = comps_gens cs in omega arith

-- a body that is moved, numbered
pub body_made : (m : MovedBody) (t n : ℕ) (sc : List ℕ) (a : TypeTree) → number_body t n (without m.more m.from sc) a (raw_body m.body.value) ≡ number_body t n sc a (moved_body m)
body_made m t n sc a = sym (ap (number_body t n sc a) (moved_body_is m) ∙ body_numbered (raw_body m.body.value) t n m.more m.from sc a)

pub body_has_tags : (m : MovedBody) → tags_in_body (raw_body m.body.value) ≡ tags_in_body (moved_body m)
body_has_tags m = sym (ap tags_in_body (moved_body_is m) ∙ tags_moved (raw_body m.body.value) m.more m.from)

pub body_has_gens : (m : MovedBody) → gens_in_body (raw_body m.body.value) ≡ gens_in_body (moved_body m)
body_has_gens m = sym (ap gens_in_body (moved_body_is m) ∙ body_gens_moved (raw_body m.body.value) m.more m.from)

-- a comprehension, numbered
pub comp_made : (t n count m t1 number : ℕ) (sc : List ℕ) (a : TypeTree) (x : CodeComp) (gens : List Gen) (conds : List Base) (body : Body) → count ≡ length x.tables → m ≡ n + count → t1 ≡ t + 1 → gens ≡ number_gens n x.tables → map base_tree conds ≡ bases_numbered m (dealt n count sc) (map moved_base x.conds) → number ≡ m + gens_in_bases (map moved_base x.conds) → body_tree body ≡ number_body t1 number (dealt n count sc) a (moved_body x.body) → numbered_part (roll-Comp (record { tag = t; gens = gens; conds = conds; body = body })) ≡ comp_numbered t n sc a (comp_part x)
comp_made t n count m t1 number sc a x gens conds body p q r g h k b =
    let scope : dealt n count sc ≡ deal n x.tables sc = ap (λ z. dealt n z sc) p ∙ sym (deal_dealt n x.tables sc) in
    let start : m ≡ n + length x.tables = q ∙ ap (λ z. n + z) p in
    let tag : t1 ≡ suc t = omega arith in
    let after : number ≡ n + length x.tables + gens_in_conds (raw_conds x.conds) = k ∙ ap₂ (λ y z. y + z) start (sym (conds_have (map moved_base x.conds))) in
    numbered_is (roll-Comp (record { tag = t; gens = gens; conds = conds; body = body }))
    ∙ ap₂ (λ (y : List Gen) z. record { tag = t; gens = y; conds = z; body = body_tree body }) g
    (ap numbered_conds h ∙ sym (conds_are m (dealt n count sc) (map moved_base x.conds)) ∙ ap₂ (λ y (z : List ℕ). number_conds y z (raw_conds x.conds)) start scope)
    ∙ ap (λ z. record { tag = t; gens = number_gens n x.tables; conds = number_conds (n + length x.tables) (deal n x.tables sc) (raw_conds x.conds); body = z })
    (b ∙ ap₂ (λ y z. number_body y z (dealt n count sc) a (moved_body x.body)) tag after ∙ ap (λ (z : List ℕ). number_body (suc t) (n + length x.tables + gens_in_conds (raw_conds x.conds)) z a (moved_body x.body)) scope)
    ∙ ap (comp_numbered t n sc a) (sym (comp_is x))

pub comp_has_tags : (t t1 after : ℕ) (x : CodeComp) → t1 ≡ t + 1 → after ≡ t1 + tags_in_body (moved_body x.body) → after ≡ t + tags_in_part (comp_part x)
comp_has_tags t t1 after x r e =
    let f : after ≡ t + suc (tags_in_body (moved_body x.body)) = omega arith in
    f ∙ ap (λ z. t + tags_in_part z) (sym (comp_is x))

pub comp_has_gens : (n count m number after : ℕ) (x : CodeComp) → count ≡ length x.tables → m ≡ n + count → number ≡ m + gens_in_bases (map moved_base x.conds) → after ≡ number + gens_in_body (moved_body x.body) → after ≡ n + gens_in_comp (comp_part x)
comp_has_gens n count m number after x p q k e =
    let h : gens_in_conds (raw_conds x.conds) ≡ gens_in_bases (map moved_base x.conds) = conds_have (map moved_base x.conds) in
    let f : after ≡ n + (length x.tables + (gens_in_conds (raw_conds x.conds) + gens_in_body (moved_body x.body))) = omega arith in
    f ∙ ap (λ z. n + gens_in_comp z) (sym (comp_is x))

-- a form, numbered
pub form_made : (element : Ty) (parts : List Comp) → form_tree (roll-Normal (record { element = element; parts = parts })) ≡ record { element = type_tree element; comps = numbered_comps (map numbered_part parts) }
form_made element parts = fold-roll-Normal BodyTree NumberedComp FormTree body_layer comp_layer normal_layer (record { element = element; parts = parts })

pub numbers_top : numbers Top ≡ []
numbers_top = ap numbers (sym rolls-Top) ∙ fold-roll-Numbers (List ℕ) numbers_layer Numbers-F.Top

pub fewer : (t k m : ℕ) → t ≡ 1 + k → t ≤ m → k < m
fewer t k m e h = omega arith

-- the fields from a place on, one more numbered
pub fields_step : (t n t' n' : ℕ) (sc : List ℕ) (types : List (Label × Ty)) (at : ℕ) (fields : List (Label × MovedBody)) (x : Label × MovedBody) (b : BodyTree) (whole done : List (Label × BodyTree)) → x ≡ get_or fields at x → at < length fields → b ≡ number_body t n sc (first_type (field_types_of (types_view (drop at types)))) (moved_body x.1) → t' ≡ t + tags_in_body (moved_body x.1) → n' ≡ n + gens_in_body (moved_body x.1) → whole ≡ done ++ fields_numbered t n sc (field_types_of (types_view (drop at types))) (fields_view (drop at fields)) → whole ≡ (done ++ (x.0, b) ∷ []) ++ fields_numbered t' n' sc (field_types_of (types_view (drop (at + 1) types))) (fields_view (drop (at + 1) fields))
fields_step t n t' n' sc types at fields x b whole done e l f g h w =
    let later : List (Label × BodyTree) = fields_numbered t' n' sc (field_types_of (types_view (drop (suc at) types))) (fields_view (drop (suc at) fields)) in
    let here : drop at fields ≡ x ∷ drop (suc at) fields = drop-cons fields at x l ∙ ap (λ (z : Label × MovedBody). z ∷ drop (suc at) fields) (sym e) in
    w
    ∙ ap (λ (z : List (Label × MovedBody)). done ++ fields_numbered t n sc (field_types_of (types_view (drop at types))) (fields_view z)) here
    ∙ ap (λ (z : FieldTypes). done ++ ((x.0, number_body t n sc (first_type (field_types_of (types_view (drop at types)))) (moved_body x.1)) ∷ fields_numbered (t + tags_in_body (moved_body x.1)) (n + gens_in_body (moved_body x.1)) sc z (fields_view (drop (suc at) fields)))) (rest_dropped types at)
    ∙ ap₂ (λ y z. done ++ ((x.0, number_body t n sc (first_type (field_types_of (types_view (drop at types)))) (moved_body x.1)) ∷ fields_numbered y z sc (field_types_of (types_view (drop (suc at) types))) (fields_view (drop (suc at) fields)))) (sym g) (sym h)
    ∙ ap (λ z. done ++ ((x.0, z) ∷ later)) (sym f)
    ∙ sym (append_assoc done ((x.0, b) ∷ []) later)
    ∙ ap (λ z. (done ++ (x.0, b) ∷ []) ++ fields_numbered t' n' sc (field_types_of (types_view (drop z types))) (fields_view (drop z fields))) (sym (add-one at))
  where
    rest_dropped : (ts : List (Label × Ty)) (i : ℕ) → rest_types (field_types_of (types_view (drop i ts))) ≡ field_types_of (types_view (drop (suc i) ts))
    rest_dropped [] zero = refl
    rest_dropped [] (suc i) = refl
    rest_dropped (y ∷ ts) zero = refl
    rest_dropped (y ∷ ts) (suc i) = rest_dropped ts i

pub counts_step : (f : Label × MovedBody → ℕ) (sum : List (Label × MovedBody) → ℕ) → ((y : Label × MovedBody) (ys : List (Label × MovedBody)) → sum (y ∷ ys) ≡ f y + sum ys) → (t t' at whole : ℕ) (fields : List (Label × MovedBody)) (x : Label × MovedBody) → x ≡ get_or fields at x → at < length fields → t' ≡ t + f x → whole ≡ t + sum (drop at fields) → whole ≡ t' + sum (drop (at + 1) fields)
counts_step f sum more t t' at whole fields x e l g w =
    let here : drop at fields ≡ x ∷ drop (suc at) fields = drop-cons fields at x l ∙ ap (λ (z : Label × MovedBody). z ∷ drop (suc at) fields) (sym e) in
    let k : sum (drop at fields) ≡ f x + sum (drop (suc at) fields) = ap sum here ∙ more x (drop (suc at) fields) in
    let v : whole ≡ t' + sum (drop (suc at) fields) = omega arith in
    v ∙ ap (λ z. t' + sum (drop z fields)) (sym (add-one at))
