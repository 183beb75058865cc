-- Bodies under more generators: moved twice is moved once, and numbered as if the numbers of the others were alone in
-- scope.
use Rattle.std.proofs.Common.{◌≡◌, ℕ, zero, suc, ◌+◌, ◌≤◌, List, [], ◌∷◌, map, refl, sym, ap, ap₂, ◌∙◌, length, get_or, arith}
use Rattle.nq_model.specs.Types.{TypeTree, FieldTypes}
use Rattle.nq_ir.specs.NormalForms.{gens_in_body, gens_in_comps, gens_in_conds, gens_in_fields, tags_in_body, tags_in_comps, tags_in_fields, number_gens, deal, number_conds, number_body, number_fields, number_comps, element_type, field_types, first_type, rest_types}
use Rattle.nq_ir.specs.RawForms.{RawBody, raw_plain, raw_rec, raw_bag, RawFields, no_raw_field, raw_field, RawComps, no_raw_comp, raw_comp, up_bases, up_body, up_fields, up_comps, no_raw_body}
use Rattle.nq_ir.specs.Trees.{plain_body, rec_body, bag_body, with_body, comp}
use Rattle.normalise.specs.Numbers.{without}
use Rattle.normalise.specs.Raw.{moved_body, raw_body}
use Rattle.normalise.specs.declared.raw.MovedBody.{MovedBody}
use Rattle.normalise.proofs.Views.{moved_body_is}
use Rattle.normalise.proofs.Moves.{base_joined, bases_joined, base_same, bases_same, deal_without, gens_moved, gens_in_moved, moved_numbered, moved_conds_numbered}

-- generators that come beside or among those of an earlier move
mutual
  pub body_joined : (b : RawBody) (n c m d : ℕ) → d ≤ c → c ≤ d + m → up_body n c (up_body m d b) ≡ up_body (n + m) d b
  body_joined (raw_plain b) n c m d h k = ap raw_plain (base_joined b n c m d h k)
  body_joined (raw_rec fs) n c m d h k = ap raw_rec (fields_joined fs n c m d h k)
  body_joined (raw_bag cs) n c m d h k = ap raw_bag (comps_joined cs n c m d h k)

  fields_joined : (fs : RawFields) (n c m d : ℕ) → d ≤ c → c ≤ d + m → up_fields n c (up_fields m d fs) ≡ up_fields (n + m) d fs
  fields_joined no_raw_field n c m d h k = refl
  fields_joined (raw_field l b fs) n c m d h k = ap₂ (raw_field l) (body_joined b n c m d h k) (fields_joined fs n c m d h k)

  comps_joined : (cs : RawComps) (n c m d : ℕ) → d ≤ c → c ≤ d + m → up_comps n c (up_comps m d cs) ≡ up_comps (n + m) d cs
  comps_joined no_raw_comp n c m d h k = refl
  comps_joined (raw_comp gs bs b cs) n c m d h k =
      let p : length gs + d ≤ length gs + c = omega arith in
      let q : length gs + c ≤ (length gs + d) + m = omega arith in
      ap (λ x. raw_comp gs x (up_body n (length gs + c) (up_body m (length gs + d) b)) (up_comps n c (up_comps m d cs))) (bases_joined bs n (length gs + c) m (length gs + d) p q)
      ∙ ap₂ (raw_comp gs (up_bases (n + m) (length gs + d) bs)) (body_joined b n (length gs + c) m (length gs + d) p q) (comps_joined cs n c m d h k)

mutual
  pub body_same : (b : RawBody) (c : ℕ) → up_body 0 c b ≡ b
  body_same (raw_plain b) c = ap raw_plain (base_same b c)
  body_same (raw_rec fs) c = ap raw_rec (fields_same fs c)
  body_same (raw_bag cs) c = ap raw_bag (comps_same cs c)

  fields_same : (fs : RawFields) (c : ℕ) → up_fields 0 c fs ≡ fs
  fields_same no_raw_field c = refl
  fields_same (raw_field l b fs) c = ap₂ (raw_field l) (body_same b c) (fields_same fs c)

  comps_same : (cs : RawComps) (c : ℕ) → up_comps 0 c cs ≡ cs
  comps_same no_raw_comp c = refl
  comps_same (raw_comp gs bs b cs) c =
      ap (λ x. raw_comp gs x (up_body 0 (length gs + c) b) (up_comps 0 c cs)) (bases_same bs (length gs + c)) ∙ ap₂ (raw_comp gs bs) (body_same b (length gs + c)) (comps_same cs c)

-- what has not been moved
pub body_unmoved : (m : MovedBody) → m.more ≡ 0 → moved_body m ≡ raw_body m.body.value
body_unmoved m e =
    moved_body_is m ∙ ap (λ k. up_body k m.from (raw_body m.body.value)) e ∙ body_same (raw_body m.body.value) m.from

-- what is moved on, beside or among those of the earlier move
pub body_moved_on : (m : MovedBody) (n c : ℕ) → m.from ≤ c → c ≤ m.from + m.more → up_body (n + m.more) m.from (raw_body m.body.value) ≡ up_body n c (moved_body m)
body_moved_on m n c h k = sym (ap (up_body n c) (moved_body_is m) ∙ body_joined (raw_body m.body.value) n c m.more m.from h k)

-- a body that is found under n generators
pub found_under : (m n k : ℕ) (es : List RawBody) → up_body m 0 (get_or (map (up_body n 0) es) k no_raw_body) ≡ up_body (m + n) 0 (get_or es k no_raw_body)
found_under m n k [] = refl
found_under m n zero (e ∷ es) = body_joined e m 0 n 0 (omega arith) (omega arith)
found_under m n (suc k) (e ∷ es) = found_under m n k es

mutual
  pub tags_moved : (b : RawBody) (k c : ℕ) → tags_in_body (up_body k c b) ≡ tags_in_body b
  tags_moved (raw_plain b) k c = refl
  tags_moved (raw_rec fs) k c = tags_in_moved_fields fs k c
  tags_moved (raw_bag cs) k c = tags_in_moved_comps cs k c

  tags_in_moved_fields : (fs : RawFields) (k c : ℕ) → tags_in_fields (up_fields k c fs) ≡ tags_in_fields fs
  tags_in_moved_fields no_raw_field k c = refl
  tags_in_moved_fields (raw_field l b fs) k c = ap₂ (λ y z. y + z) (tags_moved b k c) (tags_in_moved_fields fs k c)

  tags_in_moved_comps : (cs : RawComps) (k c : ℕ) → tags_in_comps (up_comps k c cs) ≡ tags_in_comps cs
  tags_in_moved_comps no_raw_comp k c = refl
  tags_in_moved_comps (raw_comp gs bs b cs) k c = ap₂ (λ y z. suc (y + z)) (tags_moved b k (length gs + c)) (tags_in_moved_comps cs k c)

mutual
  pub body_gens_moved : (b : RawBody) (k c : ℕ) → gens_in_body (up_body k c b) ≡ gens_in_body b
  body_gens_moved (raw_plain b) k c = gens_moved b k c
  body_gens_moved (raw_rec fs) k c = gens_in_moved_fields fs k c
  body_gens_moved (raw_bag cs) k c = gens_in_moved_comps cs k c

  gens_in_moved_fields : (fs : RawFields) (k c : ℕ) → gens_in_fields (up_fields k c fs) ≡ gens_in_fields fs
  gens_in_moved_fields no_raw_field k c = refl
  gens_in_moved_fields (raw_field l b fs) k c = ap₂ (λ y z. y + z) (body_gens_moved b k c) (gens_in_moved_fields fs k c)

  gens_in_moved_comps : (cs : RawComps) (k c : ℕ) → gens_in_comps (up_comps k c cs) ≡ gens_in_comps cs
  gens_in_moved_comps no_raw_comp k c = refl
  gens_in_moved_comps (raw_comp gs bs b cs) k c =
      ap₂ (λ y z. length gs + (y + z)) (gens_in_moved bs k (length gs + c)) (ap₂ (λ y z. y + z) (body_gens_moved b k (length gs + c)) (gens_in_moved_comps cs k c))

mutual
  pub body_numbered : (b : RawBody) (t n k c : ℕ) (sc : List ℕ) (a : TypeTree) → number_body t n sc a (up_body k c b) ≡ number_body t n (without k c sc) a b
  body_numbered (raw_plain b) t n k c sc a = ap plain_body (moved_numbered b n k c sc)
  body_numbered (raw_rec fs) t n k c sc a = ap rec_body (fields_numbered fs t n k c sc (field_types a))
  body_numbered (raw_bag cs) t n k c sc a = ap (bag_body (element_type a)) (comps_numbered cs t n k c sc (element_type a))

  fields_numbered : (fs : RawFields) (t n k c : ℕ) (sc : List ℕ) (gs : FieldTypes) → number_fields t n sc gs (up_fields k c fs) ≡ number_fields t n (without k c sc) gs fs
  fields_numbered no_raw_field t n k c sc gs = refl
  fields_numbered (raw_field l b fs) t n k c sc gs =
      ap₂ (with_body l) (body_numbered b t n k c sc (first_type gs))
      (ap₂ (λ y z. number_fields (t + y) (n + z) sc (rest_types gs) (up_fields k c fs)) (tags_moved b k c) (body_gens_moved b k c) ∙ fields_numbered fs (t + tags_in_body b) (n + gens_in_body b) k c sc (rest_types gs))

  comps_numbered : (cs : RawComps) (t n k c : ℕ) (sc : List ℕ) (a : TypeTree) → number_comps t n sc a (up_comps k c cs) ≡ number_comps t n (without k c sc) a cs
  comps_numbered no_raw_comp t n k c sc a = refl
  comps_numbered (raw_comp gs bs b cs) t n k c sc a =
      let inner = length gs + c in
      let own = deal n gs sc in
      let under : deal n gs (without k c sc) ≡ without k inner own = deal_without n gs k c sc in
      let conds : number_conds (n + length gs) own (up_bases k inner bs) ≡ number_conds (n + length gs) (deal n gs (without k c sc)) bs = moved_conds_numbered bs (n + length gs) k inner own ∙ ap (λ (z : List ℕ). number_conds (n + length gs) z bs) (sym under) in
      let body : number_body (suc t) (n + length gs + gens_in_conds (up_bases k inner bs)) own a (up_body k inner b) ≡ number_body (suc t) (n + length gs + gens_in_conds bs) (deal n gs (without k c sc)) a b = ap (λ z. number_body (suc t) (n + length gs + z) own a (up_body k inner b)) (gens_in_moved bs k inner) ∙ body_numbered b (suc t) (n + length gs + gens_in_conds bs) k inner own a ∙ ap (λ (z : List ℕ). number_body (suc t) (n + length gs + gens_in_conds bs) z a b) (sym under) in
      ap₂ (λ y z. comp t (number_gens n gs) y z (number_comps (suc t + tags_in_body (up_body k inner b)) (n + length gs + gens_in_conds (up_bases k inner bs) + gens_in_body (up_body k inner b)) sc a (up_comps k c cs))) conds body
      ∙ ap (comp t (number_gens n gs) (number_conds (n + length gs) (deal n gs (without k c sc)) bs) (number_body (suc t) (n + length gs + gens_in_conds bs) (deal n gs (without k c sc)) a b))
      (ap₂ (λ y z. number_comps (suc t + y) (n + length gs + z + gens_in_body (up_body k inner b)) sc a (up_comps k c cs)) (tags_moved b k inner) (gens_in_moved bs k inner)
      ∙ ap (λ z. number_comps (suc t + tags_in_body b) (n + length gs + gens_in_conds bs + z) sc a (up_comps k c cs)) (body_gens_moved b k inner)
      ∙ comps_numbered cs (suc t + tags_in_body b) (n + length gs + gens_in_conds bs + gens_in_body b) k c sc a)
