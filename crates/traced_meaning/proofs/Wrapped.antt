-- Bodies with an element's record in the place of each element: its value, and the names of the
-- rows of its own generators. Such a body's meaning is a traced meaning, and each operation on
-- bodies has its like on them.
use Rattle.std.proofs.Common.{◌≡◌, ℕ, zero, suc, pos, ◌+◌, ◌<◌, ◌≤◌, List, [], ◌∷◌, ◌++◌, refl, sym, ap, ap₂, ◌∙◌, Bool, true, false, cond, length, arith}
use Rattle.std.specs.Ordering.{is_gt}
use Rattle.std.specs.Str.{bytes_eq}
use Rattle.nq_model.specs.NamedRows.{Label}
use Rattle.nq_model.specs.Orders.{label_cmp}
use Rattle.nq_model.specs.declared.table.Cell.TheVariants as cell
use Rattle.nq_model.specs.declared.term.Unary.TheVariants.{Not}
use Rattle.nq_ir.specs.RawForms.{RawBase, raw_literal, raw_column, raw_unary, RawConds, no_raw, and_raw, RawBody, raw_plain, raw_rec, raw_bag, RawFields, no_raw_field, raw_field, RawComps, no_raw_comp, raw_comp, up_index, up_bases, up_body, up_fields, up_comps, raw_base_in, raw_comps_in, raw_field_among, raw_field_in, put_raw, both_raw, append_raw, inside, where_raw, choice, choice_of_fields, each_comp}
use Rattle.traced_meaning.specs.NumberedTables.{number_column}
use Rattle.traced_meaning.specs.TracedValues.{value_label, rows_label, place_label, table_label, number_label}

-- the name of the row of a generator over this table, which is this many generators out
abbrev pub row_body : ℕ → Label → ℕ → RawBody
row_body place t i =
    raw_rec (raw_field place_label (raw_plain (raw_literal (cell.Int (pos place))))
    (raw_field table_label (raw_plain (raw_literal (cell.Text t)))
    (raw_field number_label (raw_plain (raw_column i number_column)) no_raw_field)))

-- the names of the rows of the innermost generators, the outermost of them first
abbrev pub row_comps : ℕ → List Label → RawComps
row_comps place [] = no_raw_comp
row_comps place (t ∷ gs) = raw_comp [] no_raw (row_body place t (length gs))
    (row_comps (suc place) gs)

abbrev pub element_body : RawBody → List Label → RawBody
element_body b gs = raw_rec
    (raw_field value_label b (raw_field rows_label (raw_bag (row_comps 1 gs)) no_raw_field))

-- the body with these records; comprehensions have the rows of the generators gs before their own
abbrev mutual
  pub wrapped : RawBody → RawBody
  wrapped (raw_plain b) = raw_plain b
  wrapped (raw_rec fs) = raw_rec (wrapped_fields fs)
  wrapped (raw_bag cs) = raw_bag (wrapped_comps [] cs)

  pub wrapped_fields : RawFields → RawFields
  wrapped_fields no_raw_field = no_raw_field
  wrapped_fields (raw_field l b fs) = raw_field l (wrapped b) (wrapped_fields fs)

  pub wrapped_comps : List Label → RawComps → RawComps
  wrapped_comps gs no_raw_comp = no_raw_comp
  wrapped_comps gs (raw_comp hs bs b cs) = raw_comp hs bs (element_body (wrapped b) (gs ++ hs))
      (wrapped_comps gs cs)

-- the parts of a wrapped body
pub base_wrapped : (b : RawBody) → raw_base_in (wrapped b) ≡ raw_base_in b
base_wrapped (raw_plain b) = refl
base_wrapped (raw_rec fs) = refl
base_wrapped (raw_bag cs) = refl

pub comps_wrapped : (b : RawBody) → raw_comps_in (wrapped b) ≡ wrapped_comps [] (raw_comps_in b)
comps_wrapped (raw_plain b) = refl
comps_wrapped (raw_rec fs) = refl
comps_wrapped (raw_bag cs) = refl

among_wrapped : (l : Label) (fs : RawFields) → wrapped (raw_field_among l fs)
    ≡ raw_field_among l (wrapped_fields fs)
among_wrapped l no_raw_field = refl
among_wrapped l (raw_field k b fs) = go (bytes_eq l k) (among_wrapped l fs)
  where
    go : (t : Bool) → wrapped (raw_field_among l fs) ≡ raw_field_among l (wrapped_fields fs)
        → wrapped (cond t b (raw_field_among l fs)) ≡ cond t (wrapped b)
        (raw_field_among l (wrapped_fields fs))
    go true e = refl
    go false e = e

pub field_wrapped : (l : Label) (b : RawBody) → wrapped (raw_field_in l b)
    ≡ raw_field_in l (wrapped b)
field_wrapped l (raw_plain b) = refl
field_wrapped l (raw_rec fs) = among_wrapped l fs
field_wrapped l (raw_bag cs) = refl

pub put_wrapped : (l : Label) (b : RawBody) (fs : RawFields) → wrapped_fields (put_raw l b fs)
    ≡ put_raw l (wrapped b) (wrapped_fields fs)
put_wrapped l b no_raw_field = refl
put_wrapped l b (raw_field k c fs) = go (is_gt (label_cmp l k)) (put_wrapped l b fs)
  where
    go : (t : Bool) → wrapped_fields (put_raw l b fs) ≡ put_raw l (wrapped b) (wrapped_fields fs)
        → wrapped_fields (cond t (raw_field k c (put_raw l b fs))
        (raw_field l b (raw_field k c fs))) ≡ cond t (raw_field k (wrapped c)
        (put_raw l (wrapped b) (wrapped_fields fs))) (raw_field l (wrapped b)
        (raw_field k (wrapped c) (wrapped_fields fs)))
    go true e = ap (raw_field k (wrapped c)) e
    go false e = refl

pub append_wrapped : (gs : List Label) (cs ds : RawComps) → wrapped_comps gs (append_raw cs ds)
    ≡ append_raw (wrapped_comps gs cs) (wrapped_comps gs ds)
append_wrapped gs no_raw_comp ds = refl
append_wrapped gs (raw_comp hs bs b cs) ds = ap (raw_comp hs bs
    (element_body (wrapped b) (gs ++ hs))) (append_wrapped gs cs ds)

-- inside generators, their rows come first
pub inside_wrapped : (gs : List Label) (bs : RawConds) (ds : RawComps)
    → wrapped_comps [] (inside gs bs ds) ≡ inside gs bs (wrapped_comps gs ds)
inside_wrapped gs bs no_raw_comp = refl
inside_wrapped gs bs (raw_comp hs cs b ds) =
    ap (raw_comp (gs ++ hs) (both_raw (up_bases (length hs) 0 bs) cs)
    (element_body (wrapped b) (gs ++ hs))) (inside_wrapped gs bs ds)

pub each_wrapped : (cs : RawComps) (rest : List Label → RawBody → RawComps)
    → wrapped_comps [] (each_comp cs rest) ≡ each_comp cs (λ gs b. wrapped_comps gs (rest gs b))
each_wrapped no_raw_comp rest = refl
each_wrapped (raw_comp gs bs b cs) rest =
    append_wrapped [] (inside gs bs (rest gs b)) (each_comp cs rest)
    ∙ ap₂ append_raw (inside_wrapped gs bs (rest gs b)) (each_wrapped cs rest)

pub where_wrapped : (x : RawBase) (cs : RawComps) → wrapped_comps [] (where_raw x cs)
    ≡ where_raw x (wrapped_comps [] cs)
where_wrapped x cs = inside_wrapped [] (and_raw x no_raw) cs

mutual
  pub choice_wrapped : (x : RawBase) (a b : RawBody) → wrapped (choice x a b)
      ≡ choice x (wrapped a) (wrapped b)
  choice_wrapped x (raw_plain a) (raw_plain b) = refl
  choice_wrapped x (raw_plain a) (raw_rec gs) = refl
  choice_wrapped x (raw_plain a) (raw_bag ds) = refl
  choice_wrapped x (raw_rec fs) (raw_plain b) = refl
  choice_wrapped x (raw_rec fs) (raw_rec gs) = ap raw_rec (choices_wrapped x fs gs)
  choice_wrapped x (raw_rec fs) (raw_bag ds) = refl
  choice_wrapped x (raw_bag cs) (raw_plain b) = refl
  choice_wrapped x (raw_bag cs) (raw_rec gs) = refl
  choice_wrapped x (raw_bag cs) (raw_bag ds) =
      ap raw_bag (append_wrapped [] (where_raw x cs) (where_raw (raw_unary Not x) ds)
      ∙ ap₂ append_raw (where_wrapped x cs) (where_wrapped (raw_unary Not x) ds))

  choices_wrapped : (x : RawBase) (fs gs : RawFields) → wrapped_fields (choice_of_fields x fs gs)
      ≡ choice_of_fields x (wrapped_fields fs) (wrapped_fields gs)
  choices_wrapped x no_raw_field gs = refl
  choices_wrapped x (raw_field l a fs) no_raw_field = refl
  choices_wrapped x (raw_field l a fs) (raw_field k b gs)
      = ap₂ (raw_field l) (choice_wrapped x a b) (choices_wrapped x fs gs)

-- more generators around, further out than those of the rows
up_within : (n c i : ℕ) → i < c → up_index n c i ≡ i
up_within n zero i h = absurd (omega arith)
up_within n (suc c) zero h = refl
up_within n (suc c) (suc i) h = ap suc (up_within n c i (omega arith))

rows_up : (n c place : ℕ) (gs : List Label) → length gs ≤ c → up_comps n c (row_comps place gs)
    ≡ row_comps place gs
rows_up n c place [] h = refl
rows_up n c place (t ∷ gs) h =
    ap₂ (λ i (z : RawComps). raw_comp [] no_raw (row_body place t i) z)
    (up_within n (0 + c) (length gs) (omega arith)) (rows_up n c (suc place) gs (omega arith))

mutual
  pub up_wrapped : (n c : ℕ) (b : RawBody) → wrapped (up_body n c b) ≡ up_body n c (wrapped b)
  up_wrapped n c (raw_plain b) = refl
  up_wrapped n c (raw_rec fs) = ap raw_rec (ups_wrapped n c fs)
  up_wrapped n c (raw_bag cs) = ap raw_bag (up_comps_wrapped n c cs)

  ups_wrapped : (n c : ℕ) (fs : RawFields) → wrapped_fields (up_fields n c fs)
      ≡ up_fields n c (wrapped_fields fs)
  ups_wrapped n c no_raw_field = refl
  ups_wrapped n c (raw_field l b fs) = ap₂ (raw_field l) (up_wrapped n c b) (ups_wrapped n c fs)

  up_comps_wrapped : (n c : ℕ) (cs : RawComps) → wrapped_comps [] (up_comps n c cs)
      ≡ up_comps n c (wrapped_comps [] cs)
  up_comps_wrapped n c no_raw_comp = refl
  up_comps_wrapped n c (raw_comp hs bs b cs) =
      ap₂ (λ (x : RawBody) (z : RawComps). raw_comp hs (up_bases n (length hs + c) bs) x z)
      (ap₂ (λ (x : RawBody) (z : RawComps). raw_rec (raw_field value_label x
      (raw_field rows_label (raw_bag z) no_raw_field))) (up_wrapped n (length hs + c) b)
      (sym (rows_up n (length hs + c) 1 hs (omega arith)))) (up_comps_wrapped n c cs)
