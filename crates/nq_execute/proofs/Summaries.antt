-- Laws of summaries.
use Rattle.std.proofs.Common.{◌≡◌, ◌≤◌, ℕ, ℤ, suc, Bool, true, false, cond, List, [], ◌∷◌, ◌++◌, codes, length, drop, flat_map, refl, sym, ap, ap₂, ◌∙◌, subst, arith}
use Rattle.std.proofs.lemmas.List.{drop_all}
use Rattle.std.specs.Fmt.{decimal}
use Rattle.std.specs.Str.{bytes_eq}
use Rattle.nq_model.specs.Bags.{Matched}
use Rattle.nq_model.specs.Canonical.{written}
use Rattle.nq_model.specs.Meaning.{elements_in, field_in, value_under}
use Rattle.nq_model.specs.Types.{TypeTree}
use Rattle.nq_model.specs.Values.{Nested, base, rec, bag, Fields, none, field, elements, nested, bag_of, fields_of, fields_view, value_layer, Same, SameFields}
use Rattle.nq_model.specs.declared.table.Cell.{Cell}
use Rattle.nq_model.specs.declared.table.Cell.TheVariants as cell
use Rattle.nq_model.specs.declared.value.Value.{Value, Value-F, fold-roll-Value}
use Rattle.nq_model.specs.declared.value.Value.TheVariants as code
use Rattle.nq_model.proofs.Bags.{matched_flat_map, matched_length}
use Rattle.nq_model.proofs.Canonical.{canonical_same}
use Rattle.nq_model.proofs.Sameness.{elements_back, matched_same}
use Rattle.nq_model.proofs.Trees.{nested_bag, nested_record}
use Rattle.nq_ir.specs.Paths.{paths}
use Rattle.nq_ir.specs.declared.path.Step.{Step}
use Rattle.nq_ir.specs.declared.path.Step.TheVariants.{Down, Field}
use Rattle.nq_execute.specs.Summaries.{elements_at, level_line, level_lines, summary_of}

-- the fields under a label of records that are the same
under_same : (label : List ℕ) (fs gs : Fields) → SameFields fs gs → Same (value_under label fs) (value_under label gs)
under_same label none none s = refl
under_same label none (field m w gs) s = absurd s
under_same label (field l v fs) none s = absurd s
under_same label (field l v fs) (field m w gs) s =
    let P : List ℕ → Type 0 = λ k. Same (cond (bytes_eq l label) v (value_under label fs)) (cond (bytes_eq k label) w (value_under label gs)) in
    subst P s.0 (go (bytes_eq l label) (under_same label fs gs s.2))
  where
    go : (b : Bool) → Same (value_under label fs) (value_under label gs) → Same (cond b v (value_under label fs)) (cond b w (value_under label gs))
    go true later = s.1
    go false later = later

field_same : (label : List ℕ) (v w : Nested) → Same v w → Same (field_in label v) (field_in label w)
field_same label (base c) (base d) s = refl
field_same label (rec fs) (rec gs) s = under_same label fs gs s
field_same label (bag vs) (bag ws) s = refl
field_same label v w s = absurd s

inside_same : (v w : Nested) → Same v w → Matched Same (elements_in v) (elements_in w)
inside_same (base c) (base d) s = refl
inside_same (rec fs) (rec gs) s = refl
inside_same (bag vs) (bag ws) s = matched_same vs (elements ws) s
inside_same v w s = absurd s

-- the elements at a path of values that are the same pair off
pub elements_same : (path : List Step) (v w : Nested) → Same v w → Matched Same (elements_at path v) (elements_at path w)
elements_same [] v w s = inside_same v w s
elements_same (Down ∷ path) v w s =
    matched_flat_map Same Same (elements_at path) (elements_at path) (elements_same path) (elements_in v) (elements_in w) (inside_same v w s)
elements_same (Field label ∷ path) v w s = elements_same path (field_in label v) (field_in label w) (field_same label v w s)

lines_same : (level : ℕ) (all : List (List Step)) (v w : Nested) → Same v w → level_lines level all v ≡ level_lines level all w
lines_same level [] v w s = refl
lines_same level (path ∷ all) v w s =
    ap₂ (λ (count : ℕ) (lines : List ℕ). level_line level count ++ lines)
    (matched_length Same (elements_at path v) (elements_at path w) (elements_same path v w s)) (lines_same (suc level) all v w s)

-- values that are the same nested multiset have one summary
pub summary_same : (type : TypeTree) (v w : Nested) → Same v w → summary_of type v ≡ summary_of type w
unfolding summary_of
summary_same type v w s =
    ap₂ (λ (lines text : List ℕ).
    codes "texts " ++ (decimal (length (paths type)) ++ (codes "\n" ++ (lines ++ (codes "bytes " ++ (decimal (length text) ++ codes "\n"))))))
    (lines_same 1 (paths type) v w s) (ap (λ (u : Nested). written u ++ codes "\n") (canonical_same v w s))

-- a base value holds no elements
pub base_holds_none : (path : List Step) (c : Cell) → elements_at path (base c) ≡ []
base_holds_none [] c = refl
base_holds_none (Down ∷ path) c = refl
base_holds_none (Field label ∷ path) c = base_holds_none path (cell.Bool false)

-- so it has none at a path
pub none_in_base : (path : List Step) (v : Nested) (c : Cell) → v ≡ base c → length (elements_at path v) ≡ 0
none_in_base path v c is = ap (λ (u : Nested). length (elements_at path u)) is ∙ ap length (base_holds_none path c)

pub none_in_int : (path : List Step) (n : ℤ) → elements_at path (nested (code.Int n)) ≡ []
none_in_int path n =
    ap (elements_at path) (ap nested (sym (code.rolls-Int n)) ∙ fold-roll-Value Nested value_layer (Value-F.Int n)) ∙ base_holds_none path (cell.Int n)

pub none_in_bool : (path : List Step) (b : Bool) → elements_at path (nested (code.Bool b)) ≡ []
none_in_bool path b =
    ap (elements_at path) (ap nested (sym (code.rolls-Bool b)) ∙ fold-roll-Value Nested value_layer (Value-F.Bool b)) ∙ base_holds_none path (cell.Bool b)

pub none_in_text : (path : List Step) (t : List ℕ) → elements_at path (nested (code.Text t)) ≡ []
none_in_text path t =
    ap (elements_at path) (ap nested (sym (code.rolls-Text t)) ∙ fold-roll-Value Nested value_layer (Value-F.Text t)) ∙ base_holds_none path (cell.Text t)

pub ruleset value_rules = (none_in_int, none_in_bool, none_in_text, nested_record, nested_bag)

-- none at a path where no field has a label
pub none_under : (label : List ℕ) (path : List Step) (fields : List (List ℕ × Value)) (k : ℕ) → length fields ≤ k
    → value_under label (fields_of (fields_view (drop k fields))) ≡ value_under label (fields_of (fields_view fields)) → 0 ≡ length (elements_at path (value_under label (fields_of (fields_view fields))))
none_under label path fields k over same =
    sym (none_in_base path (value_under label (fields_of (fields_view fields))) (cell.Bool false)
    (sym same ∙ ap (λ (left : List (List ℕ × Value)). value_under label (fields_of (fields_view left))) (drop_all k fields over)))

-- those of a bag: its own, those of its elements, and none under a field
pub bag_here : (path : List Step) (es : List Nested) → length path ≡ 0 → elements_at path (bag_of es) ≡ es
bag_here [] es h = elements_back es
bag_here (step ∷ path) es h = absurd (omega (arith, h))

pub bag_inside : (path rest : List Step) (es : List Nested) → path ≡ Down ∷ rest → elements_at path (bag_of es) ≡ flat_map (elements_at rest) es
bag_inside path rest es is =
    ap (λ (p : List Step). elements_at p (bag_of es)) is ∙ ap (flat_map (elements_at rest)) (elements_back es)

pub bag_beside : (path rest : List Step) (label : List ℕ) (es : List Nested) → path ≡ Field label ∷ rest → elements_at path (bag_of es) ≡ []
bag_beside path rest label es is = ap (λ (p : List Step). elements_at p (bag_of es)) is ∙ base_holds_none rest (cell.Bool false)

pub ruleset bag_rules = (bag_here, bag_inside, bag_beside)
