-- What stands at paths, one after another.
use Rattle.std.proofs.Common.{◌≡◌, Option, ◌<◌, ℕ, suc, List, [], ◌∷◌, ◌++◌, length, map, drop, get_or, sym, ap, ap₂, ◌∙◌, drop-cons, append_assoc}
use Rattle.std.proofs.lemmas.List.{map-append}
use Rattle.nq_model.specs.Types.{TypeTree}
use Rattle.nq_ir.specs.declared.path.Path.{Path}
use Rattle.serde_json.specs.Data.{Data}
use Rattle.serde_json.specs.View.{view}
use Rattle.serde_json.specs.declared.value.Value.{Value as Json}
use Rattle.shred_types.specs.Columns.{columns_at}
use Rattle.shred_types.specs.Under.{steps_of}
use Rattle.query_json.specs.QueryForms.{text_json, texts_json}
use Rattle.query_json.specs.declared.parents.Parent.{Parent}

-- the paths, parents and texts from a place on
abbrev pub forms_from : TypeTree → List Path → List (Option Parent) → List (List ℕ) → ℕ → List Data
forms_from type paths parents texts at =
    texts_json type (steps_of (drop at paths)) (drop at parents) (drop at texts)

-- the first of them, and those behind it
pub form_first : (type : TypeTree) (paths : List Path) (parents : List (Option Parent)) (texts : List (List ℕ)) (at : ℕ) (p : Path) (e : Option Parent) (s : List ℕ)
    → at < length paths → at < length parents → at < length texts
    → p ≡ get_or paths at p → e ≡ get_or parents at e → s ≡ get_or texts at s
    → forms_from type paths parents texts at ≡ text_json (columns_at type p.steps) e p.steps s ∷ forms_from type paths parents texts (suc at)
form_first type paths parents texts at p e s path_below parent_below text_below path_is parent_is text_is =
    let own_path = drop-cons paths at p path_below ∙ ap (λ (q : Path). q ∷ drop (suc at) paths) (sym path_is) in
    let own_parent = drop-cons parents at e parent_below ∙ ap (λ (q : Option Parent). q ∷ drop (suc at) parents) (sym parent_is) in
    let own_text = drop-cons texts at s text_below ∙ ap (λ (q : List ℕ). q ∷ drop (suc at) texts) (sym text_is) in
    ap₂ (λ (ps : List Path) (es : List (Option Parent)). texts_json type (steps_of ps) es (drop at texts)) own_path own_parent
    ∙ ap (λ (ss : List (List ℕ)). texts_json type (p.steps ∷ steps_of (drop (suc at) paths)) (e ∷ drop (suc at) parents) ss) own_text

-- one value more, behind those before
pub form_more : (old new : List Json) (made : Json) (d : Data) (rest all : List Data)
    → new ≡ old ++ made ∷ [] → view made ≡ d → map view old ++ d ∷ rest ≡ all → map view new ++ rest ≡ all
form_more old new made d rest all pushed is was =
    ap (λ (l : List Json). map view l ++ rest) pushed
    ∙ ap (λ (l : List Data). l ++ rest) (map-append view old (made ∷ []))
    ∙ append_assoc (map view old) (view made ∷ []) rest
    ∙ ap (λ (x : Data). map view old ++ x ∷ rest) is ∙ was
