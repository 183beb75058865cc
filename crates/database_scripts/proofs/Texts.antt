-- Texts that are asked, one after another.
use Rattle.std.proofs.Common.{◌≡◌, ◌<◌, ◌≤◌, ℕ, zero, suc, ◌+◌, List, [], ◌∷◌, ◌++◌, length, drop, get_or, min, refl, sym, ap, ap₂, ◌∙◌, drop-cons, append-nil, append_assoc, arith}
use Rattle.nq_model.specs.Types.{TypeTree}
use Rattle.nq_ir.specs.declared.path.Path.{Path}
use Rattle.nq_ir.specs.declared.path.Step.{Step}
use Rattle.shred_types.specs.Columns.{columns_at}
use Rattle.shred_types.specs.Under.{steps_of}
use Rattle.database_scripts.specs.Asks.{asked_text, asked_texts}
use Rattle.database_scripts.specs.Columns.{columns_from}
use Rattle.database_scripts.specs.declared.database.Database.{Database}

-- what asks the texts from a place on
abbrev pub asked_beyond : Database → List ℕ → TypeTree → List Path → List (List ℕ) → ℕ → List ℕ
asked_beyond database folder type paths texts at = asked_texts database folder type (at + 1) (steps_of (drop at paths)) (drop at texts)

-- the first of them, and those behind it
first_asked : (database : Database) (folder : List ℕ) (type : TypeTree) (paths : List Path) (texts : List (List ℕ)) (at : ℕ) (p : Path) (s : List ℕ)
    → at < length paths → at < length texts → p ≡ get_or paths at p → s ≡ get_or texts at s
    → asked_beyond database folder type paths texts at
    ≡ asked_text database folder (at + 1) (columns_from 0 (columns_at type p.steps)) s ++ asked_beyond database folder type paths texts (at + 1)
first_asked database folder type paths texts at p s path_below text_below path_is text_is =
    let own_path = drop-cons paths at p path_below ∙ ap (λ (q : Path). q ∷ drop (suc at) paths) (sym path_is) in
    let own_text = drop-cons texts at s text_below ∙ ap (λ (q : List ℕ). q ∷ drop (suc at) texts) (sym text_is) in
    let next : suc at ≡ at + 1 = omega arith in
    let numbered : suc (at + 1) ≡ at + 1 + 1 = omega arith in
    ap₂ (λ (ps : List Path) (ss : List (List ℕ)). asked_texts database folder type (at + 1) (steps_of ps) ss) own_path own_text
    ∙ ap₂ (λ n m. asked_text database folder (at + 1) (columns_from 0 (columns_at type p.steps)) s ++ asked_texts database folder type n (steps_of (drop m paths)) (drop m texts)) numbered next

-- a text more
pub one_asked : (database : Database) (folder : List ℕ) (type : TypeTree) (paths : List Path) (texts : List (List ℕ)) (at : ℕ) (p : Path) (s old new all : List ℕ)
    → at < length paths → at < length texts → p ≡ get_or paths at p → s ≡ get_or texts at s
    → new ≡ old ++ asked_text database folder (at + 1) (columns_from 0 (columns_at type p.steps)) s
    → old ++ asked_beyond database folder type paths texts at ≡ all → new ++ asked_beyond database folder type paths texts (at + 1) ≡ all
one_asked database folder type paths texts at p s old new all path_below text_below path_is text_is put was =
    let piece = asked_text database folder (at + 1) (columns_from 0 (columns_at type p.steps)) s in
    let rest = asked_beyond database folder type paths texts (at + 1) in
    ap (λ (l : List ℕ). l ++ rest) put ∙ append_assoc old piece rest
    ∙ ap (λ (l : List ℕ). old ++ l) (sym (first_asked database folder type paths texts at p s path_below text_below path_is text_is)) ∙ was

no_text : (database : Database) (folder : List ℕ) (type : TypeTree) (number : ℕ) (paths : List (List Step)) → asked_texts database folder type number paths [] ≡ []
no_text database folder type number [] = refl
no_text database folder type number (p ∷ paths) = refl

-- behind the last path or the last text nothing is asked
none_asked : (database : Database) (folder : List ℕ) (type : TypeTree) (number : ℕ) (paths : List Path) (texts : List (List ℕ)) (at : ℕ) → min (length paths) (length texts) ≤ at
    → asked_texts database folder type number (steps_of (drop at paths)) (drop at texts) ≡ []
none_asked database folder type number [] texts zero below = refl
none_asked database folder type number [] texts (suc at) below = refl
none_asked database folder type number (p ∷ paths) [] zero below = refl
none_asked database folder type number (p ∷ paths) [] (suc at) below = no_text database folder type number (steps_of (drop at paths))
none_asked database folder type number (p ∷ paths) (t ∷ texts) zero below = absurd (omega (arith, below))
none_asked database folder type number (p ∷ paths) (t ∷ texts) (suc at) below = none_asked database folder type number paths texts at (omega (arith, below))

pub all_asked : (database : Database) (folder : List ℕ) (type : TypeTree) (paths : List Path) (texts : List (List ℕ)) (at : ℕ) (old all : List ℕ) → min (length paths) (length texts) ≤ at
    → old ++ asked_beyond database folder type paths texts at ≡ all → old ≡ all
all_asked database folder type paths texts at old all below was =
    sym (append-nil old) ∙ ap (λ (l : List ℕ). old ++ l) (sym (none_asked database folder type (at + 1) paths texts at below)) ∙ was
