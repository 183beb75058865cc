-- Printed trees: SQL allows to them what it allows to the trees, and they are scoped as those are.
use Rattle.std.proofs.Common.{◌≡◌, ◌<◌, ◌+◌, ◌++◌, ℕ, zero, suc, List, [], ◌∷◌, length, map, take}
use Rattle.std.proofs.Common.{get_or, All, sym, ap, ap₂, ◌∙◌, subst, arith}
use Rattle.std.specs.List.{AllByRecursion as Each}
use Rattle.std.proofs.lemmas.List.{take_more, take_all, map-append}
use Rattle.std.proofs.lemmas.List.Elements.{All-push, recursion_from_All}
use Rattle.nq_model.specs.Numberings.{count_from}
use Rattle.nq_model.specs.declared.table.Cell.{Cell}
use Rattle.nq_model.specs.declared.table.ColumnType.{ColumnType}
use Rattle.nq_model.specs.declared.table.Schema.{Schema}
use Rattle.nq_compile.specs.Reading.{SchemeReads}
use Rattle.nq_compile.specs.Shreds.{IsScopedText}
use Rattle.nq_ir.specs.Meanings.{EachBoth}
use Rattle.nq_ir.specs.Trees.{FormTree}
use Rattle.sql_profile.specs.AllowedAnswers.{TreeAllows}
use Rattle.sql_profile.specs.Printed.{printed}
use Rattle.sql_profile.specs.Scope.{IsWellScoped, shapes_of_schema}
use Rattle.sql_profile.specs.Servers.{held_of}
use Rattle.sql_profile.specs.Spellable.{IsSpellable}
use Rattle.sql_profile.specs.Texts.{Spells, TextAllows}
use Rattle.sql_profile.specs.Tokens.{First}
use Rattle.sql_profile.specs.Trees.{PlacedSql, SqlTree, bare, sql_tree}
use Rattle.sql_profile.specs.declared.server.Loaded.{Loaded}
use Rattle.sql_profile.specs.declared.tree.SqlText.{SqlText}
use Rattle.sql_profile.proofs.TextLaws.{at_most_one_tree}
use Rattle.natural_keys.specs.NaturalKeys.{natural_keys}
use Rattle.natural_index.specs.Reading.{IsScopedTree, KeysRead}
use Rattle.natural_compile.specs.Texts.{SpellsTree}

-- SQL allows to a printed tree what it allows to the tree
tree_allows : (held : List Loaded) (tree : SqlTree) (rows : List (List Cell)) → SpellsTree tree
    → TextAllows First held (printed tree) rows → TreeAllows held tree rows
tree_allows held tree rows spells allows =
    let text = printed tree in
    let same = at_most_one_tree First (length text) (length text) text allows.tree spells.0
    allows.spelled spells.1 in
    let P : SqlTree → Type 0 = λ t. TreeAllows held t rows in
    subst P (ap bare same ∙ spells.2) allows.allowed

trees_allow : (held : List Loaded) (trees : List SqlTree) (answers : List (List (List Cell)))
    → Each SpellsTree trees → EachBoth (TextAllows First held) (map printed trees) answers
    → EachBoth (TreeAllows held) trees answers
trees_allow held [] answers spell allows = allows
trees_allow held (t ∷ trees) [] spell allows = absurd allows
trees_allow held (t ∷ trees) (rows ∷ answers) spell allows =
    (tree_allows held t rows spell.0 allows.0, trees_allow held trees answers spell.1 allows.1)

-- what keys read of the answers to trees they read of those to the printed trees
pub texts_read : (schema : Schema) (form : FormTree) (trees : List SqlTree) → All SpellsTree trees
    → KeysRead schema form trees
    → SchemeReads (natural_keys schema.tables form) schema form (map printed trees)
texts_read schema form trees spell reads tables stored answers allows =
    reads tables stored answers
    (trees_allow (held_of schema.tables tables) trees answers
    (recursion_from_All SpellsTree trees spell) allows)

text_scoped : (schema : Schema) (types : List ColumnType) (tree : SqlTree) → SpellsTree tree
    → IsScopedTree schema types tree → IsScopedText schema types (printed tree)
text_scoped schema types tree spells scoped =
    let P : SqlTree → Type 0 = λ t. IsWellScoped (shapes_of_schema schema.tables) t
    scoped.columns in
    record {
      tree = spells.0;
      spelled = spells.1;
      columns = scoped.columns;
      scoped = subst P (sym spells.2) scoped.scoped;
      typed = scoped.typed;
    }

each_scoped : (schema : Schema) (columns : ℕ → List ColumnType) (places : List ℕ)
    (trees : List SqlTree) → Each SpellsTree trees
    → EachBoth (λ q tree. IsScopedTree schema (columns q) tree) places trees
    → EachBoth (IsScopedText schema) (map columns places) (map printed trees)
each_scoped schema columns [] trees spell scoped = ap (map printed) scoped
each_scoped schema columns (q ∷ places) [] spell scoped = absurd scoped
each_scoped schema columns (q ∷ places) (t ∷ trees) spell scoped = (
  text_scoped schema (columns q) t spell.0 scoped.0,
  each_scoped schema columns places trees spell.1 scoped.1,
)

-- printed trees are scoped with the columns of the trees
pub texts_scoped : (schema : Schema) (columns : ℕ → List ColumnType) (places : List ℕ)
    (trees : List SqlTree) → All SpellsTree trees
    → EachBoth (λ q tree. IsScopedTree schema (columns q) tree) places trees
    → EachBoth (IsScopedText schema) (map columns places) (map printed trees)
texts_scoped schema columns places trees spell scoped =
    each_scoped schema columns places trees (recursion_from_All SpellsTree trees spell) scoped

last_count : (a n : ℕ) → count_from a (suc n) ≡ count_from a n ++ (a + n) ∷ []
last_count a zero = let e : a ≡ a + 0 = omega arith in ap (λ (k : ℕ). k ∷ []) e
last_count a (suc n) =
    let e : suc a + n ≡ a + suc n = omega arith in
    ap (λ (l : List ℕ). a ∷ l)
    (last_count (suc a) n ∙ ap (λ (k : ℕ). count_from (suc a) n ++ k ∷ []) e)

-- the columns at one path more
pub columns_more : (columns : ℕ → List ColumnType) (all more : List (List ColumnType))
    (own : List ColumnType) (k : ℕ) → all ≡ map columns (count_from 0 k) → own ≡ columns k
    → more ≡ all ++ own ∷ [] → more ≡ map columns (count_from 0 (k + 1))
columns_more columns all more own k are is pushed =
    let next : suc k ≡ k + 1 = omega arith in
    let here : k ≡ 0 + k = omega arith in
    pushed
    ∙ ap₂ (λ (l : List (List ColumnType)) (y : List ColumnType). l ++ y ∷ []) are
    (is ∙ ap columns here)
    ∙ sym (map-append columns (count_from 0 k) ((0 + k) ∷ []))
    ∙ ap (map columns) (sym (last_count 0 k))
    ∙ ap (λ (n : ℕ). map columns (count_from 0 n)) next

-- one printed tree more, behind the first of these
module _ (texts : List SqlText) (k : ℕ) (text : SqlText) (below : k < length texts)
    (here : text ≡ get_or texts k text) where
  trees_more : map sql_tree (take (k + 1) texts) ≡ map sql_tree (take k texts) ++ sql_tree text ∷ []
  trees_more =
      ap (map sql_tree) (take_more texts k text below)
      ∙ map-append sql_tree (take k texts) (get_or texts k text ∷ [])
      ∙ ap (λ (t : SqlText). map sql_tree (take k texts) ++ sql_tree t ∷ []) (sym here)

  pub printed_more : (all more : List (List ℕ)) (bytes : List ℕ)
      → all ≡ map printed (map sql_tree (take k texts)) → bytes ≡ printed (sql_tree text)
      → more ≡ all ++ bytes ∷ [] → more ≡ map printed (map sql_tree (take (k + 1) texts))
  printed_more all more bytes are is pushed =
      pushed
      ∙ ap₂ (λ (l : List (List ℕ)) (b : List ℕ). l ++ b ∷ []) are is
      ∙ sym (map-append printed (map sql_tree (take k texts)) (sql_tree text ∷ []))
      ∙ ap (map printed) (sym trees_more)

  pub spelled_more : All SpellsTree (map sql_tree (take k texts)) → SpellsTree (sql_tree text)
      → All SpellsTree (map sql_tree (take (k + 1) texts))
  spelled_more before own =
      subst (λ (ts : List SqlTree). All SpellsTree ts) (sym trees_more)
      (All-push SpellsTree (map sql_tree (take k texts)) (sql_tree text) before own)

-- a tree as it was printed spells it
pub spells_tree : (tree : SqlTree) (bytes : List ℕ) → bytes ≡ printed tree
    → (spelled : PlacedSql) × Spells First (length bytes) bytes spelled × (bare spelled ≡ tree)
    → SpellsTree tree
spells_tree tree bytes is spells =
    let P : List ℕ → Type 0 = λ b. Spells First (length b) b spells.0 in
    (spells.0, subst P is spells.1, spells.2)

each_at : (texts : List SqlText) (k : ℕ) (text : SqlText) → k < length texts
    → text ≡ get_or texts k text → Each IsSpellable (map sql_tree texts)
    → IsSpellable (sql_tree text)
each_at [] k text below here each = absurd (omega (arith, below))
each_at (t ∷ texts) zero text below here each =
    subst (λ (s : SqlText). IsSpellable (sql_tree s)) (sym here) each.0
each_at (t ∷ texts) (suc k) text below here each =
    each_at texts k text (omega (arith, below)) here each.1

-- one of trees that texts can spell
pub spellable_at : (texts : List SqlText) (k : ℕ) (text : SqlText) → k < length texts
    → text ≡ get_or texts k text → All IsSpellable (map sql_tree texts)
    → IsSpellable (sql_tree text)
spellable_at texts k text below here all =
    each_at texts k text below here (recursion_from_All IsSpellable (map sql_tree texts) all)

pub spelled_all : (texts : List SqlText) (k : ℕ) → k ≡ length texts
    → All SpellsTree (map sql_tree (take k texts)) → All SpellsTree (map sql_tree texts)
spelled_all texts k end before =
    subst (λ (ts : List SqlText). All SpellsTree (map sql_tree ts))
    (take_all k texts (omega (arith, end))) before

pub printed_all : (texts : List SqlText) (k : ℕ) (all : List (List ℕ)) → k ≡ length texts
    → all ≡ map printed (map sql_tree (take k texts)) → all ≡ map printed (map sql_tree texts)
printed_all texts k all end are =
    are ∙ ap (λ (ts : List SqlText). map printed (map sql_tree ts))
    (take_all k texts (omega (arith, end)))
