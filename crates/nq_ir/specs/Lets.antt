-- Let forms, and the rows that they allow, each spot written as a tag and a number.
--
-- After the let-insertion and the flat indexes of Cheney, Lindley and Wadler, "Query Shredding", SIGMOD
-- 2014; numbers as ROW_NUMBER() of SQL:2003 deals them, in any order among ties.
use Rattle.std.specs.Prelude.{◌≡◌, ◌≢◌, ℕ, zero, suc, ◌<◌, ◌≤◌, ◌^◌, List, [], ◌∷◌, ◌++◌, length, map, zip, flat_map, filter, get_or, nat_eq, ◌&&◌, cond}
use Rattle.std.specs.List.{AllByRecursion as Each}
use Rattle.std.specs.Ordering.{nat_cmp}
use Rattle.nq_model.specs.Bags.{Reordered}
use Rattle.nq_model.specs.Numberings.{Numbers, key_lt}
use Rattle.nq_model.specs.Types.{TypeTree, bag, type_tree}
use Rattle.nq_model.specs.Orders.{sorted_by}
use Rattle.nq_model.specs.declared.table.Cell.{Cell}
use Rattle.nq_model.specs.declared.table.Schema.{Schema}
use Rattle.nq_ir.specs.declared.base.Gen.{Gen}
use Rattle.nq_ir.specs.declared.path.Step.{Step}
use Rattle.nq_ir.specs.declared.lets.LetQuery.{LetQuery}
use Rattle.nq_ir.specs.declared.lets.LetPart.{LetPart}
use Rattle.nq_ir.specs.declared.lets.LetForm.{LetForm}
use Rattle.nq_ir.specs.Among.{Among}
use Rattle.nq_ir.specs.Trees.{Conds, no_cond, conds_tree, ShapeTree, shape_tree, FormTree}
use Rattle.nq_model.specs.NamedRows.{Label, cell_under, no_cell}
use Rattle.nq_ir.specs.Meanings.{Tables, Env, row_of, kept, value, EachBoth}
use Rattle.nq_ir.specs.Building.{Source}
use Rattle.nq_ir.specs.Paths.{paths}
use Rattle.nq_ir.specs.Shredded.{ShreddedTree, shredded, IsShreddedOf, IsRising}
use Rattle.nq_ir.specs.Spots.{StrandTree, shape_leaves, shape_slots}

-- a comprehension that is a parent, with all generators and conditions down to it
pub record LetTree : Type 0 where
  pub parent : ℕ
  pub gens : List Gen
  pub conds : Conds

-- a comprehension over the rows of the let with the number `from`; at the empty path that is 0
pub record PartTree : Type 0 where
  pub from : ℕ
  pub tag : ℕ
  pub gens : List Gen
  pub conds : Conds
  pub shape : ShapeTree

pub record LetFormTree : Type 0 where
  pub path : List Step
  pub element : TypeTree
  pub lets : List LetTree
  pub parts : List PartTree

abbrev pub let_tree : LetQuery → LetTree
let_tree l = record { parent = l.parent; gens = l.gens; conds = conds_tree l.conds }

abbrev pub part_tree : LetPart → PartTree
part_tree p = record { from = p.from; tag = p.tag; gens = p.gens; conds = conds_tree p.conds; shape = shape_tree p.shape }

-- the tree of a let form of the program
abbrev pub let_form_tree : LetForm → LetFormTree
let_form_tree f = record {
  path = f.path.steps;
  element = type_tree f.element;
  lets = map let_tree f.lets;
  parts = map part_tree f.parts;
}

-- strands in the order of their parents, those of one parent as they stand
abbrev pub by_parent : List StrandTree → List StrandTree
by_parent ds = sorted_by (λ d e. nat_cmp d.parent e.parent) ds

-- the let of a strand's parent
abbrev pub let_around : StrandTree → LetTree
let_around d = record { parent = d.parent; gens = d.outer_gens; conds = d.outer_conds }

-- one let for each run of strands with one parent other than the last
abbrev pub lets_after : ℕ → List StrandTree → List LetTree
lets_after last [] = []
lets_after last (d ∷ ds) = cond (nat_eq d.parent last) (lets_after last ds) (let_around d ∷ lets_after d.parent ds)

-- one let for each parent of these strands, in the order of the parents; the parent 0, at the empty path, needs none
abbrev pub lets_of : List StrandTree → List LetTree
lets_of ds = lets_after 0 (by_parent ds)

-- how many lets stand before that of this parent
abbrev pub lets_before : ℕ → List LetTree → ℕ
lets_before t [] = 0
lets_before t (l ∷ ls) = cond (nat_eq t l.parent) 0 (suc (lets_before t ls))

-- the number of a parent's let, from 1; 0 stands for the parent 0, which has none
abbrev pub let_number : List LetTree → ℕ → ℕ
let_number lets zero = 0
let_number lets (suc t) = suc (lets_before (suc t) lets)

abbrev pub part_from : ℕ → StrandTree → PartTree
part_from k d = record { from = k; tag = d.tag; gens = d.gens; conds = d.conds; shape = d.shape }

-- the parts of strands, in the same order, each on its parent's let
abbrev pub parts_on : List LetTree → List StrandTree → List PartTree
parts_on lets ds = map (λ d. part_from (let_number lets d.parent) d) ds

-- the let form of a shredded form
abbrev pub insert_lets : ShreddedTree → LetFormTree
insert_lets s = record {
  path = s.path;
  element = s.element;
  lets = lets_of s.parts;
  parts = parts_on (lets_of s.parts) s.parts;
}

abbrev pub no_let : LetTree
no_let = record { parent = 0; gens = []; conds = no_cond }

-- the let with this number; at the empty path the parent is the top, which has no generator
abbrev pub let_of : List LetTree → ℕ → LetTree
let_of lets zero = no_let
let_of lets (suc k) = get_or lets k no_let

-- the let form of the shredded form of a form that is well formed over the schema, at one of its paths
pub record IsLetFormOf (schema : Schema) (f : LetFormTree) : Type 0 where
  pub of : ShreddedTree
  pub shredded : IsShreddedOf schema of
  pub is : f ≡ insert_lets of

-- a part as the strand that it was
abbrev pub strand_of : List LetTree → PartTree → StrandTree
strand_of lets p = record {
  parent = (let_of lets p.from).parent;
  outer_gens = (let_of lets p.from).gens;
  outer_conds = (let_of lets p.from).conds;
  tag = p.tag;
  gens = p.gens;
  conds = p.conds;
  shape = p.shape;
}

-- a row that writes each spot as tag and number: the spot that it stands under, the base parts, and the spots of its inner bags
pub record FlatRow : Type 0 where
  pub outer : ℕ × ℕ
  pub leaf_cells : List Cell
  pub inners : List (ℕ × ℕ)

-- such rows, a list for each path, as a source
abbrev pub flat : List (List FlatRow) → Source (ℕ × ℕ) FlatRow
flat rows = record {
  rows = λ q i. filter (λ r. nat_eq r.outer.0 i.0 && nat_eq r.outer.1 i.1) (get_or rows q []);
  leaf = λ q l r. get_or r.leaf_cells l no_cell;
  inner = λ q s r. get_or r.inners s (0, 0);
}

-- the columns of generators: each column of each, outermost first, in the order of the schema
abbrev pub columns_in : (Label → List Label) → List Gen → List (ℕ × Label)
columns_in cols gens = flat_map (λ g. map (λ c. (g.number, c)) (cols g.table)) gens

-- their cells, the keys by which spots are numbered
abbrev pub key_of : (Label → List Label) → List Gen → Env → List Cell
key_of cols gens e = map (λ p. cell_under p.1 (row_of p.0 e)) (columns_in cols gens)

-- numbers that a numbering may deal to elements with these keys; more than 2^63 - 1 get none
pub record Deals (keys : List (List Cell)) (ns : List ℕ) : Type 0 where
  pub numbers : Numbers key_lt keys ns
  pub fits : length keys < 2 ^ 63

abbrev pub head_of : List ℕ → ℕ
head_of [] = 0
head_of (n ∷ ns) = n

abbrev pub tail_of : List ℕ → List ℕ
tail_of [] = []
tail_of (n ∷ ns) = ns

-- a numbered row of a let: its number, and the rows of the generators in scope
abbrev pub LetRow : Type 0
LetRow = ℕ × Env

-- the combinations of a part: the number of its let's row, and the rows of all generators in scope
abbrev pub combos : Tables → List LetRow → StrandTree → List LetRow
combos ts lets c = flat_map (λ p. map (λ e. (p.0, e)) (kept ts c.gens c.conds p.1)) lets

-- one row for each combination; ms are the numbers of its inner bags, a list for each
abbrev pub part_rows : Tables → StrandTree → List LetRow → List (List ℕ) → List FlatRow
part_rows ts c [] ms = []
part_rows ts c (p ∷ ps) ms =
    record { outer = (c.parent, p.0); leaf_cells = map (λ b. value ts b p.1) (shape_leaves c.shape); inners = map (λ n. (c.tag, head_of n)) ms } ∷ part_rows ts c ps (map tail_of ms)

-- a strand with the rows of its let
abbrev pub Side : Type 0
Side = StrandTree × List LetRow

-- the rows of one part over its let's rows: each inner bag is numbered by itself
abbrev pub PartGives : (Label → List Label) → Tables → Side → List FlatRow → Type 0
PartGives cols ts d rows =
    (ms : List (List ℕ)) × (length ms ≡ shape_slots d.0.shape) × Each (λ n. Deals (map (λ p. key_of cols (d.0.outer_gens ++ d.0.gens) p.1) (combos ts d.1 d.0)) n) ms × (rows ≡ part_rows ts d.0 (combos ts d.1 d.0) ms)

-- the rows of all parts, taken together
abbrev pub PartsGive : (Label → List Label) → Tables → List Side → List FlatRow → Type 0
PartsGive cols ts [] rows = rows ≡ []
PartsGive cols ts (d ∷ ds) rows =
    (here : List FlatRow) × (rest : List FlatRow) × PartGives cols ts d here × PartsGive cols ts ds rest × (rows ≡ here ++ rest)

-- the rows of a let: its kept choices with their numbers, in any order
abbrev pub LetGives : (Label → List Label) → Tables → LetTree → List LetRow → Type 0
LetGives cols ts l rows =
    (ns : List ℕ) × Deals (map (key_of cols l.gens) (kept ts l.gens l.conds [])) ns × Reordered (zip ns (kept ts l.gens l.conds [])) rows

-- the rows of the let with this number; the top has one spot, with the number 1
abbrev pub let_rows : List (List LetRow) → ℕ → List LetRow
let_rows lists zero = (1, []) ∷ []
let_rows lists (suc k) = get_or lists k []

-- what a let form allows: each let has one list of numbered rows, each part ranges over the list of its let, and the rows come in any order
pub record FormGives (cols : Label → List Label) (ts : Tables) (f : LetFormTree) (rows : List FlatRow) : Type 0 where
  pub lists : List (List LetRow)
  pub numbered_once : EachBoth (LetGives cols ts) f.lets lists
  pub all : List FlatRow
  pub parts : PartsGive cols ts (map (λ p. (strand_of f.lets p, let_rows lists p.from)) f.parts) all
  pub any_order : Reordered rows all

-- the rows that the let forms at the paths of a form allow, a list for each path, in path order
abbrev pub AllGive : (Label → List Label) → Tables → FormTree → List (List FlatRow) → Type 0
AllGive cols ts form rows =
    EachBoth (λ p here. FormGives cols ts (insert_lets (shredded form p)) here) (paths (bag form.element)) rows

-- What the let form of a shredded form is: its lets stand in the order of their parents, each parent of a strand once,
-- and the parent 0 has none; each part stands on its parent's let, and with it is the strand again, in tag order. At
-- the empty path there is no let, and at the others each part stands on one.
pub record Inserts (s : ShreddedTree) (f : LetFormTree) : Type 0 where
  pub parents_rise : IsRising (0 ∷ map (λ l. l.parent) f.lets)
  pub parents_serve : Each (λ l. Among l.parent (map (λ d. d.parent) s.parts)) f.lets
  pub lets_known : Each (λ p. p.from ≤ length f.lets) f.parts
  pub strands : map (strand_of f.lets) f.parts ≡ s.parts
  pub tags_rise : IsRising (map (λ p. p.tag) f.parts)
  pub at_top : s.path ≡ [] → f.lets ≡ []
  pub below : s.path ≢ [] → Each (λ p. 1 ≤ p.from) f.parts
