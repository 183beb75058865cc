-- The equations of the normal form of a plain term.
--
-- After Cheney, Lindley and Wadler, "Query Shredding", SIGMOD 2014, and Cooper, "The script-writer's dream",
-- DBPL 2009. Here a column names its generator by how many stand between it and its use, so a body that is used
-- more than once has generators of its own in each copy. Nothing is simplified.
use Rattle.std.specs.Prelude.{ℕ, zero, suc, pos, ◌+◌, List, [], ◌∷◌, ◌++◌, map, length, get_or, cond, bytes_eq}
use Rattle.std.specs.Ordering.{is_gt}
use Rattle.nq_model.specs.Orders.{label_cmp}
use Rattle.nq_model.specs.Tables.{Columns}
use Rattle.nq_model.specs.Terms.{TermTree, TermFields, Aggregate, Emptiness, Count, Sum}
use Rattle.nq_model.specs.Totals.{Total, HowMany, SumOf}
use Rattle.nq_model.specs.declared.table.Cell.{Cell}
use Rattle.nq_model.specs.declared.table.Cell.TheVariants as cell
use Rattle.nq_model.specs.declared.table.TableShape.{TableShape}
use Rattle.nq_model.specs.declared.term.Binary.{Binary}
use Rattle.nq_model.specs.declared.term.Binary.TheVariants.{Add}
use Rattle.nq_model.specs.declared.term.Unary.{Unary}
use Rattle.nq_model.specs.declared.term.Unary.TheVariants.{Not}
use Rattle.nq_model.specs.NamedRows.{Label, no_cell}
use Rattle.nq_ir.specs.WellFormed.{table_columns}

-- a column names its generator by how many stand between
mutual
  pub data RawBase : Type 0 where
    raw_literal : Cell → RawBase
    raw_column : ℕ → Label → RawBase
    raw_unary : Unary → RawBase → RawBase
    raw_binary : Binary → RawBase → RawBase → RawBase
    raw_choose : RawBase → RawBase → RawBase → RawBase
    raw_empty : RawTests → RawBase
    raw_total : Total → List Label → RawConds → RawBase → RawBase

  pub data RawConds : Type 0 where
    no_raw : RawConds
    and_raw : RawBase → RawConds → RawConds

  pub data RawTests : Type 0 where
    no_raw_test : RawTests
    raw_test : List Label → RawConds → RawTests → RawTests

mutual
  pub data RawBody : Type 0 where
    raw_plain : RawBase → RawBody
    raw_rec : RawFields → RawBody
    raw_bag : RawComps → RawBody

  pub data RawFields : Type 0 where
    no_raw_field : RawFields
    raw_field : Label → RawBody → RawFields → RawFields

  pub data RawComps : Type 0 where
    no_raw_comp : RawComps
    raw_comp : List Label → RawConds → RawBody → RawComps → RawComps

-- n more generators around, outside the first c
abbrev pub up_index : ℕ → ℕ → ℕ → ℕ
up_index n zero i = n + i
up_index n (suc c) zero = zero
up_index n (suc c) (suc i) = suc (up_index n c i)

abbrev mutual
  pub up_base : ℕ → ℕ → RawBase → RawBase
  up_base n c (raw_literal x) = raw_literal x
  up_base n c (raw_column i l) = raw_column (up_index n c i) l
  up_base n c (raw_unary o b) = raw_unary o (up_base n c b)
  up_base n c (raw_binary o a b) = raw_binary o (up_base n c a) (up_base n c b)
  up_base n c (raw_choose x a b) = raw_choose (up_base n c x) (up_base n c a) (up_base n c b)
  up_base n c (raw_empty xs) = raw_empty (up_tests n c xs)
  up_base n c (raw_total g gs bs b) = raw_total g gs (up_bases n (length gs + c) bs) (up_base n (length gs + c) b)

  pub up_bases : ℕ → ℕ → RawConds → RawConds
  up_bases n c no_raw = no_raw
  up_bases n c (and_raw b bs) = and_raw (up_base n c b) (up_bases n c bs)

  pub up_tests : ℕ → ℕ → RawTests → RawTests
  up_tests n c no_raw_test = no_raw_test
  up_tests n c (raw_test gs bs xs) = raw_test gs (up_bases n (length gs + c) bs) (up_tests n c xs)

abbrev mutual
  pub up_body : ℕ → ℕ → RawBody → RawBody
  up_body n c (raw_plain b) = raw_plain (up_base n c b)
  up_body n c (raw_rec fs) = raw_rec (up_fields n c fs)
  up_body n c (raw_bag cs) = raw_bag (up_comps n c cs)

  pub up_fields : ℕ → ℕ → RawFields → RawFields
  up_fields n c no_raw_field = no_raw_field
  up_fields n c (raw_field l b fs) = raw_field l (up_body n c b) (up_fields n c fs)

  pub up_comps : ℕ → ℕ → RawComps → RawComps
  up_comps n c no_raw_comp = no_raw_comp
  up_comps n c (raw_comp gs bs b cs) = raw_comp gs (up_bases n (length gs + c) bs) (up_body n (length gs + c) b) (up_comps n c cs)

abbrev pub raw_base_in : RawBody → RawBase
raw_base_in (raw_plain b) = b
raw_base_in (raw_rec fs) = raw_literal no_cell
raw_base_in (raw_bag cs) = raw_literal no_cell

abbrev pub raw_comps_in : RawBody → RawComps
raw_comps_in (raw_plain b) = no_raw_comp
raw_comps_in (raw_rec fs) = no_raw_comp
raw_comps_in (raw_bag cs) = cs

abbrev pub raw_field_among : Label → RawFields → RawBody
raw_field_among l no_raw_field = raw_plain (raw_literal no_cell)
raw_field_among l (raw_field k b fs) = cond (bytes_eq l k) b (raw_field_among l fs)

abbrev pub raw_field_in : Label → RawBody → RawBody
raw_field_in l (raw_plain b) = raw_plain (raw_literal no_cell)
raw_field_in l (raw_rec fs) = raw_field_among l fs
raw_field_in l (raw_bag cs) = raw_plain (raw_literal no_cell)

-- a field more, at its place in byte order
abbrev pub put_raw : Label → RawBody → RawFields → RawFields
put_raw l b no_raw_field = raw_field l b no_raw_field
put_raw l b (raw_field k c fs) = cond (is_gt (label_cmp l k)) (raw_field k c (put_raw l b fs)) (raw_field l b (raw_field k c fs))

abbrev pub both_raw : RawConds → RawConds → RawConds
both_raw no_raw ys = ys
both_raw (and_raw x xs) ys = and_raw x (both_raw xs ys)

abbrev pub append_raw : RawComps → RawComps → RawComps
append_raw no_raw_comp ds = ds
append_raw (raw_comp gs bs b cs) ds = raw_comp gs bs b (append_raw cs ds)

-- each comprehension of ds inside the generators gs and the conditions bs
abbrev pub inside : List Label → RawConds → RawComps → RawComps
inside gs bs no_raw_comp = no_raw_comp
inside gs bs (raw_comp hs cs b ds) = raw_comp (gs ++ hs) (both_raw (up_bases (length hs) 0 bs) cs) b (inside gs bs ds)

-- the comprehensions with one more condition before theirs
abbrev pub where_raw : RawBase → RawComps → RawComps
where_raw x cs = inside [] (and_raw x no_raw) cs

-- the choice between two bodies of one shape; of two shapes it is the first
abbrev mutual
  pub choice : RawBase → RawBody → RawBody → RawBody
  choice x (raw_plain a) (raw_plain b) = raw_plain (raw_choose x a b)
  choice x (raw_plain a) (raw_rec gs) = raw_plain a
  choice x (raw_plain a) (raw_bag ds) = raw_plain a
  choice x (raw_rec fs) (raw_plain b) = raw_rec fs
  choice x (raw_rec fs) (raw_rec gs) = raw_rec (choice_of_fields x fs gs)
  choice x (raw_rec fs) (raw_bag ds) = raw_rec fs
  choice x (raw_bag cs) (raw_plain b) = raw_bag cs
  choice x (raw_bag cs) (raw_rec gs) = raw_bag cs
  choice x (raw_bag cs) (raw_bag ds) = raw_bag (append_raw (where_raw x cs) (where_raw (raw_unary Not x) ds))

  pub choice_of_fields : RawBase → RawFields → RawFields → RawFields
  choice_of_fields x no_raw_field gs = no_raw_field
  choice_of_fields x (raw_field l a fs) no_raw_field = raw_field l a fs
  choice_of_fields x (raw_field l a fs) (raw_field k b gs) = raw_field l (choice x a b) (choice_of_fields x fs gs)

abbrev pub raw_tests_of : RawComps → RawTests
raw_tests_of no_raw_comp = no_raw_test
raw_tests_of (raw_comp gs bs b cs) = raw_test gs bs (raw_tests_of cs)

-- a base term for each comprehension
abbrev pub of_each : (List Label → RawConds → RawBody → RawBase) → RawComps → List RawBase
of_each one no_raw_comp = []
of_each one (raw_comp gs bs b cs) = one gs bs b ∷ of_each one cs

-- how many elements a comprehension gives, and the sum of its body over them
abbrev pub raw_count : List Label → RawConds → RawBody → RawBase
raw_count gs bs b = raw_total HowMany gs bs (raw_literal (cell.Int (pos 1)))

abbrev pub raw_sum : List Label → RawConds → RawBody → RawBase
raw_sum gs bs b = raw_total SumOf gs bs (raw_base_in b)

-- joined by `+` from the left; of none it is the number 0
abbrev pub plus_each : RawBase → List RawBase → RawBase
plus_each a [] = a
plus_each a (b ∷ bs) = plus_each (raw_binary Add a b) bs

abbrev pub plus_all : List RawBase → RawBase
plus_all [] = raw_literal (cell.Int (pos 0))
plus_all (b ∷ bs) = plus_each b bs

-- an emptiness test of all comprehensions, or the counts or the sums of each
abbrev pub raw_aggregate : Aggregate → RawComps → RawBase
raw_aggregate Emptiness cs = raw_empty (raw_tests_of cs)
raw_aggregate Count cs = plus_all (of_each raw_count cs)
raw_aggregate Sum cs = plus_all (of_each raw_sum cs)

-- the record of the columns of a table, its labels in byte order
abbrev pub columns_body : Columns → RawFields
columns_body [] = no_raw_field
columns_body (c ∷ cs) = put_raw c.0 (raw_plain (raw_column 0 c.0)) (columns_body cs)

-- for each comprehension of the source, the rest with its body
abbrev pub each_comp : RawComps → (List Label → RawBody → RawComps) → RawComps
each_comp no_raw_comp rest = no_raw_comp
each_comp (raw_comp gs bs b cs) rest = append_raw (inside gs bs (rest gs b)) (each_comp cs rest)

-- what stands for a term that no plain term holds
abbrev pub no_raw_body : RawBody
no_raw_body = raw_plain (raw_literal no_cell)

-- The body of a term over a schema, where the variables have these bodies, the innermost first. A bag is a list of
-- comprehensions: for each of the source of a `for`, those of its body with the source's generators and conditions
-- before their own.
abbrev mutual
  pub raw_form : List TableShape → TermTree → List RawBody → RawBody
  raw_form S (TermTree.var k) es = get_or es k no_raw_body
  raw_form S (TermTree.int n) es = raw_plain (raw_literal (cell.Int n))
  raw_form S (TermTree.bool b) es = raw_plain (raw_literal (cell.Bool b))
  raw_form S (TermTree.text t) es = raw_plain (raw_literal (cell.Text t))
  raw_form S (TermTree.table t) es = raw_bag (raw_comp (t ∷ []) no_raw (raw_rec (columns_body (table_columns S t))) no_raw_comp)
  raw_form S (TermTree.unary op a) es = raw_plain (raw_unary op (raw_base_in (raw_form S a es)))
  raw_form S (TermTree.binary op a b) es = raw_plain (raw_binary op (raw_base_in (raw_form S a es)) (raw_base_in (raw_form S b es)))
  raw_form S (TermTree.choose x a b) es = choice (raw_base_in (raw_form S x es)) (raw_form S a es) (raw_form S b es)
  raw_form S (TermTree.rec fs) es = raw_rec (raw_fields S fs es)
  raw_form S (TermTree.field a l) es = raw_field_in l (raw_form S a es)
  raw_form S (TermTree.aggregate g a) es = raw_plain (raw_aggregate g (raw_comps_in (raw_form S a es)))
  raw_form S (TermTree.single a) es = raw_bag (raw_comp [] no_raw (raw_form S a es) no_raw_comp)
  raw_form S (TermTree.nil type) es = raw_bag no_raw_comp
  raw_form S (TermTree.union a b) es = raw_bag (append_raw (raw_comps_in (raw_form S a es)) (raw_comps_in (raw_form S b es)))
  raw_form S (TermTree.for a b) es =
      raw_bag (each_comp (raw_comps_in (raw_form S a es)) (λ gs e. raw_comps_in (raw_form S b (e ∷ map (up_body (length gs) 0) es))))
  raw_form S (TermTree.guard x a) es = raw_bag (where_raw (raw_base_in (raw_form S x es)) (raw_comps_in (raw_form S a es)))
  raw_form S (TermTree.fun taken a) es = no_raw_body
  raw_form S (TermTree.apply a b) es = no_raw_body
  raw_form S (TermTree.bind a b) es = no_raw_body

  pub raw_fields : List TableShape → TermFields → List RawBody → RawFields
  raw_fields S TermFields.none es = no_raw_field
  raw_fields S (TermFields.with_field l a fs) es = put_raw l (raw_form S a es) (raw_fields S fs es)
