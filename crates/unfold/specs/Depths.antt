-- How deep a term is.
use Rattle.std.specs.Prelude.{ℕ, ◌+◌, max}
use Rattle.nq_model.specs.Terms.{TermTree, TermFields}

-- the number of nodes on the longest way from the term to a leaf
abbrev mutual
  pub term_depth : TermTree → ℕ
  term_depth (TermTree.var k) = 1
  term_depth (TermTree.int n) = 1
  term_depth (TermTree.bool b) = 1
  term_depth (TermTree.text t) = 1
  term_depth (TermTree.table l) = 1
  term_depth (TermTree.unary op t) = term_depth t + 1
  term_depth (TermTree.binary op t u) = max (term_depth t) (term_depth u) + 1
  term_depth (TermTree.choose t u v) = max (max (term_depth t) (term_depth u)) (term_depth v) + 1
  term_depth (TermTree.fun k t) = term_depth t + 1
  term_depth (TermTree.apply t u) = max (term_depth t) (term_depth u) + 1
  term_depth (TermTree.rec fs) = fields_depth fs + 1
  term_depth (TermTree.field t l) = term_depth t + 1
  term_depth (TermTree.aggregate g t) = term_depth t + 1
  term_depth (TermTree.single t) = term_depth t + 1
  term_depth (TermTree.nil k) = 1
  term_depth (TermTree.union t u) = max (term_depth t) (term_depth u) + 1
  term_depth (TermTree.for t u) = max (term_depth t) (term_depth u) + 1
  term_depth (TermTree.guard t u) = max (term_depth t) (term_depth u) + 1
  term_depth (TermTree.bind t u) = max (term_depth t) (term_depth u) + 1

  pub fields_depth : TermFields → ℕ
  fields_depth TermFields.none = 0
  fields_depth (TermFields.with_field l t fs) = max (term_depth t) (fields_depth fs)
