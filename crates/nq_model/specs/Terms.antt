-- Terms as plain trees, with their places and without.
--
-- After Cheney, Lindley and Wadler, "Query Shredding", SIGMOD 2014; variables by de Bruijn, 1972.
use Rattle.std.specs.Prelude.{ℕ, ℤ, Bool, List, [], ◌∷◌, map}
use Rattle.nq_model.specs.Types.{TypeTree, type_tree}
use Rattle.nq_model.specs.declared.term.Unary.{Unary}
use Rattle.nq_model.specs.declared.term.Binary.{Binary}
use Rattle.nq_model.specs.declared.term.Term.{Term}
use Rattle.nq_model.specs.declared.term.Node.{Node}
use Rattle.nq_model.specs.declared.term.Node.TheFolds.{fold-Node, fold-Term}
use Rattle.nq_model.specs.declared.term.Node.TheOpen.{Node-F, Term-F}

-- what is asked of a bag: whether it has no element, how many it has, or their sum
pub data Aggregate : Type 0 where
  Emptiness : Aggregate
  Count : Aggregate
  Sum : Aggregate

mutual
  pub data TermTree : Type 0 where
    var : ℕ → TermTree
    int : ℤ → TermTree
    bool : Bool → TermTree
    text : List ℕ → TermTree
    table : List ℕ → TermTree
    unary : Unary → TermTree → TermTree
    binary : Binary → TermTree → TermTree → TermTree
    choose : TermTree → TermTree → TermTree → TermTree
    fun : TypeTree → TermTree → TermTree
    apply : TermTree → TermTree → TermTree
    rec : TermFields → TermTree
    field : TermTree → List ℕ → TermTree
    aggregate : Aggregate → TermTree → TermTree
    single : TermTree → TermTree
    nil : TypeTree → TermTree
    union : TermTree → TermTree → TermTree
    for : TermTree → TermTree → TermTree
    guard : TermTree → TermTree → TermTree
    bind : TermTree → TermTree → TermTree

  pub data TermFields : Type 0 where
    none : TermFields
    with_field : List ℕ → TermTree → TermFields → TermFields

abbrev pub term_fields_of : List (List ℕ × TermTree) → TermFields
term_fields_of [] = none
term_fields_of (f ∷ fs) = with_field f.0 f.1 (term_fields_of fs)

-- a term with its places
mutual
  pub data PlacedTerm : Type 0 where
    at : ℕ → PlacedNode → PlacedTerm

  pub data PlacedNode : Type 0 where
    var : ℕ → PlacedNode
    int : ℤ → PlacedNode
    bool : Bool → PlacedNode
    text : List ℕ → PlacedNode
    table : List ℕ → PlacedNode
    unary : Unary → PlacedTerm → PlacedNode
    binary : Binary → PlacedTerm → PlacedTerm → PlacedNode
    choose : PlacedTerm → PlacedTerm → PlacedTerm → PlacedNode
    fun : TypeTree → PlacedTerm → PlacedNode
    apply : PlacedTerm → PlacedTerm → PlacedNode
    rec : PlacedFields → PlacedNode
    field : PlacedTerm → List ℕ → PlacedNode
    aggregate : Aggregate → PlacedTerm → PlacedNode
    single : PlacedTerm → PlacedNode
    nil : TypeTree → PlacedNode
    union : PlacedTerm → PlacedTerm → PlacedNode
    for : PlacedTerm → PlacedTerm → PlacedNode
    guard : PlacedTerm → PlacedTerm → PlacedNode
    bind : PlacedTerm → PlacedTerm → PlacedNode

  pub data PlacedFields : Type 0 where
    none : PlacedFields
    with_field : List ℕ → PlacedTerm → PlacedFields → PlacedFields

abbrev pub placed_fields_of : List (List ℕ × PlacedTerm) → PlacedFields
placed_fields_of [] = PlacedFields.none
placed_fields_of (f ∷ fs) = PlacedFields.with_field f.0 f.1 (placed_fields_of fs)

-- the term without its places
abbrev mutual
  pub bare : PlacedTerm → TermTree
  bare (at place n) = bare_node n

  pub bare_node : PlacedNode → TermTree
  bare_node (PlacedNode.var k) = TermTree.var k
  bare_node (PlacedNode.int n) = TermTree.int n
  bare_node (PlacedNode.bool b) = TermTree.bool b
  bare_node (PlacedNode.text t) = TermTree.text t
  bare_node (PlacedNode.table l) = TermTree.table l
  bare_node (PlacedNode.unary op t) = TermTree.unary op (bare t)
  bare_node (PlacedNode.binary op t u) = TermTree.binary op (bare t) (bare u)
  bare_node (PlacedNode.choose t u v) = TermTree.choose (bare t) (bare u) (bare v)
  bare_node (PlacedNode.fun k t) = TermTree.fun k (bare t)
  bare_node (PlacedNode.apply t u) = TermTree.apply (bare t) (bare u)
  bare_node (PlacedNode.rec fs) = TermTree.rec (bare_fields fs)
  bare_node (PlacedNode.field t l) = TermTree.field (bare t) l
  bare_node (PlacedNode.aggregate g t) = TermTree.aggregate g (bare t)
  bare_node (PlacedNode.single t) = TermTree.single (bare t)
  bare_node (PlacedNode.nil k) = TermTree.nil k
  bare_node (PlacedNode.union t u) = TermTree.union (bare t) (bare u)
  bare_node (PlacedNode.for t u) = TermTree.for (bare t) (bare u)
  bare_node (PlacedNode.guard t u) = TermTree.guard (bare t) (bare u)
  bare_node (PlacedNode.bind t u) = TermTree.bind (bare t) (bare u)

  pub bare_fields : PlacedFields → TermFields
  bare_fields PlacedFields.none = TermFields.none
  bare_fields (PlacedFields.with_field l t fs) = TermFields.with_field l (bare t) (bare_fields fs)

abbrev pub node_layer : Node-F PlacedNode PlacedTerm → PlacedNode
node_layer (Node-F.Var k) = PlacedNode.var k
node_layer (Node-F.Int n) = PlacedNode.int n
node_layer (Node-F.Bool b) = PlacedNode.bool b
node_layer (Node-F.Text t) = PlacedNode.text t
node_layer (Node-F.Table l) = PlacedNode.table l
node_layer (Node-F.Unary op t) = PlacedNode.unary op t.value
node_layer (Node-F.Binary op t u) = PlacedNode.binary op t.value u.value
node_layer (Node-F.If t u v) = PlacedNode.choose t.value u.value v.value
node_layer (Node-F.Fun k t) = PlacedNode.fun (type_tree k) t.value
node_layer (Node-F.Apply t u) = PlacedNode.apply t.value u.value
node_layer (Node-F.Rec fs) = PlacedNode.rec (placed_fields_of fs)
node_layer (Node-F.Field t l) = PlacedNode.field t.value l
node_layer (Node-F.Empty t) = PlacedNode.aggregate Emptiness t.value
node_layer (Node-F.Count t) = PlacedNode.aggregate Count t.value
node_layer (Node-F.Sum t) = PlacedNode.aggregate Sum t.value
node_layer (Node-F.Single t) = PlacedNode.single t.value
node_layer (Node-F.Nil k) = PlacedNode.nil (type_tree k)
node_layer (Node-F.Union t u) = PlacedNode.union t.value u.value
node_layer (Node-F.For t u) = PlacedNode.for t.value u.value
node_layer (Node-F.Guard t u) = PlacedNode.guard t.value u.value
node_layer (Node-F.Bind t u) = PlacedNode.bind t.value u.value

abbrev pub term_layer : Term-F PlacedNode PlacedTerm → PlacedTerm
term_layer t = at t.place t.node

abbrev pub placed_node : Node → PlacedNode
placed_node = fold-Node PlacedNode PlacedTerm node_layer term_layer

abbrev pub placed : Term → PlacedTerm
placed = fold-Term PlacedNode PlacedTerm node_layer term_layer

abbrev pub node_tree : Node → TermTree
node_tree n = bare_node (placed_node n)

abbrev pub term_tree : Term → TermTree
term_tree t = bare (placed t)

abbrev pub placed_fields : List (List ℕ × Term) → PlacedFields
placed_fields fs = placed_fields_of (map (λ f. (f.0, placed f.1)) fs)

-- each field's label and term
abbrev pub fields_view : List (List ℕ × Term) → List (List ℕ × TermTree)
fields_view fs = map (λ f. (f.0, term_tree f.1)) fs
