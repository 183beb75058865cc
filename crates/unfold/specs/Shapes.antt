-- The nodes that every walk treats alike.
use Rattle.std.specs.Prelude.{ℕ, ◌+◌}
use Rattle.nq_model.specs.Terms.{PlacedTerm, PlacedNode, Emptiness, Count, Sum}
use Rattle.unfold.specs.declared.shapes.One.{One}
use Rattle.unfold.specs.declared.shapes.One.TheVariants as one
use Rattle.unfold.specs.declared.shapes.Two.{Two}
use Rattle.unfold.specs.declared.shapes.Two.TheVariants as two

-- the node over a part
abbrev pub one_node : One → PlacedTerm → PlacedNode
one_node (one.Unary op) t = PlacedNode.unary op t
one_node one.Empty t = PlacedNode.aggregate Emptiness t
one_node one.Count t = PlacedNode.aggregate Count t
one_node one.Sum t = PlacedNode.aggregate Sum t
one_node one.Single t = PlacedNode.single t

-- the node over two parts
abbrev pub two_node : Two → PlacedTerm → PlacedTerm → PlacedNode
two_node (two.Binary op) t u = PlacedNode.binary op t u
two_node two.Union t u = PlacedNode.union t u
two_node two.For t u = PlacedNode.for t u
two_node two.Guard t u = PlacedNode.guard t u
two_node two.Bind t u = PlacedNode.bind t u

-- what an index is in the second part
abbrev pub inside : Two → ℕ → ℕ
inside (two.Binary op) n = n
inside two.Union n = n
inside two.For n = n + 1
inside two.Guard n = n
inside two.Bind n = n + 1
