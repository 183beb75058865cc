-- The trees of types and terms, form by form.
use Rattle.std.proofs.Common.{◌≡◌, ℕ, ℤ, Bool, List, [], ◌∷◌, refl, sym, ap, ◌∙◌, Box, Global}
use Rattle.nq_model.specs.Types.{TypeTree, field_types_of, type_layer, type_tree, fields_view as types_view}
use Rattle.nq_model.specs.Terms.{PlacedTerm, PlacedNode, at, TermTree, Emptiness, Count, Sum, with_field, placed, placed_node, placed_fields, node_layer, term_layer, term_tree, node_tree, bare_node, bare_fields, term_fields_of, fields_view}
use Rattle.nq_model.specs.declared.ty.Ty.{Ty, Ty-F, fold-roll-Ty}
use Rattle.nq_model.specs.declared.ty.Ty.TheVariants.{Rec as TyRec, rolls-Rec as rolls-TyRec}
use Rattle.nq_model.specs.declared.term.Unary.{Unary}
use Rattle.nq_model.specs.declared.term.Binary.{Binary}
use Rattle.nq_model.specs.declared.term.Term.{Term, fold-roll-Term}
use Rattle.nq_model.specs.declared.term.Node.{Node-F, fold-roll-Node}
use Rattle.nq_model.specs.declared.term.Node.TheVariants as node

pub type_of_record : (fs : List (List ℕ × Ty)) → type_tree (TyRec fs) ≡ TypeTree.rec (field_types_of (types_view fs))
type_of_record fs = ap type_tree (sym (rolls-TyRec fs)) ∙ fold-roll-Ty TypeTree type_layer (Ty-F.Rec fs)

-- a term is its place and its node
pub placed_term : (t : Term) → placed t ≡ at t.place (placed_node t.node)
placed_term t = fold-roll-Term PlacedNode PlacedTerm node_layer term_layer (record { place = t.place; node = t.node })

pub node_var : (k : ℕ) → placed_node (node.Var k) ≡ PlacedNode.var k
node_var k = ap placed_node (sym (node.rolls-Var k)) ∙ fold-roll-Node PlacedNode PlacedTerm node_layer term_layer (Node-F.Var k)

pub node_int : (n : ℤ) → placed_node (node.Int n) ≡ PlacedNode.int n
node_int n = ap placed_node (sym (node.rolls-Int n)) ∙ fold-roll-Node PlacedNode PlacedTerm node_layer term_layer (Node-F.Int n)

pub node_bool : (b : Bool) → placed_node (node.Bool b) ≡ PlacedNode.bool b
node_bool b = ap placed_node (sym (node.rolls-Bool b)) ∙ fold-roll-Node PlacedNode PlacedTerm node_layer term_layer (Node-F.Bool b)

pub node_text : (t : List ℕ) → placed_node (node.Text t) ≡ PlacedNode.text t
node_text t = ap placed_node (sym (node.rolls-Text t)) ∙ fold-roll-Node PlacedNode PlacedTerm node_layer term_layer (Node-F.Text t)

pub node_table : (l : List ℕ) → placed_node (node.Table l) ≡ PlacedNode.table l
node_table l = ap placed_node (sym (node.rolls-Table l)) ∙ fold-roll-Node PlacedNode PlacedTerm node_layer term_layer (Node-F.Table l)

pub node_unary : (op : Unary) (t : Box Term Global) → placed_node (node.Unary op t) ≡ PlacedNode.unary op (placed t.value)
node_unary op t = ap placed_node (sym (node.rolls-Unary op t)) ∙ fold-roll-Node PlacedNode PlacedTerm node_layer term_layer (Node-F.Unary op t)

pub node_binary : (op : Binary) (t u : Box Term Global) → placed_node (node.Binary op t u) ≡ PlacedNode.binary op (placed t.value) (placed u.value)
node_binary op t u = ap placed_node (sym (node.rolls-Binary op t u)) ∙ fold-roll-Node PlacedNode PlacedTerm node_layer term_layer (Node-F.Binary op t u)

pub node_choose : (t u v : Box Term Global) → placed_node (node.If t u v) ≡ PlacedNode.choose (placed t.value) (placed u.value) (placed v.value)
node_choose t u v = ap placed_node (sym (node.rolls-If t u v)) ∙ fold-roll-Node PlacedNode PlacedTerm node_layer term_layer (Node-F.If t u v)

pub node_fun : (k : Ty) (t : Box Term Global) → placed_node (node.Fun k t) ≡ PlacedNode.fun (type_tree k) (placed t.value)
node_fun k t = ap placed_node (sym (node.rolls-Fun k t)) ∙ fold-roll-Node PlacedNode PlacedTerm node_layer term_layer (Node-F.Fun k t)

pub node_apply : (t u : Box Term Global) → placed_node (node.Apply t u) ≡ PlacedNode.apply (placed t.value) (placed u.value)
node_apply t u = ap placed_node (sym (node.rolls-Apply t u)) ∙ fold-roll-Node PlacedNode PlacedTerm node_layer term_layer (Node-F.Apply t u)

pub node_field : (t : Box Term Global) (l : List ℕ) → placed_node (node.Field t l) ≡ PlacedNode.field (placed t.value) l
node_field t l = ap placed_node (sym (node.rolls-Field t l)) ∙ fold-roll-Node PlacedNode PlacedTerm node_layer term_layer (Node-F.Field t l)

pub node_empty : (t : Box Term Global) → placed_node (node.Empty t) ≡ PlacedNode.aggregate Emptiness (placed t.value)
node_empty t = ap placed_node (sym (node.rolls-Empty t)) ∙ fold-roll-Node PlacedNode PlacedTerm node_layer term_layer (Node-F.Empty t)

pub node_count : (t : Box Term Global) → placed_node (node.Count t) ≡ PlacedNode.aggregate Count (placed t.value)
node_count t = ap placed_node (sym (node.rolls-Count t)) ∙ fold-roll-Node PlacedNode PlacedTerm node_layer term_layer (Node-F.Count t)

pub node_sum : (t : Box Term Global) → placed_node (node.Sum t) ≡ PlacedNode.aggregate Sum (placed t.value)
node_sum t = ap placed_node (sym (node.rolls-Sum t)) ∙ fold-roll-Node PlacedNode PlacedTerm node_layer term_layer (Node-F.Sum t)

pub node_single : (t : Box Term Global) → placed_node (node.Single t) ≡ PlacedNode.single (placed t.value)
node_single t = ap placed_node (sym (node.rolls-Single t)) ∙ fold-roll-Node PlacedNode PlacedTerm node_layer term_layer (Node-F.Single t)

pub node_nil : (k : Ty) → placed_node (node.Nil k) ≡ PlacedNode.nil (type_tree k)
node_nil k = ap placed_node (sym (node.rolls-Nil k)) ∙ fold-roll-Node PlacedNode PlacedTerm node_layer term_layer (Node-F.Nil k)

pub node_union : (t u : Box Term Global) → placed_node (node.Union t u) ≡ PlacedNode.union (placed t.value) (placed u.value)
node_union t u = ap placed_node (sym (node.rolls-Union t u)) ∙ fold-roll-Node PlacedNode PlacedTerm node_layer term_layer (Node-F.Union t u)

pub node_for : (t u : Box Term Global) → placed_node (node.For t u) ≡ PlacedNode.for (placed t.value) (placed u.value)
node_for t u = ap placed_node (sym (node.rolls-For t u)) ∙ fold-roll-Node PlacedNode PlacedTerm node_layer term_layer (Node-F.For t u)

pub node_guard : (t u : Box Term Global) → placed_node (node.Guard t u) ≡ PlacedNode.guard (placed t.value) (placed u.value)
node_guard t u = ap placed_node (sym (node.rolls-Guard t u)) ∙ fold-roll-Node PlacedNode PlacedTerm node_layer term_layer (Node-F.Guard t u)

pub node_bind : (t u : Box Term Global) → placed_node (node.Bind t u) ≡ PlacedNode.bind (placed t.value) (placed u.value)
node_bind t u = ap placed_node (sym (node.rolls-Bind t u)) ∙ fold-roll-Node PlacedNode PlacedTerm node_layer term_layer (Node-F.Bind t u)

pub node_record : (fs : List (List ℕ × Term)) → placed_node (node.Rec fs) ≡ PlacedNode.rec (placed_fields fs)
node_record fs = ap placed_node (sym (node.rolls-Rec fs)) ∙ fold-roll-Node PlacedNode PlacedTerm node_layer term_layer (Node-F.Rec fs)

bare_placed : (fs : List (List ℕ × Term)) → bare_fields (placed_fields fs) ≡ term_fields_of (fields_view fs)
bare_placed [] = refl
bare_placed (f ∷ fs) = ap (with_field f.0 (term_tree f.1)) (bare_placed fs)

pub node_tree_record : (fs : List (List ℕ × Term)) → node_tree (node.Rec fs) ≡ TermTree.rec (term_fields_of (fields_view fs))
node_tree_record fs = ap bare_node (node_record fs) ∙ ap TermTree.rec (bare_placed fs)
