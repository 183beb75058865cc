-- The trees of base terms, bodies and forms, form by form.
use Rattle.std.proofs.Common.{◌≡◌, ℕ, ℤ, pos, Bool, List, [], ◌∷◌, ◌++◌, map, refl, sym, ap, ◌∙◌, Box, Global}
use Rattle.nq_model.specs.Totals.{HowMany, SumOf}
use Rattle.nq_model.specs.Types.{type_tree}
use Rattle.nq_model.specs.declared.table.Cell.TheVariants as cell
use Rattle.nq_model.specs.declared.term.Binary.{Binary}
use Rattle.nq_model.specs.declared.term.Unary.{Unary}
use Rattle.nq_ir.specs.declared.base.Base.{Base, Base-F, fold-roll-Base}
use Rattle.nq_ir.specs.declared.base.Base.TheVariants as base
use Rattle.nq_ir.specs.declared.base.Test.{Test, fold-roll-Test}
use Rattle.nq_ir.specs.declared.normal.Body.{Body, Body-F, fold-roll-Body}
use Rattle.nq_ir.specs.declared.normal.Body.TheVariants as body
use Rattle.nq_ir.specs.declared.normal.Comp.{Comp, fold-roll-Comp}
use Rattle.nq_ir.specs.declared.normal.Normal.{Normal, out-Normal, fold_out-Normal}
use Rattle.nq_ir.specs.declared.shredded.Shape.{Shape, Shape-F, fold-roll-Shape}
use Rattle.nq_ir.specs.declared.shredded.Shape.TheVariants as shape
use Rattle.nq_ir.specs.Trees.{BaseTree, TestPart, chain, tests_of, base_layer, test_layer, base_tree, test_part, conds_tree, BodyTree, CompPart, FormTree, bodies_of, comps_of, body_layer, comp_layer, normal_layer, body_tree, comp_part, form_tree, ShapeTree, shapes_of, shape_layer, shape_tree}

pub base_int : (n : ℤ) → base_tree (base.Int n) ≡ BaseTree.literal (cell.Int n)
base_int n = ap base_tree (sym (base.rolls-Int n)) ∙ fold-roll-Base BaseTree TestPart base_layer test_layer (Base-F.Int n)

pub base_bool : (b : Bool) → base_tree (base.Bool b) ≡ BaseTree.literal (cell.Bool b)
base_bool b = ap base_tree (sym (base.rolls-Bool b)) ∙ fold-roll-Base BaseTree TestPart base_layer test_layer (Base-F.Bool b)

pub base_text : (t : List ℕ) → base_tree (base.Text t) ≡ BaseTree.literal (cell.Text t)
base_text t = ap base_tree (sym (base.rolls-Text t)) ∙ fold-roll-Base BaseTree TestPart base_layer test_layer (Base-F.Text t)

pub base_column : (g : ℕ) (l : List ℕ) → base_tree (base.Column g l) ≡ BaseTree.column g l
base_column g l = ap base_tree (sym (base.rolls-Column g l)) ∙ fold-roll-Base BaseTree TestPart base_layer test_layer (Base-F.Column g l)

pub base_unary : (op : Unary) (b : Box Base Global) → base_tree (base.Unary op b) ≡ BaseTree.unary op (base_tree b.value)
base_unary op b = ap base_tree (sym (base.rolls-Unary op b)) ∙ fold-roll-Base BaseTree TestPart base_layer test_layer (Base-F.Unary op b)

pub base_binary : (op : Binary) (a b : Box Base Global) → base_tree (base.Binary op a b) ≡ BaseTree.binary op (base_tree a.value) (base_tree b.value)
base_binary op a b = ap base_tree (sym (base.rolls-Binary op a b)) ∙ fold-roll-Base BaseTree TestPart base_layer test_layer (Base-F.Binary op a b)

pub base_chain : (op : Binary) (a : Box Base Global) (bs : List Base) → base_tree (base.Chain op a bs) ≡ chain op (base_tree a.value) (map base_tree bs)
base_chain op a bs = ap base_tree (sym (base.rolls-Chain op a bs)) ∙ fold-roll-Base BaseTree TestPart base_layer test_layer (Base-F.Chain op a bs)

-- the last part of a chain stands on the right of the outermost operation
pub chain_last : (op : Binary) (a : BaseTree) (bs : List BaseTree) (b : BaseTree) → chain op a (bs ++ b ∷ []) ≡ BaseTree.binary op (chain op a bs) b
chain_last op a [] b = refl
chain_last op a (c ∷ bs) b = chain_last op (BaseTree.binary op a c) bs b

pub base_choose : (x a b : Box Base Global) → base_tree (base.Choose x a b) ≡ BaseTree.choose (base_tree x.value) (base_tree a.value) (base_tree b.value)
base_choose x a b = ap base_tree (sym (base.rolls-Choose x a b)) ∙ fold-roll-Base BaseTree TestPart base_layer test_layer (Base-F.Choose x a b)

pub base_empty : (ts : List Test) → base_tree (base.Empty ts) ≡ BaseTree.empty (tests_of (map test_part ts))
base_empty ts = ap base_tree (sym (base.rolls-Empty ts)) ∙ fold-roll-Base BaseTree TestPart base_layer test_layer (Base-F.Empty ts)

pub base_count : (t : Test) → base_tree (base.Count t) ≡ BaseTree.total HowMany (test_part t).gens (test_part t).conds (BaseTree.literal (cell.Int (pos 1)))
base_count t = ap base_tree (sym (base.rolls-Count t)) ∙ fold-roll-Base BaseTree TestPart base_layer test_layer (Base-F.Count t)

pub base_sum : (t : Test) (b : Box Base Global) → base_tree (base.Sum t b) ≡ BaseTree.total SumOf (test_part t).gens (test_part t).conds (base_tree b.value)
base_sum t b = ap base_tree (sym (base.rolls-Sum t b)) ∙ fold-roll-Base BaseTree TestPart base_layer test_layer (Base-F.Sum t b)

pub test_is : (t : Test) → test_part t ≡ record { gens = t.gens; conds = conds_tree t.conds }
test_is t = fold-roll-Test BaseTree TestPart base_layer test_layer (record { gens = t.gens; conds = t.conds })

pub body_plain : (b : Base) → body_tree (body.Plain b) ≡ BodyTree.plain_body (base_tree b)
body_plain b = ap body_tree (sym (body.rolls-Plain b)) ∙ fold-roll-Body BodyTree CompPart FormTree body_layer comp_layer normal_layer (Body-F.Plain b)

pub body_rec : (fs : List (List ℕ × Body)) → body_tree (body.Rec fs) ≡ BodyTree.rec_body (bodies_of (map (λ f. (f.0, body_tree f.1)) fs))
body_rec fs = ap body_tree (sym (body.rolls-Rec fs)) ∙ fold-roll-Body BodyTree CompPart FormTree body_layer comp_layer normal_layer (Body-F.Rec fs)

pub body_bag : (n : Normal) → body_tree (body.Bag n) ≡ BodyTree.bag_body (form_tree n).element (form_tree n).comps
body_bag n = ap body_tree (sym (body.rolls-Bag n)) ∙ fold-roll-Body BodyTree CompPart FormTree body_layer comp_layer normal_layer (Body-F.Bag n)

pub comp_is : (c : Comp) → comp_part c ≡ record { tag = c.tag; gens = c.gens; conds = conds_tree c.conds; body = body_tree c.body }
comp_is c =
    fold-roll-Comp BodyTree CompPart FormTree body_layer comp_layer normal_layer (record { tag = c.tag; gens = c.gens; conds = c.conds; body = c.body })

pub form_is : (n : Normal) → form_tree n ≡ record { element = type_tree (out-Normal n).element; comps = comps_of (map comp_part (out-Normal n).parts) }
form_is n = fold_out-Normal BodyTree CompPart FormTree body_layer comp_layer normal_layer n

pub shape_plain : (b : Base) → shape_tree (shape.Plain b) ≡ ShapeTree.plain_shape (base_tree b)
shape_plain b = ap shape_tree (sym (shape.rolls-Plain b)) ∙ fold-roll-Shape ShapeTree shape_layer (Shape-F.Plain b)

pub shape_rec : (fs : List (List ℕ × Shape)) → shape_tree (shape.Rec fs) ≡ ShapeTree.rec_shape (shapes_of (map (λ f. (f.0, shape_tree f.1)) fs))
shape_rec fs = ap shape_tree (sym (shape.rolls-Rec fs)) ∙ fold-roll-Shape ShapeTree shape_layer (Shape-F.Rec fs)

pub shape_index : shape_tree shape.Index ≡ ShapeTree.index_shape
shape_index = ap shape_tree (sym shape.rolls-Index) ∙ fold-roll-Shape ShapeTree shape_layer Shape-F.Index
