-- Expressions of shapes, put at the end of others.
use Rattle.std.proofs.Common.{◌≡◌, List, [], ◌∷◌, ◌++◌, map, sym, ap, ◌∙◌, OnOk, Result, Ok, Err}
use Rattle.std.proofs.lemmas.List.{map-append}
use Rattle.nq_ir.specs.declared.base.Base.{Base}
use Rattle.nq_ir.specs.declared.shredded.Shape.{Shape}
use Rattle.nq_ir.specs.declared.shredded.Shape.TheVariants as shape
use Rattle.nq_ir.specs.Trees.{ShapeTree, base_tree, shape_tree}
use Rattle.nq_ir.proofs.Forms.{shape_plain}
use Rattle.sql_profile.specs.declared.tree.Expr.{Expr}
use Rattle.sql_profile.specs.Trees.{ExprTree, expr_tree}
use Rattle.flatten.specs.Emitted.{none_outer}
use Rattle.flatten.specs.Exprs.{base_expr}
use Rattle.natural_index.specs.Trees.{shape_exprs}

pub plain_pushed : (index : List ExprTree) (all more : List Expr) (e : Expr) (b : Base) (s : Shape)
    → s ≡ shape.Plain b → more ≡ all ++ e ∷ [] → expr_tree e ≡ base_expr none_outer (base_tree b)
    → map expr_tree more ≡ map expr_tree all ++ shape_exprs index (shape_tree s)
plain_pushed index all more e b s plain m is =
    ap (map expr_tree) m
    ∙ map-append expr_tree all (e ∷ [])
    ∙ ap (λ (x : ExprTree). map expr_tree all ++ x ∷ []) is
    ∙ sym (ap (λ (t : ShapeTree). map expr_tree all ++ shape_exprs index t)
    (ap shape_tree plain ∙ shape_plain b))

-- the same where pushing may fail
pub plain_on_ok : {T E : Type 0} (r : Result T E) (index : List ExprTree) (all more : List Expr)
    (e : Expr) (b : Base) (s : Shape) → s ≡ shape.Plain b → OnOk r (more ≡ all ++ e ∷ [])
    → expr_tree e ≡ base_expr none_outer (base_tree b) → OnOk r
    (map expr_tree more ≡ map expr_tree all ++ shape_exprs index (shape_tree s))
plain_on_ok (Ok t) index all more e b s plain m is = plain_pushed index all more e b s plain m is
plain_on_ok (Err e) index all more x b s plain m is = m
