use Rattle.std.proofs.Common.{List, map, ap, sym, ◌∙◌}
use Rattle.nq_model.proofs.Terms.{type_of_record}
use Rattle.nq_model.specs.NamedRows.{Label}
use Rattle.nq_model.specs.Types.{TypeTree, field_types_of, type_tree, fields_view}
use Rattle.nq_model.specs.declared.ty.Ty.{Ty}
use Rattle.lineage.proofs.Views.{types_listed}
use Rattle.lineage.specs.Places.{lent, under}
use Rattle.lineage.specs.TraceForms.{type_traced}
use Rattle.lineage.proofs.types.+types.Goals as goal

pub type_traced-returns-in_ok-types_traced-in-Rec : goal.type_traced-returns-in_ok-types_traced-in-Rec
type_traced-returns-in_ok-types_traced-in-Rec t c =
    let here = lent c.args.here.now in
    type_of_record c.in_ok-types_traced-in-Rec.field-0
    ∙ ap (λ (fs : List (Label × TypeTree)). TypeTree.rec (field_types_of fs))
    (c.in_ok-types_traced-in-Rec.ensures ∙ ap (λ (fs : List (Label × Ty)).
    map (λ f. (f.0, type_traced (under f.0 here) f.1)) (fields_view fs)) c.as_slice.ensures)
    ∙ ap TypeTree.rec (sym (types_listed here (fields_view c.in-Rec.fields)))
    ∙ sym (ap (type_traced here) (ap type_tree c.in-Rec.is ∙ type_of_record c.in-Rec.fields))
