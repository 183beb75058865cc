use Rattle.std.proofs.Common.{◌≡◌, ◌≢◌, ◌<◌, All, length, take, get_or, List, refl, sym, ap, ◌∙◌}
use Rattle.std.proofs.Common.{subst, arith}
use Rattle.std.proofs.lemmas.List.{take_all}
use Rattle.std.proofs.lemmas.List.Elements.{All-more}
use Rattle.nq_model.specs.Tables.{Columns}
use Rattle.nq_model.specs.declared.table.TableShape.{TableShape}
use Rattle.traced_meaning.specs.NumberedTables.{number_column}
use Rattle.lineage.proofs.Steps.{told_true, told_false}
use Rattle.lineage.proofs.form.has_no_numbers.Goals as goal

abbrev IsFree : Columns → Type 0
IsFree columns = All (λ column. column.0 ≢ number_column) columns

abbrev HasFree : TableShape → Type 0
HasFree shape = IsFree shape.columns

pub returns-then-not-no_number : goal.returns-then-not-no_number
returns-then-not-no_number c =
    let items = c.as_slice-shape-items.result.now in
    let shape = c.shape-item.result in
    let i = c.loop-shape.shape-index in
    let inside : i < length c.args.schema.now.tables =
    omega (arith, c.loop-shape-test.true, ap length c.as_slice-shape-items.ensures) in (
      λ e. absurd (cc),
      λ all. absurd (told_false c.no_number.result c.if-not-no_number.true c.no_number.ensures
          (subst IsFree (sym c.as_slice.ensures) (subst HasFree (sym (c.shape-item.is
          ∙ ap (λ (l : List TableShape). get_or l i shape) c.as_slice-shape-items.ensures))
          (all i shape inside)))),
    )

pub loop-shape-preserved : goal.loop-shape-preserved
loop-shape-preserved c =
    let items = c.as_slice-shape-items.result.now in
    let shape = c.shape-item.result in
    let i = c.loop-shape.shape-index in
    let own : HasFree shape = subst IsFree c.as_slice.ensures
    (told_true c.no_number.result c.if-not-no_number.false c.no_number.ensures) in
    All-more HasFree items i shape (omega (arith, c.loop-shape-test.true)) c.loop-shape.invariant
    (subst HasFree c.shape-item.is own)

pub returns : goal.returns
returns c =
    let items = c.as_slice-shape-items.result.now in
    let i = c.loop-shape.shape-index in
    let all : take i items ≡ items = take_all i items (omega (arith, c.loop-shape-test.false)) in (
      λ e. subst (All HasFree) c.as_slice-shape-items.ensures
          (subst (All HasFree) all c.loop-shape.invariant),
      λ h. refl,
    )
