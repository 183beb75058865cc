-- Normal forms that texts can spell.
use Rattle.nq_model.specs.Proper.{IsQueryWord}
use Rattle.nq_model.specs.declared.table.Schema.{Schema}
use Rattle.nq_ir.specs.Trees.{FormTree}
use Rattle.nq_ir.specs.WellFormed.{IsWellFormed}
use Rattle.nq_ir.specs.Words.{FormWords}

-- Every label, table and column is a word of at most 64 bytes, and the form is well formed over some schema. So its
-- generators have different names, each variable is bound, and the labels of each record differ.
pub record IsSpellable (form : FormTree) : Type 0 where
  pub words : FormWords IsQueryWord form
  pub schema : Schema
  pub well_formed : IsWellFormed schema.tables form
