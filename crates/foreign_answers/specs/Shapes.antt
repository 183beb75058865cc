-- Answers as tables.
use Rattle.std.specs.Prelude.{List, [], codes}
use Rattle.nq_model.specs.declared.table.ColumnType.{ColumnType}
use Rattle.nq_model.specs.declared.table.TableShape.{TableShape}
use Rattle.flatten.specs.Emitted.{answer_shape}

-- the shape of an answer with columns of these types: they are called ot, on, c1, c2 and so on, and there is no key
abbrev pub shape_of : List ColumnType → TableShape
shape_of columns = record { name = codes "answer"; columns = answer_shape columns; key = [] }
