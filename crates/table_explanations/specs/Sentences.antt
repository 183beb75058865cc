-- The sentence that is said of each fault.
use Rattle.std.specs.Prelude.{ℕ, List, codes}
use Rattle.table_explanations.specs.declared.sentences.Wrong.{Wrong}
use Rattle.table_explanations.specs.declared.sentences.Wrong.TheVariants.{Header, Width, NotUtf8}
use Rattle.table_explanations.specs.declared.sentences.Wrong.TheVariants.{NoInt, NoBool, TwiceKey}

abbrev pub sentence : Wrong → List ℕ
sentence Header = codes "The first line is not the names of the columns."
sentence Width = codes "This row has another number of cells than the table has columns."
sentence NotUtf8 = codes "This cell is not UTF-8. Save the file as UTF-8."
sentence NoInt =
    codes "This is no int: an int is an optional minus sign and digits, within 64 bits."
sentence NoBool = codes "This is no truth value: write true, false, t or f."
sentence TwiceKey = codes "An earlier row has the same key."
