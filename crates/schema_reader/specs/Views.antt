-- What the reader holds, without where it lies in memory.
use Rattle.nq_model.specs.SchemaTexts.{Name, WrittenColumn}
use Rattle.schema_reader.specs.Machine.{Spot, Addition}
use Rattle.schema_reader.specs.declared.grammar.Name.{Name as CodeName}
use Rattle.schema_reader.specs.declared.grammar.WrittenColumn.{WrittenColumn as CodeColumn}
use Rattle.schema_reader.specs.declared.grammar.Spot.{Spot as CodeSpot}
use Rattle.schema_reader.specs.declared.grammar.Spot.TheVariants as spots
use Rattle.schema_reader.specs.declared.grammar.Addition.{Addition as CodeAddition}
use Rattle.schema_reader.specs.declared.grammar.Addition.TheVariants as additions

-- a name, with the bytes that it refers to
abbrev pub name_view : CodeName → Name
name_view n = record { place = n.place; text = n.text.now }

-- a written column
abbrev pub column_view : CodeColumn → WrittenColumn
column_view c = record { name = name_view c.name; kind = c.kind }

-- a spot
abbrev pub spot_view : CodeSpot → Spot
spot_view spots.Between = Spot.between
spot_view spots.Titled = Spot.titled
spot_view spots.Named = Spot.named
spot_view spots.First = Spot.first
spot_view (spots.FirstName n) = Spot.first_name (name_view n)
spot_view (spots.LaterName n) = Spot.later_name (name_view n)
spot_view (spots.Typed n) = Spot.typed (name_view n)
spot_view spots.ColumnEnd = Spot.column_end
spot_view spots.Comma = Spot.comma
spot_view spots.KeyName = Spot.key_name
spot_view spots.KeyWord = Spot.key_word
spot_view spots.KeyEnd = Spot.key_end
spot_view spots.Closed = Spot.closed

-- what a token adds
abbrev pub addition_view : CodeAddition → Addition
addition_view additions.Nothing = Addition.nothing
addition_view (additions.TableName n) = Addition.table_name (name_view n)
addition_view (additions.Column c) = Addition.a_column (column_view c)
addition_view (additions.KeyPart n) = Addition.key_part (name_view n)
addition_view additions.WholeTable = Addition.whole

-- a spot with what was added on the way to it
abbrev pub place_view : CodeSpot × CodeAddition → Spot × Addition
place_view x = (spot_view x.0, addition_view x.1)
