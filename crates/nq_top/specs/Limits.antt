-- The limits of what is read.
use Rattle.std.specs.Prelude.{ℕ}

-- the most bytes of a schema, of a query and of an SQL text
abbrev pub text_limit : ℕ
text_limit = 1048576

-- the most bytes of all table texts together
abbrev pub tables_limit : ℕ
tables_limit = 67108864

-- the greatest depth of a query, of a type in it, and of an SQL text
abbrev pub depth_limit : ℕ
depth_limit = 200
