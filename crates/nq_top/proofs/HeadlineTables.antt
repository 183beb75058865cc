-- What the judgement of table texts comes to: they are given, or one of them is the first that is missing, too long or faulty.
use Rattle.std.proofs.Common.{◌≡◌, ◌⊎◌, ◌≤◌, ◌+◌, ◌-◌, ℕ, Bool, true, false, List, [], ◌∷◌, ◌++◌, length, map, zip, Some, None, Option, Ok, Err, arith, refl, sym, ap, ap₂, subst, ◌∙◌, nat_lt, append_assoc, append-nil, inl, inr, ltb-true, ltb-false}
use Rattle.std.specs.List.{AllZip, sum}
use Rattle.std.proofs.lemmas.List.Sums.{sum_by-append}
use Rattle.nq_model.specs.declared.table.Cell.{Cell}
use Rattle.nq_model.specs.declared.table.TableShape.{TableShape}
use Rattle.nq_edge.specs.Edge.{Files, bytes_at, IsLonger}
use Rattle.sql_profile.specs.declared.server.Loaded.{Loaded}
use Rattle.sql_profile.specs.Servers.{held_of}
use Rattle.table_reader.specs.Faults.{GivesRows, HasFault}
use Rattle.table_reader.specs.Records.{records_of}
use Rattle.table_reader.specs.Tables.{table_of}
use Rattle.table_reader.specs.declared.TableFault.{TableFault}
use Rattle.table_reader.proofs.TableFacts.{given_under, wrong_under, either_under}
use Rattle.command_line.specs.declared.refusal.Refused.TheVariants.{TooLong, Table as TableRefused}
use Rattle.nq_top.specs.Headline.{HeldWithin, GivenTables}
use Rattle.nq_top.specs.Judging.{Judgement, Verdict, missing, refused, after, judged, fetched_then, read_then, loaded_as, tables_judged}
use Rattle.nq_top.specs.Lines.{file_of}
use Rattle.nq_top.specs.Reading.{refused_as, rows_read}
use Rattle.nq_top.specs.declared.tables.TableTexts.TheVariants.{Csv}
use Rattle.nq_top.proofs.Steps.{fetch_next, read_next}

pub sum_more : (n : ℕ) (ns : List ℕ) → sum (n ∷ ns) ≡ n + sum ns
sum_more n ns =
    let e : sum (n ∷ ns) ≡ 0 + n + sum ns = sum_by-append (λ x. x) (n ∷ []) ns in
    omega (arith, e)

-- 1. one text

-- a text that is held within its limit is judged by what comes next
pub held_next : (files : Files) (name : List ℕ) (limit : ℕ) (next : List ℕ → Judgement) (text : List ℕ)
    → HeldWithin files name limit text → fetched_then files name limit next ≡ after name (next text)
held_next files name limit next text h = fetch_next files name limit next text (record { is = h.held; within = h.within })

pub missing_text : (files : Files) (name : List ℕ) (limit : ℕ) (next : List ℕ → Judgement) → bytes_at files name ≡ None → (fetched_then files name limit next).verdict ≡ missing name
unfolding fetched_then
missing_text files name limit next none = ap (λ (held : Option (List ℕ)). (judged name limit next held).verdict) none

over_limit : (held : Option (List ℕ)) (name : List ℕ) (limit : ℕ) (next : List ℕ → Judgement) → IsLonger limit held → (judged name limit next held).verdict ≡ refused (TooLong name limit)
over_limit None name limit next long = absurd long
over_limit (Some bytes) name limit next long =
    let longer : nat_lt limit (length bytes) ≡ true = grind (arith, long) in
    rw longer refl

pub long_text : (files : Files) (name : List ℕ) (limit : ℕ) (next : List ℕ → Judgement) → IsLonger limit (bytes_at files name) → (fetched_then files name limit next).verdict ≡ refused (TooLong name limit)
unfolding fetched_then
long_text files name limit next long = over_limit (bytes_at files name) name limit next long

-- what is held under a name
pub data Held (files : Files) (name : List ℕ) (limit : ℕ) : Type 0 where
  none : bytes_at files name ≡ None → Held files name limit
  long : IsLonger limit (bytes_at files name) → Held files name limit
  short : (text : List ℕ) → HeldWithin files name limit text → Held files name limit

pub held_at : (files : Files) (name : List ℕ) (limit : ℕ) → Held files name limit
held_at files name limit = go (bytes_at files name) refl
  where
    within : (text : List ℕ) → bytes_at files name ≡ Some text → (b : Bool) → nat_lt limit (length text) ≡ b → Held files name limit
    within text is true longer = long (subst (λ (held : Option (List ℕ)). IsLonger limit held) (sym is) (ltb-true limit (length text) longer))
    within text is false shorter = short text (record { held = is; within = ltb-false limit (length text) shorter })

    go : (held : Option (List ℕ)) → bytes_at files name ≡ held → Held files name limit
    go None is = none is
    go (Some text) is = within text is (nat_lt limit (length text)) refl

-- 2. the rows of a text

pub rows_given : (shape : TableShape) (text : List ℕ) (rows : List (List Cell)) → GivesRows shape (records_of text) rows → rows_read Csv shape text ≡ Ok rows
unfolding rows_read table_of
rows_given shape text rows gives = ap (refused_as (TableRefused shape.name)) (given_under shape (records_of text) rows gives)

pub rows_faulty : (shape : TableShape) (text : List ℕ) (fault : TableFault) → HasFault shape (records_of text) fault → rows_read Csv shape text ≡ Err (TableRefused shape.name fault)
unfolding rows_read table_of
rows_faulty shape text fault has = ap (refused_as (TableRefused shape.name)) (wrong_under shape (records_of text) fault has)

-- what is judged after a table's text
abbrev pub table_next : Files → List ℕ → TableShape → List TableShape → ℕ → List Loaded → (List Loaded → Verdict) → List ℕ → Judgement
table_next files folder shape shapes left done next text =
    read_then (rows_read Csv shape text) (λ rows. tables_judged files Csv folder shapes (left - length text) (done ++ loaded_as shape rows ∷ []) next)

module _ (files : Files) (folder : List ℕ) (next : List Loaded → Verdict) where
  -- a table that is given is followed by the others
  table_given : (shape : TableShape) (shapes : List TableShape) (left : ℕ) (done : List Loaded) (text : List ℕ) (rows : List (List Cell))
      → HeldWithin files (file_of folder shape.name) left text → GivesRows shape (records_of text) rows
      → (tables_judged files Csv folder (shape ∷ shapes) left done next).verdict ≡ (tables_judged files Csv folder shapes (left - length text) (done ++ loaded_as shape rows ∷ []) next).verdict
  table_given shape shapes left done text rows held gives =
      ap (λ (j : Judgement). j.verdict)
      (held_next files (file_of folder shape.name) left (table_next files folder shape shapes left done next) text held
      ∙ ap (after (file_of folder shape.name)) (read_next (rows_read Csv shape text) rows (λ rows. tables_judged files Csv folder shapes (left - length text) (done ++ loaded_as shape rows ∷ []) next) (rows_given shape text rows gives)))

  -- tables that are given come to what comes of them
  pub tables_given : (shapes : List TableShape) (left : ℕ) (done : List Loaded) (texts : List (List ℕ)) (rows : List (List (List Cell)))
      → AllZip (λ shape text. bytes_at files (file_of folder shape.name) ≡ Some text) shapes texts → sum (map length texts) ≤ left
      → AllZip (λ table rows. GivesRows table.0 (records_of table.1) rows) (zip shapes texts) rows
      → (tables_judged files Csv folder shapes left done next).verdict ≡ next (done ++ held_of shapes rows)
  tables_given [] left done [] [] held within given = ap next (sym (append-nil done))
  tables_given [] left done [] (r ∷ rows) held within given = absurd given
  tables_given [] left done (t ∷ texts) rows held within given = absurd held
  tables_given (s ∷ shapes) left done [] rows held within given = absurd held
  tables_given (s ∷ shapes) left done (t ∷ texts) [] held within given = absurd given
  tables_given (s ∷ shapes) left done (t ∷ texts) (r ∷ rows) held within given =
      let total : sum (length t ∷ map length texts) ≡ length t + sum (map length texts) = sum_more (length t) (map length texts) in
      table_given s shapes left done t r (record { held = held.0; within = omega (arith, total, within) }) given.0
      ∙ tables_given shapes (left - length t) (done ++ loaded_as s r ∷ []) texts rows held.1 (omega (arith, total, within)) given.1
      ∙ ap next (append_assoc done (loaded_as s r ∷ []) (held_of shapes rows))

  -- a table behind tables that are given is judged with what they left of the limit
  pub tables_reach : (before : List TableShape) (shape : TableShape) (shapes : List TableShape) (left : ℕ) (done : List Loaded) (texts : List (List ℕ)) (rows : List (List (List Cell)))
      → AllZip (λ s text. bytes_at files (file_of folder s.name) ≡ Some text) before texts → sum (map length texts) ≤ left
      → AllZip (λ table rows. GivesRows table.0 (records_of table.1) rows) (zip before texts) rows
      → (tables_judged files Csv folder (before ++ shape ∷ shapes) left done next).verdict
      ≡ (fetched_then files (file_of folder shape.name) (left - sum (map length texts)) (table_next files folder shape shapes (left - sum (map length texts)) (done ++ held_of before rows) next)).verdict
  tables_reach [] shape shapes left done [] [] held within given =
      let same : left ≡ left - 0 = omega arith in
      ap₂ (λ n (d : List Loaded). (fetched_then files (file_of folder shape.name) n (table_next files folder shape shapes n d next)).verdict) same (sym (append-nil done))
  tables_reach [] shape shapes left done [] (r ∷ rows) held within given = absurd given
  tables_reach [] shape shapes left done (t ∷ texts) rows held within given = absurd held
  tables_reach (s ∷ before) shape shapes left done [] rows held within given = absurd held
  tables_reach (s ∷ before) shape shapes left done (t ∷ texts) [] held within given = absurd given
  tables_reach (s ∷ before) shape shapes left done (t ∷ texts) (r ∷ rows) held within given =
      let total : sum (length t ∷ map length texts) ≡ length t + sum (map length texts) = sum_more (length t) (map length texts) in
      let same : left - length t - sum (map length texts) ≡ left - sum (length t ∷ map length texts) = omega (arith, total) in
      table_given s (before ++ shape ∷ shapes) left done t r (record { held = held.0; within = omega (arith, total, within) }) given.0
      ∙ tables_reach before shape shapes (left - length t) (done ++ loaded_as s r ∷ []) texts rows held.1 (omega (arith, total, within)) given.1
      ∙ ap₂ (λ n (d : List Loaded). (fetched_then files (file_of folder shape.name) n (table_next files folder shape shapes n d next)).verdict) same (append_assoc done (loaded_as s r ∷ []) (held_of before rows))

-- 3. tables are given, or one of them stops

-- the first table whose text is missing, too long or faulty
pub record Stops (files : Files) (folder : List ℕ) (limit : ℕ) (shapes : List TableShape) : Type 0 where
  pub before : List TableShape
  pub shape : TableShape
  pub behind : List TableShape
  pub are : shapes ≡ before ++ shape ∷ behind
  pub given : GivenTables files folder limit before
  pub wrong : (bytes_at files (file_of folder shape.name) ≡ None)
      ⊎ (IsLonger (limit - sum (map length given.texts)) (bytes_at files (file_of folder shape.name))
      ⊎ ((text : List ℕ) × HeldWithin files (file_of folder shape.name) (limit - sum (map length given.texts)) text × (fault : TableFault) × HasFault shape (records_of text) fault))

abbrev no_tables : (files : Files) (folder : List ℕ) (limit : ℕ) → GivenTables files folder limit []
no_tables files folder limit = record { texts = []; held = tt; within = omega arith; rows = []; given = tt }

stops_here : (files : Files) (folder : List ℕ) (limit : ℕ) (shape : TableShape) (shapes : List TableShape)
    → (bytes_at files (file_of folder shape.name) ≡ None)
    ⊎ (IsLonger limit (bytes_at files (file_of folder shape.name)) ⊎ ((text : List ℕ) × HeldWithin files (file_of folder shape.name) limit text × (fault : TableFault) × HasFault shape (records_of text) fault))
    → Stops files folder limit (shape ∷ shapes)
stops_here files folder limit shape shapes wrong =
    let same : limit ≡ limit - 0 = omega arith in
    let P : ℕ → Type 0 = λ n. (bytes_at files (file_of folder shape.name) ≡ None)
    ⊎ (IsLonger n (bytes_at files (file_of folder shape.name)) ⊎ ((text : List ℕ) × HeldWithin files (file_of folder shape.name) n text × (fault : TableFault) × HasFault shape (records_of text) fault)) in
    record { before = []; shape = shape; behind = shapes; are = refl; given = no_tables files folder limit; wrong = subst P same wrong }

-- a table that is given stands before the others
module _ (files : Files) (folder : List ℕ) (limit : ℕ) (shape : TableShape) (text : List ℕ) (rows : List (List Cell)) (held : HeldWithin files (file_of folder shape.name) limit text) (gives : GivesRows shape (records_of text) rows) where
  abbrev given_more : (shapes : List TableShape) → GivenTables files folder (limit - length text) shapes → GivenTables files folder limit (shape ∷ shapes)
  given_more shapes rest = record {
    texts = text ∷ rest.texts;
    held = (held.held, rest.held);
    within = let total = sum_more (length text) (map length rest.texts) in let fits = held.within in let few = rest.within in omega (arith, total, fits, few);
    rows = rows ∷ rest.rows;
    given = (gives, rest.given);
  }

  stops_later : (shapes : List TableShape) → Stops files folder (limit - length text) shapes → Stops files folder limit (shape ∷ shapes)
  stops_later shapes stops =
      let total = sum_more (length text) (map length stops.given.texts) in
      let same : limit - length text - sum (map length stops.given.texts) ≡ limit - sum (length text ∷ map length stops.given.texts) = omega (arith, total) in
      let P : ℕ → Type 0 = λ n. (bytes_at files (file_of folder stops.shape.name) ≡ None)
      ⊎ (IsLonger n (bytes_at files (file_of folder stops.shape.name))
      ⊎ ((found : List ℕ) × HeldWithin files (file_of folder stops.shape.name) n found × (fault : TableFault) × HasFault stops.shape (records_of found) fault)) in
      record {
        before = shape ∷ stops.before;
        shape = stops.shape;
        behind = stops.behind;
        are = ap (λ (l : List TableShape). shape ∷ l) stops.are;
        given = given_more stops.before stops.given;
        wrong = subst P same stops.wrong;
      }

pub tables_or_stop : (files : Files) (folder : List ℕ) (shapes : List TableShape) (limit : ℕ) → GivenTables files folder limit shapes ⊎ Stops files folder limit shapes
tables_or_stop files folder [] limit = inl (no_tables files folder limit)
tables_or_stop files folder (shape ∷ shapes) limit = go (λ left. tables_or_stop files folder shapes left) (held_at files (file_of folder shape.name) limit)
  where
    later : (text : List ℕ) (rows : List (List Cell)) → HeldWithin files (file_of folder shape.name) limit text → GivesRows shape (records_of text) rows
        → GivenTables files folder (limit - length text) shapes ⊎ Stops files folder (limit - length text) shapes → GivenTables files folder limit (shape ∷ shapes) ⊎ Stops files folder limit (shape ∷ shapes)
    later text rows held gives (inl rest) = inl (given_more files folder limit shape text rows held gives shapes rest)
    later text rows held gives (inr stops) = inr (stops_later files folder limit shape text rows held gives shapes stops)

    read : ((left : ℕ) → GivenTables files folder left shapes ⊎ Stops files folder left shapes) → (text : List ℕ) → HeldWithin files (file_of folder shape.name) limit text
        → ((rows : List (List Cell)) × GivesRows shape (records_of text) rows) ⊎ ((e : TableFault) × HasFault shape (records_of text) e)
        → GivenTables files folder limit (shape ∷ shapes) ⊎ Stops files folder limit (shape ∷ shapes)
    read others text held (inl (rows, gives)) = later text rows held gives (others (limit - length text))
    read others text held (inr (fault, has)) = inr (stops_here files folder limit shape shapes (inr (inr (text, held, fault, has))))

    go : ((left : ℕ) → GivenTables files folder left shapes ⊎ Stops files folder left shapes) → Held files (file_of folder shape.name) limit
        → GivenTables files folder limit (shape ∷ shapes) ⊎ Stops files folder limit (shape ∷ shapes)
    go others (none is) = inr (stops_here files folder limit shape shapes (inl is))
    go others (long is) = inr (stops_here files folder limit shape shapes (inr (inl is)))
    go others (short text held) = read others text held (either_under shape (records_of text))
