-- The machine reads exactly what is written.
use Rattle.std.proofs.Common.{◌≡◌, ℕ, List, [], ◌∷◌, ◌++◌, map, refl, sym, ◌∙◌, ap, subst, append_assoc, append-nil, Option, Some, None, codes}
use Rattle.std.specs.Option.{option_map, option_and_then}
use Rattle.std.specs.List.{AllByRecursion as Each, AllZip, flat_map}
use Rattle.nq_model.specs.SchemaTokens.{Mark, Symbol, Token, token}
use Rattle.nq_model.specs.SchemaTexts.{Name, WrittenColumn, WrittenTable, Slot, Fills, mark_slot, word_slot, type_word, with_commas, column_slots, key_slots, table_slots, KeyNeedsColumn, IsWritten}
use Rattle.nq_model.specs.declared.table.ColumnType.{ColumnType}
use Rattle.nq_model.specs.declared.table.ColumnType.TheVariants as column
use Rattle.schema_reader.specs.Machine.{Spot, Addition, type_of, State, state, blank, start, added, step, run}

-- a run over two lists, one behind the other
pub run-append : (st : State) (us ts : List Token) → run st (us ++ ts) ≡ option_and_then (λ next. run next ts) (run st us)
run-append st [] ts = refl
run-append st (u ∷ us) ts = go (step st u) (λ next. run-append next us ts)
  where
    go : (o : Option State) → ((next : State) → run next (us ++ ts) ≡ option_and_then (λ z. run z ts) (run next us))
        → option_and_then (λ next. run next (us ++ ts)) o ≡ option_and_then (λ z. run z ts) (option_and_then (λ next. run next us) o)
    go None h = refl
    go (Some next) h = h next

-- fillings, one behind the other
pub AllZip-append : (xs ys : List Slot) (us vs : List Token) → AllZip Fills xs us → AllZip Fills ys vs → AllZip Fills (xs ++ ys) (us ++ vs)
AllZip-append [] ys [] vs a b = b
AllZip-append [] ys (u ∷ us) vs a b = absurd a
AllZip-append (x ∷ xs) ys [] vs a b = absurd a
AllZip-append (x ∷ xs) ys (u ∷ us) vs a b = (a.0, AllZip-append xs ys us vs a.1 b)

pub record Parts (xs ys : List Slot) (ts : List Token) : Type 0 where
  pub front : List Token
  pub back : List Token
  pub whole : ts ≡ front ++ back
  pub fills_front : AllZip Fills xs front
  pub fills_back : AllZip Fills ys back

pub AllZip-parts : (xs ys : List Slot) (ts : List Token) → AllZip Fills (xs ++ ys) ts → Parts xs ys ts
AllZip-parts [] ys ts a = record { front = []; back = ts; whole = refl; fills_front = tt; fills_back = a }
AllZip-parts (x ∷ xs) ys [] a = absurd a
AllZip-parts (x ∷ xs) ys (t ∷ ts) a =
    let r = AllZip-parts xs ys ts a.1 in
    record { front = t ∷ r.front; back = r.back; whole = ap (λ z. t ∷ z) r.whole; fills_front = (a.0, r.fills_front); fills_back = r.fills_back }

-- whatever fills the slots leads from one state to another
pub record Leads (st : State) (xs : List Slot) (to : State) : Type 0 where
  pub by : (ts : List Token) → AllZip Fills xs ts → run st ts ≡ Some to

pub leads_nothing : (st : State) → Leads st [] st
leads_nothing st = record { by = nothing_fills }
  where
    nothing_fills : (ts : List Token) → AllZip Fills [] ts → run st ts ≡ Some st
    nothing_fills [] a = refl
    nothing_fills (t ∷ ts) a = absurd a

pub leads_append : (st mid to : State) (xs ys : List Slot) → Leads st xs mid → Leads mid ys to → Leads st (xs ++ ys) to
leads_append st mid to xs ys a b = record {
  by = λ ts z.
      let p = AllZip-parts xs ys ts z in
      ap (run st) p.whole ∙ run-append st p.front p.back ∙ ap (option_and_then (λ next. run next p.back)) (a.by p.front p.fills_front) ∙ b.by p.back p.fills_back;
}

-- one step at a token of the slot
abbrev pub Goes : State → Slot → State → Type 0
Goes st (Slot.sign s) to = (place : ℕ) → step st (token place s) ≡ Some to
Goes st (Slot.name n) to = step st (token n.place (Symbol.word n.text)) ≡ Some to

goes_at : (st to : State) (x : Slot) (t : Token) → Goes st x to → Fills x t → step st t ≡ Some to
goes_at st to (Slot.sign s) t g f = ap (λ z. step st (token t.place z)) f ∙ g t.place
goes_at st to (Slot.name n) t g f = ap (step st) f ∙ g

pub leads_on : (st mid to : State) (x : Slot) (xs : List Slot) → Goes st x mid → Leads mid xs to → Leads st (x ∷ xs) to
leads_on st mid to x xs g a = record { by = fills_on }
  where
    fills_on : (ts : List Token) → AllZip Fills (x ∷ xs) ts → run st ts ≡ Some to
    fills_on [] z = absurd z
    fills_on (t ∷ ts) z = ap (option_and_then (λ next. run next ts)) (goes_at st mid x t g z.0) ∙ a.by ts z.1

-- the state within a table
abbrev pub inside : List WrittenTable → Name → List WrittenColumn → List Name → Spot → State
inside ws n cs ks spot = state ws (record { name = n; columns = cs; key = ks }) spot

type_of-type_word : (kind : ColumnType) → type_of (type_word kind) ≡ Some kind
type_of-type_word column.Int = refl
type_of-type_word column.Bool = refl
type_of-type_word column.Text = refl

typed_goes : (ws : List WrittenTable) (n m : Name) (cs : List WrittenColumn) (kind : ColumnType)
    → Goes (inside ws n cs [] (Spot.typed m)) (word_slot (type_word kind)) (inside ws n (cs ++ record { name = m; kind = kind } ∷ []) [] Spot.column_end)
typed_goes ws n m cs kind = λ place.
    ap (λ o. option_map (λ (x : Spot × Addition). added ws (record { name = n; columns = cs; key = [] }) x.0 x.1) (option_map (λ k. (Spot.column_end, Addition.a_column (record { name = m; kind = k }))) o)) (type_of-type_word kind)

typed_leads : (ws : List WrittenTable) (n : Name) (cs : List WrittenColumn) (c : WrittenColumn)
    → Leads (inside ws n cs [] (Spot.typed c.name)) (word_slot (type_word c.kind) ∷ []) (inside ws n (cs ++ c ∷ []) [] Spot.column_end)
typed_leads ws n cs c =
    leads_on _ (inside ws n (cs ++ c ∷ []) [] Spot.column_end) _ _ _ (typed_goes ws n c.name cs c.kind) (leads_nothing _)

first_leads : (ws : List WrittenTable) (n : Name) (c : WrittenColumn) → Leads (inside ws n [] [] Spot.first) (column_slots c) (inside ws n (c ∷ []) [] Spot.column_end)
first_leads ws n c =
    leads_on _ (inside ws n [] [] (Spot.first_name c.name)) _ _ _ refl
    (leads_on _ (inside ws n [] [] (Spot.typed c.name)) _ _ _ (λ place. refl) (typed_leads ws n [] c))

later_leads : (ws : List WrittenTable) (n : Name) (cs : List WrittenColumn) (c : WrittenColumn)
    → Leads (inside ws n cs [] Spot.column_end) (mark_slot Mark.comma ∷ column_slots c) (inside ws n (cs ++ c ∷ []) [] Spot.column_end)
later_leads ws n cs c =
    leads_on _ (inside ws n cs [] Spot.comma) _ _ _ (λ place. refl)
    (leads_on _ (inside ws n cs [] (Spot.later_name c.name)) _ _ _ refl
    (leads_on _ (inside ws n cs [] (Spot.typed c.name)) _ _ _ (λ place. refl) (typed_leads ws n cs c)))

more_columns_lead : (ws : List WrittenTable) (n : Name) (cs ds : List WrittenColumn)
    → Leads (inside ws n cs [] Spot.column_end) (flat_map (λ more. mark_slot Mark.comma ∷ more) (map column_slots ds)) (inside ws n (cs ++ ds) [] Spot.column_end)
more_columns_lead ws n cs [] = subst (λ z. Leads (inside ws n cs [] Spot.column_end) [] (inside ws n z [] Spot.column_end)) (sym (append-nil cs)) (leads_nothing _)
more_columns_lead ws n cs (d ∷ ds) =
    leads_append (inside ws n cs [] Spot.column_end) (inside ws n (cs ++ d ∷ []) [] Spot.column_end) (inside ws n (cs ++ d ∷ ds) [] Spot.column_end)
    (mark_slot Mark.comma ∷ column_slots d) (flat_map (λ more. mark_slot Mark.comma ∷ more) (map column_slots ds))
    (later_leads ws n cs d)
    (subst (λ z. Leads (inside ws n (cs ++ d ∷ []) [] Spot.column_end) (flat_map (λ more. mark_slot Mark.comma ∷ more) (map column_slots ds)) (inside ws n z [] Spot.column_end))
    (append_assoc cs (d ∷ []) ds) (more_columns_lead ws n (cs ++ d ∷ []) ds))

abbrev key_part_slots : Name → List Slot
key_part_slots m = Slot.name m ∷ []

more_key_leads : (ws : List WrittenTable) (n : Name) (cs : List WrittenColumn) (ks ms : List Name)
    → Leads (inside ws n cs ks Spot.key_word) (flat_map (λ more. mark_slot Mark.comma ∷ more) (map key_part_slots ms)) (inside ws n cs (ks ++ ms) Spot.key_word)
more_key_leads ws n cs ks [] = subst (λ z. Leads (inside ws n cs ks Spot.key_word) [] (inside ws n cs z Spot.key_word)) (sym (append-nil ks)) (leads_nothing _)
more_key_leads ws n cs ks (m ∷ ms) =
    leads_append (inside ws n cs ks Spot.key_word) (inside ws n cs (ks ++ m ∷ []) Spot.key_word) (inside ws n cs (ks ++ m ∷ ms) Spot.key_word)
    (mark_slot Mark.comma ∷ Slot.name m ∷ []) (flat_map (λ more. mark_slot Mark.comma ∷ more) (map key_part_slots ms))
    (leads_on _ (inside ws n cs ks Spot.key_name) _ _ _ (λ place. refl) (leads_on _ (inside ws n cs (ks ++ m ∷ []) Spot.key_word) _ _ _ refl (leads_nothing _)))
    (subst (λ z. Leads (inside ws n cs (ks ++ m ∷ []) Spot.key_word) (flat_map (λ more. mark_slot Mark.comma ∷ more) (map key_part_slots ms)) (inside ws n cs z Spot.key_word))
    (append_assoc ks (m ∷ []) ms) (more_key_leads ws n cs (ks ++ m ∷ []) ms))

key_opens : (ws : List WrittenTable) (n : Name) (cs : List WrittenColumn)
    → Leads (inside ws n cs [] Spot.comma) (word_slot (codes "key") ∷ mark_slot Mark.opening ∷ []) (inside ws n cs [] Spot.key_name)
key_opens ws n cs = record { by = opens }
  where
    opens : (ts : List Token) → AllZip Fills (word_slot (codes "key") ∷ mark_slot Mark.opening ∷ []) ts → run (inside ws n cs [] Spot.comma) ts ≡ Some (inside ws n cs [] Spot.key_name)
    opens [] a = absurd a
    opens (t ∷ []) a = absurd a.1
    opens (t ∷ u ∷ []) a =
        ap (λ z. run (inside ws n cs [] Spot.comma) (token t.place z ∷ u ∷ [])) a.0
        ∙ ap (λ z. run (inside ws n cs [] Spot.comma) (token t.place (Symbol.word (codes "key")) ∷ token u.place z ∷ [])) a.1.0
    opens (t ∷ u ∷ v ∷ ts) a = absurd a.1.1

key_leads : (ws : List WrittenTable) (n : Name) (cs : List WrittenColumn) (ks : List Name)
    → Leads (inside ws n cs [] Spot.column_end) (key_slots ks ++ mark_slot Mark.closing ∷ []) (inside ws n cs ks Spot.closed)
key_leads ws n cs [] = leads_on _ (inside ws n cs [] Spot.closed) _ _ _ (λ place. refl) (leads_nothing _)
key_leads ws n cs (k ∷ ks) =
    leads_on _ (inside ws n cs [] Spot.comma) _ _ _ (λ place. refl)
    (leads_append (inside ws n cs [] Spot.comma) (inside ws n cs [] Spot.key_name) (inside ws n cs (k ∷ ks) Spot.closed)
    (word_slot (codes "key") ∷ mark_slot Mark.opening ∷ []) _ (key_opens ws n cs) words_lead)
  where
    more : List Slot
    more = flat_map (λ part. mark_slot Mark.comma ∷ part) (map key_part_slots ks)

    closes : Leads (inside ws n cs (k ∷ ks) Spot.key_word) (mark_slot Mark.closing ∷ mark_slot Mark.closing ∷ []) (inside ws n cs (k ∷ ks) Spot.closed)
    closes = leads_on _ (inside ws n cs (k ∷ ks) Spot.key_end) _ _ _ (λ place. refl) (leads_on _ (inside ws n cs (k ∷ ks) Spot.closed) _ _ _ (λ place. refl) (leads_nothing _))

    rest_leads : Leads (inside ws n cs (k ∷ []) Spot.key_word) ((more ++ mark_slot Mark.closing ∷ []) ++ mark_slot Mark.closing ∷ []) (inside ws n cs (k ∷ ks) Spot.closed)
    rest_leads =
        subst (λ z. Leads (inside ws n cs (k ∷ []) Spot.key_word) z (inside ws n cs (k ∷ ks) Spot.closed))
        (sym (append_assoc more (mark_slot Mark.closing ∷ []) (mark_slot Mark.closing ∷ [])))
        (leads_append _ (inside ws n cs (k ∷ ks) Spot.key_word) _ more _ (more_key_leads ws n cs (k ∷ []) ks) closes)

    words_lead : Leads (inside ws n cs [] Spot.key_name) (Slot.name k ∷ ((more ++ mark_slot Mark.closing ∷ []) ++ mark_slot Mark.closing ∷ [])) (inside ws n cs (k ∷ ks) Spot.closed)
    words_lead = leads_on _ (inside ws n cs (k ∷ []) Spot.key_word) _ _ _ refl rest_leads

body_leads : (ws : List WrittenTable) (n : Name) (cs : List WrittenColumn) (ks : List Name) → (cs ≡ [] → ks ≡ [])
    → Leads (inside ws n [] [] Spot.first) (with_commas (map column_slots cs) ++ (key_slots ks ++ mark_slot Mark.closing ∷ [])) (inside ws n cs ks Spot.closed)
body_leads ws n [] ks h =
    subst (λ z. Leads (inside ws n [] [] Spot.first) (key_slots z ++ mark_slot Mark.closing ∷ []) (inside ws n [] z Spot.closed)) (sym (h refl))
    (leads_on _ (inside ws n [] [] Spot.closed) _ _ _ (λ place. refl) (leads_nothing _))
body_leads ws n (c ∷ cs) ks h =
    leads_append _ (inside ws n (c ∷ cs) [] Spot.column_end) _ (with_commas (map column_slots (c ∷ cs))) _
    (leads_append _ (inside ws n (c ∷ []) [] Spot.column_end) _ (column_slots c) _ (first_leads ws n c) (more_columns_lead ws n (c ∷ []) cs))
    (key_leads ws n (c ∷ cs) ks)

table_leads : (ws : List WrittenTable) (t : WrittenTable) → KeyNeedsColumn t → Leads (state ws blank Spot.between) (table_slots t) (state (ws ++ t ∷ []) blank Spot.between)
table_leads ws t h =
    leads_on _ (state ws blank Spot.titled) _ _ _ (λ place. refl)
    (leads_on _ (inside ws t.name [] [] Spot.named) _ _ _ refl
    (leads_on _ (inside ws t.name [] [] Spot.first) _ _ _ (λ place. refl)
    (subst (λ z. Leads (inside ws t.name [] [] Spot.first) z (state (ws ++ t ∷ []) blank Spot.between)) regroup
    (leads_append _ (inside ws t.name t.columns t.key Spot.closed) _ (cs ++ (ks ++ mark_slot Mark.closing ∷ [])) (mark_slot Mark.semicolon ∷ [])
    (body_leads ws t.name t.columns t.key h)
    (leads_on _ (state (ws ++ t ∷ []) blank Spot.between) _ _ _ (λ place. refl) (leads_nothing _))))))
  where
    cs : List Slot
    cs = with_commas (map column_slots t.columns)

    ks : List Slot
    ks = key_slots t.key

    regroup : (cs ++ (ks ++ mark_slot Mark.closing ∷ [])) ++ mark_slot Mark.semicolon ∷ [] ≡ cs ++ (ks ++ mark_slot Mark.closing ∷ mark_slot Mark.semicolon ∷ [])
    regroup = append_assoc cs (ks ++ mark_slot Mark.closing ∷ []) (mark_slot Mark.semicolon ∷ [])
        ∙ ap (λ z. cs ++ z) (append_assoc ks (mark_slot Mark.closing ∷ []) (mark_slot Mark.semicolon ∷ []))

tables_lead : (ws ts : List WrittenTable) → Each KeyNeedsColumn ts → Leads (state ws blank Spot.between) (flat_map table_slots ts) (state (ws ++ ts) blank Spot.between)
tables_lead ws [] h = subst (λ z. Leads (state ws blank Spot.between) [] (state z blank Spot.between)) (sym (append-nil ws)) (leads_nothing _)
tables_lead ws (t ∷ ts) h =
    leads_append _ (state (ws ++ t ∷ []) blank Spot.between) _ (table_slots t) _ (table_leads ws t h.0)
    (subst (λ z. Leads (state (ws ++ t ∷ []) blank Spot.between) (flat_map table_slots ts) (state z blank Spot.between)) (append_assoc ws (t ∷ []) ts)
    (tables_lead (ws ++ t ∷ []) ts h.1))

-- what is written is read
pub reads_written : (tables : List WrittenTable) (ts : List Token) → IsWritten tables ts → run start ts ≡ Some (state tables blank Spot.done)
reads_written tables ts w =
    (leads_append start (state tables blank Spot.between) (state tables blank Spot.done) (flat_map table_slots tables) (Slot.sign Symbol.end ∷ [])
    (tables_lead [] tables w.keys) (leads_on _ (state tables blank Spot.done) _ _ _ (λ place. refl) (leads_nothing _))).by ts w.filled
