-- What the machine has read is the front of a written schema.
use Rattle.std.proofs.Common.{◌≡◌, ℕ, Bool, true, false, cond, if◌then◌else◌, List, [], ◌∷◌, ◌++◌, map, refl, sym, ◌∙◌, ap, subst, append_assoc, append-nil, Option, Some, None, codes}
use Rattle.std.specs.Option.{option_map}
use Rattle.std.specs.List.{AllByRecursion as Each, AllZip, flat_map}
use Rattle.std.specs.Str.{bytes_eq}
use Rattle.std.proofs.lemmas.Slice.Eq.{bytes_eq-Decides}
use Rattle.nq_model.specs.SchemaTokens.{Mark, Symbol, Token, token}
use Rattle.nq_model.specs.SchemaTexts.{Name, WrittenColumn, WrittenTable, Slot, Fills, mark_slot, word_slot, type_word, with_commas, column_slots, key_slots, table_slots, KeyNeedsColumn}
use Rattle.nq_model.specs.declared.table.ColumnType.{ColumnType}
use Rattle.nq_model.specs.declared.table.ColumnType.TheVariants as column
use Rattle.schema_reader.specs.Machine.{Spot, Addition, type_of, State, state, blank, added, step}
use Rattle.schema_reader.proofs.Truths.{Truth, yes', no', truth}
use Rattle.schema_reader.proofs.Cuts.{Each-append}

-- the parts, each with a `,` behind it
abbrev lead : List (List Slot) → List Slot → List Slot
lead [] x = x
lead (p ∷ ps) x = with_commas (p ∷ ps) ++ mark_slot Mark.comma ∷ x

abbrev columns_of : WrittenTable → List (List Slot)
columns_of t = map column_slots t.columns

abbrev words_of : WrittenTable → List (List Slot)
words_of t = map (λ n. Slot.name n ∷ []) t.key

abbrev head : WrittenTable → List Slot → List Slot
head t x = word_slot (codes "table") ∷ Slot.name t.name ∷ mark_slot Mark.opening ∷ x

abbrev key_head : WrittenTable → List Slot → List Slot
key_head t x = head t (with_commas (columns_of t) ++ (mark_slot Mark.comma ∷ word_slot (codes "key") ∷ mark_slot Mark.opening ∷ x))

-- what was read of a table, and then x
abbrev pub part : WrittenTable → Spot → List Slot → List Slot
part t Spot.between x = x
part t Spot.titled x = word_slot (codes "table") ∷ x
part t Spot.named x = word_slot (codes "table") ∷ Slot.name t.name ∷ x
part t Spot.first x = head t x
part t (Spot.first_name n) x = head t (Slot.name n ∷ x)
part t (Spot.later_name n) x = head t (lead (columns_of t) (Slot.name n ∷ x))
part t (Spot.typed n) x = head t (lead (columns_of t) (Slot.name n ∷ mark_slot Mark.colon ∷ x))
part t Spot.column_end x = head t (with_commas (columns_of t) ++ x)
part t Spot.comma x = head t (lead (columns_of t) x)
part t Spot.key_name x = key_head t (lead (words_of t) x)
part t Spot.key_word x = key_head t (with_commas (words_of t) ++ x)
part t Spot.key_end x = key_head t (with_commas (words_of t) ++ mark_slot Mark.closing ∷ x)
part t Spot.closed x = head t (with_commas (columns_of t) ++ (key_slots t.key ++ mark_slot Mark.closing ∷ x))
part t Spot.done x = Slot.sign Symbol.end ∷ x

abbrev pub shown : State → List Slot → List Slot
shown st x = flat_map table_slots st.tables ++ part st.table st.spot x

abbrev NonEmpty : {A : Type 0} → List A → Type 0
NonEmpty [] = ⊥
NonEmpty (x ∷ xs) = Unit {0}

-- what is known of the table that is being read
abbrev Good : WrittenTable → Spot → Type 0
Good t Spot.between = t ≡ blank
Good t Spot.titled = t ≡ blank
Good t Spot.named = (t.columns ≡ []) × (t.key ≡ [])
Good t Spot.first = (t.columns ≡ []) × (t.key ≡ [])
Good t (Spot.first_name n) = (t.columns ≡ []) × (t.key ≡ [])
Good t (Spot.later_name n) = NonEmpty t.columns × (t.key ≡ [])
Good t (Spot.typed n) = t.key ≡ []
Good t Spot.column_end = NonEmpty t.columns × (t.key ≡ [])
Good t Spot.comma = NonEmpty t.columns × (t.key ≡ [])
Good t Spot.key_name = NonEmpty t.columns
Good t Spot.key_word = NonEmpty t.columns × NonEmpty t.key
Good t Spot.key_end = NonEmpty t.columns × NonEmpty t.key
Good t Spot.closed = KeyNeedsColumn t
Good t Spot.done = Unit {0}

-- the tokens lead to the state, and are what was read there
pub record Reads (us : List Token) (st : State) : Type 0 where
  pub good : Good st.table st.spot
  pub keys : Each KeyNeedsColumn st.tables
  pub filled : (xs : List Slot) (vs : List Token) → AllZip Fills xs vs → AllZip Fills (shown st xs) (us ++ vs)

-- whatever fills the one fills the other
abbrev Weaker : List Slot → List Slot → Type 0
Weaker xs ys = (ts : List Token) → AllZip Fills xs ts → AllZip Fills ys ts

same : (xs ys : List Slot) → xs ≡ ys → Weaker xs ys
same xs ys e ts a = subst (λ z. AllZip Fills z ts) e a

weaker_behind : (zs xs ys : List Slot) → Weaker xs ys → Weaker (zs ++ xs) (zs ++ ys)
weaker_behind [] xs ys w ts a = w ts a
weaker_behind (s ∷ zs) xs ys w [] a = absurd a
weaker_behind (s ∷ zs) xs ys w (t ∷ ts) a = (a.0, weaker_behind zs xs ys w ts a.1)

reads_on : (us : List Token) (st to : State) (x : Slot) (u : Token) → Reads us st → Fills x u → Good to.table to.spot → Each KeyNeedsColumn to.tables
    → ((xs : List Slot) → Weaker (shown st (x ∷ xs)) (shown to xs)) → Reads (us ++ u ∷ []) to
reads_on us st to x u r f g k w = record {
  good = g;
  keys = k;
  filled = λ xs vs a. w xs ((us ++ u ∷ []) ++ vs)
      (subst (λ z. AllZip Fills (shown st (x ∷ xs)) z) (sym (append_assoc us (u ∷ []) vs)) (r.filled (x ∷ xs) (u ∷ vs) (f, a)));
}

-- one more part behind a comma
with_commas_push : (p : List Slot) (ps : List (List Slot)) (q x : List Slot) → with_commas (p ∷ (ps ++ q ∷ [])) ++ x ≡ with_commas (p ∷ ps) ++ mark_slot Mark.comma ∷ (q ++ x)
with_commas_push p ps q x =
    ap (λ z. (p ++ z) ++ x) (flat_push ps)
    ∙ ap (λ z. z ++ x) (sym (append_assoc p (flat_map with_comma ps) (mark_slot Mark.comma ∷ q)))
    ∙ append_assoc (p ++ flat_map with_comma ps) (mark_slot Mark.comma ∷ q) x
  where
    with_comma : List Slot → List Slot
    with_comma part = mark_slot Mark.comma ∷ part

    flat_push : (rs : List (List Slot)) → flat_map with_comma (rs ++ q ∷ []) ≡ flat_map with_comma rs ++ mark_slot Mark.comma ∷ q
    flat_push [] = ap (λ z. mark_slot Mark.comma ∷ z) (append-nil q)
    flat_push (r ∷ rs) = ap (λ z. mark_slot Mark.comma ∷ (r ++ z)) (flat_push rs) ∙ ap (λ z. mark_slot Mark.comma ∷ z) (sym (append_assoc r (flat_map with_comma rs) (mark_slot Mark.comma ∷ q)))

lead_push : {A : Type 0} (f : A → List Slot) (zs : List A) (a : A) (x : List Slot) → lead (map f zs) (f a ++ x) ≡ with_commas (map f (zs ++ a ∷ [])) ++ x
lead_push f [] a x = ap (λ z. z ++ x) (sym (append-nil (f a)))
lead_push {A} f (b ∷ bs) a x = sym (ap (λ z. with_commas (f b ∷ z) ++ x) (map_push bs) ∙ with_commas_push (f b) (map f bs) (f a) x)
  where
    map_push : (cs : List A) → map f (cs ++ a ∷ []) ≡ map f cs ++ f a ∷ []
    map_push [] = refl
    map_push (c ∷ cs) = ap (λ z. f c ∷ z) (map_push cs)

lead_more : {A : Type 0} (f : A → List Slot) (zs : List A) (x : List Slot) → NonEmpty zs → with_commas (map f zs) ++ mark_slot Mark.comma ∷ x ≡ lead (map f zs) x
lead_more f [] x n = absurd n
lead_more f (a ∷ zs) x n = refl

type_of_is : (w : List ℕ) (kind : ColumnType) → type_of w ≡ Some kind → w ≡ type_word kind
type_of_is w kind e = at_int (truth (bytes_eq w (codes "int"))) (truth (bytes_eq w (codes "bool"))) (truth (bytes_eq w (codes "text")))
  where
    at_text : type_of w ≡ (if bytes_eq w (codes "text") then Some column.Text else None) → Truth (bytes_eq w (codes "text")) → w ≡ type_word kind
    at_text h (yes' t) =
        let k : Some column.Text ≡ Some kind = sym (h ∙ ap (λ b. cond b (Some column.Text) None) t) ∙ e in
        let same : column.Text ≡ kind = cc in (bytes_eq-Decides w (codes "text")).0 t ∙ ap type_word same
    at_text h (no' t) =
        let k : None ≡ Some kind = sym (h ∙ ap (λ b. cond b (Some column.Text) None) t) ∙ e in absurd (cc)

    at_bool : type_of w ≡ (if bytes_eq w (codes "bool") then Some column.Bool else (if bytes_eq w (codes "text") then Some column.Text else None))
        → Truth (bytes_eq w (codes "bool")) → Truth (bytes_eq w (codes "text")) → w ≡ type_word kind
    at_bool h (yes' t) u =
        let k : Some column.Bool ≡ Some kind = sym (h ∙ ap (λ b. cond b (Some column.Bool) (if bytes_eq w (codes "text") then Some column.Text else None)) t) ∙ e in
        let same : column.Bool ≡ kind = cc in (bytes_eq-Decides w (codes "bool")).0 t ∙ ap type_word same
    at_bool h (no' t) u = at_text (h ∙ ap (λ b. cond b (Some column.Bool) (if bytes_eq w (codes "text") then Some column.Text else None)) t) u

    at_int : Truth (bytes_eq w (codes "int")) → Truth (bytes_eq w (codes "bool")) → Truth (bytes_eq w (codes "text")) → w ≡ type_word kind
    at_int (yes' t) u v =
        let k : Some column.Int ≡ Some kind = sym (ap (λ b. cond b (Some column.Int) (if bytes_eq w (codes "bool") then Some column.Bool else (if bytes_eq w (codes "text") then Some column.Text else None))) t) ∙ e in
        let same : column.Int ≡ kind = cc in (bytes_eq-Decides w (codes "int")).0 t ∙ ap type_word same
    at_int (no' t) u v = at_bool (ap (λ b. cond b (Some column.Int) (if bytes_eq w (codes "bool") then Some column.Bool else (if bytes_eq w (codes "text") then Some column.Text else None))) t) u v

abbrev pub Then : Option State → (State → Type 0) → Type 0
Then None P = Unit {0}
Then (Some st) P = P st

then_if : {A : Type 0} (P : State → Type 0) (g : A → State) (y : A) (b : Bool) → (b ≡ true → P (g y)) → Then (option_map g (cond b (Some y) None)) P
then_if P g y true h = h refl
then_if P g y false h = tt

then_mapped : {A B : Type 0} (P : State → Type 0) (g : B → State) (f : A → B) (o : Option A) → ((x : A) → o ≡ Some x → P (g (f x))) → Then (option_map g (option_map f o)) P
then_mapped P g f None h = tt
then_mapped P g f (Some x) h = h x refl

-- a name may be a word at any place
weaker_name : (n : Name) (w : List ℕ) (xs : List Slot) → n.text ≡ w → Weaker (Slot.name n ∷ xs) (word_slot w ∷ xs)
weaker_name n w xs e [] a = absurd a
weaker_name n w xs e (t ∷ ts) a = (ap (λ z. z.symbol) a.0 ∙ ap Symbol.word e, a.1)

-- the word `key` behind a column is no name where `(` follows
key_is_word : (ts : List WrittenTable) (t : WrittenTable) (n : Name) (xs : List Slot) → NonEmpty t.columns → t.key ≡ [] → n.text ≡ codes "key"
    → Weaker (shown (state ts t (Spot.later_name n)) (mark_slot Mark.opening ∷ xs)) (shown (state ts t Spot.key_name) xs)
key_is_word ts t n xs some none e us a =
    weaker_behind (flat_map table_slots ts) (head t (with_commas (columns_of t) ++ mark_slot Mark.comma ∷ Slot.name n ∷ mark_slot Mark.opening ∷ xs)) (part t Spot.key_name xs)
    (weaker_behind (head t []) (with_commas (columns_of t) ++ mark_slot Mark.comma ∷ Slot.name n ∷ mark_slot Mark.opening ∷ xs)
    (with_commas (columns_of t) ++ mark_slot Mark.comma ∷ word_slot (codes "key") ∷ mark_slot Mark.opening ∷ lead (words_of t) xs)
    (weaker_behind (with_commas (columns_of t)) _ _
    (λ vs b. same _ _ (ap (λ z. mark_slot Mark.comma ∷ word_slot (codes "key") ∷ mark_slot Mark.opening ∷ lead (map (λ m. Slot.name m ∷ []) z) xs) (sym none)) vs
    (weaker_behind (mark_slot Mark.comma ∷ []) (Slot.name n ∷ mark_slot Mark.opening ∷ xs) (word_slot (codes "key") ∷ mark_slot Mark.opening ∷ xs)
    (weaker_name n (codes "key") (mark_slot Mark.opening ∷ xs) e) vs b))))
    us (same _ _ (ap (λ z. flat_map table_slots ts ++ head t z) (sym (lead_more column_slots t.columns (Slot.name n ∷ mark_slot Mark.opening ∷ xs) some))) us a)

-- a whole key
key_whole : (ks : List Name) (x : List Slot) → NonEmpty ks
    → mark_slot Mark.comma ∷ word_slot (codes "key") ∷ mark_slot Mark.opening ∷ (with_commas (map (λ m. Slot.name m ∷ []) ks) ++ mark_slot Mark.closing ∷ x) ≡ key_slots ks ++ x
key_whole [] x n = absurd n
key_whole (k ∷ ks) x n =
    ap (λ z. mark_slot Mark.comma ∷ word_slot (codes "key") ∷ mark_slot Mark.opening ∷ z)
    (sym (append_assoc (with_commas (map (λ m. Slot.name m ∷ []) (k ∷ ks))) (mark_slot Mark.closing ∷ []) x))

-- a whole table
table_whole : (ts : List WrittenTable) (t : WrittenTable) (x : List Slot)
    → flat_map table_slots ts ++ head t (with_commas (columns_of t) ++ (key_slots t.key ++ mark_slot Mark.closing ∷ mark_slot Mark.semicolon ∷ x)) ≡ flat_map table_slots (ts ++ t ∷ []) ++ x
table_whole [] t x =
    ap (λ z. head t z)
    (ap (λ z. with_commas (columns_of t) ++ z) (sym (append_assoc (key_slots t.key) ends x))
    ∙ sym (append_assoc (with_commas (columns_of t)) (key_slots t.key ++ ends) x))
    ∙ ap (λ z. z ++ x) (sym (append-nil (table_slots t)))
  where
    ends : List Slot
    ends = mark_slot Mark.closing ∷ mark_slot Mark.semicolon ∷ []
table_whole (u ∷ us) t x =
    append_assoc (table_slots u) (flat_map table_slots us) (head t (with_commas (columns_of t) ++ (key_slots t.key ++ mark_slot Mark.closing ∷ mark_slot Mark.semicolon ∷ x)))
    ∙ ap (λ z. table_slots u ++ z) (table_whole us t x)
    ∙ sym (append_assoc (table_slots u) (flat_map table_slots (us ++ t ∷ [])) x)

some_columns : (t : WrittenTable) → NonEmpty t.columns → KeyNeedsColumn t
some_columns t n e = absurd (subst NonEmpty e n)

pub goes : (us : List Token) (ts : List WrittenTable) (t : WrittenTable) (spot : Spot) (p : ℕ) (s : Symbol) → Reads us (state ts t spot)
    → Then (step (state ts t spot) (token p s)) (Reads (us ++ token p s ∷ []))
goes us ts t Spot.between p (Symbol.word w) r =
    then_if (Reads (us ++ token p (Symbol.word w) ∷ [])) (λ (x : Spot × Addition). added ts t x.0 x.1) (Spot.titled, Addition.nothing) (bytes_eq w (codes "table"))
    (λ e. reads_on us (state ts t Spot.between) (state ts t Spot.titled) (word_slot (codes "table")) (token p (Symbol.word w)) r
    (ap Symbol.word ((bytes_eq-Decides w (codes "table")).0 e)) r.good r.keys (λ xs ys a. a))
goes us ts t Spot.between p Symbol.end r =
    reads_on us (state ts t Spot.between) (state ts t Spot.done) (Slot.sign Symbol.end) (token p Symbol.end) r refl tt r.keys (λ xs ys a. a)
goes us ts t Spot.titled p (Symbol.word w) r =
    let n : Name = record { place = p; text = w } in
    reads_on us (state ts t Spot.titled) (state ts (record { name = n; columns = t.columns; key = t.key }) Spot.named) (Slot.name n) (token p (Symbol.word w)) r refl
    (ap (λ z. z.columns) r.good, ap (λ z. z.key) r.good) r.keys (λ xs ys a. a)
goes us ts t Spot.named p (Symbol.mark Mark.opening) r =
    reads_on us (state ts t Spot.named) (state ts t Spot.first) (mark_slot Mark.opening) (token p (Symbol.mark Mark.opening)) r refl r.good r.keys (λ xs ys a. a)
goes us ts t Spot.first p (Symbol.word w) r =
    let n : Name = record { place = p; text = w } in
    reads_on us (state ts t Spot.first) (state ts t (Spot.first_name n)) (Slot.name n) (token p (Symbol.word w)) r refl r.good r.keys (λ xs ys a. a)
goes us ts t Spot.first p (Symbol.mark Mark.closing) r =
    reads_on us (state ts t Spot.first) (state ts t Spot.closed) (mark_slot Mark.closing) (token p (Symbol.mark Mark.closing)) r refl (λ e. r.good.1) r.keys
    (λ xs. same (shown (state ts t Spot.first) (mark_slot Mark.closing ∷ xs)) (shown (state ts t Spot.closed) xs)
    (ap (λ z. flat_map table_slots ts ++ head t z)
    (sym (ap (λ z. with_commas (map column_slots z) ++ (key_slots t.key ++ mark_slot Mark.closing ∷ xs)) r.good.0
    ∙ ap (λ z. key_slots z ++ mark_slot Mark.closing ∷ xs) r.good.1))))
goes us ts t (Spot.first_name n) p (Symbol.mark Mark.colon) r =
    reads_on us (state ts t (Spot.first_name n)) (state ts t (Spot.typed n)) (mark_slot Mark.colon) (token p (Symbol.mark Mark.colon)) r refl r.good.1 r.keys
    (λ xs. same (shown (state ts t (Spot.first_name n)) (mark_slot Mark.colon ∷ xs)) (shown (state ts t (Spot.typed n)) xs)
    (ap (λ z. flat_map table_slots ts ++ head t (lead (map column_slots z) (Slot.name n ∷ mark_slot Mark.colon ∷ xs))) (sym r.good.0)))
goes us ts t (Spot.later_name n) p (Symbol.mark Mark.colon) r =
    reads_on us (state ts t (Spot.later_name n)) (state ts t (Spot.typed n)) (mark_slot Mark.colon) (token p (Symbol.mark Mark.colon)) r refl r.good.1 r.keys (λ xs ys a. a)
goes us ts t (Spot.later_name n) p (Symbol.mark Mark.opening) r =
    then_if (Reads (us ++ token p (Symbol.mark Mark.opening) ∷ [])) (λ (x : Spot × Addition). added ts t x.0 x.1) (Spot.key_name, Addition.nothing) (bytes_eq n.text (codes "key"))
    (λ e. reads_on us (state ts t (Spot.later_name n)) (state ts t Spot.key_name) (mark_slot Mark.opening) (token p (Symbol.mark Mark.opening)) r refl r.good.0 r.keys
    (λ xs. key_is_word ts t n xs r.good.0 r.good.1 ((bytes_eq-Decides n.text (codes "key")).0 e)))
goes us ts t (Spot.typed n) p (Symbol.word w) r =
    then_mapped (Reads (us ++ token p (Symbol.word w) ∷ [])) (λ (x : Spot × Addition). added ts t x.0 x.1)
    (λ (kind : ColumnType). (Spot.column_end, Addition.a_column (record { name = n; kind = kind }))) (type_of w)
    (λ kind e.
    let c : WrittenColumn = record { name = n; kind = kind } in
    let new : WrittenTable = record { name = t.name; columns = t.columns ++ c ∷ []; key = t.key } in
    reads_on us (state ts t (Spot.typed n)) (state ts new Spot.column_end) (word_slot (type_word kind)) (token p (Symbol.word w)) r
    (ap Symbol.word (type_of_is w kind e)) (not_empty t.columns c, r.good) r.keys
    (λ xs. same (shown (state ts t (Spot.typed n)) (word_slot (type_word kind) ∷ xs)) (shown (state ts new Spot.column_end) xs)
    (ap (λ z. flat_map table_slots ts ++ head t z) (lead_push column_slots t.columns c xs))))
  where
    not_empty : (cs : List WrittenColumn) (c : WrittenColumn) → NonEmpty (cs ++ c ∷ [])
    not_empty [] c = tt
    not_empty (d ∷ ds) c = tt
goes us ts t Spot.column_end p (Symbol.mark Mark.comma) r =
    reads_on us (state ts t Spot.column_end) (state ts t Spot.comma) (mark_slot Mark.comma) (token p (Symbol.mark Mark.comma)) r refl r.good r.keys
    (λ xs. same (shown (state ts t Spot.column_end) (mark_slot Mark.comma ∷ xs)) (shown (state ts t Spot.comma) xs)
    (ap (λ z. flat_map table_slots ts ++ head t z) (lead_more column_slots t.columns xs r.good.0)))
goes us ts t Spot.column_end p (Symbol.mark Mark.closing) r =
    reads_on us (state ts t Spot.column_end) (state ts t Spot.closed) (mark_slot Mark.closing) (token p (Symbol.mark Mark.closing)) r refl (λ e. r.good.1) r.keys
    (λ xs. same (shown (state ts t Spot.column_end) (mark_slot Mark.closing ∷ xs)) (shown (state ts t Spot.closed) xs)
    (ap (λ z. flat_map table_slots ts ++ head t (with_commas (columns_of t) ++ (key_slots z ++ mark_slot Mark.closing ∷ xs))) (sym r.good.1)))
goes us ts t Spot.comma p (Symbol.word w) r =
    let n : Name = record { place = p; text = w } in
    reads_on us (state ts t Spot.comma) (state ts t (Spot.later_name n)) (Slot.name n) (token p (Symbol.word w)) r refl r.good r.keys (λ xs ys a. a)
goes us ts t Spot.key_name p (Symbol.word w) r =
    let n : Name = record { place = p; text = w } in
    let new : WrittenTable = record { name = t.name; columns = t.columns; key = t.key ++ n ∷ [] } in
    reads_on us (state ts t Spot.key_name) (state ts new Spot.key_word) (Slot.name n) (token p (Symbol.word w)) r refl (r.good, not_empty t.key n) r.keys
    (λ xs. same (shown (state ts t Spot.key_name) (Slot.name n ∷ xs)) (shown (state ts new Spot.key_word) xs)
    (ap (λ z. flat_map table_slots ts ++ key_head t z) (lead_push (λ m. Slot.name m ∷ []) t.key n xs)))
  where
    not_empty : (cs : List Name) (c : Name) → NonEmpty (cs ++ c ∷ [])
    not_empty [] c = tt
    not_empty (d ∷ ds) c = tt
goes us ts t Spot.key_word p (Symbol.mark Mark.comma) r =
    reads_on us (state ts t Spot.key_word) (state ts t Spot.key_name) (mark_slot Mark.comma) (token p (Symbol.mark Mark.comma)) r refl r.good.0 r.keys
    (λ xs. same (shown (state ts t Spot.key_word) (mark_slot Mark.comma ∷ xs)) (shown (state ts t Spot.key_name) xs)
    (ap (λ z. flat_map table_slots ts ++ key_head t z) (lead_more (λ m. Slot.name m ∷ []) t.key xs r.good.1)))
goes us ts t Spot.key_word p (Symbol.mark Mark.closing) r =
    reads_on us (state ts t Spot.key_word) (state ts t Spot.key_end) (mark_slot Mark.closing) (token p (Symbol.mark Mark.closing)) r refl r.good r.keys (λ xs ys a. a)
goes us ts t Spot.key_end p (Symbol.mark Mark.closing) r =
    reads_on us (state ts t Spot.key_end) (state ts t Spot.closed) (mark_slot Mark.closing) (token p (Symbol.mark Mark.closing)) r refl (some_columns t r.good.0) r.keys
    (λ xs. same (shown (state ts t Spot.key_end) (mark_slot Mark.closing ∷ xs)) (shown (state ts t Spot.closed) xs)
    (ap (λ z. flat_map table_slots ts ++ head t (with_commas (columns_of t) ++ z)) (key_whole t.key (mark_slot Mark.closing ∷ xs) r.good.1)))
goes us ts t Spot.closed p (Symbol.mark Mark.semicolon) r =
    reads_on us (state ts t Spot.closed) (state (ts ++ t ∷ []) blank Spot.between) (mark_slot Mark.semicolon) (token p (Symbol.mark Mark.semicolon)) r refl refl
    (Each-append KeyNeedsColumn ts (t ∷ []) r.keys (r.good, tt))
    (λ xs. same (shown (state ts t Spot.closed) (mark_slot Mark.semicolon ∷ xs)) (shown (state (ts ++ t ∷ []) blank Spot.between) xs) (table_whole ts t xs))
goes us ts t Spot.done p (Symbol.word w) r = tt
goes us ts t spot p s r = tt
