-- The depth of the least text of the machine is what the reader's numbers say, and so both give the same answers.
use Rattle.std.proofs.Common.{◌≡◌, ℕ, suc, ◌+◌, max, Bool, true, false, cond, leb, List, [], ◌∷◌, refl, sym, ◌∙◌, ap, arith, Option, Some, None, option_map}
use Rattle.nq_model.specs.Machines.{Outcome, Reached, Faulty}
use Rattle.nq_model.specs.OpenLists.{Deep}
use Rattle.sql_profile.specs.Tokens.{Token}
use Rattle.sql_profile.specs.Grammar.{OfSource, FromSyntax, NoFrom, HasFrom, ExprSyntax, OfColumn, OfParens, OfMinus, OfNot, OfNotExists, OfCase, OfBinary, OfScalar, ScalarSyntax, Summed, OfSum, OfTail, QuerySyntax, MoreSelects, SelectSyntax, OfSelect, NoWhere, HasWhere, ItemsSyntax, ItemSyntax, OfItem, Plain, OfRowNumber, Numbering, NoKeys, HasKeys, OneKey, WithSyntax, OfWith, NoWith, HasWith, NoSemi, OfText, depth, selects_depth, choice_depth, items_depth, item_depth, held_depth, key_list_depth, scalar_depth, defs_depth, def_depth, text_depth}
use Rattle.sql_profile.specs.Machine as machine
use Rattle.sql_profile.specs.Machine.{Before, Fresh, Behind, ItemHead, AtSelect, AtComma, KeyHead, AtBy, KeyComma, DefHead, AtWith, DefComma, put_select, put_item, put_key, put_source, put_def, Around, InParen, InNeg, InNot, InWhen, InThen, InElse, InRight, InItem, InKey, InWhere, InSum, InScalarWhere, Outside, InMain, InDef, InExists, one, named, numbering, counted, some_name, some_query, some_select, some_tail, close, close_query, close_items, close_held, close_scalar, close_want}
use Rattle.sql_reader.specs.Parts.{Base}
use Rattle.sql_reader.specs.Steps as reader
use Rattle.sql_reader.specs.Steps.{Form, State}
use Rattle.sql_reader.specs.Needs.{needs, height, base_needs, least_depth, fits}
use Rattle.sql_reader.specs.Runs.{turn, run}
use Rattle.sql_reader.proofs.Standing.{before, begun_of, head_depth, def_depths, key_head, base_of, outer_base, forms_of, outer_forms, stand, steps}
use Rattle.sql_profile.proofs.GrammarDepths.{depth_pos}

-- how deep a text is at least in which something of this depth stands inside the forms
abbrev over : Base → List Form → ℕ → ℕ
over b k n = max (base_needs b) (max (needs k) (n + height k))

select_deep : (b : Before) (s : SelectSyntax) → selects_depth (put_select b s) ≡ max (before b).depth (choice_depth s)
select_deep Fresh s = omega arith
select_deep (Behind q u a) s = refl

def_deep : (h : DefHead) (d : WithSyntax) → defs_depth (put_def h d) ≡ max (def_depths h) (def_depth d)
def_deep (AtWith p) d = omega arith
def_deep (DefComma ds c) d = refl

item_deep : (h : ItemHead) (i : ItemSyntax) → items_depth (put_item h i) ≡ max (head_depth h) (item_depth i)
item_deep (AtSelect p) i = omega arith
item_deep (AtComma is c) i = refl

key_deep : (h : KeyHead) (s : ExprSyntax) → key_list_depth (put_key h s) ≡ max (key_head h).depth (depth s)
key_deep (AtBy o b) s = omega arith
key_deep (KeyComma ks c) s = refl

spread : (n a s h : ℕ) → max n (max a (suc s) + h) ≡ max (max n (a + h)) (s + (1 + h))
spread n a s h = omega arith

-- a form round something, which makes a text that is so deep
enclosed : (b n h a s whole deep : ℕ) → deep ≡ max b (max n (whole + h)) → whole ≡ max a (suc s) → deep ≡ max b (max (max n (a + h)) (s + (1 + h)))
enclosed b n h a s whole deep e d = e ∙ ap (λ x. max b (max n (x + h))) d ∙ ap (max b) (spread n a s h)

form : (k : Around) (s : ExprSyntax) (a n : ℕ) → text_depth (close k s) ≡ over (base_of k) (forms_of k) (depth s) → depth s ≡ max a (suc n)
    → text_depth (close k s) ≡ max (base_needs (base_of k)) (max (max (needs (forms_of k)) (a + height (forms_of k))) (n + (1 + height (forms_of k))))
form k s a n e d = enclosed (base_needs (base_of k)) (needs (forms_of k)) (height (forms_of k)) a n (depth s) (text_depth (close k s)) e d

-- the SELECTs, with one of these items
in_query : (c : Outside) (q : QuerySyntax) (a n : ℕ) → text_depth (close_query c q) ≡ over (outer_base c) (outer_forms c) (selects_depth q) → selects_depth q ≡ max a (suc n)
    → text_depth (close_query c q) ≡ max (base_needs (outer_base c)) (max (max (needs (outer_forms c)) (a + height (outer_forms c))) (n + (1 + height (outer_forms c))))
in_query c q a n e d = enclosed (base_needs (outer_base c)) (needs (outer_forms c)) (height (outer_forms c)) a n (selects_depth q) (text_depth (close_query c q)) e d

with_item : (h : ItemHead) (i : ItemSyntax) (b : Before) (n : ℕ) → item_depth i ≡ n
    → selects_depth (put_select b (OfSelect (put_item h i) NoFrom NoWhere)) ≡ max (max (before b).depth (suc (head_depth h))) (suc n)
with_item h i b n d =
    let e = select_deep b (OfSelect (put_item h i) NoFrom NoWhere) in
    let f = item_deep h i in
    omega (arith, e, f, d)

grouped : (a i k s : ℕ) → max (max a i) (max k s) ≡ max (max (max a i) k) s
grouped a i k s = omega arith

both : (k s : ℕ) → suc (max k s) ≡ max (suc k) (suc s)
both k s = omega arith

mutual
  closed : (k : Around) (s : ExprSyntax) → text_depth (close k s) ≡ over (base_of k) (forms_of k) (depth s)
  closed (InParen p k) s = form k (OfParens p s 0) 0 (depth s) (closed k (OfParens p s 0)) (omega arith)
  closed (InNeg p k) s = form k (OfMinus p s) 0 (depth s) (closed k (OfMinus p s)) (omega arith)
  closed (InNot p k) s = form k (OfNot p s) 0 (depth s) (closed k (OfNot p s)) (omega arith)
  closed (InWhen p w k) s =
      let x = depth_pos s in
      form k (OfCase p w s 0 one 0 one 0) 0 (depth s) (closed k (OfCase p w s 0 one 0 one 0)) (omega (arith, x))
  closed (InThen p w t i k) s =
      let x = depth_pos s in
      form k (OfCase p w t i s 0 one 0) (suc (depth t)) (depth s) (closed k (OfCase p w t i s 0 one 0)) (omega (arith, x))
  closed (InElse p w t i y e k) s =
      form k (OfCase p w t i y e s 0) (suc (max (depth t) (depth y))) (depth s) (closed k (OfCase p w t i y e s 0)) (omega arith)
  closed (InRight l p op k) s = form k (OfBinary l p op s) (suc (depth l)) (depth s) (closed k (OfBinary l p op s)) (omega arith)
  closed (InItem i b c) s =
      let q = put_select b (OfSelect (put_item i (named (Plain s))) NoFrom NoWhere) in
      in_query c q (max (before b).depth (suc (head_depth i))) (depth s) (closed_query c q) (with_item i (named (Plain s)) b (depth s) refl)
  closed (InKey g r i b c) s =
      let v = named (Numbering r (HasKeys (put_key g s)) 0) in
      let q = put_select b (OfSelect (put_item i v) NoFrom NoWhere) in
      let a = max (before b).depth (suc (head_depth i)) in
      in_query c q (max a (suc (key_head g).depth)) (depth s) (closed_query c q)
      (with_item i v b (max (key_head g).depth (depth s)) (key_deep g s)
      ∙ ap (max a) (both (key_head g).depth (depth s))
      ∙ grouped (before b).depth (suc (head_depth i)) (suc (key_head g).depth) (suc (depth s)))
  closed (InWhere p i f b c) s =
      let x = OfSelect i f (HasWhere p s) in
      let e = select_deep b x in
      in_query c (put_select b x) (max (before b).depth (suc (items_depth i))) (depth s) (closed_query c (put_select b x)) (omega (arith, e))
  closed (InSum h k) s = form k (OfScalar (Summed h s some_tail) NoFrom NoWhere 0) 0 (depth s) (closed k (OfScalar (Summed h s some_tail) NoFrom NoWhere 0)) (omega arith)
  closed (InScalarWhere p h f k) s =
      form k (OfScalar h f (HasWhere p s) 0) (suc (scalar_depth h)) (depth s) (closed k (OfScalar h f (HasWhere p s) 0)) (omega arith)

  closed_query : (c : Outside) (q : QuerySyntax) → text_depth (close_query c q) ≡ over (outer_base c) (outer_forms c) (selects_depth q)
  closed_query (InMain NoWith) q = omega arith
  closed_query (InMain (HasWith ds)) q = omega arith
  closed_query (InDef h p n a o) q = let e = def_deep h (OfWith p n a o q 0) in omega (arith, e)
  closed_query (InExists n e o k) q = let h = closed k (OfNotExists n e o q 0) in omega (arith, h)

-- something of a depth that is known stands inside the forms
inside_over : (k : Around) (s : ExprSyntax) (n : ℕ) → depth s ≡ n → text_depth (close k s) ≡ over (base_of k) (forms_of k) n
inside_over k s n e = closed k s ∙ ap (λ m. over (base_of k) (forms_of k) m) e

items_over : (i : ItemsSyntax) (f : FromSyntax) (b : Before) (c : Outside) → text_depth (close_items i f b c) ≡ over (outer_base c) (outer_forms c) (max (before b).depth (suc (items_depth i)))
items_over i f b c =
    let x = OfSelect i f NoWhere in
    let e = select_deep b x in
    let d : selects_depth (put_select b x) ≡ max (before b).depth (suc (items_depth i)) = omega (arith, e) in
    closed_query c (put_select b x) ∙ ap (over (outer_base c) (outer_forms c)) d

item_over : (i : ItemSyntax) (h : ItemHead) (b : Before) (c : Outside) (n : ℕ) → item_depth i ≡ n
    → text_depth (close_items (put_item h i) NoFrom b c) ≡ over (outer_base c) (reader.Item (begun_of h b) ∷ outer_forms c) n
item_over i h b c n d =
    let q = put_select b (OfSelect (put_item h i) NoFrom NoWhere) in
    in_query c q (max (before b).depth (suc (head_depth h))) n (closed_query c q) (with_item h i b n d)

want_over : (k : Around) → text_depth (close_want k) ≡ least_depth (stand (machine.Want k))
want_over (InItem h b c) = item_over (named numbering) h b c 0 refl
want_over (InParen p k) = form k (OfScalar (counted p 0 0 0 0 0) NoFrom NoWhere 0) 0 0 (closed k (OfScalar (counted p 0 0 0 0 0) NoFrom NoWhere 0)) refl
want_over (InNeg p k) = closed (InNeg p k) one
want_over (InNot p k) = closed (InNot p k) one
want_over (InWhen p w k) = closed (InWhen p w k) one
want_over (InThen p w t h k) = closed (InThen p w t h k) one
want_over (InElse p w t h y e k) = closed (InElse p w t h y e k) one
want_over (InRight l p op k) = closed (InRight l p op k) one
want_over (InKey g r h b c) = closed (InKey g r h b c) one
want_over (InWhere p i f b c) = closed (InWhere p i f b c) one
want_over (InSum h k) = closed (InSum h k) one
want_over (InScalarWhere p h f k) = closed (InScalarWhere p h f k) one

scalar_over : (h : ScalarSyntax) (f : FromSyntax) (k : Around) → text_depth (close_scalar h f k) ≡ over (base_of k) (forms_of k) (suc (scalar_depth h))
scalar_over h f k = inside_over k (OfScalar h f NoWhere 0) (suc (scalar_depth h)) (omega arith)

select_over : (b : Before) (c : Outside) → text_depth (close_query c (put_select b some_select)) ≡ least_depth (stand (machine.WantSelect b c))
select_over Fresh (InMain NoWith) = refl
select_over Fresh (InMain (HasWith ds)) = omega arith
select_over Fresh (InDef h p n a o) = closed_query (InDef h p n a o) some_query
select_over Fresh (InExists n e o k) = closed_query (InExists n e o k) some_query
select_over (Behind q u a) c = closed_query c (MoreSelects q u a some_select)

def_over : (h : DefHead) (d : WithSyntax) → def_depth d ≡ 2 → text_depth (OfText (HasWith (put_def h d)) some_query NoSemi) ≡ max (max (def_depths h) 0) 2
def_over h d e = let f = def_deep h d in omega (arith, f, e)

deep : (st : machine.State) → text_depth (machine.least st) ≡ least_depth (stand st)
deep (machine.AtDef h) = def_over h (OfWith 0 some_name 0 0 some_query 0) refl
deep (machine.AtDefName h p n) = def_over h (OfWith p n 0 0 some_query 0) refl
deep (machine.AtDefAs h p n a) = def_over h (OfWith p n a 0 some_query 0) refl
deep (machine.WantSelect b c) = select_over b c
deep (machine.AtUnion q u c) = closed_query c (MoreSelects q u 0 some_select)
deep (machine.Want k) = want_over k
deep (machine.AtName p n k) = inside_over k (OfColumn p n 0 0 some_name) 1 refl
deep (machine.AtDot p n q k) = inside_over k (OfColumn p n q 0 some_name) 1 refl
deep (machine.AtCase p k) = inside_over k (OfCase p 0 one 0 one 0 one 0) 2 refl
deep (machine.AtExists n e k) = inside_over k (OfNotExists n e 0 some_query 0) 3 refl
deep (machine.Have s k) = closed k s
deep (machine.AtRow r h b c) = item_over (named (Numbering (OfRowNumber r 0 0 0 0) NoKeys 0)) h b c 0 refl
deep (machine.AtRowOpen r o h b c) = item_over (named (Numbering (OfRowNumber r o 0 0 0) NoKeys 0)) h b c 0 refl
deep (machine.AtRowClose r o x h b c) = item_over (named (Numbering (OfRowNumber r o x 0 0) NoKeys 0)) h b c 0 refl
deep (machine.AtOver r o x v h b c) = item_over (named (Numbering (OfRowNumber r o x v 0) NoKeys 0)) h b c 0 refl
deep (machine.InOver r h b c) = item_over (named (Numbering r NoKeys 0)) h b c 0 refl
deep (machine.AtOrder o r h b c) = item_over (named (Numbering r (HasKeys (OneKey o 0 one)) 0)) h b c 1 refl
deep (machine.AtHeld v h b c) = item_over (named v) h b c (held_depth v) refl
deep (machine.AtAs v a h b c) = item_over (OfItem v a 0 some_name) h b c (held_depth v) refl
deep (machine.HaveItems i f b c) = items_over i f b c
deep (machine.AtSource h i b c) = items_over i (HasFrom (put_source h (OfSource 0 some_name 0 0 some_name))) b c
deep (machine.AtSourceName h p t i b c) = items_over i (HasFrom (put_source h (OfSource p t 0 0 some_name))) b c
deep (machine.AtSourceAs h p t a i b c) = items_over i (HasFrom (put_source h (OfSource p t a 0 some_name))) b c
deep (machine.AtScalar p s k) = scalar_over (counted p s 0 0 0 0) NoFrom k
deep (machine.AtCount p s c k) = scalar_over (counted p s c 0 0 0) NoFrom k
deep (machine.AtCountOpen p s c o k) = scalar_over (counted p s c o 0 0) NoFrom k
deep (machine.AtCountStar p s c o t k) = scalar_over (counted p s c o t 0) NoFrom k
deep (machine.AtCoalesce p s c k) = scalar_over (Summed (OfSum p s c 0 0 0) one some_tail) NoFrom k
deep (machine.AtCoalesceOpen p s c o k) = scalar_over (Summed (OfSum p s c o 0 0) one some_tail) NoFrom k
deep (machine.AtSum p s c o u k) = scalar_over (Summed (OfSum p s c o u 0) one some_tail) NoFrom k
deep (machine.AtSumClose h e z k) = scalar_over (Summed h e (OfTail z 0 0 0)) NoFrom k
deep (machine.AtSumComma h e z c k) = scalar_over (Summed h e (OfTail z c 0 0)) NoFrom k
deep (machine.AtSumZero h e z c q k) = scalar_over (Summed h e (OfTail z c q 0)) NoFrom k
deep (machine.HaveScalar h f k) = scalar_over h f k
deep (machine.AtScalarSource i h k) = scalar_over h (HasFrom (put_source i (OfSource 0 some_name 0 0 some_name))) k
deep (machine.AtScalarSourceName i p t h k) = scalar_over h (HasFrom (put_source i (OfSource p t 0 0 some_name))) k
deep (machine.AtScalarSourceAs i p t a h k) = scalar_over h (HasFrom (put_source i (OfSource p t a 0 some_name))) k
deep (machine.AtSemi NoWith q p) = omega arith
deep (machine.AtSemi (HasWith ds) q p) = omega arith
deep (machine.Ready (OfText NoWith q s) e) = omega arith
deep (machine.Ready (OfText (HasWith ds) q s) e) = omega arith

pub fits_same : (d : ℕ) (st : machine.State) → fits d (stand st) ≡ machine.fits d st
fits_same d st = ap (λ n. leb n d) (sym (deep st))

-- The answer of a whole run, as the reader's.
abbrev pub outcome : Outcome Token machine.State → Outcome Token State
outcome (Reached st) = Reached (stand st)
outcome (Faulty t f) = Faulty t f

pub runs : (d : ℕ) (ts : List Token) (st : machine.State) → run d ts (stand st) ≡ outcome (machine.run d ts st)
runs d [] st = refl
runs d (t ∷ ts) st =
    ap (λ o. turn d t o (run d ts)) (steps st t) ∙ go (machine.step st t) (λ next. runs d ts next)
  where
    chosen : (b : Bool) (x : Outcome Token machine.State) → cond b (outcome x) (Faulty t Deep) ≡ outcome (cond b x (Faulty t Deep))
    chosen true x = refl
    chosen false x = refl

    go : (o : Option machine.State) → ((next : machine.State) → run d ts (stand next) ≡ outcome (machine.run d ts next))
        → turn d t (option_map stand o) (run d ts) ≡ outcome (machine.turn d t o (machine.run d ts))
    go None h = refl
    go (Some next) h =
        ap (λ b. cond b (run d ts (stand next)) (Faulty t Deep)) (fits_same d next)
        ∙ ap (λ x. cond (machine.fits d next) x (Faulty t Deep)) (h next)
        ∙ chosen (machine.fits d next) (machine.run d ts next)
