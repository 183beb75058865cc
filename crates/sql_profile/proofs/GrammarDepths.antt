-- A part that is no deeper makes a whole that is no deeper.
use Rattle.std.proofs.Common.{◌≡◌, ℕ, ◌≤◌, true, arith, le-leb, leb-true}
use Rattle.sql_profile.specs.Grammar.{NoFrom, ExprSyntax, OfConstant, OfColumn, OfParens, OfMinus, OfNot, OfNotExists, OfCase, OfBinary, QuerySyntax, OneSelect, MoreSelects, SelectSyntax, OfSelect, NoWhere, HasWhere, ItemSyntax, Plain, Numbering, HasKeys, WithSyntax, OfWith, TextSyntax, depth, selects_depth, choice_depth, items_depth, item_depth, key_list_depth, def_depth, defs_depth, text_depth, OfScalar, Summed}
use Rattle.sql_profile.specs.Machine.{Before, Fresh, Behind, ItemHead, AtSelect, AtComma, KeyHead, AtBy, KeyComma, DefHead, AtWith, DefComma, put_select, put_item, put_key, put_def, Around, InParen, InNeg, InNot, InWhen, InThen, InElse, InRight, InItem, InKey, InWhere, Outside, InMain, InDef, InExists, State, one, named, numbering, close, close_query, close_items, close_want, least, fits, InSum, InScalarWhere, counted, some_tail}

pub item_mono : (h : ItemHead) (i j : ItemSyntax) → item_depth i ≤ item_depth j → items_depth (put_item h i) ≤ items_depth (put_item h j)
item_mono (AtSelect p) i j e = e
item_mono (AtComma is c) i j e = omega arith

pub key_mono : (h : KeyHead) (s s' : ExprSyntax) → depth s ≤ depth s' → key_list_depth (put_key h s) ≤ key_list_depth (put_key h s')
key_mono (AtBy o b) s s' e = e
key_mono (KeyComma ks c) s s' e = omega arith

pub def_mono : (h : DefHead) (d d' : WithSyntax) → def_depth d ≤ def_depth d' → defs_depth (put_def h d) ≤ defs_depth (put_def h d')
def_mono (AtWith p) d d' e = e
def_mono (DefComma ds c) d d' e = omega arith

pub select_mono : (b : Before) (s s' : SelectSyntax) → choice_depth s ≤ choice_depth s' → selects_depth (put_select b s) ≤ selects_depth (put_select b s')
select_mono Fresh s s' e = e
select_mono (Behind q u a) s s' e = omega arith

mutual
  pub close_mono : (k : Around) (s s' : ExprSyntax) → depth s ≤ depth s' → text_depth (close k s) ≤ text_depth (close k s')
  close_mono (InParen p k) s s' h = close_mono k (OfParens p s 0) (OfParens p s' 0) (omega arith)
  close_mono (InNeg p k) s s' h = close_mono k (OfMinus p s) (OfMinus p s') (omega arith)
  close_mono (InNot p k) s s' h = close_mono k (OfNot p s) (OfNot p s') (omega arith)
  close_mono (InWhen p w k) s s' h = close_mono k (OfCase p w s 0 one 0 one 0) (OfCase p w s' 0 one 0 one 0) (omega arith)
  close_mono (InThen p w t i k) s s' h = close_mono k (OfCase p w t i s 0 one 0) (OfCase p w t i s' 0 one 0) (omega arith)
  close_mono (InElse p w t i y e k) s s' h = close_mono k (OfCase p w t i y e s 0) (OfCase p w t i y e s' 0) (omega arith)
  close_mono (InRight l p op k) s s' h = close_mono k (OfBinary l p op s) (OfBinary l p op s') (omega arith)
  close_mono (InItem i b c) s s' h =
      let e = item_mono i (named (Plain s)) (named (Plain s')) h in
      query_mono c _ _ (select_mono b (OfSelect (put_item i (named (Plain s))) NoFrom NoWhere) (OfSelect (put_item i (named (Plain s'))) NoFrom NoWhere) (omega (arith, e)))
  close_mono (InKey g r i b c) s s' h =
      let v = named (Numbering r (HasKeys (put_key g s)) 0) in
      let v' = named (Numbering r (HasKeys (put_key g s')) 0) in
      let e = item_mono i v v' (key_mono g s s' h) in
      query_mono c _ _ (select_mono b (OfSelect (put_item i v) NoFrom NoWhere) (OfSelect (put_item i v') NoFrom NoWhere) (omega (arith, e)))
  close_mono (InWhere p i f b c) s s' h = query_mono c _ _ (select_mono b (OfSelect i f (HasWhere p s)) (OfSelect i f (HasWhere p s')) (omega arith))
  close_mono (InSum h k) s s' e = close_mono k (OfScalar (Summed h s some_tail) NoFrom NoWhere 0) (OfScalar (Summed h s' some_tail) NoFrom NoWhere 0) (omega arith)
  close_mono (InScalarWhere p h f k) s s' e = close_mono k (OfScalar h f (HasWhere p s) 0) (OfScalar h f (HasWhere p s') 0) (omega arith)

  pub query_mono : (c : Outside) (q q' : QuerySyntax) → selects_depth q ≤ selects_depth q' → text_depth (close_query c q) ≤ text_depth (close_query c q')
  query_mono (InMain w) q q' h = omega arith
  query_mono (InDef g p n a o) q q' h = let e = def_mono g (OfWith p n a o q 0) (OfWith p n a o q' 0) (omega arith) in omega (arith, e)
  query_mono (InExists n e o k) q q' h = close_mono k (OfNotExists n e o q 0) (OfNotExists n e o q' 0) (omega arith)

pub depth_pos : (s : ExprSyntax) → 1 ≤ depth s
depth_pos (OfConstant p c) = omega arith
depth_pos (OfColumn p a q r c) = omega arith
depth_pos (OfParens p e q) = omega arith
depth_pos (OfMinus p e) = omega arith
depth_pos (OfNot p e) = omega arith
depth_pos (OfNotExists p e o q c) = omega arith
depth_pos (OfCase p w t h y e n z) = omega arith
depth_pos (OfBinary l p op r) = omega arith
depth_pos (OfScalar h f w z) = omega arith

pub choice_pos : (s : SelectSyntax) → 1 ≤ choice_depth s
choice_pos (OfSelect i f w) = omega arith

pub selects_pos : (q : QuerySyntax) → 1 ≤ selects_depth q
selects_pos (OneSelect s) = choice_pos s
selects_pos (MoreSelects q u a s) = let h = choice_pos s in omega (arith, h)

abbrev pub Within : ℕ → TextSyntax → Type 0
Within d s = text_depth s ≤ d

pub less : (d : ℕ) (k : Around) (s s' : ExprSyntax) → depth s ≤ depth s' → Within d (close k s') → Within d (close k s)
less d k s s' h w = let e = close_mono k s s' h in omega (arith, e, w)

pub query_less : (d : ℕ) (c : Outside) (q q' : QuerySyntax) → selects_depth q ≤ selects_depth q' → Within d (close_query c q') → Within d (close_query c q)
query_less d c q q' h w = let e = query_mono c q q' h in omega (arith, e, w)

pub choice_less : (d : ℕ) (b : Before) (c : Outside) (s s' : SelectSyntax) → choice_depth s ≤ choice_depth s' → Within d (close_query c (put_select b s')) → Within d (close_query c (put_select b s))
choice_less d b c s s' h w = query_less d c (put_select b s) (put_select b s') (select_mono b s s' h) w

pub item_less : (d : ℕ) (h : ItemHead) (b : Before) (c : Outside) (i j : ItemSyntax) → item_depth i ≤ item_depth j → Within d (close_items (put_item h j) NoFrom b c) → Within d (close_items (put_item h i) NoFrom b c)
item_less d h b c i j e w = let m = item_mono h i j e in choice_less d b c (OfSelect (put_item h i) NoFrom NoWhere) (OfSelect (put_item h j) NoFrom NoWhere) (omega (arith, m)) w

pub want_less : (d : ℕ) (k : Around) (s : ExprSyntax) → Within d (close k s) → Within d (close_want k)
want_less d (InItem h b c) s w = item_less d h b c (named numbering) (named (Plain s)) (omega arith) w
want_less d (InParen p k) s w = less d k (OfScalar (counted p 0 0 0 0 0) NoFrom NoWhere 0) (OfParens p s 0) (omega arith) w
want_less d k s w = less d k one s (depth_pos s) w

pub fits_true : (d : ℕ) (st : State) → Within d (least st) → fits d st ≡ true
fits_true d st w = le-leb _ _ w

pub fits_within : (d : ℕ) (st : State) → fits d st ≡ true → Within d (least st)
fits_within d st h = leb-true _ _ h
