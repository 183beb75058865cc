-- Names that a set tells, and the indexes of names.
use Rattle.std.proofs.Common.{◌≡◌, ℕ, suc, ◌+◌, ◌<◌, ◌++◌, take, drop, get_or, reverse, option_map, add-one, drop-cons, append_assoc, ◌||◌, if◌then◌else◌, cond, Bool, true, false, List, [], ◌∷◌, length, Some, None, refl, sym, ap, ◌∙◌, arith}
use Rattle.std.specs.Str.{bytes_eq}
use Rattle.std.specs.Cmp.Lexicographic.{nat_list_eq_equiv}
use Rattle.std.proofs.lemmas.List.{reverse-append, take_more}
use Rattle.nq_model.specs.QueryScope.{Name, among, number_of}
use Rattle.nq_model.specs.QueryTokens.{is_quote}
use Rattle.query_syntax.specs.Lowering.{index_of}

-- one more name
pub one_more_name : (l x : Name) (names : List Name) (old new : Bool) → new ≡ cond (bytes_eq l x) true old → old ≡ among x names → new ≡ among x (l ∷ names)
one_more_name l x names old new now before =
    now ∙ ap (λ b. cond b true old) (nat_list_eq_equiv.symm l x) ∙ by (bytes_eq x l)
  where
    by : (b : Bool) → cond b true old ≡ (b || among x names)
    by true = refl
    by false = before

next_index : (x y : Name) (ys : List Name) → index_of x (y ∷ ys) ≡ cond (bytes_eq x y) (Some 0) (option_map (λ k. k + 1) (index_of x ys))
next_index x y ys = by (bytes_eq x y) (among x ys)
  where
    by : (b a : Bool) → (if b || a then Some (if b then 0 else suc (number_of x ys)) else None) ≡ cond b (Some 0) (option_map (λ k. k + 1) (if a then Some (number_of x ys) else None))
    by true a = refl
    by false true = ap Some (sym (add-one (number_of x ys)))
    by false false = refl

-- one more binder, inside the others
pub one_more_binder : (x : Name) (scope : List Name) (i : ℕ) (y : Name) → i < length scope → y ≡ get_or scope i y
    → index_of x (reverse (take (i + 1) scope)) ≡ cond (bytes_eq x y) (Some 0) (option_map (λ k. k + 1) (index_of x (reverse (take i scope))))
one_more_binder x scope i y h is =
    ap (λ ys. index_of x (reverse ys)) (take_more scope i y h)
    ∙ ap (index_of x) (reverse-append (take i scope) (get_or scope i y ∷ []))
    ∙ ap (λ z. index_of x (z ∷ reverse (take i scope))) (sym is)
    ∙ next_index x y (reverse (take i scope))

pub reverse_one_more : (x : Name) (xs : List Name) → reverse (xs ++ x ∷ []) ≡ x ∷ reverse xs
reverse_one_more x xs = reverse-append xs (x ∷ [])
