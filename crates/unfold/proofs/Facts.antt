-- How the code's parts fit the definitions.
use Rattle.std.proofs.Common.{◌≡◌, ◌≢◌, ℕ, zero, suc, ◌-◌, ◌<◌, cond, Bool, true, false, List, [], ◌∷◌, ◌++◌, map, reverse, refl, sym, ap, ◌∙◌, arith, length, drop, Option, Some, None, bytes_eq, slice_index_or, option_map, slice_get}
use Rattle.std.proofs.lemmas.List.{reverse-append, map-append}
use Rattle.nq_model.specs.declared.term.Term.{Term}
use Rattle.nq_model.specs.declared.term.Node.TheVariants.{Rec}
use Rattle.nq_model.specs.Terms.{PlacedTerm, PlacedNode, PlacedFields, at, placed, placed_node, placed_fields, placed_fields_of}
use Rattle.nq_model.specs.Substitution.{fields_with_places}
use Rattle.nq_model.proofs.Terms.{placed_term, node_record}
use Rattle.nq_model.specs.Unfolding.{picked}
use Rattle.unfold.specs.Hereditary.{or_else, field_by, substitute, substitute_fields, apply_by, apply_at}
use Rattle.unfold.specs.Environments.{Entry, given, walk_in, walk_each, taken_by}

-- a term as its place and what its node is
pub placed_as : (t : Term) {n : PlacedNode} → placed_node t.node ≡ n → placed t ≡ at t.place n
placed_as t e = placed_term t ∙ ap (at t.place) e

-- what is done to each field
pub substitute_fields-of : (app : ℕ → PlacedTerm → PlacedTerm → PlacedTerm) (c : ℕ) (s : PlacedTerm) (fs : List (List ℕ × PlacedTerm)) → substitute_fields app c s (placed_fields_of fs) ≡ placed_fields_of (map (λ f. (f.0, substitute app c s f.1)) fs)
substitute_fields-of app c s [] = refl
substitute_fields-of app c s (f ∷ fs) = ap (PlacedFields.with_field f.0 (substitute app c s f.1)) (substitute_fields-of app c s fs)

pub walk_each-of : (r n : ℕ) (es : List Entry) (fs : List (List ℕ × PlacedTerm)) → walk_each r n es (placed_fields_of fs) ≡ placed_fields_of (map (λ f. (f.0, walk_in r n es f.1)) fs)
walk_each-of r n es [] = refl
walk_each-of r n es (f ∷ fs) = ap (PlacedFields.with_field f.0 (walk_in r n es f.1)) (walk_each-of r n es fs)

-- an application of a function that is written out, and any other
pub taken_is : (r n : ℕ) (es : List Entry) (p : ℕ) (f u : PlacedTerm) → taken_by (λ t. walk_in r n (given n (walk_in r n es u) ∷ es) t) (apply_at r p (walk_in r n es f) (walk_in r n es u)) f ≡ walk_in r n es (at p (PlacedNode.apply f u))
taken_is r n es p (at q (PlacedNode.var k)) u = refl
taken_is r n es p (at q (PlacedNode.int i)) u = refl
taken_is r n es p (at q (PlacedNode.bool b)) u = refl
taken_is r n es p (at q (PlacedNode.text x)) u = refl
taken_is r n es p (at q (PlacedNode.table l)) u = refl
taken_is r n es p (at q (PlacedNode.unary op t)) u = refl
taken_is r n es p (at q (PlacedNode.binary op t v)) u = refl
taken_is r n es p (at q (PlacedNode.choose t v w)) u = refl
taken_is r n es p (at q (PlacedNode.fun k t)) u = refl
taken_is r n es p (at q (PlacedNode.apply t v)) u = refl
taken_is r n es p (at q (PlacedNode.rec fs)) u = refl
taken_is r n es p (at q (PlacedNode.field t l)) u = refl
taken_is r n es p (at q (PlacedNode.aggregate g t)) u = refl
taken_is r n es p (at q (PlacedNode.single t)) u = refl
taken_is r n es p (at q (PlacedNode.nil k)) u = refl
taken_is r n es p (at q (PlacedNode.union t v)) u = refl
taken_is r n es p (at q (PlacedNode.for t v)) u = refl
taken_is r n es p (at q (PlacedNode.guard t v)) u = refl
taken_is r n es p (at q (PlacedNode.bind t v)) u = refl

-- a field of a walked record is the walked field
picked_each_by : (f : PlacedTerm → PlacedTerm) (t : PlacedTerm) (o q : Option PlacedTerm) → q ≡ option_map f o → (b : Bool) → cond b (Some (f t)) q ≡ option_map f (cond b (Some t) o)
picked_each_by f t o q e true = refl
picked_each_by f t o q e false = e

picked_each : (r n : ℕ) (es : List Entry) (l : List ℕ) (fs : PlacedFields) → picked l (walk_each r n es fs) ≡ option_map (walk_in r n es) (picked l fs)
picked_each r n es l PlacedFields.none = refl
picked_each r n es l (PlacedFields.with_field m t fs) =
    picked_each_by (walk_in r n es) t (picked l fs) (picked l (walk_each r n es fs)) (picked_each r n es l fs) (bytes_eq l m)

pub walked_field : (r n : ℕ) (es : List Entry) (p q : ℕ) (l : List ℕ) (fs : PlacedFields) (t : PlacedTerm) → picked l fs ≡ Some t → walk_in r n es t ≡ field_by p l (at q (PlacedNode.rec (walk_each r n es fs)))
walked_field r n es p q l fs t e =
    sym (ap (λ o. or_else o (at p (PlacedNode.field (at q (PlacedNode.rec (walk_each r n es fs))) l))) (picked_each r n es l fs ∙ ap (option_map (walk_in r n es)) e))

-- a choice between equal terms
pub same_branches : (p : ℕ) (x y n v w : PlacedTerm) → y ≡ v → n ≡ w → at p (PlacedNode.choose x y n) ≡ at p (PlacedNode.choose x v w)
same_branches p x y n v w e f = ap (λ z. at p (PlacedNode.choose x z n)) e ∙ ap (λ z. at p (PlacedNode.choose x v z)) f

-- a record over fields to which something was done
pub record_made : (f : PlacedTerm → PlacedTerm) (each : PlacedFields → PlacedFields) → ((p : ℕ) (fs : PlacedFields) → f (at p (PlacedNode.rec fs)) ≡ at p (PlacedNode.rec (each fs))) → ((fs : List (List ℕ × PlacedTerm)) → each (placed_fields_of fs) ≡ placed_fields_of (map (λ x. (x.0, f x.1)) fs)) → (t : Term) (fs gs : List (List ℕ × Term)) → t.node ≡ Rec fs → fields_with_places gs ≡ map (λ x. (x.0, f x.1)) (fields_with_places fs) → at t.place (PlacedNode.rec (placed_fields gs)) ≡ f (placed t)
record_made f each is of t fs gs old h =
    let a : placed t ≡ at t.place (PlacedNode.rec (placed_fields fs)) = placed_term t ∙ ap (at t.place) (ap placed_node old ∙ node_record fs) in
    ap (λ x. at t.place (PlacedNode.rec (placed_fields_of x))) h ∙ ap (λ x. at t.place (PlacedNode.rec x)) (sym (of (fields_with_places fs))) ∙ sym (is t.place (placed_fields fs)) ∙ ap f (sym a)

app_nil : {A : Type 0} (xs : List A) → xs ++ [] ≡ xs
app_nil [] = refl
app_nil (x ∷ xs) = ap (λ ys. x ∷ ys) (app_nil xs)

turn : {A : Type 0} (xs : List A) (x : A) → reverse (xs ++ x ∷ []) ≡ x ∷ reverse xs
turn xs x = reverse-append xs (x ∷ [])

turn_twice : {A : Type 0} (xs : List A) → reverse (reverse xs) ≡ xs
turn_twice [] = refl
turn_twice (x ∷ xs) = ap reverse (reverse-append (x ∷ []) xs) ∙ turn (reverse xs) x ∙ ap (λ ys. x ∷ ys) (turn_twice xs)

-- the end of a loop that pops and pushes
pub turned : {X A B : Type 0} (v : X → A) (u : X → B) (f : A → B) (all back : List X) (rest first : List X) → rest ≡ [] → back ≡ reverse all → map u all ++ reverse (map f (map v rest)) ≡ reverse (map f (map v first)) → map u back ≡ map f (map v first)
turned v u f all back rest first e b h =
    let r : reverse (map f (map v rest)) ≡ [] = ap (λ l. reverse (map f (map v l))) e in
    let m : map u all ≡ reverse (map f (map v first)) = sym (app_nil (map u all)) ∙ ap (λ l. map u all ++ l) (sym r) ∙ h in
    ap (map u) b ∙ map_turn u all ∙ ap reverse m ∙ turn_twice (map f (map v first))
  where
    map_turn : {X B : Type 0} (u : X → B) (xs : List X) → map u (reverse xs) ≡ reverse (map u xs)
    map_turn u [] = refl
    map_turn u (x ∷ xs) =
        ap (map u) (reverse-append (x ∷ []) xs) ∙ map-append u (reverse xs) (x ∷ []) ∙ ap (λ l. l ++ u x ∷ []) (map_turn u xs) ∙ sym (reverse-append (u x ∷ []) (map u xs))

pub found : {X : Type 0} (v : X → PlacedTerm) (l : List ℕ) (fs : List (List ℕ × X)) (i : ℕ) (f d : List ℕ × X) → i < length fs → f ≡ slice_index_or fs i d → bytes_eq l f.0 ≡ true → picked l (placed_fields_of (map (λ p. (p.0, v p.1)) (drop i fs))) ≡ option_map (λ p. v p.1) (slice_get fs i)
found v l [] i f d h e q = absurd (omega (arith, h))
found {X = X} v l (g ∷ fs) zero f d h e q = let b : bytes_eq l g.0 ≡ true = ap (λ (p : List ℕ × X). bytes_eq l p.0) (sym e) ∙ q in ap (λ o. cond o (Some (v g.1)) (picked l (placed_fields_of (map (λ p. (p.0, v p.1)) fs)))) b
found v l (g ∷ fs) (suc i) f d h e q = found v l fs i f d (omega (arith, h)) e q

-- a field of a record
pub picked_field : (p q : ℕ) (l : List ℕ) (fs : PlacedFields) (t u : PlacedTerm) → u ≡ at q (PlacedNode.rec fs) → picked l fs ≡ Some t → t ≡ field_by p l u
picked_field p q l fs t u e h =
    sym (ap (field_by p l) e ∙ ap (λ o. or_else o (at p (PlacedNode.field (at q (PlacedNode.rec fs)) l))) h)

pub missing_field : (p q : ℕ) (l : List ℕ) (fs : PlacedFields) (u : PlacedTerm) → u ≡ at q (PlacedNode.rec fs) → picked l fs ≡ None → field_by p l u ≡ at p (PlacedNode.field (at q (PlacedNode.rec fs)) l)
missing_field p q l fs u e h =
    ap (field_by p l) e ∙ ap (λ o. or_else o (at p (PlacedNode.field (at q (PlacedNode.rec fs)) l))) h

pub got : {X : Type 0} (xs : List X) (i : ℕ) (x d : X) → i < length xs → x ≡ slice_index_or xs i d → slice_get xs i ≡ Some x
got [] i x d h e = absurd (omega (arith, h))
got (y ∷ xs) zero x d h e = ap Some (sym e)
got (y ∷ xs) (suc i) x d h e = got xs i x d (omega (arith, h)) e

-- an application where functions may be applied
pub apply_more : (n p : ℕ) (f x : PlacedTerm) → n ≢ 0 → apply_at n p f x ≡ apply_by (substitute (apply_at (n - 1)) 0) p f x
apply_more zero p f x h = absurd (h refl)
apply_more (suc n) p f x h =
    let e : n ≡ suc n - 1 = omega arith in
    ap (λ m. apply_by (substitute (apply_at m) 0) p f x) e
