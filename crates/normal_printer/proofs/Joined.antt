-- Parts in a row, and the texts of terms that are joined from the left.
use Rattle.std.proofs.Common.{◌≡◌, ℕ, suc, ◌+◌, ◌≤◌, true, false, nat_le, ◌==◌, List, [], ◌∷◌, ◌++◌, codes, length, drop, map, refl, sym, ap, ◌∙◌, append_assoc, append-nil, arith, Box, Global}
use Rattle.std.proofs.lemmas.Bool.Decides.{nat_tests}
use Rattle.std.proofs.lemmas.List.{drop_all}
use Rattle.nq_model.specs.Terms.{Count}
use Rattle.nq_model.specs.Types.{TypeTree, field_types_of, fields_view, type_tree}
use Rattle.nq_model.specs.declared.term.Binary.TheVariants.{And}
use Rattle.nq_model.specs.declared.ty.Ty.{Ty}
use Rattle.nq_ir.specs.declared.base.Gen.{Gen}
use Rattle.nq_ir.specs.declared.base.Base.{Base}
use Rattle.nq_ir.specs.declared.base.Base.TheVariants as base
use Rattle.nq_ir.specs.declared.base.Test.{Test}
use Rattle.nq_ir.specs.declared.normal.Comp.{Comp}
use Rattle.nq_ir.specs.declared.normal.Body.{Body}
use Rattle.nq_ir.specs.declared.normal.Normal.{Normal, out-Normal}
use Rattle.nq_ir.specs.Trees.{Conds, no_cond, and_cond, conds_tree, base_tree, TestPart, test, test_part, tests_of, CompPart, comp, comp_part, comps_of, bodies_of, body_tree, form_tree}
use Rattle.nq_ir.specs.Printed.{NamedTerm, NamedFields, binary, union, single, rec, no_field, aggregate, under_gens, named_base, named_body, named_fields, named_where, named_tests, tests_then, named_comps, comps_then, named_form, and_then, level, fenced, name_text, type_text, more_types, text_of, more_text}
use Rattle.nq_ir.proofs.Forms.{base_count, base_sum, test_is, comp_is, form_is}
use Rattle.normal_printer.specs.Parts.{text_at, level_in, lead, comp_term, gens_text, where_text, test_term, whole_term}

-- parts in a row, each behind what stands before it
abbrev pub joined : {A : Type 0} → (ℕ → A → List ℕ) → List ℕ → List ℕ → ℕ → List A → List ℕ
joined part first further place [] = []
joined part first further place (x ∷ xs) = lead place first further ++ (part place x ++ joined part first further (place + 1) xs)

-- a part more
pub part_more : {A : Type 0} (part : ℕ → A → List ℕ) (first further : List ℕ) (place : ℕ) (x : A) (xs : List A) (old mid new all : List ℕ)
    → mid ≡ old ++ lead place first further → new ≡ mid ++ part place x → old ++ joined part first further place (x ∷ xs) ≡ all → new ++ joined part first further (place + 1) xs ≡ all
part_more part first further place x xs old mid new all e f h =
    ap (λ (l : List ℕ). l ++ joined part first further (place + 1) xs) (f ∙ ap (λ (l : List ℕ). l ++ part place x) e) ∙ (simp append_assoc) ∙ h

-- all parts are written
pub parts_end : {A : Type 0} (part : ℕ → A → List ℕ) (first further : List ℕ) (place : ℕ) (xs : List A) (old all : List ℕ) → length xs ≤ place → old ++ joined part first further place (drop place xs) ≡ all → old ≡ all
parts_end part first further place xs old all h e = sym (append-nil old) ∙ ap (λ l. old ++ joined part first further place l) (sym (drop_all place xs h)) ∙ e

suc_is : (n : ℕ) → n + 1 ≡ suc n
suc_is n = omega arith

none_asked : (n : ℕ) → nat_le 0 n ≡ true
none_asked n = grind (arith, nat_tests)

-- a term that an operator joins from the left
abbrev pub chain : (NamedTerm → NamedTerm → NamedTerm) → NamedTerm → List NamedTerm → NamedTerm
chain op x [] = x
chain op x (y ∷ ys) = chain op (op x y) ys

-- the part at a place of so many
abbrev pub part_at : {A : Type 0} → (A → NamedTerm) → ℕ → ℕ → ℕ → A → List ℕ
part_at named joined count place x = text_at (level_in joined count place) (named x)

module _ (op : NamedTerm → NamedTerm → NamedTerm) (joins : ℕ) (word : List ℕ)
    (is : (a b : NamedTerm) → text_of (op a b) ≡ text_at joins a ++ (word ++ text_at (suc joins) b))
    (inside : (a b : NamedTerm) → text_at joins (op a b) ≡ text_of (op a b)) where
  abbrev more : List NamedTerm → List ℕ
  more [] = []
  more (y ∷ ys) = word ++ (text_at (suc joins) y ++ more ys)

  chain_text : (x y : NamedTerm) (ys : List NamedTerm) → text_of (chain op x (y ∷ ys)) ≡ text_at joins x ++ more (y ∷ ys)
  chain_text x y [] = is x y ∙ ap (λ (l : List ℕ). text_at joins x ++ (word ++ l)) (sym (append-nil (text_at (suc joins) y)))
  chain_text x y (z ∷ zs) =
      chain_text (op x y) z zs ∙ ap (λ (l : List ℕ). l ++ more (z ∷ zs)) (inside x y ∙ is x y) ∙ (simp append_assoc)

  further : {A : Type 0} (named : A → NamedTerm) (first : List ℕ) (n place : ℕ) (xs : List A) → joined (part_at named joins (suc (suc n))) first word (suc place) xs ≡ more (map named xs)
  further named first n place [] = refl
  further named first n place (x ∷ xs) =
      ap (λ k. word ++ (text_at (suc joins) (named x) ++ joined (part_at named joins (suc (suc n))) first word k xs)) (suc_is (suc place))
      ∙ ap (λ (l : List ℕ). word ++ (text_at (suc joins) (named x) ++ l)) (further named first n (suc place) xs)

  -- the parts in a row are the text of the term
  pub joined_chain : {A : Type 0} (named : A → NamedTerm) (first : List ℕ) (x : A) (xs : List A) → joined (part_at named joins (length (x ∷ xs))) first word 0 (x ∷ xs) ≡ first ++ text_of (chain op (named x) (map named xs))
  joined_chain named first x [] =
      ap (λ (l : List ℕ). first ++ l) (append-nil (text_at 0 (named x)) ∙ ap (λ b. fenced b (text_of (named x))) (none_asked (level (named x))))
  joined_chain named first x (y ∷ ys) =
      ap (λ (l : List ℕ). first ++ (text_at joins (named x) ++ l)) (further named first (length ys) 0 (y ∷ ys))
      ∙ ap (λ (l : List ℕ). first ++ l) (sym (chain_text (named x) (named y) (map named ys)))

abbrev pub cond_term : Base → NamedTerm
cond_term b = named_base (base_tree b)

and_chain : (x : NamedTerm) (bs : List Base) → and_then x (conds_tree bs) ≡ chain (binary And) x (map cond_term bs)
and_chain x [] = refl
and_chain x (b ∷ bs) = and_chain (binary And x (cond_term b)) bs

conds_joined : (b : Base) (bs : List Base) → joined (part_at cond_term 4 (length (b ∷ bs))) (codes "where (") (codes " && ") 0 (b ∷ bs) ++ codes ") " ≡ where_text (conds_tree (b ∷ bs))
conds_joined b bs =
    ap (λ (l : List ℕ). l ++ codes ") ") (joined_chain (binary And) 4 (codes " && ") (λ x y. refl) (λ x y. refl) cond_term (codes "where (") b bs)
    ∙ append_assoc (codes "where (") (text_of (chain (binary And) (cond_term b) (map cond_term bs))) (codes ") ")
    ∙ ap (λ s. codes "where (" ++ (text_of s ++ codes ") ")) (sym (and_chain (cond_term b) bs))

-- conditions, of which there is one
pub conds_written : (bs : List Base) (start old new : List ℕ) → (length bs == 0) ≡ false → new ≡ old ++ codes ") " → old ≡ start ++ joined (part_at cond_term 4 (length bs)) (codes "where (") (codes " && ") 0 bs
    → new ≡ start ++ where_text (conds_tree bs)
conds_written [] start old new some e f = absurd (cc)
conds_written (b ∷ bs) start old new some e f =
    e ∙ ap (λ (l : List ℕ). l ++ codes ") ") f
    ∙ append_assoc start (joined (part_at cond_term 4 (length (b ∷ bs))) (codes "where (") (codes " && ") 0 (b ∷ bs)) (codes ") ")
    ∙ ap (λ (l : List ℕ). start ++ l) (conds_joined b bs)

pub tests_chain : (s : NamedTerm) (ts : List Test) → tests_then s (tests_of (map test_part ts)) ≡ chain union s (map test_term ts)
tests_chain s [] = refl
tests_chain s (t ∷ ts) =
    ap (λ (p : TestPart). tests_then s (test p.gens p.conds (tests_of (map test_part ts)))) (test_is t) ∙ tests_chain (union s (test_term t)) ts

tests_joined : (t : Test) (ts : List Test) → joined (part_at test_term 2 (length (t ∷ ts))) [] (codes " ++ ") 0 (t ∷ ts) ≡ text_of (named_tests (tests_of (map test_part (t ∷ ts))))
tests_joined t ts =
    joined_chain union 2 (codes " ++ ") (λ x y. refl) (λ x y. refl) test_term [] t ts
    ∙ ap text_of (sym (tests_chain (test_term t) ts))
    ∙ ap (λ (p : TestPart). text_of (named_tests (test p.gens p.conds (tests_of (map test_part ts))))) (sym (test_is t))

pub tests_written : (ts : List Test) → (length ts == 0) ≡ false → joined (part_at test_term 2 (length ts)) [] (codes " ++ ") 0 ts ≡ text_of (named_tests (tests_of (map test_part ts)))
tests_written [] e = absurd (cc)
tests_written (t ∷ ts) e = tests_joined t ts

pub comps_chain : (s : NamedTerm) (cs : List Comp) → comps_then s (comps_of (map comp_part cs)) ≡ chain union s (map whole_term cs)
comps_chain s [] = refl
comps_chain s (c ∷ cs) =
    ap (λ (p : CompPart). comps_then s (comp p.tag p.gens p.conds p.body (comps_of (map comp_part cs)))) (comp_is c) ∙ comps_chain (union s (whole_term c)) cs

comps_joined : (a : TypeTree) (c : Comp) (cs : List Comp) → joined (part_at whole_term 2 (length (c ∷ cs))) [] (codes " ++ ") 0 (c ∷ cs) ≡ text_of (named_comps a (comps_of (map comp_part (c ∷ cs))))
comps_joined a c cs =
    joined_chain union 2 (codes " ++ ") (λ x y. refl) (λ x y. refl) whole_term [] c cs
    ∙ ap text_of (sym (comps_chain (whole_term c) cs))
    ∙ ap (λ (p : CompPart). text_of (named_comps a (comp p.tag p.gens p.conds p.body (comps_of (map comp_part cs))))) (sym (comp_is c))

pub comps_written : (n : Normal) (cs : List Comp) → cs ≡ (out-Normal n).parts → ((out-Normal n).parts ≡ [] → ⊥) → joined (part_at whole_term 2 (length cs)) [] (codes " ++ ") 0 cs ≡ text_of (named_form (form_tree n))
comps_written n [] is e = absurd (e (sym is))
comps_written n (c ∷ cs) is e =
    comps_joined (type_tree (out-Normal n).element) c cs
    ∙ ap (λ (ds : List Comp). text_of (named_comps (type_tree (out-Normal n).element) (comps_of (map comp_part ds)))) is
    ∙ ap (λ form. text_of (named_form form)) (sym (form_is n))

-- a count is asked of one comprehension
pub named_count : (t : Test) → named_base (base_tree (base.Count t)) ≡ aggregate Count (test_term t)
named_count t = ap named_base (base_count t) ∙ ap (λ (p : TestPart). aggregate Count (comp_term p.gens p.conds (rec no_field))) (test_is t)

-- generators and conditions before a body
under_text : (gens : List Gen) (s : NamedTerm) → text_of (under_gens gens s) ≡ gens_text gens ++ text_of s
under_text [] s = refl
under_text (g ∷ gens) s =
    ap (λ (l : List ℕ). codes "for (" ++ (name_text g.number ++ (codes " <- " ++ ((codes "table " ++ g.table) ++ (codes ") " ++ l))))) (under_text gens s) ∙ (simp append_assoc)

where_text_is : (bs : Conds) (s : NamedTerm) → text_of (named_where bs s) ≡ where_text bs ++ text_of s
where_text_is no_cond s = refl
where_text_is (and_cond b bs) s = simp append_assoc

-- a comprehension: generators, conditions, and then its body
pub head_text : (gens : List Gen) (conds : Conds) (body : NamedTerm) (old a b c d : List ℕ) → a ≡ old ++ gens_text gens → b ≡ a ++ where_text conds → c ≡ b ++ d → d ≡ text_of (single body)
    → c ≡ old ++ text_of (comp_term gens conds body)
head_text gens conds body old a b c d p q r s =
    r ∙ ap (λ (l : List ℕ). l ++ d) (q ∙ ap (λ (l : List ℕ). l ++ where_text conds) p)
    ∙ (simp append_assoc)
    ∙ ap (λ (l : List ℕ). old ++ (gens_text gens ++ (where_text conds ++ l))) s
    ∙ ap (λ (l : List ℕ). old ++ (gens_text gens ++ l)) (sym (where_text_is conds (single body)))
    ∙ ap (λ (l : List ℕ). old ++ l) (sym (under_text gens (named_where conds (single body))))

-- what a sum goes over, and then its value
pub over_written : (t : Test) (old a b new : List ℕ) → a ≡ old ++ codes "sum(" → b ≡ a ++ gens_text t.gens → new ≡ b ++ where_text (conds_tree t.conds)
    → new ≡ old ++ (codes "sum(" ++ (gens_text (test_part t).gens ++ where_text (test_part t).conds))
over_written t old a b new p q r =
    r ∙ ap (λ (l : List ℕ). l ++ where_text (conds_tree t.conds)) (q ∙ ap (λ (l : List ℕ). l ++ gens_text t.gens) p)
    ∙ (simp append_assoc)
    ∙ ap (λ (x : TestPart). old ++ (codes "sum(" ++ (gens_text x.gens ++ where_text x.conds))) (sym (test_is t))

sum_text : (t : Test) (b : Box Base Global) → text_of (named_base (base_tree (base.Sum t b)))
    ≡ codes "sum(" ++ (gens_text (test_part t).gens ++ (where_text (test_part t).conds ++ (codes "[" ++ (text_of (named_base (base_tree b.value)) ++ codes "])"))))
sum_text t b =
    let gens = (test_part t).gens in
    let conds = (test_part t).conds in
    let value = named_base (base_tree b.value) in
    ap (λ x. text_of (named_base x)) (base_sum t b)
    ∙ ap (λ (l : List ℕ). codes "sum(" ++ (l ++ codes ")")) (under_text gens (named_where conds (single value)) ∙ ap (λ (l : List ℕ). gens_text gens ++ l) (where_text_is conds (single value)))
    ∙ sum_pieces (codes "sum(") (gens_text gens) (where_text conds) (codes "[") (text_of value) (codes "]") (codes ")")
  where
    sum_pieces : (p g w b v c d : List ℕ) → p ++ ((g ++ (w ++ (b ++ (v ++ c)))) ++ d) ≡ p ++ (g ++ (w ++ (b ++ (v ++ (c ++ d)))))
    sum_pieces p g w b v c d = simp append_assoc

pub sum_written : (x : Base) (t : Test) (b : Box Base Global) (v : Base) (old a new : List ℕ) → x ≡ base.Sum t b → v ≡ b.value
    → a ≡ old ++ (codes "sum(" ++ (gens_text (test_part t).gens ++ where_text (test_part t).conds))
    → new ≡ a ++ (codes "[" ++ (text_of (named_base (base_tree v)) ++ codes "])")) → new ≡ old ++ text_of (named_base (base_tree x))
sum_written x t b v old a new is at p q =
    q ∙ ap (λ (l : List ℕ). l ++ (codes "[" ++ (text_of (named_base (base_tree v)) ++ codes "])"))) p
    ∙ pieces old (codes "sum(") (gens_text (test_part t).gens) (where_text (test_part t).conds) (codes "[" ++ (text_of (named_base (base_tree v)) ++ codes "])"))
    ∙ ap (λ z. old ++ (codes "sum(" ++ (gens_text (test_part t).gens ++ (where_text (test_part t).conds ++ (codes "[" ++ (text_of (named_base (base_tree z)) ++ codes "])")))))) at
    ∙ ap (λ (l : List ℕ). old ++ l) (sym (sum_text t b))
    ∙ ap (λ z. old ++ text_of (named_base (base_tree z))) (sym is)
  where
    pieces : (old p g w r : List ℕ) → (old ++ (p ++ (g ++ w))) ++ r ≡ old ++ (p ++ (g ++ (w ++ r)))
    pieces old p g w r = simp append_assoc

-- three pieces, one after another
pub three_pieces : (old mid last new p q r : List ℕ) → mid ≡ old ++ p → last ≡ mid ++ q → new ≡ last ++ r → new ≡ old ++ (p ++ (q ++ r))
three_pieces old mid last new p q r e f g =
    g ∙ ap (λ (l : List ℕ). l ++ r) (f ∙ ap (λ (l : List ℕ). l ++ q) e) ∙ (simp append_assoc)

-- fields behind a `(`
abbrev pub field_text : ℕ → List ℕ × Body → List ℕ
field_text place f = f.0 ++ (codes " = " ++ text_of (named_body (body_tree f.1)))

abbrev pub bodies_view : List (List ℕ × Body) → NamedFields
bodies_view fs = named_fields (bodies_of (map (λ f. (f.0, body_tree f.1)) fs))

further_fields : (place : ℕ) (fs : List (List ℕ × Body)) → joined field_text [] (codes ", ") (suc place) fs ++ codes ")" ≡ more_text (bodies_view fs)
further_fields place [] = refl
further_fields place (f ∷ fs) =
    ap (λ k. (codes ", " ++ (field_text place f ++ joined field_text [] (codes ", ") k fs)) ++ codes ")") (suc_is (suc place))
    ∙ (simp append_assoc)
    ∙ ap (λ (l : List ℕ). codes ", " ++ (f.0 ++ (codes " = " ++ (text_of (named_body (body_tree f.1)) ++ l)))) (further_fields (suc place) fs)

pub fields_joined : (fs : List (List ℕ × Body)) → codes "(" ++ (joined field_text [] (codes ", ") 0 fs ++ codes ")") ≡ text_of (rec (bodies_view fs))
fields_joined [] = refl
fields_joined (f ∷ fs) =
    (simp append_assoc) ∙ ap (λ (l : List ℕ). codes "(" ++ (f.0 ++ (codes " = " ++ (text_of (named_body (body_tree f.1)) ++ l)))) (further_fields 0 fs)

-- fields of a type behind a `(`
abbrev pub field_type_text : ℕ → List ℕ × Ty → List ℕ
field_type_text place f = f.0 ++ (codes ": " ++ type_text (type_tree f.1))

further_types : (place : ℕ) (fs : List (List ℕ × Ty)) → joined field_type_text [] (codes ", ") (suc place) fs ++ codes ")" ≡ more_types (field_types_of (fields_view fs))
further_types place [] = refl
further_types place (f ∷ fs) =
    ap (λ k. (codes ", " ++ (field_type_text place f ++ joined field_type_text [] (codes ", ") k fs)) ++ codes ")") (suc_is (suc place))
    ∙ (simp append_assoc)
    ∙ ap (λ (l : List ℕ). codes ", " ++ (f.0 ++ (codes ": " ++ (type_text (type_tree f.1) ++ l)))) (further_types (suc place) fs)

pub types_joined : (fs : List (List ℕ × Ty)) → codes "(" ++ (joined field_type_text [] (codes ", ") 0 fs ++ codes ")") ≡ type_text (TypeTree.rec (field_types_of (fields_view fs)))
types_joined [] = refl
types_joined (f ∷ fs) =
    (simp append_assoc) ∙ ap (λ (l : List ℕ). codes "(" ++ (f.0 ++ (codes ": " ++ (type_text (type_tree f.1) ++ l)))) (further_types 0 fs)
