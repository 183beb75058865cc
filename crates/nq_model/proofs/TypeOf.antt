-- The computed type is the type by the rules.
use Rattle.std.proofs.Common.{◌≡◌, ◌&&◌, Bool, true, false, List, ◌∷◌, Option, Some, None, refl, ap, sym, ◌∙◌}
use Rattle.nq_model.specs.Types.{TypeTree, FieldTypes, type_eq, is_plain, is_well_formed}
use Rattle.nq_model.specs.Terms.{TermTree, TermFields}
use Rattle.nq_model.specs.Tables.{base_type, table_type}
use Rattle.nq_model.specs.Operators.{unary_type, binary_type}
use Rattle.nq_model.specs.Typing.{HasType, HaveTypes, shape_named}
use Rattle.nq_model.specs.TypeOf.{type_of, types_of, and_then, when, base_of, element_of, fields_in, sides_of, unary_given, binary_given, choice_given, application_given, bag_given, union_given, body_given, guard_given}
use Rattle.nq_model.proofs.Types.{and_split, type_eq_self, type_eq_true}
use Rattle.nq_model.specs.declared.term.Unary.{Unary}
use Rattle.nq_model.specs.declared.term.Binary.{Binary}
use Rattle.nq_model.specs.declared.table.ColumnType.{ColumnType}
use Rattle.nq_model.specs.declared.table.ColumnType.TheVariants as column
use Rattle.nq_model.specs.declared.table.Schema.{Schema}

-- what a computed type that is there tells
pub and_then_some : {A B : Type 0} (o : Option A) (f : A → Option B) (b : B) → and_then o f ≡ Some b → (a : A) × (o ≡ Some a) × (f a ≡ Some b)
and_then_some None f b e = cc
and_then_some (Some a) f b e = (a, refl, e)

pub when_some : {A : Type 0} (t : Bool) (a b : A) → when t a ≡ Some b → (t ≡ true) × (a ≡ b)
when_some true a b e = (refl, cc)
when_some false a b e = cc

base_some : (a : TypeTree) (b : ColumnType) → base_of a ≡ Some b → a ≡ base_type b
base_some TypeTree.int b e = let h : column.Int ≡ b = cc in ap base_type h
base_some TypeTree.bool b e = let h : column.Bool ≡ b = cc in ap base_type h
base_some TypeTree.text b e = let h : column.Text ≡ b = cc in ap base_type h
base_some _ b e = cc

base_back : (b : ColumnType) → base_of (base_type b) ≡ Some b
base_back column.Int = refl
base_back column.Bool = refl
base_back column.Text = refl

element_some : (a b : TypeTree) → element_of a ≡ Some b → a ≡ TypeTree.bag b
element_some (TypeTree.bag a) b e = cc
element_some _ b e = cc

fields_some : (a : TypeTree) (fields : FieldTypes) → fields_in a ≡ Some fields → a ≡ TypeTree.rec fields
fields_some (TypeTree.rec fs) fields e = cc
fields_some _ fields e = cc

sides_some : (a : TypeTree) (s : TypeTree × TypeTree) → sides_of a ≡ Some s → a ≡ TypeTree.fun s.0 s.1
sides_some (TypeTree.fun a b) s e = let h : (a, b) ≡ s = cc in ap (λ (p : TypeTree × TypeTree). TypeTree.fun p.0 p.1) h
sides_some _ s e = cc

-- what each rule asks
unary_asks : (op : Unary) (a k : TypeTree) → unary_given op a ≡ Some k →
    (x y : ColumnType) × (a ≡ base_type x) × (unary_type op x ≡ Some y) × (k ≡ base_type y)
unary_asks op a k e =
    let x = and_then_some (base_of a) _ k e in
    let y = and_then_some (unary_type op x.0) _ k x.2 in
    let h : base_type y.0 ≡ k = cc (y.2) in
    (x.0, y.0, base_some a x.0 x.1, y.1, sym h)

binary_asks : (op : Binary) (a b k : TypeTree) → binary_given op a b ≡ Some k →
    (x y z : ColumnType) × (a ≡ base_type x) × (b ≡ base_type y) × (binary_type op x y ≡ Some z) × (k ≡ base_type z)
binary_asks op a b k e =
    let x = and_then_some (base_of a) _ k e in
    let y = and_then_some (base_of b) _ k x.2 in
    let z = and_then_some (binary_type op x.0 y.0) _ k y.2 in
    let h : base_type z.0 ≡ k = cc (z.2) in
    (x.0, y.0, z.0, base_some a x.0 x.1, base_some b y.0 y.1, z.1, sym h)

choice_asks : (x a b k : TypeTree) → choice_given x a b ≡ Some k → (x ≡ TypeTree.bool) × (a ≡ k) × (b ≡ k)
choice_asks x a b k e =
    let h = when_some (type_eq x TypeTree.bool && type_eq a b) a k e in
    let s = and_split (type_eq x TypeTree.bool) (type_eq a b) h.0 in
    (type_eq_true x TypeTree.bool s.0, h.1, sym (type_eq_true a b s.1) ∙ h.1)

application_asks : (f a k : TypeTree) → application_given f a ≡ Some k → f ≡ TypeTree.fun a k
application_asks f a k e =
    let s = and_then_some (sides_of f) _ k e in
    let h = when_some (type_eq s.0.0 a) s.0.1 k s.2 in
    let p = type_eq_true s.0.0 a h.0 in
    sides_some f s.0 s.1 ∙ cc (p, h.1)

union_asks : (a b k : TypeTree) → union_given a b ≡ Some k → (e : TypeTree) × (k ≡ TypeTree.bag e) × (a ≡ k) × (b ≡ k)
union_asks a b k h =
    let e = and_then_some (element_of a) _ k h in
    let g = when_some (type_eq a b) a k e.2 in
    (e.0, sym g.1 ∙ element_some a e.0 e.1, g.1, sym (type_eq_true a b g.0) ∙ g.1)

pub body_asks : (b k : TypeTree) → body_given b ≡ Some k → (e : TypeTree) × (k ≡ TypeTree.bag e) × (b ≡ k)
body_asks b k h =
    let e = and_then_some (element_of b) _ k h in
    let g : b ≡ k = cc (e.2) in
    (e.0, sym g ∙ element_some b e.0 e.1, g)

guard_asks : (x b k : TypeTree) → guard_given x b ≡ Some k → (e : TypeTree) × (k ≡ TypeTree.bag e) × (x ≡ TypeTree.bool) × (b ≡ k)
guard_asks x b k h =
    let e = and_then_some (element_of b) _ k h in
    let g = when_some (type_eq x TypeTree.bool) b k e.2 in
    (e.0, sym g.1 ∙ element_some b e.0 e.1, type_eq_true x TypeTree.bool g.0, g.1)

-- what each rule gives
unary_gives : (op : Unary) (x y : ColumnType) → unary_type op x ≡ Some y → unary_given op (base_type x) ≡ Some (base_type y)
unary_gives op x y e = rw (base_back x, e) refl

binary_gives : (op : Binary) (x y z : ColumnType) → binary_type op x y ≡ Some z → binary_given op (base_type x) (base_type y) ≡ Some (base_type z)
binary_gives op x y z e = rw (base_back x, base_back y, e) refl

choice_gives : (k : TypeTree) → choice_given TypeTree.bool k k ≡ Some k
choice_gives k = rw (type_eq_self k) refl

application_gives : (a k : TypeTree) → application_given (TypeTree.fun a k) a ≡ Some k
application_gives a k = rw (type_eq_self a) refl

bag_gives : (a : TypeTree) → is_plain a ≡ true → bag_given a ≡ Some (TypeTree.bag a)
bag_gives a e = rw e refl

union_gives : (e k : TypeTree) → k ≡ TypeTree.bag e → union_given k k ≡ Some k
union_gives e k h = rw (h, type_eq_self e) refl

pub body_gives : (e k : TypeTree) → k ≡ TypeTree.bag e → body_given k ≡ Some k
body_gives e k h = rw h refl

guard_gives : (e k : TypeTree) → k ≡ TypeTree.bag e → guard_given TypeTree.bool k ≡ Some k
guard_gives e k h = rw h refl

some_is : (a b : FieldTypes) → Some a ≡ Some b → a ≡ b
some_is a b e = cc

module _ (schema : Schema) where
  -- a type found for a part is the type that a rule asks of it
  asked : (cx : List TypeTree) (t : TermTree) (a b : TypeTree) → type_of schema cx t ≡ Some a → a ≡ b → type_of schema cx t ≡ Some b
  asked cx t a b e h = e ∙ ap Some h

  mutual
    pub typed : (cx : List TypeTree) (t : TermTree) (k : TypeTree) → type_of schema cx t ≡ Some k → HasType schema cx t k
    typed cx (TermTree.var n) k e = e
    typed cx (TermTree.int n) k e = cc
    typed cx (TermTree.bool b) k e = cc
    typed cx (TermTree.text t) k e = cc
    typed cx (TermTree.table l) k e =
        let h = and_then_some (shape_named l schema.tables) _ k e in
        let g : table_type h.0.columns ≡ k = cc (h.2) in
        (h.0, h.1, sym g)
    typed cx (TermTree.unary op t) k e =
        let a = and_then_some (type_of schema cx t) _ k e in
        let h = unary_asks op a.0 k a.2 in
        (h.0, h.1, typed cx t (base_type h.0) (asked cx t a.0 _ a.1 h.2), h.3, h.4)
    typed cx (TermTree.binary op t u) k e =
        let a = and_then_some (type_of schema cx t) _ k e in
        let b = and_then_some (type_of schema cx u) _ k a.2 in
        let h = binary_asks op a.0 b.0 k b.2 in
        (h.0, h.1, h.2, typed cx t (base_type h.0) (asked cx t a.0 _ a.1 h.3), typed cx u (base_type h.1) (asked cx u b.0 _ b.1 h.4), h.5, h.6)
    typed cx (TermTree.choose x t u) k e =
        let c = and_then_some (type_of schema cx x) _ k e in
        let a = and_then_some (type_of schema cx t) _ k c.2 in
        let b = and_then_some (type_of schema cx u) _ k a.2 in
        let h = choice_asks c.0 a.0 b.0 k b.2 in
        (typed cx x TypeTree.bool (asked cx x c.0 _ c.1 h.0), typed cx t k (asked cx t a.0 _ a.1 h.1), typed cx u k (asked cx u b.0 _ b.1 h.2))
    typed cx (TermTree.fun a t) k e =
        let p = and_then_some (when (is_well_formed a) a) _ k e in
        let w = when_some (is_well_formed a) a p.0 p.1 in
        let b = and_then_some (type_of schema (a ∷ cx) t) _ k p.2 in
        let g : TypeTree.fun a b.0 ≡ k = cc (b.2) in
        (b.0, w.0, typed (a ∷ cx) t b.0 b.1, sym g)
    typed cx (TermTree.apply t u) k e =
        let f = and_then_some (type_of schema cx t) _ k e in
        let a = and_then_some (type_of schema cx u) _ k f.2 in
        (a.0, typed cx t (TypeTree.fun a.0 k) (asked cx t f.0 _ f.1 (application_asks f.0 a.0 k a.2)), typed cx u a.0 a.1)
    typed cx (TermTree.rec fs) k e =
        let fields = and_then_some (types_of schema cx fs) _ k e in
        let g : TypeTree.rec fields.0 ≡ k = cc (fields.2) in
        (fields.0, all_typed cx fs fields.0 fields.1, sym g)
    typed cx (TermTree.field t l) k e =
        let a = and_then_some (type_of schema cx t) _ k e in
        let fields = and_then_some (fields_in a.0) _ k a.2 in
        (fields.0, typed cx t (TypeTree.rec fields.0) (asked cx t a.0 _ a.1 (fields_some a.0 fields.0 fields.1)), fields.2)
    typed cx (TermTree.aggregate g t) k e =
        let a = and_then_some (type_of schema cx t) _ k e in
        let el = and_then_some (element_of a.0) _ k a.2 in
        (el.0, typed cx t (TypeTree.bag el.0) (asked cx t a.0 _ a.1 (element_some a.0 el.0 el.1)), el.2)
    typed cx (TermTree.single t) k e =
        let a = and_then_some (type_of schema cx t) _ k e in
        let h = when_some (is_plain a.0) (TypeTree.bag a.0) k a.2 in
        (a.0, typed cx t a.0 a.1, h.0, sym h.1)
    typed cx (TermTree.nil a) k e = let h = when_some (is_plain a) (TypeTree.bag a) k e in (h.0, sym h.1)
    typed cx (TermTree.union t u) k e =
        let a = and_then_some (type_of schema cx t) _ k e in
        let b = and_then_some (type_of schema cx u) _ k a.2 in
        let h = union_asks a.0 b.0 k b.2 in
        (h.0, h.1, typed cx t k (asked cx t a.0 _ a.1 h.2), typed cx u k (asked cx u b.0 _ b.1 h.3))
    typed cx (TermTree.for t u) k e =
        let a = and_then_some (type_of schema cx t) _ k e in
        let el = and_then_some (element_of a.0) _ k a.2 in
        let b = and_then_some (type_of schema (el.0 ∷ cx) u) _ k el.2 in
        let h = body_asks b.0 k b.2 in (
          el.0,
          h.0,
          typed cx t (TypeTree.bag el.0) (asked cx t a.0 _ a.1 (element_some a.0 el.0 el.1)),
          typed (el.0 ∷ cx) u k (asked (el.0 ∷ cx) u b.0 _ b.1 h.2),
          h.1,
        )
    typed cx (TermTree.guard x u) k e =
        let c = and_then_some (type_of schema cx x) _ k e in
        let b = and_then_some (type_of schema cx u) _ k c.2 in
        let h = guard_asks c.0 b.0 k b.2 in
        (h.0, typed cx x TypeTree.bool (asked cx x c.0 _ c.1 h.2), typed cx u k (asked cx u b.0 _ b.1 h.3), h.1)
    typed cx (TermTree.bind t u) k e =
        let a = and_then_some (type_of schema cx t) _ k e in
        (a.0, typed cx t a.0 a.1, typed (a.0 ∷ cx) u k a.2)

    pub all_typed : (cx : List TypeTree) (fs : TermFields) (fields : FieldTypes) → types_of schema cx fs ≡ Some fields → HaveTypes schema cx fs fields
    all_typed cx TermFields.none fields e = let g : FieldTypes.none ≡ fields = cc (e) in sym g
    all_typed cx (TermFields.with_field l t fs) fields e =
        let k = and_then_some (type_of schema cx t) _ fields e in
        let rest = and_then_some (types_of schema cx fs) _ fields k.2 in
        let g = some_is _ fields rest.2 in
        (k.0, rest.0, typed cx t k.0 k.1, all_typed cx fs rest.0 rest.1, sym g)

  mutual
    pub has_type : (cx : List TypeTree) (t : TermTree) (k : TypeTree) → HasType schema cx t k → type_of schema cx t ≡ Some k
    has_type cx (TermTree.var n) k h = h
    has_type cx (TermTree.int n) k h = ap Some (sym h)
    has_type cx (TermTree.bool b) k h = ap Some (sym h)
    has_type cx (TermTree.text t) k h = ap Some (sym h)
    has_type cx (TermTree.table l) k h = rw h.1 (ap Some (sym h.2))
    has_type cx (TermTree.unary op t) k h =
        rw (has_type cx t (base_type h.0) h.2) (unary_gives op h.0 h.1 h.3 ∙ ap Some (sym h.4))
    has_type cx (TermTree.binary op t u) k h =
        rw (has_type cx t (base_type h.0) h.3, has_type cx u (base_type h.1) h.4) (binary_gives op h.0 h.1 h.2 h.5 ∙ ap Some (sym h.6))
    has_type cx (TermTree.choose x t u) k h =
        rw (has_type cx x TypeTree.bool h.0, has_type cx t k h.1, has_type cx u k h.2) (choice_gives k)
    has_type cx (TermTree.fun a t) k h = rw (h.1, has_type (a ∷ cx) t h.0 h.2) (ap Some (sym h.3))
    has_type cx (TermTree.apply t u) k h = rw (has_type cx t (TypeTree.fun h.0 k) h.1, has_type cx u h.0 h.2) (application_gives h.0 k)
    has_type cx (TermTree.rec fs) k h = rw (all_have cx fs h.0 h.1) (ap Some (sym h.2))
    has_type cx (TermTree.field t l) k h = rw (has_type cx t (TypeTree.rec h.0) h.1) h.2
    has_type cx (TermTree.aggregate g t) k h = rw (has_type cx t (TypeTree.bag h.0) h.1) h.2
    has_type cx (TermTree.single t) k h = rw (has_type cx t h.0 h.1) (bag_gives h.0 h.2 ∙ ap Some (sym h.3))
    has_type cx (TermTree.nil a) k h = bag_gives a h.0 ∙ ap Some (sym h.1)
    has_type cx (TermTree.union t u) k h = rw (has_type cx t k h.2, has_type cx u k h.3) (union_gives h.0 k h.1)
    has_type cx (TermTree.for t u) k h = rw (has_type cx t (TypeTree.bag h.0) h.2, has_type (h.0 ∷ cx) u k h.3) (body_gives h.1 k h.4)
    has_type cx (TermTree.guard x u) k h = rw (has_type cx x TypeTree.bool h.1, has_type cx u k h.2) (guard_gives h.0 k h.3)
    has_type cx (TermTree.bind t u) k h = rw (has_type cx t h.0 h.1) (has_type (h.0 ∷ cx) u k h.2)

    pub all_have : (cx : List TypeTree) (fs : TermFields) (fields : FieldTypes) → HaveTypes schema cx fs fields → types_of schema cx fs ≡ Some fields
    all_have cx TermFields.none fields h = ap Some (sym h)
    all_have cx (TermFields.with_field l t fs) fields h = rw (has_type cx t h.0 h.2, all_have cx fs h.1 h.3) (ap Some (sym h.4))
