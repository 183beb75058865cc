-- Proper types and terms, closed terms, and plain terms.
use Rattle.std.specs.Prelude.{◌≡◌, ℕ, ◌+◌, ◌<◌, ◌≤◌, ◌^◌, ℤ, pos, ⊤, List, [], ◌∷◌, length}
use Rattle.nq_model.specs.SchemaTokens.{IsWord}
use Rattle.nq_model.specs.Orders.{AreDistinct, AreRising}
use Rattle.nq_model.specs.Types.{TypeTree, FieldTypes}
use Rattle.nq_model.specs.Terms.{TermTree, TermFields}
use Rattle.nq_model.specs.Typing.{HasType}
use Rattle.nq_model.specs.declared.table.Schema.{Schema}

-- a label or name that a query text can spell: a word of at most 64 bytes
pub record IsQueryWord (name : List ℕ) : Type 0 where
  pub word : IsWord name
  pub short : length name ≤ 64

abbrev pub labels_of : FieldTypes → List (List ℕ)
labels_of FieldTypes.none = []
labels_of (FieldTypes.field l t fields) = l ∷ labels_of fields

-- the labels of each record in the type differ and stand in byte order
abbrev mutual
  pub IsOrdered : TypeTree → Type 0
  IsOrdered TypeTree.int = ⊤
  IsOrdered TypeTree.bool = ⊤
  IsOrdered TypeTree.text = ⊤
  IsOrdered (TypeTree.rec fields) = AreRising (labels_of fields) × AreOrdered fields
  IsOrdered (TypeTree.bag a) = IsOrdered a
  IsOrdered (TypeTree.fun a b) = IsOrdered a × IsOrdered b

  pub AreOrdered : FieldTypes → Type 0
  AreOrdered FieldTypes.none = ⊤
  AreOrdered (FieldTypes.field l t fields) = IsOrdered t × AreOrdered fields

-- each label in the type is one that a query can spell
abbrev mutual
  pub HasWords : TypeTree → Type 0
  HasWords TypeTree.int = ⊤
  HasWords TypeTree.bool = ⊤
  HasWords TypeTree.text = ⊤
  HasWords (TypeTree.rec fields) = HaveWords fields
  HasWords (TypeTree.bag a) = HasWords a
  HasWords (TypeTree.fun a b) = HasWords a × HasWords b

  pub HaveWords : FieldTypes → Type 0
  HaveWords FieldTypes.none = ⊤
  HaveWords (FieldTypes.field l t fields) = IsQueryWord l × HasWords t × HaveWords fields

-- a type that stands in a proper term
pub record IsProperType (a : TypeTree) : Type 0 where
  pub ordered : IsOrdered a
  pub words : HasWords a

-- a number that a query can spell, from 0 to 2^63 - 1
pub record IsNumeral (n : ℤ) : Type 0 where
  pub digits : ℕ
  pub value : n ≡ pos digits
  pub small : digits < 2 ^ 63

abbrev pub field_labels : TermFields → List (List ℕ)
field_labels TermFields.none = []
field_labels (TermFields.with_field l t fs) = l ∷ field_labels fs

-- the labels of each record differ, labels and table names are words of at most 64 bytes, numbers have 63 bits
abbrev mutual
  pub IsProperTerm : TermTree → Type 0
  IsProperTerm (TermTree.var k) = ⊤
  IsProperTerm (TermTree.int n) = IsNumeral n
  IsProperTerm (TermTree.bool b) = ⊤
  IsProperTerm (TermTree.text t) = ⊤
  IsProperTerm (TermTree.table l) = IsQueryWord l
  IsProperTerm (TermTree.unary op t) = IsProperTerm t
  IsProperTerm (TermTree.binary op t u) = IsProperTerm t × IsProperTerm u
  IsProperTerm (TermTree.choose x t u) = IsProperTerm x × IsProperTerm t × IsProperTerm u
  IsProperTerm (TermTree.fun a t) = IsProperType a × IsProperTerm t
  IsProperTerm (TermTree.apply t u) = IsProperTerm t × IsProperTerm u
  IsProperTerm (TermTree.rec fs) = AreDistinct (field_labels fs) × AreProperTerms fs
  IsProperTerm (TermTree.field t l) = IsProperTerm t × IsQueryWord l
  IsProperTerm (TermTree.aggregate g t) = IsProperTerm t
  IsProperTerm (TermTree.single t) = IsProperTerm t
  IsProperTerm (TermTree.nil a) = IsProperType a
  IsProperTerm (TermTree.union t u) = IsProperTerm t × IsProperTerm u
  IsProperTerm (TermTree.for t u) = IsProperTerm t × IsProperTerm u
  IsProperTerm (TermTree.guard x u) = IsProperTerm x × IsProperTerm u
  IsProperTerm (TermTree.bind t u) = IsProperTerm t × IsProperTerm u

  pub AreProperTerms : TermFields → Type 0
  AreProperTerms TermFields.none = ⊤
  AreProperTerms (TermFields.with_field l t fs) = IsQueryWord l × IsProperTerm t × AreProperTerms fs

-- each variable names a binder in the term, or one of the n binders round it
abbrev mutual
  pub IsClosedUnder : ℕ → TermTree → Type 0
  IsClosedUnder n (TermTree.var k) = k < n
  IsClosedUnder n (TermTree.int m) = ⊤
  IsClosedUnder n (TermTree.bool b) = ⊤
  IsClosedUnder n (TermTree.text t) = ⊤
  IsClosedUnder n (TermTree.table l) = ⊤
  IsClosedUnder n (TermTree.unary op t) = IsClosedUnder n t
  IsClosedUnder n (TermTree.binary op t u) = IsClosedUnder n t × IsClosedUnder n u
  IsClosedUnder n (TermTree.choose x t u) = IsClosedUnder n x × IsClosedUnder n t × IsClosedUnder n u
  IsClosedUnder n (TermTree.fun a t) = IsClosedUnder (n + 1) t
  IsClosedUnder n (TermTree.apply t u) = IsClosedUnder n t × IsClosedUnder n u
  IsClosedUnder n (TermTree.rec fs) = AreClosedUnder n fs
  IsClosedUnder n (TermTree.field t l) = IsClosedUnder n t
  IsClosedUnder n (TermTree.aggregate g t) = IsClosedUnder n t
  IsClosedUnder n (TermTree.single t) = IsClosedUnder n t
  IsClosedUnder n (TermTree.nil a) = ⊤
  IsClosedUnder n (TermTree.union t u) = IsClosedUnder n t × IsClosedUnder n u
  IsClosedUnder n (TermTree.for t u) = IsClosedUnder n t × IsClosedUnder (n + 1) u
  IsClosedUnder n (TermTree.guard x u) = IsClosedUnder n x × IsClosedUnder n u
  IsClosedUnder n (TermTree.bind t u) = IsClosedUnder n t × IsClosedUnder (n + 1) u

  pub AreClosedUnder : ℕ → TermFields → Type 0
  AreClosedUnder n TermFields.none = ⊤
  AreClosedUnder n (TermFields.with_field l t fs) = IsClosedUnder n t × AreClosedUnder n fs

-- each variable names a binder in the term
abbrev pub IsClosed : TermTree → Type 0
IsClosed t = IsClosedUnder 0 t

-- no function, application or `let` stands in the term
abbrev mutual
  pub IsPlainTerm : TermTree → Type 0
  IsPlainTerm (TermTree.var k) = ⊤
  IsPlainTerm (TermTree.int n) = ⊤
  IsPlainTerm (TermTree.bool b) = ⊤
  IsPlainTerm (TermTree.text t) = ⊤
  IsPlainTerm (TermTree.table l) = ⊤
  IsPlainTerm (TermTree.unary op t) = IsPlainTerm t
  IsPlainTerm (TermTree.binary op t u) = IsPlainTerm t × IsPlainTerm u
  IsPlainTerm (TermTree.choose x t u) = IsPlainTerm x × IsPlainTerm t × IsPlainTerm u
  IsPlainTerm (TermTree.fun a t) = ⊥
  IsPlainTerm (TermTree.apply t u) = ⊥
  IsPlainTerm (TermTree.rec fs) = ArePlainTerms fs
  IsPlainTerm (TermTree.field t l) = IsPlainTerm t
  IsPlainTerm (TermTree.aggregate g t) = IsPlainTerm t
  IsPlainTerm (TermTree.single t) = IsPlainTerm t
  IsPlainTerm (TermTree.nil a) = ⊤
  IsPlainTerm (TermTree.union t u) = IsPlainTerm t × IsPlainTerm u
  IsPlainTerm (TermTree.for t u) = IsPlainTerm t × IsPlainTerm u
  IsPlainTerm (TermTree.guard x u) = IsPlainTerm x × IsPlainTerm u
  IsPlainTerm (TermTree.bind t u) = ⊥

  pub ArePlainTerms : TermFields → Type 0
  ArePlainTerms TermFields.none = ⊤
  ArePlainTerms (TermFields.with_field l t fs) = IsPlainTerm t × ArePlainTerms fs

-- the term has a type, and no function, application or `let` stands in it
pub record IsTypedPlainTerm (schema : Schema) (context : List TypeTree) (t : TermTree) : Type 0 where
  pub type : TypeTree
  pub typed : HasType schema context t type
  pub plain : IsPlainTerm t
