-- A choice between wrapped bodies of one type.
use Rattle.std.proofs.Common.{◌≡◌, List, [], ◌++◌, refl, sym, ◌∙◌, subst, Bool, true, false, cond, not, append-nil}
use Rattle.nq_model.proofs.Bags.{matched_weaker, reordered_append}
use Rattle.nq_model.proofs.Sameness.{same_refl, same_bag}
use Rattle.nq_model.specs.Bags.{Reordered}
use Rattle.nq_model.specs.NamedRows.{Label, Row}
use Rattle.nq_model.specs.Operators.{is_true}
use Rattle.nq_model.specs.Types.{TypeTree, FieldTypes}
use Rattle.nq_model.specs.Values.{Nested, base, rec, Fields, field, bag_of, Same, SameFields}
use Rattle.nq_model.specs.declared.table.TableShape.{TableShape}
use Rattle.nq_model.specs.declared.term.Unary.TheVariants.{Not}
use Rattle.nq_ir.proofs.RawChoices.{where_means}
use Rattle.nq_ir.proofs.RawMeanings.{raw_value, raw_meaning, raw_fields_meaning, raw_comps_meaning, append_means}
use Rattle.nq_ir.proofs.RawTypes.{RawBodyHas, RawFieldsHave, not_record, not_bag, mixed}
use Rattle.nq_ir.specs.Meanings.{Tables}
use Rattle.nq_ir.specs.RawForms.{RawBase, raw_unary, RawBody, raw_plain, raw_rec, raw_bag, RawFields, no_raw_field, raw_field, RawComps, append_raw, where_raw, choice, choice_of_fields}
use Rattle.traced_meaning.proofs.Wrapped.{wrapped, wrapped_fields, wrapped_comps}

same_of : (xs ys : List Nested) → Reordered xs ys → Same (bag_of xs) (bag_of ys)
same_of xs ys r = same_bag xs ys (matched_weaker (λ x y. x ≡ y) Same
    (λ x y e. subst (Same x) e (same_refl x)) xs ys r)

module _ (ts : Tables) (x : RawBase) (env : List Row) where
  -- a choice between comprehensions: those of the one side under the condition, those of the other
  -- under its negation
  bags_chosen : (cs ds : RawComps) → Same (cond (is_true (raw_value ts x env))
      (bag_of (raw_comps_meaning ts cs env)) (bag_of (raw_comps_meaning ts ds env)))
      (bag_of (raw_comps_meaning ts (append_raw (where_raw x cs)
      (where_raw (raw_unary Not x) ds)) env))
  bags_chosen cs ds =
      let t = is_true (raw_value ts x env) in
      let xs = raw_comps_meaning ts cs env in
      let ys = raw_comps_meaning ts ds env in
      let l = raw_comps_meaning ts (where_raw x cs) env in
      let r = raw_comps_meaning ts (where_raw (raw_unary Not x) ds) env in
      let two : Reordered (cond t xs [] ++ cond (not t) ys []) (l ++ r)
      = reordered_append (cond t xs []) (cond (not t) ys []) l r (where_means ts x cs env)
      (where_means ts (raw_unary Not x) ds env) in
      go t xs ys (raw_comps_meaning ts (append_raw (where_raw x cs)
      (where_raw (raw_unary Not x) ds)) env)
      (subst (λ (z : List Nested). Reordered (cond t xs [] ++ cond (not t) ys []) z)
      (sym (append_means ts (where_raw x cs) (where_raw (raw_unary Not x) ds) env)) two)
    where
      go : (t : Bool) (xs ys zs : List Nested) → Reordered (cond t xs [] ++ cond (not t) ys []) zs
          → Same (cond t (bag_of xs) (bag_of ys)) (bag_of zs)
      go true xs ys zs i = same_of xs zs (subst (λ (z : List Nested). Reordered z zs)
          (append-nil xs) i)
      go false xs ys zs i = same_of ys zs i

  mutual
    pub choice_traced : (S : List TableShape) (sc : List Label) (a b : RawBody) (A : TypeTree)
        → RawBodyHas S sc a A → RawBodyHas S sc b A → Same
        (cond (is_true (raw_value ts x env)) (raw_meaning ts (wrapped a) env)
        (raw_meaning ts (wrapped b) env)) (raw_meaning ts (choice x (wrapped a) (wrapped b)) env)
    choice_traced S sc (raw_plain a) (raw_plain b) A g h = go (is_true (raw_value ts x env))
      where
        go : (t : Bool) → Same (cond t (base (raw_value ts a env)) (base (raw_value ts b env)))
            (base (cond t (raw_value ts a env) (raw_value ts b env)))
        go true = refl
        go false = refl
    choice_traced S sc (raw_plain a) (raw_rec gs) A g h = absurd (not_record A g.0 h.0 g.2 h.2)
    choice_traced S sc (raw_plain a) (raw_bag ds) A g h = absurd (not_bag A g.0 h.0 g.2 h.2)
    choice_traced S sc (raw_rec fs) (raw_plain b) A g h = absurd (not_record A h.0 g.0 h.2 g.2)
    choice_traced S sc (raw_rec fs) (raw_rec gs) A g h =
        let u : TypeTree.rec h.0 ≡ TypeTree.rec g.0 = sym h.2 ∙ g.2 in
        let v : h.0 ≡ g.0 = cc in
        go (is_true (raw_value ts x env)) (fields_traced S sc fs gs g.0 g.1
        (subst (λ (z : FieldTypes). RawFieldsHave S sc gs z) v h.1))
      where
        go : (t : Bool) → SameFields (cond t (raw_fields_meaning ts (wrapped_fields fs) env)
            (raw_fields_meaning ts (wrapped_fields gs) env))
            (raw_fields_meaning ts (choice_of_fields x (wrapped_fields fs) (wrapped_fields gs)) env)
            → Same (cond t (rec (raw_fields_meaning ts (wrapped_fields fs) env))
            (rec (raw_fields_meaning ts (wrapped_fields gs) env)))
            (rec (raw_fields_meaning ts (choice_of_fields x (wrapped_fields fs)
            (wrapped_fields gs)) env))
        go true i = i
        go false i = i
    choice_traced S sc (raw_rec fs) (raw_bag ds) A g h = absurd (mixed g.0 A h.0 g.2 h.2)
    choice_traced S sc (raw_bag cs) (raw_plain b) A g h = absurd (not_bag A h.0 g.0 h.2 g.2)
    choice_traced S sc (raw_bag cs) (raw_rec gs) A g h = absurd (mixed h.0 A g.0 h.2 g.2)
    choice_traced S sc (raw_bag cs) (raw_bag ds) A g h = bags_chosen (wrapped_comps [] cs)
        (wrapped_comps [] ds)

    fields_traced : (S : List TableShape) (sc : List Label) (fs gs : RawFields) (us : FieldTypes)
        → RawFieldsHave S sc fs us → RawFieldsHave S sc gs us
        → SameFields (cond (is_true (raw_value ts x env))
        (raw_fields_meaning ts (wrapped_fields fs) env) (raw_fields_meaning ts
        (wrapped_fields gs) env)) (raw_fields_meaning ts
        (choice_of_fields x (wrapped_fields fs) (wrapped_fields gs)) env)
    fields_traced S sc no_raw_field no_raw_field us g h = go (is_true (raw_value ts x env))
      where
        go : (t : Bool) → SameFields (cond t Fields.none Fields.none) Fields.none
        go true = tt
        go false = tt
    fields_traced S sc no_raw_field (raw_field k b gs) us g h =
        let u : FieldTypes.none ≡ FieldTypes.field k h.0 h.1 = sym g ∙ h.4 in absurd (cc)
    fields_traced S sc (raw_field l a fs) no_raw_field us g h =
        let u : FieldTypes.none ≡ FieldTypes.field l g.0 g.1 = sym h ∙ g.4 in absurd (cc)
    fields_traced S sc (raw_field l a fs) (raw_field k b gs) us g h =
        let u : FieldTypes.field k h.0 h.1 ≡ FieldTypes.field l g.0 g.1 = sym h.4 ∙ g.4 in
        let e : k ≡ l = cc in
        let v : h.0 ≡ g.0 = cc in
        let w : h.1 ≡ g.1 = cc in
        go e (is_true (raw_value ts x env)) (raw_meaning ts (wrapped a) env)
        (raw_meaning ts (wrapped b) env) (raw_meaning ts (choice x (wrapped a) (wrapped b)) env)
        (raw_fields_meaning ts (wrapped_fields fs) env)
        (raw_fields_meaning ts (wrapped_fields gs) env)
        (raw_fields_meaning ts (choice_of_fields x (wrapped_fields fs) (wrapped_fields gs)) env)
        (choice_traced S sc a b g.0 g.2 (subst (λ (z : TypeTree). RawBodyHas S sc b z) v h.2))
        (fields_traced S sc fs gs g.1 g.3
        (subst (λ (z : FieldTypes). RawFieldsHave S sc gs z) w h.3))
      where
        go : k ≡ l → (t : Bool) (p q r : Nested) (ps qs rs : Fields) → Same (cond t p q) r
            → SameFields (cond t ps qs) rs → SameFields (cond t (field l p ps) (field k q qs))
            (field l r rs)
        go e true p q r ps qs rs s i = (refl, s, i)
        go e false p q r ps qs rs s i = (e, s, i)
