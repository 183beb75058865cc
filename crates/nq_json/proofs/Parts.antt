-- The parts of a JSON value that a value is made of.
use Rattle.std.proofs.Common.{◌≡◌, ℕ, ℤ, pos, negsuc, ◌+◌, Bool, true, false, List, Some, None, option_and_then, refl, sym, ap, ◌∙◌, subst, arith, if◌then◌else◌, FitsSigned, int_lt, nat_lt}
use Rattle.std.specs.Int.{w64}
use borrow.Author.Tests.{ltb-true}
use Rattle.nq_model.specs.Orders.{AreRising}
use Rattle.nq_model.specs.Types.{TypeTree, FieldTypes}
use Rattle.nq_model.specs.Values.{base, rec, bag, Fields, Elements}
use Rattle.nq_model.specs.declared.table.Cell.TheVariants as cell
use Rattle.serde_json.specs.Data.{unsigned, negative, Data, null, boolean, number, string, array, object, Items, Members}
use Rattle.serde_json.specs.Find.{as_number, as_i64, as_bool, as_str, as_array, as_object, of_integer}
use Rattle.serde_json.specs.Number.{num_of, is_valid}
use Rattle.serde_json.specs.declared.number.N.{N}
use Rattle.serde_json.specs.declared.number.N.TheVariants.{PosInt, NegInt, Float}
use Rattle.nq_json.specs.Shapes.{has_labels, keys_of}
use Rattle.nq_json.specs.Reading.{Reads, ReadsItems, ReadsFields}
use Rattle.nq_json.proofs.Orders.{in_order}

-- a number that is held well is the form of the integer that it is
positive_form : (n : ℕ) (b : Bool) (z : ℤ) → (if b then Some (pos n) else None) ≡ Some z → unsigned n ≡ of_integer z
positive_form n true z e = let same : pos n ≡ z = cc in ap of_integer same
positive_form n false z e = cc

negative_form : (w : ℤ) → int_lt w (pos 0) ≡ true → negative w ≡ of_integer w
negative_form (pos n) below = absurd (omega (arith, ltb-true n 0 below))
negative_form (negsuc n) below = refl

pub number_form : (x : N) → is_valid x ≡ true → (z : ℤ) → as_i64 (num_of x) ≡ Some z → num_of x ≡ of_integer z
number_form (PosInt n) valid z e = positive_form n (nat_lt n 9223372036854775808) z e
number_form (NegInt w) valid z e =
    let same : w ≡ z = cc in
    negative_form w valid ∙ ap of_integer same
number_form (Float x) valid z e = cc

-- a JSON value is what it is taken for
taken : (d : Data) → ((b : Bool) → as_bool d ≡ Some b → d ≡ boolean b) × ((t : List ℕ) → as_str d ≡ Some t → d ≡ string t)
    × ((ds : Items) → as_array d ≡ Some ds → d ≡ array ds) × ((ms : Members) → as_object d ≡ Some ms → d ≡ object ms)
taken null = (λ b e. cc, λ t e. cc, λ ds e. cc, λ ms e. cc)
taken (boolean c) = (λ b e. cc, λ t e. cc, λ ds e. cc, λ ms e. cc)
taken (number n) = (λ b e. cc, λ t e. cc, λ ds e. cc, λ ms e. cc)
taken (string s) = (λ b e. cc, λ t e. cc, λ ds e. cc, λ ms e. cc)
taken (array es) = (λ b e. cc, λ t e. cc, λ ds e. cc, λ ms e. cc)
taken (object ns) = (λ b e. cc, λ t e. cc, λ ds e. cc, λ ms e. cc)

module _ (n after : ℕ) (d : Data) where
  pub int_read : (z : ℤ) → FitsSigned w64 z → d ≡ number (of_integer z) → Some z ≡ option_and_then as_i64 (as_number d) → after ≡ n + 1 → Reads TypeTree.int n d after (base (cell.Int z))
  int_read z fits form is past = record {
    value = record { typed = fits; form = sym form };
    faultless = rw (sym is) refl;
    past = rw form past;
  }

  pub bool_read : (b : Bool) → Some b ≡ as_bool d → after ≡ n + 1 → Reads TypeTree.bool n d after (base (cell.Bool b))
  bool_read b is past =
      let form = (taken d).0 b (sym is) in
      record { value = record { typed = tt; form = sym form }; faultless = rw (sym is) refl; past = rw form past }

  pub text_read : (t : List ℕ) → Some t ≡ as_str d → after ≡ n + 1 → Reads TypeTree.text n d after (base (cell.Text t))
  text_read t is past =
      let form = (taken d).1 t (sym is) in
      record { value = record { typed = tt; form = sym form }; faultless = rw (sym is) refl; past = rw form past }

  pub bag_read : (a : TypeTree) (ds : Items) (vs : Elements) → as_array d ≡ Some ds → ReadsItems a (n + 1) ds after vs → Reads (TypeTree.bag a) n d after (bag vs)
  bag_read a ds vs is read =
      let form = (taken d).2 ds is in
      record {
        value = record { typed = read.typed; form = ap array read.form ∙ sym form };
        faultless = rw is read.faultless;
        past = rw form (omega (arith, read.past));
      }

  pub record_read : (fs : FieldTypes) (ms : Members) (gs : Fields) → as_object d ≡ Some ms → has_labels fs ms ≡ true → AreRising (keys_of ms)
      → ReadsFields fs (n + 1) ms after gs → Reads (TypeTree.rec fs) n d after (rec gs)
  record_read fs ms gs is labelled rising read =
      let form = (taken d).3 ms is in
      let ordered = in_order gs (subst (λ (m : Members). AreRising (keys_of m)) (sym read.form) rising) in
      record {
        value = record { typed = read.typed; form = ap object (ordered ∙ read.form) ∙ sym form };
        faultless = rw (is, labelled) read.faultless;
        past = rw form (omega (arith, read.past));
      }
