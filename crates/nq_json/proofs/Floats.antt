-- Members put into an object without a float.
use Rattle.std.proofs.Common.{◌≡◌, ℕ, Bool, false, true, ◌||◌, List, refl}
use Rattle.std.specs.declared.cmp.Ordering.{Ordering}
use Rattle.std.specs.declared.cmp.Ordering.TheVariants.{Less, Equal, Greater}
use Rattle.std.specs.Ordering.{match_ordering, nat_cmp}
use Rattle.std.specs.Cmp.Lexicographic.{slice_cmp}
use Rattle.serde_json.specs.Data.{put, Data, Members, no_members, member}
use Rattle.serde_json.specs.Written.{has_float, members_have_float}

no_float_of : (o : Ordering) (a b c : Members) → members_have_float a ≡ false → members_have_float b ≡ false → members_have_float c ≡ false → members_have_float (match_ordering o a b c) ≡ false
no_float_of Less a b c p q r = p
no_float_of Equal a b c p q r = q
no_float_of Greater a b c p q r = r

pub either : (a b : Bool) → a ≡ false → b ≡ false → (a || b) ≡ false
either a b p q = rw (p, q) refl

first_of_two : (a b : Bool) → (a || b) ≡ false → a ≡ false
first_of_two false b h = refl
first_of_two true b h = h

second_of_two : (a b : Bool) → (a || b) ≡ false → b ≡ false
second_of_two false b h = h
second_of_two true b h = absurd (cc)

pub no_float_put : (k : List ℕ) (d : Data) (ms : Members) → has_float d ≡ false → members_have_float ms ≡ false → members_have_float (put k d ms) ≡ false
no_float_put k d no_members p q = either (has_float d) false p refl
no_float_put k d (member l e ms) p q =
    no_float_of (slice_cmp nat_cmp k l) (member k d (member l e ms)) (member l d ms) (member l e (put k d ms))
    (either (has_float d) (has_float e || members_have_float ms) p q)
    (either (has_float d) (members_have_float ms) p (second_of_two (has_float e) (members_have_float ms) q))
    (either (has_float e) (members_have_float (put k d ms)) (first_of_two (has_float e) (members_have_float ms) q) (no_float_put k d ms p (second_of_two (has_float e) (members_have_float ms) q)))
