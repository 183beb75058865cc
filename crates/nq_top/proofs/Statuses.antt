-- The statuses of inputs that are refused: they blame no call.
use Rattle.std.proofs.Common.{◌≡◌, ◌==◌, ◌||◌, ℕ, Bool, true, false, [], ◌∷◌, refl, sym, ap, ap₂, ◌∙◌, eqb-true}
use Rattle.std.specs.List.{list_any}
use Rattle.command_line.specs.Refusals.{refused_status}
use Rattle.command_line.specs.declared.refusal.Refused.{Refused}
use Rattle.command_line.specs.declared.refusal.Refused.TheVariants as refused

abbrev pub is_fault : ℕ → Bool
is_fault status = list_any (λ s. s == status) (3 ∷ 4 ∷ 5 ∷ 6 ∷ 10 ∷ 12 ∷ 14 ∷ 15 ∷ 16 ∷ [])

pub fault_status : (why : Refused) → is_fault (refused_status why) ≡ true
fault_status (refused.TooLong name limit) = refl
fault_status (refused.Schema fault) = refl
fault_status (refused.Query fault) = refl
fault_status (refused.IllTyped rule place) = refl
fault_status (refused.NoKey table) = refl
fault_status (refused.Table name fault) = refl
fault_status (refused.Sql fault) = refl
fault_status (refused.IllScoped rule place) = refl
fault_status (refused.JsonTable name fault) = refl
fault_status (refused.Answer number fault) = refl
fault_status (refused.Links fault) = refl

pub no_fault : (status : ℕ) (why : Refused) → is_fault status ≡ false → status ≡ refused_status why → ⊥
no_fault status why clear is =
    let faulty : is_fault status ≡ true = ap (λ (s : ℕ). is_fault s) is ∙ fault_status why in
    absurd (let both : true ≡ false = sym faulty ∙ clear in cc)

-- a status at which no put and no server failed, nothing was put and no server is named
pub record IsCalm (s : ℕ) : Type 0 where
  pub output : (s == 8) ≡ false
  pub server : (s == 9) ≡ false
  pub puts : ((s == 0) || (s == 8)) ≡ false
  pub names : ((s == 9) || (s == 11)) ≡ false
  pub usage : s ≡ 2 → ⊥
  pub blames : s ≡ 11 → ⊥

-- that of a refused input is one, and no fetch failed at it
pub record IsRefusal (s : ℕ) : Type 0 where
  pub inputs : (s == 7) ≡ false
  pub calm : IsCalm s

-- a refusal has no other status
unlike : (why : Refused) (status : ℕ) → is_fault status ≡ false → (refused_status why == status) ≡ false
unlike why status clear = go (refused_status why == status) refl
  where
    go : (b : Bool) → (refused_status why == status) ≡ b → b ≡ false
    go true is = absurd (no_fault status why clear (sym (eqb-true (refused_status why) status is)))
    go false is = refl

pub of_refused : (why : Refused) → IsRefusal (refused_status why)
of_refused why = record {
  inputs = unlike why 7 refl;
  calm = record {
    output = unlike why 8 refl;
    server = unlike why 9 refl;
    puts = ap₂ (λ (a b : Bool). a || b) (unlike why 0 refl) (unlike why 8 refl);
    names = ap₂ (λ (a b : Bool). a || b) (unlike why 9 refl) (unlike why 11 refl);
    usage = λ is. no_fault 2 why refl (sym is);
    blames = λ is. no_fault 11 why refl (sym is);
  };
}
