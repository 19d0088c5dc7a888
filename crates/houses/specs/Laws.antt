-- Proofs that houses' rules are sound: what serves every house, and the plain one. They stand here, since the houses cite them; nothing here need be believed.
use Rattle.std.specs.Prelude.{◌≡◌, ℕ, ◌≤◌, Bool, true, false, cond, ◌&&◌, nat_le, Some, None, Option}
use Rattle.std.proofs.Common.{subst, refl, arith}
use Rattle.std.proofs.lemmas.Bool.Decides.{nat_tests}
use Rattle.std.specs.Option.{option_map, option_or}
use Rattle.houses.specs.Rules.{Sensible, Sound, no, plain_rules}

-- where an answer is a no, what it says has a property
module _ {A : Type 0} (P : A → Type 0) where
  abbrev pub Fair : Option A → Type 0
  Fair a = (o : A) → a ≡ Some o → P o

  pub fair_none : Fair None
  fair_none o e = absurd cc

  pub fair_some : (a : A) → P a → Fair (Some a)
  fair_some a p o e = let same : a ≡ o = cc in subst P same p

  pub fair_cond : (b : Bool) (x y : Option A) → Fair x → Fair y → Fair (cond b x y)
  fair_cond true x y p q = p
  fair_cond false x y p q = q

  pub fair_or : (x y : Option A) → Fair x → Fair y → Fair (option_or x y)
  fair_or None y p q = q
  fair_or (Some a) y p q = p

  pub fair_map : {X : Type 0} (f : X → A) (x : Option X) → ((y : X) → x ≡ Some y → P (f y)) → Fair (option_map f x)
  fair_map f None p = fair_none
  fair_map f (Some y) p = fair_some (f y) (p y refl)

abbrev pub Reason : ℕ → Type 0
Reason reason = (1 ≤ reason) × (reason ≤ 250)

-- a no whose reason and column are numerals
pub fair_no : (reason column : ℕ) → (nat_le 1 reason && nat_le reason 250 && nat_le 1 column && nat_le column 120) ≡ true → Fair Sensible (no reason column)
fair_no reason column h = fair_some Sensible _ (grind (arith, nat_tests))

pub fair_reason : (reason : ℕ) → (nat_le 1 reason && nat_le reason 250) ≡ true → Fair Reason (Some reason)
fair_reason reason h = fair_some Reason reason (grind (arith, nat_tests))

pub plain_sound : Sound plain_rules
plain_sound = record { header = λ h. fair_none Sensible; payment = λ p. fair_none Sensible; tally = λ t. fair_none Reason }
