-- A form's value whose bytes are judged before the value as a whole.
use Rattle.std.proofs.Common.{◌≡◌, ℕ, Bool, true, false, cond, eqb, List, length, get_or, Some, None, Ok, Err, Option, Result, arith}
use Rattle.faults.specs.declared.Misfit.{Misfit}
use Rattle.faults.specs.declared.Cause.TheVariants.{Empty, StrayBlank}
use Rattle.faults.specs.declared.Fault.{Fault}
use Rattle.faults.specs.declared.Place.{Place}
use Rattle.kinds.specs.Kinds.{refused_from, answered, placed_at}
use Rattle.fields.specs.Numbers.{whole}
use Rattle.fields.specs.Texts.{is_blank, text_end, text_flaw}
use Rattle.kinds.proofs.Scan.{refused_first, then_later}

module _ (admits : ℕ → ℕ → Bool) (i : ℕ) (v : List ℕ) (later : Option Misfit) where
  pub by_byte : (m : Misfit) → ◌≡◌ {A = Result (Unit {0}) Misfit} (Err m) (answered (refused_from admits i v None) tt) → refused_from admits i v later ≡ Some m
  by_byte m h = (refused_first admits i v later m h).0

  pub past_bytes : (u : Unit {0}) → ◌≡◌ {A = Result (Unit {0}) Misfit} (Ok u) (answered (refused_from admits i v None) tt) → refused_from admits i v later ≡ later
  past_bytes u h = (then_later admits i v later u h).1

-- the first of two tests that refuses comes before what is later
first_of : (s t : Bool) (a b : Misfit) (later : Option Misfit) (p : Place) (f : Fault) → placed_at p (cond s (Some a) (cond t (Some b) None)) ≡ Some f → placed_at p (cond s (Some a) (cond t (Some b) later)) ≡ Some f
first_of true t a b later p f h = h
first_of false true a b later p f h = h
first_of false false a b later p f h = let z : ◌≡◌ {A = ℕ} 0 1 = cc in absurd (omega arith)

pub by_flaw : (v : List ℕ) (later : Option Misfit) (p : Place) (f : Fault) → placed_at p (text_flaw v None) ≡ Some f → placed_at p (text_flaw v later) ≡ Some f
by_flaw v later p f h = first_of (eqb (text_end v (length v)) 0) (is_blank (get_or v 0 0)) (whole Empty) (whole StrayBlank) later p f h
