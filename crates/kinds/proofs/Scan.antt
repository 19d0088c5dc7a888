-- The scan for the first byte that is not admitted, and what comes after it.
use Rattle.std.proofs.Common.{◌≡◌, ℕ, suc, ◌+◌, ◌^◌, ◌<◌, ◌≤◌, Bool, true, false, cond, List, [], ◌∷◌, length, slice_index, Some, None, Ok, Err, Option, Result, refl, arith}
use Rattle.faults.specs.declared.Cause.TheVariants.{WrongByte}
use Rattle.faults.specs.declared.Misfit.{Misfit}
use Rattle.kinds.specs.Kinds.{Kind, AllFrom, refused_from, fault, answered}

module _ (admits : ℕ → ℕ → Bool) where
  -- a byte that is not admitted comes before what comes later, and stands among the bytes
  pub refused_first : (n : ℕ) (bs : List ℕ) (later : Option Misfit) (m : Misfit) → ◌≡◌ {A = Result (Unit {0}) Misfit} (Err m) (answered (refused_from admits n bs None) tt) → (refused_from admits n bs later ≡ Some m) × (m.offset < n + length bs)
  refused_first n [] later m h = absurd cc
  refused_first n (b ∷ bs) later m h =
      elim (admits n b) as (λ t. ◌≡◌ {A = Result (Unit {0}) Misfit} (Err m) (answered (cond t (refused_from admits (n + 1) bs None) (Some (record { cause = WrongByte; offset = n }))) tt) → (cond t (refused_from admits (n + 1) bs later) (Some (record { cause = WrongByte; offset = n })) ≡ Some m) × (m.offset < n + length (b ∷ bs))) [
        | true ↦ λ e. let r = refused_first (n + 1) bs later m e in (r.0, omega (arith, r.1))
        | false ↦ λ e. let same : record { cause = WrongByte; offset = n } ≡ m = cc in (cc, rw (← same) (omega arith))
      ] h

  -- where every byte is admitted, what comes later comes
  pub then_later : (n : ℕ) (bs : List ℕ) (later : Option Misfit) (u : Unit {0}) → ◌≡◌ {A = Result (Unit {0}) Misfit} (Ok u) (answered (refused_from admits n bs None) tt) → AllFrom admits n bs × (refused_from admits n bs later ≡ later)
  then_later n [] later u h = (tt, refl)
  then_later n (b ∷ bs) later u h =
      elim (admits n b) as (λ t. ◌≡◌ {A = Result (Unit {0}) Misfit} (Ok u) (answered (cond t (refused_from admits (n + 1) bs None) (Some (record { cause = WrongByte; offset = n }))) tt) → ((t ≡ true) × AllFrom admits (n + 1) bs) × (cond t (refused_from admits (n + 1) bs later) (Some (record { cause = WrongByte; offset = n })) ≡ later)) [
        | true ↦ λ e. let r = then_later (n + 1) bs later u e in ((refl, r.0), r.1)
        | false ↦ λ e. absurd cc
      ] h

-- two tests that agree on the places and the bytes of a field find the same
pub refused_alike : (p q : ℕ → ℕ → Bool) (w i : ℕ) (bs : List ℕ) (later : Option Misfit) → i + length bs ≤ w → ((k : ℕ) → k < length bs → slice_index bs k < 2 ^ 8) → ((place b : ℕ) → place < w → b < 2 ^ 8 → p place b ≡ q place b) → refused_from p i bs later ≡ refused_from q i bs later
refused_alike p q w i [] later fits bytes same = refl
refused_alike p q w i (b ∷ bs) later fits bytes same =
    let rest = refused_alike p q w (i + 1) bs later (omega arith) (λ k h. bytes (suc k) (omega arith)) same in
    rw (same i b (omega arith) (bytes 0 (omega arith)), rest) refl

-- the same of a field
module _ (k : Kind) (bs : List ℕ) where
  pub field_refused : (m : Misfit) → ◌≡◌ {A = Result (Unit {0}) Misfit} (Err m) (answered (refused_from k.admits 0 bs None) tt) → fault k bs ≡ Some m
  field_refused m h = (refused_first k.admits 0 bs (k.flaw bs) m h).0

  pub field_admitted : (u : Unit {0}) → ◌≡◌ {A = Result (Unit {0}) Misfit} (Ok u) (answered (refused_from k.admits 0 bs None) tt) → AllFrom k.admits 0 bs
  field_admitted u h = (then_later k.admits 0 bs None u h).0

  pub field_flaw : (u : Unit {0}) → ◌≡◌ {A = Result (Unit {0}) Misfit} (Ok u) (answered (refused_from k.admits 0 bs None) tt) → fault k bs ≡ k.flaw bs
  field_flaw u h = (then_later k.admits 0 bs (k.flaw bs) u h).1
