-- A reading that comes to payments was refused nowhere on its way.
use Rattle.std.proofs.Common.{◌≡◌, ℕ, ◌⊎◌, Some, None, Ok, Err, Option, Result, sym, refl, ap, inl, inr, arith}
use Rattle.faults.specs.declared.Fault.{Fault}
use Rattle.lines.specs.declared.Tag.{Tag}
use Rattle.lines.specs.declared.Tag.TheVariants.{Detail, Trailer as IsTrailer}
use Rattle.lines.specs.Lines.{tagged}
use Rattle.houses.specs.declared.objection.Objection.{Objection}
use Rattle.reading.specs.Reading.{past, and_then, by_tag, objected, tally_refused}

module _ {X : Type 0} where
  pub same_ok : (x y : X) → ◌≡◌ {A = Result X Fault} (Ok x) (Ok y) → x ≡ y
  same_ok x y h = cc

  pub no_ok : (f : Fault) (x : X) → ◌≡◌ {A = Result X Fault} (Err f) (Ok x) → ⊥
  no_ok f x h = let z : ◌≡◌ {A = ℕ} 0 1 = cc in omega arith

  pub passed : (o : Option Fault) (r : Result X Fault) (x : X) → past o r ≡ Ok x → (o ≡ None) × (r ≡ Ok x)
  passed None r x h = (refl, h)
  passed (Some f) r x h = absurd (no_ok f x h)

  pub passes : (o : Option Fault) (r : Result X Fault) (x : X) → o ≡ None → r ≡ Ok x → past o r ≡ Ok x
  passes o r x none h = rw none h

  pub by_either : (t : Result Tag Fault) (detail trailer : Result X Fault) (x : X) → by_tag t detail trailer ≡ Ok x → (detail ≡ Ok x) ⊎ (trailer ≡ Ok x)
  by_either (Err f) detail trailer x h = absurd (no_ok f x h)
  by_either (Ok Detail) detail trailer x h = inl h
  by_either (Ok IsTrailer) detail trailer x h = inr h

  pub by_detail : (line byte : ℕ) (detail trailer : Result X Fault) (x : X) → byte ≡ 49 → detail ≡ Ok x → by_tag (tagged line byte) detail trailer ≡ Ok x
  by_detail line byte detail trailer x e h = rw e h

-- a step that went well, and one that did not, whatever comes after it
pub went_well : {X Y : Type 0} (r : Result X Fault) (k : X → Result Y Fault) (x : X) → Ok x ≡ r → and_then r k ≡ k x
went_well r k x h = sym (ap (λ r. and_then r k) h)

pub went_wrong : {X Y : Type 0} (r : Result X Fault) (k : X → Result Y Fault) (f : Fault) → Err f ≡ r → Err f ≡ and_then r k
went_wrong r k f h = ap (λ r. and_then r k) h

-- a step that was followed by another went well
pub went_on : {X Y : Type 0} (r : Result X Fault) (k : X → Result Y Fault) (y : Y) → and_then r k ≡ Ok y → (x : X) × (r ≡ Ok x) × (k x ≡ Ok y)
went_on (Ok x) k y h = (x, refl, h)
went_on (Err f) k y h = absurd (no_ok f y h)

module _ (line : ℕ) where
  pub unobjected : (o : Option Objection) → objected line o ≡ None → o ≡ None
  unobjected None h = refl
  unobjected (Some o) h = let z : ◌≡◌ {A = ℕ} 0 1 = cc in absurd (omega arith)

  pub tally_unrefused : (o : Option ℕ) → tally_refused line o ≡ None → o ≡ None
  tally_unrefused None h = refl
  tally_unrefused (Some reason) h = let z : ◌≡◌ {A = ℕ} 0 1 = cc in absurd (omega arith)
