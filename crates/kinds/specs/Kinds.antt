-- What a kind of field is, and what every kind owes.
use Rattle.std.specs.Prelude.{◌≡◌, ℕ, ◌+◌, ◌≤◌, Bool, true, cond, IfSome, List, [], ◌∷◌, length, Some, None, Ok, Err, Option, Result}
use Rattle.faults.specs.declared.Cause.TheVariants.{WrongByte}
use Rattle.faults.specs.declared.Fault.{Fault}
use Rattle.faults.specs.declared.Place.{Place}
use Rattle.faults.specs.declared.Misfit.{Misfit}
use Rattle.faults.specs.Faults.{placed}

pub record Kind : Type 1 where
  pub Value : Type 0
  pub width : ℕ
  -- whether a byte may stand at a place of the field, counted from 0
  pub admits : ℕ → ℕ → Bool
  -- what is wrong with the field as a whole, once every byte is admitted
  pub flaw : List ℕ → Option Misfit
  pub value : List ℕ → Value
  -- what a form's value is refused for
  pub wrong : Value → Option Misfit
  pub spell : Value → List ℕ

-- the first byte that is not admitted, the list's first standing at place i; else what comes then
abbrev pub refused_from : (ℕ → ℕ → Bool) → ℕ → List ℕ → Option Misfit → Option Misfit
refused_from admits i [] later = later
refused_from admits i (b ∷ bs) later = cond (admits i b) (refused_from admits (i + 1) bs later) (Some (record { cause = WrongByte; offset = i }))

-- each byte is admitted where it stands, the first at place i
abbrev pub AllFrom : (ℕ → ℕ → Bool) → ℕ → List ℕ → Type 0
AllFrom admits i [] = Unit {0}
AllFrom admits i (b ∷ bs) = (admits i b ≡ true) × AllFrom admits (i + 1) bs

-- the first fault of a field
abbrev pub fault : Kind → List ℕ → Option Misfit
fault k bs = refused_from k.admits 0 bs (k.flaw bs)

pub record Lawful (k : Kind) : Type 0 where
  pub spelled_width : (v : k.Value) → k.wrong v ≡ None → length (k.spell v) ≡ k.width
  pub spelled_proper : (v : k.Value) → k.wrong v ≡ None → fault k (k.spell v) ≡ None
  pub read_back : (v : k.Value) → k.wrong v ≡ None → k.value (k.spell v) ≡ v
  pub value_admitted : (bs : List ℕ) → length bs ≡ k.width → fault k bs ≡ None → k.wrong (k.value bs) ≡ None
  pub written_back : (bs : List ℕ) → length bs ≡ k.width → fault k bs ≡ None → k.spell (k.value bs) ≡ bs

-- no law of every kind, but of a `ConstantKind`, as each of the eight is: what is wrong with a field as a whole, and what a
-- form's value is refused for, stands in the field or right behind it
pub record InField (k : Kind) : Type 0 where
  pub flaw_within : (bs : List ℕ) → length bs ≡ k.width → IfSome (k.flaw bs) (λ m. m.offset ≤ k.width)
  pub wrong_within : (v : k.Value) → IfSome (k.wrong v) (λ m. m.offset ≤ k.width)

-- a misfit at its line and column
abbrev pub placed_at : Place → Option Misfit → Option Fault
placed_at p None = None
placed_at p (Some m) = Some (placed p m)

-- the first fault, or else the value
abbrev pub answered : {V E : Type 0} → Option E → V → Result V E
answered None v = Ok v
answered (Some e) v = Err e

-- an answer of the program as one of the definitions
abbrev pub map_ok : {V W E : Type 0} → (V → W) → Result V E → Result W E
map_ok f (Ok v) = Ok (f v)
map_ok f (Err e) = Err e
