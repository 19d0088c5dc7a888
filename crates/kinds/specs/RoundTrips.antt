-- A record is spelled as it was read, and reads as it was spelled.
use Rattle.std.specs.Prelude.{◌≡◌, ℕ, List, None, Option}
use Rattle.faults.specs.declared.Fault.{Fault}

-- a value is refused for nothing as a form, and is spelled by these bytes
pub record SpellsBack {V : Type 0} (wrong : V → Option Fault) (bytes : V → List ℕ) (v : V) (bs : List ℕ) : Type 0 where
  pub admitted : wrong v ≡ None
  pub spelling : bytes v ≡ bs

-- the bytes have no fault on any line, and say this value
pub record ReadsBack {V : Type 0} (fault : ℕ → List ℕ → Option Fault) (value : List ℕ → V) (v : V) (bs : List ℕ) : Type 0 where
  pub proper : (line : ℕ) → fault line bs ≡ None
  pub reading : value bs ≡ v
