-- Where a row of some number stands.
use Rattle.std.specs.Prelude.{ℕ, ◌<◌, List, nat_lt}
use Rattle.std.specs.List.{prefix_len, AllPairs}

-- how many rows come before the first whose number is not below the wanted one
abbrev pub first_not_below : {R : Type 0} → (R → ℕ) → ℕ → List R → ℕ
first_not_below key wanted rows = prefix_len (λ row. nat_lt (key row) wanted) rows

-- each row's number is above those of the rows before it
abbrev pub Climbs : {R : Type 0} → (R → ℕ) → List R → Type 0
Climbs key rows = AllPairs (λ before after. key before < key after) rows
