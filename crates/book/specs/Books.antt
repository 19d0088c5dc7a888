-- When a row may come into a book, and where it is found.
use Rattle.std.specs.Prelude.{◌≡◌, ℕ, ◌<◌, Bool, false, cond, List, [], ◌∷◌, ◌++◌, length, Some, None, Option, ◌==◌, nat_lt, slice_index_or}
use Rattle.std.specs.List.{list_any}
use Rattle.faults.specs.declared.Cause.{Cause}
use Rattle.faults.specs.declared.Cause.TheVariants.{NotRising, BookFull}
use Rattle.faults.specs.declared.Fault.{Fault}
use Rattle.faults.specs.Faults.{fault_at}
use Rattle.std.specs.Option.{option_or}
use Rattle.book.specs.Held.{Held}
use Rattle.book.specs.declared.book.Row.{Row}

-- a refusal outside reading, and at no column
abbrev pub nowhere : Cause → Fault
nowhere cause = fault_at cause 0 0

-- the number is above the last row's, if there is one
abbrev pub above_last : {V : Type 0} → List (Row V) → ℕ → Option Fault
above_last [] n = None
above_last (row ∷ []) n = cond (nat_lt row.number n) None (Some (nowhere NotRising))
above_last (row ∷ next ∷ rows) n = above_last (next ∷ rows) n

-- why a row of some number may not come in at the end
abbrev pub row_fault : {V : Type 0} → Held V → ℕ → Option Fault
row_fault held n = option_or (above_last held.rows n) (cond (nat_lt (length held.rows) held.room) None (Some (nowhere BookFull)))

-- one row more at the end
abbrev pub with_row : {V : Type 0} → Held V → Row V → Held V
with_row held row = record held { rows = held.rows ++ row ∷ [] }

-- some row has the number
abbrev pub has_number : {V : Type 0} → ℕ → List (Row V) → Bool
has_number n rows = list_any (λ row. row.number == n) rows

-- where a row of the number stands, if there is one
abbrev pub FoundAt : {V : Type 0} → List (Row V) → ℕ → Option ℕ → Type 0
FoundAt rows n None = has_number n rows ≡ false
FoundAt {V} rows n (Some place) = (place < length rows) × ((d : Row V) → (slice_index_or rows place d).number ≡ n)
