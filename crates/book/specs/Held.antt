-- What a book shows to those who use it.
use Rattle.std.specs.Prelude.{ℕ, ◌≤◌, List, length, take}
use Rattle.std.proofs.Common.{arith, length-take}
use Rattle.book.specs.declared.book.Row.{Row}
use Rattle.book.specs.Search.{Climbs}

-- the rows in use, and for how many there is room
pub record Held (V : Type 0) : Type 0 where
  pub rows : List (Row V)
  pub room : ℕ

-- what a book holds, and what is so of every book: the rows in use are no more than there is room for, and their numbers climb
pub record Standing (V : Type 0) : Type 0 where
  pub held : Held V
  pub within : length held.rows ≤ held.room
  pub rising : Climbs (λ r. r.number) held.rows

-- the first so many of some rows are no more than these
pub first_within : {R : Type 0} (n : ℕ) (rows : List R) → length (take n rows) ≤ length rows
first_within n rows = omega (arith, length-take n rows)
