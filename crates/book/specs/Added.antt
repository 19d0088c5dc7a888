-- A new book, and a book with one row more.
use Rattle.std.specs.Prelude.{◌≡◌, ℕ, [], Some, None, Option, refl}
use Rattle.std.proofs.Common.{sym, ◌∙◌}
use Rattle.faults.specs.declared.Fault.{Fault}
use Rattle.book.specs.declared.book.Row.{Row}
use Rattle.book.specs.Held.{Standing}
use Rattle.book.specs.Books.{row_fault, with_row}
use Rattle.book.specs.Laws.{none_within, none_rising, row_within, row_rising, same}

module _ {V : Type 0} where
  -- a book without rows, and with so much room
  abbrev pub empty_book : ℕ → Standing V
  empty_book room = record { held = record { rows = []; room = room }; within = none_within V room; rising = none_rising V }

  abbrev added_by : (book : Standing V) (row : Row V) (fault : Option Fault) → row_fault book.held row.number ≡ fault → Standing V
  added_by book row None may = record { held = with_row book.held row; within = row_within book.held row may; rising = row_rising book.held row book.rising may }
  added_by book row (Some f) may = book

  -- the book with the row at its end, where the row may come in; else the book as it is
  unfoldable pub added : Standing V → Row V → Standing V
  added book row = added_by book row (row_fault book.held row.number) refl

  held_by : (book : Standing V) (row : Row V) (fault : Option Fault) (is : row_fault book.held row.number ≡ fault) → fault ≡ None → (added_by book row fault is).held ≡ with_row book.held row
  held_by book row None is may = refl
  held_by book row (Some f) is may = absurd cc

  -- what it holds then
  pub added_held : (book : Standing V) (row : Row V) → row_fault book.held row.number ≡ None → (added book row).held ≡ with_row book.held row
  unfolding added
  added_held book row may = held_by book row (row_fault book.held row.number) refl may

  -- and whatever holds that is this book
  pub added_is : (book : Standing V) (row : Row V) (new : Standing V) → row_fault book.held row.number ≡ None → new.held ≡ with_row book.held row → new ≡ added book row
  added_is book row new may holds = same new (added book row) (holds ∙ sym (added_held book row may))
