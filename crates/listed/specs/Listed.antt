-- The listed house: a bank list, and who is on it.
use Rattle.std.specs.Borrow.{Bor}
use Rattle.std.specs.Prelude.{ℕ, ◌/◌, Bool, cond, List, map, None, Option, ◌==◌}
use Rattle.std.specs.List.{list_any}
use Rattle.std.specs.Str.{bytes_eq}
use Rattle.faults.specs.declared.Fault.{Fault}
use Rattle.kinds.specs.Kinds.{placed_at}
use Rattle.std.specs.Option.{option_or}
use Rattle.fields.specs.Numbers.{number_kind}
use Rattle.fields.specs.Texts.{text_kind}
use Rattle.book.specs.declared.book.Row.{Row}
use Rattle.book.specs.Held.{Held}
use Rattle.houses.specs.Rules.{Rules, no}
use Rattle.listed.specs.declared.Reason.{Reason}
use Rattle.listed.specs.declared.Reason.TheVariants.{Name, Number}

-- a bank line by its values
pub record BankOf : Type 0 where
  pub number : ℕ
  pub name : List ℕ

abbrev pub bank_of : Row (Bor (List ℕ)) → BankOf
bank_of row = record { number = row.number; name = row.value.now }

-- the lines of a bank list
abbrev pub banks_of : Held (Bor (List ℕ)) → List BankOf
banks_of list = map bank_of list.rows

-- what a form's bank line is refused for: its number in two digits at column 2, its name a text of three columns at column 21
abbrev pub bank_wrong : BankOf → Option Fault
bank_wrong bank = option_or (placed_at (record { line = 0; column = 2 }) ((number_kind 2 0).wrong bank.number)) (placed_at (record { line = 0; column = 21 }) ((text_kind 3).wrong bank.name))

-- a bank of that number, and of that name, is on the list
abbrev pub numbered : ℕ → List BankOf → Bool
numbered n banks = list_any (λ bank. bank.number == n) banks

abbrev pub named : List ℕ → List BankOf → Bool
named name banks = list_any (λ bank. bytes_eq bank.name name) banks

-- the first two of a BSB's six digits
abbrev pub bank_digits : ℕ → ℕ
bank_digits bsb = bsb / 10000

-- the reasons' numbers
abbrev pub number : Reason → ℕ
number Name = 1
number Number = 2

-- the header's bank is on the list, and so are the banks of each payment and of its trace
abbrev pub listed_rules : List BankOf → Rules
listed_rules banks = record {
  header = λ h. cond (named h.bank banks) None (no (number Name) 21);
  payment = λ p. cond (numbered (bank_digits p.bsb) banks) (cond (numbered (bank_digits p.trace_bsb) banks) None (no (number Number) 81)) (no (number Number) 2);
  tally = λ _. None;
}
