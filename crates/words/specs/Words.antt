-- What words say: a number, a bank, a house.
use Rattle.std.specs.Prelude.{ℕ, ◌+◌, ◌^◌, Bool, true, cond, not, ◌&&◌, List, [], ◌∷◌, ◌++◌, length, map, take, drop, Some, None, Ok, Err, codes, Option, Result, is_ok, ◌==◌, nat_lt}
use Rattle.std.specs.Option.{option_map, option_or}
use Rattle.std.specs.Bool.{then_some}
use Rattle.std.specs.Result as results
use Rattle.std.specs.List.{prefix_len}
use Rattle.std.specs.Str.{bytes_eq}
use Rattle.kinds.specs.Kinds.{answered}
use Rattle.fields.specs.Numbers.{digit, number_from}
use Rattle.book.specs.declared.book.Row.{Row}
use Rattle.book.specs.Books.{row_fault}
use Rattle.book.specs.Held.{Held}
use Rattle.listed.specs.Listed.{BankOf, bank_wrong}
use Rattle.words.specs.declared.Choice.{Choice}
use Rattle.words.specs.declared.Choice.TheVariants.{Plain, Listed, Balanced}
use Rattle.words.specs.declared.Unmade.{Unmade}
use Rattle.words.specs.declared.Unmade.TheVariants.{Words, Refused}

abbrev pub all_digits : List ℕ → Bool
all_digits [] = true
all_digits (b ∷ bs) = digit b && all_digits bs

-- the number that digits write after n, if it is below 2^64
abbrev pub said_after : ℕ → List ℕ → Option ℕ
said_after n bs = then_some (all_digits bs && nat_lt (number_from n bs) (2 ^ 64)) (number_from n bs)

-- the number that at least one digit writes, if it is below 2^64
abbrev pub number_said : List ℕ → Option ℕ
number_said bs = cond (length bs == 0) None (said_after 0 bs)

abbrev pub no_equals : ℕ → Bool
no_equals b = not (b == 61)

-- how many bytes stand before the first equals sign, or at all where there is none
abbrev pub before_equals : List ℕ → ℕ
before_equals word = prefix_len no_equals word

-- the bank that a word says: its number stands before the first equals sign, its name after that
abbrev pub bank_said : List ℕ → Option BankOf
bank_said word = cond (nat_lt (before_equals word) (length word)) (option_map (λ n. record { number = n; name = drop (before_equals word + 1) word }) (number_said (take (before_equals word) word))) None

-- what a list answers to the bank that a word says, if it says one
abbrev pub listing : {V : Type 0} → Held V → Option BankOf → Result (Unit {0}) Unmade
listing list None = Err Words
listing list (Some bank) = results.result_map_both (λ u. u) Refused (answered (option_or (bank_wrong bank) (row_fault list bank.number)) tt)

-- banks with the one that is said at the end
abbrev pub with_said : List BankOf → Option BankOf → List BankOf
with_said banks None = banks
with_said banks (Some bank) = banks ++ bank ∷ []

-- a book of these banks, with room for so many
abbrev pub row_of : BankOf → Row (List ℕ)
row_of bank = record { number = bank.number; value = bank.name }

abbrev pub book_of : ℕ → List BankOf → Held (List ℕ)
book_of room banks = record { rows = map row_of banks; room = room }

-- what a list of these banks, with room for so many, answers to words one after another, up to the first that is refused
abbrev pub listing_all : ℕ → List BankOf → List (List ℕ) → Result (Unit {0}) Unmade
listing_all room banks [] = Ok tt
listing_all room banks (word ∷ words) =
    cond (is_ok (listing (book_of room banks) (bank_said word))) (listing_all room (with_said banks (bank_said word)) words) (listing (book_of room banks) (bank_said word))

-- the banks that are on the list then
abbrev pub listed_all : ℕ → List BankOf → List (List ℕ) → List BankOf
listed_all room banks [] = banks
listed_all room banks (word ∷ words) = cond (is_ok (listing (book_of room banks) (bank_said word))) (listed_all room (with_said banks (bank_said word)) words) banks

-- a house, and what words say that it is made from
pub data HouseOf : Type 0 where
  plain : HouseOf
  listed : HouseOf
  balanced : ℕ → List ℕ → HouseOf

-- a choice of the program as one of the definitions
abbrev pub house_of : Choice → HouseOf
house_of Plain = plain
house_of Listed = listed
house_of (Balanced bsb account) = balanced bsb account.now

-- a BSB, which is a number, an account, and no word more
abbrev pub settling : List (List ℕ) → Option HouseOf
settling [] = None
settling (bsb ∷ []) = None
settling (bsb ∷ account ∷ []) = option_map (λ n. balanced n account) (number_said bsb)
settling (bsb ∷ account ∷ more ∷ rest) = None

-- the house of a name and the words after it: plain alone, listed and its bank lines, balanced and what it settles through
abbrev pub house_said : List ℕ → List (List ℕ) → Option HouseOf
house_said name rest =
    cond (bytes_eq name (codes "plain") && length rest == 0) (Some plain)
    (cond (bytes_eq name (codes "listed")) (Some listed)
    (cond (bytes_eq name (codes "balanced")) (settling rest) None))

-- the house that words choose
abbrev pub chosen : List (List ℕ) → Option HouseOf
chosen [] = None
chosen (name ∷ rest) = house_said name rest
