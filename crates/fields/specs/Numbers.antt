-- Fields of digits: numbers, codes, BSBs and dates.
use Rattle.std.specs.Prelude.{ℕ, zero, suc, ◌+◌, ◌-◌, ◌*◌, ◌/◌, ◌%◌, ◌^◌, Bool, cond, not, ◌&&◌, ◌||◌, leb, List, [], ◌∷◌, ◌++◌, take, drop, Some, None, Option, ◌==◌, nat_le, nat_lt}
use Rattle.faults.specs.declared.Cause.{Cause}
use Rattle.faults.specs.declared.Cause.TheVariants.{TooWide, Empty, NoSuchValue}
use Rattle.fields.specs.declared.date.Date.{Date}
use Rattle.faults.specs.declared.Misfit.{Misfit}
use Rattle.kinds.specs.Kinds.{Kind, AllFrom}

-- the first column of a field is where it is refused as a whole
abbrev pub whole : Cause → Misfit
whole cause = record { cause = cause; offset = 0 }

-- nothing where the test passes, else the cause
abbrev pub unless : Bool → Cause → Option Misfit
unless test cause = cond test None (Some (whole cause))

abbrev pub digit : ℕ → Bool
digit b = nat_le 48 b && nat_le b 57

abbrev pub AllDigits : List ℕ → Type 0
AllDigits bs = AllFrom (λ _ b. digit b) 0 bs

-- the number that digits write, after n
abbrev pub number_from : ℕ → List ℕ → ℕ
number_from n [] = n
number_from n (b ∷ bs) = number_from (n * 10 + (b - 48)) bs

abbrev pub number_of : List ℕ → ℕ
number_of bs = number_from 0 bs

-- a number in w columns, right justified, zero filled
abbrev pub digits : ℕ → ℕ → List ℕ
digits zero n = []
digits (suc w) n = digits w (n / 10) ++ ((48 + n % 10) ∷ [])

-- digits that write a number which passes a test; one that does not is refused for the cause
abbrev pub numeral : ℕ → (ℕ → Bool) → Cause → Kind
numeral w test cause = record {
  Value = ℕ;
  width = w;
  admits = λ _ b. digit b;
  flaw = λ bs. unless (test (number_of bs)) cause;
  value = number_of;
  wrong = λ n. cond (nat_lt n (10 ^ w)) (unless (test n) cause) (Some (whole TooWide));
  spell = digits w;
}

-- a number that is at least the given one: at least 0 is any, at least 1 is above zero
abbrev pub number_kind : ℕ → ℕ → Kind
number_kind w least = numeral w (leb least) Empty

-- the transaction codes: 13 is a debit, 50 to 57 are credits
abbrev pub in_table : ℕ → Bool
in_table n = n == 13 || (nat_le 50 n && nat_le n 57)

abbrev pub code_kind : Kind
code_kind = numeral 2 in_table NoSuchValue

-- a bank, state and branch: three digits, a hyphen, three digits
abbrev pub bsb_kind : Kind
bsb_kind = record {
  Value = ℕ;
  width = 7;
  admits = λ place b. cond (place == 3) (b == 45) (digit b);
  flaw = λ _. None;
  value = λ bs. number_of (take 3 bs) * 1000 + number_of (drop 4 bs);
  wrong = λ n. unless (nat_lt n 1000000) TooWide;
  spell = λ n. digits 3 (n / 1000) ++ (45 ∷ digits 3 (n % 1000));
}

abbrev pub leap : ℕ → Bool
leap year = year % 4 == 0 && (not (year % 100 == 0) || year % 400 == 0)

abbrev pub days_in : ℕ → ℕ → ℕ
days_in year month = cond (month == 2) (cond (leap year) 29 28) (cond (month == 4 || (month == 6 || (month == 9 || month == 11))) 30 31)

abbrev pub a_day : Date → Bool
a_day d = nat_le 1 d.month && (nat_le d.month 12 && (nat_le 1 d.day && nat_le d.day (days_in d.year d.month)))

abbrev pub date_of : List ℕ → Date
date_of bs = record { day = number_of (take 2 bs); month = number_of (take 2 (drop 2 bs)); year = 2000 + number_of (drop 4 bs) }

-- a day of the years 2000 to 2099, as DDMMYY
abbrev pub date_kind : Kind
date_kind = record {
  Value = Date;
  width = 6;
  admits = λ _ b. digit b;
  flaw = λ bs. unless (a_day (date_of bs)) NoSuchValue;
  value = date_of;
  wrong = λ d. cond (nat_le 2000 d.year && nat_le d.year 2099) (unless (a_day d) NoSuchValue) (Some (whole TooWide));
  spell = λ d. digits 2 d.day ++ (digits 2 d.month ++ digits 2 (d.year - 2000));
}
