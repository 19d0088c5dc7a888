-- Worked cases, as one statement about the definitions.
use Rattle.std.specs.Prelude.{◌≡◌, ℕ, List, [], ◌++◌, replicate, Some, None, Ok, Err, codes, Option, Result}
use Prim.Native.String.{String}
use Rattle.faults.specs.declared.Fault.{Fault}
use Rattle.faults.specs.Faults.{number}
use Rattle.headers.specs.Headers.{header_fault, header_value}
use Rattle.payments.specs.Payments.{payment_fault, payment_value}
use Rattle.houses.specs.Rules.{Rules}
use Rattle.reading.specs.Reading.{read_of}

-- a header for the day that six digits say
abbrev pub header_on : String → List ℕ
header_on day = codes "0                 01BQL       RIDGE COACHES             301500DRIVER PAY  " ++ (codes day ++ replicate 40 32)

-- a detail with this account, mark, cents and tax
abbrev pub detail_with : String → String → String → String → List ℕ
detail_with account mark cents tax =
    codes "1062-000" ++ (codes account ++ (codes mark ++ (codes "53" ++ (codes cents
    ++ (codes "NGUYEN. Kim                     WEEK 09           124-001 77001234RIDGE COACHES   " ++ codes tax)))))

-- the number, line and column of a refusal
abbrev pub RefusedBy : ℕ → ℕ → ℕ → Fault → Type 0
RefusedBy n line column f = (number f.cause ≡ n) × (f.line ≡ line) × (f.column ≡ column)

abbrev pub Refused : Option Fault → ℕ → ℕ → ℕ → Type 0
Refused None n line column = ⊥
Refused (Some f) n line column = RefusedBy n line column f

abbrev pub NotRead : {X : Type 0} → Result X Fault → ℕ → ℕ → ℕ → Type 0
NotRead (Ok x) n line column = ⊥
NotRead (Err f) n line column = RefusedBy n line column f

pub record Worked : Type 0 where
  pub leap_day : header_fault 1 (header_on "290224") ≡ None
  pub leap_date : (header_value (header_on "290224")).date ≡ record { day = 29; month = 2; year = 2024 }
  pub no_leap_day : Refused (header_fault 1 (header_on "290223")) 10 1 75
  pub account_of_zeros : Refused (payment_fault 2 (detail_with "000000000" " " "0000125050" "00000000")) 8 2 9
  pub account_in_two : Refused (payment_fault 2 (detail_with "1 2345678" " " "0000125050" "00000000")) 9 2 10
  pub no_cents : Refused (payment_fault 2 (detail_with " 12345678" " " "0000000000" "00000000")) 8 2 21
  pub one_cent : payment_fault 2 (detail_with " 12345678" " " "0000000001" "00000000") ≡ None
  pub one_cent_is : (payment_value (detail_with " 12345678" " " "0000000001" "00000000")).cents ≡ 1
  pub tax_unmarked : Refused (payment_fault 2 (detail_with " 12345678" " " "0000125050" "00000001")) 11 2 113
  pub tax_marked : payment_fault 2 (detail_with " 12345678" "W" "0000125050" "00000001") ≡ None
  pub empty_file : (R : Rules) → NotRead (read_of R []) 1 1 1
  pub one_byte_short : (R : Rules) → NotRead (read_of R (replicate 121 32)) 1 1 122
