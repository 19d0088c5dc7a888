-- The balanced house: each file settles through one account, which its last payment names.
use Rattle.std.specs.Prelude.{ℕ, ◌+◌, Bool, cond, ◌&&◌, ◌||◌, List, take, Some, None, codes, Option, ◌==◌}
use Rattle.std.specs.Option.{option_map, option_or}
use Rattle.std.specs.List.{position}
use Rattle.std.specs.Str.{bytes_eq}
use Rattle.faults.specs.declared.Fault.{Fault}
use Rattle.kinds.specs.Kinds.{placed_at}
use Rattle.fields.specs.Numbers.{bsb_kind}
use Rattle.fields.specs.Texts.{account_kind}
use Rattle.headers.specs.Headers.{HeaderOf}
use Rattle.payments.specs.Payments.{PaymentOf}
use Rattle.houses.specs.declared.objection.Objection.{Objection}
use Rattle.houses.specs.Rules.{Rules, no}
use Rattle.balanced.specs.declared.Reason.{Reason}
use Rattle.balanced.specs.declared.Reason.TheVariants.{BankName, Code, Semicolon, SidesDiffer, NotSettling, NotAlone}
use Rattle.tally.specs.Tallies.{LastOf, TallyOf, rows_credit, rows_debit, side_count}

-- what a settling BSB and account are refused for, as in a form
abbrev pub balanced_wrong : ℕ → List ℕ → Option Fault
balanced_wrong bsb account = option_or (placed_at (record { line = 0; column = 2 }) (bsb_kind.wrong bsb)) (placed_at (record { line = 0; column = 9 }) (account_kind.wrong account))

-- how the reasons are numbered
abbrev pub number : Reason → ℕ
number BankName = 1
number Code = 2
number Semicolon = 3
number SidesDiffer = 4
number NotSettling = 5
number NotAlone = 6

-- the first semicolon of bytes, the first of which stands at the column
abbrev pub semicolon : ℕ → List ℕ → Option Objection
semicolon column bs = option_map (λ i. record { reason = number Semicolon; column = column + i }) (position (λ b. b == 59) bs)

-- the first semicolon of a text in its columns. Bytes past them are not looked at: a text that its kind admits has none, and those of another text have no column
abbrev pub in_text : ℕ → ℕ → List ℕ → Option Objection
in_text column width text = semicolon column (take width text)

-- the bank is BQL, and no semicolon stands in a text
abbrev pub balanced_header : HeaderOf → Option Objection
balanced_header h = cond (bytes_eq h.bank (codes "BQL")) (option_or (in_text 31 26 h.user_name) (in_text 63 12 h.description)) (no (number BankName) 21)

-- the code is neither 51 nor 52, and no semicolon stands in a text
abbrev pub balanced_payment : PaymentOf → Option Objection
balanced_payment p = cond (p.code == 51 || p.code == 52) (no (number Code) 19) (option_or (option_or (in_text 31 32 p.title) (in_text 63 18 p.reference)) (in_text 97 16 p.remitter))

-- the last payment is to the settling account
abbrev pub settles : ℕ → List ℕ → LastOf → Bool
settles bsb account last = last.bsb == bsb && bytes_eq last.account account

-- there is a last payment, which settles and is alone on its side
abbrev pub balanced_last : ℕ → List ℕ → TallyOf → Option LastOf → Option ℕ
balanced_last bsb account t None = Some (number NotSettling)
balanced_last bsb account t (Some last) = cond (settles bsb account last) (cond (side_count t.rows last.code == 1) None (Some (number NotAlone))) (Some (number NotSettling))

-- the sides come to the same cents, the last payment included
abbrev pub balanced_tally : ℕ → List ℕ → TallyOf → Option ℕ
balanced_tally bsb account t = cond (rows_credit t.rows == rows_debit t.rows) (balanced_last bsb account t t.last) (Some (number SidesDiffer))

abbrev pub balanced_rules : ℕ → List ℕ → Rules
balanced_rules bsb account = record { header = balanced_header; payment = balanced_payment; tally = balanced_tally bsb account }
