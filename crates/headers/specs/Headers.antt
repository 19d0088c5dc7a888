-- The header: its columns, its values, what is wrong with one, and its spelling.
use Rattle.std.specs.Prelude.{ℕ, List, [], ◌∷◌, None, codes, Option}
use Rattle.fields.specs.declared.date.Date.{Date}
use Rattle.faults.specs.declared.Fault.{Fault}
use Rattle.kinds.specs.Forms.{Form, record_value, record_fault, record_wrong, record_bytes}
use Rattle.kinds.specs.Kinds.{Kind}
use Rattle.kinds.specs.Layouts.{Values}
use Rattle.fields.specs.Numbers.{number_kind, date_kind}
use Rattle.fields.specs.Texts.{fixed_kind, text_kind, blank}
use Rattle.headers.specs.declared.Header.{Header}

-- a header by its values: texts as bytes without padding
pub record HeaderOf : Type 0 where
  pub bank : List ℕ
  pub user_name : List ℕ
  pub user_number : ℕ
  pub description : List ℕ
  pub date : Date

abbrev pub header_of : Header → HeaderOf
header_of h = record { bank = h.bank.now; user_name = h.user_name.now; user_number = h.user_number; description = h.description.now; date = h.date }

-- the kinds of its columns
abbrev pub header_row : List Kind
header_row =
    -- columns 1 to 20: 17 blanks stand between the record's 0 and the reel's 01
    fixed_kind (codes "0                 01")
    -- 21 to 23: the bank's name
    ∷ text_kind 3
    -- 24 to 30
    ∷ blank 7
    -- 31 to 56: the user's name
    ∷ text_kind 26
    -- 57 to 62: the user's number
    ∷ number_kind 6 0
    -- 63 to 74: the description
    ∷ text_kind 12
    -- 75 to 80: the day of payment
    ∷ date_kind
    -- 81 to 120
    ∷ blank 40
    ∷ []

abbrev pub header_values : HeaderOf → Values header_row
header_values h = (tt, (h.bank, (tt, (h.user_name, (h.user_number, (h.description, (h.date, (tt, tt))))))))

abbrev pub header_from : Values header_row → HeaderOf
header_from v = record { bank = v.1.0; user_name = v.1.1.1.0; user_number = v.1.1.1.1.0; description = v.1.1.1.1.1.0; date = v.1.1.1.1.1.1.0 }

-- nothing is wrong with proper fields taken together
abbrev pub header_form : Form
header_form = record { Value = HeaderOf; row = header_row; said = header_from; fields = header_values; flaw = λ _ _. None }

-- the first fault of 120 bytes that are a header, and what they say where there is none
unfoldable pub header_fault : ℕ → List ℕ → Option Fault
header_fault = record_fault header_form

unfoldable pub header_value : List ℕ → HeaderOf
header_value = record_value header_form

-- what a form is refused for, and how one that is not refused is spelled
unfoldable pub header_wrong : HeaderOf → Option Fault
header_wrong = record_wrong header_form

unfoldable pub header_bytes : HeaderOf → List ℕ
header_bytes = record_bytes header_form
