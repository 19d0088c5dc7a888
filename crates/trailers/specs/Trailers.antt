-- The trailer: its columns, its values, what is wrong with one, and its spelling.
use Rattle.std.specs.Prelude.{ℕ, List, [], ◌∷◌, None, codes, Option}
use Rattle.faults.specs.declared.Fault.{Fault}
use Rattle.kinds.specs.Forms.{Form, record_value, record_fault, record_wrong, record_bytes}
use Rattle.kinds.specs.Kinds.{Kind}
use Rattle.kinds.specs.Layouts.{Values}
use Rattle.fields.specs.Numbers.{number_kind}
use Rattle.fields.specs.Texts.{fixed_kind, blank}
use Rattle.trailers.specs.declared.Trailer.{Trailer}

-- the kinds of its columns
abbrev pub trailer_row : List Kind
trailer_row =
    -- columns 1 to 20: 999-999 follows the record's 7, and 12 blanks follow that
    fixed_kind (codes "7999-999            ")
    -- 21 to 30: net
    ∷ number_kind 10 0
    -- 31 to 40: the credit total
    ∷ number_kind 10 0
    -- 41 to 50: the debit total
    ∷ number_kind 10 0
    -- 51 to 74
    ∷ blank 24
    -- 75 to 80: the number of details
    ∷ number_kind 6 0
    -- 81 to 120
    ∷ blank 40
    ∷ []

abbrev pub trailer_values : Trailer → Values trailer_row
trailer_values t = (tt, (t.net, (t.credit, (t.debit, (tt, (t.count, (tt, tt)))))))

abbrev pub trailer_from : Values trailer_row → Trailer
trailer_from v = record { net = v.1.0; credit = v.1.1.0; debit = v.1.1.1.0; count = v.1.1.1.1.1.0 }

-- nothing is wrong with proper fields taken together
abbrev pub trailer_form : Form
trailer_form = record { Value = Trailer; row = trailer_row; said = trailer_from; fields = trailer_values; flaw = λ _ _. None }

-- the first fault of 120 bytes that are a trailer, and what they say where there is none
unfoldable pub trailer_fault : ℕ → List ℕ → Option Fault
trailer_fault = record_fault trailer_form

unfoldable pub trailer_value : List ℕ → Trailer
trailer_value = record_value trailer_form

-- what a trailer's values are refused for, and how those that are not refused are spelled
unfoldable pub trailer_wrong : Trailer → Option Fault
trailer_wrong = record_wrong trailer_form

unfoldable pub trailer_bytes : Trailer → List ℕ
trailer_bytes = record_bytes trailer_form
