-- The detail: its columns, its values, what is wrong with one, and its spelling.
use Rattle.std.specs.Prelude.{ℕ, cond, ◌||◌, List, [], ◌∷◌, Some, None, codes, Option, ◌==◌}
use Rattle.faults.specs.declared.Cause.TheVariants.{TaxUnmarked}
use Rattle.faults.specs.declared.Fault.{Fault}
use Rattle.kinds.specs.Forms.{Form, record_value, record_fault, record_wrong, record_bytes}
use Rattle.kinds.specs.Kinds.{Kind}
use Rattle.kinds.specs.Layouts.{Values}
use Rattle.fields.specs.Numbers.{number_kind, code_kind, bsb_kind}
use Rattle.fields.specs.Texts.{fixed_kind, text_kind, account_kind, mark_kind, member}
use Rattle.payments.specs.declared.Payment.{Payment}

-- a payment by its values: texts and accounts as bytes without padding
pub record PaymentOf : Type 0 where
  pub bsb : ℕ
  pub account : List ℕ
  pub mark : ℕ
  pub code : ℕ
  pub cents : ℕ
  pub title : List ℕ
  pub reference : List ℕ
  pub trace_bsb : ℕ
  pub trace_account : List ℕ
  pub remitter : List ℕ
  pub tax : ℕ

abbrev pub payment_of : Payment → PaymentOf
payment_of p = record { bsb = p.bsb; account = p.account.now; mark = p.mark; code = p.code; cents = p.cents; title = p.title.now; reference = p.reference.now; trace_bsb = p.trace_bsb; trace_account = p.trace_account.now; remitter = p.remitter.now; tax = p.tax }

-- the kinds of its columns
abbrev pub payment_row : List Kind
payment_row =
    -- column 1
    fixed_kind (codes "1")
    -- 2 to 8: the BSB
    ∷ bsb_kind
    -- 9 to 17: the account
    ∷ account_kind
    -- 18: the mark
    ∷ mark_kind
    -- 19 and 20: the code
    ∷ code_kind
    -- 21 to 30: cents
    ∷ number_kind 10 1
    -- 31 to 62: the title of the account
    ∷ text_kind 32
    -- 63 to 80: the reference
    ∷ text_kind 18
    -- 81 to 87: the trace BSB
    ∷ bsb_kind
    -- 88 to 96: the trace account
    ∷ account_kind
    -- 97 to 112: the remitter
    ∷ text_kind 16
    -- 113 to 120: tax in cents
    ∷ number_kind 8 0
    ∷ []

abbrev pub payment_values : PaymentOf → Values payment_row
payment_values p = (tt, (p.bsb, (p.account, (p.mark, (p.code, (p.cents, (p.title, (p.reference, (p.trace_bsb, (p.trace_account, (p.remitter, (p.tax, tt))))))))))))

abbrev pub payment_from : Values payment_row → PaymentOf
payment_from v = record {
  bsb = v.1.0;
  account = v.1.1.0;
  mark = v.1.1.1.0;
  code = v.1.1.1.1.0;
  cents = v.1.1.1.1.1.0;
  title = v.1.1.1.1.1.1.0;
  reference = v.1.1.1.1.1.1.1.0;
  trace_bsb = v.1.1.1.1.1.1.1.1.0;
  trace_account = v.1.1.1.1.1.1.1.1.1.0;
  remitter = v.1.1.1.1.1.1.1.1.1.1.0;
  tax = v.1.1.1.1.1.1.1.1.1.1.1.0;
}

-- tax stands only beside one of the marks W, X, Y
abbrev pub tax_fault : ℕ → PaymentOf → Option Fault
tax_fault line p = cond (p.tax == 0 || member p.mark (codes "WXY")) None (Some (record { cause = TaxUnmarked; line = line; column = 113 }))

abbrev pub payment_form : Form
payment_form = record { Value = PaymentOf; row = payment_row; said = payment_from; fields = payment_values; flaw = tax_fault }

-- the first fault of 120 bytes that are a detail, and what they say where there is none
unfoldable pub payment_fault : ℕ → List ℕ → Option Fault
payment_fault = record_fault payment_form

unfoldable pub payment_value : List ℕ → PaymentOf
payment_value = record_value payment_form

-- what a form is refused for, and how one that is not refused is spelled
unfoldable pub payment_wrong : PaymentOf → Option Fault
payment_wrong = record_wrong payment_form

unfoldable pub payment_bytes : PaymentOf → List ℕ
payment_bytes = record_bytes payment_form
