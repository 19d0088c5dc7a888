-- A record given by its values: the row of its fields, and what may be wrong with the values taken together.
use Rattle.std.specs.Prelude.{◌≡◌, ℕ, List, None, Option}
use Rattle.std.specs.Option.{option_or}
use Rattle.faults.specs.declared.Fault.{Fault}
use Rattle.kinds.specs.Kinds.{Kind}
use Rattle.kinds.specs.Layouts.{AllLawful, Values, size, start, first_fault, values, form_fault, spelled}

pub record Form : Type 1 where
  pub Value : Type 0
  pub row : List Kind
  -- what the fields say, and the fields of what is said
  pub said : Values row → Value
  pub fields : Value → Values row
  -- what is wrong with proper fields taken together, on a line
  pub flaw : ℕ → Value → Option Fault

-- what the columns of a record say
abbrev pub record_value : (f : Form) → List ℕ → f.Value
record_value f bs = f.said (values f.row bs)

-- the first fault of the columns of a record that stands on a line
abbrev pub record_fault : Form → ℕ → List ℕ → Option Fault
record_fault f line bs = option_or (first_fault f.row (start line) bs) (f.flaw line (record_value f bs))

-- what a form is refused for, and how one that is not refused is spelled
abbrev pub record_wrong : (f : Form) → f.Value → Option Fault
record_wrong f v = option_or (form_fault f.row (start 0) (f.fields v)) (f.flaw 0 v)

abbrev pub record_bytes : (f : Form) → f.Value → List ℕ
record_bytes f v = spelled f.row (f.fields v)

-- what every form owes
pub record LawfulForm (f : Form) : Type 0 where
  pub lawful : AllLawful f.row
  pub wide : size f.row ≡ 120
  pub fields_said : (v : f.Value) → f.said (f.fields v) ≡ v
  pub said_fields : (u : Values f.row) → f.fields (f.said u) ≡ u
  -- what is wrong on one line is wrong on each
  pub flaw_anywhere : (i j : ℕ) (v : f.Value) → f.flaw i v ≡ None → f.flaw j v ≡ None
