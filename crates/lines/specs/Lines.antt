-- One line of a file: its length, its end, and which record it is.
use Rattle.std.specs.Borrow.{Bor}
use Rattle.std.specs.Prelude.{ℕ, ◌+◌, cond, List, length, take, drop, Some, None, Ok, Err, Option, Result, ◌==◌, nat_lt, slice_index}
use Rattle.faults.specs.declared.Cause.TheVariants.{Short, LineEnd, RecordType}
use Rattle.faults.specs.declared.Fault.{Fault}
use Rattle.faults.specs.Faults.{fault_at}
use Rattle.lines.specs.declared.columns.Line.{Line}
use Rattle.lines.specs.declared.Tag.{Tag}
use Rattle.lines.specs.declared.Tag.TheVariants.{Detail, Trailer}

-- what is wrong with the bytes where a record is due: fewer than 122, or no CR LF after 120
abbrev pub line_fault : ℕ → List ℕ → Option Fault
line_fault line rest =
    cond (nat_lt (length rest) 122) (Some (fault_at Short line (length rest + 1)))
    (cond (slice_index rest 120 == 13)
    (cond (slice_index rest 121 == 10) None (Some (fault_at LineEnd line 122)))
    (Some (fault_at LineEnd line 121)))

abbrev pub no_record : ℕ → Fault
no_record line = fault_at RecordType line 1

-- line 1 is due a header
abbrev pub head_fault : ℕ → ℕ → Option Fault
head_fault line byte = cond (byte == 48) None (Some (no_record line))

-- a later line is due a detail or the trailer
abbrev pub tagged : ℕ → ℕ → Result Tag Fault
tagged line byte = cond (byte == 49) (Ok Detail) (cond (byte == 55) (Ok Trailer) (Err (no_record line)))

-- a line's number and columns, and what follows it
abbrev pub cut : ℕ → List ℕ → (ℕ × List ℕ) × List ℕ
cut number rest = ((number, take 120 rest), drop 122 rest)

abbrev pub cut_of : Line × Bor (List ℕ) → (ℕ × List ℕ) × List ℕ
cut_of c = ((c.0.number, c.0.columns.now), c.1.now)
