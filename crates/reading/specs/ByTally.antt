-- The trailer judged by the tally, as the program does: what its private steps promise each other.
use Rattle.std.specs.Prelude.{ℕ, ◌+◌, cond, List, Some, None, Ok, Option, Result, ◌==◌}
use Rattle.faults.specs.declared.Cause.TheVariants.{NoDetails}
use Rattle.faults.specs.declared.Fault.{Fault}
use Rattle.trailers.specs.declared.Trailer.{Trailer}
use Rattle.faults.specs.Faults.{fault_at}
use Rattle.trailers.specs.Trailers.{trailer_fault, trailer_value}
use Rattle.tally.specs.declared.Row.{Row}
use Rattle.houses.specs.Rules.{Rules}
use Rattle.tally.specs.Tallies.{TallyOf, apart, rows_credit, rows_debit, rows_count}
use Rattle.reading.specs.Reading.{past, totals_fault, tally_refused, after_fault, SummaryOf}

-- the totals that a tally's rows come to
abbrev pub tally_totals : List Row → Trailer
tally_totals rows = record { net = apart (rows_credit rows) (rows_debit rows); credit = rows_credit rows; debit = rows_debit rows; count = rows_count rows }

-- a tally without payments
abbrev pub count_fault : ℕ → List Row → Option Fault
count_fault line rows = cond (rows_count rows == 0) (Some (fault_at NoDetails line 1)) None

-- the columns of a trailer after a tally, and the bytes that follow it
abbrev pub tally_closing : Rules → ℕ → TallyOf → List ℕ → List ℕ → Result SummaryOf Fault
tally_closing R line t bs after =
    past (trailer_fault line bs)
    (past (count_fault line t.rows)
    (past (totals_fault line (trailer_value bs) (tally_totals t.rows))
    (past (tally_refused line (R.tally t))
    (past (after_fault (line + 1) after) (Ok (record { tally = t; totals = trailer_value bs }))))))
