-- The reading of a file, line by line: its payments, or the first fault.
use Rattle.std.specs.Prelude.{◌≡◌, ℕ, zero, suc, ◌+◌, ◌*◌, cond, List, [], ◌∷◌, ◌++◌, length, take, drop, Some, None, Ok, Err, Option, Result, ◌==◌, slice_index}
use Rattle.faults.specs.declared.Cause.TheVariants.{TooManyDetails, HouseRefused, NoDetails, WrongTotal, TallyRefused, BytesAfter}
use Rattle.faults.specs.declared.Fault.{Fault}
use Rattle.kinds.specs.Kinds.{answered}
use Rattle.lines.specs.declared.Tag.{Tag}
use Rattle.lines.specs.declared.Tag.TheVariants.{Detail, Trailer as IsTrailer}
use Rattle.trailers.specs.declared.Trailer.{Trailer}
use Rattle.headers.specs.Headers.{header_fault, header_value}
use Rattle.faults.specs.Faults.{fault_at}
use Rattle.lines.specs.Lines.{line_fault, head_fault, tagged}
use Rattle.payments.specs.Payments.{PaymentOf, payment_fault, payment_value}
use Rattle.reading.specs.Records.{RecordOf, a_header, a_detail, a_trailer}
use Rattle.trailers.specs.Trailers.{trailer_fault, trailer_value}
use Rattle.houses.specs.declared.objection.Objection.{Objection}
use Rattle.houses.specs.Rules.{Rules}
use Rattle.tally.specs.Tallies.{TallyOf, tally_of, tallied, totals}
use Rattle.reading.specs.declared.summary.Summary.{Summary}

-- a refusal, or else what comes then
abbrev pub past : {X : Type 0} → Option Fault → Result X Fault → Result X Fault
past None later = later
past (Some f) later = Err f

-- what comes after a step that went well
abbrev pub and_then : {X Y : Type 0} → Result X Fault → (X → Result Y Fault) → Result Y Fault
and_then (Ok x) later = later x
and_then (Err f) later = Err f

-- a house's no to a header or a payment, and to a tally
abbrev pub objected : ℕ → Option Objection → Option Fault
objected line None = None
objected line (Some o) = Some (fault_at (HouseRefused o.reason) line o.column)

abbrev pub tally_refused : ℕ → Option ℕ → Option Fault
tally_refused line None = None
tally_refused line (Some reason) = Some (fault_at (TallyRefused reason) line 1)

-- a file without payments
abbrev pub none_fault : ℕ → List PaymentOf → Option Fault
none_fault line ps = cond (length ps == 0) (Some (fault_at NoDetails line 1)) None

-- the first of the stated totals that is not the one due
abbrev pub totals_fault : ℕ → Trailer → Trailer → Option Fault
totals_fault line stated due =
    cond (stated.net == due.net)
    (cond (stated.credit == due.credit)
    (cond (stated.debit == due.debit)
    (cond (stated.count == due.count) None
    (Some (fault_at WrongTotal line 75)))
    (Some (fault_at WrongTotal line 41)))
    (Some (fault_at WrongTotal line 31)))
    (Some (fault_at WrongTotal line 21))

-- bytes after the trailer
abbrev pub after_fault : ℕ → List ℕ → Option Fault
after_fault line rest = cond (length rest == 0) None (Some (fault_at BytesAfter line 1))

-- the trailer, after some payments
abbrev pub closing : Rules → ℕ → List PaymentOf → List ℕ → Result (List PaymentOf) Fault
closing R line ps rest =
    past (trailer_fault line (take 120 rest))
    (past (none_fault line ps)
    (past (totals_fault line (trailer_value (take 120 rest)) (totals ps))
    (past (tally_refused line (R.tally (tallied ps)))
    (past (after_fault (line + 1) (drop 122 rest)) (Ok ps)))))

-- a detail or the trailer
abbrev pub by_tag : {X : Type 0} → Result Tag Fault → Result X Fault → Result X Fault → Result X Fault
by_tag (Err f) detail trailer = Err f
by_tag (Ok Detail) detail trailer = detail
by_tag (Ok IsTrailer) detail trailer = trailer

-- line 1 by what follows it, where it is a header that the house agrees to
abbrev pub opening : Rules → List ℕ → Result (List ℕ) Fault
opening R bytes =
    past (line_fault 1 bytes)
    (past (head_fault 1 (slice_index bytes 0))
    (past (header_fault 1 (take 120 bytes))
    (past (objected 1 (R.header (header_value (take 120 bytes))))
    (Ok (drop 122 bytes)))))

-- the payment of a detail that the house agrees to, by its columns
abbrev pub agreed : Rules → ℕ → List ℕ → Result PaymentOf Fault
agreed R line bs = past (payment_fault line bs) (past (objected line (R.payment (payment_value bs))) (Ok (payment_value bs)))

-- what is left of a file after its header and some payments, where so many details may still come
abbrev pub details : Rules → ℕ → ℕ → List PaymentOf → List ℕ → Result (List PaymentOf) Fault
details R zero line ps rest =
    past (line_fault line rest) (by_tag (tagged line (slice_index rest 0)) (Err (fault_at TooManyDetails line 1)) (closing R line ps rest))
details R (suc left) line ps rest =
    past (line_fault line rest) (by_tag (tagged line (slice_index rest 0))
    (and_then (agreed R line (take 120 rest)) (λ p. details R left (line + 1) (ps ++ (p ∷ [])) (drop 122 rest)))
    (closing R line ps rest))

-- the payments of a file, or its first fault
unfoldable pub read_of : Rules → List ℕ → Result (List PaymentOf) Fault
read_of R bytes = and_then (opening R bytes) (details R 999999 2 [])

-- a summary by its values
pub record SummaryOf : Type 0 where
  pub tally : TallyOf
  pub totals : Trailer

abbrev pub summary_of : Summary → SummaryOf
summary_of s = record { tally = tally_of s.tally; totals = s.totals }

-- what some payments come to
abbrev pub summed : List PaymentOf → SummaryOf
summed ps = record { tally = tallied ps; totals = totals ps }

-- reading answers with the payments' summary in the place, or with the fault and the place as it was
abbrev pub Answers : Result (List PaymentOf) Fault → SummaryOf → Result (Unit {0}) Fault → SummaryOf → Type 0
Answers (Ok ps) before r after = (r ≡ Ok tt) × (after ≡ summed ps)
Answers (Err f) before r after = (r ≡ Err f) × (after ≡ before)

-- the bytes of a file from a line on; line 0 is a line with no bytes
abbrev pub rest_at : List ℕ → ℕ → List ℕ
rest_at file zero = []
rest_at file (suc n) = drop (122 * n) file

-- what the columns of line 1, and of a later line, say by themselves
abbrev pub first_at : ℕ → List ℕ → Result RecordOf Fault
first_at line bs = past (head_fault line (slice_index bs 0)) (answered (header_fault line bs) (a_header (header_value bs)))

abbrev pub later_at : ℕ → List ℕ → Result RecordOf Fault
later_at line bs =
    by_tag (tagged line (slice_index bs 0))
    (answered (payment_fault line bs) (a_detail (payment_value bs)))
    (answered (trailer_fault line bs) (a_trailer (trailer_value bs)))

-- what a line says by itself, or its first fault
abbrev pub record_at : ℕ → List ℕ → Result RecordOf Fault
record_at line rest = past (line_fault line rest) (cond (line == 1) (first_at line (take 120 rest)) (later_at line (take 120 rest)))
