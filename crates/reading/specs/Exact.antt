-- Which files there are: the spelling of a header and payments that the rules agree to, and nothing else.
use Rattle.std.specs.Prelude.{◌≡◌, ℕ, ◌≤◌, List, [], ◌∷◌, ◌++◌, length, None, Ok, Result}
use Rattle.std.specs.List.{flat_map, AllByRecursion}
use Rattle.faults.specs.declared.Fault.{Fault}
use Rattle.headers.specs.Headers.{HeaderOf, header_wrong, header_bytes}
use Rattle.payments.specs.Payments.{PaymentOf, payment_wrong, payment_bytes}
use Rattle.trailers.specs.Trailers.{trailer_bytes}
use Rattle.houses.specs.Rules.{Rules}
use Rattle.tally.specs.Tallies.{tallied, totals, credits, debits}
use Rattle.reading.specs.Reading.{SummaryOf, summed}

-- a record is followed by CR LF
abbrev pub line_of : List ℕ → List ℕ
line_of bs = bs ++ (13 ∷ 10 ∷ [])

-- a header, its payments and their trailer
abbrev pub file_of : HeaderOf → List PaymentOf → List ℕ
file_of h ps = line_of (header_bytes h) ++ (flat_map (λ p. line_of (payment_bytes p)) ps ++ line_of (trailer_bytes (totals ps)))

-- a payment that the layout admits and the house agrees to
abbrev pub Agreed : Rules → PaymentOf → Type 0
Agreed R p = (payment_wrong p ≡ None) × (R.payment p ≡ None)

-- a header and payments of which there may be a file
pub record Admissible (R : Rules) (h : HeaderOf) (ps : List PaymentOf) : Type 0 where
  pub header_admitted : header_wrong h ≡ None
  pub header_agreed : R.header h ≡ None
  pub payments_agreed : AllByRecursion (Agreed R) ps
  pub some : 1 ≤ length ps
  pub most : length ps ≤ 999999
  pub credits_fit : credits ps ≤ 9999999999
  pub debits_fit : debits ps ≤ 9999999999
  pub tally_agreed : R.tally (tallied ps) ≡ None

-- bytes that are the file of these payments, under some header
pub record FileOf (R : Rules) (bytes : List ℕ) (ps : List PaymentOf) : Type 0 where
  pub header : HeaderOf
  pub admissible : Admissible R header ps
  pub spelled : bytes ≡ file_of header ps

-- what `read` promises in these words: it accepts exactly the files that there are, and then with their payments' summary
pub record Exact (R : Rules) (bytes : List ℕ) (r : Result (Unit {0}) Fault) (place : SummaryOf) : Type 0 where
  pub only : r ≡ Ok tt → (ps : List PaymentOf) × FileOf R bytes ps × (place ≡ summed ps)
  pub all : (ps : List PaymentOf) → FileOf R bytes ps → (r ≡ Ok tt) × (place ≡ summed ps)
