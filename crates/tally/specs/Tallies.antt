-- What payments come to: a row for each code, the last payment, and the totals of each side.
use Rattle.std.specs.Prelude.{ℕ, ◌+◌, ◌-◌, ◌^◌, min, max, Bool, cond, List, [], ◌∷◌, map, length, take, drop, Some, None, sum_by, count_by, Option, ◌==◌, nat_eq, slice_index_or, slice_set}
use Rattle.std.specs.List.{last_or}
use Rattle.std.specs.Option.{option_map}
use Rattle.fields.specs.Numbers.{in_table}
use Rattle.trailers.specs.declared.Trailer.{Trailer}
use Rattle.payments.specs.Payments.{PaymentOf}
use Rattle.tally.specs.declared.Row.{Row}
use Rattle.tally.specs.declared.Last.{Last}
use Rattle.tally.specs.declared.Tally.{Tally}

abbrev pub no_row : Row
no_row = record { count = 0; cents = 0 }

-- the last payment, by what a house is shown of it
pub record LastOf : Type 0 where
  pub bsb : ℕ
  pub account : List ℕ
  pub code : ℕ

-- a tally by its values
pub record TallyOf : Type 0 where
  pub rows : List Row
  pub last : Option LastOf

abbrev pub last_of : Last → LastOf
last_of l = record { bsb = l.bsb; account = l.account.now; code = l.code }

abbrev pub tally_of : Tally → TallyOf
tally_of t = record { rows = t.rows; last = option_map last_of t.last }

-- the nine codes, in the order of their rows
abbrev pub the_codes : List ℕ
the_codes = 13 ∷ 50 ∷ 51 ∷ 52 ∷ 53 ∷ 54 ∷ 55 ∷ 56 ∷ 57 ∷ []

abbrev pub is_debit : PaymentOf → Bool
is_debit p = p.code == 13

-- how many payments have a code, and their cents
abbrev pub row_for : List PaymentOf → ℕ → Row
row_for ps code = record { count = count_by (λ p. nat_eq p.code code) ps; cents = sum_by (λ p. cond (p.code == code) p.cents 0) ps }

abbrev pub shown_last : PaymentOf → LastOf
shown_last p = record { bsb = p.bsb; account = p.account; code = p.code }

abbrev pub last_payment : List PaymentOf → Option LastOf
last_payment ps = last_or None (map shown_last ps)

-- the tally of some payments
abbrev pub tallied : List PaymentOf → TallyOf
tallied ps = record { rows = map (row_for ps) the_codes; last = last_payment ps }

-- the cents of each side
abbrev pub credits : List PaymentOf → ℕ
credits ps = sum_by (λ p. cond (is_debit p) 0 p.cents) ps

abbrev pub debits : List PaymentOf → ℕ
debits ps = sum_by (λ p. cond (is_debit p) p.cents 0) ps

-- the larger less the smaller
abbrev pub apart : ℕ → ℕ → ℕ
apart m n = max m n - min m n

-- the totals of some payments, as their trailer says them
abbrev pub totals : List PaymentOf → Trailer
totals ps = record { net = apart (credits ps) (debits ps); credit = credits ps; debit = debits ps; count = length ps }

-- the sums of a tally's rows: the first is the debits', the others are the credits'
abbrev pub rows_cents : List Row → ℕ
rows_cents rows = sum_by (λ r. r.cents) rows

abbrev pub rows_debit : List Row → ℕ
rows_debit rows = rows_cents (take 1 rows)

abbrev pub rows_credit : List Row → ℕ
rows_credit rows = rows_cents (drop 1 rows)

abbrev pub rows_count : List Row → ℕ
rows_count rows = sum_by (λ r. r.count) rows

-- how many payments are on the side of a code
abbrev pub side_count : List Row → ℕ → ℕ
side_count rows code = rows_count (cond (code == 13) (take 1 rows) (drop 1 rows))

-- counts and cents stop at the largest number of 64 bits
abbrev pub capped : ℕ → ℕ
capped n = min n (2 ^ 64 - 1)

-- the place of a code's row; a code that is not in the table has none
abbrev pub place_of : ℕ → Option ℕ
place_of code = cond (in_table code) (Some (cond (code == 13) 0 (code - 49))) None

abbrev pub one_more : Row → ℕ → Row
one_more row cents = record { count = capped (row.count + 1); cents = capped (row.cents + cents) }

-- rows with one payment more, at a place if any
abbrev pub row_added : List Row → Option ℕ → ℕ → List Row
row_added rows None cents = rows
row_added rows (Some place) cents = slice_set rows place (one_more (slice_index_or rows place no_row) cents)

-- a tally with one payment more
abbrev pub with_payment : TallyOf → PaymentOf → TallyOf
with_payment t p = record { rows = row_added t.rows (place_of p.code) p.cents; last = Some (shown_last p) }
