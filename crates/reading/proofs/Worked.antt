-- The worked cases compute.
use Rattle.std.proofs.Common.{refl}
use Rattle.headers.specs.Headers.{header_fault, header_value}
use Rattle.payments.specs.Payments.{payment_fault, payment_value}
use Rattle.reading.specs.Reading.{read_of}
use Rattle.reading.specs.Worked.{Worked}

pub worked : Worked
unfolding header_fault header_value payment_fault payment_value read_of
worked = record {
  leap_day = refl;
  leap_date = refl;
  no_leap_day = (refl, refl, refl);
  account_of_zeros = (refl, refl, refl);
  account_in_two = (refl, refl, refl);
  no_cents = (refl, refl, refl);
  one_cent = refl;
  one_cent_is = refl;
  tax_unmarked = (refl, refl, refl);
  tax_marked = refl;
  empty_file = λ _. (refl, refl, refl);
  one_byte_short = λ _. (refl, refl, refl);
}
