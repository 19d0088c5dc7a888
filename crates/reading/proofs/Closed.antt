-- The trailer of some payments, and what its being read says of them.
use Rattle.std.proofs.Common.{◌≡◌, ℕ, ◌+◌, ◌^◌, ◌<◌, ◌≤◌, List, [], ◌++◌, length, take, drop, None, Ok, refl, ap, ◌∙◌, subst, append-nil, arith}
use Rattle.std.proofs.lemmas.List.{nil_from_length}
use Rattle.std.proofs.lemmas.Bool.Decides.{nat_tests}
use Rattle.fields.specs.Numbers.{number_kind}
use Rattle.kinds.proofs.Forms.{each_admitted, admitted_each}
use Rattle.trailers.specs.declared.Trailer.{Trailer}
use Rattle.lines.specs.Lines.{line_fault}
use Rattle.payments.specs.Payments.{PaymentOf}
use Rattle.trailers.specs.Trailers.{trailer_form, trailer_fault, trailer_value, trailer_wrong, trailer_bytes}
use Rattle.trailers.specs.Laws.{trailer_lawful}
use Rattle.houses.specs.Rules.{Rules}
use Rattle.tally.specs.Tallies.{tallied, totals, credits, debits}
use Rattle.reading.specs.Exact.{line_of}
use Rattle.reading.specs.Reading.{none_fault, totals_fault, tally_refused, after_fault, closing}
use Rattle.reading.proofs.Passed.{passed, passes, same_ok, tally_unrefused}
use Rattle.reading.proofs.Spelled.{trailer_spelling}
use Rattle.reading.proofs.Taken.{Begins, taken_admitted, taken_spelled}

-- numbers that fit their columns
number_fits : (w n : ℕ) → (number_kind w 0).wrong n ≡ None → n < 10 ^ w
number_fits w n h = grind (arith, nat_tests)

fits_number : (w n : ℕ) → n < 10 ^ w → (number_kind w 0).wrong n ≡ None
fits_number w n h = grind (arith, nat_tests)

trailer_fits : (t : Trailer) → trailer_wrong t ≡ None → (t.credit < 10 ^ 10) × (t.debit < 10 ^ 10) × (t.count < 10 ^ 6)
unfolding trailer_wrong
trailer_fits t h =
    let each = each_admitted trailer_form trailer_lawful t h in
    (number_fits 10 t.credit each.1.1.0, number_fits 10 t.debit each.1.1.1.0, number_fits 6 t.count each.1.1.1.1.1.0)

fits_trailer : (t : Trailer) → t.net < 10 ^ 10 → t.credit < 10 ^ 10 → t.debit < 10 ^ 10 → t.count < 10 ^ 6 → trailer_wrong t ≡ None
unfolding trailer_wrong
fits_trailer t net credit debit count =
    admitted_each trailer_form trailer_lawful t (refl, (fits_number 10 t.net net, (fits_number 10 t.credit credit, (fits_number 10 t.debit debit, (refl, (fits_number 6 t.count count, (refl, tt))))))) refl

-- when none of the closing refusals comes
some_since : (line : ℕ) (ps : List PaymentOf) → none_fault line ps ≡ None → 1 ≤ length ps
some_since line ps h = grind (arith, nat_tests)

since_some : (line : ℕ) (ps : List PaymentOf) → 1 ≤ length ps → none_fault line ps ≡ None
since_some line ps h = grind (arith, nat_tests)

pub totals_same : (line : ℕ) (stated due : Trailer) → totals_fault line stated due ≡ None → stated ≡ due
totals_same line stated due h =
    let net : stated.net ≡ due.net = grind (arith, nat_tests) in
    let credit : stated.credit ≡ due.credit = grind (arith, nat_tests) in
    let debit : stated.debit ≡ due.debit = grind (arith, nat_tests) in
    let count : stated.count ≡ due.count = grind (arith, nat_tests) in
    (λ i. record { net = net i; credit = credit i; debit = debit i; count = count i })

same_totals : (line : ℕ) (t : Trailer) → totals_fault line t t ≡ None
same_totals line t = grind (arith, nat_tests)

nothing_after : (line : ℕ) (rest : List ℕ) → after_fault line rest ≡ None → rest ≡ []
nothing_after line rest h = nil_from_length rest (grind (arith, nat_tests))

-- payments that a trailer may close
pub record Closed (R : Rules) (ps : List PaymentOf) : Type 0 where
  pub some : 1 ≤ length ps
  pub most : length ps ≤ 999999
  pub credits_fit : credits ps ≤ 9999999999
  pub debits_fit : debits ps ≤ 9999999999
  pub tally_agreed : R.tally (tallied ps) ≡ None

pub closed_admitted : (R : Rules) (ps : List PaymentOf) → Closed R ps → trailer_wrong (totals ps) ≡ None
closed_admitted R ps c = fits_trailer (totals ps) (omega arith) (omega arith) (omega arith) (omega arith)

module _ (R : Rules) (line : ℕ) (ps : List PaymentOf) (rest : List ℕ) where
  pub closing_only : (qs : List PaymentOf) → line_fault line rest ≡ None → closing R line ps rest ≡ Ok qs → (ps ≡ qs) × (rest ≡ line_of (trailer_bytes (totals ps))) × Closed R ps
  closing_only qs h e =
      let proper = passed (trailer_fault line (take 120 rest)) _ qs e in
      let some = passed (none_fault line ps) _ qs proper.1 in
      let due = passed (totals_fault line (trailer_value (take 120 rest)) (totals ps)) _ qs some.1 in
      let agreed = passed (tally_refused line (R.tally (tallied ps))) _ qs due.1 in
      let last = passed (after_fault (line + 1) (drop 122 rest)) (Ok ps) qs agreed.1 in
      let same = totals_same line (trailer_value (take 120 rest)) (totals ps) due.0 in
      let none = nothing_after (line + 1) (drop 122 rest) last.0 in
      let fits = trailer_fits (totals ps) (subst (λ t. trailer_wrong t ≡ None) same (taken_admitted trailer_spelling line rest h proper.0)) in (
        same_ok ps qs last.1,
        taken_spelled trailer_spelling line rest h proper.0 ∙ (λ i. line_of (trailer_bytes (same i)) ++ none i) ∙ append-nil (line_of (trailer_bytes (totals ps))),
        record { some = some_since line ps some.0; most = omega (arith, fits.2); credits_fit = omega (arith, fits.0); debits_fit = omega (arith, fits.1); tally_agreed = tally_unrefused line (R.tally (tallied ps)) agreed.0 },
      )

  pub closing_all : Begins trailer_spelling line rest (totals ps) [] → Closed R ps → closing R line ps rest ≡ Ok ps
  closing_all b c =
      passes (trailer_fault line (take 120 rest)) _ ps b.proper
      (passes (none_fault line ps) _ ps (since_some line ps c.some)
      (passes (totals_fault line (trailer_value (take 120 rest)) (totals ps)) _ ps (ap (λ t. totals_fault line t (totals ps)) b.says ∙ same_totals line (totals ps))
      (passes (tally_refused line (R.tally (tallied ps))) _ ps (ap (tally_refused line) c.tally_agreed)
      (passes (after_fault (line + 1) (drop 122 rest)) (Ok ps) ps (ap (after_fault (line + 1)) b.then) refl))))
