-- Closing by the tally of some payments is closing by the payments.
use Rattle.std.proofs.Common.{◌≡◌, ℕ, ◌+◌, true, cond, eqb, List, take, drop, Some, None, Ok, Option, refl, ap, ◌∙◌}
use Rattle.std.specs.List.{AllByRecursion}
use Rattle.faults.specs.declared.Cause.TheVariants.{NoDetails}
use Rattle.faults.specs.declared.Fault.{Fault}
use Rattle.faults.specs.Faults.{fault_at}
use Rattle.kinds.specs.Kinds.{map_ok}
use Rattle.fields.specs.Numbers.{in_table}
use Rattle.payments.specs.Payments.{PaymentOf}
use Rattle.trailers.specs.Trailers.{trailer_fault, trailer_value}
use Rattle.houses.specs.Rules.{Rules}
use Rattle.tally.specs.Tallies.{tallied, totals, apart}
use Rattle.tally.proofs.Tallied.{tallied_credit, tallied_debit, tallied_count}
use Rattle.reading.specs.ByTally.{tally_closing, tally_totals, count_fault}
use Rattle.reading.specs.Reading.{past, totals_fault, tally_refused, after_fault, SummaryOf, closing, none_fault, summed}
use Rattle.reading.proofs.Closed.{totals_same}

-- five refusals, of which the third judges the stated totals
closed_so : (a b c d e : Option Fault) (s : SummaryOf) (ps : List PaymentOf) → (c ≡ None → s ≡ summed ps) → past a (past b (past c (past d (past e (Ok s))))) ≡ map_ok summed (past a (past b (past c (past d (past e (Ok ps))))))
closed_so (Some f) b c d e s ps same = refl
closed_so None (Some f) c d e s ps same = refl
closed_so None None (Some f) d e s ps same = refl
closed_so None None None (Some f) e s ps same = refl
closed_so None None None None (Some f) s ps same = refl
closed_so None None None None None s ps same = ap Ok (same refl)

module _ (R : Rules) (line : ℕ) (ps : List PaymentOf) (rest : List ℕ) (coded : AllByRecursion (λ p. in_table p.code ≡ true) ps) where
  -- a tally of payments whose codes are all in the table has their count and their totals
  same_count : count_fault line (tallied ps).rows ≡ none_fault line ps
  same_count = ap (λ n. cond (eqb n 0) (Some (fault_at NoDetails line 1)) None) (tallied_count ps coded)

  same_totals : tally_totals (tallied ps).rows ≡ totals ps
  same_totals =
      let credit = tallied_credit ps coded in
      let debit = tallied_debit ps in
      (λ i. record { net = apart (credit i) (debit i); credit = credit i; debit = debit i; count = tallied_count ps coded i })

  pub closing_tallied : tally_closing R line (tallied ps) (take 120 rest) (drop 122 rest) ≡ map_ok summed (closing R line ps rest)
  closing_tallied =
      let stated = trailer_value (take 120 rest) in
      let consent = past (tally_refused line (R.tally (tallied ps))) (past (after_fault (line + 1) (drop 122 rest)) (Ok (record { tally = tallied ps; totals = stated }))) in
      (λ i. past (trailer_fault line (take 120 rest)) (past (same_count i) (past (totals_fault line stated (same_totals i)) consent)))
      ∙ closed_so _ _ _ _ _ (record { tally = tallied ps; totals = stated }) ps (λ h. ap (λ t. record { tally = tallied ps; totals = t }) (totals_same line stated (totals ps) h))
