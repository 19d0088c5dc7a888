-- What `read` answers, once its file has been summed.
use Rattle.std.proofs.Common.{◌≡◌, ℕ, List, Ok, Err, Result, sym, refl, ap, ◌∙◌}
use Rattle.faults.specs.declared.Fault.{Fault}
use Rattle.kinds.specs.Kinds.{map_ok}
use Rattle.payments.specs.Payments.{PaymentOf}
use Rattle.houses.specs.Rules.{Rules}
use Rattle.reading.specs.Exact.{Exact}
use Rattle.reading.specs.Reading.{SummaryOf, summed, read_of}
use Rattle.reading.proofs.Exact.{exactly}
use Rattle.reading.proofs.Passed.{same_ok, no_ok}

-- some payments were read
some_read : (x : Result (List PaymentOf) Fault) (s : SummaryOf) → Ok s ≡ map_ok summed x → (ps : List PaymentOf) × (x ≡ Ok ps) × (s ≡ summed ps)
some_read (Ok ps) s h = (ps, refl, same_ok _ _ h)
some_read (Err f) s h = absurd (no_ok f s (sym h))

module _ (R : Rules) (bytes : List ℕ) where
  pub exact_answer : (r : Result (Unit {0}) Fault) (place : SummaryOf) → map_ok (λ _. place) r ≡ map_ok summed (read_of R bytes) → Exact R bytes r place
  exact_answer (Ok _) s h =
      let read = some_read (read_of R bytes) s h in
      record {
        only = λ _. (read.0, (exactly R bytes).only read.0 read.1, read.2);
        all = λ ps file. (refl, same_ok _ _ (h ∙ ap (map_ok summed) ((exactly R bytes).all ps file)));
      }
  exact_answer (Err f) place h = record {
    only = λ e. absurd (no_ok f tt e);
    all = λ ps file. absurd (no_ok f (summed ps) (h ∙ ap (map_ok summed) ((exactly R bytes).all ps file)));
  }
