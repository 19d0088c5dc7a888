-- What a house means: three rules, each yes or no with a reason.
use Rattle.std.specs.Prelude.{◌≡◌, ℕ, ◌≤◌, Some, None, Option}
use Rattle.headers.specs.Headers.{HeaderOf}
use Rattle.payments.specs.Payments.{PaymentOf}
use Rattle.houses.specs.declared.objection.Objection.{Objection}
use Rattle.tally.specs.Tallies.{TallyOf}

-- the objection to a header or a payment, or the reason against a tally; None is a yes
pub record Rules : Type 0 where
  pub header : HeaderOf → Option Objection
  pub payment : PaymentOf → Option Objection
  pub tally : TallyOf → Option ℕ

-- an objection has a reason from 1 to 250 and a column of the record
abbrev pub Sensible : Objection → Type 0
Sensible o = (1 ≤ o.reason) × (o.reason ≤ 250) × (1 ≤ o.column) × (o.column ≤ 120)

pub record Sound (rules : Rules) : Type 0 where
  pub header : (h : HeaderOf) (o : Objection) → rules.header h ≡ Some o → Sensible o
  pub payment : (p : PaymentOf) (o : Objection) → rules.payment p ≡ Some o → Sensible o
  pub tally : (t : TallyOf) (reason : ℕ) → rules.tally t ≡ Some reason → (1 ≤ reason) × (reason ≤ 250)

-- yes to all
abbrev pub plain_rules : Rules
plain_rules = record { header = λ _. None; payment = λ _. None; tally = λ _. None }

-- no, for a reason and at a column
abbrev pub no : ℕ → ℕ → Option Objection
no reason column = Some (record { reason = reason; column = column })
