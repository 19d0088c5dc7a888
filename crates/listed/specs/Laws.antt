-- Proof that the listed house's rules are sound. It stands here, since the house cites it; nothing here need be believed.
use Rattle.std.specs.Prelude.{List, refl}
use Rattle.houses.specs.Laws.{Reason, fair_none, fair_cond, fair_no}
use Rattle.houses.specs.Rules.{Sensible, Sound}
use Rattle.listed.specs.Listed.{BankOf, listed_rules, named, numbered, bank_digits}

pub listed_sound : (banks : List BankOf) → Sound (listed_rules banks)
listed_sound banks = record {
  header = λ h. fair_cond Sensible (named h.bank banks) _ _ (fair_none Sensible) (fair_no 1 21 refl);
  payment = λ p.
      fair_cond Sensible (numbered (bank_digits p.bsb) banks) _ _
      (fair_cond Sensible (numbered (bank_digits p.trace_bsb) banks) _ _ (fair_none Sensible) (fair_no 2 81 refl))
      (fair_no 2 2 refl);
  tally = λ t. fair_none Reason;
}
