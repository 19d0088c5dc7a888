-- Proof that the capped house's rules are sound. It stands here, since the house cites it; nothing here need be believed.
use Rattle.std.specs.Prelude.{ℕ, nat_le}
use Rattle.std.proofs.Common.{refl}
use Rattle.houses.specs.Laws.{Reason, fair_none, fair_cond, fair_no}
use Rattle.houses.specs.Rules.{Sensible, Sound}
use Rattle.capped.specs.Capped.{capped_rules}

pub capped_sound : (most : ℕ) → Sound (capped_rules most)
capped_sound most = record {
  header = λ h. fair_none Sensible;
  payment = λ p. fair_cond Sensible (nat_le p.cents most) _ _ (fair_none Sensible) (fair_no 1 21 refl);
  tally = λ t. fair_none Reason;
}
