-- The capped house's rules: reason 1 at column 21, a payment above the limit.
use Rattle.std.specs.Prelude.{ℕ, cond, None, nat_le}
use Rattle.houses.specs.Rules.{Rules, no}

abbrev pub capped_rules : ℕ → Rules
capped_rules most = record {
  header = λ _. None;
  payment = λ p. cond (nat_le p.cents most) None (no 1 21);
  tally = λ _. None;
}
