use Rattle.std.specs.Prelude.{length}
use Rattle.fields.proofs.number.+spell_digits.Given as goal

abbrev pub decreases-spell_digits : goal.decreases-spell_digits
decreases-spell_digits l = length l.out.now
