use Rattle.std.proofs.Common.{◌≡◌, true, false, sym, ◌∙◌, arith}
use Rattle.std.proofs.lemmas.Bool.Decides.{nat_tests}
use Rattle.fields.proofs.Characters.{in_range, is_character}
use Rattle.fields.proofs.text.is_character.Goals as goal

pub returns-in-32-to-122-2 : goal.returns-in-32-to-122-2
returns-in-32-to-122-2 c =
    let within : in_range c.args.byte ≡ true = grind (arith, nat_tests) in
    sym within ∙ is_character c.args.byte (omega arith)

-- outside the range, below it and above it
pub returns-in_default : goal.returns-in_default
returns-in_default c =
    let outside : in_range c.args.byte ≡ false = grind (arith, nat_tests) in
    sym outside ∙ is_character c.args.byte (omega arith)

pub returns-in_default-2 : goal.returns-in_default-2
returns-in_default-2 c =
    let outside : in_range c.args.byte ≡ false = grind (arith, nat_tests) in
    sym outside ∙ is_character c.args.byte (omega arith)
