use Rattle.std.proofs.Common.{◌≡◌, ◌^◌, ◌<◌, drop}
use Rattle.words.specs.Words.{number_said, said_after}
use Rattle.words.proofs.number.Given as goal

abbrev pub invariant-loop-b : goal.invariant-loop-b
invariant-loop-b l = (number_said l.digits ≡ said_after l.n (drop l.b-index l.digits)) × (l.n < 2 ^ 64)
