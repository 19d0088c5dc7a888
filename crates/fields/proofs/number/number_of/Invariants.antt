use Rattle.std.proofs.Common.{◌≡◌, take}
use Rattle.fields.specs.Numbers.{number_of}
use Rattle.fields.proofs.number.number_of.Given as goal

abbrev pub invariant-loop-byte : goal.invariant-loop-byte
invariant-loop-byte l = l.n ≡ number_of (take l.byte-index l.bytes)
