use Rattle.tally.specs.Tallies.{tally_of}
use Rattle.reading.proofs.Sofar.{Sofar}
use Rattle.reading.proofs.read.summarize.Given as goal

abbrev pub invariant-loop-number : goal.invariant-loop-number
invariant-loop-number g l = Sofar (g.H.House.rules l.house) l.file l.number l.rest (tally_of l.tally)
