use Rattle.std.proofs.Common.{◌≡◌, ◌+◌, drop}
use Rattle.fields.specs.Texts.{first_blank}
use Rattle.fields.proofs.account.expect_account.Given as goal

abbrev pub invariant-loop-i : goal.invariant-loop-i
invariant-loop-i l = first_blank l.start l.account ≡ first_blank (l.start + l.i) (drop l.i l.account)
