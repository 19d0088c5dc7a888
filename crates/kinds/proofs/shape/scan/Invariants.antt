use Rattle.std.proofs.Common.{◌≡◌, ◌+◌, drop, None}
use Rattle.kinds.specs.Kinds.{refused_from}
use Rattle.kinds.proofs.shape.scan.Given as goal

abbrev pub invariant-loop-i : goal.invariant-loop-i
invariant-loop-i g l =
    let admits = g.S.Shape.admits l.shape in
    refused_from admits l.start l.bytes None ≡ refused_from admits (l.start + l.i) (drop l.i l.bytes) None
