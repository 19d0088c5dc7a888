use Rattle.std.proofs.Common.{◌≡◌, ℕ, ◌^◌, ◌<◌, None, length, slice_index, rules, sym, ap, ◌∙◌, arith}
use Rattle.kinds.specs.Kinds.{answered}
use Rattle.kinds.proofs.Scan.{refused_alike}
use Rattle.kinds.proofs.kind.first_refused.Goals as goal

pub returns-clause-answer : goal.returns-clause-answer
returns-clause-answer g c =
    let kind = g.K.FieldKind.kind c.args.kind.now in
    let field = c.args.field.now in
    let bytes : (k : ℕ) → k < length field → slice_index field k < 2 ^ 8 = λ k h. search rules in
    let same : (place b : ℕ) → place < kind.width → b < 2 ^ 8 → kind.admits place b ≡ g.K.Shape.admits c.args.kind.now place b = search rules in
    c.scan.ensures.answer ∙ sym (ap (λ o. answered o tt) (refused_alike kind.admits _ kind.width 0 field None (omega (arith, c.requires)) bytes same))
