-- When a line has no fault.
use Rattle.std.proofs.Common.{◌≡◌, ℕ, ◌≤◌, List, length, get_or, None, ◌∙◌}
use Rattle.std.proofs.lemmas.Bool.{le-ltb, eq-eqb, cond-true, cond-false}
use Rattle.lines.specs.Lines.{line_fault}

pub line_proper : (line : ℕ) (rest : List ℕ) → 122 ≤ length rest → get_or rest 120 0 ≡ 13 → get_or rest 121 0 ≡ 10 → line_fault line rest ≡ None
line_proper line rest long cr lf =
    cond-false _ _ _ (le-ltb (length rest) 122 long) ∙ cond-true _ _ _ (eq-eqb _ _ cr) ∙ cond-true _ _ _ (eq-eqb _ _ lf)
