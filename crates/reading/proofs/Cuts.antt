-- A line that was cut off the bytes left of a file.
use Rattle.std.proofs.Common.{◌≡◌, ℕ, List, get_or, take, drop, None, Ok, ap, ◌∙◌, arith}
use Rattle.std.proofs.lemmas.List.{get_or-take}
use Rattle.kinds.specs.Kinds.{answered}
use Rattle.kinds.proofs.Answers.{passed, gave}
use Rattle.lines.specs.Lines.{line_fault, cut}

-- it has no fault, and begins with the byte that its columns begin with
module _ (line : ℕ) (rest : List ℕ) (n : ℕ) (cols after : List ℕ) (h : Ok ((n, cols), after) ≡ answered (line_fault line rest) (cut line rest)) where
  pub no_line_fault : line_fault line rest ≡ None
  no_line_fault = passed _ _ _ h

  pub cut_is : ((n, cols), after) ≡ cut line rest
  cut_is = gave _ _ _ h

  pub number_is : n ≡ line
  number_is = ap (λ c. c.0.0) cut_is

  pub columns_are : cols ≡ take 120 rest
  columns_are = ap (λ c. c.0.1) cut_is

  pub after_is : after ≡ drop 122 rest
  after_is = ap (λ c. c.1) cut_is

  pub first_byte : get_or cols 0 0 ≡ get_or rest 0 0
  first_byte = ap (λ xs. get_or xs 0 0) columns_are ∙ get_or-take 120 rest 0 0 (omega arith)
