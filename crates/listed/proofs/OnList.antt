-- What a bank list's rows say, and what its lines do.
use Rattle.std.proofs.Common.{◌≡◌, ℕ, Bool, ◌||◌, ◌==◌, List, [], ◌∷◌, map, Some, None, Option, is_some, sym, refl, ap, ◌∙◌, arith, Bor}
use Rattle.std.specs.List.{list_any}
use Rattle.std.proofs.lemmas.Bool.{eq-eqb}
use Rattle.std.proofs.lemmas.List.Folds.{list_any_at}
use Rattle.book.specs.declared.book.Row.{Row}
use Rattle.book.specs.Books.{FoundAt}
use Rattle.listed.specs.Listed.{bank_of, numbered}

pub list_any_map : {A B : Type 0} (f : A → B) (p : B → Bool) (xs : List A) → list_any (λ x. p (f x)) xs ≡ list_any p (map f xs)
list_any_map f p [] = refl
list_any_map f p (x ∷ xs) = ap (λ b. p (f x) || b) (list_any_map f p xs)

module _ (n : ℕ) where
  some_has : (rows : List (Row (Bor (List ℕ)))) (r : Option ℕ) → FoundAt rows n r → is_some r ≡ list_any (λ row. row.number == n) rows
  some_has rows None found = sym found
  some_has [] (Some place) found = absurd (omega (arith, found.0))
  some_has (row ∷ rows) (Some place) found = sym (list_any_at (λ row. row.number == n) (row ∷ rows) place row found.0 (eq-eqb _ n (found.1 row)))

  -- a row of the number is found where some line has it
  pub found_listed : (rows : List (Row (Bor (List ℕ)))) (r : Option ℕ) → FoundAt rows n r → is_some r ≡ numbered n (map bank_of rows)
  found_listed rows r found = some_has rows r found ∙ list_any_map bank_of (λ bank. bank.number == n) rows
