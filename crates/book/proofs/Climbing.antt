-- The place that the search gives among rows whose numbers climb.
use Rattle.std.proofs.Common.{◌≡◌, ℕ, ◌<◌, ◌≤◌, false, ltb, ◌==◌, List, length, get_or, sym, subst, ⊎_elim, arith}
use Rattle.std.specs.List.Sorted.{IsNonDecreasingBy}
use Rattle.std.proofs.lemmas.Bool.{cases_lt, ltb-true, ltb-false, ne_eqb}
use Rattle.std.proofs.lemmas.List.Elements.{All-from_all_within}
use Rattle.std.proofs.lemmas.List.Folds.{list_any_none}
use Rattle.std.proofs.lemmas.List.Sums.{prefix_len_passes, prefix_len_stops}
use Rattle.book.specs.declared.book.Row.{Row}
use Rattle.book.specs.Search.{first_not_below}
use Rattle.book.specs.Books.{has_number}
pub use Rattle.book.specs.Laws.{key_of, at_last, rises_climbing, climbs_on}

module _ {V : Type 0} where
  -- the place that the search gives, where the row there has another number, or there is none
  pub not_found : (n place : ℕ) (rows : List (Row V)) → IsNonDecreasingBy key_of rows → place ≡ first_not_below key_of n rows → ((d : Row V) → place < length rows → key_of (get_or rows place d) ≡ n → ⊥) → has_number n rows ≡ false
  not_found n place rows rises is apart =
      list_any_none (λ row. row.number == n) rows (All-from_all_within (λ row. (row.number == n) ≡ false) rows (λ k d low inside. ne_eqb _ n (λ same.
      ⊎_elim
      (λ before. omega (arith, same, ltb-true _ n (prefix_len_passes (λ row. ltb (key_of row) n) rows k d (omega arith))))
      (λ from.
      let stops : n ≤ key_of (get_or rows place d) = subst (λ p. n ≤ key_of (get_or rows p d)) (sym is) (ltb-false _ n (prefix_len_stops (λ row. ltb (key_of row) n) rows d (omega arith))) in
      apart d (omega arith) (omega (arith, same, stops, rises place k d from inside)))
      (cases_lt k place))))
