-- Words that are put on a list one after another.
use Rattle.std.proofs.Common.{◌≡◌, ℕ, ◌+◌, ◌<◌, List, [], ◌∷◌, map, length, get_or, drop, Some, None, Option, is_ok, cond, refl, ◌∙◌, Bor}
use lib.ListN.{length-map}
use Rattle.std.proofs.lemmas.List.{at_drop_more}
use Rattle.book.specs.declared.book.Row.{Row}
use Rattle.book.specs.Books.{above_last}
use Rattle.book.specs.Held.{Held}
use Rattle.listed.specs.Listed.{BankOf, bank_of, banks_of}
use Rattle.words.specs.Words.{bank_said, row_of, book_of, listing, with_said, listing_all, listed_all}

-- words that are read from a slice
abbrev Word : Type 0
Word = Bor (List ℕ)

abbrev no_word : Word
no_word = record { ref_ptr = (0, 0); now = [] }

-- a list answers by its rows' numbers alone
above : (rows : List (Row Word)) (n : ℕ) → above_last (map row_of (map bank_of rows)) n ≡ above_last rows n
above [] n = refl
above (row ∷ []) n = refl
above (row ∷ next ∷ rows) n = above (next ∷ rows) n

answer : (list : Held Word) (said : Option BankOf) → listing (book_of list.room (banks_of list)) said ≡ listing list said
answer list None = refl
answer list (Some bank) = rw (above list.rows bank.number, length-map, length-map)

-- what the words from the i-th on come to, by that word and those after it
module _ (words : List Word) (i : ℕ) (list : Held Word) (within : i < length words) where
  abbrev said : Option BankOf
  said = bank_said (get_or words i no_word).now

  same : listing (book_of list.room (banks_of list)) said ≡ listing list said
  same = answer list said

  pub listing_next : listing_all list.room (banks_of list) (map (λ x. x.now) (drop i words)) ≡ cond (is_ok (listing list said)) (listing_all list.room (with_said (banks_of list) said) (map (λ x. x.now) (drop (i + 1) words))) (listing list said)
  listing_next = at_drop_more (λ ws. listing_all list.room (banks_of list) (map (λ x. x.now) ws)) words i no_word within ∙ rw same

  pub listed_next : listed_all list.room (banks_of list) (map (λ x. x.now) (drop i words)) ≡ cond (is_ok (listing list said)) (listed_all list.room (with_said (banks_of list) said) (map (λ x. x.now) (drop (i + 1) words))) (banks_of list)
  listed_next = at_drop_more (λ ws. listed_all list.room (banks_of list) (map (λ x. x.now) ws)) words i no_word within ∙ rw same
