-- No rows, and a row behind the last: their numbers climb, and there is room. And books that hold the same are the same.
use Rattle.std.proofs.Common.{◌≡◌, ℕ, suc, ◌+◌, ◌-◌, ◌<◌, ◌≤◌, cond, ltb, List, [], ◌∷◌, ◌++◌, length, get_or, Some, None, sym, ap, ◌∙◌, subst, arith, length-append}
use Rattle.std.proofs.Props.{props}
use Rattle.std.specs.Prelude.{nat_lt}
use Rattle.std.specs.List.Sorted.{IsNonDecreasingBy}
use Rattle.std.proofs.lemmas.List.{get_or_default}
use Rattle.std.proofs.lemmas.Bool.Decides.{nat_tests}
use Rattle.std.proofs.lemmas.List.Quantifiers.{all_pairs_push}
use Rattle.std.proofs.lemmas.List.Sorted.{IsNonDecreasingBy-from_all_adjacent}
use Rattle.faults.specs.declared.Cause.TheVariants.{NotRising, BookFull}
use Rattle.book.specs.declared.book.Row.{Row}
use Rattle.book.specs.Search.{Climbs}
use Rattle.book.specs.Books.{above_last, nowhere, row_fault}
use Rattle.book.specs.Held.{Held, Standing}
use Rattle.kinds.proofs.RoundTrip.{none_first}

room_left : (used room : ℕ) → cond (nat_lt used room) None (Some (nowhere BookFull)) ≡ None → used < room
room_left used room may = grind (arith, nat_tests)

-- no rows fit any room, and climb
pub none_within : (V : Type 0) (room : ℕ) → length {A = Row V} [] ≤ room
none_within V room = omega arith

pub none_rising : (V : Type 0) → Climbs {R = Row V} (λ r. r.number) []
none_rising V i j d before inside = absurd (omega arith)

module _ {V : Type 0} where
  abbrev pub key_of : Row V → ℕ
  key_of row = row.number

  pub at_last : (n : ℕ) (rows : List (Row V)) (last : Row V) → 1 ≤ length rows → last ≡ get_or rows (length rows - 1) last → above_last rows n ≡ cond (ltb last.number n) None (Some (nowhere NotRising))
  at_last n [] last some read = absurd (omega arith)
  at_last n (row ∷ []) last some read = ap (λ r. cond (ltb r.number n) None (Some (nowhere NotRising))) (sym read)
  at_last n (row ∷ next ∷ rows) last some read =
      let shift : length (row ∷ next ∷ rows) - 1 ≡ suc (length (next ∷ rows) - 1) = omega arith in
      at_last n (next ∷ rows) last (omega arith) (read ∙ ap (λ i. get_or (row ∷ next ∷ rows) i last) shift)

  pub rises_climbing : (rows : List (Row V)) → Climbs key_of rows → IsNonDecreasingBy key_of rows
  rises_climbing rows climbs = IsNonDecreasingBy-from_all_adjacent key_of rows (λ k d inside. omega (arith, climbs k (k + 1) d (omega arith) inside))

  -- a number above the last row's is above every row's
  all_below : (n : ℕ) (rows : List (Row V)) → Climbs key_of rows → above_last rows n ≡ None → (k : ℕ) (d : Row V) → k < length rows → key_of (get_or rows k d) < n
  all_below n rows climbs above k d inside =
      let last = get_or rows (length rows - 1) d in
      let none = sym (at_last n rows last (omega arith) (get_or_default rows (length rows - 1) d last (omega arith))) ∙ above in
      let below : last.number < n = grind (arith, nat_tests) in
      omega (arith, below, rises_climbing rows climbs k (length rows - 1) d (omega arith) (omega arith))

  pub climbs_on : (rows : List (Row V)) (row : Row V) → Climbs key_of rows → above_last rows row.number ≡ None → Climbs key_of (rows ++ row ∷ [])
  climbs_on rows row climbs above = all_pairs_push (λ before after. key_of before < key_of after) rows row climbs (all_below row.number rows climbs above)

  -- where a row may come in there is room for it, and its number is above the last one's
  pub row_within : (held : Held V) (row : Row V) → row_fault held row.number ≡ None → length (held.rows ++ row ∷ []) ≤ held.room
  row_within held row may = omega (arith, length-append held.rows (row ∷ []), room_left (length held.rows) held.room (none_first _ _ may).1)

  pub row_rising : (held : Held V) (row : Row V) → Climbs key_of held.rows → row_fault held row.number ≡ None → Climbs key_of (held.rows ++ row ∷ [])
  row_rising held row climbs may = climbs_on held.rows row climbs (none_first _ _ may).0

  -- what is so of what a book holds, as one fact
  abbrev Facts : Held V → Type 0
  Facts held = (length held.rows ≤ held.room) × Climbs (λ r. r.number) held.rows

  one_fact : (held : Held V) → IsProp (Facts held)
  one_fact held = Prim.hlevel props

  abbrev standing : (held : Held V) → Facts held → Standing V
  standing held facts = record { held = held; within = facts.0; rising = facts.1 }

  -- books that hold the same are the same
  pub same : (a b : Standing V) → a.held ≡ b.held → a ≡ b
  same a b e = subst (λ k. (f : Facts k) → a ≡ standing k f) e (λ f. ap (standing a.held) (one_fact a.held (a.within, a.rising) f)) (b.within, b.rising)
