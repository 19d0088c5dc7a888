-- A tally that payments were added to one by one is the tally of those payments, and its sums are theirs.
use Rattle.std.proofs.Common.{◌≡◌, ℕ, ◌+◌, ◌*◌, ◌^◌, ◌<◌, ◌≤◌, Bool, true, cond, eqb, List, [], ◌∷◌, ◌++◌, map, length, drop, Some, None, Option, sum_by, count_by, sym, refl, ◌∙◌, zero-add, arith}
use Rattle.std.specs.List.{AllByRecursion, last_or}
use Rattle.std.proofs.ByRecursion.{All-weaker, sum_by_le}
use Rattle.std.proofs.lemmas.List.Sums.{sum_by-cons, sum_by_push, count_by-le-length}
use Rattle.std.proofs.lemmas.Bool.Decides.{nat_tests}
use Rattle.fields.specs.Numbers.{in_table}
use Rattle.payments.specs.Payments.{PaymentOf}
use Rattle.tally.specs.declared.Row.{Row}
use Rattle.tally.specs.Tallies.{the_codes, row_for, place_of, row_added, one_more, LastOf, shown_last, tallied, with_payment, is_debit, credits, debits, rows_credit, rows_debit, rows_count}

-- a code has one row or none, so that row is all that a payment changes
one_row : (rows : ℕ → Row) (n x : ℕ) → map (λ code. cond (eqb n code) (one_more (rows code) x) (rows code)) the_codes ≡ row_added (map rows the_codes) (place_of n) x
one_row rows n x = grind (arith, nat_tests)

-- below the cap a row grows by what is added
grown : (mine : Bool) (m s x : ℕ) → m + 1 < 2 ^ 64 → s + x < 2 ^ 64 → ◌≡◌ {A = Row} (record { count = m + cond mine 1 0; cents = s + cond mine x 0 }) (cond mine (one_more (record { count = m; cents = s }) x) (record { count = m; cents = s }))
grown mine m s x few small = grind arith

last_push : (before : Option LastOf) (ps : List PaymentOf) (p : PaymentOf) → last_or before (map shown_last (ps ++ p ∷ [])) ≡ Some (shown_last p)
last_push before [] p = refl
last_push before (q ∷ ps) p = last_push (Some (shown_last q)) ps p

-- the cents of a payment, by whether they count
abbrev cents_of : ℕ → PaymentOf → ℕ
cents_of code p = cond (eqb p.code code) p.cents 0

abbrev credit_of : PaymentOf → ℕ
credit_of p = cond (is_debit p) 0 p.cents

-- however few of the cents count, their sum is bounded by how many payments there are
bounded : (part : PaymentOf → ℕ) → ((q : PaymentOf) → part q ≤ q.cents) → (ps : List PaymentOf) → AllByRecursion (λ q. q.cents ≤ 9999999999) ps → sum_by part ps ≤ length ps * 9999999999
bounded part within ps small = sum_by_le part 9999999999 ps (All-weaker _ _ (λ q h. omega (arith, within q)) ps small)

cents_bounded : (code : ℕ) (ps : List PaymentOf) → AllByRecursion (λ q. q.cents ≤ 9999999999) ps → sum_by (cents_of code) ps ≤ length ps * 9999999999
cents_bounded code = bounded (cents_of code) (λ q. grind (arith, nat_tests))

module _ (ps : List PaymentOf) (p : PaymentOf) (few : length ps ≤ 999999) (small : AllByRecursion (λ q. q.cents ≤ 9999999999) ps) (next : p.cents ≤ 9999999999) where
  -- far below the cap, each row grows by what the payment adds to it
  row_push : (code : ℕ) → row_for (ps ++ p ∷ []) code ≡ cond (eqb p.code code) (one_more (row_for ps code) p.cents) (row_for ps code)
  row_push code =
      let has : PaymentOf → Bool = λ q. eqb q.code code in
      (λ i. record { count = sum_by_push (λ q. cond (has q) 1 0) ps p i; cents = sum_by_push (cents_of code) ps p i })
      ∙ grown (has p) (count_by has ps) (sum_by (cents_of code) ps) p.cents (omega (arith, count_by-le-length has ps)) (omega (arith, cents_bounded code ps small))

  pub tallied_more : with_payment (tallied ps) p ≡ tallied (ps ++ p ∷ [])
  tallied_more =
      let rows = (λ i. map (λ code. row_push code i) the_codes) ∙ one_row (row_for ps) p.code p.cents in
      sym (λ i. record { rows = rows i; last = last_push None ps p i })

-- sums of sums, in either order
module _ {X : Type 0} where
  sum_by_none : (xs : List X) → sum_by (λ _. 0) xs ≡ 0
  sum_by_none [] = refl
  sum_by_none (x ∷ xs) = sum_by_none xs

  sum_by_add : (f g : X → ℕ) (xs : List X) → sum_by (λ x. f x + g x) xs ≡ sum_by f xs + sum_by g xs
  sum_by_add f g [] = refl
  sum_by_add f g (x ∷ xs) = omega (arith, sum_by-cons (λ y. f y + g y) x xs, sum_by-cons f x xs, sum_by-cons g x xs, sum_by_add f g xs)

  sum_by_sums : {Y : Type 0} (f : X → Y → ℕ) (g : Y → ℕ) (xs : List X) (ys : List Y) → AllByRecursion (λ y. sum_by (λ x. f x y) xs ≡ g y) ys → sum_by (λ x. sum_by (f x) ys) xs ≡ sum_by g ys
  sum_by_sums f g xs [] h = sum_by_none xs
  sum_by_sums f g xs (y ∷ ys) h =
      (λ i. sum_by (λ x. sum_by-cons (f x) y ys i) xs) ∙ sum_by_add (λ x. f x y) (λ x. sum_by (f x) ys) xs ∙ (λ i. h.0 i + sum_by_sums f g xs ys h.1 i) ∙ sym (sum_by-cons g y ys)

  sum_by_one : (xs : List X) → sum_by (λ _. 1) xs ≡ length xs
  sum_by_one [] = refl
  sum_by_one (x ∷ xs) = omega (arith, sum_by-cons (λ _. 1) x xs, sum_by_one xs)

-- what a payment counts for is in one row: of all rows, and of the credits' rows unless it is a debit
one_code : (n x : ℕ) → in_table n ≡ true → sum_by (λ code. cond (eqb n code) x 0) the_codes ≡ x
one_code n x h = grind (arith, nat_tests)

one_credit : (n x : ℕ) → in_table n ≡ true → sum_by (λ code. cond (eqb n code) x 0) (drop 1 the_codes) ≡ cond (eqb n 13) 0 x
one_credit n x h = grind (arith, nat_tests)

module _ (ps : List PaymentOf) where
  pub tallied_debit : rows_debit (tallied ps).rows ≡ debits ps
  tallied_debit = zero-add (debits ps)

  pub tallied_credit : AllByRecursion (λ q. in_table q.code ≡ true) ps → rows_credit (tallied ps).rows ≡ credits ps
  tallied_credit known = sum_by_sums cents_of credit_of (drop 1 the_codes) ps (All-weaker _ _ (λ q. one_credit q.code q.cents) ps known)

  pub tallied_count : AllByRecursion (λ q. in_table q.code ≡ true) ps → rows_count (tallied ps).rows ≡ length ps
  tallied_count known = sum_by_sums (λ code q. cond (eqb q.code code) 1 0) (λ _. 1) the_codes ps (All-weaker _ _ (λ q. one_code q.code 1) ps known) ∙ sum_by_one ps

  -- each side with one payment more
  pub credits_more : (p : PaymentOf) → credits (ps ++ p ∷ []) ≡ credits ps + cond (is_debit p) 0 p.cents
  credits_more = sum_by_push credit_of ps

  pub debits_more : (p : PaymentOf) → debits (ps ++ p ∷ []) ≡ debits ps + cond (is_debit p) p.cents 0
  debits_more = sum_by_push (cents_of 13) ps

  pub sides_bound : (n : ℕ) → length ps ≤ n → AllByRecursion (λ q. q.cents ≤ 9999999999) ps → (credits ps ≤ n * 9999999999) × (debits ps ≤ n * 9999999999)
  sides_bound n few small = (omega (arith, bounded credit_of (λ q. grind (arith, nat_tests)) ps small), omega (arith, cents_bounded 13 ps small))
