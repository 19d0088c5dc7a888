-- The laws of the kinds that join several numbers: the BSB and the date.
use Rattle.std.specs.Prelude.{◌≡◌, ℕ, ◌+◌, ◌-◌, ◌*◌, ◌/◌, ◌%◌, ◌<◌, ◌≤◌, Bool, true, cond, leb, List, ◌∷◌, ◌++◌, length, take, drop, None, ◌==◌, ◌≢◌, ◌&&◌, nat_lt, nat_le, slice_index_or, refl}
use Rattle.std.proofs.Common.{sym, ap, subst, ◌∙◌, arith, length-take, length-drop, take-append-drop}
use Rattle.std.proofs.lemmas.List.{drop_more, drop-drop, take_all}
use Rattle.std.proofs.lemmas.Bool.{and_from, and_parts, le-leb, leb-true, lt-ltb, ltb-true, eqb-true, ne_eqb, cond_both, cond-true}
use Rattle.fields.specs.declared.date.Date.{Date}
use Rattle.faults.specs.declared.Cause.TheVariants.{TooWide, NoSuchValue}
use Rattle.kinds.specs.Kinds.{Lawful, InField, AllFrom, fault}
use Rattle.fields.specs.Numbers.{unless, digit, number_of, digits, bsb_kind, date_kind, date_of, a_day, days_in, leap, AllDigits}
use Rattle.kinds.specs.Admitted.{all_admitted, none_refused, all_weaker, all_at, all_part, unless_false, within_cond}
use Rattle.fields.specs.Laws.Numbers.{digits_read, digit_proper, digits_back, number_less, unless_none, unless_within}

-- the digits of a part that admits nothing else
part_digits : (p : ℕ → ℕ → Bool) (n k : ℕ) (bs : List ℕ) → n + k ≤ length bs → ((j b : ℕ) → j < k → p (n + j) b ≡ true → digit b ≡ true) → AllFrom p 0 bs → AllDigits (take k (drop n bs))
part_digits p n k bs within only h =
    all_weaker p (λ _ b. digit b) n 0 (take k (drop n bs)) (λ j b less e. only j b (omega (arith, less, length-take k (drop n bs))) e) (all_part p n k bs within h)

-- a part with as many columns as it has
part_length : (n k : ℕ) (bs : List ℕ) → n + k ≤ length bs → length (take k (drop n bs)) ≡ k
part_length n k bs within = simp (length-take, length-drop) (omega arith)

module _ (bs : List ℕ) (long : length bs ≡ 7) (h : fault bsb_kind bs ≡ None) where
  admitted : AllFrom bsb_kind.admits 0 bs
  admitted = (none_refused bsb_kind.admits 0 bs None h).0

  digit_only : (n k : ℕ) → ((j : ℕ) → j < k → n + j ≢ 3) → (j b : ℕ) → j < k → bsb_kind.admits (n + j) b ≡ true → digit b ≡ true
  digit_only n k apart j b less e = subst (λ t. cond t (b == 45) (digit b) ≡ true) (ne_eqb (n + j) 3 (apart j less)) e

  high : AllDigits (take 3 bs)
  high = part_digits bsb_kind.admits 0 3 bs (omega arith) (digit_only 0 3 (λ j less e. omega arith)) admitted

  rest : take 3 (drop 4 bs) ≡ drop 4 bs
  rest = take_all 3 (drop 4 bs) (rw length-drop (omega arith))

  low : AllDigits (drop 4 bs)
  low = subst AllDigits rest (part_digits bsb_kind.admits 4 3 bs (omega arith) (digit_only 4 3 (λ j less e. omega arith)) admitted)

  high_length : length (take 3 bs) ≡ 3
  high_length = part_length 0 3 bs (omega arith)

  low_length : length (drop 4 bs) ≡ 3
  low_length = rw length-drop (omega arith)

  high_less : number_of (take 3 bs) < 1000
  high_less = number_less 3 (take 3 bs) high_length high

  low_less : number_of (drop 4 bs) < 1000
  low_less = number_less 3 (drop 4 bs) low_length low

  hyphen : slice_index_or bs 3 0 ≡ 45
  hyphen = eqb-true _ _ (all_at bsb_kind.admits 0 bs 3 (omega arith) admitted)

  bsb_back : bsb_kind.spell (bsb_kind.value bs) ≡ bs
  bsb_back =
      let less = low_less in
      let quotient : (number_of (take 3 bs) * 1000 + number_of (drop 4 bs)) / 1000 ≡ number_of (take 3 bs) = omega arith in
      let remainder : (number_of (take 3 bs) * 1000 + number_of (drop 4 bs)) % 1000 ≡ number_of (drop 4 bs) = omega arith in
      (λ i. digits 3 (quotient i) ++ (45 ∷ digits 3 (remainder i)))
      ∙ (λ i. digits_back 3 (take 3 bs) high_length high i ++ (sym hyphen i ∷ digits_back 3 (drop 4 bs) low_length low i))
      ∙ ap (λ xs. take 3 bs ++ xs) (sym (drop_more bs 3 0 (omega arith)))
      ∙ take-append-drop 3 bs

pub bsb_lawful : Lawful bsb_kind
bsb_lawful =
    let fits : (n : ℕ) → bsb_kind.wrong n ≡ None → n < 1000000 = λ n h. ltb-true n 1000000 (unless_none _ TooWide h) in
    record {
      spelled_width = λ n h. refl;
      spelled_proper = λ n h. all_admitted bsb_kind.admits 0 (bsb_kind.spell n) None (digit_proper (n / 1000 / 10 / 10), (digit_proper (n / 1000 / 10), (digit_proper (n / 1000), (refl, (digit_proper (n % 1000 / 10 / 10), (digit_proper (n % 1000 / 10), (digit_proper (n % 1000), tt)))))));
      read_back = λ n h. let less = fits n h in (λ i. digits_read 3 (n / 1000) (omega arith) i * 1000 + digits_read 3 (n % 1000) (omega arith) i) ∙ omega arith;
      value_admitted = λ bs long h. rw (lt-ltb (bsb_kind.value bs) 1000000 (omega (arith, high_less bs long h, low_less bs long h))) refl;
      written_back = bsb_back;
    }

pub bsb_in_field : InField bsb_kind
bsb_in_field = record {
  flaw_within = λ bs long. tt;
  wrong_within = λ n. unless_within 7 (nat_lt n 1000000) TooWide;
}

-- the three parts of a date
module _ (bs : List ℕ) (long : length bs ≡ 6) (all : AllDigits bs) where
  two_digits : (n : ℕ) → n + 2 ≤ length bs → AllDigits (take 2 (drop n bs))
  two_digits n within = part_digits (λ _ b. digit b) n 2 bs within (λ j b less e. e) all

  tail : take 2 (drop 4 bs) ≡ drop 4 bs
  tail = take_all 2 (drop 4 bs) (rw length-drop (omega arith))

  year_digits : AllDigits (drop 4 bs)
  year_digits = subst AllDigits tail (two_digits 4 (omega arith))

  year_length : length (drop 4 bs) ≡ 2
  year_length = rw length-drop (omega arith)

  pub year_less : number_of (drop 4 bs) < 100
  year_less = number_less 2 (drop 4 bs) year_length year_digits

  rejoined : take 2 bs ++ (take 2 (drop 2 bs) ++ drop 4 bs) ≡ bs
  rejoined = ap (λ xs. take 2 bs ++ (take 2 (drop 2 bs) ++ xs)) (sym (drop-drop 2 2 bs)) ∙ ap (λ xs. take 2 bs ++ xs) (take-append-drop 2 (drop 2 bs)) ∙ take-append-drop 2 bs

  pub date_back : date_kind.spell (date_of bs) ≡ bs
  date_back =
      let year : 2000 + number_of (drop 4 bs) - 2000 ≡ number_of (drop 4 bs) = omega arith in
      ap (λ y. digits 2 (number_of (take 2 bs)) ++ (digits 2 (number_of (take 2 (drop 2 bs))) ++ digits 2 y)) year
      ∙ (λ i. digits_back 2 (take 2 bs) (part_length 0 2 bs (omega arith)) (two_digits 0 (omega arith)) i ++ (digits_back 2 (take 2 (drop 2 bs)) (part_length 2 2 bs (omega arith)) (two_digits 2 (omega arith)) i ++ digits_back 2 (drop 4 bs) year_length year_digits i))
      ∙ rejoined

-- no month has more than 31 days
days_least : (y m : ℕ) → days_in y m ≤ 31
days_least y m =
    cond_both (m == 2) _ _ (λ n. n ≤ 31)
    (λ _. cond_both (leap y) 29 28 (λ n. n ≤ 31) (λ _. omega arith) (λ _. omega arith))
    (λ _. cond_both _ 30 31 (λ n. n ≤ 31) (λ _. omega arith) (λ _. omega arith))

-- a day's parts have two digits each
pub day_parts : (d : Date) → a_day d ≡ true → (d.day < 100) × (d.month < 100)
day_parts d h =
    let month = (and_parts (nat_le 1 d.month) _ h).1 in
    let day = (and_parts (nat_le d.month 12) _ month).1 in
    let below = leb-true d.month 12 (and_parts (nat_le d.month 12) _ month).0 in
    let least = leb-true d.day (days_in d.year d.month) (and_parts (nat_le 1 d.day) _ day).1 in
    (omega (arith, days_least d.year d.month), omega arith)

pub date_lawful : Lawful date_kind
date_lawful =
    let parts : (d : Date) → date_kind.wrong d ≡ None → (2000 ≤ d.year) × (d.year ≤ 2099) × (a_day d ≡ true) = λ d h.
    let p = unless_false _ _ _ h in
    let years = and_parts _ _ p.0 in
    (leb-true 2000 d.year years.0, leb-true d.year 2099 years.1, unless_none _ NoSuchValue p.1) in
    let back : (d : Date) → date_kind.wrong d ≡ None → date_of (date_kind.spell d) ≡ d = λ d h.
    let p = parts d h in
    let small = day_parts d p.2 in
    let year : 2000 + (d.year - 2000) ≡ d.year = omega arith in
    (λ i. record { day = digits_read 2 d.day (omega arith) i; month = digits_read 2 d.month (omega arith) i; year = (ap (λ y. 2000 + y) (digits_read 2 (d.year - 2000) (omega arith)) ∙ year) i }) in
    record {
      spelled_width = λ d h. refl;
      spelled_proper = λ d h.
          all_admitted date_kind.admits 0 (date_kind.spell d) _ (digit_proper (d.day / 10), (digit_proper d.day, (digit_proper (d.month / 10), (digit_proper d.month, (digit_proper ((d.year - 2000) / 10), (digit_proper (d.year - 2000), tt))))))
          ∙ ap (λ e. unless (a_day e) NoSuchValue) (back d h) ∙ ap (λ t. unless t NoSuchValue) (parts d h).2;
      read_back = back;
      value_admitted = λ bs long h.
          let p = none_refused date_kind.admits 0 bs _ h in
          let less = year_less bs long p.0 in
          let late : leb 2000 (2000 + number_of (drop 4 bs)) ≡ true = le-leb _ _ (omega arith) in
          let early : leb (2000 + number_of (drop 4 bs)) 2099 ≡ true = le-leb _ _ (omega arith) in
          cond-true _ _ _ (and_from _ _ late early) ∙ p.1;
      written_back = λ bs long h. date_back bs long (none_refused date_kind.admits 0 bs _ h).0;
    }

pub date_in_field : InField date_kind
date_in_field = record {
  flaw_within = λ bs long. unless_within 6 _ NoSuchValue;
  wrong_within = λ d. within_cond 6 (nat_le 2000 d.year && nat_le d.year 2099) _ _ (unless_within 6 (a_day d) NoSuchValue) (omega arith);
}
