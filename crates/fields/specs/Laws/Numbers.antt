-- Digits and the numbers that they write, and the laws of the kinds made of them.
use Rattle.std.specs.Prelude.{◌≡◌, ℕ, zero, suc, ◌+◌, ◌-◌, ◌*◌, ◌/◌, ◌%◌, ◌^◌, ◌<◌, ◌≤◌, Bool, true, false, List, [], ◌∷◌, ◌++◌, length, take, drop, None, nat_le, slice_index, slice_index_or, slice_set, refl, Some, nat_lt}
use Rattle.std.proofs.Common.{sym, ap, subst, ◌∙◌, pow-suc, add-one, arith, length-append, length-take, take-append-drop}
use Rattle.std.proofs.Math.Nat.{pow-le-pow_right}
use Rattle.std.proofs.lemmas.List.{take_more, take_all, length-take-le, drop-set, append_assoc}
use Rattle.std.proofs.lemmas.Bool.{and_from, and_parts, le-leb, leb-true, lt-ltb, ltb-true}
use Rattle.faults.specs.declared.Cause.{Cause}
use Rattle.faults.specs.declared.Cause.TheVariants.{Empty}
use Rattle.kinds.specs.Kinds.{Lawful, InField, AllFrom}
use Rattle.fields.specs.Numbers.{whole, unless, digit, number_from, number_of, digits, numeral, number_kind, AllDigits}
use Rattle.kinds.specs.Admitted.{Within, within_cond, all_admitted, none_refused, all_append, all_left, all_right, unless_false}

from_append : (n : ℕ) (xs ys : List ℕ) → number_from n (xs ++ ys) ≡ number_from (number_from n xs) ys
from_append n [] ys = refl
from_append n (x ∷ xs) ys = from_append (n * 10 + (x - 48)) xs ys

pub number_push : (xs : List ℕ) (d : ℕ) → number_of (xs ++ (d ∷ [])) ≡ number_of xs * 10 + (d - 48)
number_push xs d = from_append 0 xs (d ∷ [])

pub length_digits : (w n : ℕ) → length (digits w n) ≡ w
length_digits zero n = refl
length_digits (suc w) n = length-append (digits w (n / 10)) _ ∙ rw (length_digits w (n / 10)) (add-one w)

pub digits_read : (w n : ℕ) → n < 10 ^ w → number_of (digits w n) ≡ n
digits_read zero n h = omega arith
digits_read (suc w) n h =
    let less : n / 10 < 10 ^ w = omega (arith, pow-suc 10 w) in
    number_push (digits w (n / 10)) (48 + n % 10) ∙ rw (digits_read w (n / 10) less) (omega arith)

pub digit_proper : (n : ℕ) → digit (48 + n % 10) ≡ true
digit_proper n = and_from _ _ (le-leb 48 (48 + n % 10) (omega arith)) (le-leb (48 + n % 10) 57 (omega arith))

pub digits_proper : (w n i : ℕ) → AllFrom (λ _ b. digit b) i (digits w n)
digits_proper zero n i = tt
digits_proper (suc w) n i = all_append _ i (digits w (n / 10)) _ (digits_proper w (n / 10) i) (digit_proper n, tt)

-- a list of one more is all but its last, and its last
snoc : (w : ℕ) (bs : List ℕ) → length bs ≡ suc w → bs ≡ take w bs ++ (slice_index bs w ∷ [])
snoc w bs h = sym (take_all (w + 1) bs (omega arith)) ∙ take_more bs w 0 (omega arith)

digit_range : (b : ℕ) → digit b ≡ true → (48 ≤ b) × (b ≤ 57)
digit_range b h = let parts = and_parts _ _ h in (leb-true 48 b parts.0, leb-true b 57 parts.1)

-- what holds of the digits but the last and of the last holds of them all
module _ (w : ℕ) (bs : List ℕ) (long : length bs ≡ suc w) (all : AllDigits bs) where
  parted : AllDigits (take w bs ++ (slice_index bs w ∷ []))
  parted = subst AllDigits (snoc w bs long) all

  front_digits : AllDigits (take w bs)
  front_digits = all_left _ 0 (take w bs) (slice_index bs w ∷ []) parted

  last_digit : (48 ≤ slice_index bs w) × (slice_index bs w ≤ 57)
  last_digit = digit_range (slice_index bs w) (all_right _ 0 (take w bs) (slice_index bs w ∷ []) parted).0

  front_length : length (take w bs) ≡ w
  front_length = simp length-take (omega arith)

  number_snoc : number_of bs ≡ number_of (take w bs) * 10 + (slice_index bs w - 48)
  number_snoc = ap number_of (snoc w bs long) ∙ number_push (take w bs) (slice_index bs w)

pub number_less : (w : ℕ) (bs : List ℕ) → length bs ≡ w → AllDigits bs → number_of bs < 10 ^ w
number_less zero [] h all = omega arith
number_less zero (b ∷ bs) h all = absurd (omega arith)
number_less (suc w) bs h all =
    let front = number_less w (take w bs) (front_length w bs h all) (front_digits w bs h all) in
    let last = last_digit w bs h all in
    omega (arith, pow-suc 10 w, number_snoc w bs h all)

pub digits_back : (w : ℕ) (bs : List ℕ) → length bs ≡ w → AllDigits bs → digits w (number_of bs) ≡ bs
digits_back zero [] h all = refl
digits_back zero (b ∷ bs) h all = absurd (omega arith)
digits_back (suc w) bs h all =
    let last = last_digit w bs h all in
    let split = number_snoc w bs h all in
    let high : number_of bs / 10 ≡ number_of (take w bs) = omega arith in
    let low : 48 + number_of bs % 10 ≡ slice_index_or bs w 0 = omega arith in
    rw (high, low, digits_back w (take w bs) (front_length w bs h all) (front_digits w bs h all)) (sym (snoc w bs h))

-- the digits of a part, one digit, and the number that one digit more writes
module _ (bs : List ℕ) (all : AllDigits bs) where
  pub digits_take : (i : ℕ) → AllDigits (take i bs)
  digits_take i = all_left _ 0 (take i bs) (drop i bs) (subst AllDigits (sym (take-append-drop i bs)) all)

  pub digit_at : (i : ℕ) → i < length bs → (48 ≤ slice_index bs i) × (slice_index bs i ≤ 57)
  digit_at i h =
      let split : bs ≡ (take i bs ++ (slice_index bs i ∷ [])) ++ drop (i + 1) bs = sym (take-append-drop (i + 1) bs) ∙ ap (λ xs. xs ++ drop (i + 1) bs) (take_more bs i 0 h) in
      digit_range (slice_index bs i) (all_right _ 0 (take i bs) (slice_index bs i ∷ []) (all_left _ 0 _ (drop (i + 1) bs) (subst AllDigits split all))).0

  pub number_below : (i w : ℕ) → i ≤ length bs → i ≤ w → number_of (take i bs) < 10 ^ w
  number_below i w h k =
      let less = number_less i (take i bs) (length-take-le i bs h) (digits_take i) in
      let grows : 10 ^ i ≤ 10 ^ w = pow-le-pow_right (omega arith) k in
      omega arith

  pub number_more : (i : ℕ) → i < length bs → number_of (take (i + 1) bs) ≡ number_of (take i bs) * 10 + (slice_index bs i - 48)
  number_more i h = ap number_of (take_more bs i 0 h) ∙ number_push (take i bs) (slice_index bs i)

-- one more column written, from the last to the first
pub digits_written : (i n : ℕ) (out : List ℕ) → 0 < i → i ≤ length out → digits i n ++ drop i out ≡ digits (i - 1) (n / 10) ++ drop (i - 1) (slice_set out (i - 1) (48 + n % 10))
digits_written zero n out h k = absurd (omega arith)
digits_written (suc i) n out h k =
    let less : suc i - 1 ≡ i = omega arith in
    rw (less, drop-set out i (48 + n % 10) (omega arith), add-one) (append_assoc (digits i (n / 10)) _ _)

-- a test that passed, and one that must pass
pub unless_none : (t : Bool) (cause : Cause) → unless t cause ≡ None → t ≡ true
unless_none true cause h = refl
unless_none false cause h = let z : ◌≡◌ {A = ℕ} 0 1 = cc in absurd (omega arith)

pub unless_within : (w : ℕ) (t : Bool) (cause : Cause) → Within w (unless t cause)
unless_within w t cause = within_cond w t None (Some (whole cause)) tt (omega arith)

pub numeral_lawful : (w : ℕ) (test : ℕ → Bool) (cause : Cause) → Lawful (numeral w test cause)
numeral_lawful w test cause =
    let fits : (n : ℕ) → (numeral w test cause).wrong n ≡ None → (n < 10 ^ w) × (unless (test n) cause ≡ None) = λ n h. let p = unless_false _ _ _ h in (ltb-true n (10 ^ w) p.0, p.1) in
    record {
      spelled_width = λ n h. length_digits w n;
      spelled_proper = λ n h. all_admitted _ 0 (digits w n) _ (digits_proper w n 0) ∙ rw (digits_read w n (fits n h).0) (fits n h).1;
      read_back = λ n h. digits_read w n (fits n h).0;
      value_admitted = λ bs long h.
          let p = none_refused _ 0 bs _ h in
          rw (lt-ltb (number_of bs) (10 ^ w) (number_less w bs long p.0)) p.1;
      written_back = λ bs long h. digits_back w bs long (none_refused _ 0 bs _ h).0;
    }

pub numeral_in_field : (w : ℕ) (test : ℕ → Bool) (cause : Cause) → InField (numeral w test cause)
numeral_in_field w test cause = record {
  flaw_within = λ bs long. unless_within w _ cause;
  wrong_within = λ n. within_cond w (nat_lt n (10 ^ w)) _ _ (unless_within w (test n) cause) (omega arith);
}

pub number_lawful : (w least : ℕ) → Lawful (number_kind w least)
number_lawful w least = numeral_lawful w (nat_le least) Empty

pub number_in_field : (w least : ℕ) → InField (number_kind w least)
number_in_field w least = numeral_in_field w (nat_le least) Empty
