-- Bytes that are all admitted, and the scan that finds none refused.
use Rattle.std.specs.Prelude.{nat_lt, ◌≡◌, ℕ, zero, suc, ◌+◌, ◌<◌, ◌≤◌, Bool, true, false, cond, List, [], ◌∷◌, ◌++◌, length, take, drop, replicate, IfSome, Some, None, Option, slice_index, refl}
use Rattle.std.proofs.Common.{inl, inr, sym, subst, add-zero, arith, take-append-drop}
use Rattle.std.specs.List.{AllByRecursion}
use Rattle.std.proofs.lemmas.Bool.{cases_Bool, ltb-false}
use Rattle.std.proofs.lemmas.List.{length-take-le}
use Rattle.faults.specs.declared.Cause.TheVariants.{WrongByte}
use Rattle.faults.specs.declared.Misfit.{Misfit}
use Rattle.kinds.specs.Kinds.{refused_from, AllFrom}

pub all_admitted : (admits : ℕ → ℕ → Bool) (i : ℕ) (bs : List ℕ) (later : Option Misfit) → AllFrom admits i bs → refused_from admits i bs later ≡ later
all_admitted admits i [] later h = refl
all_admitted admits i (b ∷ bs) later h = rw h.0 (all_admitted admits (i + 1) bs later h.1)

pub none_refused : (admits : ℕ → ℕ → Bool) (i : ℕ) (bs : List ℕ) (later : Option Misfit) → refused_from admits i bs later ≡ None → AllFrom admits i bs × (later ≡ None)
none_refused admits i [] later h = (tt, h)
none_refused admits i (b ∷ bs) later h =
    elim (admits i b) as (λ t. cond t (refused_from admits (i + 1) bs later) (Some (record { cause = WrongByte; offset = i })) ≡ None → ((t ≡ true) × AllFrom admits (i + 1) bs) × (later ≡ None)) [
      | true ↦ λ e. let r = none_refused admits (i + 1) bs later e in ((refl, r.0), r.1)
      | false ↦ λ e. absurd cc
    ] h

pub all_append : (admits : ℕ → ℕ → Bool) (i : ℕ) (xs ys : List ℕ) → AllFrom admits i xs → AllFrom admits (i + length xs) ys → AllFrom admits i (xs ++ ys)
all_append admits i [] ys h k = rw add-zero at k
all_append admits i (x ∷ xs) ys h k = (h.0, all_append admits (i + 1) xs ys h.1 (subst (λ n. AllFrom admits n ys) (omega arith) k))

pub all_left : (admits : ℕ → ℕ → Bool) (i : ℕ) (xs ys : List ℕ) → AllFrom admits i (xs ++ ys) → AllFrom admits i xs
all_left admits i [] ys h = tt
all_left admits i (x ∷ xs) ys h = (h.0, all_left admits (i + 1) xs ys h.1)

pub all_right : (admits : ℕ → ℕ → Bool) (i : ℕ) (xs ys : List ℕ) → AllFrom admits i (xs ++ ys) → AllFrom admits (i + length xs) ys
all_right admits i [] ys h = rw add-zero h
all_right admits i (x ∷ xs) ys h = subst (λ n. AllFrom admits n ys) (omega arith) (all_right admits (i + 1) xs ys h.1)

-- what the bytes pass at their places they pass at other places that ask no more
pub all_weaker : (p q : ℕ → ℕ → Bool) (i k : ℕ) (xs : List ℕ) → ((j b : ℕ) → j < length xs → p (i + j) b ≡ true → q (k + j) b ≡ true) → AllFrom p i xs → AllFrom q k xs
all_weaker p q i k [] weaker h = tt
all_weaker p q i k (x ∷ xs) weaker h =
    let here : q k x ≡ true = rw add-zero at (weaker 0 x (omega arith) (rw add-zero h.0)) in
    (here, all_weaker p q (i + 1) (k + 1) xs (λ j b less e. subst (λ n. q n b ≡ true) (omega arith) (weaker (1 + j) b (omega arith) (subst (λ n. p n b ≡ true) (omega arith) e))) h.1)

pub all_at : (p : ℕ → ℕ → Bool) (i : ℕ) (xs : List ℕ) (j : ℕ) → j < length xs → AllFrom p i xs → p (i + j) (slice_index xs j) ≡ true
all_at p i [] j less h = absurd (omega arith)
all_at p i (x ∷ xs) zero less h = rw add-zero h.0
all_at p i (x ∷ xs) (suc j) less h = subst (λ n. p n (slice_index xs j) ≡ true) (omega arith) (all_at p (i + 1) xs j (omega arith) h.1)

-- the bytes of a part
pub all_part : (p : ℕ → ℕ → Bool) (n k : ℕ) (bs : List ℕ) → n + k ≤ length bs → AllFrom p 0 bs → AllFrom p n (take k (drop n bs))
all_part p n k bs within h =
    let front : length (take n bs) ≡ n = length-take-le n bs (omega arith) in
    let from : AllFrom p (0 + length (take n bs)) (drop n bs) = all_right p 0 (take n bs) (drop n bs) (subst (AllFrom p 0) (sym (take-append-drop n bs)) h) in
    all_left p n (take k (drop n bs)) (drop k (drop n bs)) (subst (AllFrom p n) (sym (take-append-drop k (drop n bs))) (subst (λ i. AllFrom p i (drop n bs)) (omega arith) from))

pub all_from : (p : ℕ → ℕ → Bool) (i : ℕ) (xs : List ℕ) → ((j : ℕ) → j < length xs → p (i + j) (slice_index xs j) ≡ true) → AllFrom p i xs
all_from p i [] each = tt
all_from p i (x ∷ xs) each =
    (rw add-zero at (each 0 (omega arith)), all_from p (i + 1) xs (λ j less. subst (λ n. p n (slice_index xs j) ≡ true) (omega arith) (each (suc j) (omega arith))))

-- a byte that passes a test wherever it stands
abbrev pub Passes : (ℕ → Bool) → ℕ → Type 0
Passes test b = test b ≡ true

module _ (test : ℕ → Bool) where
  each_from : (i : ℕ) (bs : List ℕ) → AllByRecursion (Passes test) bs → AllFrom (λ _ b. test b) i bs
  each_from i [] h = tt
  each_from i (b ∷ bs) h = (h.0, each_from (i + 1) bs h.1)

  from_each : (i : ℕ) (bs : List ℕ) → AllFrom (λ _ b. test b) i bs → AllByRecursion (Passes test) bs
  from_each i [] h = tt
  from_each i (b ∷ bs) h = (h.0, from_each (i + 1) bs h.1)

  pub all_pass : (i : ℕ) (bs : List ℕ) (later : Option Misfit) → AllByRecursion (Passes test) bs → refused_from (λ _ b. test b) i bs later ≡ later
  all_pass i bs later h = all_admitted (λ _ b. test b) i bs later (each_from i bs h)

  pub passed_all : (i : ℕ) (bs : List ℕ) (later : Option Misfit) → refused_from (λ _ b. test b) i bs later ≡ None → AllByRecursion (Passes test) bs × (later ≡ None)
  passed_all i bs later h = let p = none_refused (λ _ b. test b) i bs later h in (from_each i bs p.0, p.1)

  pub all_replicate : (n b : ℕ) → Passes test b → AllByRecursion (Passes test) (replicate n b)
  all_replicate zero b h = tt
  all_replicate (suc n) b h = (h, all_replicate n b h)

-- a test by which nothing is refused came out so, and nothing comes later
pub unless_true : (t : Bool) (m : Misfit) (later : Option Misfit) → cond t (Some m) later ≡ None → (t ≡ false) × (later ≡ None)
unless_true true m later h = absurd cc
unless_true false m later h = (refl, h)

pub unless_false : (t : Bool) (m : Misfit) (later : Option Misfit) → cond t later (Some m) ≡ None → (t ≡ true) × (later ≡ None)
unless_false true m later h = (refl, h)
unless_false false m later h = absurd cc

-- a misfit that stands in a field of so many columns, or right behind it
abbrev pub Within : ℕ → Option Misfit → Type 0
Within w o = IfSome o (λ m. m.offset ≤ w)

pub within_cond : (w : ℕ) (t : Bool) (a b : Option Misfit) → Within w a → Within w b → Within w (cond t a b)
within_cond w true a b ha hb = ha
within_cond w false a b ha hb = hb

-- a value that is too wide, and else what comes then
pub within_wide : (w n : ℕ) (m : Misfit) (later : Option Misfit) → m.offset ≤ w → (n ≤ w → Within w later) → Within w (cond (nat_lt w n) (Some m) later)
within_wide w n m later low h = elim (cases_Bool (nat_lt w n)) [ inl e ↦ rw e low | inr e ↦ rw e (h (ltb-false w n e)) ]

pub within_refused : (w : ℕ) (admits : ℕ → ℕ → Bool) (i : ℕ) (bs : List ℕ) (later : Option Misfit) → i + length bs ≤ w → Within w later → Within w (refused_from admits i bs later)
within_refused w admits i [] later fits h = h
within_refused w admits i (b ∷ bs) later fits h = within_cond w (admits i b) _ _ (within_refused w admits (i + 1) bs later (omega arith) h) (omega arith)
