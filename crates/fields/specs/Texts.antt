-- Fields of characters: fixed bytes, texts, accounts and marks.
use Rattle.std.specs.Prelude.{ℕ, zero, suc, ◌+◌, ◌-◌, Bool, false, cond, ◌&&◌, ◌||◌, List, [], ◌∷◌, ◌++◌, length, take, drop, replicate, Some, None, codes, Option, ◌==◌, nat_le, nat_lt, slice_index}
use Rattle.std.specs.List.{prefix_len, list_any}
use Rattle.faults.specs.declared.Cause.TheVariants.{TooWide, WrongByte, Empty, StrayBlank}
use Rattle.faults.specs.declared.Misfit.{Misfit}
use Rattle.kinds.specs.Kinds.{Kind, refused_from}
use Rattle.fields.specs.Numbers.{whole, digit}

-- exactly the given bytes
abbrev pub fixed_kind : List ℕ → Kind
fixed_kind given = record {
  Value = Unit {0};
  width = length given;
  admits = λ place b. nat_lt place (length given) && (b == slice_index given place);
  flaw = λ _. None;
  value = λ _. tt;
  wrong = λ _. None;
  spell = λ _. given;
}

abbrev pub is_blank : ℕ → Bool
is_blank b = b == 32

abbrev pub member : ℕ → List ℕ → Bool
member b [] = false
member b (x ∷ xs) = b == x || member b xs

-- the 86 characters of a text
abbrev pub character : ℕ → Bool
character b = member b (codes "0123456789ABCDEFGHIJKLMNOPQRSTUVWXYZabcdefghijklmnopqrstuvwxyz +-@$!%&()*./#=:;?,'[]_^")

-- the end of a text of so many columns: where the last column is blank, that of the text one column shorter
abbrev pub text_end : List ℕ → ℕ → ℕ
text_end bs zero = 0
text_end bs (suc n) = cond (is_blank (slice_index bs n)) (text_end bs n) (suc n)

-- the bytes up to the last that is not blank
abbrev pub text_of : List ℕ → List ℕ
text_of bs = take (text_end bs (length bs)) bs

-- an all blank text; one that begins with a blank
abbrev pub text_flaw : List ℕ → Option Misfit → Option Misfit
text_flaw bs later = cond (text_end bs (length bs) == 0) (Some (whole Empty)) (cond (is_blank (slice_index bs 0)) (Some (whole StrayBlank)) later)

-- a form's text that ends in a blank
abbrev pub ends_blank : List ℕ → Option Misfit
ends_blank v = cond (is_blank (slice_index v (length v - 1))) (Some (record { cause = StrayBlank; offset = length v - 1 })) None

-- characters, left justified, blank filled
abbrev pub text_kind : ℕ → Kind
text_kind w = record {
  Value = List ℕ;
  width = w;
  admits = λ _ b. character b;
  flaw = λ bs. text_flaw bs None;
  value = text_of;
  wrong = λ v. cond (nat_lt w (length v)) (Some (whole TooWide)) (refused_from (λ _ b. character b) 0 v (text_flaw v (ends_blank v)));
  spell = λ v. v ++ replicate (w - length v) 32;
}

-- a byte of an account
abbrev pub account_byte : ℕ → Bool
account_byte b = digit b || (b == 45 || is_blank b)

-- a digit 1 to 9 stands among the bytes
abbrev pub positive : List ℕ → Bool
positive bs = list_any (λ b. nat_le 49 b && nat_le b 57) bs

-- the first blank, the list's first standing at place i
abbrev pub first_blank : ℕ → List ℕ → Option Misfit
first_blank i [] = None
first_blank i (b ∷ bs) = cond (is_blank b) (Some (record { cause = StrayBlank; offset = i })) (first_blank (i + 1) bs)

-- what is wrong with an account whose first byte stands at place i
abbrev pub account_flaw : ℕ → List ℕ → Option Misfit
account_flaw i v = cond (positive v) (first_blank i v) (Some (whole Empty))

-- how many blanks stand before the account
abbrev pub indent : List ℕ → ℕ
indent bs = prefix_len is_blank bs

-- digits and hyphens, at least one digit 1 to 9, right justified in nine columns, blank filled
abbrev pub account_kind : Kind
account_kind = record {
  Value = List ℕ;
  width = 9;
  admits = λ _ b. account_byte b;
  flaw = λ bs. account_flaw (indent bs) (drop (indent bs) bs);
  value = λ bs. drop (indent bs) bs;
  wrong = λ v. cond (nat_lt 9 (length v)) (Some (whole TooWide)) (refused_from (λ _ b. account_byte b) (9 - length v) v (account_flaw (9 - length v) v));
  spell = λ v. replicate (9 - length v) 32 ++ v;
}

-- blank, or N for new details, or W, X, Y for tax withheld
abbrev pub mark_kind : Kind
mark_kind = record {
  Value = ℕ;
  width = 1;
  admits = λ _ b. member b (codes " NWXY");
  flaw = λ _. None;
  value = λ bs. slice_index bs 0;
  wrong = λ b. cond (member b (codes " NWXY")) None (Some (whole WrongByte));
  spell = λ b. b ∷ [];
}

abbrev pub blank : ℕ → Kind
blank n = fixed_kind (replicate n 32)
