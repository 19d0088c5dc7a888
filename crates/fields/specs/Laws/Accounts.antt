-- The laws of an account.
use Rattle.std.specs.Prelude.{◌≡◌, ℕ, zero, suc, ◌+◌, ◌-◌, ◌≤◌, true, false, List, [], ◌∷◌, ◌++◌, length, drop, replicate, None, nat_lt, refl}
use Rattle.std.proofs.Common.{sym, ap, ◌∙◌, inl, inr, one-add, arith}
use Rattle.std.specs.List.{AllByRecursion}
use Rattle.std.proofs.ByRecursion.{All-append, All-drop}
use Rattle.std.proofs.lemmas.List.{length-append, length-replicate, length-drop, drop_at}
use Rattle.std.proofs.lemmas.List.Sums.{prefix_len-le-length}
use Rattle.std.proofs.lemmas.Bool.{cases_Bool, eqb-true, ltb-false, le-ltb, cond-true, cond-false}
use Rattle.kinds.specs.Kinds.{Lawful, InField, fault}
use Rattle.kinds.specs.Admitted.{Within, within_cond, within_refused, within_wide, Passes, all_pass, passed_all, all_replicate, unless_true, unless_false}
use Rattle.fields.specs.Texts.{account_kind, is_blank, account_byte, positive, first_blank, account_flaw, indent}

-- no blank is found where there is none, wherever the account stands
no_blank : (i : ℕ) (v : List ℕ) → first_blank i v ≡ None → AllByRecursion (λ b. is_blank b ≡ false) v
no_blank i [] h = tt
no_blank i (b ∷ bs) h = let p = unless_true (is_blank b) _ (first_blank (i + 1) bs) h in (p.0, no_blank (i + 1) bs p.1)

none_blank : (i : ℕ) (v : List ℕ) → AllByRecursion (λ b. is_blank b ≡ false) v → first_blank i v ≡ None
none_blank i [] h = refl
none_blank i (b ∷ bs) h = cond-false _ _ _ h.0 ∙ none_blank (i + 1) bs h.1

-- blanks before an account, and nothing else, are its indent
indent_none : (v : List ℕ) → AllByRecursion (λ b. is_blank b ≡ false) v → indent v ≡ 0
indent_none [] h = refl
indent_none (b ∷ bs) h = cond-false _ _ _ h.0

indent_filled : (n : ℕ) (v : List ℕ) → AllByRecursion (λ b. is_blank b ≡ false) v → indent (replicate n 32 ++ v) ≡ n
indent_filled zero v h = indent_none v h
indent_filled (suc n) v h = one-add _ ∙ ap suc (indent_filled n v h)

-- what stands before the account are blanks
refilled : (bs : List ℕ) → replicate (indent bs) 32 ++ drop (indent bs) bs ≡ bs
refilled [] = refl
refilled (b ∷ bs) = elim (cases_Bool (is_blank b)) [ inl e ↦ rw (e, one-add) (λ i. sym (eqb-true b 32 e) i ∷ refilled bs i) | inr e ↦ rw e ]

-- what a form's account is
record Form (v : List ℕ) : Type 0 where
  fits : length v ≤ 9
  bytes : AllByRecursion (Passes account_byte) v
  some : positive v ≡ true
  solid : AllByRecursion (λ b. is_blank b ≡ false) v

form_from : (v : List ℕ) → account_kind.wrong v ≡ None → Form v
form_from v h =
    let wide = unless_true (nat_lt 9 (length v)) _ _ h in
    let all = passed_all account_byte (9 - length v) v _ wide.1 in
    let flaw = unless_false (positive v) _ _ all.1 in
    record {
      fits = ltb-false 9 (length v) wide.0;
      bytes = all.0;
      some = flaw.0;
      solid = no_blank (9 - length v) v flaw.1;
    }

form_none : (v : List ℕ) → Form v → account_kind.wrong v ≡ None
form_none v F = cond-false _ _ _ (le-ltb 9 (length v) F.fits) ∙ all_pass account_byte (9 - length v) v _ F.bytes ∙ cond-true _ _ _ F.some ∙ none_blank (9 - length v) v F.solid

-- a form's account as it is spelled
abbrev filled : List ℕ → List ℕ
filled v = replicate (9 - length v) 32 ++ v

module _ (v : List ℕ) (F : Form v) where
  found : drop (indent (filled v)) (filled v) ≡ v
  found = ap (λ n. drop n (filled v)) (indent_filled (9 - length v) v F.solid) ∙ drop_at (replicate (9 - length v) 32) v _ (length-replicate (9 - length v) 32)

  filled_proper : fault account_kind (filled v) ≡ None
  filled_proper =
      let bytes = All-append (Passes account_byte) (replicate (9 - length v) 32) v (all_replicate account_byte (9 - length v) 32 refl) F.bytes in
      all_pass account_byte 0 (filled v) _ bytes ∙ ap (account_flaw (indent (filled v))) found ∙ cond-true _ _ _ F.some ∙ none_blank (indent (filled v)) v F.solid

-- the account of a field that has no fault
module _ (bs : List ℕ) (wide : length bs ≡ 9) where
  value_length : length (drop (indent bs) bs) ≡ 9 - indent bs
  value_length = length-drop (indent bs) bs ∙ ap (λ n. n - indent bs) wide

  value_form : fault account_kind bs ≡ None → Form (drop (indent bs) bs)
  value_form proper =
      let all = passed_all account_byte 0 bs _ proper in
      let flaw = unless_false (positive (drop (indent bs) bs)) _ _ all.1 in
      record {
        fits = omega (arith, value_length);
        bytes = All-drop (Passes account_byte) (indent bs) bs all.0;
        some = flaw.0;
        solid = no_blank (indent bs) (drop (indent bs) bs) flaw.1;
      }

  written : filled (drop (indent bs) bs) ≡ bs
  written =
      let blanks : 9 - length (drop (indent bs) bs) ≡ indent bs = omega (arith, value_length, wide, prefix_len-le-length is_blank bs) in
      ap (λ n. replicate n 32 ++ drop (indent bs) bs) blanks ∙ refilled bs

-- what is wrong with an account lies within its field
within_blank : (i : ℕ) (v : List ℕ) → i + length v ≤ 9 → Within 9 (first_blank i v)
within_blank i [] h = tt
within_blank i (b ∷ bs) h = within_cond 9 (is_blank b) _ _ (omega arith) (within_blank (i + 1) bs (omega arith))

within_flaw : (i : ℕ) (v : List ℕ) → i + length v ≤ 9 → Within 9 (account_flaw i v)
within_flaw i v h = within_cond 9 (positive v) _ _ (within_blank i v h) (omega arith)

pub account_lawful : Lawful account_kind
account_lawful = record {
  spelled_width = λ v h. let F = form_from v h in simp (length-append, length-replicate) (omega (arith, F.fits));
  spelled_proper = λ v h. filled_proper v (form_from v h);
  read_back = λ v h. found v (form_from v h);
  value_admitted = λ bs w h. form_none (drop (indent bs) bs) (value_form bs w h);
  written_back = λ bs w h. written bs w;
}

within_wrong : (v : List ℕ) → Within 9 (account_kind.wrong v)
within_wrong v = within_wide 9 (length v) _ _ (omega arith) (λ fits. within_refused 9 (λ _ b. account_byte b) (9 - length v) v _ (omega arith) (within_flaw (9 - length v) v (omega arith)))

pub account_in_field : InField account_kind
account_in_field = record {
  flaw_within = λ bs w. within_flaw (indent bs) (drop (indent bs) bs) (omega (arith, value_length bs w, prefix_len-le-length is_blank bs));
  wrong_within = within_wrong;
}
