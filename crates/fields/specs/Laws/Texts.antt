-- The laws of the kinds of characters.
use Rattle.std.specs.Prelude.{◌≡◌, ℕ, ◌+◌, ◌-◌, ◌<◌, ◌≤◌, false, Some, List, [], ◌∷◌, ◌++◌, length, take, drop, replicate, None, codes, Option, ◌==◌, nat_lt, slice_index, refl}
use Rattle.std.proofs.Common.{sym, ap, subst, ◌∙◌, arith}
use Rattle.std.specs.List.{AllByRecursion}
use Rattle.std.proofs.ByRecursion.{All-append, All-take}
use Rattle.std.proofs.lemmas.List.{length-append, length-replicate, length-take-le, take_at, take_all, take-append-drop, get_or_append_left, get_or-take}
use Rattle.std.proofs.lemmas.Bool.{ne_eqb, eqb-false, ltb-false, le-ltb, cond-false}
use Rattle.faults.specs.declared.Cause.TheVariants.{Empty, StrayBlank}
use Rattle.fields.specs.Numbers.{whole}
use Rattle.faults.specs.declared.Misfit.{Misfit}
use Rattle.kinds.specs.Kinds.{Lawful, InField, fault}
use Rattle.kinds.specs.Admitted.{Within, within_cond, within_refused, within_wide, Passes, all_pass, passed_all, all_replicate, unless_true}
use Rattle.fields.specs.Laws.TextEnds.{end_stops, end_le, end_again, last_stands, blanks_follow, end_front, end_filled}
use Rattle.fields.specs.Texts.{mark_kind, text_kind, member, ends_blank, is_blank, character, text_end, text_of, text_flaw}

-- a list of one byte
pub single : (bs : List ℕ) → length bs ≡ 1 → bs ≡ slice_index bs 0 ∷ []
single [] h = absurd (omega arith)
single (b ∷ []) h = refl
single (b ∷ c ∷ bs) h = absurd (omega arith)

pub mark_lawful : Lawful mark_kind
mark_lawful = record {
  spelled_width = λ v h. refl;
  spelled_proper = λ v h. h;
  read_back = λ v h. refl;
  value_admitted = λ bs w h. subst (λ (xs : List ℕ). fault mark_kind xs ≡ None) (single bs w) h;
  written_back = λ bs w h. sym (single bs w);
}

pub mark_in_field : InField mark_kind
mark_in_field = record {
  flaw_within = λ bs w. tt;
  wrong_within = λ b. within_cond 1 (member b (codes " NWXY")) None _ tt (omega arith);
}

flaw_within : (w : ℕ) (bs : List ℕ) (later : Option Misfit) → Within w later → Within w (text_flaw bs later)
flaw_within w bs later h = within_cond w (text_end bs (length bs) == 0) (Some (whole Empty)) _ (omega arith) (within_cond w (is_blank (slice_index bs 0)) (Some (whole StrayBlank)) later (omega arith) h)

-- what a text's flaw is made of
pub flaw_parts : (bs : List ℕ) (later : Option Misfit) → text_flaw bs later ≡ None → (0 < text_end bs (length bs)) × (is_blank (slice_index bs 0) ≡ false) × (later ≡ None)
flaw_parts bs later h =
    let p = unless_true (text_end bs (length bs) == 0) _ _ h in
    let q = unless_true (is_blank (slice_index bs 0)) _ _ p.1 in
    (omega (arith, eqb-false _ _ p.0), q.0, q.1)

pub flaw_later : (bs : List ℕ) (later : Option Misfit) → 0 < text_end bs (length bs) → is_blank (slice_index bs 0) ≡ false → text_flaw bs later ≡ later
flaw_later bs later s f = cond-false _ _ _ (ne_eqb (text_end bs (length bs)) 0 (λ e. omega arith)) ∙ cond-false _ _ _ f

-- what a form's text is
record Form (w : ℕ) (v : List ℕ) : Type 0 where
  fits : length v ≤ w
  chars : AllByRecursion (Passes character) v
  some : 0 < text_end v (length v)
  front : is_blank (slice_index v 0) ≡ false
  back : is_blank (slice_index v (length v - 1)) ≡ false

form_from : (w : ℕ) (v : List ℕ) → (text_kind w).wrong v ≡ None → Form w v
form_from w v h =
    let wide = unless_true (nat_lt w (length v)) _ _ h in
    let bytes = passed_all character 0 v _ wide.1 in
    let parts = flaw_parts v _ bytes.1 in
    record {
      fits = ltb-false w (length v) wide.0;
      chars = bytes.0;
      some = parts.0;
      front = parts.1;
      back = (unless_true (is_blank (slice_index v (length v - 1))) _ None parts.2).0;
    }

form_none : (w : ℕ) (v : List ℕ) → Form w v → (text_kind w).wrong v ≡ None
form_none w v F = cond-false _ _ _ (le-ltb w (length v) F.fits) ∙ all_pass character 0 v _ F.chars ∙ flaw_later v _ F.some F.front ∙ cond-false _ _ _ F.back

-- a form's text as it is spelled
abbrev filled : ℕ → List ℕ → List ℕ
filled w v = v ++ replicate (w - length v) 32

length_filled : (w : ℕ) (v : List ℕ) → length (filled w v) ≡ length v + (w - length v)
length_filled w v = simp (length-append, length-replicate)

module _ (w : ℕ) (v : List ℕ) (F : Form w v) where
  not_none : 0 < length v
  not_none = omega (arith, F.some, end_le v (length v))

  filled_end : text_end (filled w v) (length (filled w v)) ≡ length v
  filled_end = ap (text_end (filled w v)) (length_filled w v) ∙ end_filled v (w - length v) ∙ end_stops v (length v) (length v - 1) (omega (arith, not_none)) F.back

  filled_proper : fault (text_kind w) (filled w v) ≡ None
  filled_proper =
      let chars = All-append (Passes character) v (replicate (w - length v) 32) F.chars (all_replicate character (w - length v) 32 refl) in
      let front : is_blank (slice_index (filled w v) 0) ≡ false = ap is_blank (get_or_append_left v _ 0 0 not_none) ∙ F.front in
      all_pass character 0 (filled w v) _ chars ∙ flaw_later (filled w v) None (omega (arith, filled_end, not_none)) front

-- the text of a field that has no fault
module _ (w : ℕ) (bs : List ℕ) (wide : length bs ≡ w) (proper : fault (text_kind w) bs ≡ None) where
  text_length : length (text_of bs) ≡ text_end bs (length bs)
  text_length = length-take-le _ bs (end_le bs (length bs))

  text_ends : text_end (text_of bs) (length (text_of bs)) ≡ length (text_of bs)
  text_ends =
      let n = text_end bs (length bs) in
      let same : text_end (text_of bs) n ≡ n = sym (end_front (text_of bs) (drop n bs) n (omega (arith, text_length))) ∙ ap (λ xs. text_end xs n) (take-append-drop n bs) ∙ end_again bs (length bs) in
      ap (text_end (text_of bs)) text_length ∙ same ∙ sym text_length

  value_form : Form w (text_of bs)
  value_form =
      let bytes = passed_all character 0 bs _ proper in
      let parts = flaw_parts bs None bytes.1 in
      record {
        fits = omega (arith, text_length, end_le bs (length bs));
        chars = All-take (Passes character) _ bs bytes.0;
        some = omega (arith, text_ends, text_length, parts.0);
        front = ap is_blank (get_or-take _ bs 0 0 parts.0) ∙ parts.1;
        back = last_stands (text_of bs) _ _ (omega (arith, text_length, parts.0)) text_ends;
      }

  refilled : filled w (text_of bs) ≡ bs
  refilled =
      let rest : w - length (text_of bs) ≡ length bs - text_end bs (length bs) = omega (arith, text_length) in
      ap (λ n. text_of bs ++ replicate n 32) rest ∙ sym (blanks_follow bs (length bs) (omega arith)) ∙ take_all (length bs) bs (omega arith)

pub text_lawful : (w : ℕ) → Lawful (text_kind w)
text_lawful w = record {
  spelled_width = λ v h. let F = form_from w v h in length_filled w v ∙ omega (arith, F.fits);
  spelled_proper = λ v h. filled_proper w v (form_from w v h);
  read_back = λ v h. ap (λ n. take n (filled w v)) (filled_end w v (form_from w v h)) ∙ take_at v _ (length v) refl;
  value_admitted = λ bs wide h. form_none w (text_of bs) (value_form w bs wide h);
  written_back = refilled w;
}

within_wrong : (w : ℕ) (v : List ℕ) → Within w ((text_kind w).wrong v)
within_wrong w v =
    let last = within_cond w (is_blank (slice_index v (length v - 1))) (Some (record { cause = StrayBlank; offset = length v - 1 })) None in
    within_wide w (length v) _ _ (omega arith) (λ fits. within_refused w (λ _ b. character b) 0 v _ (omega arith) (flaw_within w v (ends_blank v) (last (omega arith) tt)))

pub text_in_field : (w : ℕ) → InField (text_kind w)
text_in_field w = record {
  flaw_within = λ bs wide. flaw_within w bs None tt;
  wrong_within = within_wrong w;
}
