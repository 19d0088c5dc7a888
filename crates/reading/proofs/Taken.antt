-- A record and its CR LF at the front of some bytes: taken off them, and put before them.
use Rattle.std.proofs.Common.{◌≡◌, ℕ, ◌≤◌, List, [], ◌∷◌, ◌++◌, length, get_or, take, drop, None, Option, sym, ap, ◌∙◌, subst, append_assoc, arith, length-append, take-append-drop}
use Rattle.std.proofs.lemmas.List.{take_at, drop_at, drop_more, get_or_at, get_or_append_left, get_or-append_right, length-take-le}
use Rattle.std.proofs.lemmas.Bool.Decides.{nat_tests}
use Rattle.faults.specs.declared.Fault.{Fault}
use Rattle.lines.specs.Lines.{line_fault}
use Rattle.lines.proofs.LineEnds.{line_proper}
use Rattle.reading.specs.Exact.{line_of}
use Rattle.reading.proofs.Spelled.{Spelling}

-- bytes that begin with a line
module _ (line : ℕ) (rest : List ℕ) (h : line_fault line rest ≡ None) where
  line_long : 122 ≤ length rest
  line_long = grind (arith, nat_tests)

  line_ends : (get_or rest 120 0 ≡ 13) × (get_or rest 121 0 ≡ 10)
  line_ends = grind (arith, nat_tests)

  front_long : length (take 120 rest) ≡ 120
  front_long = let long = line_long in length-take-le 120 rest (omega arith)

  after_front : drop 120 rest ≡ 13 ∷ 10 ∷ drop 122 rest
  after_front =
      let long = line_long in
      drop_more rest 120 0 (omega arith) ∙ (λ i. line_ends.0 i ∷ drop_more rest 121 0 (omega arith) i) ∙ ap (λ b. 13 ∷ b ∷ drop 122 rest) line_ends.1

  line_split : rest ≡ line_of (take 120 rest) ++ drop 122 rest
  line_split = sym (take-append-drop 120 rest) ∙ ap (λ bs. take 120 rest ++ bs) after_front ∙ sym (append_assoc (take 120 rest) (13 ∷ 10 ∷ []) (drop 122 rest))

-- a line before some bytes
module _ (bs more : List ℕ) (long : length bs ≡ 120) where
  line_apart : line_of bs ++ more ≡ bs ++ (13 ∷ 10 ∷ more)
  line_apart = append_assoc bs (13 ∷ 10 ∷ []) more

  line_whole : (line : ℕ) → line_fault line (line_of bs ++ more) ≡ None
  line_whole line =
      subst (λ xs. line_fault line xs ≡ None) (sym line_apart)
      (line_proper line (bs ++ (13 ∷ 10 ∷ more)) (omega (arith, length-append bs (13 ∷ 10 ∷ more)))
      (get_or_at bs 13 (10 ∷ more) 0 120 long) (get_or-append_right bs (13 ∷ 10 ∷ more) 120 121 0 long (omega arith)))

  line_first : get_or (line_of bs ++ more) 0 0 ≡ get_or bs 0 0
  line_first = ap (λ xs. get_or xs 0 0) line_apart ∙ get_or_append_left bs (13 ∷ 10 ∷ more) 0 0 (omega arith)

  line_taken : take 120 (line_of bs ++ more) ≡ bs
  line_taken = ap (take 120) line_apart ∙ take_at bs (13 ∷ 10 ∷ more) 120 long

  line_dropped : drop 122 (line_of bs ++ more) ≡ more
  line_dropped = drop_at (line_of bs) more 122 (omega (arith, length-append bs (13 ∷ 10 ∷ [])))

-- bytes that are read as the line of a record, and more after it
pub record Begins {W : Type 0} {tag : ℕ} {fault : ℕ → List ℕ → Option Fault} {value : List ℕ → W} {wrong : W → Option Fault} {bytes : W → List ℕ} (s : Spelling tag fault value wrong bytes) (line : ℕ) (rest : List ℕ) (w : W) (more : List ℕ) : Type 0 where
  pub whole : line_fault line rest ≡ None
  pub first : get_or rest 0 0 ≡ tag
  pub proper : fault line (take 120 rest) ≡ None
  pub says : value (take 120 rest) ≡ w
  pub then : drop 122 rest ≡ more

module _ {W : Type 0} {tag : ℕ} {fault : ℕ → List ℕ → Option Fault} {value : List ℕ → W} {wrong : W → Option Fault} {bytes : W → List ℕ} (s : Spelling tag fault value wrong bytes) where
  pub taken_admitted : (line : ℕ) (rest : List ℕ) → line_fault line rest ≡ None → fault line (take 120 rest) ≡ None → wrong (value (take 120 rest)) ≡ None
  taken_admitted line rest h proper = s.read_admitted line (take 120 rest) (front_long line rest h) proper

  pub taken_spelled : (line : ℕ) (rest : List ℕ) → line_fault line rest ≡ None → fault line (take 120 rest) ≡ None → rest ≡ line_of (bytes (value (take 120 rest))) ++ drop 122 rest
  taken_spelled line rest h proper = line_split line rest h ∙ ap (λ bs. line_of bs ++ drop 122 rest) (sym (s.read_spelled line (take 120 rest) (front_long line rest h) proper))

  pub begins : (line : ℕ) (w : W) (more : List ℕ) → wrong w ≡ None → Begins s line (line_of (bytes w) ++ more) w more
  begins line w more h =
      let long = s.spelled_size w h in
      let front = line_taken (bytes w) more long in
      record {
        whole = line_whole (bytes w) more long line;
        first = line_first (bytes w) more long ∙ s.spelled_tag w;
        proper = ap (fault line) front ∙ s.spelled_proper line w h;
        says = ap value front ∙ s.spelled_read w h;
        then = line_dropped (bytes w) more long;
      }
