-- The three records, each by what it owes and by the byte that it begins with.
use Rattle.std.proofs.Common.{◌≡◌, ℕ, List, length, get_or, None, Option, refl}
use Rattle.faults.specs.declared.Fault.{Fault}
use Rattle.kinds.specs.Forms.{Form, LawfulForm, record_value, record_fault, record_wrong, record_bytes}
use Rattle.kinds.proofs.Forms.{read_admitted, read_spelled, spelled_size, spelled_proper, spelled_read}
use Rattle.headers.specs.Headers.{header_form, header_fault, header_value, header_wrong, header_bytes}
use Rattle.headers.specs.Laws.{header_lawful}
use Rattle.payments.specs.Payments.{payment_form, payment_fault, payment_value, payment_wrong, payment_bytes}
use Rattle.payments.specs.Laws.{payment_lawful}
use Rattle.trailers.specs.Trailers.{trailer_form, trailer_fault, trailer_value, trailer_wrong, trailer_bytes}
use Rattle.trailers.specs.Laws.{trailer_lawful}

-- a record that begins with the byte tag
pub record Spelling {W : Type 0} (tag : ℕ) (fault : ℕ → List ℕ → Option Fault) (value : List ℕ → W) (wrong : W → Option Fault) (bytes : W → List ℕ) : Type 0 where
  pub read_admitted : (line : ℕ) (bs : List ℕ) → length bs ≡ 120 → fault line bs ≡ None → wrong (value bs) ≡ None
  pub read_spelled : (line : ℕ) (bs : List ℕ) → length bs ≡ 120 → fault line bs ≡ None → bytes (value bs) ≡ bs
  pub spelled_size : (w : W) → wrong w ≡ None → length (bytes w) ≡ 120
  pub spelled_proper : (line : ℕ) (w : W) → wrong w ≡ None → fault line (bytes w) ≡ None
  pub spelled_read : (w : W) → wrong w ≡ None → value (bytes w) ≡ w
  pub spelled_tag : (w : W) → get_or (bytes w) 0 0 ≡ tag

spelling : (f : Form) → LawfulForm f → (tag : ℕ) → ((v : f.Value) → get_or (record_bytes f v) 0 0 ≡ tag) → Spelling tag (record_fault f) (record_value f) (record_wrong f) (record_bytes f)
spelling f ok tag first = record {
  read_admitted = read_admitted f ok;
  read_spelled = read_spelled f ok;
  spelled_size = spelled_size f ok;
  spelled_proper = λ line v h. spelled_proper f ok v h line;
  spelled_read = spelled_read f ok;
  spelled_tag = first;
}

pub header_spelling : Spelling 48 header_fault header_value header_wrong header_bytes
unfolding header_fault header_value header_wrong header_bytes
header_spelling = spelling header_form header_lawful 48 (λ _. refl)

pub payment_spelling : Spelling 49 payment_fault payment_value payment_wrong payment_bytes
unfolding payment_fault payment_value payment_wrong payment_bytes
payment_spelling = spelling payment_form payment_lawful 49 (λ _. refl)

pub trailer_spelling : Spelling 55 trailer_fault trailer_value trailer_wrong trailer_bytes
unfolding trailer_fault trailer_value trailer_wrong trailer_bytes
trailer_spelling = spelling trailer_form trailer_lawful 55 (λ _. refl)
