-- A record is spelled as it was read, and reads as it was spelled: for every lawful form, once.
use Rattle.std.proofs.Common.{◌≡◌, ℕ, List, length, None, Option, refl, sym, ap, ◌∙◌}
use Rattle.std.specs.Option.{option_or}
use Rattle.faults.specs.declared.Fault.{Fault}
use Rattle.kinds.specs.Forms.{Form, LawfulForm, record_value, record_fault, record_wrong, record_bytes}
use Rattle.kinds.specs.Layouts.{Admitted, RoundTrip, start, values, form_fault, spelled}
use Rattle.kinds.specs.RoundTrips.{SpellsBack, ReadsBack}
use Rattle.kinds.proofs.RoundTrip.{none_first, round_trip}

none_both : (a b : Option Fault) → a ≡ None → b ≡ None → option_or a b ≡ None
none_both a b ha hb = rw (ha, hb) refl

module _ (f : Form) (ok : LawfulForm f) where
  trip : RoundTrip f.row
  trip = round_trip f.row ok.lawful

  -- what is read of a record
  module _ (line : ℕ) (bs : List ℕ) (long : length bs ≡ 120) (h : record_fault f line bs ≡ None) where
    pub read_admitted : record_wrong f (record_value f bs) ≡ None
    read_admitted =
        let none = none_first _ _ h in
        let u = values f.row bs in
        none_both _ _ (ap (form_fault f.row (start 0)) (ok.said_fields u) ∙ trip.unjudged (start 0) u (trip.read_admitted (start line) bs (long ∙ sym ok.wide) none.0)) (ok.flaw_anywhere line 0 (record_value f bs) none.1)

    pub read_spelled : record_bytes f (record_value f bs) ≡ bs
    read_spelled = ap (spelled f.row) (ok.said_fields (values f.row bs)) ∙ trip.read_spelled (start line) bs (long ∙ sym ok.wide) (none_first _ _ h).0

    pub spells_back : SpellsBack (record_wrong f) (record_bytes f) (record_value f bs) bs
    spells_back = record { admitted = read_admitted; spelling = read_spelled }

  -- a form of admitted values that go together is refused for nothing
  pub admitted_each : (v : f.Value) → Admitted f.row (f.fields v) → f.flaw 0 v ≡ None → record_wrong f v ≡ None
  admitted_each v each h = none_both _ _ (trip.unjudged (start 0) (f.fields v) each) h

  -- what is spelled of a form
  module _ (v : f.Value) (h : record_wrong f v ≡ None) where
    pub each_admitted : Admitted f.row (f.fields v)
    each_admitted = trip.judged (start 0) (f.fields v) (none_first _ _ h).0

    pub spelled_size : length (record_bytes f v) ≡ 120
    spelled_size = trip.spelled_size (f.fields v) each_admitted ∙ ok.wide

    pub spelled_read : record_value f (record_bytes f v) ≡ v
    spelled_read = ap f.said (trip.spelled_read (f.fields v) each_admitted) ∙ ok.fields_said v

    pub spelled_proper : (line : ℕ) → record_fault f line (record_bytes f v) ≡ None
    spelled_proper line =
        none_both _ _ (trip.spelled_proper (start line) (f.fields v) each_admitted) (ap (f.flaw line) spelled_read ∙ ok.flaw_anywhere 0 line v (none_first _ _ h).1)

    pub reads_back : ReadsBack (record_fault f) (record_value f) v (record_bytes f v)
    reads_back = record { proper = spelled_proper; reading = spelled_read }
