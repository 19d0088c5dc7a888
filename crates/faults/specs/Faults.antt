-- How a refusal is reported, and where it stands.
use Rattle.std.specs.Prelude.{ℕ, ◌+◌, Some, None, Option}
use Rattle.faults.specs.declared.Cause.{Cause}
use Rattle.faults.specs.declared.Cause.TheVariants.{Short, LineEnd, RecordType, TooManyDetails, NoSuchEntry, TooWide, WrongByte, Empty, StrayBlank, NoSuchValue, TaxUnmarked, HouseRefused, NotRising, BookFull, SideFull, EntryOut, NoDetails, WrongTotal, TallyRefused, BytesAfter, BufferShort}
use Rattle.faults.specs.declared.Layer.{Layer}
use Rattle.faults.specs.declared.Layer.TheVariants.{Line, Record, File, Run, Field, House}
use Rattle.faults.specs.declared.Fault.{Fault}
use Rattle.faults.specs.declared.Misfit.{Misfit}
use Rattle.faults.specs.declared.Place.{Place}

abbrev pub number : Cause → ℕ
number Short = 1
number LineEnd = 2
number RecordType = 3
number TooManyDetails = 4
number NoSuchEntry = 5
number TooWide = 6
number WrongByte = 7
number Empty = 8
number StrayBlank = 9
number NoSuchValue = 10
number TaxUnmarked = 11
number (HouseRefused reason) = 12
number NotRising = 13
number BookFull = 14
number SideFull = 15
number EntryOut = 16
number NoDetails = 17
number WrongTotal = 18
number (TallyRefused reason) = 19
number BytesAfter = 20
number BufferShort = 21

abbrev pub layer : Cause → Layer
layer Short = Line
layer LineEnd = Line
layer RecordType = Record
layer TooManyDetails = File
layer NoSuchEntry = Run
layer TooWide = Field
layer WrongByte = Field
layer Empty = Field
layer StrayBlank = Field
layer NoSuchValue = Field
layer TaxUnmarked = Record
layer (HouseRefused reason) = House
layer NotRising = Run
layer BookFull = Run
layer SideFull = Run
layer EntryOut = Run
layer NoDetails = File
layer WrongTotal = File
layer (TallyRefused reason) = House
layer BytesAfter = File
layer BufferShort = Run

-- the reason of a house's refusal
abbrev pub reason : Cause → Option ℕ
reason (HouseRefused r) = Some r
reason (TallyRefused r) = Some r
reason _ = None

-- a misfit of the field that begins at the place
abbrev pub placed : Place → Misfit → Fault
placed p m = record { cause = m.cause; line = p.line; column = p.column + m.offset }

abbrev pub right : Place → ℕ → Place
right p n = record { line = p.line; column = p.column + n }

abbrev pub fault_at : Cause → ℕ → ℕ → Fault
fault_at cause line column = record { cause = cause; line = line; column = column }
