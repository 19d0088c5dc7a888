-- What a line says, case by case.
use Rattle.reading.specs.declared.records.Record.{Record}
use Rattle.reading.specs.declared.records.Record.TheVariants.{Header, Detail, Trailer}
use Rattle.trailers.specs.declared.Trailer.{Trailer as TrailerOf}
use Rattle.headers.specs.Headers.{HeaderOf, header_of}
use Rattle.payments.specs.Payments.{PaymentOf, payment_of}

pub data RecordOf : Type 0 where
  a_header : HeaderOf → RecordOf
  a_detail : PaymentOf → RecordOf
  a_trailer : TrailerOf → RecordOf

abbrev pub record_of : Record → RecordOf
record_of (Header h) = a_header (header_of h)
record_of (Detail p) = a_detail (payment_of p)
record_of (Trailer t) = a_trailer t
