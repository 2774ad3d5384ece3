-- Reading accepts exactly the encodings of well-formed books.
use Rattle.book.proofs.Accepts.{accepts, reading_ok}
use Rattle.book.proofs.ReadsBack.{reads_back}
use Rattle.book.specs.Encodings.{ReaderLaw}

pub reader_law : ReaderLaw
reader_law = record {
  accepted = λ bs b bytes e. accepts bs b bytes (reading_ok bs b e);
  read_back = reads_back;
}
