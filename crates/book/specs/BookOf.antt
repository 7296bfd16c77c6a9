-- The book of a value that was read with its bytes.
use Rattle.book.specs.Book.{Book}
use Rattle.book.specs.Meaning.{book_at}
use Rattle.book.specs.declared.read.ReadBook.{ReadBook}

abbrev pub book_of : ReadBook → Book
book_of b = book_at b.bytes.now b.places
