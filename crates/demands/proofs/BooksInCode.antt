-- Books in the running code: it answers as the definition does, which reads exactly the bytes of the books within the limits. Assumes nothing.
use mathlib.Core.Logic.Iff
use mathlib.Core.Path.{◌≡◌, sym, ap, ◌∙◌}
use Rattle.reply.specs.Reply.{given, ◌>>=◌}
use Rattle.reply.proofs.Given.{bind_given, given_bind}
use Rattle.book.specs.Reading.{read_book}
use Rattle.demands.specs.EntryPoints.{Counts, counts_of, answer, reading_a_book, counting_a_book}
use Rattle.demands.specs.Demand2.{BooksAreRead}
use Rattle.demands.specs.InCode.{InCode, AsDefined}
use Rattle.demands.specs.BooksInCode.{BooksInCode, BooksCountedInCode}
use Rattle.demands.specs.Functions.{read_book_in_code}
use Rattle.demands.specs.ForC.{read_book_of_c}
use Rattle.demands.proofs.AsDefined.{itself, read_book_as_defined}
use Rattle.demands.proofs.Demand2.{demand2}
use Rattle.demands.proofs.ForC.{read_book_of_c_lem}

books : (code : InCode reading_a_book) → AsDefined code → BooksInCode code
unfolding BooksInCode BooksAreRead answer
books code as-defined call bytes book asked =
    let so : code.answered call ≡ read_book bytes = as-defined.answers call ∙ ap (answer reading_a_book) asked ∙ sym (itself (read_book bytes)) in
    Iff.trans (λ e. sym so ∙ e, λ e. so ∙ e) (demand2.books bytes book)

counted : (code : InCode counting_a_book) → AsDefined code → BooksCountedInCode code
unfolding BooksCountedInCode BooksAreRead answer
counted code as-defined call bytes counts asked =
    let so : code.answered call ≡ ◌>>=◌ (read_book bytes) (λ book. given (counts_of book)) = as-defined.answers call ∙ ap (answer counting_a_book) asked in (
      λ e.
          let (book, read, told) = bind_given (read_book bytes) _ _ (sym so ∙ e) in
          let (within, bytes-are) = (demand2.books bytes book).0 read in
          record { book = book; within = within; bytes_are = bytes-are; counts_are = cc told },
      λ its.
          so
          ∙ given_bind (read_book bytes) _ its.book ((demand2.books bytes its.book).1 (its.within, its.bytes_are))
          ∙ ap (λ (c : Counts). given c) (sym its.counts_are),
    )

pub books_in_code : BooksInCode read_book_in_code
books_in_code = books read_book_in_code read_book_as_defined

pub books_of_c : BooksCountedInCode read_book_of_c
books_of_c = counted read_book_of_c read_book_of_c_lem
