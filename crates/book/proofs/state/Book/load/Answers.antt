use Rattle.book.proofs.Accepting.{loads_back, loads_only_books}
use Rattle.book.proofs.Refusing.{load_refuses}
use Rattle.book.proofs.state.Book.load.Goals as goal

pub returns-in_err-fresh-clause-back : goal.returns-in_err-fresh-clause-back
returns-in_err-fresh-clause-back c = loads_back

pub returns-in_err-fresh-clause-only : goal.returns-in_err-fresh-clause-only
returns-in_err-fresh-clause-only c = loads_only_books

pub returns-in_err-fresh-clause-refused : goal.returns-in_err-fresh-clause-refused
returns-in_err-fresh-clause-refused c = load_refuses

pub returns-clause-back : goal.returns-clause-back
returns-clause-back c = loads_back

pub returns-clause-only : goal.returns-clause-only
returns-clause-only c = loads_only_books

pub returns-clause-refused : goal.returns-clause-refused
returns-clause-refused c = load_refuses
