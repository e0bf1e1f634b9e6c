-- The records of a book, read out of the words that it shows.
use Rattle.std.proofs.Common.{◌≡◌, ℕ, ◌*◌, ◌≤◌, min, List, length, take, drop, sym, ap, ◌∙◌, arith}
use Rattle.std.proofs.lemmas.List.{take_min, drop_min}
use Rattle.book.specs.declared.state.Book.{Book}
use Rattle.book.specs.View.{records_of}
use Rattle.book.specs.Words.{reads, writes}
use Rattle.book.proofs.Coding.{length-reads, reads-take, reads-drop}

module _ (b : Book) (room : 2 * b.records ≤ length b.words) where
  pub length-records : length (records_of b) ≡ b.records
  length-records = length-reads b.words b.records room

  pub few-records : length (records_of b) ≤ 4096
  few-records = omega (arith, length-records, b.number)

pub reads-used : (b : Book) (ws : List ℕ) → ws ≡ writes (records_of b) → reads ws ≡ records_of b
reads-used b ws e = ap reads (e ∙ b.written)

-- the words of the first records, and of those from number n on
module _ (b : Book) (room : 2 * b.records ≤ length b.words) (ws : List ℕ) (shown : ws ≡ writes (records_of b)) (n : ℕ) where
  pub records-before : reads (take (2 * min n b.records) ws) ≡ take n (records_of b)
  records-before =
      reads-take (min n b.records) ws
      ∙ ap (take (min n b.records)) (reads-used b ws shown)
      ∙ ap (λ k. take (min n k) (records_of b)) (sym (length-records b room))
      ∙ take_min n (records_of b)

  pub records-from : reads (drop (2 * min n b.records) ws) ≡ drop n (records_of b)
  records-from =
      reads-drop (min n b.records) ws
      ∙ ap (drop (min n b.records)) (reads-used b ws shown)
      ∙ ap (λ k. drop (min n k) (records_of b)) (sym (length-records b room))
      ∙ drop_min n (records_of b)
