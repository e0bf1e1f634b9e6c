-- A digit less each time.
use Rattle.listing.proofs.bytes.+digits.Given as goal

abbrev pub decreases-digits : goal.decreases-digits
decreases-digits l = l.n
