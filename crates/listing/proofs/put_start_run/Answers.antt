-- A word, and numbers behind it. Assumes nothing.
use Rattle.numerals.proofs.Put.{put_then}
use Rattle.listing.proofs.put_start_run.Goals as goal

pub returns : goal.returns
returns c = put_then c.put_word_run-place.ensures c.put_numbers_run.ensures
