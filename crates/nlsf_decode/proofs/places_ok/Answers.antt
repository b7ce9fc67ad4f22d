-- Either arm tests the places of its rate's book. Assumes nothing.
use Rattle.std.proofs.Common.{◌≡◌, ℕ, Bool, List, take, drop, ap, ◌∙◌}
use lib.IntN.{ℤ, pos, negsuc}
use Rattle.lists.specs.Every.{every}
use Rattle.ranges.specs.InRange.{in_range}
use Rattle.sheet.specs.Books.{Book}
use Rattle.spectrum.specs.Calls.{book_of, place_indices}
use Rattle.nlsf_decode.proofs.RowLaws.{Under, wide_under, narrow_under, order_is}
use Rattle.nlsf_decode.proofs.places_ok.Goals as goal

-- the test of n places, where n is the order of the rate's book
by_order : {khz n : ℕ} {b : Book} → Under khz b n → (index : List ℤ) {t : Bool}
    → t ≡ every (in_range (negsuc 9) (pos 10)) (take n (drop 1 index))
    → t ≡ every (in_range (negsuc 9) (pos 10)) (place_indices (book_of khz).order index)
by_order u index e = e ∙ ap (λ (m : ℕ). every (in_range (negsuc 9) (pos 10)) (take m (drop 1 index))) (order_is u)

pub returns-then-khz-eq16 : goal.returns-then-khz-eq16
returns-then-khz-eq16 c = by_order (wide_under c.args.khz c.if-khz-eq16.true) c.args.index c.all_in_range.ensures

pub returns-else-khz-eq16 : goal.returns-else-khz-eq16
returns-else-khz-eq16 c = by_order (narrow_under c.args.khz c.if-khz-eq16.false) c.args.index c.all_in_range-else-khz-eq16.ensures
