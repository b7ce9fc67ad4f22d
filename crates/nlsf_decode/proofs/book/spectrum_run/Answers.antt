-- The rows that it lends are the book's. Assumes nothing.
use Rattle.std.proofs.Common.{◌≡◌, ℕ, List, [], get_or, arith, rules, sym, ◌∙◌}
use lib.IntN.{ℤ}
use mir.Syntax.{w32}
use mir.Val.{SFits}
use mir.Facts.{to_z-of_z}
use Rattle.sheet.specs.Books.{Book}
use Rattle.tables.specs.Inner.BookLaws.{BookLaws}
use Rattle.tables.specs.Inner.{predictor_row}
use Rattle.tables.proofs.VectorLaws.{vector_weighed}
use Rattle.nlsf_stabilize_stays.proofs.StayLaws.{stays_still}
use Rattle.nlsf_places.specs.Inner.{weighted}
use Rattle.nlsf_decode.proofs.RowLaws.{RowsOf, places_asked, handed}
use Rattle.nlsf_decode.proofs.book.spectrum_run.Goals as goal

module _ {n h p q s : ℕ} {sum : ℤ} {b : Book} (k : BookLaws n h p q s sum b) (v : ℕ) {t : ℕ} {es ls vs : List ℕ}
    (step : t ≡ s) (selectors : es ≡ get_or b.selectors v []) (lists : ls ≡ predictor_row b) (values : vs ≡ get_or b.vectors v []) where
  rows : RowsOf b v (weighted t es ls vs)
  rows =
      record {
        step = step ∙ sym k.step;
        selectors = selectors;
        lists = lists;
        values = values;
        weights = vector_weighed v values k.ruled;
      }

pub selectors_run-selector-requires : goal.selectors_run-selector-requires
selectors_run-selector-requires g c =
    let k = g.met.B.Book.laws in (omega (arith, k.selectors_few), c.requires.row)

pub predictors-lists-requires : goal.predictors-lists-requires
predictors-lists-requires g c = let k = g.met.B.Book.laws in omega (arith, k.predictors_few)

pub shared_whole_as_slice-places_run-2 : goal.shared_whole_as_slice-places_run-2
shared_whole_as_slice-places_run-2 g c = let k = g.met.B.Book.laws in omega (arith, k.predictors_few)

pub gaps-gaps-requires : goal.gaps-gaps-requires
gaps-gaps-requires g c = let k = g.met.B.Book.laws in omega (arith, k.gaps_few)

pub places_run-requires : goal.places_run-requires
places_run-requires g c =
    let k = g.met.B.Book.laws in
    let r = rows k c.args.v c.STEP.ensures c.selectors_run-selector.ensures c.predictors-lists.ensures c.vector_run-value.ensures in
    places_asked k.usable k.order r c.requires k.rising

pub stabilise_run-requires : goal.stabilise_run-requires
stabilise_run-requires g c =
    let k = g.met.B.Book.laws in
    let r = rows k c.args.v c.STEP.ensures c.selectors_run-selector.ensures c.predictors-lists.ensures c.vector_run-value.ensures in
    let h = handed k.usable k.order r c.requires c.gaps-gaps.ensures c.places_run.ensures c.places_run.auto.vector in
    let f : SFits w32 c.GAP_SUM.result = search rules in
    ((h.asked, to_z-of_z f ∙ c.GAP_SUM.ensures ∙ sym (h.sum ∙ k.gaps)), sym c.stays_run.ensures ∙ c.if-stays_run.false)

pub returns-then-stays_run : goal.returns-then-stays_run
returns-then-stays_run g c =
    let k = g.met.B.Book.laws in
    let r = rows k c.args.v c.STEP.ensures c.selectors_run-selector.ensures c.predictors-lists.ensures c.vector_run-value.ensures in
    let h = handed k.usable k.order r c.requires c.gaps-gaps.ensures c.places_run.ensures c.places_run.auto.vector in
    h.answer (stays_still c.places_run.new.vector c.gaps-gaps.result h.asked.long (sym c.stays_run.ensures ∙ c.if-stays_run.true))

pub returns-else-stays_run : goal.returns-else-stays_run
returns-else-stays_run g c =
    let k = g.met.B.Book.laws in
    let r = rows k c.args.v c.STEP.ensures c.selectors_run-selector.ensures c.predictors-lists.ensures c.vector_run-value.ensures in
    let h = handed k.usable k.order r c.requires c.gaps-gaps.ensures c.places_run.ensures c.places_run.auto.vector in
    h.answer c.stabilise_run.ensures
