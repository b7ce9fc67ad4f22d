-- `selectors_run` meets its contract: each arm's row is the book's, by computation. Assumes nothing.
use mathlib.Core.Path.{refl}
use Rattle.sheet.specs.Books.{narrow_book}
use Rattle.tables.proofs.Arms.{arm, last}
use Rattle.tables.proofs.books.NarrowBook1052011.selectors_run.Statement.{statement}
use Rattle.tables.proofs.books.NarrowBook1052011.selectors_run.Tie as tie

pub selectors_run_spec : {M : Type 1} → statement M
unfolding narrow_book
selectors_run_spec =
    let t = narrow_book.selectors in
    tie.close (tie.spec
    (λ c. search (arm t)) (λ c. search (arm t)) (λ c. search (arm t)) (λ c. search (arm t)) (λ c. search (arm t))
    (λ c. search (arm t)) (λ c. search (arm t)) (λ c. search (arm t)) (λ c. search (arm t)) (λ c. search (arm t))
    (λ c. search (arm t)) (λ c. search (arm t)) (λ c. search (arm t)) (λ c. search (arm t)) (λ c. search (arm t))
    (λ c. search (arm t)) (λ c. search (arm t)) (λ c. search (arm t)) (λ c. search (arm t)) (λ c. search (arm t))
    (λ c. search (arm t)) (λ c. search (arm t)) (λ c. search (arm t)) (λ c. search (arm t)) (λ c. search (arm t))
    (λ c. search (arm t)) (λ c. search (arm t)) (λ c. search (arm t)) (λ c. search (arm t)) (λ c. search (arm t))
    (λ c. search (arm t)) (λ c. arm t (last 31 c.args.v c.requires c.in_default.in_default-own.rest) refl))
