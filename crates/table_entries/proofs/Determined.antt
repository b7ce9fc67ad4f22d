-- Any two entries that the contract of `tg_table_entry` admits for one table and place coincide. `Post` is the contract itself, as the
-- toolchain reads it from the call's `ensures`. Assumes nothing.
use mathlib.Core.Path.{◌≡◌, sym, ◌∙◌}
use Rattle.table_entries.proofs.tg_table_entry.Reads as table-entry

abbrev Answers : {K X A E : Type 0} → (K → X → A → E → Type 0) → Type 0
Answers {K = K} {X = X} {A = A} {E = E} post = (k : K) (x : X) (a c : A) (e f : E) → post k x a e → post k x c f → a ≡ c

pub table_entry_one : Answers table-entry.Post
table_entry_one k x a c e f p q = p ∙ sym q
