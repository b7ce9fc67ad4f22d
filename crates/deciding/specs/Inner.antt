-- A test that decides a fact, as inner contracts say it. Assumes nothing.
use Rattle.std.specs.Prelude.{◌≡◌, Bool, true}

pub record Decides (t : Bool) (P : Type 0) : Type 0 where
  pub sure : t ≡ true → P
  pub seen : P → t ≡ true
