-- The writer's front (RFC 6716, sections 5.1.1 and 5.1.1.1): range and value, and the digits that a carry may still
-- reach: a held byte and a run of 255s behind it. Assumes nothing.
use Rattle.std.specs.Prelude.{ℕ, zero, suc, ◌+◌, ◌-◌, ◌*◌, ◌/◌, ◌%◌, ◌^◌, cond, List, [], ◌∷◌, ◌++◌, eqb, replicate}

-- the held byte is 0 for none and b + 1 for the byte b
pub record Front : Type 0 where
  pub rng : ℕ
  pub val : ℕ
  pub held : ℕ
  pub run : ℕ

-- the digits not stored yet
abbrev pub unstored : ℕ → ℕ → List ℕ
unstored zero x = replicate x 255
unstored (suc b) x = b ∷ replicate x 255

-- the held byte with its carry, modulo 256
abbrev pub stored : ℕ → ℕ → List ℕ
stored zero k = []
stored (suc b) k = (b + k) % 256 ∷ []

-- the digit c, below 512, goes out: 255 lengthens the run; any other has the held byte and the run stored with its
-- carry, and is held itself
abbrev pub bytes_out : ℕ → ℕ → ℕ → List ℕ
bytes_out h x c = cond (eqb c 255) [] (stored h (c / 256) ++ replicate x ((255 + c / 256) % 256))

abbrev pub held_next : ℕ → ℕ → ℕ
held_next h c = cond (eqb c 255) h (suc (c % 256))

abbrev pub run_next : ℕ → ℕ → ℕ
run_next x c = cond (eqb c 255) (suc x) 0

-- one turn of renormalising: the top nine bits of the value go out
abbrev pub digit : Front → ℕ
digit f = f.val / 2 ^ 23

abbrev pub shift : Front → Front
shift f =
    record {
      rng = 256 * f.rng;
      val = 256 * (f.val % 2 ^ 23);
      held = held_next f.held (digit f);
      run = run_next f.run (digit f);
    }

abbrev pub shift_out : Front → List ℕ
shift_out f = bytes_out f.held f.run (digit f)

-- the part from t down to s is kept: what lies above it is added to the value
abbrev pub cut_to : Front → ℕ → ℕ → Front
cut_to f t s = record { rng = t - s; val = f.val + (f.rng - t); held = f.held; run = f.run }
