-- How the promises of parts that read along a tree are put together as their code is: a result, one more question in
-- front, a tree in front of a tree. Assumes nothing.
use Rattle.std.proofs.Common.{ℕ, ◌+◌, ◌≤◌, ◌≡◌, refl, sym, ◌∙◌, List, arith}
use Rattle.entcode.specs.Models.{tab}
use Rattle.entcode.specs.Reading.{gives}
use Rattle.entcode.specs.Inner.Reading.{Took}
use Rattle.tree.specs.Asks.{Asks, done, ask, then, got, run}
use Rattle.tree.specs.Inner.Ran.{Ran}
use Rattle.tree.proofs.Ran.{asked, ran_then}
use Rattle.symbol_reader.specs.declared.Reader.{Reader}
use Rattle.symbol_reader.specs.Inner.{Reads, Along, Midway}

pub along_done : {R A : Type 0} (r : Reader) (x : A) → Along {R = R} r (done x) 0 x r
unfolding run
along_done r x = record { is = refl; packet = refl; least = omega arith; most = omega arith }

pub along_ask : {R A : Type 0} {r y z : Reader} {l u : List ℕ} {w : R → ℕ} {g : ℕ → Asks R A} {v n : ℕ} {x : A}
    → l ≡ u → Reads r (tab 8 l) v y → Along y (g v) n x z → Along r (ask (tab 8 u) w g) (16 + n) x z
along_ask {w = w} {g = g} e h p =
    let i = rw h.packet at p.is in
    record {
      is = sym (asked _ _ _ _ w g _ e h.took) ∙ i;
      packet = p.packet ∙ h.packet;
      least = omega (arith, h.took.least, p.least);
      most = omega (arith, h.took.most, p.most);
    }

pub along_bind : {R A B : Type 0} {r y z : Reader} {t : Asks R A} (g : A → Asks R B) {n m : ℕ} {x : A} {w : B}
    → Along r t n x y → Along y (g x) m w z → Along r (then t g) (n + m) w z
along_bind {t = t} g p q =
    let i = rw p.packet at q.is in
    record {
      is = sym (ran_then _ _ _ t g _ p.is) ∙ i;
      packet = q.packet ∙ p.packet;
      least = omega (arith, p.least, q.least);
      most = omega (arith, p.most, q.most);
    }

pub along_within : {R A : Type 0} {r z : Reader} {t : Asks R A} {n m : ℕ} {x : A} → n ≤ m → Along r t n x z → Along r t m x z
along_within l p = record { is = p.is; packet = p.packet; least = p.least; most = omega (arith, p.most) }

-- the promise of a part whose state goes by value
pub along_ran : {R A : Type 0} {r z : Reader} {t : Asks R A} {n : ℕ} {x : A} → Along r t n x z → Ran r.packet.now r.state t n x z.state
along_ran {z = z} p = record { is = p.is; core = rw p.packet at z.core; least = p.least; most = p.most }

-- a run of the states, where the packet stays
pub ran_along : {R A : Type 0} {r z : Reader} {t : Asks R A} {n : ℕ} {x : A} → z.packet ≡ r.packet → Ran r.packet.now r.state t n x z.state
    → Along r t n x z
ran_along e p = record { is = p.is; packet = e; least = p.least; most = p.most }

-- ---- loops

-- one more symbol
pub midway_next : {R P Q A : Type 0} {r z y : Reader} {whole : Asks R A} {left : Asks P A} {next : Asks Q A} {l : List ℕ} {v n k : ℕ}
    → Midway r whole n z left → Reads z (tab 8 l) v y
    → (Took r.packet.now (tab 8 l) z.state (gives v y.state) → run r.packet.now y.state next ≡ run r.packet.now z.state left)
    → n + 16 ≤ k → Midway r whole k y next
midway_next m h f e =
    let t = rw m.packet at h.took in
    record {
      rest = f t ∙ m.rest;
      packet = h.packet ∙ m.packet;
      least = omega (arith, m.least, t.least);
      most = omega (arith, m.most, t.most);
    }

pub midway_end : {R Q A : Type 0} {r z : Reader} {whole : Asks R A} {left : Asks Q A} {n k : ℕ} {x : A}
    → Midway r whole n z left → run r.packet.now z.state left ≡ got x z.state → n ≤ k → Along r whole k x z
midway_end m e l = record { is = sym m.rest ∙ e; packet = m.packet; least = m.least; most = omega (arith, m.most) }
