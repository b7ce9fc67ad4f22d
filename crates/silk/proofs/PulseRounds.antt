-- The three loops over the blocks of a frame, turn by turn: splits fill the slice, low bits and signs work on the
-- magnitudes in it. Assumes nothing.
use Prim.Native.Nat.{ℕ, ◌+◌, ◌-◌, ◌*◌, ◌<◌, ◌≤◌}
use mathlib.Core.Path.{◌≡◌, refl, sym, ap, subst, ◌∙◌}
use mathlib.Core.List.{List, [], ◌∷◌, ◌++◌, map, flatten, map-append}
use native.Mathlib.Nat.{sub-zero}
use native.Mathlib.Omega.{arith}
use lib.IntN.{ℤ, pos}
use lib.ListN.{length, get_or, take, drop, length-append, length-drop, length-map, take-append-drop}
use lib.Seq.{length-take-le}
use Rattle.lists.specs.Inner.{All}
use Rattle.entcode.specs.declared.Dec.{Dec}
use Rattle.entcode.specs.Inner.Reading.{Core}
use Rattle.tree.specs.Asks.{Asks, got, run}
use Rattle.tree.specs.Inner.Ran.{Ran}
use Rattle.tree.proofs.Through.{before}
use Rattle.silk.specs.PulseSyntax.{Block, each, shell, low_bits, block_lows, sign_row_of, sign, block_signs}
use Rattle.silk.specs.Inner.Pulses.{Placed, block_at, blocks_from, mags, mags_pos, Small, Sixteen, Turned, Split, shell_of}
use Rattle.silk.proofs.PulseSteps.{blocks_end, blocks_left, each_next, each_end, block_lows_next, block_lows_end, block_signs_next, block_signs_end}
use Rattle.silk.proofs.PulseBlocks.{Turning, turning_start, turning_part, turning_next, turning_end}
use Rattle.silk.proofs.PulseLaws.{shell_small}

no_more : {A : Type 0} (l : List A) → length l ≡ 0 → l ≡ []
no_more [] e = refl
no_more (x ∷ l) e = absurd (omega arith)

-- the block at hand, and the slice with another in its place
abbrev pub block_of : List ℤ → ℕ → List ℤ
block_of s i = take (i * 16 + 16 - i * 16) (drop (i * 16) s)

abbrev pub with_block : List ℤ → ℕ → List ℤ → List ℤ
with_block s i y = take (i * 16) s ++ (y ++ drop (i * 16 + 16 - i * 16) (drop (i * 16) s))

-- ---- splits

module _ (b : List ℕ) (d₀ : Dec) (c l : List ℕ) (n : ℕ) where
  -- i blocks are split
  pub record Splitting (s : List ℤ) (d : Dec) (i : ℕ) : Type 0 where
    pub tail : List ℤ
    pub turning : Turning pos Small b d₀ (each [] shell_of (blocks_from c l 0 n)) 240 s d i
        tail (each [] shell_of (blocks_from c l i (n - i)))
    pub room : length tail + i * 16 ≡ n * 16
    pub to : i ≤ n

  pub splitting_start : (s : List ℤ) → length s ≡ n * 16 → Core b d₀ → Splitting s d₀ 0
  splitting_start s e h =
      record {
        tail = s;
        turning =
            subst (λ (m : ℕ). Turning pos Small b d₀ (each [] shell_of (blocks_from c l 0 n)) 240 s d₀ 0 s (each [] shell_of (blocks_from c l 0 m))) (sym (sub-zero n))
            (turning_start pos Small b d₀ (each [] shell_of (blocks_from c l 0 n)) 240 s h);
        room = omega arith;
        to = omega arith;
      }

  pub splitting_size : (s : List ℤ) (d : Dec) (i : ℕ) → Splitting s d i → length s ≡ n * 16
  splitting_size s d i g =
      let t = g.turning in
      ap length t.is ∙ length-append (map pos (flatten t.results)) g.tail
      ∙ omega (arith, length-map (flatten t.results) pos, t.size, g.room)

  pub splitting_next : (s : List ℤ) (d : Dec) (i : ℕ) → Splitting s d i → i < n → get_or c i 0 ≤ 16 → (y : List ℤ) (z : Dec)
      → Placed b d (shell 4 (get_or c i 0)) 240 y z → Splitting (with_block s i y) z (i + 1)
  splitting_next s d i g h m y z p =
      let v = shell_small (get_or c i 0) m p.ran in
      let next = each [] shell_of (blocks_from c l (i + 1) (n - (i + 1))) in
      record {
        tail = drop 16 g.tail;
        turning =
            turning_next pos Small b d₀ (each [] shell_of (blocks_from c l 0 n)) 240 s d i g.tail _ g.turning (take 16 g.tail) (drop 16 g.tail)
            (sym (take-append-drop 16 g.tail)) (length-take-le 16 g.tail (omega (arith, g.room)))
            next (shell 4 (get_or c i 0)) p.values z 240 y p.is v.size v (omega arith) p.ran
            (ap (λ (k : List Block). run b d (each [] shell_of k)) (blocks_left c l n i h)
            ∙ each_next b d z [] shell_of (block_at c l i) (blocks_from c l (i + 1) (n - (i + 1))) p.values p.ran.is);
        room = omega (arith, length-drop 16 g.tail, g.room);
        to = omega arith;
      }

  pub splitting_end : (s : List ℤ) (d : Dec) (i : ℕ) → Splitting s d i → n ≤ i → Split b d₀ c l n s d
  splitting_end s d i g h =
      let e : i ≡ n = omega (arith, g.to) in
      subst (λ (k : ℕ). Turned pos Small b d₀ (each [] shell_of (blocks_from c l 0 n)) 240 s d k) e
      (turning_end pos Small b d₀ (each [] shell_of (blocks_from c l 0 n)) 240 s d i g.tail _ g.turning (no_more g.tail (omega (arith, g.room)))
      (ap (λ (k : List Block). run b d (each [] shell_of k)) (blocks_end c l n i h) ∙ each_end b d [] shell_of))

-- ---- low bits, signs

-- a tree t for each block and its magnitudes, which have P: what it gives stands by f in the slice
module _ {Q T A : Type 0} (f : A → ℤ) (P : List ℕ → Type 0) (wide : (v : List ℕ) → P v → length v ≡ 16) (t : Block → List ℕ → Asks T (List A))
    (tree : List Block → List (List ℕ) → Asks Q (List (List A))) (w : ℕ)
    (one_more : (b : List ℕ) (d z : Dec) (k : Block) (bs : List Block) (v : List ℕ) (vs : List (List ℕ)) (x : List A)
    → run b d (t k v) ≡ got x z → run b d (tree (k ∷ bs) (v ∷ vs)) ≡ before (x ∷ []) (run b z (tree bs vs)))
    (no_block : (b : List ℕ) (d : Dec) (vs : List (List ℕ)) → run b d (tree [] vs) ≡ got [] d)
    (b : List ℕ) (d₀ : Dec) (c l : List ℕ) (ms : List (List ℕ)) (n : ℕ) where
  -- i blocks are worked on
  pub record Working (s : List ℤ) (d : Dec) (i : ℕ) : Type 0 where
    pub left : List (List ℕ)
    pub turning : Turning f Sixteen b d₀ (tree (blocks_from c l 0 n) ms) w s d i
        (map pos (flatten left)) (tree (blocks_from c l i (n - i)) left)
    pub all : All P left
    pub count : length left + i ≡ n

  pub working_start : (s : List ℤ) → s ≡ map pos (flatten ms) → All P ms → length ms ≡ n → Core b d₀ → Working s d₀ 0
  working_start s e a q h =
      record {
        left = ms;
        turning =
            subst (λ (r : List ℤ). Turning f Sixteen b d₀ (tree (blocks_from c l 0 n) ms) w s d₀ 0 r (tree (blocks_from c l 0 (n - 0)) ms)) e
            (subst (λ (m : ℕ). Turning f Sixteen b d₀ (tree (blocks_from c l 0 n) ms) w s d₀ 0 s (tree (blocks_from c l 0 m) ms)) (sym (sub-zero n))
            (turning_start f Sixteen b d₀ (tree (blocks_from c l 0 n) ms) w s h));
        all = a;
        count = omega arith;
      }

  -- the block at hand
  record Here (s : List ℤ) (i : ℕ) (left : List (List ℕ)) : Type 0 where
    pub value : List ℕ
    pub others : List (List ℕ)
    pub front : left ≡ value ∷ others
    pub parts : map pos (flatten left) ≡ map pos value ++ map pos (flatten others)
    pub has : P value
    pub rest : All P others

  here : (s : List ℤ) (d : Dec) (i : ℕ) (g : Working s d i) → i < n → Here s i g.left
  unfolding flatten
  here s d i g h = go g.left g.all g.count
    where
      go : (left : List (List ℕ)) → All P left → length left + i ≡ n → Here s i left
      go [] a q = absurd (omega arith)
      go (v ∷ left) a q =
          record { value = v; others = left; front = refl; parts = map-append pos v (flatten left); has = a.0; rest = a.1 }

  -- what stands there
  pub record AtHand (s : List ℤ) (i : ℕ) : Type 0 where
    pub value : List ℕ
    pub is : block_of s i ≡ map pos value
    pub has : P value

  here_part : (s : List ℤ) (d : Dec) (i : ℕ) (g : Working s d i) (h : i < n) → block_of s i ≡ map pos (here s d i g h).value
  here_part s d i g h =
      let p = here s d i g h in
      turning_part f Sixteen b d₀ (tree (blocks_from c l 0 n) ms) w s d i (map pos (flatten g.left)) _ g.turning
      (map pos p.value) (map pos (flatten p.others)) p.parts (length-map p.value pos ∙ wide p.value p.has)

  pub working_here : (s : List ℤ) (d : Dec) (i : ℕ) → Working s d i → i < n → AtHand s i
  working_here s d i g h = record { value = (here s d i g h).value; is = here_part s d i g h; has = (here s d i g h).has }

  pub working_next : (s : List ℤ) (d : Dec) (i : ℕ) → Working s d i → i < n → (x : List A) (y : List ℤ) (z : Dec) (k : ℕ)
      → y ≡ map f x → length y ≡ 16 → k ≤ w → Ran b d (t (block_at c l i) (mags (block_of s i))) k x z → Working (with_block s i y) z (i + 1)
  working_next s d i g h x y z k e q m r =
      let p = here s d i g h in
      let u : Ran b d (t (block_at c l i) p.value) k x z =
      subst (λ (v : List ℕ). Ran b d (t (block_at c l i) v) k x z) (ap mags (here_part s d i g h) ∙ mags_pos p.value) r in
      let next = tree (blocks_from c l (i + 1) (n - (i + 1))) p.others in
      record {
        left = p.others;
        turning =
            turning_next f Sixteen b d₀ (tree (blocks_from c l 0 n) ms) w s d i (map pos (flatten g.left)) _ g.turning
            (map pos p.value) (map pos (flatten p.others)) p.parts (length-map p.value pos ∙ wide p.value p.has)
            next (t (block_at c l i) p.value) x z k y e (sixteen x y e q) (sixteen x y e q) m u
            (ap (λ (v : List (List ℕ)). run b d (tree (blocks_from c l i (n - i)) v)) p.front
            ∙ ap (λ (j : List Block). run b d (tree j (p.value ∷ p.others))) (blocks_left c l n i h)
            ∙ one_more b d z (block_at c l i) (blocks_from c l (i + 1) (n - (i + 1))) p.value p.others x u.is);
        all = p.rest;
        count = omega (arith, g.count, ap length p.front);
      }
    where
      sixteen : (x : List A) (y : List ℤ) → y ≡ map f x → length y ≡ 16 → length x ≡ 16
      sixteen x y e q = sym (length-map x f) ∙ sym (ap length e) ∙ q

  pub working_size : (s : List ℤ) (d : Dec) (i : ℕ) → Working s d i → i < n → i * 16 + 16 ≤ length s
  working_size s d i g h =
      let p = here s d i g h in
      let t = g.turning in
      omega (
        arith,
        ap length t.is,
        length-append (map f (flatten t.results)) (map pos (flatten g.left)),
        length-map (flatten t.results) f,
        t.size,
        ap length p.parts,
        length-append (map pos p.value) (map pos (flatten p.others)),
        length-map p.value pos,
        wide p.value p.has,
      )

  pub working_ended : (s : List ℤ) (d : Dec) (i : ℕ) → Working s d i → n ≤ i → length s ≡ n * 16
  unfolding flatten
  working_ended s d i g h =
      let t = g.turning in
      let o : length (map pos (flatten g.left)) ≡ 0 = ap (λ (v : List (List ℕ)). length (map pos (flatten v))) (no_more g.left (omega (arith, g.count))) in
      ap length t.is ∙ length-append (map f (flatten t.results)) (map pos (flatten g.left))
      ∙ omega (arith, length-map (flatten t.results) f, t.size, g.count)

  pub working_end : (s : List ℤ) (d : Dec) (i : ℕ) → Working s d i → n ≤ i → Turned f Sixteen b d₀ (tree (blocks_from c l 0 n) ms) w s d n
  unfolding flatten
  working_end s d i g h =
      let e : i ≡ n = omega (arith, g.count) in
      let o = no_more g.left (omega (arith, g.count)) in
      subst (λ (k : ℕ). Turned f Sixteen b d₀ (tree (blocks_from c l 0 n) ms) w s d k) e
      (turning_end f Sixteen b d₀ (tree (blocks_from c l 0 n) ms) w s d i (map pos (flatten g.left)) _ g.turning
      (ap (λ (v : List (List ℕ)). map pos (flatten v)) o)
      (ap (λ (k : List Block). run b d (tree k g.left)) (blocks_end c l n i h) ∙ no_block b d g.left))

-- i blocks have their low bits
abbrev pub lows_of : Block → List ℕ → Asks (List ℕ) (List ℕ)
lows_of k v = each 0 (low_bits k.lows) v

abbrev pub Lowering : List ℕ → Dec → List ℕ → List ℕ → List (List ℕ) → ℕ → List ℤ → Dec → ℕ → Type 0
Lowering b d₀ c l ms n s d i =
    Working pos Small (λ v h. h.size) lows_of block_lows 2560 block_lows_next block_lows_end b d₀ c l ms n s d i

-- i blocks have their signs
abbrev pub signs_of : ℕ → ℕ → Block → List ℕ → Asks (List ℤ) (List ℤ)
signs_of signal offset k v = each (pos 0) (sign (sign_row_of signal offset k.count)) v

abbrev pub Signing : List ℕ → Dec → ℕ → ℕ → List ℕ → List ℕ → List (List ℕ) → ℕ → List ℤ → Dec → ℕ → Type 0
Signing b d₀ signal offset c l vs n s d i =
    Working (λ (x : ℤ). x) Sixteen (λ v h. h) (signs_of signal offset) (block_signs signal offset) 256
    (λ b d z k bs v vs x. block_signs_next b d z signal offset k bs v vs x)
    (λ b d vs. block_signs_end b d signal offset vs) b d₀ c l vs n s d i
