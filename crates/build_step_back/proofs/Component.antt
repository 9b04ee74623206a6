-- The levels of a component's states, from the masks of those up to a level.
use mathlib.Core.Path.{◌≡◌, refl, ap, sym, ◌∙◌}
use mathlib.Core.Logic.{by_cases}
use mathlib.Core.Bool.{Bool, true, false, ◌&&◌, not}
use mathlib.Core.List.{List}
use Prim.Native.Nat.{ℕ, ◌+◌, ◌-◌, ◌*◌, ◌%◌, ◌^◌, ◌≤◌, ◌<◌}
use native.Mathlib.Omega.{arith}
use native.Mathlib.Decide.{dec_le}
use lib.Dec.{leb, ltb}
use lib.Bits.{bit_and, bit_or, bit_xor, and_le_r}
use lib.ListN.{get_or}
use borrow.Author.Tests.{lt-ltb, le-leb, lt-leb}
use Rattle.sets.specs.Tests.{one}
use Rattle.sets.specs.Masks.{bit, exclusive}
use Rattle.sets.specs.Digits.{num}
use Rattle.sets.proofs.Bools.{bif, clash}
use Rattle.sets.proofs.Tests.{first-hits, first-le}
use Rattle.sets.proofs.Bits.{bit-xor, bit-none, bit-ext}
use Rattle.build_step_back.specs.Step.{goal, upto, level, Rising, Stepped}
use Rattle.build_step_back.proofs.Classes.{State, start, levels-room, stay, ranks-room, go, done-ranks, done-levels, none-ranks, none-levels}

xor-and : (a b : Bool) → exclusive a (a && b) ≡ a && not b
xor-and true b = refl
xor-and false b = refl

module _ {opens : List ℕ} {letter opened part : ℕ} {low : List ℕ} (r : Rising opens letter opened part low) where
  abbrev pub G : ℕ
  G = goal opens letter opened part low

  abbrev pub U : ℕ → ℕ
  U = upto opens letter opened part low

  abbrev pub L : ℕ → ℕ
  L = level opens letter opened part low

  end : (q : ℕ) → bit G q ≡ true → bit (U 15) q ≡ true
  end q t = ap (λ (x : ℕ). bit x q) (r.whole 15 (omega arith) (omega arith)) ∙ t

  level-hits : (q : ℕ) → bit G q ≡ true → bit (U (L q)) q ≡ true
  unfolding level
  level-hits q t = first-hits 15 (λ j. bit (U j) q) 0 (end q t)

  level-first : (q j : ℕ) → bit (U j) q ≡ true → L q ≤ j
  unfolding level
  level-first q j t = first-le 15 (λ j. bit (U j) q) 0 j (omega arith) t

  pub level-low : (q : ℕ) → q < 8 → bit G q ≡ true → L q ≤ 8
  level-low q h t = level-first q 8 (ap (λ (x : ℕ). bit x q) (r.whole 8 (omega arith) (omega arith)) ∙ t)

  pub upto-bits : (j : ℕ) → j < 16 → (q : ℕ) → q < 8 → bit (U j) q ≡ bit G q && leb (L q) j
  upto-bits j h q hq = bif (bit (U j) q)
      (λ t. let g : bit G q ≡ true = sym (ap (λ (x : ℕ). bit x q) (r.whole 15 (omega arith) (omega arith))) ∙ r.mono j 15 q hq (omega arith) (omega arith) t in
      rw (t, g, le-leb (L q) j (level-first q j t)))
      (λ t. rw t (bif (bit G q)
      (λ g. rw g (by_cases (dec_le (L q) j) (λ a. clash (r.mono (L q) j q hq a h (level-hits q g)) t) (λ a. sym (lt-leb (L q) j (omega arith)))))
      (λ g. rw g)))

  pub goal-small : part < 256 → G < 256
  unfolding goal
  goal-small h = omega (arith, and_le_r (get_or opens (letter * 256 + opened) 0) part)

  abbrev pub At : ℕ → ℕ → ℕ → ℕ → ℕ → Type 0
  At = State (bit G) L level-low

  upto-small : part < 256 → (j : ℕ) → U j < 256
  unfolding upto
  upto-small h j = omega (arith, and_le_r (get_or opens (letter * 256 + bit_or (bit_xor opened (bit_and opened part)) (bit_and (get_or low j 0) part)) 0) part)

  -- a mask with the states of the goal is the goal
  same-goal : part < 256 → (x : ℕ) → x < 256 → ((q : ℕ) → q < 8 → bit x q ≡ bit G q) → x ≡ G
  same-goal hp x h e = bit-ext 8 x G h (goal-small hp) e

  pub begin : part < 256 → (G ≡ 0 → ⊥) → At 0 1229782938247303440 0 0 0
  begin hp ne = start (bit G) L level-low (λ e. ne (sym (same-goal hp 0 (omega arith) e)))

  -- no open state
  pub nothing : G ≡ 0 → Stepped opens letter opened part low 0 0
  nothing e = let n : (q : ℕ) → q < 8 → bit G q ≡ false = λ q h. ap (λ (x : ℕ). bit x q) e ∙ bit-none q in
      record { ranked = none-ranks (bit G) L level-low n; levelled = none-levels (bit G) L level-low n }

  pub stepped : {prev ones ranks levels j : ℕ} → At prev ones ranks levels j → prev ≡ G → (1229782938247303440 ≤ levels) × Stepped opens letter opened part low ranks (levels - 1229782938247303440)
  stepped {prev} s e =
      let a : (q : ℕ) → q < 8 → bit prev q ≡ bit G q = λ q h. ap (λ (x : ℕ). bit x q) e in
      let d = done-levels (bit G) L level-low s a in
      (omega arith, record { ranked = done-ranks (bit G) L level-low s a; levelled = omega arith })

  -- ---- a turn of the loop

  module _ (hp : part < 256) {prev ones ranks levels j : ℕ} (s : At prev ones ranks levels j) (more : prev ≡ G → ⊥) where
    left : ((q : ℕ) → q < 8 → bit prev q ≡ bit G q) → ⊥
    left e = more (same-goal hp prev s.small e)

    -- at level 9 all have come in
    pub deep_in : j ≤ 8
    deep_in = by_cases (dec_le j 8) (λ a. a) (λ a. absurd (left (λ q h. s.bits q h ∙ bif (bit G q) (λ t. rw (t, lt-ltb (L q) j (omega (arith, level-low q h t)))) (λ t. rw t))))

    bits_at : (q : ℕ) → q < 8 → bit (U j) q ≡ bit G q && leb (L q) j
    bits_at q h = upto-bits j (omega (arith, deep_in)) q h

    -- the states that have not come in
    late-bit : (q : ℕ) → q < 8 → bit (bit_xor G prev) q ≡ bit G q && not (ltb (L q) j)
    late-bit q h = bit-xor G prev q ∙ ap (exclusive (bit G q)) (s.bits q h) ∙ xor-and (bit G q) (ltb (L q) j)

    pub levels-fit : levels + ones < 2 ^ 64
    levels-fit = levels-room (bit G) L level-low (U j) (upto-small hp j) bits_at s deep_in

    pub on_same : U j ≡ prev → At prev ones ranks (levels + ones) (j + 1)
    on_same e = stay (bit G) L level-low (U j) (upto-small hp j) bits_at s e left

    module _ (ne : U j ≡ prev → ⊥) where
      pub ranks-fit : ranks + num 16 8 (λ q. one (bit (bit_xor G prev) q)) < 2 ^ 32
      ranks-fit = ranks-room (bit G) L level-low (U j) (upto-small hp j) bits_at s (bit_xor G prev) late-bit ne deep_in

      pub on-new : At (U j) (ones * 2 ^ 4 % 2 ^ 64) (ranks + num 16 8 (λ q. one (bit (bit_xor G prev) q))) (levels + ones) (j + 1)
      on-new = go (bit G) L level-low (U j) (upto-small hp j) bits_at s (bit_xor G prev) late-bit ne deep_in
