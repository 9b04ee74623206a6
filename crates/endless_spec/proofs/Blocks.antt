-- A sequence that never repeats, and its accepting run over the table of rule F, "some time letter 1": 0 1 0 0 1 0 0 0 1 .., n letters 0 before the n-th letter 1.
use mathlib.Core.Path.{◌≡◌, refl, sym, ap, ◌∙◌}
use mathlib.Core.List.{Memᴰ}
use Prim.Native.Nat.{ℕ, zero, suc, ◌+◌, ◌≤◌, ◌<◌}
use native.Mathlib.Omega.{arith}
use native.Mathlib.Nat.{zero-add, suc-add}
use lib.ListN.{get_or}
use Rattle.theory.specs.Examples.{F}
use Rattle.theory.specs.Macrostate.{is_accepting_lem, holds_initial}
use Rattle.theory.specs.Run.{Leads, AcceptingRun}
use Rattle.endless_spec.proofs.Cases.{codes_f, transitions_f, initial-1, accepting-1, never-two-F}

-- ---- the sequence

-- the letter i steps after a place in block n with c letters 0 to come in it
abbrev pub letter_from : ℕ → ℕ → ℕ → ℕ
letter_from zero n zero = 1
letter_from zero n (suc c) = 0
letter_from (suc i) n zero = letter_from i (suc n) (suc n)
letter_from (suc i) n (suc c) = letter_from i n c

abbrev pub blocks : ℕ → ℕ
blocks i = letter_from i 1 1

-- ---- the run: over letter 0 to number 2, over letter 1 to number 1

abbrev pub number_from : ℕ → ℕ → ℕ → ℕ → ℕ
number_from zero x n c = x
number_from (suc i) x n zero = number_from i 1 (suc n) (suc n)
number_from (suc i) x n (suc c) = number_from i 2 n c

abbrev pub block_run_lem : ℕ → ℕ
block_run_lem i = number_from i 1 1 1

-- the first sixteen steps of both
first-letters : (blocks 0 ≡ 0) × (blocks 1 ≡ 1) × (blocks 2 ≡ 0) × (blocks 3 ≡ 0) × (blocks 4 ≡ 1) × (blocks 5 ≡ 0) × (blocks 6 ≡ 0) × (blocks 7 ≡ 0) × (blocks 8 ≡ 1)
first-letters = (refl, refl, refl, refl, refl, refl, refl, refl, refl)

first-numbers : (block_run_lem 0 ≡ 1) × (block_run_lem 1 ≡ 2) × (block_run_lem 2 ≡ 1) × (block_run_lem 3 ≡ 2) × (block_run_lem 4 ≡ 2) × (block_run_lem 5 ≡ 1) × (block_run_lem 6 ≡ 2) × (block_run_lem 7 ≡ 2) × (block_run_lem 8 ≡ 2)
    × (block_run_lem 9 ≡ 1)
first-numbers = (refl, refl, refl, refl, refl, refl, refl, refl, refl, refl)

-- number 1 stands at the start of a block, where a letter 0 comes
pub data Stands : ℕ → ℕ → Type 0 where
  starts : (c : ℕ) → Stands 1 (suc c)
  goes : (c : ℕ) → Stands 2 c

pub moves_from : (i x n c : ℕ) → Stands x c → (t : ℕ) × Memᴰ t transitions_f × Leads t (number_from i x n c) (letter_from i n c) (number_from (suc i) x n c)
moves_from zero x n zero (goes c) = (
  33619969,
  Memᴰ.tail (Memᴰ.tail (Memᴰ.tail (Memᴰ.tail (Memᴰ.tail (Memᴰ.tail (Memᴰ.head refl)))))),
  record { source = refl; letter = refl; target = refl },
)
moves_from zero x n (suc c) (starts d) = (16777218, Memᴰ.tail (Memᴰ.head refl), record { source = refl; letter = refl; target = refl })
moves_from zero x n (suc c) (goes d) = (33554434, Memᴰ.tail (Memᴰ.tail (Memᴰ.tail (Memᴰ.tail (Memᴰ.head refl)))), record { source = refl; letter = refl; target = refl })
moves_from (suc i) x n zero s = moves_from i 1 (suc n) (suc n) (starts n)
moves_from (suc i) x n (suc c) s = moves_from i 2 n c (goes c)

pub within-from : (i x n c : ℕ) → x < 3 → number_from i x n c < 3
within-from zero x n c l = l
within-from (suc i) x n zero l = within-from i 1 (suc n) (suc n) (omega arith)
within-from (suc i) x n (suc c) l = within-from i 2 n c (omega arith)

-- after the block's last letter
block-ends : (c x n : ℕ) → number_from (suc c) x n c ≡ 1
block-ends zero x n = refl
block-ends (suc c) x n = block-ends c 2 n

pub again-from : (i x n c : ℕ) → (j : ℕ) × (i < j) × (number_from j x n c ≡ 1)
again-from zero x n c = (suc c, omega arith, block-ends c x n)
again-from (suc i) x n zero = let (j, l, e) = again-from i 1 (suc n) (suc n) in (suc j, omega arith, e)
again-from (suc i) x n (suc c) = let (j, l, e) = again-from i 2 n c in (suc j, omega arith, e)

pub block_run : AcceptingRun codes_f transitions_f (holds_initial F) blocks block_run_lem
block_run = record {
  run = record { within = λ i. within-from i 1 1 1 (omega arith); begins = initial-1; moves = λ i. moves_from i 1 1 1 (starts 0) };
  again = λ i. let (j, l, e) = again-from i 1 1 1 in (j, l, ap (λ (k : ℕ). is_accepting_lem (get_or codes_f k 0)) e ∙ accepting-1);
}

-- it is the only one
pub block-run-only : (x : ℕ → ℕ) → AcceptingRun codes_f transitions_f (holds_initial F) blocks x → (i : ℕ) → x i ≡ block_run_lem i
block-run-only x R i = never-two-F blocks x block_run_lem R block_run i

-- ---- it never repeats

zeros-from : (k n c : ℕ) → k < c → letter_from k n c ≡ 0
zeros-from k n zero l = absurd (omega arith)
zeros-from zero n (suc c) l = refl
zeros-from (suc k) n (suc c) l = zeros-from k n c (omega arith)

one_from : (n c : ℕ) → letter_from c n c ≡ 1
one_from n zero = refl
one_from n (suc c) = one_from n c

-- after the block's last letter the next block begins
next-block : (c k n : ℕ) → letter_from (suc (c + k)) n c ≡ letter_from k (suc n) (suc n)
next-block zero k n = ap (λ (j : ℕ). letter_from j (suc n) (suc n)) (zero-add k)
next-block (suc c) k n = ap (λ (j : ℕ). letter_from j n c) (suc-add c k) ∙ next-block c k n

-- block n + 1 begins at some step from n on
block_at : (n : ℕ) → (b : ℕ) × (n ≤ b) × ((k : ℕ) → blocks (b + k) ≡ letter_from k (suc n) (suc n))
block_at zero = (0, omega arith, λ k. ap blocks (zero-add k))
block_at (suc n) =
    let (b, l, e) = block_at n in
    (b + suc (suc n), omega arith, λ k. let s : b + suc (suc n) + k ≡ b + suc (suc n + k) = omega arith in ap blocks s ∙ e (suc (suc n + k)) ∙ next-block (suc n) k (suc n))

-- no lead-in and no period, of any lengths
pub never-repeats : (m d : ℕ) → 0 < d → ((i : ℕ) → m ≤ i → blocks (i + d) ≡ blocks i) → ⊥
never-repeats m d some repeats =
    let (b, l, e) = block_at (m + d) in
    let n = suc (m + d) in
    let one : blocks (b + n) ≡ 1 = e n ∙ one_from n n in
    let none : blocks (b + suc m) ≡ 0 = e (suc m) ∙ zeros-from (suc m) n n (omega arith) in
    let s : b + suc m + d ≡ b + n = omega arith in
    let same : blocks (b + n) ≡ blocks (b + suc m) = ap blocks (sym s) ∙ repeats (b + suc m) (omega arith) in
    let z : ◌≡◌ {A = ℕ} 1 0 = sym one ∙ same ∙ none in
    absurd (omega arith)
