-- Rule F, "some time letter 1": a sequence that never repeats, with its run; and what is not claimed.
use mathlib.Core.Path.{◌≡◌, refl, ap, ◌∙◌}
use mathlib.Core.Bool.{true}
use mathlib.Core.List.{List, [], ◌∷◌, Memᴰ}
use Prim.Native.Nat.{ℕ, zero, suc, ◌<◌}
use native.Mathlib.Omega.{arith}
use lib.ListN.{length, get_or}
use Rattle.sets.specs.Masks.{bit}
use Rattle.sets.specs.Lists.{among}
use Rattle.sets.proofs.Lists.{among-out}
use Rattle.theory.specs.Code.{component_in, classes_in}
use Rattle.theory.specs.Examples.{F}
use Rattle.theory.specs.Macrostate.{begun, is_accepting_lem, holds_initial}
use Rattle.theory.specs.Run.{Leads, Run, AcceptingRun}
use Rattle.theory.proofs.AboutExamples.{macrostates-F, transitions-F}
use Rattle.theory_laws.proofs.DemandCases.{demand-F}
use Rattle.endless_spec.specs.Endless.{NeverTwo}
use Rattle.endless_spec.proofs.Endless.{never_two}

-- the table of F, as 01 lists it
abbrev pub codes_f : List ℕ
codes_f = 0 ∷ 257 ∷ 17592186044673 ∷ []

abbrev pub transitions_f : List ℕ
transitions_f = 0 ∷ 16777218 ∷ 16842752 ∷ 16842754 ∷ 33554434 ∷ 33619968 ∷ 33619969 ∷ []

pub never-two-F : NeverTwo F codes_f transitions_f
never-two-F = never_two F codes_f transitions_f (rw (macrostates-F, transitions-F) at demand-F)

-- ---- letter 1, then 0 for ever: two runs, of which one accepts

abbrev once : ℕ → ℕ
once zero = 1
once (suc i) = 0

-- from number 1 to 0, where k is 0 for ever
abbrev down : ℕ → ℕ
down zero = 1
down (suc i) = 0

-- from number 1 to 2, where k stays 1
abbrev stays : ℕ → ℕ
stays zero = 1
stays (suc i) = 2

pub initial-1 : begun (holds_initial F) 257 ≡ true
unfolding begun bit component_in classes_in
initial-1 = refl

down-moves : (i : ℕ) → (t : ℕ) × Memᴰ t transitions_f × Leads t (down i) (once i) (down (suc i))
down-moves zero = (16842752, Memᴰ.tail (Memᴰ.tail (Memᴰ.head refl)), record { source = refl; letter = refl; target = refl })
down-moves (suc i) = (0, Memᴰ.head refl, record { source = refl; letter = refl; target = refl })

down-within : (i : ℕ) → down i < length codes_f
down-within zero = omega arith
down-within (suc i) = omega arith

stays-moves : (i : ℕ) → (t : ℕ) × Memᴰ t transitions_f × Leads t (stays i) (once i) (stays (suc i))
unfolding among
stays-moves zero = (16842754, among-out transitions_f 16842754 refl, record { source = refl; letter = refl; target = refl })
stays-moves (suc i) = (33554434, among-out transitions_f 33554434 refl, record { source = refl; letter = refl; target = refl })

stays_within : (i : ℕ) → stays i < length codes_f
stays_within zero = omega arith
stays_within (suc i) = omega arith

down_run : Run codes_f transitions_f (holds_initial F) once down
down_run = record { within = down-within; begins = initial-1; moves = down-moves }

pub down-accepts : AcceptingRun codes_f transitions_f (holds_initial F) once down
unfolding is_accepting_lem classes_in
down-accepts = record { run = down_run; again = λ i. (suc i, omega arith, refl) }

stays-run : Run codes_f transitions_f (holds_initial F) once stays
stays-run = record { within = stays_within; begins = initial-1; moves = stays-moves }

-- of all runs, accepting or not, the claim is false
pub not-of-all-runs : ((w x y : ℕ → ℕ) → Run codes_f transitions_f (holds_initial F) w x → Run codes_f transitions_f (holds_initial F) w y → (i : ℕ) → x i ≡ y i) → ⊥
not-of-all-runs claim = let e = claim once down stays down_run stays-run 1 in omega arith

-- and of runs that are accepting once: both begin in an accepting macrostate
pub not-of-once : ((w x y : ℕ → ℕ)
    → Run codes_f transitions_f (holds_initial F) w x → ((j : ℕ) × (is_accepting_lem (get_or codes_f (x j) 0) ≡ true))
    → Run codes_f transitions_f (holds_initial F) w y → ((j : ℕ) × (is_accepting_lem (get_or codes_f (y j) 0) ≡ true))
    → (i : ℕ) → x i ≡ y i) → ⊥
unfolding is_accepting_lem classes_in
not-of-once claim = let e = claim once down stays down_run (0, refl) stays-run (0, refl) 1 in omega arith

-- ---- one transition more: from number 2 over letter 0 to number 1, as if k were free

abbrev pub transitions_free : List ℕ
transitions_free = 0 ∷ 16777218 ∷ 16842752 ∷ 16842754 ∷ 33554433 ∷ 33554434 ∷ 33619968 ∷ 33619969 ∷ []

abbrev zeros : ℕ → ℕ
zeros i = 0

-- back to number 1 every second step, and every third
abbrev second : ℕ → ℕ
second zero = 1
second (suc zero) = 2
second (suc (suc i)) = second i

abbrev third : ℕ → ℕ
third zero = 1
third (suc zero) = 2
third (suc (suc zero)) = 2
third (suc (suc (suc i))) = third i

goes-off : (t : ℕ) × Memᴰ t transitions_free × Leads t 1 0 2
goes-off = (16777218, Memᴰ.tail (Memᴰ.head refl), record { source = refl; letter = refl; target = refl })

goes_back : (t : ℕ) × Memᴰ t transitions_free × Leads t 2 0 1
goes_back = (33554433, Memᴰ.tail (Memᴰ.tail (Memᴰ.tail (Memᴰ.tail (Memᴰ.head refl)))), record { source = refl; letter = refl; target = refl })

goes_on : (t : ℕ) × Memᴰ t transitions_free × Leads t 2 0 2
goes_on = (33554434, Memᴰ.tail (Memᴰ.tail (Memᴰ.tail (Memᴰ.tail (Memᴰ.tail (Memᴰ.head refl))))), record { source = refl; letter = refl; target = refl })

second-moves : (i : ℕ) → (t : ℕ) × Memᴰ t transitions_free × Leads t (second i) 0 (second (suc i))
second-moves zero = goes-off
second-moves (suc zero) = goes_back
second-moves (suc (suc i)) = second-moves i

second-within : (i : ℕ) → second i < 3
second-within zero = omega arith
second-within (suc zero) = omega arith
second-within (suc (suc i)) = second-within i

second-again : (i : ℕ) → (j : ℕ) × (i < j) × (second j ≡ 1)
second-again zero = (2, omega arith, refl)
second-again (suc zero) = (2, omega arith, refl)
second-again (suc (suc i)) = let (j, l, e) = second-again i in (suc (suc j), omega arith, e)

third-moves : (i : ℕ) → (t : ℕ) × Memᴰ t transitions_free × Leads t (third i) 0 (third (suc i))
third-moves zero = goes-off
third-moves (suc zero) = goes_on
third-moves (suc (suc zero)) = goes_back
third-moves (suc (suc (suc i))) = third-moves i

third-within : (i : ℕ) → third i < 3
third-within zero = omega arith
third-within (suc zero) = omega arith
third-within (suc (suc zero)) = omega arith
third-within (suc (suc (suc i))) = third-within i

third-again : (i : ℕ) → (j : ℕ) × (i < j) × (third j ≡ 1)
third-again zero = (3, omega arith, refl)
third-again (suc zero) = (3, omega arith, refl)
third-again (suc (suc zero)) = (3, omega arith, refl)
third-again (suc (suc (suc i))) = let (j, l, e) = third-again i in (suc (suc (suc j)), omega arith, e)

pub accepting-1 : is_accepting_lem (get_or codes_f 1 0) ≡ true
unfolding is_accepting_lem classes_in
accepting-1 = refl

free-run : (x : ℕ → ℕ) → x 0 ≡ 1 → ((i : ℕ) → x i < 3) → ((i : ℕ) → (t : ℕ) × Memᴰ t transitions_free × Leads t (x i) 0 (x (suc i))) → ((i : ℕ) → (j : ℕ) × (i < j) × (x j ≡ 1))
    → AcceptingRun codes_f transitions_free (holds_initial F) zeros x
free-run x first within moves again = record {
  run = record { within = within; begins = ap (λ (k : ℕ). begun (holds_initial F) (get_or codes_f k 0)) first ∙ initial-1; moves = moves };
  again = λ i. let (j, l, e) = again i in (j, l, ap (λ (k : ℕ). is_accepting_lem (get_or codes_f k 0)) e ∙ accepting-1);
}

-- it has two accepting runs on a sequence
pub free-k-two-runs : NeverTwo F codes_f transitions_free → ⊥
free-k-two-runs claim =
    let e = claim zeros second third (free-run second refl second-within second-moves second-again) (free-run third refl third-within third-moves third-again) 2 in
    omega arith
