-- Demand 3 applied to the rules F and D: cases 5, 6 and 9 of 01.
use mathlib.Core.Path.{◌≡◌, refl, sym, ◌∙◌, ap}
use mathlib.Core.Logic.{◌⊎◌, inl, inr, ⊎_elim}
use mathlib.Core.Bool.{true, false, cond}
use mathlib.Core.List.Memᴰ
use mathlib.Core.List.{List, [], ◌∷◌, Memᴰ}
use Prim.Native.Nat.{ℕ, zero, suc, ◌≤◌, ◌<◌}
use native.Mathlib.Omega.{arith}
use lib.Dec.{eqb, ltb}
use lib.ListN.{get_or}
use borrow.Author.Tests.{ltb-false}
use Rattle.sets.specs.Lists.{any_of, sum}
use Rattle.sets.specs.Masks.{bit}
use Rattle.sets.proofs.Bits.{bit-none}
use Rattle.sets.proofs.Bools.{clash}
use Rattle.sets.proofs.Lists.{any_none, mem-at}
use Rattle.theory.specs.Automaton.{automaton}
use Rattle.theory.specs.Components.{within, mixed}
use Rattle.theory.specs.Code.{component_in, classes_in}
use Rattle.theory.specs.Demand.{Demand3}
use Rattle.theory.specs.Examples.{F, D}
use Rattle.theory.specs.Macrostate.{begun, holds_initial, is_accepting_lem}
use Rattle.theory.specs.Passing.{Passing}
use Rattle.theory.specs.Plan.{Reach, here, on, AcceptsWord}
use Rattle.theory.specs.Rule.{entry}
use Rattle.theory.specs.Run.{AcceptingRun, Leads}
use Rattle.theory.specs.TableComputed.{macrostates, transitions}
use Rattle.theory.specs.Word.{next_place_lem, letter_at_lem, place, letters, WordOver}
use Rattle.theory.proofs.AboutExamples.{macrostates-F, macrostates-D, transitions-D, rejecting-cycle}
use Rattle.theory_laws.proofs.Components.{passing-by}
use Rattle.theory_laws.proofs.Demand.{demand3}

-- ---- the rules pass the checks

pub passing-F : Passing F
unfolding any_of sum mixed
passing-F = passing-by F (omega arith) (omega arith) (omega arith) (omega arith) (omega arith) (omega arith) refl refl refl refl refl

pub passing-D : Passing D
unfolding any_of sum mixed
passing-D = passing-by D (omega arith) (omega arith) (omega arith) (omega arith) (omega arith) (omega arith) refl refl refl refl refl

-- ---- demand 3 of the two rules

pub demand-F : Demand3 F (macrostates F) (transitions F)
demand-F = demand3 F passing-F (rw macrostates-F (omega arith))

pub demand-D : Demand3 D (macrostates D) (transitions D)
demand-D = demand3 D passing-D (rw macrostates-D (omega arith))

most : (b : ℕ) (l : List ℕ) → any_of l (λ x. ltb b x) ≡ false → (x : ℕ) → Memᴰ x l → x ≤ b
most b l e x m = ltb-false b x (any_none l (λ x. ltb b x) x e m)

letters-01 : (a : ℕ) → Memᴰ a (0 ∷ 1 ∷ []) → a < 2
unfolding any_of
letters-01 a m = let h = most 1 (0 ∷ 1 ∷ []) refl a m in omega arith

letters-0 : (a : ℕ) → Memᴰ a (0 ∷ []) → a < 2
unfolding any_of
letters-0 a m = let h = most 1 (0 ∷ []) refl a m in omega arith

-- ---- case 5: F, lead-in 0 1, cycle 0

abbrev lead : List ℕ
lead = 0 ∷ 1 ∷ []

abbrev zeros : List ℕ
zeros = 0 ∷ []

pub word-5 : WordOver 2 lead zeros
word-5 = record { repeats = omega arith; lead_letters = letters-01; cycle_letters = letters-0 }

-- the plan: at place 0 stay in state 0, at place 1 take the empty clause
plan : ℕ → ℕ → ℕ
plan q zero = 1
plan q (suc p) = 0

abbrev Reached : ℕ → ℕ → ℕ → ℕ → Type 0
Reached a x q p = Reach (automaton F) (next_place_lem lead zeros) (letter_at_lem lead zeros) plan a x q p

-- from place 1 it reaches nothing more
later : (a q p : ℕ) → Reached a 1 q p → p ≡ 1
unfolding plan
later a q p here = refl
later a q p (on {q = s} {p = x} r y R l b e) = let z = later a s x R in clash (sym (ap (λ (i : ℕ). bit (plan s i) q) z) ∙ b) (bit-none q)

reached : (q p : ℕ) → Reached 0 0 q p → (q ≡ 0) × ((p ≡ 0) ⊎ (p ≡ 1))
unfolding plan automaton next_place_lem
reached q p here = (refl, inl refl)
reached q p (on {q = s} {p = x} r y R l b e) = (
  omega arith,
  ⊎_elim (λ z. inr (e ∙ ap (next_place_lem lead zeros) z)) (λ z. clash (sym (ap (λ (i : ℕ). bit (plan s i) q) z) ∙ b) (bit-none q)) (reached s x R).1,
)

picks : (q p : ℕ) → q ≡ 0 → (p ≡ 0) ⊎ (p ≡ 1) → Memᴰ (plan q p) (entry F q (letter_at_lem lead zeros p))
unfolding plan entry letter_at_lem sum
picks q p e (inl z) = rw (e, z) (Memᴰ.head refl)
picks q p e (inr z) = rw (e, z) (Memᴰ.head refl)

no_return : (q p r : ℕ) → q ≡ 0 → (p ≡ 0) ⊎ (p ≡ 1) → bit (plan q p) r ≡ true → Reached r (next_place_lem lead zeros p) q p → ⊥
unfolding plan next_place_lem
no_return q p r e (inl z) b R = let k = later r q p (rw (ap (next_place_lem lead zeros) z) at R) in absurd (omega arith)
no_return q p r e (inr z) b R = clash (sym (ap (λ (i : ℕ). bit (plan q i) r) z) ∙ b) (bit-none r)

pub accepts-5 : AcceptsWord F lead zeros
unfolding automaton
accepts-5 = record {
  pick = plan;
  valid = λ q p R. let k = reached q p R in picks q p k.0 k.1;
  fair = λ q p R a r l b back. let k = reached q p R in no_return q p r k.0 k.1 b back;
}

-- so the built automaton has an accepting run
pub run-5 : (x : ℕ → ℕ) × AcceptingRun (macrostates F) (transitions F) (holds_initial F) (letters lead zeros) x
run-5 = (demand-F.exact lead zeros word-5).0 accepts-5

-- which begins at number 1
first-F : (x : ℕ) → x < 3 → begun (holds_initial F) (get_or (0 ∷ 257 ∷ 17592186044673 ∷ []) x 0) ≡ true → x ≡ 1
unfolding begun component_in classes_in bit
first-F zero l e = clash e refl
first-F (suc zero) l e = refl
first-F (suc (suc zero)) l e = clash e refl
first-F (suc (suc (suc x))) l e = absurd (omega arith)

pub first-5 : (x : ℕ → ℕ) → AcceptingRun (macrostates F) (transitions F) (holds_initial F) (letters lead zeros) x → x 0 ≡ 1
first-5 x R = first-F (x 0) (rw macrostates-F at (R.run.within 0)) (rw macrostates-F at R.run.begins)

-- ---- case 6: F, cycle 0: no run

pub word-6 : WordOver 2 [] zeros
word-6 = record { repeats = omega arith; lead_letters = λ a m. absurd (Memᴰ.not-nil m); cycle_letters = letters-0 }

pub no-run-6 : (x : ℕ → ℕ) → AcceptingRun (macrostates F) (transitions F) (holds_initial F) (letters [] zeros) x → ⊥
no-run-6 x R = rejecting-cycle ((demand-F.exact [] zeros word-6).1 (x, R))

-- ---- case 9: D, cycle 0: an accepting run goes through the numbers 4, 11, 9, 4, ..

follow : ℕ → ℕ
follow x = cond (eqb x 4) 11 (cond (eqb x 11) 9 4)

pub loop : ℕ → ℕ
loop zero = 4
loop (suc i) = follow (loop i)

loops : (i : ℕ) → (loop i ≡ 4) ⊎ ((loop i ≡ 11) ⊎ (loop i ≡ 9))
unfolding loop follow
loops zero = inl refl
loops (suc i) = ⊎_elim (λ e. inr (inl (ap follow e))) (λ k. ⊎_elim (λ e. inr (inr (ap follow e))) (λ e. inl (ap follow e)) k) (loops i)

pub word-9 : WordOver 2 [] zeros
word-9 = word-6

stands : (i : ℕ) → place (next_place_lem [] zeros) i ≡ 0
unfolding place next_place_lem
stands zero = refl
stands (suc i) = ap (next_place_lem [] zeros) (stands i)

zero-letter : (i : ℕ) → letters [] zeros i ≡ 0
unfolding letter_at_lem
zero-letter i = ap (letter_at_lem [] zeros) (stands i)

-- the transition t at the place j of the list
listed : (j t : ℕ) → j < 26 → get_or (transitions D) j 0 ≡ t → Memᴰ t (transitions D)
listed j t l e = rw e at (mem-at (transitions D) j (rw transitions-D l))

steps_on : (x : ℕ) → (x ≡ 4) ⊎ ((x ≡ 11) ⊎ (x ≡ 9)) → (t : ℕ) × Memᴰ t (transitions D) × Leads t x 0 (follow x)
unfolding follow
steps_on x (inl z) = (67108875, listed 10 67108875 (omega arith) (rw transitions-D), rw z (record { source = refl; letter = refl; target = refl }))
steps_on x (inr (inl z)) = (184549385, listed 24 184549385 (omega arith) (rw transitions-D), rw z (record { source = refl; letter = refl; target = refl }))
steps_on x (inr (inr z)) = (150994948, listed 20 150994948 (omega arith) (rw transitions-D), rw z (record { source = refl; letter = refl; target = refl }))

below-13 : (x : ℕ) → (x ≡ 4) ⊎ ((x ≡ 11) ⊎ (x ≡ 9)) → x < 13
below-13 x h = ⊎_elim (λ z. omega arith) (λ k. ⊎_elim (λ z. omega arith) (λ z. omega arith) k) h

returns : (i : ℕ) → (loop i ≡ 4) ⊎ ((loop i ≡ 11) ⊎ (loop i ≡ 9)) → (j : ℕ) × (i < j) × (loop j ≡ 4)
unfolding loop follow
returns i (inl z) = (suc (suc (suc i)), omega arith, ap (λ (x : ℕ). follow (follow (follow x))) z)
returns i (inr (inl z)) = (suc (suc i), omega arith, ap (λ (x : ℕ). follow (follow x)) z)
returns i (inr (inr z)) = (suc i, omega arith, ap follow z)

pub run-9 : AcceptingRun (macrostates D) (transitions D) (holds_initial D) (letters [] zeros) loop
unfolding loop begun is_accepting_lem component_in classes_in bit
run-9 = record {
  run = record {
    within = λ i. rw macrostates-D (below-13 (loop i) (loops i));
    begins = rw macrostates-D refl;
    moves = λ i. rw (zero-letter i) (steps_on (loop i) (loops i));
  };
  again = λ i. let j = returns i (loops i) in (j.0, j.1, rw (j.2, macrostates-D) refl);
}

-- so D accepts the word
pub accepts-9 : AcceptsWord D [] zeros
accepts-9 = (demand-D.exact [] zeros word-9).1 (loop, run-9)

-- and every accepting run over it begins at number 4
pub first-9 : (x : ℕ → ℕ) → AcceptingRun (macrostates D) (transitions D) (holds_initial D) (letters [] zeros) x → x 0 ≡ 4
unfolding loop
first-9 x R = demand-D.unambiguous (letters [] zeros) x loop R run-9 0
