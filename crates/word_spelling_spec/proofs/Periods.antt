-- Sequences that repeat: a spelling is a step from which on the sequence repeats, and a number of steps after which it does.
use mathlib.Core.Path.{◌≡◌, refl, sym, ◌∙◌, ap}
use mathlib.Core.Logic.{by_cases}
use mathlib.Core.List.{List, ◌++◌}
use Prim.Native.Nat.{ℕ, zero, suc, ◌+◌, ◌-◌, ◌≤◌, ◌<◌}
use native.Mathlib.Omega.{arith}
use native.Mathlib.Decide.{dec_lt}
use lib.ListN.{length, get_or, take, drop, length-take, length-drop}
use lib.Seq.{get_or-take, take-add}
use Rattle.theory.specs.Word.{places, letters}
use Rattle.word_spelling_spec.specs.Spelling.{Spells}
use Rattle.word_spelling_spec.proofs.Steps.{letter-is, letters-again}

-- from step m on, w repeats after p steps
abbrev pub Repeats : (ℕ → ℕ) → ℕ → ℕ → Type 0
Repeats w m p = (i : ℕ) → m ≤ i → w (i + p) ≡ w i

-- a later start
pub repeats-later : (w : ℕ → ℕ) (m n p : ℕ) → m ≤ n → Repeats w m p → Repeats w n p
repeats-later w m n p l R i h = R i (omega arith)

-- w repeats from its lead-in on, after each cycle
pub spelled-repeats : (w : ℕ → ℕ) (lead cycle : List ℕ) → Spells w lead cycle → Repeats w (length lead) (length cycle)
spelled-repeats w lead cycle S i l = sym (S.agrees (i + length cycle)) ∙ letters-again lead cycle S.repeats i l ∙ S.agrees i

-- its first letters are those of the lists
pub spelled_at : (w : ℕ → ℕ) (lead cycle : List ℕ) → Spells w lead cycle → (i : ℕ) → i < places lead cycle → w i ≡ get_or (lead ++ cycle) i 0
spelled_at w lead cycle S i l = sym (S.agrees i) ∙ letter-is lead cycle S.repeats i l

-- two sequences that repeat alike, and agree until they do, agree
pub agree_on : (v w : ℕ → ℕ) (m p : ℕ) → 0 < p → Repeats v m p → Repeats w m p → ((i : ℕ) → i < m + p → v i ≡ w i) → (b i : ℕ) → i < b → v i ≡ w i
agree_on v w m p h R S e zero i l = absurd (omega arith)
agree_on v w m p h R S e (suc b) i l =
    by_cases (dec_lt i (m + p)) (e i)
    (λ n. let k : i - p + p ≡ i = omega arith in
    ap v (sym k) ∙ R (i - p) (omega arith) ∙ agree_on v w m p h R S e b (i - p) (omega arith) ∙ sym (S (i - p) (omega arith)) ∙ ap w k)

-- the first m + p letters of a sequence that repeats from m on after p steps spell it
module _ (w : ℕ → ℕ) (m p : ℕ) (some-step : 0 < p) (R : Repeats w m p) (s : List ℕ) (long : m + p ≤ length s) (at : (i : ℕ) → i < m + p → get_or s i 0 ≡ w i) where
  pub lead-length : length (take m s) ≡ m
  lead-length = simp length-take (omega arith)

  pub cycle-length : length (take p (drop m s)) ≡ p
  cycle-length = simp (length-take, length-drop) (omega arith)

  repeats : 0 < length (take p (drop m s))
  repeats = omega (arith, cycle-length)

  first-letters : (i : ℕ) → i < m + p → letters (take m s) (take p (drop m s)) i ≡ w i
  first-letters i l =
      letter-is (take m s) (take p (drop m s)) repeats i (omega (arith, lead-length, cycle-length))
      ∙ ap (λ (l : List ℕ). get_or l i 0) (sym (take-add m p s)) ∙ get_or-take (m + p) s i 0 l ∙ at i l

  again : Repeats (letters (take m s) (take p (drop m s))) m p
  again i l =
      ap (λ (x : ℕ). letters (take m s) (take p (drop m s)) (i + x)) (sym cycle-length) ∙ letters-again _ _ repeats i (omega (arith, lead-length))

  pub repeats-spells : Spells w (take m s) (take p (drop m s))
  repeats-spells = record { repeats = repeats; agrees = λ i. agree_on (letters (take m s) (take p (drop m s))) w m p some-step again R first-letters (suc i) i (omega arith) }

-- ---- a sequence that repeats from n on after L steps, and from m on after p, repeats from n on after p
module _ (w : ℕ → ℕ) (n L m p : ℕ) (some-step : 0 < L) (R : Repeats w n L) (Q : Repeats w m p) where
  -- the steps i and i + p come again at steps as late as is wanted
  record Late (i t : ℕ) : Type 0 where
    step : ℕ
    late : t ≤ step
    behind : n ≤ step
    here : w step ≡ w i
    there : w (step + p) ≡ w (i + p)

  late_of : (i : ℕ) → n ≤ i → (t : ℕ) → Late i t
  late_of i l zero = record { step = i; late = omega arith; behind = l; here = refl; there = refl }
  late_of i l (suc t) =
      let j = late_of i l t in
      let e : j.step + L + p ≡ j.step + p + L = omega arith in
      record {
        step = j.step + L;
        late = omega (arith, j.late);
        behind = omega (arith, j.behind);
        here = R j.step j.behind ∙ j.here;
        there = ap w e ∙ R (j.step + p) (omega (arith, j.behind)) ∙ j.there;
      }

  pub repeats-sooner : Repeats w n p
  repeats-sooner i l = let j = late_of i l m in sym j.there ∙ Q j.step j.late ∙ j.here
