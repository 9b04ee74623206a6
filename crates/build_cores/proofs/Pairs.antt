-- How component and classes left go on: the cases.
use mathlib.Core.Path.{◌≡◌, ◌∙◌}
use mathlib.Core.Logic.{by_cases}
use mathlib.Core.List.{List}
use Prim.Native.Nat.{ℕ, suc, ◌+◌, ◌*◌, ◌/◌, ◌%◌, ◌^◌, ◌≤◌, ◌<◌}
use native.Mathlib.Omega.{arith}
use native.Mathlib.Decide.{ℕ_discrete}
use lib.Bits.{bit_or}
use borrow.Author.Tests.{eq-eqb, ne_eqb}
use Rattle.sets.proofs.Tests.{count-max}
use Rattle.codes.proofs.Packing.{put-field}
use Rattle.build_cores.specs.Used.{class_count_lem, taken}
use Rattle.build_cores.specs.Onward.{next_in, classes_at, level_at, onward_in}

pub next_last : (C c : ℕ) → c + 1 ≡ C → next_in C c ≡ 0
unfolding next_in
next_last C c e = rw (eq-eqb (suc c) C (omega arith))

pub next_more : (C c : ℕ) → (c + 1 ≡ C → ⊥) → next_in C c ≡ c + 1
unfolding next_in
next_more C c n = rw (ne_eqb (suc c) C (λ e. n (omega arith))) (omega arith)

pub next-lt : (C c : ℕ) → c < C → next_in C c < C
next-lt C c h = by_cases (ℕ_discrete (c + 1) C) (λ e. omega (arith, next_last C c e)) (λ e. omega (arith, next_more C c e))

-- a pair is put together by a shift
pub pair_put : (c k : ℕ) → c < 16 → k < 16 → bit_or c (k * 2 ^ 4 % 2 ^ 64) ≡ c + 16 * k
pair_put c k l h = put-field k 4 l (omega arith) ∙ omega arith

pub class-count-low : (v part : ℕ) → class_count_lem v part ≤ 15
unfolding class_count_lem
class-count-low v part = count-max 15 (λ j. taken v part (suc j))

module _ (ranks : ℕ) (parts : List ℕ) (C : ℕ) (levels : List ℕ) where
  abbrev cls : ℕ → ℕ
  cls = classes_at ranks parts C levels

  abbrev lev : ℕ → ℕ → ℕ
  lev = level_at ranks parts C levels

  pub onward-turn : (x : ℕ) → x / 16 ≡ 0 → onward_in ranks parts C levels x ≡ next_in C (x % 16) + 16 * cls (next_in C (x % 16))
  unfolding onward_in
  onward-turn x e = rw (eq-eqb (x / 16) 0 e)

  pub onward-stay : (x : ℕ) → (x / 16 ≡ 0 → ⊥) → onward_in ranks parts C levels x ≡ x % 16 + 16 * lev (x % 16) (x / 16)
  unfolding onward_in
  onward-stay x n = rw (ne_eqb (x / 16) 0 n)
