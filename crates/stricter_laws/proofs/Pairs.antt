-- Searches through pairs: letters, kinds and places.
use mathlib.Core.Path.{◌≡◌, sym, ap, ap₂}
use mathlib.Core.Bool.{Bool, true, false}
use mathlib.Core.List.{List}
use mathlib.Core.Logic.{by_cases}
use Prim.Native.Nat.{ℕ, ◌+◌, ◌-◌, ◌*◌, ◌/◌, ◌%◌, ◌≤◌, ◌<◌}
use native.Mathlib.Omega.{arith}
use native.Mathlib.Decide.{dec_lt}
use native.Mathlib.Nat.{mul-zero, mod-lt, div-add-mod', div-lt_iff_lt-mul}
use lib.Arith.{digits_lt}
use lib.ListN.{length, get_or}
use Rattle.sets.specs.Tests.{one}
use Rattle.theory.specs.Macrostate.{is_accepting_lem}
use Rattle.stricter_laws.specs.Pairs.{PairStep, Paired, Fits}
use Rattle.stricter_laws.specs.Tests.{accepts_in}
use Rattle.stricter_laws.proofs.Sides.{accepts-first, accepts-second}
use Rattle.stricter_laws.specs.Forest.{kind_in}

pub step-lettered : {nb : ℕ} {ma mb : List ℕ} {size : ℕ} → Paired nb ma mb size → (x a y : ℕ) → PairStep nb ma mb x a y → a < 16
step-lettered p x a y s = rw (sym s.letter_b) (p.lettered s.of_b s.listed_b)

pub one-low : (b : Bool) → one b ≤ 1
one-low true = omega arith
one-low false = omega arith

pub kind-low : (ca cb : List ℕ) (x : ℕ) → kind_in ca cb x ≤ 3
unfolding kind_in
kind-low ca cb x = omega (arith, one-low (accepts_in ca cb false x), one-low (accepts_in ca cb true x))

pub kind_at : (ca cb : List ℕ) (i j : ℕ) → j < length cb → kind_in ca cb (i * length cb + j) ≡ 2 * one (is_accepting_lem (get_or ca i 0)) + one (is_accepting_lem (get_or cb j 0))
unfolding kind_in
kind_at ca cb i j l = ap₂ (λ (b d : Bool). 2 * one b + one d) (accepts-first ca cb i j l) (accepts-second ca cb i j l)

pub pair-low : {na nb : ℕ} (i j : ℕ) {ma mb ms : List ℕ} → Fits na nb ma mb ms → i < na → j < nb → i * nb + j < length ms
pair-low {na = na} {nb = nb} i j f l k = rw f.marked (digits_lt {q = i} {m = na} {c = nb} l k)

pub row-end : {na nb : ℕ} (i : ℕ) {ma mb ms : List ℕ} → Fits na nb ma mb ms → i < na → 0 < nb → i * nb + nb ≤ length ms
row-end {nb = nb} i f l k = let h = pair-low i (nb - 1) f l (omega arith) in omega arith

-- the two numbers of a pair
pub record Parts (na nb x : ℕ) : Type 0 where
  pub some : 0 < nb
  pub first : x / nb < na
  pub second : x % nb < nb
  pub whole : x / nb * nb + x % nb ≡ x

pub parts : (na nb x : ℕ) → x < na * nb → Parts na nb x
parts na nb x l =
    let pos : 0 < nb = by_cases (dec_lt 0 nb) (λ h. h) (λ h. let e : nb ≡ 0 = omega arith in absurd (omega (arith, mul-zero na, ap (λ (n : ℕ). na * n) e))) in
    record { some = pos; first = (div-lt_iff_lt-mul pos).1 l; second = mod-lt x pos; whole = div-add-mod' x nb }

pub pair_parts : {na nb : ℕ} (x : ℕ) {ma mb ms : List ℕ} → Fits na nb ma mb ms → x < length ms → Parts na nb x
pair_parts {na = na} {nb = nb} x f l = parts na nb x (rw f.marked at l)
