-- What a table gives that row 15 does not refuse, and which tables it does not refuse.
use mathlib.Core.Path.{◌≡◌, refl, sym}
use mathlib.Core.Bool.{false}
use mathlib.Core.List.Memᴰ
use mathlib.Core.List.{List, [], ◌∷◌, Memᴰ}
use Prim.Native.Nat.{ℕ, zero, suc, ◌^◌, ◌≤◌, ◌<◌}
use native.Mathlib.Omega.{arith}
use lib.ListN.{length, get_or}
use borrow.Author.Tests.{leb-false}
use Rattle.sets.specs.Lists.{Above, end, more, Ascending, none, from, tabulate}
use Rattle.sets.proofs.Lists.{any_none, none_any, mem-at, tabulate-out, length-tabulate}
use Rattle.theory.specs.Run.{source_of, letter_of_lem, target_of}
use Rattle.codes.specs.Codes.{transition_of}
use Rattle.slice_search.proofs.Ascends.{ascends-asc, asc-ascends}
use Rattle.table_lent.specs.Lent.{Lent, in_words, is_high, is_astray_lem, table_row_lem}
use Rattle.table_rows.specs.Passed.{Passed}
use Rattle.table_rows.proofs.Faults.{Clear, clear, faultless, parts, served, refused, not-high, in-range, range}

module _ (s : ℕ) (codes transitions : List ℕ) where
  ranges : Clear s codes transitions → (t : ℕ) → Memᴰ t transitions → (source_of t < length codes) × (letter_of_lem t < s) × (target_of t < length codes)
  ranges p t m = range (length codes) s t (any_none transitions (is_astray_lem (length codes) s) t p.none-astray m)

  pub clear-passed : Clear s codes transitions → Passed s codes transitions
  clear-passed p =
      record {
        few = p.few;
        codes_ascend = ascends-asc codes p.codes_ascend;
        transitions_ascend = ascends-asc transitions p.transitions_ascend;
        narrow = λ c m. leb-false (2 ^ 48) c (any_none codes is_high c p.none-high m);
        source = λ t m. (ranges p t m).0;
        letter = λ t m. (ranges p t m).1;
        target = λ t m. (ranges p t m).2;
      }

  pub passed-clear : Passed s codes transitions → Clear s codes transitions
  passed-clear p =
      record {
        few = p.few;
        codes_ascend = asc-ascends codes p.codes_ascend;
        transitions_ascend = asc-ascends transitions p.transitions_ascend;
        none-high = none_any codes is_high (λ c m. not-high c (p.narrow c m));
        none-astray = none_any transitions (is_astray_lem (length codes) s) (λ t m. in-range (length codes) s t (p.source t m) (p.letter t m) (p.target t m));
      }

  -- a transition of 2 to the power 40 or more has its source out of range in every table
  pub transition-low : Passed s codes transitions → (t : ℕ) → Memᴰ t transitions → t < 2 ^ 40
  transition-low p t m = omega (arith, p.source t m, p.few)

module _ (s : ℕ) (codes transitions : Lent) where
  pub passed : table_row_lem s codes transitions ≡ 0 → Passed s codes.numbers transitions.numbers
  passed e = clear-passed s codes.numbers transitions.numbers (clear s codes.numbers transitions.numbers (parts s codes transitions e).2)

  pub passes : codes.ragged ≡ false → transitions.ragged ≡ false → Passed s codes.numbers transitions.numbers → table_row_lem s codes transitions ≡ 0
  passes c t p = sym (served s codes transitions refl c t (faultless s codes.numbers transitions.numbers (passed-clear s codes.numbers transitions.numbers p)))

  pub over-40 : (t : ℕ) → Memᴰ t transitions.numbers → 2 ^ 40 ≤ t → table_row_lem s codes transitions ≡ 15
  over-40 t m h = sym (refused s codes transitions (λ z. omega (arith, transition-low s codes.numbers transitions.numbers (passed z) t m)))

-- ---- by place

module _ (s : ℕ) (codes transitions : List ℕ) (p : Passed s codes transitions) where
  pub code_at : (i : ℕ) → i < length codes → get_or codes i 0 < 2 ^ 48
  code_at i l = p.narrow (get_or codes i 0) (mem-at codes i l)

  pub letter_at : (i : ℕ) → i < length transitions → letter_of_lem (get_or transitions i 0) < s
  letter_at i l = p.letter (get_or transitions i 0) (mem-at transitions i l)

-- ---- 65,536 codes pass: the numbers from 0 on, and a transition from the last to the last

up : (n a x : ℕ) → x < a → Above x (tabulate n (λ i. i) a)
unfolding tabulate
up zero a x h = end
up (suc n) a x h = more h (up n (suc a) a (omega arith))

rising : (n : ℕ) → Ascending (tabulate n (λ i. i) 0)
unfolding tabulate
rising zero = none
rising (suc n) = from (up n 1 0 (omega arith))

last-only : (t : ℕ) → Memᴰ t (transition_of 65535 1 65535 ∷ []) → t ≡ transition_of 65535 1 65535
last-only t m = Memᴰ.eq_of_singleton m

most : (n : ℕ) → n ≡ 65536 → Passed 2 (tabulate n (λ i. i) 0) (transition_of 65535 1 65535 ∷ [])
most n e =
    let long : length (tabulate n (λ i. i) 0) ≡ n = length-tabulate n (λ i. i) 0 in
    record {
      few = omega arith;
      codes_ascend = rising n;
      transitions_ascend = from end;
      narrow = λ c m. let o = tabulate-out n (λ i. i) c m in omega (arith, o.1, o.2);
      source = λ t m. omega (arith, last-only t m);
      letter = λ t m. omega (arith, last-only t m);
      target = λ t m. omega (arith, last-only t m);
    }

pub codes-65536 : table_row_lem 2 (in_words (tabulate 65536 (λ i. i) 0)) (in_words (transition_of 65535 1 65535 ∷ [])) ≡ 0
unfolding in_words
codes-65536 = passes 2 (in_words (tabulate 65536 (λ i. i) 0)) (in_words (transition_of 65535 1 65535 ∷ [])) refl refl (most 65536 refl)
