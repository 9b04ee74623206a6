-- The steps of trimming, put together.
use mathlib.Core.Path.{◌≡◌, sym, ap, ap₂, ◌∙◌}
use mathlib.Core.List.{List, ◌++◌, append-nil}
use Prim.Native.Nat.{ℕ, ◌-◌, ◌<◌}
use native.Mathlib.Omega.{arith}
use lib.ListN.{length, replicate}
use Rattle.trim_spec.specs.Trimmed.{new_number, live_marks, picked, renumbered}
use Rattle.trim_spec.specs.Tagged.{highs, lows, Numbered, compacted, rewritten}
use Rattle.theory_laws.proofs.Numbers.{number-max}
use Rattle.theory_laws.proofs.Rewriting.{same_live, picked_same, rewritten-is, renumbered-whole}
use Rattle.theory_laws.proofs.Tagged.{highs-length, lows-length, compacted-is}
use Rattle.build_trimmed.specs.Trimming.{Trimmable, padded, Trimming}

pub padded-all : (l : List ℕ) → l ≡ padded l (length l)
padded-all l = let e : length l - length l ≡ 0 = omega arith in sym (append-nil l) ∙ ap (λ (k : ℕ). l ++ replicate k 0) (sym e)

-- cs and ts are the table, xs its marked codes
module _ (cs ts : List ℕ) (R : Trimmable cs ts) (xs : List ℕ) (h : highs xs ≡ live_marks cs ts) (l : lows xs ≡ cs) where
  pub marked-long : length xs ≡ length cs
  marked-long = sym (lows-length xs) ∙ ap length l

  live-long : length (live_marks cs ts) ≡ length cs
  live-long = ap length (sym h) ∙ highs-length xs ∙ marked-long

  pub few-left : (new_number (highs xs) (length xs) ≡ length xs → ⊥) → new_number (highs xs) (length xs) < 65536
  few-left n = let m = number-max (highs xs) (length xs) in let e = marked-long in omega (arith, n, R.few)

  -- all are left
  pub trimmed-none : new_number (highs xs) (length xs) ≡ length xs → (k : ℕ) (ys : List ℕ) → k ≡ length (compacted xs) → ys ≡ padded (compacted xs) (length xs)
      → Trimming cs ts (record { macrostates = k; transitions = length ts }) ys ts
  trimmed-none full k ys e f =
      let same : compacted xs ≡ picked (live_marks cs ts) cs = compacted-is xs ∙ ap₂ picked h l in
      let all : renumbered (live_marks cs ts) ts ≡ ts = renumbered-whole (live_marks cs ts) ts
      (ap₂ new_number (sym h) (live-long ∙ sym marked-long) ∙ full ∙ marked-long ∙ sym live-long) (rw live-long R.inside) in record {
        macrostates = e ∙ ap length same;
        transitions_left = ap length (sym all);
        codes_after = f ∙ ap₂ padded same marked-long;
        transitions_after = rw all (padded-all ts);
      }

  -- some go out: vs are the codes with their numbers
  pub trimmed-some : (vs : List ℕ) → Numbered (highs xs) (highs vs) → lows vs ≡ lows xs → length vs ≡ length xs
      → (m : ℕ) (ws : List ℕ) → m ≡ length (rewritten (highs vs) ts) → ws ≡ padded (rewritten (highs vs) ts) (length ts)
      → (k : ℕ) (ys : List ℕ) → k ≡ length (compacted vs) → ys ≡ padded (compacted vs) (length vs)
      → Trimming cs ts (record { macrostates = k; transitions = m }) ys ws
  trimmed-some vs N c n m ws a b k ys e f =
      let M : Numbered (live_marks cs ts) (highs vs) = rw h at N in
      let same : compacted vs ≡ picked (live_marks cs ts) cs =
      compacted-is vs ∙ ap (picked (highs vs)) (c ∙ l) ∙ picked_same (live_marks cs ts) (highs vs) cs (same_live (live_marks cs ts) (highs vs) M) M.long in
      let moves : rewritten (highs vs) ts ≡ renumbered (live_marks cs ts) ts = rewritten-is (live_marks cs ts) (highs vs) M ts in record {
        macrostates = e ∙ ap length same;
        transitions_left = a ∙ ap length moves;
        codes_after = f ∙ ap₂ padded same (n ∙ marked-long);
        transitions_after = b ∙ ap (λ (r : List ℕ). padded r (length ts)) moves;
      }
