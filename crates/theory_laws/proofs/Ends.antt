-- The ends of a transition, by what their codes carry.
use mathlib.Core.Path.{◌≡◌, refl, sym, ap, ◌∙◌}
use mathlib.Core.Bool.{true, false, not}
use mathlib.Core.List.{List, [], ◌∷◌}
use Prim.Native.Nat.{ℕ, ◌+◌, ◌-◌, ◌*◌, ◌/◌, ◌^◌, ◌<◌}
use native.Mathlib.Omega.{arith}
use lib.Dec.{eqb}
use lib.ListN.{get_or}
use borrow.Author.Tests.{eq-eqb, ne_eqb}
use native.Mathlib.Decide.{ℕ_discrete}
use mathlib.Core.Logic.{by_cases}
use Rattle.sets.proofs.Bools.{and_l, and_r}
use Rattle.theory.specs.Run.{source_of, letter_of_lem, target_of}
use Rattle.trim_spec.specs.Trimmed.{is_live, is_left_lem}
use Rattle.trim_spec.specs.Tagged.{highs, compacted, rewrite, rewritten}
use Rattle.theory_laws.proofs.Numbers.{live-yes, live-no, live-is}
use Rattle.theory_laws.proofs.Tagged.{highs-at}

module _ (xs : List ℕ) (t : ℕ) where
  pub left_not : get_or xs (source_of t) 0 / 2 ^ 48 ≡ 0 → is_left_lem (highs xs) t ≡ false
  unfolding is_left_lem
  left_not e = rw (live-no (highs xs) (source_of t) (highs-at xs (source_of t) ∙ e)) refl

  pub left_by : 0 < get_or xs (source_of t) 0 / 2 ^ 48 → not (eqb (get_or xs (target_of t) 0 / 2 ^ 48) 0) ≡ is_left_lem (highs xs) t
  unfolding is_left_lem
  left_by l =
      rw (live-yes (highs xs) (source_of t) (rw (highs-at xs (source_of t)) l))
      (by_cases (ℕ_discrete (get_or xs (target_of t) 0 / 2 ^ 48) 0)
      (λ e. ap not (eq-eqb (get_or xs (target_of t) 0 / 2 ^ 48) 0 e) ∙ sym (live-no (highs xs) (target_of t) (highs-at xs (target_of t) ∙ e)))
      (λ n. ap not (ne_eqb (get_or xs (target_of t) 0 / 2 ^ 48) 0 n) ∙ sym (live-yes (highs xs) (target_of t) (let h = highs-at xs (target_of t) in omega arith))))

  pub left-source : is_left_lem (highs xs) t ≡ true → 0 < get_or xs (source_of t) 0 / 2 ^ 48
  unfolding is_left_lem
  left-source e = rw (highs-at xs (source_of t)) at (live-is (highs xs) (source_of t) (and_l (is_live (highs xs) (source_of t)) (is_live (highs xs) (target_of t)) e))

  pub left-target : is_left_lem (highs xs) t ≡ true → 0 < get_or xs (target_of t) 0 / 2 ^ 48
  unfolding is_left_lem
  left-target e = rw (highs-at xs (target_of t)) at (live-is (highs xs) (target_of t) (and_r (is_live (highs xs) (source_of t)) (is_live (highs xs) (target_of t)) e))

  pub rewrite-is : rewrite (highs xs) t ≡ (get_or xs (source_of t) 0 / 2 ^ 48 - 1) * 16777216 + letter_of_lem t * 65536 + (get_or xs (target_of t) 0 / 2 ^ 48 - 1)
  unfolding rewrite
  rewrite-is = rw (highs-at xs (source_of t), highs-at xs (target_of t)) refl

module _ (tags : List ℕ) (t : ℕ) (ts : List ℕ) where
  pub rewritten-yes : is_left_lem tags t ≡ true → rewritten tags (t ∷ ts) ≡ rewrite tags t ∷ rewritten tags ts
  unfolding rewritten
  rewritten-yes e = rw (e, rewritten)

  pub rewritten-no : is_left_lem tags t ≡ false → rewritten tags (t ∷ ts) ≡ rewritten tags ts
  unfolding rewritten
  rewritten-no e = rw (e, rewritten)

pub rewritten-none : (tags : List ℕ) → rewritten tags [] ≡ []
unfolding rewritten
rewritten-none tags = refl

pub compacted-none : compacted [] ≡ []
unfolding compacted
compacted-none = refl
