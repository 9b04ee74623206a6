-- The states of one height, read off the table of what each state reaches.
use mathlib.Core.Path.{◌≡◌, ◌∙◌, ap}
use mathlib.Core.List.{List}
use Prim.Native.Nat.{ℕ, ◌≤◌, ◌<◌}
use native.Mathlib.Omega.{arith}
use lib.Count.{ones}
use lib.Dec.{eqb}
use lib.ListN.{get_or}
use Rattle.sets.specs.Masks.{mask}
use Rattle.sets.proofs.Masks.{mask_lt, bit_mask, mask-ext}
use Rattle.sets.proofs.Bits.{ones-count}
use Rattle.sets.proofs.Tests.{count-ext}
use Rattle.theory.specs.Rule.{Rule}
use Rattle.theory.specs.Components.{reaches}
use Rattle.theory.specs.Truth.{height_of}
use Rattle.rule_reach.specs.Tables.{closures_of}
use Rattle.rule_reach.proofs.Tables.{table_at}
use Rattle.judge_place.specs.Rounds.{layer_of}

module _ (r : Rule) (few : r.n ≤ 8) (reach : List ℕ) (e : reach ≡ closures_of r) where
  height-at : (q : ℕ) → q < r.n → ones (get_or reach q 0) ≡ height_of r q
  unfolding height_of
  height-at q l =
      let at : get_or reach q 0 ≡ mask r.n (reaches r q) = ap (λ (x : List ℕ). get_or x q 0) e ∙ table_at r.n (λ p. mask r.n (reaches r p)) q l (omega arith) in
      ap ones at ∙ ones-count r.n (mask r.n (reaches r q)) (mask_lt r.n (reaches r q)) ∙ count-ext r.n _ (reaches r q) (λ p k. bit_mask r.n (reaches r q) p k)

  pub layer-is : (h : ℕ) → mask r.n (λ q. eqb (ones (get_or reach q 0)) h) ≡ layer_of r h
  layer-is h = mask-ext r.n _ _ (λ q l. ap (λ (x : ℕ). eqb x h) (height-at q l))
