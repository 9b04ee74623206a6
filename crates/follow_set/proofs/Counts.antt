-- A pass over the bytes that are not 0: each goes through f, which leaves 0 as it is, and what is not 0 then is counted.
use mathlib.Core.Path.{◌≡◌, refl, sym, ap, ◌∙◌}
use mathlib.Core.Logic.{by_cases}
use mathlib.Core.List.{List, map}
use Prim.Native.Nat.{ℕ, zero, suc, ◌+◌, ◌≤◌, ◌<◌}
use native.Mathlib.Decide.{dec_lt}
use native.Mathlib.Numerals.{add-one}
use native.Mathlib.Omega.{arith}
use lib.Dec.{ltb}
use lib.ListN.{length, get_or, set}
use Rattle.sets.specs.Tests.{one, count}
use Rattle.sets.proofs.Tests.{count-ext, count-trim}
use Rattle.slice_search.specs.Zeros.{Zeros}
use Rattle.live_spec.specs.Afresh.{is_in, members_of}
use Rattle.live_set.proofs.Sets.{Through, through-start, through-next, through-end}

-- the bytes before place x are through f and counted
pub record Counting (f : ℕ → ℕ) (before after : List ℕ) (members x : ℕ) : Type 0 where
  pub through : Through f before after x
  pub counted : members ≡ count x (λ y. ltb 0 (f (get_or before y 0)))
  pub few : members ≤ x

one_of : (v : ℕ) → v ≤ 1 → one (ltb 0 v) ≡ v
one_of zero l = refl
one_of (suc zero) l = refl
one_of (suc (suc v)) l = absurd (omega arith)

module _ (f : ℕ → ℕ) (none : f 0 ≡ 0) (before : List ℕ) where
  pub counting-over : (after : List ℕ) (members x y : ℕ) → Zeros after x y → Counting f before after members x → Counting f before after members y
  counting-over after members x y z c =
      let still : (j : ℕ) → x ≤ j → j < y → f (get_or before j 0) ≡ 0 = λ j l m. ap f (sym (c.through.rest j l) ∙ z.zeros j l m) ∙ none in
      record {
        through = record {
          long = c.through.long;
          done = λ j l. by_cases (dec_lt j x) (c.through.done j) (λ n. z.zeros j (omega arith) l ∙ sym (still j (omega arith) l));
          rest = λ j l. c.through.rest j (omega (arith, z.ordered));
        };
        counted = c.counted ∙ sym (count-trim y x (λ j. ltb 0 (f (get_or before j 0))) z.ordered (λ j l m. ap (ltb 0) (still j l m)));
        few = omega (arith, c.few, z.ordered);
      }

  pub counting-start : (x : ℕ) → Zeros before 0 x → Counting f before before 0 x
  unfolding count
  counting-start x z = counting-over before 0 0 x z (record { through = through-start f before; counted = refl; few = omega arith })

  pub counting-next : (after : List ℕ) (members x v : ℕ) → x < length before → v ≡ f (get_or after x 0) → v ≤ 1 → Counting f before after members x
      → Counting f before (set after x v) (members + v) (x + 1)
  unfolding count
  counting-next after members x v l e low c =
      let same : f (get_or before x 0) ≡ v = ap f (sym (c.through.rest x (omega arith))) ∙ sym e in
      let last : one (ltb 0 (f (get_or before x 0))) ≡ v = ap (λ (u : ℕ). one (ltb 0 u)) same ∙ one_of v low in
      record {
        through = through-next f before after x v l e c.through;
        counted = rw add-one (omega (arith, c.counted, last));
        few = omega (arith, c.few);
      }

  pub counting-end : (after : List ℕ) (members x : ℕ) → x ≡ length before → Counting f before after members x
      → (after ≡ map f before) × (members ≡ members_of (length before) after)
  unfolding members_of
  counting-end after members x e c = (
    through-end f before after x (omega arith) c.through,
    c.counted ∙ ap (λ (n : ℕ). count n (λ y. ltb 0 (f (get_or before y 0)))) e
        ∙ count-ext (length before) (λ y. ltb 0 (f (get_or before y 0))) (is_in after) (λ y l. ap (ltb 0) (sym (c.through.done y (omega arith)))),
  )
