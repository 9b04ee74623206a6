-- The laws of rounds for one component after another, of either side.
use mathlib.Core.Path.{◌≡◌, refl, sym, subst, ◌∙◌}
use mathlib.Core.Logic.{by_cases}
use mathlib.Core.Bool.{Bool, true, false, ◌||◌, false≢true}
use mathlib.Core.List.{List}
use Prim.Native.Nat.{ℕ, ◌+◌, ◌≤◌, ◌<◌}
use native.Mathlib.Omega.{arith}
use native.Mathlib.Decide.{dec_lt}
use lib.ListN.{length, get_or}
use Rattle.sets.specs.Lists.{sum}
use Rattle.sets.proofs.Bools.{bif, or-fl, or-fr, or-rt}
use Rattle.graph_walks.proofs.Sums.{sum-le}
use Rattle.stricter_spec.specs.Rounds.{Toward, Round, AllSound, Narrowed, Pass}
use Rattle.stricter_laws.specs.Parts.{Side}
use Rattle.stricter_laws.proofs.Tries.{toward-more}

-- nothing comes in: the sum does not grow
sums : (old new : List ℕ) → length new ≡ length old → ((x : ℕ) → get_or new x 0 ≤ 1) → ((x : ℕ) → 0 < get_or new x 0 → 0 < get_or old x 0) → sum new ≤ sum old
sums old new e low sub = sum-le new old e (λ x. let h = low x in by_cases (dec_lt 0 (get_or new x 0)) (λ l. let g = sub x l in omega arith) (λ l. omega arith))

-- one part after another makes the sum smaller if one of them does
sums-then : (old ms new : List ℕ) (a b now : Bool) → sum ms ≤ sum old → sum new ≤ sum ms → (a ≡ true → sum ms < sum old) → (b ≡ true → sum new < sum ms) → now ≡ (a || b)
    → now ≡ true → sum new < sum old
sums-then old ms new a b now p q f g e t = bif a (λ h. omega (arith, f h)) (λ h. omega (arith, g (or-rt a b (sym e ∙ t) h)))

module _ {E : ℕ → ℕ → Type 0} {F : Bool → ℕ → ℕ → ℕ → Type 0} {components : Bool → ℕ} where
  pub narrowed-start : (ms : List ℕ) → ((x : ℕ) → get_or ms x 0 ≤ 1) → Narrowed E F components ms ms
  narrowed-start ms low = record { long = refl; low = low; sub = λ x h. h; keeps = λ z w h a. h }

  pub narrowed-then : {old ms new : List ℕ} → Narrowed E F components old ms → Narrowed E F components ms new → Narrowed E F components old new
  narrowed-then f g =
      record { long = g.long ∙ f.long; low = g.low; sub = λ x h. f.sub x (g.sub x h); keeps = λ z w h a. g.keeps z w (f.keeps z w h a) a }

  narrowed-sum : {old new : List ℕ} → Narrowed E F components old new → sum new ≤ sum old
  narrowed-sum {old = old} {new = new} f = sums old new f.long f.low f.sub

  -- ---- a side

  pub side-start : (second : Bool) (ms : List ℕ) → ((x : ℕ) → get_or ms x 0 ≤ 1) → Side E F components second 0 ms ms false
  side-start second ms low =
      record { narrowed = narrowed-start ms low; same = λ e x h. h; sound = λ e K l. absurd (omega arith); less = λ e. absurd (false≢true e) }

  pub side-next : {second : Bool} {k : ℕ} {old ms new : List ℕ} {a b : Bool} (now : Bool) → k < components second → Side E F components second k old ms a
      → Round E (F second k) ms new b → now ≡ (a || b) → Side E F components second (k + 1) old new now
  side-next {second = second} {k = k} {old = old} {ms = ms} {new = new} {a = a} {b = b} now l s r e = record {
    narrowed = narrowed-then s.narrowed one;
    same = λ f x h. r.same (or-fr a b (sym e ∙ f)) x (s.same (or-fl a b (sym e ∙ f)) x h);
    sound = λ f K q x h. by_cases (dec_lt K k)
        (λ t. toward-more new (r.same (or-fr a b (sym e ∙ f))) (s.sound (or-fl a b (sym e ∙ f)) K t x (r.sub x h)))
        (λ t. let w : k ≡ K = omega arith in subst (λ (n : ℕ). Toward E (F second n) new x) w (r.sound (or-fr a b (sym e ∙ f)) x h));
    less = sums-then old ms new a b now (narrowed-sum s.narrowed) (narrowed-sum one) s.less r.less e;
  }
    where
      one : Narrowed E F components ms new
      one = record { long = r.long; low = r.low; sub = r.sub; keeps = λ z w h g. r.keeps z w h (g second k l) }

  -- ---- both sides

  pub pass_of : {old ms new : List ℕ} {a b : Bool} (now : Bool) → Side E F components false (components false) old ms a
      → Side E F components true (components true) ms new b → now ≡ (a || b) → Pass E F components old new now
  pass_of {old = old} {ms = ms} {new = new} {a = a} {b = b} now f g e = record {
    narrowed = narrowed-then f.narrowed g.narrowed;
    sound = λ q. sound (or-fl a b (sym e ∙ q)) (or-fr a b (sym e ∙ q));
    less = sums-then old ms new a b now (narrowed-sum f.narrowed) (narrowed-sum g.narrowed) f.less g.less e;
  }
    where
      sound : a ≡ false → b ≡ false → AllSound E F components new
      sound p q true K l x h = g.sound q K l x h
      sound p q false K l x h = toward-more new (g.same q) (f.sound p K l x (g.narrowed.sub x h))
