-- The transitions whose ends are left, rewritten one by one, are the transitions of the trimmed table.
use mathlib.Core.Path.{◌≡◌, refl, sym, ap, ◌∙◌}
use mathlib.Core.Logic.{⊎_elim, by_cases}
use mathlib.Core.Bool.{true, false}
use mathlib.Core.List.Memᴰ
use mathlib.Core.List.{List, [], ◌∷◌, Memᴰ}
use Prim.Native.Nat.{ℕ, ◌+◌, ◌*◌, ◌≤◌, ◌<◌}
use native.Mathlib.Omega.{arith}
use native.Mathlib.Decide.{dec_lt}
use lib.ListN.{length, get_or}
use Rattle.sets.specs.Tests.{count}
use Rattle.sets.specs.Lists.{Ascending, Above, end, more, none, from}
use Rattle.sets.proofs.Bools.{bif, and_l, and_r, and_i}
use Rattle.sets.proofs.Ascending.{asc-ext, above-asc}
use Rattle.theory.specs.Automaton.{Automaton, automaton}
use Rattle.theory.specs.Passing.{Passing}
use Rattle.theory.specs.Rule.{Rule}
use Rattle.theory.specs.Run.{source_of, letter_of_lem, target_of, Leads}
use Rattle.theory.specs.Table.{Transition, ListsReachable}
use Rattle.theory.specs.TableComputed.{transitions_of}
use Rattle.theory_laws.proofs.Layers.{layered}
use Rattle.theory_laws.proofs.Tables.{letters-fit, steps-ascending, steps-iff, transition-by, taken-apart}
use Rattle.graph_walks.specs.Walks.{Solved}
use Rattle.trim_spec.specs.Graph.{Step}
use Rattle.trim_spec.specs.Trimmed.{flags, is_live, new_number, picked, is_left_lem, renumber, renumbered}
use Rattle.theory_laws.proofs.Numbers.{live-yes, live-is, picked-at, number-low, picked-from, number-less, number-max}
use Rattle.theory_laws.proofs.Mattering.{live-long}
use Rattle.theory_laws.proofs.Runs.{kept-room}

-- ---- an example: of three numbers the middle one is out

middle-out : renumbered (2 ∷ 0 ∷ 1 ∷ []) (1 ∷ 2 ∷ 16777218 ∷ 33554432 ∷ 33619970 ∷ []) ≡ (1 ∷ 16777216 ∷ 16842753 ∷ [])
unfolding renumbered renumber is_left_lem is_live new_number count
middle-out = refl

-- ---- one transition

module _ (ms : List ℕ) (t : ℕ) where
  left-ends : is_left_lem ms t ≡ true → (0 < get_or ms (source_of t) 0) × (0 < get_or ms (target_of t) 0)
  unfolding is_left_lem
  left-ends e = (live-is ms (source_of t) (and_l (is_live ms (source_of t)) (is_live ms (target_of t)) e), live-is ms (target_of t) (and_r (is_live ms (source_of t)) (is_live ms (target_of t)) e))

  ends-left : 0 < get_or ms (source_of t) 0 → 0 < get_or ms (target_of t) 0 → is_left_lem ms t ≡ true
  unfolding is_left_lem
  ends-left a b = and_i (live-yes ms (source_of t) a) (live-yes ms (target_of t) b)

  renumber-is : renumber ms t ≡ new_number ms (source_of t) * 16777216 + letter_of_lem t * 65536 + new_number ms (target_of t)
  unfolding renumber
  renumber-is = refl

  module _ (ts : List ℕ) where
    pub renumbered-yes : is_left_lem ms t ≡ true → renumbered ms (t ∷ ts) ≡ renumber ms t ∷ renumbered ms ts
    unfolding renumbered
    renumbered-yes e = rw (e, renumbered)

    pub renumbered-no : is_left_lem ms t ≡ false → renumbered ms (t ∷ ts) ≡ renumbered ms ts
    unfolding renumbered
    renumbered-no e = rw (e, renumbered)

-- ---- the order stays

module _ (ms : List ℕ) (t u : ℕ) (less : t < u) (left : is_left_lem ms t ≡ true) where
  target_small : (v : ℕ) → new_number ms (target_of v) < 65536
  target_small v = let l = number-max ms (target_of v) in let k : target_of v < 65536 = omega arith in omega arith

  letter-small : (v : ℕ) → letter_of_lem v < 256
  letter-small v = omega arith

  in_order : renumber ms t < renumber ms u
  in_order =
      rw (renumber-is ms t, renumber-is ms u)
      (by_cases (dec_lt (source_of t) (source_of u))
      (λ a. let n = number-less ms (source_of t) (source_of u) a (left-ends ms t left).0 in
      omega (arith, n, target_small t, letter-small t))
      (λ a. let e : source_of t ≡ source_of u = omega arith in
      let n = ap (new_number ms) e in
      by_cases (dec_lt (letter_of_lem t) (letter_of_lem u)) (λ b. omega (arith, n, b, target_small t))
      (λ b. let f : letter_of_lem t ≡ letter_of_lem u = omega arith in
      let c : target_of t < target_of u = omega arith in
      let k = number-less ms (target_of t) (target_of u) c (left-ends ms t left).1 in
      omega (arith, n, f, k))))

above-less : (t u : ℕ) (us : List ℕ) → t < u → Above u us → Above t us
above-less t u [] l end = end
above-less t u (v ∷ us) l (more k a) = more {x = t} {y = v} (omega arith) a

renumbered-above : (ms : List ℕ) (ts : List ℕ) (t : ℕ) → is_left_lem ms t ≡ true → Above t ts → Above (renumber ms t) (renumbered ms ts)
unfolding renumbered
renumbered-above ms [] t e a = end
renumbered-above ms (u ∷ us) t e (more l a) =
    bif (is_left_lem ms u)
    (λ f. rw (renumbered-yes ms u us f) (more (in_order ms t u l e) (renumbered-above ms us u f a)))
    (λ f. rw (renumbered-no ms u us f) (renumbered-above ms us t e (above-less t u us l a)))

renumbered-asc : (ms ts : List ℕ) → Ascending ts → Ascending (renumbered ms ts)
unfolding renumbered
renumbered-asc ms [] a = none
renumbered-asc ms (t ∷ ts) (from a) =
    bif (is_left_lem ms t) (λ f. rw (renumbered-yes ms t ts f) (from (renumbered-above ms ts t f a)))
    (λ f. rw (renumbered-no ms t ts f) (renumbered-asc ms ts (above-asc a)))

-- ---- the members

renumbered-out : (ms ts : List ℕ) (v : ℕ) → Memᴰ v (renumbered ms ts) → (t : ℕ) × Memᴰ t ts × (is_left_lem ms t ≡ true) × (v ≡ renumber ms t)
unfolding renumbered
renumbered-out ms [] v m = absurd (Memᴰ.not-nil m)
renumbered-out ms (t ∷ ts) v m =
    bif (is_left_lem ms t)
    (λ f. ⊎_elim (λ e. (t, Memᴰ.head refl, f, e)) (λ k. let (u, l, g, e) = renumbered-out ms ts v k in (u, Memᴰ.tail l, g, e))
    (Memᴰ.cases_cons (rw (renumbered-yes ms t ts f) at m)))
    (λ f. let (u, l, g, e) = renumbered-out ms ts v (rw (renumbered-no ms t ts f) at m) in (u, Memᴰ.tail l, g, e))

renumbered-in : (ms ts : List ℕ) (t : ℕ) → Memᴰ t ts → is_left_lem ms t ≡ true → Memᴰ (renumber ms t) (renumbered ms ts)
renumbered-in ms [] t x'' f = elim x'' [ ]
renumbered-in ms (u ∷ us) t (Memᴰ.head e) f = rw (renumbered-yes ms u us (ap (is_left_lem ms) (sym e) ∙ f)) (Memᴰ.head (ap (renumber ms) e))
renumbered-in ms (u ∷ us) t (Memᴰ.tail k) f =
    let i = renumbered-in ms us t k f in bif (is_left_lem ms u) (λ g. rw (renumbered-yes ms u us g) (Memᴰ.tail i)) (λ g. rw (renumbered-no ms u us g) i)

-- ---- of a table

module _ (r : Rule) (P : Passing r) (codes ts : List ℕ) (L : ListsReachable r codes ts) (room : length codes ≤ 65536)
    (live : List ℕ) (S : Solved (Step ts) (flags codes) live) where
  abbrev A : Automaton
  A = automaton r

  abbrev kept : List ℕ
  kept = picked live codes

  long : length live ≡ length codes
  long = live-long r P codes ts L room live S

  fits : length kept ≤ 65536
  fits = kept-room r P codes ts L room live S

  renumber-leads : (t x a y : ℕ) → Leads t x a y → renumber live t ≡ new_number live x * 16777216 + a * 65536 + new_number live y
  renumber-leads t x a y l = renumber-is live t ∙ rw (l.source, l.letter, l.target) refl

  onto : (t : ℕ) → Memᴰ t ts → is_left_lem live t ≡ true → Transition A r.s kept (renumber live t)
  onto t m e =
      let T = (L.transitions_are t).0 m in
      let k = taken-apart r P L room t T in
      let ends = left-ends live t e in
      let a : 0 < get_or live T.source 0 = rw k.source at ends.0 in
      let b : 0 < get_or live T.target 0 = rw k.target at ends.1 in
      transition-by (new_number live T.source) T.letter (new_number live T.target) (number-low live codes long T.source T.source_listed a) T.letter_known
      (number-low live codes long T.target T.target_listed b) (renumber-leads t T.source T.letter T.target k)
      (rw (picked-at live codes T.source T.source_listed a, picked-at live codes T.target T.target_listed b) T.steps)

  back : (v : ℕ) → Transition A r.s kept v → Memᴰ v (renumbered live ts)
  back v T =
      let (x, hx, a, e) = picked-from live codes long T.source T.source_listed in
      let (y, hy, b, f) = picked-from live codes long T.target T.target_listed in
      let u = x * 16777216 + T.letter * 65536 + y in
      let p : get_or kept T.source 0 ≡ get_or codes x 0 = ap (λ (k : ℕ). get_or kept k 0) (sym e) ∙ picked-at live codes x hx a in
      let q : get_or kept T.target 0 ≡ get_or codes y 0 = ap (λ (k : ℕ). get_or kept k 0) (sym f) ∙ picked-at live codes y hy b in
      let U : Transition A r.s codes u = transition-by x T.letter y hx T.letter_known hy refl (rw (p, q) at T.steps) in
      let k = taken-apart r P L room u U in
      let g : renumber live u ≡ v = renumber-leads u x T.letter y k ∙ rw (e, f) (sym T.packed) in
      rw g at (renumbered-in live ts u ((L.transitions_are u).1 U) (ends-left live u (rw k.source a) (rw k.target b)))

  pub renumbered-are : renumbered live ts ≡ transitions_of A r.s kept
  renumbered-are =
      asc-ext (renumbered live ts) (transitions_of A r.s kept) (renumbered-asc live ts L.transitions_ascend) (steps-ascending A r.s kept)
      (λ v m. let (t, k, f, e) = renumbered-out live ts v m in (steps-iff A r.s kept (layered r P) (letters-fit r P) fits v).1 (rw e (onto t k f)))
      (λ v m. back v ((steps-iff A r.s kept (layered r P) (letters-fit r P) fits v).0 m))
