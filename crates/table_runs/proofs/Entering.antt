-- Marks along the transitions over a letter.
use mathlib.Core.Path.{◌≡◌, refl, sym, ap, ◌∙◌}
use mathlib.Core.Bool.{false, ◌&&◌}
use mathlib.Core.Logic.{◌↔◌, ◌⊎◌, inl, inr, ⊎_elim, by_cases}
use mathlib.Core.List.Memᴰ
use mathlib.Core.List.{List, [], ◌∷◌, Memᴰ}
use Prim.Native.Nat.{ℕ, suc, ◌+◌, ◌*◌, ◌<◌, ◌≤◌}
use native.Mathlib.Omega.{arith}
use native.Mathlib.Decide.{ℕ_discrete}
use native.Mathlib.Nat.{suc-mul, mul-le-mul_right}
use lib.Dec.{eqb, ltb}
use lib.ListN.{length, get_or, set, drop, length-set, drop_of_length-le}
use lib.Seq.{get_or-set_same, get_or-set_other}
use borrow.Author.Tests.{eq-eqb, ne_eqb, lt-ltb, le-ltb, eqb-true, ltb-true}
use Rattle.sets.proofs.Bools.{bif, and_l, and_r}
use Rattle.sets.proofs.Walks.{drop-next}
use Rattle.theory.specs.Run.{source_of, letter_of_lem, target_of}
use Rattle.table_runs.specs.Tracks.{entered_by, entered_all, LeadsIn}

-- ---- examples

-- over letter 1 from number 1 to number 0, which is marked; over letter 0 nothing
enters : entered_by 1 0 3 16842752 (0 ∷ 0 ∷ 0 ∷ 1 ∷ 0 ∷ 0 ∷ []) ≡ 0 ∷ 1 ∷ 0 ∷ 1 ∷ 0 ∷ 0 ∷ []
unfolding entered_by
enters = refl

enters-not : entered_by 0 0 3 16842752 (0 ∷ 0 ∷ 0 ∷ 1 ∷ 0 ∷ 0 ∷ []) ≡ 0 ∷ 0 ∷ 0 ∷ 1 ∷ 0 ∷ 0 ∷ []
unfolding entered_by
enters-not = refl

-- ---- the marks of one place

module _ (letter here there : ℕ) where
  abbrev by : ℕ → List ℕ → List ℕ
  by = entered_by letter here there

  -- ---- one transition

  pub by-other : (t : ℕ) (ms : List ℕ) → (letter_of_lem t ≡ letter → ⊥) → by t ms ≡ ms
  unfolding entered_by
  by-other t ms n = rw (ne_eqb (letter_of_lem t) letter n)

  pub by-unmarked : (t : ℕ) (ms : List ℕ) → letter_of_lem t ≡ letter → get_or ms (there + target_of t) 0 ≡ 0 → by t ms ≡ ms
  unfolding entered_by
  by-unmarked t ms e z = rw (eq-eqb (letter_of_lem t) letter e, le-ltb 0 (get_or ms (there + target_of t) 0) (omega arith))

  pub by-marked : (t : ℕ) (ms : List ℕ) → letter_of_lem t ≡ letter → 0 < get_or ms (there + target_of t) 0 → by t ms ≡ set ms (here + source_of t) 1
  unfolding entered_by
  by-marked t ms e l = rw (eq-eqb (letter_of_lem t) letter e, lt-ltb 0 (get_or ms (there + target_of t) 0) l)

  pub by_length : (t : ℕ) (ms : List ℕ) → length (by t ms) ≡ length ms
  unfolding entered_by
  by_length t ms = bif (eqb (letter_of_lem t) letter && ltb 0 (get_or ms (there + target_of t) 0)) (λ e. rw e (length-set ms (here + source_of t) 1)) (λ e. rw e refl)

  -- the transition leads from x to a marked node
  pub record Into (t : ℕ) (ms : List ℕ) (x : ℕ) : Type 0 where
    pub over : letter_of_lem t ≡ letter
    pub from : here + source_of t ≡ x
    pub marked : 0 < get_or ms (there + target_of t) 0

  by-stays : (t : ℕ) (ms : List ℕ) (x : ℕ) → (here + source_of t ≡ x → ⊥) → get_or (by t ms) x 0 ≡ get_or ms x 0
  unfolding entered_by
  by-stays t ms x n =
      bif (eqb (letter_of_lem t) letter && ltb 0 (get_or ms (there + target_of t) 0))
      (λ e. rw e (get_or-set_other ms (here + source_of t) x 1 0 (λ k. n (sym k))))
      (λ e. rw e refl)

  by_in : (t : ℕ) (ms : List ℕ) (x : ℕ) → here + source_of t < length ms → Into t ms x → 0 < get_or (by t ms) x 0
  by_in t ms x l i = rw (by-marked t ms i.over i.marked, sym i.from, get_or-set_same ms (here + source_of t) 1 0 l) (omega arith)

  by-none : (t : ℕ) (ms : List ℕ) → eqb (letter_of_lem t) letter && ltb 0 (get_or ms (there + target_of t) 0) ≡ false → by t ms ≡ ms
  unfolding entered_by
  by-none t ms e = rw e refl

  -- the transition leads into the node, or leaves its mark
  into-or-not : (t : ℕ) (ms : List ℕ) (x : ℕ) → Into t ms x ⊎ (get_or (by t ms) x 0 ≡ get_or ms x 0)
  into-or-not t ms x =
      let o = eqb (letter_of_lem t) letter in let m = ltb 0 (get_or ms (there + target_of t) 0) in
      bif (o && m)
      (λ e. by_cases (ℕ_discrete (here + source_of t) x)
      (λ f. inl (record { over = eqb-true (letter_of_lem t) letter (and_l o m e); from = f; marked = ltb-true 0 (get_or ms (there + target_of t) 0) (and_r o m e) }))
      (λ f. inr (by-stays t ms x f)))
      (λ e. inr (rw (by-none t ms e)))

  by-more : (t : ℕ) (ms : List ℕ) (x : ℕ) → here + source_of t < length ms → 0 < get_or ms x 0 → 0 < get_or (by t ms) x 0
  by-more t ms x l k = ⊎_elim (by_in t ms x l) (λ e. rw e k) (into-or-not t ms x)

  by_out : (t : ℕ) (ms : List ℕ) (x : ℕ) → 0 < get_or (by t ms) x 0 → (0 < get_or ms x 0) ⊎ Into t ms x
  by_out t ms x k = ⊎_elim (λ i. inr i) (λ (e : get_or (by t ms) x 0 ≡ get_or ms x 0). inl (rw e at k)) (into-or-not t ms x)

  -- ---- one after the other

  abbrev all : List ℕ → List ℕ → List ℕ
  all = entered_all letter here there

  pub all-next : (ts ms : List ℕ) (i : ℕ) → i < length ts → all (drop i ts) ms ≡ all (drop (i + 1) ts) (by (get_or ts i 0) ms)
  unfolding entered_all
  all-next ts ms i l = rw (drop-next ts i l) refl

  pub all_end : (ts ms : List ℕ) (i : ℕ) → length ts ≤ i → all (drop i ts) ms ≡ ms
  unfolding entered_all
  all_end ts ms i l = rw (drop_of_length-le ts {i = i} l) refl

  pub all-length : (ts ms : List ℕ) → length (all ts ms) ≡ length ms
  unfolding entered_all
  all-length [] ms = refl
  all-length (t ∷ ts) ms = all-length ts (by t ms) ∙ by_length t ms

  -- the sources lie below the targets, and among the marks
  abbrev Apart : List ℕ → List ℕ → Type 0
  Apart ts ms = (t : ℕ) → Memᴰ t ts → (here + source_of t < there) × (here + source_of t < length ms)

  pub all-stays : (ts ms : List ℕ) (x : ℕ) → ((t : ℕ) → Memᴰ t ts → here + source_of t ≡ x → ⊥) → get_or (all ts ms) x 0 ≡ get_or ms x 0
  unfolding entered_all
  all-stays [] ms x n = refl
  all-stays (t ∷ ts) ms x n = all-stays ts (by t ms) x (λ u m. n u (Memᴰ.tail m)) ∙ by-stays t ms x (n t (Memᴰ.head refl))

  all_more : (ts ms : List ℕ) (x : ℕ) → ((t : ℕ) → Memᴰ t ts → here + source_of t < length ms) → 0 < get_or ms x 0 → 0 < get_or (all ts ms) x 0
  unfolding entered_all
  all_more [] ms x l k = k
  all_more (t ∷ ts) ms x l k = all_more ts (by t ms) x (λ u m. rw (by_length t ms) (l u (Memᴰ.tail m))) (by-more t ms x (l t (Memᴰ.head refl)) k)

  -- what another transition marked is no target
  into-stays : (t u : ℕ) (ms : List ℕ) (x : ℕ) → here + source_of t < there → Into u ms x ↔ Into u (by t ms) x
  into-stays t u ms x l =
      let e : get_or (by t ms) (there + target_of u) 0 ≡ get_or ms (there + target_of u) 0 = by-stays t ms (there + target_of u) (λ k. absurd (omega arith)) in
      (λ i. record { over = i.over; from = i.from; marked = rw e i.marked }, λ i. record { over = i.over; from = i.from; marked = rw (sym e) i.marked })

  pub all_in : (ts ms : List ℕ) (x : ℕ) → Apart ts ms → (t : ℕ) → Memᴰ t ts → Into t ms x → 0 < get_or (all ts ms) x 0
  unfolding entered_all
  all_in [] ms x l t m i = absurd (Memᴰ.not-nil m)
  all_in (u ∷ ts) ms x l t m i =
      let h = l u (Memᴰ.head refl) in
      ⊎_elim
      (λ e. all_more ts (by u ms) x (λ v k. rw (by_length u ms) (l v (Memᴰ.tail k)).1) (by_in u ms x h.1 (rw e at i)))
      (λ k. all_in ts (by u ms) x (λ v j. let a = l v (Memᴰ.tail j) in (a.0, rw (by_length u ms) a.1)) t k ((into-stays u t ms x h.0).0 i))
      (Memᴰ.cases_cons m)

  pub all-out : (ts ms : List ℕ) (x : ℕ) → Apart ts ms → 0 < get_or (all ts ms) x 0 → (0 < get_or ms x 0) ⊎ ((t : ℕ) × Memᴰ t ts × Into t ms x)
  unfolding entered_all
  all-out [] ms x l k = inl k
  all-out (u ∷ ts) ms x l k =
      let h = l u (Memᴰ.head refl) in
      ⊎_elim
      (λ a. ⊎_elim (λ b. inl b) (λ i. inr (u, Memᴰ.head refl, i)) (by_out u ms x a))
      (λ (t, m, i). inr (t, Memᴰ.tail m, (into-stays u t ms x h.0).1 i))
      (all-out ts (by u ms) x (λ v j. let a = l v (Memᴰ.tail j) in (a.0, rw (by_length u ms) a.1)) k)

-- ---- the places of a lead-in, from the last to the first

module _ (n : ℕ) (lead ts old : List ℕ) where
  -- the places from p on are done
  pub record DoneFrom (p : ℕ) (ms : List ℕ) : Type 0 where
    pub long : length ms ≡ length old
    pub later : (x : ℕ) → length lead * n ≤ x → get_or ms x 0 ≡ get_or old x 0
    pub low : (x : ℕ) → x < p * n → get_or ms x 0 ≡ 0
    pub each : (q m : ℕ) → p ≤ q → q < length lead → m < n → (0 < get_or ms (q * n + m) 0) ↔ LeadsIn ts ms (get_or lead q 0) (suc q * n) m

  module _ (fits : length lead * n + n ≤ length old) (ends : (t : ℕ) → Memᴰ t ts → (source_of t < n) × (target_of t < n))
      (p : ℕ) (ms : List ℕ) (inside : p < length lead) (d : DoneFrom (suc p) ms) where
    abbrev new : List ℕ
    new = entered_all (get_or lead p 0) (p * n) (p * n + n) ts ms

    next : suc p * n ≡ p * n + n
    next = suc-mul p n

    below : suc p * n ≤ length lead * n
    below = mul-le-mul_right n inside

    within : (t : ℕ) → Memᴰ t ts → (p * n + source_of t < length ms) × (p * n + n + target_of t < length ms)
    within t m = let e = ends t m in let k = d.long in (omega (arith, next, below, e.0), omega (arith, next, below, e.1))

    apart : (t : ℕ) → Memᴰ t ts → (p * n + source_of t < p * n + n) × (p * n + source_of t < length ms)
    apart t m = let e = ends t m in (omega (arith, e.0), (within t m).0)

    behind : (x : ℕ) → suc p * n ≤ x → get_or new x 0 ≡ get_or ms x 0
    behind x l = all-stays (get_or lead p 0) (p * n) (p * n + n) ts ms x (λ t m e. let k = ends t m in absurd (omega (arith, next, k.0)))

    turn-each : (q m : ℕ) → p ≤ q → q < length lead → m < n → (0 < get_or new (q * n + m) 0) ↔ LeadsIn ts new (get_or lead q 0) (suc q * n) m
    turn-each q m l k low =
        by_cases (ℕ_discrete p q)
        (λ e. rw (sym e) (here_in m low, here_out m low))
        (λ e. there-each q m (omega arith) k low)
      where
        here_in : (m : ℕ) → m < n → 0 < get_or new (p * n + m) 0 → LeadsIn ts new (get_or lead p 0) (suc p * n) m
        here_in m low h =
            ⊎_elim
            (λ z. let e = d.low (p * n + m) (omega (arith, next)) in absurd (omega arith))
            (λ (t, listed, i). (t, listed, omega (arith, i.from), i.over, rw (behind (suc p * n + target_of t) (omega arith), next) i.marked))
            (all-out (get_or lead p 0) (p * n) (p * n + n) ts ms (p * n + m) apart h)

        here_out : (m : ℕ) → m < n → LeadsIn ts new (get_or lead p 0) (suc p * n) m → 0 < get_or new (p * n + m) 0
        here_out m low (t, listed, s, a, h) =
            all_in (get_or lead p 0) (p * n) (p * n + n) ts ms (p * n + m) apart t listed
            (record { over = a; from = ap (λ (k : ℕ). p * n + k) s; marked = rw (sym next, sym (behind (suc p * n + target_of t) (omega arith))) h })

        there-each : (q m : ℕ) → p < q → q < length lead → m < n → (0 < get_or new (q * n + m) 0) ↔ LeadsIn ts new (get_or lead q 0) (suc q * n) m
        there-each q m l k low =
            let a : suc p * n ≤ q * n = mul-le-mul_right n l in
            let b : suc p * n ≤ suc q * n = mul-le-mul_right n (omega arith) in
            let i = d.each q m (omega arith) k low in
            rw (behind (q * n + m) (omega arith)) (
              λ h. let (t, listed, s, x, y) = i.0 h in (t, listed, s, x, rw (behind (suc q * n + target_of t) (omega arith)) y),
              λ (t, listed, s, x, y). i.1 (t, listed, s, x, rw (sym (behind (suc q * n + target_of t) (omega arith))) y),
            )

    pub turn : DoneFrom p new
    turn = record {
      long = all-length (get_or lead p 0) (p * n) (p * n + n) ts ms ∙ d.long;
      later = λ x l. behind x (omega (arith, below)) ∙ d.later x l;
      low = λ x l. all-stays (get_or lead p 0) (p * n) (p * n + n) ts ms x (λ t m e. absurd (omega arith)) ∙ d.low x (omega (arith, next));
      each = turn-each;
    }
