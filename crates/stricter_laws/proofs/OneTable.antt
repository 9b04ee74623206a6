-- One table: where an endless walk from a number meets accepting numbers again and again, one from each number of its core does.
use mathlib.Core.Path.{◌≡◌, refl, sym, ap, ap₂, ◌∙◌}
use mathlib.Core.Logic.{⊎_elim}
use mathlib.Core.Bool.{Bool, true, false}
use mathlib.Core.List.{List, Memᴰ}
use Prim.Native.Nat.{ℕ, zero, suc, ◌+◌, ◌-◌, ◌≤◌, ◌<◌}
use native.Mathlib.Omega.{arith}
use native.Mathlib.Nat.{zero-add}
use lib.ListN.{length, get_or}
use Rattle.sets.specs.Tests.{one}
use Rattle.sets.proofs.Bools.{bif}
use Rattle.graph_walks.specs.Walks.{Walk, Solved}
use Rattle.graph_walks.proofs.Endless.{Endless, endless}
use Rattle.graph_walks.proofs.Sums.{has-place}
use Rattle.theory.specs.Macrostate.{is_accepting_lem}
use Rattle.theory.specs.Run.{source_of, letter_of_lem, target_of}
use Rattle.trim_spec.specs.Graph.{Step}
use Rattle.trim_spec.specs.Trimmed.{flags}
use Rattle.theory_laws.proofs.Sweeping.{flags-length, flags-at, flag-accepting, flag-in, accepting-flag}
use Rattle.stricter_spec.specs.Tables.{CoreTable}

module _ {codes moves : List ℕ} {n : ℕ} {core : ℕ → ℕ} {spare : ℕ → ℕ → Bool} (C : CoreTable codes moves n core spare) where
  abbrev accepts : ℕ → Bool
  accepts i = is_accepting_lem (get_or codes i 0)

  -- ---- a walk from another number of the core

  -- t are the transitions of a walk; i has the core of the number where it begins
  module _ (t : ℕ → ℕ) (listed : (k : ℕ) → Memᴰ (t k) moves) (joined : (k : ℕ) → target_of (t k) ≡ source_of (t (suc k)))
      (i : ℕ) (low : i < length codes) (same : core i ≡ core (source_of (t 0))) where
    -- a number of the core that the walk has come to
    record Beside (k : ℕ) : Type 0 where
      at : ℕ
      low-at : at < length codes
      same_at : core at ≡ core (source_of (t k))

    -- and a transition from there that goes as the walk's
    record Along (k : ℕ) (b : Beside k) : Type 0 where
      of : ℕ
      listed_of : Memᴰ of moves
      source : source_of of ≡ b.at
      letter : letter_of_lem of ≡ letter_of_lem (t k)
      target : core (target_of of) ≡ core (target_of (t k))

    along : (k : ℕ) (b : Beside k) → Along k b
    along k b =
        let (u, m, s, a, c) = C.lifts (t k) b.at (listed k) b.low-at b.same_at in
        record { of = u; listed_of = m; source = s; letter = a; target = c }

    abbrev onward : (k : ℕ) (b : Beside k) → Along k b → Beside (suc k)
    onward k b u = record { at = target_of u.of; low-at = C.inside.targets u.of u.listed_of; same_at = u.target ∙ ap core (joined k) }

    abbrev beside : (k : ℕ) → Beside k
    beside zero = record { at = i; low-at = low; same_at = same }
    beside (suc k) = onward k (beside k) (along k (beside k))

    abbrev at : ℕ → ℕ
    at k = (beside k).at

    abbrev u : ℕ → ℕ
    u k = (along k (beside k)).of

    u-listed : (k : ℕ) → Memᴰ (u k) moves
    u-listed k = (along k (beside k)).listed_of

    u-source : (k : ℕ) → source_of (u k) ≡ at k
    u-source k = (along k (beside k)).source

    u-target : (k : ℕ) → target_of (u k) ≡ at (suc k)
    u-target k = refl

    -- it spares what the walk spares
    alike : (k K : ℕ) → K < n → spare (u k) K ≡ spare (t k) K
    alike k K l =
        C.alike (u k) (t k) K (u-listed k) (listed k) (along k (beside k)).letter (ap core (u-source k) ∙ (beside k).same_at)
        (along k (beside k)).target l

    -- where each component is spared again and again, accepting numbers are met again and again
    module _ (again : (K : ℕ) → K < n → (k : ℕ) → (j : ℕ) × (k ≤ j) × (spare (t j) K ≡ true)) where
      -- an accepting number is met at step k or later
      Later : ℕ → Type 0
      Later k = (j : ℕ) × (k ≤ j) × (accepts (at j) ≡ true)

      later_more : (k m : ℕ) → k ≤ m → Later m → Later k
      unfolding Later
      later_more k m l (j, h, e) = (j, omega arith, e)

      -- a step between numbers that do not accept
      stays : (k : ℕ) → accepts (at k) ≡ false → accepts (at (suc k)) ≡ false
          → (C.component (at (suc k)) ≡ C.component (at k))
          × (C.left (at (suc k)) + one (spare (t k) (C.component (at k))) ≤ C.left (at k))
      stays k e f =
          let (c, l) = C.nears (u k) (u-listed k) (ap accepts (u-source k) ∙ e) (ap accepts (u-target k) ∙ f) in
          let K : ℕ = C.component (at k) in
          let s : C.component (source_of (u k)) ≡ K = ap C.component (u-source k) in
          let w : C.left (source_of (u k)) ≡ C.left (at k) = ap C.left (u-source k) in
          let a : one (spare (u k) (C.component (source_of (u k)))) ≡ one (spare (t k) K)
          = ap (λ (x : ℕ). one (spare (u k) x)) s ∙ ap one (alike k K (C.known (at k) (beside k).low-at)) in
          (c ∙ s, omega arith)

      -- b bounds what is left; below it an accepting number is met
      module _ (b : ℕ) (outer : (k : ℕ) → C.left (at k) < b → Later k) where
        -- d steps on the component at work is spared
        inner : (d k : ℕ) → C.left (at k) ≤ b → spare (t (d + k)) (C.component (at k)) ≡ true → Later k
        unfolding Later
        inner zero k l e =
            bif (accepts (at k)) (λ y. (k, omega arith, y))
            (λ no. bif (accepts (at (suc k))) (λ y. (suc k, omega arith, y))
            (λ still.
            let (c, m) = stays k no still in
            let o : one (spare (t k) (C.component (at k))) ≡ 1 = ap (λ (x : ℕ). one (spare (t x) (C.component (at k)))) (sym (zero-add k)) ∙ ap one e in
            later_more k (suc k) (omega arith) (outer (suc k) (omega arith))))
        inner (suc d) k l e =
            bif (accepts (at k)) (λ y. (k, omega arith, y))
            (λ no. bif (accepts (at (suc k))) (λ y. (suc k, omega arith, y))
            (λ still.
            let (c, m) = stays k no still in
            let p : d + suc k ≡ suc d + k = omega arith in
            let f : spare (t (d + suc k)) (C.component (at (suc k))) ≡ true = ap₂ (λ (x K : ℕ). spare (t x) K) p c ∙ e in
            later_more k (suc k) (omega arith) (inner d (suc k) (omega arith) f)))

      later : (b k : ℕ) → C.left (at k) < b → Later k
      later zero k l = absurd (omega arith)
      later (suc b) k l =
          let (j, h, e) = again (C.component (at k)) (C.known (at k) (beside k).low-at) k in
          let p : j - k + k ≡ j = omega arith in
          inner b (later b) (j - k) k (omega arith) (ap (λ (x : ℕ). spare (t x) (C.component (at k))) p ∙ e)

      later-on : (k : ℕ) → (j : ℕ) × (k < j) × (accepts (at j) ≡ true)
      unfolding Later
      later-on k = let (j, h, e) = later (suc (C.left (at (suc k)))) (suc k) (omega arith) in (j, omega arith, e)

  -- ---- numbers that are left where those without such a walk are taken out

  module _ {live : List ℕ} (S : Solved (Step moves) (flags codes) live) where
    live-low : (m : ℕ) → 0 < get_or live m 0 → m < length codes
    live-low m l = let e = S.long ∙ flags-length codes in let h = has-place live m l in omega arith

    live-accepts : (m : ℕ) → 1 < get_or live m 0 → accepts m ≡ true
    live-accepts m l =
        let e = ⊎_elim (λ z. absurd (omega arith)) (λ z. z) (S.each m) ∙ flags-at codes m (live-low m (omega arith)) in
        accepting-flag (get_or codes m 0) (omega arith)

    -- an endless walk that is again and again accepting stays
    pub walk-live : (x : ℕ → ℕ) → ((k : ℕ) → x k < length codes) → Walk (Step moves) x → ((k : ℕ) → (j : ℕ) × (k < j) × (accepts (x j) ≡ true))
        → (k : ℕ) → 0 < get_or live (x k) 0
    walk-live x low walk again =
        S.keeps x walk (λ k. rw (flags-at codes (x k) (low k)) (flag-in (get_or codes (x k) 0)))
        (λ k. let (j, l, e) = again k in
        (j, l, let f = flags-at codes (x j) (low j) in let g = flag-accepting (get_or codes (x j) 0) e in omega arith))

    -- of the numbers of one core all are left or none
    pub same_live : (i j : ℕ) → j < length codes → core j ≡ core i → 0 < get_or live i 0 → 0 < get_or live j 0
    same_live i j m c l =
        let same : core j ≡ core (source_of (t 0)) = c ∙ ap core (sym (source 0 ∙ W.begins)) in
        let again = C.again t listed joined (λ k. let (a, h, e) = W.again k in (a, h, ap accepts (source a) ∙ live-accepts (W.node a) e)) in
        walk-live (at t listed joined j m same) (λ k. (beside t listed joined j m same k).low-at)
        (λ k. record {
          transition = u t listed joined j m same k;
          listed = u-listed t listed joined j m same k;
          source = u-source t listed joined j m same k;
          target = u-target t listed joined j m same k;
        })
        (later-on t listed joined j m same again) 0
      where
        W : Endless (Step moves) live S.sound i
        W = endless (Step moves) live S.sound i l

        t : ℕ → ℕ
        t k = (W.walk k).transition

        listed : (k : ℕ) → Memᴰ (t k) moves
        listed k = (W.walk k).listed

        source : (k : ℕ) → source_of (t k) ≡ W.node k
        source k = (W.walk k).source

        joined : (k : ℕ) → target_of (t k) ≡ source_of (t (suc k))
        joined k = (W.walk k).target ∙ sym (source (suc k))
