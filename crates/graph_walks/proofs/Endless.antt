-- Where from each node that is in a walk leads to an accepting one, an endless walk goes on that is again and again accepting.
use mathlib.Core.Path.{◌≡◌, refl, ap, ◌∙◌}
use mathlib.Core.List.{List}
use Prim.Native.Nat.{ℕ, zero, suc, ◌+◌, ◌<◌}
use native.Mathlib.Omega.{arith}
use native.Mathlib.Nat.{zero-add, suc-add}
use lib.ListN.{get_or}
use Rattle.graph_walks.specs.Walks.{Walk, Toward}
use Rattle.graph_walks.specs.Walks.Toward.{arrives, passes}

module _ (E : ℕ → ℕ → Type 0) (marks : List ℕ) (sound : (x : ℕ) → 0 < get_or marks x 0 → Toward E marks x) where
  -- a node that is in, and the walk from it
  pub record Stand : Type 0 where
    pub at : ℕ
    pub stays : 0 < get_or marks at 0
    pub toward : Toward E marks at

  abbrev go : {x : ℕ} → Toward E marks x → Stand
  go (arrives y e l) = record { at = y; stays = omega arith; toward = sound y (omega arith) }
  go (passes y e l t) = record { at = y; stays = l; toward = t }

  go-edge : {x : ℕ} (t : Toward E marks x) → E x (go t).at
  go-edge (arrives y e l) = e
  go-edge (passes y e l t) = e

  abbrev after : ℕ → Stand → Stand
  after zero s = s
  after (suc i) s = after i (go s.toward)

  after-add : (i k : ℕ) (s : Stand) → after (i + k) s ≡ after k (after i s)
  after-add zero k s = ap (λ (n : ℕ). after n s) (zero-add k)
  after-add (suc i) k s = ap (λ (n : ℕ). after n s) (suc-add i k) ∙ after-add i k (go s.toward)

  after_next : (i : ℕ) (s : Stand) → after (suc i) s ≡ go (after i s).toward
  after_next zero s = refl
  after_next (suc i) s = after_next i (go s.toward)

  arrival : {x : ℕ} (l : 0 < get_or marks x 0) (t : Toward E marks x) → (d : ℕ) × (1 < get_or marks (after (suc d) (record { at = x; stays = l; toward = t })).at 0)
  arrival l (arrives y e a) = let accepts : 1 < get_or marks y 0 = omega arith in (0, accepts)
  arrival l (passes y e m t) = let r = arrival m t in (suc r.0, r.1)

  pub record Endless (m : ℕ) : Type 0 where
    pub node : ℕ → ℕ
    pub begins : node 0 ≡ m
    pub walk : Walk E node
    pub stays : (i : ℕ) → 0 < get_or marks (node i) 0
    pub again : (i : ℕ) → (j : ℕ) × (i < j) × (1 < get_or marks (node j) 0)

  pub endless : (m : ℕ) → 0 < get_or marks m 0 → Endless m
  endless m l = record {
    node = λ i. (after i s).at;
    begins = refl;
    walk = λ i. rw (after_next i s) (go-edge (after i s).toward);
    stays = λ i. (after i s).stays;
    again = λ i. let r = arrival (after i s).stays (after i s).toward in (i + suc r.0, omega arith, rw (after-add i (suc r.0) s) r.1);
  }
    where
      s : Stand
      s = record { at = m; stays = l; toward = sound m l }
