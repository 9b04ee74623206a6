-- The list of the reached is just that.
use mathlib.Core.Path.{◌≡◌, ◌∙◌}
use mathlib.Core.Logic.{◌⊎◌, inl, inr, ⊎_elim, ◌↔◌}
use mathlib.Core.Bool.{Bool, true, or-true}
use mathlib.Core.List.{List, Memᴰ}
use Prim.Native.Nat.{ℕ, zero, suc, ◌<◌}
use lib.ListN.{length, get_or}
use Rattle.sets.specs.Lists.{among, any_of, Ascending}
use Rattle.sets.specs.Tests.{Set}
use Rattle.sets.proofs.Bools.{iff, or_cases}
use Rattle.sets.proofs.Growth.{still}
use Rattle.sets.proofs.Lists.{among_in, among-out, any-in, any_out, keep-in, keep_out, place_of}
use Rattle.sets.proofs.Ascending.{sorted-asc, sorted-in, sorted-out}
use Rattle.theory.specs.TableComputed.{reached_in, reached}

-- the members of a list that are reached from its starts along the edges
pub data Along (all : List ℕ) (start : Set) (edge : ℕ → ℕ → Bool) : ℕ → Type 0 where
  starts : {c : ℕ} → Memᴰ c all → start c ≡ true → Along all start edge c
  follows : {x c : ℕ} → Along all start edge x → Memᴰ c all → edge x c ≡ true → Along all start edge c

module _ (all : List ℕ) (start : Set) (edge : ℕ → ℕ → Bool) where
  next-in : (d c : ℕ) → Memᴰ c all → Memᴰ c (reached_in all start edge d) ⊎ ((x : ℕ) × Memᴰ x (reached_in all start edge d) × (edge x c ≡ true)) →
      Memᴰ c (reached_in all start edge (suc d))
  unfolding reached_in
  next-in d c m h = keep-in _ all c m (⊎_elim
      (λ k. rw (among_in (reached_in all start edge d) c k))
      (λ k. rw (any-in (reached_in all start edge d) (λ x. edge x c) k.0 k.1 k.2, or-true (among (reached_in all start edge d) c))) h)

  next-out : (d c : ℕ) → Memᴰ c (reached_in all start edge (suc d)) →
      Memᴰ c all × (Memᴰ c (reached_in all start edge d) ⊎ ((x : ℕ) × Memᴰ x (reached_in all start edge d) × (edge x c ≡ true)))
  unfolding reached_in
  next-out d c m =
      let r = keep_out _ all c m in (
        r.0,
        ⊎_elim (λ e. inl (among-out (reached_in all start edge d) c e)) (λ e. inr (any_out (reached_in all start edge d) (λ x. edge x c) e))
            (or_cases (among (reached_in all start edge d) c) (any_of (reached_in all start edge d) (λ x. edge x c)) r.1),
      )

  listed : (d c : ℕ) → Memᴰ c (reached_in all start edge d) → Memᴰ c all
  unfolding reached_in
  listed zero c m = (keep_out start all c m).0
  listed (suc d) c m = (next-out d c m).0

  sound : (d c : ℕ) → Memᴰ c (reached_in all start edge d) → Along all start edge c
  unfolding reached_in
  sound zero c m = let r = keep_out start all c m in starts r.0 r.1
  sound (suc d) c m = let r = next-out d c m in ⊎_elim (λ k. sound d c k) (λ k. follows (sound d k.0 k.1) r.0 k.2) r.1

  grows : (d c : ℕ) → Memᴰ c (reached_in all start edge d) → Memᴰ c (reached_in all start edge (suc d))
  grows d c m = next-in d c (listed d c m) (inl m)

  -- if round d added nothing, the next adds nothing
  module _ (d : ℕ) (h : (x : ℕ) → x < length all → among (reached_in all start edge d) (get_or all x 0) ≡ among (reached_in all start edge (suc d)) (get_or all x 0)) where
    older : (c : ℕ) → Memᴰ c (reached_in all start edge (suc d)) → Memᴰ c (reached_in all start edge d)
    older c m =
        let p = place_of all c (listed (suc d) c m) in
        among-out (reached_in all start edge d) c (rw p.2 at (h p.0 p.1 ∙ among_in (reached_in all start edge (suc d)) (get_or all p.0 0) (rw p.2 m)))

    det : (x : ℕ) → x < length all → among (reached_in all start edge (suc d)) (get_or all x 0) ≡ among (reached_in all start edge (suc (suc d))) (get_or all x 0)
    det x l =
        iff _ _
        (λ t. among_in (reached_in all start edge (suc (suc d))) (get_or all x 0) (grows (suc d) (get_or all x 0) (among-out (reached_in all start edge (suc d)) (get_or all x 0) t)))
        (λ t. let r = next-out (suc d) (get_or all x 0) (among-out (reached_in all start edge (suc (suc d))) (get_or all x 0) t) in
        among_in (reached_in all start edge (suc d)) (get_or all x 0) (next-in d (get_or all x 0) r.0 (⊎_elim (λ k. inl (older (get_or all x 0) k)) (λ k. inr (k.0, older k.0 k.1, k.2)) r.1)))

  -- nothing is new after as many rounds as the list is long
  rest : (c : ℕ) → Memᴰ c (reached_in all start edge (suc (length all))) → Memᴰ c (reached_in all start edge (length all))
  rest c m =
      let p = place_of all c (listed (suc (length all)) c m) in
      let e = still (length all) (λ d x. among (reached_in all start edge d) (get_or all x 0))
      (λ d x l t. among_in (reached_in all start edge (suc d)) (get_or all x 0) (grows d (get_or all x 0) (among-out (reached_in all start edge d) (get_or all x 0) t)))
      det p.0 p.1 in
      among-out (reached_in all start edge (length all)) c (rw p.2 at (e ∙ among_in (reached_in all start edge (suc (length all))) (get_or all p.0 0) (rw p.2 m)))

  first-in : (d c : ℕ) → Memᴰ c all → start c ≡ true → Memᴰ c (reached_in all start edge d)
  unfolding reached_in
  first-in zero c m e = keep-in start all c m e
  first-in (suc d) c m e = grows d c (first-in d c m e)

  complete : {c : ℕ} → Along all start edge c → Memᴰ c (reached_in all start edge (length all))
  complete (starts {c = c} m e) = first-in (length all) c m e
  complete (follows {x = x} {c = c} r m e) = rest c (next-in (length all) c m (inr (x, complete r, e)))

  pub reached-iff : (c : ℕ) → Memᴰ c (reached all start edge) ↔ Along all start edge c
  unfolding reached
  reached-iff c = (λ m. sound (length all) c (sorted-out _ c m), λ r. sorted-in _ c (complete r))

  pub reached-asc : Ascending (reached all start edge)
  unfolding reached
  reached-asc = sorted-asc (reached_in all start edge (length all))
