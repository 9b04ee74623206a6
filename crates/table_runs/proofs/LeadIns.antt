-- A run over a lead-in and a cycle: its first step, and then a run over what is left.
use mathlib.Core.Path.{◌≡◌, refl, sym, ap, ◌∙◌}
use mathlib.Core.Bool.{true}
use mathlib.Core.Logic.{◌↔◌}
use mathlib.Core.List.{List, [], ◌∷◌, Memᴰ}
use Prim.Native.Nat.{ℕ, zero, suc, ◌+◌, ◌-◌, ◌*◌, ◌<◌}
use native.Mathlib.Omega.{arith}
use native.Mathlib.Numerals.{add-one}
use lib.ListN.{length, get_or, drop, drop_of_length-le}
use Rattle.sets.proofs.Walks.{drop-next}
use Rattle.theory.specs.Macrostate.{is_accepting_lem}
use Rattle.theory.specs.Run.{source_of, letter_of_lem, target_of, Leads}
use Rattle.theory.specs.Word.{letters}
use Rattle.theory_laws.proofs.Places.{letter-first, letter-behind}
use Rattle.table_runs.specs.Tracks.{TrackFrom, Tracked, Entered}

-- ---- the first step, and the word behind its first letter

module _ (a : ℕ) (lead cycle : List ℕ) (repeats : 0 < length cycle) (codes transitions : List ℕ) where
  -- the first transition of a run over a lead-in, and the run behind it
  pub behind : (m : ℕ) → TrackFrom codes transitions (a ∷ lead) cycle m → (t : ℕ) × Memᴰ t transitions × (source_of t ≡ m) × (letter_of_lem t ≡ a) × TrackFrom codes transitions lead cycle (target_of t)
  behind m (x, e, T) =
      let first = T.moves 0 in (
        first.0,
        first.1,
        first.2.source ∙ e,
        first.2.letter ∙ letter-first a lead cycle,
        (
          λ i. x (suc i),
          sym first.2.target,
          record {
            within = λ i. T.within (suc i);
            moves = λ i. let s = T.moves (suc i) in (s.0, s.1, record { source = s.2.source; letter = s.2.letter ∙ letter-behind a lead cycle repeats i; target = s.2.target });
            again = λ i.
                let s = T.again (suc i) in
                let j : suc (s.0 - 1) ≡ s.0 = omega (arith, s.1) in
                (s.0 - 1, omega (arith, s.1), ap (λ (k : ℕ). is_accepting_lem (get_or codes (x k) 0)) j ∙ s.2);
          },
        ),
      )

  abbrev before : ℕ → (ℕ → ℕ) → ℕ → ℕ
  before m x zero = m
  before m x (suc i) = x i

  pub in-front : (m : ℕ) → m < length codes → (t : ℕ) → Memᴰ t transitions → source_of t ≡ m → letter_of_lem t ≡ a → TrackFrom codes transitions lead cycle (target_of t) →
      TrackFrom codes transitions (a ∷ lead) cycle m
  in-front m low t listed s l (x, e, T) = (before m x, refl, record { within = within; moves = moves; again = again })
    where
      within : (i : ℕ) → before m x i < length codes
      within zero = low
      within (suc i) = T.within i

      moves : (i : ℕ) → (u : ℕ) × Memᴰ u transitions × Leads u (before m x i) (letters (a ∷ lead) cycle i) (before m x (suc i))
      moves zero = (t, listed, record { source = s; letter = l ∙ sym (letter-first a lead cycle); target = sym e })
      moves (suc i) = let r = T.moves i in (r.0, r.1, record { source = r.2.source; letter = r.2.letter ∙ sym (letter-behind a lead cycle repeats i); target = r.2.target })

      again : (i : ℕ) → (j : ℕ) × (i < j) × (is_accepting_lem (get_or codes (before m x j) 0) ≡ true)
      again i = let r = T.again i in (suc r.0, omega (arith, r.1), r.2)

-- ---- marks

module _ (codes transitions lead cycle old new : List ℕ) (repeats : 0 < length cycle) (targets : (t : ℕ) → Memᴰ t transitions → target_of t < length codes)
    (N : Entered (length codes) lead transitions old new)
    (solved : (m : ℕ) → m < length codes → (0 < get_or old (length lead * length codes + m) 0) ↔ TrackFrom codes transitions [] cycle m) where
  -- number m is marked at place p exactly if a run goes on from it there
  abbrev At : ℕ → ℕ → Type 0
  At p m = (0 < get_or new (p * length codes + m) 0) ↔ TrackFrom codes transitions (drop p lead) cycle m

  at-cycle : (m : ℕ) → m < length codes → At (length lead) m
  at-cycle m low = rw (N.later (length lead * length codes + m) (omega arith), drop_of_length-le lead {i = length lead} (omega arith)) (solved m low)

  at-lead : (p m : ℕ) → p < length lead → m < length codes → ((y : ℕ) → y < length codes → At (suc p) y) → At p m
  at-lead p m l low next =
      let i = N.each p m l low in
      rw (drop-next lead p l ∙ ap (λ (k : ℕ). get_or lead p 0 ∷ drop k lead) (add-one p)) (
        λ h. let (t, listed, s, a, k) = i.0 h in in-front _ _ _ repeats _ _ m low t listed s a ((next (target_of t) (targets t listed)).0 k),
        λ h. let (t, listed, s, a, k) = behind _ _ _ repeats _ _ m h in i.1 (t, listed, s, a, (next (target_of t) (targets t listed)).1 k),
      )

  -- d places before the cycle
  from_end : (d p m : ℕ) → p + d ≡ length lead → m < length codes → At p m
  from_end zero p m e low = let f : length lead ≡ p = omega (arith, e) in rw (sym f) (at-cycle m low)
  from_end (suc d) p m e low = at-lead p m (omega (arith, e)) low (λ y k. from_end d (suc p) y (omega (arith, e)) k)

  pub tracked : Tracked codes transitions lead cycle new
  tracked = record { marked = λ p m l low. from_end (length lead - p) p m (omega arith) low }
