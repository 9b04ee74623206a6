-- Marks raised, pruned and flagged again: those of nodes without an endless walk are gone, the others are those of their codes.
use mathlib.Core.Path.{◌≡◌, refl, sym, ap, ◌∙◌}
use mathlib.Core.Bool.{Bool, true}
use mathlib.Core.Logic.{◌⊎◌, inl, inr, ⊎_elim, by_cases}
use mathlib.Core.List.{List}
use Prim.Native.Nat.{ℕ, ◌%◌, ◌<◌, ◌≤◌}
use native.Mathlib.Omega.{arith}
use native.Mathlib.Decide.{ℕ_discrete}
use lib.ListN.{length, get_or}
use borrow.Author.Tests.{eq-eqb, ne_eqb}
use Rattle.sets.specs.Lists.{sum}
use Rattle.theory.specs.Macrostate.{is_accepting_lem}
use Rattle.graph_walks.specs.Walks.{Pruned}
use Rattle.graph_walks.specs.Rounds.{SolveRound}
use Rattle.graph_walks.proofs.Sums.{sum-le}
use Rattle.table_runs.specs.Tracks.{flag_of_lem, Flagged, Flags, raised, Raised, Begun, Thinned}
use Rattle.table_runs.proofs.Flagging.{flag-accepting, flag-low}

-- ---- one mark

pub raised-out : (v : ℕ) → v ≡ 0 → 0 ≡ raised v
unfolding raised
raised-out v e = rw (eq-eqb v 0 e)

pub raised-in : (v : ℕ) → (v ≡ 0 → ⊥) → 2 ≡ raised v
unfolding raised
raised-in v n = rw (ne_eqb v 0 n)

raised-cases : (v : ℕ) → (raised v ≡ 0) ⊎ (raised v ≡ 2)
raised-cases v = by_cases (ℕ_discrete v 0) (λ e. inl (sym (raised-out v e))) (λ n. inr (sym (raised-in v n)))

pub raised-two : {old new : List ℕ} → Raised old new → (x : ℕ) → (get_or new x 0 ≡ 0) ⊎ (get_or new x 0 ≡ 2)
raised-two {old} r x = ⊎_elim (λ e. inl (r.each x ∙ e)) (λ e. inr (r.each x ∙ e)) (raised-cases (get_or old x 0))

-- what the rounds begin with, and what they have made of it
abbrev pub Going : (ℕ → ℕ → Type 0) → List ℕ → List ℕ → ℕ → List ℕ → Type 0
Going E codes first round marks = ((round ≡ 0) × (marks ≡ first)) ⊎ Thinned E codes first marks

module _ {E : ℕ → ℕ → Type 0} {codes : List ℕ} where
  -- ---- one thinning

  -- none
  pub thinned-none : {round : ℕ} {marks : List ℕ} → (round ≡ 0 → ⊥) → Begun round codes marks → Thinned E codes marks marks
  thinned-none {marks = marks} n b = ⊎_elim (λ l. absurd (n l.0)) same b
    where
      same : Flags codes marks → Thinned E codes marks marks
      same f = record {
        long = refl;
        each = λ x. ⊎_elim (λ e. inl e) (λ e. inr (omega (arith, flag-low (get_or codes (x % length codes) 0)), e)) (f x);
        keeps = λ z w h a. h;
      }

  -- raised, pruned, flagged
  pub thinned : {old high thin new : List ℕ} → Raised old high → Pruned E high thin → Flagged codes thin new → Thinned E codes old new
  thinned {old} {thin = thin} R P F = record {
    long = F.long ∙ P.long ∙ R.long;
    each = λ x. by_cases (ℕ_discrete (get_or thin x 0) 0)
        (λ e. inl (F.outside x e))
        (λ n. inr (by_cases (ℕ_discrete (get_or old x 0) 0) (λ e. absurd (was-in x n e)) (λ d. omega arith), F.inside x n));
    keeps = λ z w h a i.
        let kept = P.keeps z w (λ j. let k = R.each (z j) ∙ sym (raised-in (get_or old (z j) 0) (λ e. absurd (omega (arith, h j)))) in omega arith) i in
        let e = F.inside (z i) (λ o. absurd (omega arith)) in
        omega (arith, flag-low (get_or codes (z i % length codes) 0));
  }
    where
      -- a node that is in after pruning was in before
      was-in : (x : ℕ) → (get_or thin x 0 ≡ 0 → ⊥) → get_or old x 0 ≡ 0 → ⊥
      was-in x n e = ⊎_elim n (λ k. n (k ∙ R.each x ∙ sym (raised-out (get_or old x 0) e))) (P.each x)

  -- marks only fall
  pub thinned-sum : {round : ℕ} {old new : List ℕ} → Begun round codes old → Thinned E codes old new → sum new ≤ sum old
  thinned-sum {old = old} {new} b t = sum-le new old t.long (λ x. ⊎_elim (λ e. omega arith) (λ e. omega (arith, flag x e.0, e.1)) (t.each x))
    where
      flag : (x : ℕ) → 0 < get_or old x 0 → flag_of_lem (get_or codes (x % length codes) 0) ≤ get_or old x 0
      flag x h =
          let m = flag-low (get_or codes (x % length codes) 0) in
          ⊎_elim
          (λ l. ⊎_elim (λ e. absurd (omega arith)) (λ e. omega arith) (l.1 x))
          (λ f. ⊎_elim (λ e. absurd (omega arith)) (λ e. omega arith) (f x))
          b

  -- ---- one after another

  pub thinned-flags : {old new : List ℕ} → Thinned E codes old new → Flags codes new
  thinned-flags t x = ⊎_elim (λ e. inl e) (λ e. inr e.1) (t.each x)

  pub thinned-low : {old new : List ℕ} → Thinned E codes old new → (x : ℕ) → get_or new x 0 ≤ 2
  thinned-low t x = ⊎_elim (λ e. omega arith) (λ e. omega (arith, flag-low (get_or codes (x % length codes) 0))) (thinned-flags t x)

  pub thinned-then : {old mid new : List ℕ} → Thinned E codes old mid → Thinned E codes mid new → Thinned E codes old new
  thinned-then t u = record {
    long = u.long ∙ t.long;
    each = λ x. ⊎_elim (λ e. inl e) (λ e. inr (⊎_elim (λ k. absurd (omega (arith, e.0))) (λ k. k.0) (t.each x), e.1)) (u.each x);
    keeps = λ z w h a. u.keeps z w (t.keeps z w h a) a;
  }

  -- a round takes nodes out
  pub thinned-round : {old mid new : List ℕ} {changed : Bool} → Thinned E codes old mid → SolveRound E mid new changed → Thinned E codes old new
  thinned-round {mid = mid} t r = record {
    long = r.long ∙ t.long;
    each = λ x. ⊎_elim (λ e. inl e) (λ e. ⊎_elim (λ k. inl (e ∙ k)) (λ k. inr (k.0, e ∙ k.1)) (t.each x)) (r.each x);
    keeps = λ z w h a. let g = t.keeps z w h a in r.keeps z w g (λ i. let (j, l, c) = a i in (j, l, accepting z g j c));
  }
    where
      accepting : (z : ℕ → ℕ) → ((i : ℕ) → 0 < get_or mid (z i) 0) → (j : ℕ) → is_accepting_lem (get_or codes (z j % length codes) 0) ≡ true → 1 < get_or mid (z j) 0
      accepting z g j c = ⊎_elim (λ e. absurd (omega (arith, g j))) (λ e. let k = flag-accepting (get_or codes (z j % length codes) 0) c in omega (arith, e.1)) (t.each (z j))

  -- ---- the rounds

  pub going-long : {first marks : List ℕ} {round : ℕ} → Going E codes first round marks → length marks ≡ length first
  going-long g = ⊎_elim (λ l. ap length l.1) (λ t. t.long) g

  pub going-begun : {first marks : List ℕ} {round : ℕ} → ((x : ℕ) → (get_or first x 0 ≡ 0) ⊎ (get_or first x 0 ≡ 2)) → Going E codes first round marks → Begun round codes marks
  going-begun two g = ⊎_elim (λ l. inl (l.0, rw l.1 two)) (λ t. inr (thinned-flags t)) g

  pub going-thinned : {first marks next : List ℕ} {round : ℕ} → Going E codes first round marks → Thinned E codes marks next → Thinned E codes first next
  going-thinned g u = ⊎_elim (λ l. rw l.1 at u) (λ t. thinned-then t u) g
