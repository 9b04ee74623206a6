-- What a start and calls leave is the set worked out afresh over all letters since the start.
use mathlib.Core.Path.{◌≡◌, refl, sym, ap, ◌∙◌}
use mathlib.Core.List.{List, [], ◌∷◌, ◌++◌, append_assoc, append-nil}
use Prim.Native.Nat.{ℕ}
use lib.ListN.{length, take, drop}
use lib.Seq.{take_at}
use Rattle.theory.specs.Passing.{Passing}
use Rattle.theory.specs.Rule.{Rule}
use Rattle.trim_spec.specs.Graph.{Inside}
use Rattle.live_spec.specs.Afresh.{stepped_over, initial_set, afresh}
use Rattle.live_laws.proofs.Empty.{some_left, none_left, none-endless}
use Rattle.live_laws.proofs.Reached.{afresh-length, afresh-bytes, afresh-none, reached-iff}
use Rattle.follow_spec.specs.Set.{flags, reached}
use Rattle.follow_spec.specs.Followed.{FollowLeaves}
use Rattle.follow_laws.proofs.Cuts.{flags-same, over-append}

module _ (q : ℕ) (codes ts : List ℕ) where
  -- a call of what earlier letters left leaves what all letters lead to
  pub goes-afresh : (earlier letters set : List ℕ) → take (length codes) set ≡ afresh q codes ts earlier → reached (length codes) ts letters set ≡ afresh q codes ts (earlier ++ letters)
  unfolding reached afresh
  goes-afresh earlier letters set e =
      ap (stepped_over (length codes) ts letters) (flags-same (length codes) set (afresh q codes ts earlier) (afresh-length q codes ts earlier) (afresh-bytes q codes ts earlier) e)
      ∙ sym (over-append (length codes) ts earlier letters (initial_set q codes))

  -- ---- calls "of any number and any lengths"

  -- the slice after a call for each part
  pub after_calls : List (List ℕ) → List ℕ → List ℕ
  after_calls [] set = set
  after_calls (l ∷ ls) set = after_calls ls (reached (length codes) ts l set ++ drop (length codes) set)

  pub joined : List (List ℕ) → List ℕ
  joined [] = []
  joined (l ∷ ls) = l ++ joined ls

  pub calls-afresh : (parts : List (List ℕ)) (earlier set : List ℕ) → take (length codes) set ≡ afresh q codes ts earlier
      → take (length codes) (after_calls parts set) ≡ afresh q codes ts (earlier ++ joined parts)
  unfolding after_calls joined
  calls-afresh [] earlier set e = e ∙ ap (afresh q codes ts) (sym (append-nil earlier))
  calls-afresh (l ∷ ls) earlier set e =
      let left = goes-afresh earlier l set e in
      let front : take (length codes) (reached (length codes) ts l set ++ drop (length codes) set) ≡ afresh q codes ts (earlier ++ l) =
      take_at (reached (length codes) ts l set) (drop (length codes) set) (length codes) (ap (λ (x : List ℕ). length x) left ∙ afresh-length q codes ts (earlier ++ l)) ∙ left in
      calls-afresh ls (earlier ++ l) (reached (length codes) ts l set ++ drop (length codes) set) front
      ∙ ap (afresh q codes ts) (append_assoc earlier l (joined ls))

module _ (r : Rule) (P : Passing r) (codes ts : List ℕ) (inside : Inside (length codes) ts) where
  pub leaves : (letters set set' : List ℕ) → set' ≡ afresh r.initial codes ts letters ++ drop (length codes) set → FollowLeaves r codes ts letters set set'
  leaves letters set set' e = record {
    set_left = e;
    reached_over = λ y. reached-iff r codes ts inside.targets letters y;
    empty = λ T. none_left r P T.room codes ts T.lists letters;
    some_left = λ T. some_left r P T.room codes ts T.lists letters;
    empty_endless = λ T. none-endless r P T.room codes ts T.lists letters;
  }

  -- after a start
  pub leaves-start : (set set' : List ℕ) → set' ≡ initial_set r.initial codes ++ drop (length codes) set → FollowLeaves r codes ts [] set set'
  leaves-start set set' e = leaves [] set set' (e ∙ ap (λ (x : List ℕ). x ++ drop (length codes) set) (sym (afresh-none r.initial codes ts)))

  -- after a call
  pub leaves-on : (earlier letters set set' : List ℕ) → take (length codes) set ≡ afresh r.initial codes ts earlier
      → set' ≡ reached (length codes) ts letters set ++ drop (length codes) set → FollowLeaves r codes ts (earlier ++ letters) set set'
  leaves-on earlier letters set set' g e =
      leaves (earlier ++ letters) set set' (e ∙ ap (λ (x : List ℕ). x ++ drop (length codes) set) (goes-afresh r.initial codes ts earlier letters set g))
