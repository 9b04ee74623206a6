-- The lists of the tidied rule: their lengths and members, and its entries, which are what stays of the rule's.
use mathlib.Core.Path.{◌≡◌, refl, sym, ◌∙◌, ap}
use mathlib.Core.Logic.{◌⊎◌, inl, inr, ⊎_elim}
use mathlib.Core.Bool.{Bool, true, false, cond}
use mathlib.Core.List.Memᴰ
use mathlib.Core.List.{List, [], ◌∷◌, ◌++◌, Memᴰ}
use Prim.Native.Nat.{ℕ, zero, suc, ◌+◌, ◌*◌, ◌≤◌}
use native.Mathlib.Omega.{arith}
use lib.Dec.{ltb}
use lib.ListN.{length, get_or, take, drop, length-append, length-take, take-append-drop}
use lib.Seq.{take-append_seam, drop-append-add, drop-drop}
use Rattle.sets.specs.Lists.{sum}
use Rattle.sets.proofs.Bools.{bif}
use Rattle.theory.specs.Rule.{Rule, entry}
use Rattle.rule_tidy_spec.specs.Tidy.{drops, tidy_from, tidy_entry_lem, tidy_counts, tidy_clauses, tidy_rule_lem}
use Rattle.rule_tidy_spec.proofs.Minimal.{tidy-drop, tidy-keep}

-- ---- parts of lists

pub mem-take : (k : ℕ) (xs : List ℕ) {x : ℕ} → Memᴰ x (take k xs) → Memᴰ x xs
mem-take k xs m = rw (take-append-drop k xs) at (Memᴰ.append_left (drop k xs) m)

pub mem-drop : (k : ℕ) (xs : List ℕ) {x : ℕ} → Memᴰ x (drop k xs) → Memᴰ x xs
mem-drop k xs m = rw (take-append-drop k xs) at (Memᴰ.append_right (take k xs) m)

-- the clauses of an entry are among the rule's
pub entry_listed : (r : Rule) (q a c : ℕ) → Memᴰ c (entry r q a) → Memᴰ c r.clauses
unfolding entry
entry_listed r q a c m =
    let i = q * r.s + a in part (ltb a r.s) (get_or r.counts i 0) (sum (take i r.counts)) m
  where
    part : (b : Bool) (k j : ℕ) → Memᴰ c (cond b (take k (drop j r.clauses)) []) → Memᴰ c r.clauses
    part true k j m = mem-drop j r.clauses (mem-take k (drop j r.clauses) m)
    part false k j m = absurd (Memᴰ.not-nil m)

-- ---- one entry

pub tidy-none : (n : ℕ) → tidy_entry_lem n [] ≡ []
tidy-none n = unfold tidy_entry_lem tidy_from in refl

-- what stays of cs, with what is kept: no more, and nothing else
from-length : (n : ℕ) (all kept cs : List ℕ) → length (tidy_from n all kept cs) ≤ length kept + length cs
unfolding tidy_from
from-length n all kept [] = omega arith
from-length n all kept (c ∷ cs) =
    bif (drops n all kept c)
    (λ t. let h = from-length n all kept cs in rw (tidy-drop n all kept c cs t) (omega arith))
    (λ t. let h = from-length n all (kept ++ (c ∷ [])) cs in let e = length-append kept (c ∷ []) in rw (tidy-keep n all kept c cs t) (omega arith))

from-listed : (n : ℕ) (all kept cs : List ℕ) (x : ℕ) → Memᴰ x (tidy_from n all kept cs) → Memᴰ x kept ⊎ Memᴰ x cs
unfolding tidy_from
from-listed n all kept [] x m = inl m
from-listed n all kept (c ∷ cs) x m =
    bif (drops n all kept c)
    (λ t. ⊎_elim (λ k. inl k) (λ k. inr (Memᴰ.tail k)) (from-listed n all kept cs x (rw (tidy-drop n all kept c cs t) at m)))
    (λ t. ⊎_elim
    (λ k. ⊎_elim (λ j. inl j) (λ j. inr (Memᴰ.head (Memᴰ.eq_of_singleton j))) (Memᴰ.append_cases kept k)) (λ k. inr (Memᴰ.tail k))
    (from-listed n all (kept ++ (c ∷ [])) cs x (rw (tidy-keep n all kept c cs t) at m)))

pub tidy-length : (n : ℕ) (cs : List ℕ) → length (tidy_entry_lem n cs) ≤ length cs
tidy-length n cs = unfold tidy_entry_lem in let h = from-length n cs [] cs in omega arith

pub tidy-listed : (n : ℕ) (cs : List ℕ) (x : ℕ) → Memᴰ x (tidy_entry_lem n cs) → Memᴰ x cs
tidy-listed n cs x m = unfold tidy_entry_lem in ⊎_elim (λ k. absurd (Memᴰ.not-nil k)) (λ k. k) (from-listed n cs [] cs x m)

-- ---- counts and clauses

module _ (n : ℕ) where
  pub counts-length : (counts clauses : List ℕ) → length (tidy_counts n counts clauses) ≡ length counts
  unfolding tidy_counts
  counts-length [] clauses = refl
  counts-length (k ∷ counts) clauses = ap suc (counts-length counts (drop k clauses))

  pub counts-sum : (counts clauses : List ℕ) → sum (tidy_counts n counts clauses) ≡ length (tidy_clauses n counts clauses)
  unfolding tidy_counts tidy_clauses sum
  counts-sum [] clauses = refl
  counts-sum (k ∷ counts) clauses =
      omega (arith, counts-sum counts (drop k clauses), length-append (tidy_entry_lem n (take k clauses)) (tidy_clauses n counts (drop k clauses)))

  pub clauses-listed : (counts clauses : List ℕ) (x : ℕ) → Memᴰ x (tidy_clauses n counts clauses) → Memᴰ x clauses
  unfolding tidy_clauses
  clauses-listed [] clauses x m = absurd (Memᴰ.not-nil m)
  clauses-listed (k ∷ counts) clauses x m =
      ⊎_elim (λ j. mem-take k clauses (tidy-listed n _ x j)) (λ j. mem-drop k clauses (clauses-listed counts _ x j)) (Memᴰ.append_cases _ m)

  -- an entry keeps at most as many clauses as it had
  part_length : (k : ℕ) (clauses : List ℕ) → length (tidy_entry_lem n (take k clauses)) ≤ k
  part_length k clauses = let a = tidy-length n (take k clauses) in let b = length-take k clauses in omega arith

  pub counts-few : (counts clauses : List ℕ) (b : ℕ) → ((x : ℕ) → Memᴰ x counts → x ≤ b) → (x : ℕ) → Memᴰ x (tidy_counts n counts clauses) → x ≤ b
  unfolding tidy_counts
  counts-few [] clauses b h x m = absurd (Memᴰ.not-nil m)
  counts-few (k ∷ counts) clauses b h x m =
      ⊎_elim (λ e. let l = part_length k clauses in let j = h k (Memᴰ.head refl) in omega arith)
      (λ j. counts-few counts (drop k clauses) b (λ y z. h y (Memᴰ.tail z)) x j)
      (Memᴰ.cases_cons m)

  pub clauses-length : (counts clauses : List ℕ) → length (tidy_clauses n counts clauses) ≤ sum counts
  unfolding tidy_clauses sum
  clauses-length [] clauses = omega arith
  clauses-length (k ∷ counts) clauses =
      let e = length-append (tidy_entry_lem n (take k clauses)) (tidy_clauses n counts (drop k clauses)) in
      omega (arith, clauses-length counts (drop k clauses), part_length k clauses)

  -- entry number i
  pub entry_at : (counts clauses : List ℕ) (i : ℕ)
      → take (get_or (tidy_counts n counts clauses) i 0) (drop (sum (take i (tidy_counts n counts clauses))) (tidy_clauses n counts clauses))
      ≡ tidy_entry_lem n (take (get_or counts i 0) (drop (sum (take i counts)) clauses))
  unfolding tidy_counts tidy_clauses sum
  entry_at [] clauses i = sym (tidy-none n)
  entry_at (k ∷ counts) clauses zero = take-append_seam (tidy_entry_lem n (take k clauses)) (tidy_clauses n counts (drop k clauses))
  entry_at (k ∷ counts) clauses (suc i) =
      let tidied = tidy_counts n counts (drop k clauses) in
      ap (take (get_or tidied i 0)) (drop-append-add (tidy_entry_lem n (take k clauses)) (tidy_clauses n counts (drop k clauses)) (sum (take i tidied)))
      ∙ entry_at counts (drop k clauses) i
      ∙ ap (λ (l : List ℕ). tidy_entry_lem n (take (get_or counts i 0) l)) (drop-drop (sum (take i counts)) k clauses)

-- The entry of state q at letter a of the tidied rule is what stays of the rule's entry.
pub entry-tidy : (r : Rule) (q a : ℕ) → entry (tidy_rule_lem r) q a ≡ tidy_entry_lem r.n (entry r q a)
unfolding entry tidy_rule_lem
entry-tidy r q a = bif (ltb a r.s) (λ t. rw t (entry_at r.n r.counts r.clauses (q * r.s + a))) (λ t. rw t (sym (tidy-none r.n)))
