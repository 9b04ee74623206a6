-- What stays of an entry: the minimal clauses, each at its first place, in their order.
use mathlib.Core.Path.{◌≡◌, refl, sym, ◌∙◌, ap}
use mathlib.Core.Logic.{◌↔◌, ⊎_elim, by_cases}
use mathlib.Core.Bool.{true, false, ◌&&◌, not, or-true}
use mathlib.Core.List.{List, [], ◌∷◌, ◌++◌, append_assoc, append-nil, Memᴰ}
use Prim.Native.Nat.{ℕ, zero, suc, ◌^◌, ◌<◌}
use native.Mathlib.Omega.{arith}
use native.Mathlib.Decide.{ℕ_discrete}
use lib.ListN.{length, get_or}
use Rattle.sets.specs.Tests.{Set}
use Rattle.sets.specs.Masks.{bit}
use Rattle.sets.specs.Lists.{any_of, among}
use Rattle.sets.proofs.Bools.{bif, clash, and_l, and_r, and_i, not_t, not_f, iff}
use Rattle.sets.proofs.Lists.{any-in, any_out, any_none, none_any, among_in, among-out, among-no, no-among, mem-at}
use Rattle.theory.specs.Rule.{satisfies}
use Rattle.file_spec.proofs.Clauses.{met-out, met-in, inside-trans}
use Rattle.rule_tidy_spec.specs.Tidy.{contains, properly_contains, drops, tidy_from, tidy_entry_lem, minimal, first_minimal}
use Rattle.rule_tidy_spec.proofs.Contains.{contains-refl, contains-antisym, properly-out, not-properly, properly-lt}

-- ---- one clause more

pub tidy-drop : (n : ℕ) (all kept : List ℕ) (c : ℕ) (cs : List ℕ) → drops n all kept c ≡ true → tidy_from n all kept (c ∷ cs) ≡ tidy_from n all kept cs
tidy-drop n all kept c cs e = unfold tidy_from in rw (e, tidy_from)

pub tidy-keep : (n : ℕ) (all kept : List ℕ) (c : ℕ) (cs : List ℕ) → drops n all kept c ≡ false → tidy_from n all kept (c ∷ cs) ≡ tidy_from n all (kept ++ (c ∷ [])) cs
tidy-keep n all kept c cs e = unfold tidy_from in rw (e, tidy_from)

first-drop : (n : ℕ) (all seen : List ℕ) (c : ℕ) (cs : List ℕ) → (minimal n all c && not (among seen c)) ≡ false → first_minimal n all seen (c ∷ cs) ≡ first_minimal n all (c ∷ seen) cs
first-drop n all seen c cs e = unfold first_minimal in rw (e, first_minimal)

pub first-keep : (n : ℕ) (all seen : List ℕ) (c : ℕ) (cs : List ℕ) → (minimal n all c && not (among seen c)) ≡ true → first_minimal n all seen (c ∷ cs) ≡ c ∷ first_minimal n all (c ∷ seen) cs
first-keep n all seen c cs e = unfold first_minimal in rw (e, first_minimal)

-- ---- minimal clauses

-- a minimal clause contains no clause of the entry properly
pub minimal-out : (n : ℕ) (all : List ℕ) (c d : ℕ) → minimal n all c ≡ true → Memᴰ d all → properly_contains n c d ≡ false
minimal-out n all c d e m = unfold minimal in any_none all (properly_contains n c) d (not_t (any_of all (properly_contains n c)) e) m

pub minimal-in : (n : ℕ) (all : List ℕ) (c : ℕ) → ((d : ℕ) → Memᴰ d all → properly_contains n c d ≡ false) → minimal n all c ≡ true
minimal-in n all c h = unfold minimal in ap not (none_any all (properly_contains n c) h)

-- of the clauses of the entry all, over n states
module _ (n : ℕ) (all : List ℕ) (small : (c : ℕ) → Memᴰ c all → c < 2 ^ n) where
  -- kept are the minimal clauses among those seen
  record Kept (seen kept : List ℕ) : Type 0 where
    listed : (x : ℕ) → Memᴰ x seen → Memᴰ x all
    from : (x : ℕ) → Memᴰ x kept → Memᴰ x seen
    least : (x : ℕ) → Memᴰ x seen → minimal n all x ≡ true → Memᴰ x kept

  -- a minimal clause that contains a clause of the entry is that clause
  pub minimal-only : (c d : ℕ) → Memᴰ c all → Memᴰ d all → minimal n all c ≡ true → contains n c d ≡ true → c ≡ d
  minimal-only c d k l e h = contains-antisym n c d (small c k) (small d l) h (not-properly n c d (minimal-out n all c d e l) h)

  -- the clause c, in the three cases
  drops-large : (kept : List ℕ) (c : ℕ) → minimal n all c ≡ false → drops n all kept c ≡ true
  unfolding drops minimal
  drops-large kept c e = rw (not_f (any_of all (properly_contains n c)) e) (or-true (any_of kept (contains n c)))

  drops-copy : (kept : List ℕ) (c : ℕ) → Memᴰ c kept → drops n all kept c ≡ true
  drops-copy kept c m = unfold drops in rw (any-in kept (contains n c) c m (contains-refl n c))

  keeps-first : (seen kept : List ℕ) (c : ℕ) → Kept seen kept → Memᴰ c all → minimal n all c ≡ true → among seen c ≡ false → drops n all kept c ≡ false
  unfolding drops minimal
  keeps-first seen kept c K m e a =
      rw (none_any kept (contains n c) (λ x k. bif (contains n c x)
      (λ t. let s = K.from x k in absurd (no-among seen c a (rw (sym (minimal-only c x m (K.listed x s) e t)) at s)))
      (λ t. t)))
      (not_t (any_of all (properly_contains n c)) e)

  seen_more : (seen kept : List ℕ) (c : ℕ) → Kept seen kept → Memᴰ c all → (minimal n all c ≡ true → Memᴰ c kept) → Kept (c ∷ seen) kept
  seen_more seen kept c K m h = record {
    listed = λ x k. ⊎_elim (λ p. rw p m) (λ j. K.listed x j) (mathlib.Core.List.Memᴰ.cases_cons k);
    from = λ x k. mathlib.Core.List.Memᴰ.tail (K.from x k);
    least = λ x k e. ⊎_elim (λ p. rw p (h (rw p at e))) (λ j. K.least x j e) (mathlib.Core.List.Memᴰ.cases_cons k);
  }

  kept_more : (seen kept : List ℕ) (c : ℕ) → Kept seen kept → Memᴰ c all → Kept (c ∷ seen) (kept ++ (c ∷ []))
  kept_more seen kept c K m = record {
    listed = λ x k. ⊎_elim (λ p. rw p m) (λ j. K.listed x j) (mathlib.Core.List.Memᴰ.cases_cons k);
    from = λ x k. ⊎_elim (λ j. mathlib.Core.List.Memᴰ.tail (K.from x j)) (λ j. mathlib.Core.List.Memᴰ.head (mathlib.Core.List.Memᴰ.eq_of_singleton j)) (mathlib.Core.List.Memᴰ.append_cases kept k);
    least = λ x k e. ⊎_elim (λ p. mathlib.Core.List.Memᴰ.append_right kept (mathlib.Core.List.Memᴰ.head p)) (λ j. mathlib.Core.List.Memᴰ.append_left (c ∷ []) (K.least x j e)) (mathlib.Core.List.Memᴰ.cases_cons k);
  }

  walk : (seen kept cs : List ℕ) → Kept seen kept → ((x : ℕ) → Memᴰ x cs → Memᴰ x all) → tidy_from n all kept cs ≡ kept ++ first_minimal n all seen cs
  unfolding tidy_from first_minimal
  walk seen kept [] K h = sym (append-nil kept)
  walk seen kept (c ∷ cs) K h =
      let m = h c (mathlib.Core.List.Memᴰ.head refl) in
      let t : (x : ℕ) → Memᴰ x cs → Memᴰ x all = λ x k. h x (mathlib.Core.List.Memᴰ.tail k) in
      bif (minimal n all c)
      (λ e. bif (among seen c)
      (λ a. let k = K.least c (among-out seen c a) e in
      tidy-drop n all kept c cs (drops-copy kept c k) ∙ walk (c ∷ seen) kept cs (seen_more seen kept c K m (λ z. k)) t
      ∙ ap (λ (l : List ℕ). kept ++ l) (sym (first-drop n all seen c cs (rw (e, a)))))
      (λ a. tidy-keep n all kept c cs (keeps-first seen kept c K m e a)
      ∙ walk (c ∷ seen) (kept ++ (c ∷ [])) cs (kept_more seen kept c K m) t ∙ append_assoc kept (c ∷ []) (first_minimal n all (c ∷ seen) cs)
      ∙ ap (λ (l : List ℕ). kept ++ l) (sym (first-keep n all seen c cs (rw (e, a))))))
      (λ e. tidy-drop n all kept c cs (drops-large kept c e)
      ∙ walk (c ∷ seen) kept cs (seen_more seen kept c K m (λ z. clash z e)) t
      ∙ ap (λ (l : List ℕ). kept ++ l) (sym (first-drop n all seen c cs (rw e))))

  -- The clauses that stay are exactly the minimal ones, each at its first place, in their order.
  pub tidy-minimal : tidy_entry_lem n all ≡ first_minimal n all [] all
  unfolding tidy_entry_lem
  tidy-minimal = walk [] [] all (record { listed = λ x k. absurd (mathlib.Core.List.Memᴰ.not-nil k); from = λ x k. k; least = λ x k e. k }) (λ x k. k)

-- ---- members of what stays

pub first_out : (n : ℕ) (all seen cs : List ℕ) (x : ℕ) → Memᴰ x (first_minimal n all seen cs) → Memᴰ x cs × (minimal n all x ≡ true) × (among seen x ≡ false)
unfolding first_minimal among
first_out n all seen [] x m = absurd (mathlib.Core.List.Memᴰ.not-nil m)
first_out n all seen (c ∷ cs) x m =
    bif (minimal n all c && not (among seen c))
    (λ t. ⊎_elim
    (λ p. (mathlib.Core.List.Memᴰ.head p, rw p (and_l (minimal n all c) (not (among seen c)) t), rw p (not_t (among seen c) (and_r (minimal n all c) (not (among seen c)) t))))
    (λ k. later c (first_out n all (c ∷ seen) cs x k))
    (mathlib.Core.List.Memᴰ.cases_cons (rw (first-keep n all seen c cs t) at m)))
    (λ t. later c (first_out n all (c ∷ seen) cs x (rw (first-drop n all seen c cs t) at m)))
  where
    later : (c : ℕ) → Memᴰ x cs × (minimal n all x ≡ true) × (among (c ∷ seen) x ≡ false) → Memᴰ x (c ∷ cs) × (minimal n all x ≡ true) × (among seen x ≡ false)
    later c r = (mathlib.Core.List.Memᴰ.tail r.0, r.1, among-no seen x (λ k. no-among (c ∷ seen) x r.2 (mathlib.Core.List.Memᴰ.tail k)))

pub first-in : (n : ℕ) (all seen cs : List ℕ) (x : ℕ) → Memᴰ x cs → minimal n all x ≡ true → among seen x ≡ false → Memᴰ x (first_minimal n all seen cs)
unfolding first_minimal
first-in n all seen [] x m e a = absurd (mathlib.Core.List.Memᴰ.not-nil m)
first-in n all seen (c ∷ cs) x m e a =
    by_cases (ℕ_discrete x c)
    (λ p. rw (first-keep n all seen c cs (and_i (rw p at e) (ap not (rw p at a)))) (mathlib.Core.List.Memᴰ.head p))
    (λ p. let k : Memᴰ x cs = ⊎_elim (λ q. absurd (p q)) (λ j. j) (mathlib.Core.List.Memᴰ.cases_cons m) in
    let b : among (c ∷ seen) x ≡ false = among-no (c ∷ seen) x (λ z. ⊎_elim (λ q. p q) (no-among seen x a) (mathlib.Core.List.Memᴰ.cases_cons z)) in
    let r = first-in n all (c ∷ seen) cs x k e b in
    bif (minimal n all c && not (among seen c))
    (λ t. rw (first-keep n all seen c cs t) (mathlib.Core.List.Memᴰ.tail r))
    (λ t. rw (first-drop n all seen c cs t) r))

-- no clause stays twice
pub first-distinct : (n : ℕ) (all seen cs : List ℕ) (i j : ℕ) → i < j → j < length (first_minimal n all seen cs)
    → get_or (first_minimal n all seen cs) i 0 ≡ get_or (first_minimal n all seen cs) j 0 → ⊥
unfolding first_minimal
first-distinct n all seen [] i j l m e = absurd (omega arith)
first-distinct n all seen (c ∷ cs) i j l m e =
    bif (minimal n all c && not (among seen c))
    (λ t. let f = first-keep n all seen c cs t in
    place c (first_minimal n all (c ∷ seen) cs)
    (λ x y k p. first-distinct n all (c ∷ seen) cs x y k p)
    (λ k. clash (among_in (c ∷ seen) c (mathlib.Core.List.Memᴰ.head refl)) (first_out n all (c ∷ seen) cs c k).2)
    i j l (rw f at m) (rw f at e))
    (λ t. let f = first-drop n all seen c cs t in first-distinct n all (c ∷ seen) cs i j l (rw f at m) (rw f at e))
  where
    place : (c : ℕ) (xs : List ℕ) → ((i j : ℕ) → i < j → j < length xs → get_or xs i 0 ≡ get_or xs j 0 → ⊥) → (Memᴰ c xs → ⊥)
        → (i j : ℕ) → i < j → j < length (c ∷ xs) → get_or (c ∷ xs) i 0 ≡ get_or (c ∷ xs) j 0 → ⊥
    place c xs h n i zero l m e = absurd (omega arith)
    place c xs h n zero (suc j) l m e = n (rw (sym e) at (mem-at xs j (omega arith)))
    place c xs h n (suc i) (suc j) l m e = h i j (omega arith) (omega arith) e

-- ---- what stays of an entry over n states
module _ (n : ℕ) (cs : List ℕ) (small : (c : ℕ) → Memᴰ c cs → c < 2 ^ n) where
  -- a clause stays exactly if it is one of the entry's minimal clauses
  pub tidy-member : (c : ℕ) → Memᴰ c (tidy_entry_lem n cs) ↔ (Memᴰ c cs × (minimal n cs c ≡ true))
  unfolding among
  tidy-member c = (
    λ m. let r = first_out n cs [] cs c (rw (tidy-minimal n cs small) at m) in (r.0, r.1),
    λ r. rw (tidy-minimal n cs small) (first-in n cs [] cs c r.0 r.1 refl),
  )

  -- each clause contains one that stays
  below : (k c : ℕ) → c < k → Memᴰ c cs → (d : ℕ) × Memᴰ d (tidy_entry_lem n cs) × (contains n c d ≡ true)
  unfolding minimal
  below zero c l m = absurd (omega arith)
  below (suc k) c l m =
      bif (minimal n cs c)
      (λ t. (c, (tidy-member c).1 (m, t), contains-refl n c))
      (λ t. let r = any_out cs (properly_contains n c) (not_f _ t) in
      let p = properly-lt n c r.0 (small r.0 r.1) r.2 in
      let b = below k r.0 (omega arith) r.1 in
      (b.0, b.1, inside-trans n (bit c) r.0 b.0 (properly-out n c r.0 r.2).0 b.2))

  pub tidy-under : (c : ℕ) → Memᴰ c cs → (d : ℕ) × Memᴰ d (tidy_entry_lem n cs) × (contains n c d ≡ true)
  tidy-under c m = below (suc c) c (omega arith) m

  -- The same sets satisfy the entry and what stays of it.
  pub tidy-satisfies : (X : Set) → satisfies n X (tidy_entry_lem n cs) ≡ satisfies n X cs
  tidy-satisfies X =
      iff (satisfies n X (tidy_entry_lem n cs)) (satisfies n X cs)
      (λ e. let r = met-out n X (tidy_entry_lem n cs) e in met-in n X cs r.0 ((tidy-member r.0).0 r.1).0 r.2)
      (λ e. let r = met-out n X cs e in
      let d = tidy-under r.0 r.1 in
      met-in n X (tidy_entry_lem n cs) d.0 d.1 (inside-trans n X r.0 d.0 r.2 d.2))
