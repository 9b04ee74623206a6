-- The tidied rule accepts from the same pairs by plans, on words of any length, so its truth masks are the rule's.
use mathlib.Core.Path.{◌≡◌, refl, sym, ◌∙◌}
use mathlib.Core.Logic.{◌↔◌, ⊎_elim}
use mathlib.Core.Bool.{true, cond}
use mathlib.Core.List.Memᴰ
use mathlib.Core.List.{List, [], ◌∷◌, Memᴰ}
use Prim.Native.Nat.{ℕ, ◌^◌, ◌<◌}
use native.Mathlib.Omega.{arith}
use lib.ListN.{get_or}
use lib.Seq.{ext_get_or}
use Rattle.sets.specs.Masks.{bit}
use Rattle.sets.proofs.Bools.{bif, clash, iff}
use Rattle.sets.proofs.Bits.{bit-ext}
use Rattle.sets.proofs.Members.{inside-at}
use Rattle.theory.specs.Rule.{Rule, entry}
use Rattle.theory.specs.Passing.{Passing}
use Rattle.theory.specs.Automaton.{Automaton, automaton}
use Rattle.theory.specs.Word.{places, WordOver}
use Rattle.theory.specs.Plan.{Reach, here, on, Accepts, AcceptsFrom, AcceptsWord}
use Rattle.theory.specs.Truth.{truth_masks}
use Rattle.theory_laws.proofs.Truth.{truth-bit, truth-length, truth-lt}
use Rattle.rule_tidy_spec.specs.Tidy.{contains, tidy_entry_lem, tidy_rule_lem}
use Rattle.rule_tidy_spec.proofs.Contains.{contains-refl}
use Rattle.rule_tidy_spec.proofs.Minimal.{tidy-under}
use Rattle.rule_tidy_spec.proofs.Entries.{entry-tidy}
use Rattle.rule_tidy_spec.proofs.Rules.{entry-small, entry-less, tidy-passing}

-- ---- a clause inside another

-- the first clause of cs that c contains, or c itself
unfoldable pub smaller : ℕ → List ℕ → ℕ → ℕ
smaller n [] c = c
smaller n (d ∷ cs) c = cond (contains n c d) d (smaller n cs c)

smaller-inside : (n : ℕ) (cs : List ℕ) (c : ℕ) → contains n c (smaller n cs c) ≡ true
unfolding smaller
smaller-inside n [] c = contains-refl n c
smaller-inside n (d ∷ cs) c = bif (contains n c d) (λ t. rw (t, smaller) t) (λ t. rw (t, smaller) (smaller-inside n cs c))

smaller-listed : (n : ℕ) (cs : List ℕ) (c d : ℕ) → Memᴰ d cs → contains n c d ≡ true → Memᴰ (smaller n cs c) cs
unfolding smaller
smaller-listed n [] c d m e = absurd (Memᴰ.not-nil m)
smaller-listed n (x ∷ cs) c d m e =
    bif (contains n c x)
    (λ t. rw (t, smaller) (Memᴰ.head refl))
    (λ t. rw (t, smaller) (Memᴰ.tail (smaller-listed n cs c d (⊎_elim (λ p. clash (rw p at e) t) (λ k. k) (Memᴰ.cases_cons m)) e)))

-- ---- plans

module _ (r : Rule) (small : (c : ℕ) → Memᴰ c r.clauses → c < 2 ^ r.n) (next letter : ℕ → ℕ) where
  -- what a plan reaches whose clauses are inside those of another
  reach-more : (A B : Automaton) (small large : ℕ → ℕ → ℕ) → A.n ≡ B.n → ((q p y : ℕ) → y < A.n → bit (small q p) y ≡ true → bit (large q p) y ≡ true)
      → (a x q p : ℕ) → Reach A next letter small a x q p → Reach B next letter large a x q p
  reach-more A B f g s h a x q p here = here
  reach-more A B f g s h a x q p (on {q = t} {p = z} y w k l b e) = on y w (reach-more A B f g s h a x t z k) (omega arith) (h t z y l b) e

  -- a plan of the tidied rule is a plan of the rule
  tidied-accepts : (a x : ℕ) → Accepts (automaton (tidy_rule_lem r)) next letter a x → Accepts (automaton r) next letter a x
  unfolding automaton tidy_rule_lem
  tidied-accepts a x A =
      let same = reach-more (automaton r) (automaton (tidy_rule_lem r)) A.pick A.pick refl (λ q p y l b. b) in
      record {
        pick = A.pick;
        valid = λ q p w. entry-less r q (letter p) (A.pick q p) (A.valid q p (same a x q p w));
        fair = λ q p w e y l b z. A.fair q p (same a x q p w) e y l b (same y (next p) q p z);
      }

  -- the plan with each clause replaced by one that stays
  under : (ℕ → ℕ → ℕ) → ℕ → ℕ → ℕ
  under pick q p = smaller r.n (tidy_entry_lem r.n (entry r q (letter p))) (pick q p)

  under-inside : (pick : ℕ → ℕ → ℕ) (q p y : ℕ) → y < r.n → bit (under pick q p) y ≡ true → bit (pick q p) y ≡ true
  unfolding under
  under-inside pick q p y l b = inside-at r.n (bit (pick q p)) _ (smaller-inside r.n (tidy_entry_lem r.n (entry r q (letter p))) (pick q p)) y l b

  under-listed : (pick : ℕ → ℕ → ℕ) (q p : ℕ) → Memᴰ (pick q p) (entry r q (letter p)) → Memᴰ (under pick q p) (entry (tidy_rule_lem r) q (letter p))
  unfolding under
  under-listed pick q p m =
      let d = tidy-under r.n (entry r q (letter p)) (entry-small r small q (letter p)) (pick q p) m in
      rw (entry-tidy r q (letter p)) (smaller-listed r.n (tidy_entry_lem r.n (entry r q (letter p))) (pick q p) d.0 d.1 d.2)

  accepts-tidied : (a x : ℕ) → Accepts (automaton r) next letter a x → Accepts (automaton (tidy_rule_lem r)) next letter a x
  unfolding automaton tidy_rule_lem
  accepts-tidied a x A =
      let more = reach-more (automaton (tidy_rule_lem r)) (automaton r) (under A.pick) A.pick refl (under-inside A.pick) in
      record {
        pick = under A.pick;
        valid = λ q p w. under-listed A.pick q p (A.valid q p (more a x q p w));
        fair = λ q p w e y l b z. A.fair q p (more a x q p w) e y l (under-inside A.pick q p y l b) (more y (next p) q p z);
      }

-- ---- words

module _ (r : Rule) (small : (c : ℕ) → Memᴰ c r.clauses → c < 2 ^ r.n) (lead cycle : List ℕ) where
  -- The tidied rule accepts from the same pairs.
  pub tidy-accepts-from : (q p : ℕ) → AcceptsFrom (tidy_rule_lem r) lead cycle q p ↔ AcceptsFrom r lead cycle q p
  tidy-accepts-from q p = (tidied-accepts r small _ _ q p, accepts-tidied r small _ _ q p)

  -- It accepts the same words.
  pub tidy-accepts : AcceptsWord (tidy_rule_lem r) lead cycle ↔ AcceptsWord r lead cycle
  tidy-accepts = unfold tidy_rule_lem in tidy-accepts-from r.initial 0

-- 02: "The tidied rule must give equal truth masks on all words": of any lead-in and any cycle but the empty one.
module _ (r : Rule) (P : Passing r) (lead cycle : List ℕ) (W : WordOver r.s lead cycle) where
  mask-same : (p : ℕ) → p < places lead cycle → get_or (truth_masks (tidy_rule_lem r) lead cycle) p 0 ≡ get_or (truth_masks r lead cycle) p 0
  unfolding tidy_rule_lem
  mask-same p l =
      bit-ext r.n _ _ (truth-lt (tidy_rule_lem r) lead cycle p) (truth-lt r lead cycle p) (λ q m.
      let k : q < 8 = omega (arith, P.formed.few_states) in
      let a = truth-bit (tidy_rule_lem r) lead cycle (tidy-passing r P) W q p k l in
      let b = truth-bit r lead cycle P W q p k l in
      let e = tidy-accepts-from r P.formed.clause_states lead cycle q p in
      iff _ _ (λ t. b.1 (m, e.0 (a.0 t).1)) (λ t. a.1 (m, e.1 (b.0 t).1)))

  pub tidy-masks : truth_masks (tidy_rule_lem r) lead cycle ≡ truth_masks r lead cycle
  tidy-masks =
      let a = truth-length (tidy_rule_lem r) lead cycle in
      let b = truth-length r lead cycle in
      ext_get_or 0 (truth_masks (tidy_rule_lem r) lead cycle) (truth_masks r lead cycle) (a ∙ sym b) (λ p l. mask-same p (omega arith))
