-- The tidied rule passes every check that the rule passes, has no clause inside another, and is the rule itself where the rule has none.
use mathlib.Core.Path.{◌≡◌, refl, ◌∙◌, ap, ap₂}
use mathlib.Core.Logic.{⊎_elim}
use mathlib.Core.Bool.{true, false}
use mathlib.Core.List.{List, [], ◌∷◌, ◌++◌, Memᴰ}
use Prim.Native.Nat.{ℕ, suc, ◌/◌, ◌%◌, ◌^◌, ◌<◌}
use native.Mathlib.Omega.{arith}
use native.Mathlib.Nat.{div-add-mod', div-lt_iff_lt-mul, mod-lt}
use lib.ListN.{length, get_or, take, drop, length-drop, take-append-drop}
use lib.Seq.{length-take-le, drop-drop}
use borrow.Author.Tests.{lt-ltb}
use Rattle.sets.specs.Tests.{Set}
use Rattle.sets.specs.Masks.{bit}
use Rattle.sets.specs.Lists.{sum}
use Rattle.sets.proofs.Bools.{clash, or_cases}
use Rattle.sets.proofs.Tests.{some-get, some-none, some-no}
use Rattle.theory.specs.Rule.{Rule, entry, satisfies}
use Rattle.theory.specs.Components.{named, leads, LeadsTo, here, step, Together}
use Rattle.theory.specs.Passing.{WellFormed, Passing}
use Rattle.theory_laws.proofs.Components.{clause-leads}
use Rattle.rule_tidy_spec.specs.Tidy.{tidy_entry_lem, tidy_counts, tidy_clauses, tidy_rule_lem}
use Rattle.file_spec.specs.RuleRows.{nested, some_nested}
use Rattle.rule_tidy_spec.proofs.Minimal.{tidy-satisfies}
use Rattle.rule_tidy_spec.proofs.Unnested.{tidy-unnested, unnested-stays}
use Rattle.rule_tidy_spec.proofs.Entries.{entry_listed, tidy-listed, counts-length, counts-sum, clauses-listed, counts-few, entry-tidy}

named-out : (cs : List ℕ) (p : ℕ) → named cs p ≡ true → (c : ℕ) × Memᴰ c cs × (bit c p ≡ true)
unfolding named
named-out [] p e = clash e refl
named-out (c ∷ cs) p e =
    ⊎_elim (λ t. (c, Memᴰ.head refl, t)) (λ t. let r = named-out cs p t in (r.0, Memᴰ.tail r.1, r.2)) (or_cases (bit c p) (named cs p) e)

-- a rule whose clauses are all over its states
module _ (r : Rule) (small : (c : ℕ) → Memᴰ c r.clauses → c < 2 ^ r.n) where
  pub entry-small : (q a c : ℕ) → Memᴰ c (entry r q a) → c < 2 ^ r.n
  entry-small q a c m = small c (entry_listed r q a c m)

  -- Every entry is satisfied by the same sets.
  pub entry-satisfies : (q a : ℕ) (X : Set) → satisfies r.n X (entry (tidy_rule_lem r) q a) ≡ satisfies r.n X (entry r q a)
  entry-satisfies q a X = rw (entry-tidy r q a) (tidy-satisfies r.n (entry r q a) (entry-small q a) X)

  -- No entry of the tidied rule has a clause inside another.
  pub rule-unnested : some_nested (tidy_rule_lem r) ≡ false
  unfolding some_nested tidy_rule_lem
  rule-unnested =
      some-none r.n _ (λ q l. some-none r.s _ (λ a m. ap (nested r.n) (entry-tidy r q a) ∙ tidy-unnested r.n (entry r q a) (entry-small q a)))

-- ---- leads-to only shrinks

module _ (r : Rule) where
  -- a clause of the tidied rule is one of the rule's
  pub entry-less : (q a c : ℕ) → Memᴰ c (entry (tidy_rule_lem r) q a) → Memᴰ c (entry r q a)
  entry-less q a c m = tidy-listed r.n (entry r q a) c (rw (entry-tidy r q a) at m)

  pub leads-less : (q p : ℕ) → leads (tidy_rule_lem r) q p ≡ true → leads r q p ≡ true
  unfolding leads tidy_rule_lem
  leads-less q p e =
      let a = some-get r.s _ e in
      let c = named-out (entry (tidy_rule_lem r) q a.0) p a.2 in
      clause-leads r q a.0 c.0 p (entry-less q a.0 c.0 c.1) c.2

  leads-to-less : (q p : ℕ) → LeadsTo (tidy_rule_lem r) q p → LeadsTo r q p
  unfolding tidy_rule_lem
  leads-to-less q p here = here
  leads-to-less q p (step {p = t} x m e) = step (leads-to-less q t x) m (leads-less t p e)

  -- states that lead to each other in the tidied rule do so in the rule
  pub together-less : (q p : ℕ) → Together (tidy_rule_lem r) q p → Together r q p
  together-less q p t = record { there = leads-to-less q p t.there; back = leads-to-less p q t.back }

  -- A well-formed rule stays well formed.
  pub tidy-formed : WellFormed r → WellFormed (tidy_rule_lem r)
  unfolding tidy_rule_lem
  tidy-formed w = record {
    some_state = w.some_state;
    few_states = w.few_states;
    some_letter = w.some_letter;
    few_letters = w.few_letters;
    initial_state = w.initial_state;
    accepting_states = w.accepting_states;
    all_entries = counts-length r.n r.counts r.clauses ∙ w.all_entries;
    few_clauses = counts-few r.n r.counts r.clauses 8 w.few_clauses;
    all_clauses = counts-sum r.n r.counts r.clauses;
    clause_states = λ x m. w.clause_states x (clauses-listed r.n r.counts r.clauses x m);
  }

  -- A rule that passes rows 3 to 11 passes them tidied.
  pub tidy-passing : Passing r → Passing (tidy_rule_lem r)
  unfolding tidy_rule_lem
  tidy-passing P = record { formed = tidy-formed P.formed; unmixed = λ q p l m t. P.unmixed q p l m (together-less q p t) }

-- ---- a rule that has no clause inside another

-- entry by entry: what is counted and what is laid out stay
lists-stay : (n : ℕ) (counts clauses : List ℕ) → sum counts ≡ length clauses
    → ((i : ℕ) → i < length counts → tidy_entry_lem n (take (get_or counts i 0) (drop (sum (take i counts)) clauses)) ≡ take (get_or counts i 0) (drop (sum (take i counts)) clauses))
    → (tidy_counts n counts clauses ≡ counts) × (tidy_clauses n counts clauses ≡ clauses)
unfolding tidy_counts tidy_clauses sum
lists-stay n [] [] e h = (refl, refl)
lists-stay n [] (c ∷ clauses) e h = absurd (omega arith)
lists-stay n (k ∷ counts) clauses e h =
    let first : tidy_entry_lem n (take k clauses) ≡ take k clauses = h 0 (omega arith) in
    let long = length-take-le k clauses (omega arith) in
    let left : sum counts ≡ length (drop k clauses) = omega (arith, length-drop k clauses) in
    let rest = lists-stay n counts (drop k clauses) left (λ i l. rw (drop-drop (sum (take i counts)) k clauses) (h (suc i) (omega arith))) in (
      ap₂ (λ (x : ℕ) (xs : List ℕ). x ∷ xs) (ap length first ∙ long) rest.0,
      ap₂ (λ (xs ys : List ℕ). xs ++ ys) first rest.1 ∙ take-append-drop k clauses,
    )

module _ (r : Rule) (w : WellFormed r) where
  -- entry number i is that of state i / s at letter i % s
  numbered-entry : (i : ℕ) → i < length r.counts
      → (i / r.s < r.n) × (i % r.s < r.s) × (entry r (i / r.s) (i % r.s) ≡ take (get_or r.counts i 0) (drop (sum (take i r.counts)) r.clauses))
  unfolding entry
  numbered-entry i l =
      let low : i % r.s < r.s = mod-lt i w.some_letter in
      ((div-lt_iff_lt-mul w.some_letter).1 (rw w.all_entries at l), low, rw (lt-ltb (i % r.s) r.s low, div-add-mod' i r.s))

  -- A rule that has no clause inside another is unchanged.
  pub unnested-rule : some_nested r ≡ false → tidy_rule_lem r ≡ r
  unfolding tidy_rule_lem some_nested
  unnested-rule e =
      let same = lists-stay r.n r.counts r.clauses w.all_clauses (λ i l.
      let a = numbered-entry i l in
      let q = i / r.s in
      let x = i % r.s in
      let u : nested r.n (entry r q x) ≡ false = some-no r.s _ (some-no r.n _ e q a.0) x a.1 in
      rw (← a.2) (unnested-stays r.n (entry r q x) u (entry-small r w.clause_states q x))) in
      rw (same.0, same.1)

-- Tidying twice changes nothing further.
pub tidy-twice : (r : Rule) → WellFormed r → tidy_rule_lem (tidy_rule_lem r) ≡ tidy_rule_lem r
tidy-twice r w = unnested-rule (tidy_rule_lem r) (tidy-formed r w) (rule-unnested r w.clause_states)
