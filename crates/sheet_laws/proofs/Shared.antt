-- The tidy cycle of a word as a part of the sheet, and the masks of the word by those of its tidy cycle.
use mathlib.Core.Path.{◌≡◌, refl, sym, ◌∙◌, ap, ap₂}
use mathlib.Core.Logic.{⊎_elim}
use mathlib.Core.List.Memᴰ
use mathlib.Core.List.{List, [], ◌∷◌, ◌++◌, Memᴰ}
use Prim.Native.Nat.{ℕ, zero, suc, ◌+◌, ◌≤◌, ◌<◌}
use native.Mathlib.Omega.{arith}
use lib.ListN.{length, get_or, take, drop, take-append-drop, length-take, length-drop, get_or-append}
use lib.Seq.{take-take, take-add, drop-drop, get_or-take, get_or-drop}
use Rattle.sets.proofs.Lists.{place_of, mem-at}
use Rattle.sets.specs.Masks.{bit, mask}
use Rattle.theory.specs.Passing.{Passing}
use Rattle.theory.specs.Rule.{Rule, entry, satisfies}
use Rattle.theory.specs.Truth.{truth_masks}
use Rattle.theory.specs.Word.{places, next_place_lem, place, letters, WordOver}
use Rattle.theory_laws.proofs.Places.{letter-behind}
use Rattle.theory_laws.proofs.Truth.{truth-length}
use Rattle.theory_laws.proofs.TruthLaws.{truth-cons}
use Rattle.judge_place.specs.Starts.{back_over}
use Rattle.word_spelling_spec.specs.Spelling.{Agree}
use Rattle.word_spelling_spec.specs.SpellingComputed.{cycle_length_lem, lead_length_lem, tidy_lead, tidy_cycle}
use Rattle.word_spelling_spec.proofs.Steps.{place_is, letters-behind}
use Rattle.word_spelling_spec.proofs.Tidied.{tidied, tidy-lead-length, lead-max, cycle-max}
use Rattle.word_spelling_spec.proofs.Truths.{mask-spelled}

-- ---- the tidy cycle in the sheet

part_of : (p m n : ℕ) (l : List ℕ) → m + p ≤ n → take p (drop m (take n l)) ≡ take p (drop m l)
part_of p zero n l h = take-take p n l (omega arith)
part_of p (suc m) zero l h = absurd (omega arith)
part_of p (suc m) (suc n) [] h = refl
part_of p (suc m) (suc n) (x ∷ l) h = part_of p m n l (omega arith)

-- of a word whose lead-in and cycle stand one after the other from byte first of the sheet on
module _ (sheet : List ℕ) (first a b : ℕ) (room : first + a + b ≤ length sheet) (repeats : 0 < b) where
  abbrev u : List ℕ
  u = take a (drop first sheet)

  abbrev v : List ℕ
  v = take b (drop (first + a) sheet)

  pub lead_long : length u ≡ a
  lead_long = simp (length-take, length-drop) (omega arith)

  pub cycle_long : length v ≡ b
  cycle_long = simp (length-take, length-drop) (omega arith)

  pub cycle-repeats : 0 < length v
  cycle-repeats = omega (arith, cycle_long)

  pub lead-within : lead_length_lem u v ≤ a
  lead-within = omega (arith, lead-max u v cycle-repeats, lead_long)

  pub cycle-within : cycle_length_lem v ≤ b
  cycle-within = omega (arith, cycle-max u v cycle-repeats, cycle_long)

  whole : u ++ v ≡ take (a + b) (drop first sheet)
  whole = sym (take-add a b (drop first sheet) ∙ ap (λ (l : List ℕ). u ++ take b l) (drop-drop a first sheet))

  -- its tidy cycle stands there too
  pub tidy-part : tidy_cycle u v ≡ take (cycle_length_lem v) (drop (first + lead_length_lem u v) sheet)
  unfolding tidy_cycle
  tidy-part =
      ap (λ (l : List ℕ). take (cycle_length_lem v) (drop (lead_length_lem u v) l)) whole
      ∙ part_of (cycle_length_lem v) (lead_length_lem u v) (a + b) (drop first sheet) (omega (arith, lead-within, cycle-within))
      ∙ ap (take (cycle_length_lem v)) (drop-drop (lead_length_lem u v) first sheet)

  -- and its tidy lead-in
  pub tidy-front : take (lead_length_lem u v) u ≡ take (lead_length_lem u v) (drop first sheet)
  tidy-front = take-take (lead_length_lem u v) a (drop first sheet) lead-within

mem-part : (p m : ℕ) (l : List ℕ) (x : ℕ) → Memᴰ x (take p (drop m l)) → Memᴰ x l
mem-part p m l x h =
    let q = place_of (take p (drop m l)) x h in
    let long : q.0 < length (take p (drop m l)) = q.1 in
    let here : q.0 < p = omega (arith, simp (length-take, length-drop) at long) in
    let there : m + q.0 < length l = omega (arith, simp (length-take, length-drop) at long) in
    Memᴰ.cast (sym q.2 ∙ get_or-take p (drop m l) q.0 0 here ∙ get_or-drop m l q.0 0) (mem-at l (m + q.0) there)

-- the letters of the tidy cycle are letters of the word
pub tidy-over : (s : ℕ) (lead cycle : List ℕ) → WordOver s lead cycle → WordOver s [] (tidy_cycle lead cycle)
unfolding tidy_cycle
tidy-over s lead cycle w = record {
  repeats = (tidied lead cycle w.repeats).spells.repeats;
  lead_letters = λ x m. absurd (Memᴰ.not-nil m);
  cycle_letters = λ x m. ⊎_elim (w.lead_letters x) (w.cycle_letters x)
      (Memᴰ.append_cases lead (mem-part (cycle_length_lem cycle) (lead_length_lem lead cycle) (lead ++ cycle) x m));
}

-- ---- the masks

-- the letters behind a first part of the lead-in
letters-past : (u v cycle : List ℕ) → 0 < length cycle → (i : ℕ) → letters (u ++ v) cycle (length u + i) ≡ letters v cycle i
letters-past [] v cycle h i = let e : 0 + i ≡ i = omega arith in ap (letters v cycle) e
letters-past (a ∷ u) v cycle h i =
    let e : suc (length u) + i ≡ suc (length u + i) = omega arith in
    ap (letters (a ∷ (u ++ v)) cycle) e ∙ letter-behind a (u ++ v) cycle h (length u + i) ∙ letters-past u v cycle h i

-- the masks of a first part of the lead-in, in front of the masks of what follows it
pub back-part : (r : Rule) → Passing r → (u v cycle rest : List ℕ) → 0 < length cycle → back_over r u (truth_masks r v cycle ++ rest) ≡ truth_masks r (u ++ v) cycle ++ rest
unfolding back_over
back-part r P [] v cycle rest h = refl
back-part r P (a ∷ u) v cycle rest h =
    let ih = back-part r P u v cycle rest h in
    let first : get_or (back_over r u (truth_masks r v cycle ++ rest)) 0 0 ≡ get_or (truth_masks r (u ++ v) cycle) 0 0
    = ap (λ (x : List ℕ). get_or x 0 0) ih ∙ get_or-append (truth_masks r (u ++ v) cycle) rest 0 0 (let k = truth-length r (u ++ v) cycle in omega arith) in
    ap₂ ◌∷◌ (ap (λ (x : ℕ). mask r.n (λ q. satisfies r.n (bit x) (entry r q a))) first) ih ∙ sym (ap (λ (x : List ℕ). x ++ rest) (truth-cons r P a (u ++ v) cycle h))

module _ (lead cycle : List ℕ) (repeats : 0 < length cycle) where
  abbrev m : ℕ
  m = lead_length_lem lead cycle

  -- behind the tidy lead-in the word is its tidy cycle
  pub tail-agrees : Agree (drop m lead) cycle [] (tidy_cycle lead cycle)
  unfolding tidy_lead
  tail-agrees i =
      let t = tidied lead cycle repeats in
      let e : length (take m lead) ≡ m = tidy-lead-length lead cycle repeats in
      sym (letters-past (take m lead) (drop m lead) cycle repeats i)
      ∙ ap (λ (l : List ℕ). letters l cycle (length (take m lead) + i)) (take-append-drop m lead)
      ∙ sym (t.spells.agrees (length (take m lead) + i))
      ∙ letters-behind (take m lead) (tidy_cycle lead cycle) t.spells.repeats i

  -- so the mask at each place behind the tidy lead-in is that of the tidy cycle at the place of that step
  pub tail-mask : (r : Rule) → Passing r → (j : ℕ) → j < places (drop m lead) cycle
      → get_or (truth_masks r (drop m lead) cycle) j 0 ≡ get_or (truth_masks r [] (tidy_cycle lead cycle)) (place (next_place_lem [] (tidy_cycle lead cycle)) j) 0
  tail-mask r P j l =
      ap (λ (p : ℕ). get_or (truth_masks r (drop m lead) cycle) p 0) (sym (place_is (drop m lead) cycle repeats j l))
      ∙ mask-spelled (drop m lead) cycle [] (tidy_cycle lead cycle) tail-agrees r P repeats (tidied lead cycle repeats).spells.repeats j

  -- the masks of the word are those of its tidy lead-in, in front of these
  pub whole-masks : (r : Rule) → Passing r → (rest : List ℕ) → back_over r (take m lead) (truth_masks r (drop m lead) cycle ++ rest) ≡ truth_masks r lead cycle ++ rest
  whole-masks r P rest = back-part r P (take m lead) (drop m lead) cycle rest repeats ∙ ap (λ (l : List ℕ). truth_masks r l cycle ++ rest) (take-append-drop m lead)
