-- The lead-in: one mask more in front of the masks of what follows.
use mathlib.Core.Path.{◌≡◌, refl, sym, ◌∙◌, ap, ap₂}
use mathlib.Core.Bool.{Bool, ◌&&◌}
use mathlib.Core.List.{List, [], ◌∷◌, ◌++◌}
use Prim.Native.Nat.{ℕ, suc, ◌+◌, ◌-◌, ◌^◌, ◌≤◌, ◌<◌}
use native.Mathlib.Omega.{arith}
use native.Mathlib.Nat.{add-zero}
use native.Mathlib.Numerals.{add-one}
use lib.Dec.{ltb}
use lib.ListN.{length, get_or, set, take, drop, length-set, length-append, length-take, length-drop, get_or-append}
use lib.Seq.{drop-cons, drop-set-lt, get_or-drop, get_or-set_same, drop-length, drop_at, drop-drop, length-take-le}
use borrow.Author.Tests.{lt-ltb, le-ltb}
use Rattle.sets.specs.Tests.{Set}
use Rattle.sets.specs.Masks.{bit, mask}
use Rattle.sets.proofs.Masks.{mask_lt, mask-ext, mask-trim, bit_mask}
use Rattle.theory.specs.Rule.{Rule, entry, satisfies}
use Rattle.theory.specs.Passing.{Passing}
use Rattle.theory.specs.Truth.{truth_masks}
use Rattle.theory_laws.proofs.Truth.{truth-length}
use Rattle.theory_laws.proofs.TruthLaws.{truth-cons}
use Rattle.set_masks.specs.Sets.{full_of}
use Rattle.judge_place.specs.Starts.{met_by_lem, back_over}

-- every state, tried at a letter
pub met_all : (r : Rule) → r.n ≤ 8 → (a m : ℕ) → met_by_lem r a m (full_of r.n) ≡ mask r.n (λ q. satisfies r.n (bit m) (entry r q a))
unfolding met_by_lem
met_all r few a m =
    let s : Set = λ q. satisfies r.n (bit m) (entry r q a) in
    let all : (q : ℕ) → q < 8 → bit (full_of r.n) q ≡ ltb q r.n = λ q l. bit_mask 8 (λ x. ltb x r.n) q l in
    mask-trim 8 r.n (λ q. bit (full_of r.n) q && s q) few (λ q l k. ap (λ (b : Bool). b && s q) (all q k ∙ le-ltb q r.n l))
    ∙ mask-ext r.n (λ q. bit (full_of r.n) q && s q) s (λ q l. ap (λ (b : Bool). b && s q) (all q (omega arith) ∙ lt-ltb q r.n l))

pub full-lt : (n : ℕ) → n ≤ 8 → full_of n < 2 ^ n
full-lt n few = rw (mask-trim 8 n (λ q. ltb q n) few (λ q l k. le-ltb q n l)) (mask_lt n (λ q. ltb q n))

-- one mask more
pub back-next : (r : Rule) (lead ms rest : List ℕ) (p : ℕ) → p < length lead → p + 1 < length ms → drop (p + 1) ms ≡ back_over r (drop (p + 1) lead) rest
    → (v : ℕ) → v ≡ mask r.n (λ q. satisfies r.n (bit (get_or ms (p + 1) 0)) (entry r q (get_or lead p 0))) → drop p (set ms p v) ≡ back_over r (drop p lead) rest
unfolding back_over
back-next r lead ms rest p l k e v f =
    let first : get_or ms (p + 1) 0 ≡ get_or (back_over r (drop (p + 1) lead) rest) 0 0
    = ap (λ (x : ℕ). get_or ms x 0) (sym (add-zero (p + 1))) ∙ sym (get_or-drop (p + 1) ms 0 0) ∙ ap (λ (x : List ℕ). get_or x 0 0) e in
    let front : drop p (set ms p v) ≡ v ∷ drop (p + 1) ms
    = drop-cons (set ms p v) p 0 (let x = length-set ms p v in omega arith)
    ∙ ap₂ ◌∷◌ (get_or-set_same ms p v 0 (omega arith)) (drop-set-lt (suc p) ms p v (omega arith) ∙ ap (λ (x : ℕ). drop x ms) (sym (add-one p))) in
    let split : drop p lead ≡ get_or lead p 0 ∷ drop (p + 1) lead = drop-cons lead p 0 l ∙ ap (λ (x : ℕ). get_or lead p 0 ∷ drop x lead) (sym (add-one p)) in
    front ∙ ap₂ ◌∷◌ (f ∙ ap (λ (x : ℕ). mask r.n (λ q. satisfies r.n (bit x) (entry r q (get_or lead p 0)))) first) e ∙ sym (ap (λ (x : List ℕ). back_over r x rest) split)

-- no letter passed yet
pub back_start : (r : Rule) (lead ms : List ℕ) → drop (length lead) ms ≡ back_over r (drop (length lead) lead) (drop (length lead) ms)
unfolding back_over
back_start r lead ms = rw (drop-length lead)

-- the masks of a word: those of the cycle, then back over the lead-in
pub back-truth : (r : Rule) → Passing r → (lead cycle rest : List ℕ) → 0 < length cycle → back_over r lead (truth_masks r [] cycle ++ rest) ≡ truth_masks r lead cycle ++ rest
unfolding back_over
back-truth r P [] cycle rest h = refl
back-truth r P (a ∷ lead) cycle rest h =
    let ih = back-truth r P lead cycle rest h in
    let first : get_or (back_over r lead (truth_masks r [] cycle ++ rest)) 0 0 ≡ get_or (truth_masks r lead cycle) 0 0
    = ap (λ (x : List ℕ). get_or x 0 0) ih ∙ get_or-append (truth_masks r lead cycle) rest 0 0 (let k = truth-length r lead cycle in omega arith) in
    ap₂ ◌∷◌ (ap (λ (x : ℕ). mask r.n (λ q. satisfies r.n (bit x) (entry r q a))) first) ih ∙ sym (ap (λ (x : List ℕ). x ++ rest) (truth-cons r P a lead cycle h))

-- ---- a part of a list, and the list with another in its place
module _ (xs : List ℕ) (a c : ℕ) (fits : a + c ≤ length xs) where
  pub part_length : length (take (a + c - a) (drop a xs)) ≡ c
  part_length = simp (length-take, length-drop) (omega arith)

  pub mid-length : (ys : List ℕ) → length ys ≡ c → length (take a xs ++ (ys ++ drop (a + c - a) (drop a xs))) ≡ length xs
  mid-length ys e = simp (length-append, length-take, length-drop) (omega arith)

  pub mid-drop : (ys : List ℕ) → drop a (take a xs ++ (ys ++ drop (a + c - a) (drop a xs))) ≡ ys ++ drop (a + c) xs
  mid-drop ys =
      let e : a + (a + c - a) ≡ a + c = omega arith in
      drop_at (take a xs) (ys ++ drop (a + c - a) (drop a xs)) a (length-take-le a xs (omega arith))
      ∙ ap (λ (x : List ℕ). ys ++ x) (drop-drop (a + c - a) a xs ∙ ap (λ (n : ℕ). drop n xs) e)
