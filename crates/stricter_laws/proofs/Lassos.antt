-- A way that comes back to where it turned, gone round for ever, is an accepting run over the word of its letters.
use mathlib.Core.Path.{◌≡◌, refl, sym, ◌∙◌, ap}
use mathlib.Core.Logic.{by_cases, ⊎_elim}
use mathlib.Core.Bool.{true}
use mathlib.Core.List.Memᴰ
use mathlib.Core.List.{List, ◌++◌, Memᴰ}
use Prim.Native.Nat.{ℕ, zero, suc, ◌+◌, ◌-◌, ◌<◌}
use native.Mathlib.Omega.{arith}
use native.Mathlib.Nat.{le_of_suc-le-suc}
use native.Mathlib.Decide.{ℕ_discrete, dec_lt}
use lib.ListN.{length, get_or, length-append}
use Rattle.sets.specs.Tests.{Set}
use Rattle.theory.specs.Macrostate.{begun, is_accepting_lem}
use Rattle.theory.specs.Run.{letter_of_lem, Leads, AcceptingRun}
use Rattle.theory.specs.Word.{places, next_place_lem, letter_at_lem, place, letters, WordOver}
use Rattle.theory_laws.proofs.Places.{next-place-last, next-place-other, places-low}
use Rattle.trim_spec.specs.Graph.{Inside}
use Rattle.stricter_spec.specs.Ways.{Way, stay, go, Lasso}

-- ---- the numbers on a way

module _ (m : List ℕ) where
  -- two ways, one after the other
  pub join : {x y z : ℕ} {u v : List ℕ} → Way m x u y → Way m y v z → Way m x (u ++ v) z
  join stay X = X
  join (go t l k U) X = go t l k (join U X)

  -- the number after p steps
  unfoldable pub number_on : {x y : ℕ} {w : List ℕ} → Way m x w y → ℕ → ℕ
  number_on (stay {x = x}) p = x
  number_on (go {x = x} t l k W) zero = x
  number_on (go t l k W) (suc p) = number_on W p

  pub number-first : {x y : ℕ} {w : List ℕ} (W : Way m x w y) → number_on W 0 ≡ x
  unfolding number_on
  number-first stay = refl
  number-first (go t l k W) = refl

  pub number-last : {x y : ℕ} {w : List ℕ} (W : Way m x w y) → number_on W (length w) ≡ y
  unfolding number_on
  number-last stay = refl
  number-last (go t l k W) = number-last W

  -- the steps are listed transitions over the letters
  pub number_step : {x y : ℕ} {w : List ℕ} (W : Way m x w y) (p : ℕ) → p < length w → (t : ℕ) × Memᴰ t m × Leads t (number_on W p) (get_or w p 0) (number_on W (suc p))
  unfolding number_on
  number_step stay p h = absurd (omega arith)
  number_step (go {x = x} {a = a} t l k W) zero h = (t, l, record { source = k.source; letter = k.letter; target = k.target ∙ sym (number-first W) })
  number_step (go t l k W) (suc p) h = number_step W p (le_of_suc-le-suc h)

  -- behind a first part a way goes on as its second
  pub number_behind : {x y z : ℕ} {u v : List ℕ} (U : Way m x u y) (X : Way m y v z) (p : ℕ) → number_on (join U X) (length u + p) ≡ number_on X p
  unfolding number_on join
  number_behind (stay {x = x}) X p = let e : 0 + p ≡ p = omega arith in ap (number_on X) e
  number_behind (go {w = w} t l k U) X p =
      let e : suc (length w) + p ≡ suc (length w + p) = omega arith in
      ap (number_on (go t l k (join U X))) e ∙ number_behind U X p

-- ---- the places of a word come again

module _ (lead cycle : List ℕ) (repeats : 0 < length cycle) where
  abbrev at : ℕ → ℕ
  at = place (next_place_lem lead cycle)

  -- d steps before the last place is left the cycle's first place follows in d steps
  turn-after : (d i : ℕ) → 0 < d → at i + d ≡ places lead cycle → at (i + d) ≡ length lead
  unfolding place
  turn-after zero i l e = absurd (omega arith)
  turn-after (suc d) i l e =
      by_cases (ℕ_discrete d 0)
      (λ z. let f : i + suc d ≡ suc i = omega arith in ap at f ∙ next-place-last lead cycle (at i) (omega arith))
      (λ z. let n : at (suc i) ≡ suc (at i) = next-place-other lead cycle (at i) (λ y. z (omega arith)) in
      let f : i + suc d ≡ suc i + d = omega arith in
      ap at f ∙ turn-after d (suc i) (omega arith) (omega arith))

  -- from there on the places follow in order
  forward : (e i : ℕ) → at i ≡ length lead → length lead + e < places lead cycle → at (i + e) ≡ length lead + e
  unfolding place
  forward zero i h l = let f : i + 0 ≡ i = omega arith in let g : length lead + 0 ≡ length lead = omega arith in ap at f ∙ h ∙ sym g
  forward (suc e) i h l =
      let f : i + suc e ≡ suc (i + e) = omega arith in
      let g : suc (length lead + e) ≡ length lead + suc e = omega arith in
      ap at f ∙ ap (next_place_lem lead cycle) (forward e i h (omega arith)) ∙ next-place-other lead cycle (length lead + e) (λ y. omega arith) ∙ g

  -- after each step a later one stands at any given place of the cycle
  pub place-later : (e : ℕ) → e < length cycle → (i : ℕ) → (j : ℕ) × (i < j) × (at j ≡ length lead + e)
  place-later e l i =
      let h = places-low lead cycle repeats i in
      let d = places lead cycle - at i in
      (i + d + e, omega arith, forward e (i + d) (turn-after d i (omega arith) (omega arith)) (omega arith))

-- ---- the run

module _ (codes : List ℕ) {m : List ℕ} (start : Set) (inside : Inside (length codes) m) {lead before after : List ℕ} (repeats : 0 < length (before ++ after))
    {first turn met : ℕ} (U : Way m first lead turn) (X : Way m turn before met) (Y : Way m met after turn) where
  abbrev cycle : List ℕ
  cycle = before ++ after

  whole : Way m first (lead ++ cycle) turn
  whole = join m U (join m X Y)

  node : ℕ → ℕ
  node p = number_on m whole p

  node-first : node 0 ≡ first
  unfolding node
  node-first = number-first m whole

  node-behind : (p : ℕ) → node (length lead + p) ≡ number_on m (join m X Y) p
  unfolding node whole
  node-behind p = number_behind m U (join m X Y) p

  node-turn : node (length lead) ≡ turn
  node-turn = let e : length lead ≡ length lead + 0 = omega arith in ap node e ∙ node-behind 0 ∙ number-first m (join m X Y)

  node_end : node (places lead cycle) ≡ turn
  unfolding node
  node_end = ap (number_on m whole) (sym (length-append lead cycle)) ∙ number-last m whole

  node-met : node (length lead + length before) ≡ met
  node-met = let e : length before ≡ length before + 0 = omega arith in node-behind (length before) ∙ ap (number_on m (join m X Y)) e ∙ number_behind m X Y 0 ∙ number-first m Y

  -- the numbers of the run
  run : ℕ → ℕ
  run i = node (at lead cycle repeats i)

  node-next : (p : ℕ) → p < places lead cycle → node (suc p) ≡ node (next_place_lem lead cycle p)
  node-next p l =
      by_cases (ℕ_discrete (suc p) (places lead cycle))
      (λ e. ap node e ∙ node_end ∙ sym node-turn ∙ ap node (sym (next-place-last lead cycle p e)))
      (λ n. ap node (sym (next-place-other lead cycle p n)))

  moves-on : (p : ℕ) → p < places lead cycle → (t : ℕ) × Memᴰ t m × Leads t (node p) (letter_at_lem lead cycle p) (node (next_place_lem lead cycle p))
  unfolding letter_at_lem node
  moves-on p l =
      let s = number_step m whole p (rw length-append l) in
      (s.0, s.1, record { source = s.2.source; letter = s.2.letter; target = s.2.target ∙ node-next p l })

  -- the accepting number stands at a place of the cycle
  met-place : (e : ℕ) × (e < length cycle) × (node (length lead + e) ≡ met)
  met-place =
      let n = length-append before after in
      by_cases (dec_lt (length before) (length cycle))
      (λ l. (length before, l, node-met))
      (λ l. let f : length lead + 0 ≡ length lead = omega arith in
      let g : places lead cycle ≡ length lead + length before = omega arith in
      (0, repeats, ap node f ∙ node-turn ∙ sym node_end ∙ ap node g ∙ node-met))

  steps_on : (i : ℕ) → (t : ℕ) × Memᴰ t m × Leads t (run i) (letters lead cycle i) (run (suc i))
  unfolding run place
  steps_on i = moves-on (at lead cycle repeats i) (places-low lead cycle repeats i)

  goes-round : begun start (get_or codes first 0) ≡ true → is_accepting_lem (get_or codes met 0) ≡ true → AcceptingRun codes m start (letters lead cycle) run
  unfolding run place
  goes-round b a =
      let e : node (at lead cycle repeats 0) ≡ first = node-first in
      record {
        run = record {
          within = λ i. let s = steps_on i in rw (sym s.2.source) (inside.sources s.0 s.1);
          begins = rw e b;
          moves = steps_on;
        };
        again = λ i.
            let v = met-place in
            let j = place-later lead cycle repeats v.0 v.1 i in
            (j.0, j.1, ap (λ (p : ℕ). is_accepting_lem (get_or codes (node p) 0)) j.2 ∙ ap (λ (x : ℕ). is_accepting_lem (get_or codes x 0)) v.2 ∙ a);
      }

-- a lasso of a table is an accepting run over its word
pub lasso-run : (codes m : List ℕ) (start : Set) → Inside (length codes) m → (lead cycle : List ℕ) → 0 < length cycle → Lasso codes m start lead cycle
    → (x : ℕ → ℕ) × AcceptingRun codes m start (letters lead cycle) x
lasso-run codes m start I lead cycle h L =
    let k : 0 < length (L.before ++ L.after) = rw (← L.parts) h in
    rw L.parts (
      run codes start I k L.there L.onto L.back,
      goes-round codes start I k L.there L.onto L.back L.begins L.accepts,
    )

-- the letters on a way are those of listed transitions
way-letters : {m : List ℕ} (s : ℕ) → ((t : ℕ) → Memᴰ t m → letter_of_lem t < s) → {x y : ℕ} {w : List ℕ} → Way m x w y → {a : ℕ} → Memᴰ a w → a < s
way-letters s low stay k = absurd (Memᴰ.not-nil k)
way-letters s low (go t l d W) k = ⊎_elim (λ e. let n = low t l in omega (arith, e, d.letter)) (λ n. way-letters s low W n) (Memᴰ.cases_cons k)

-- its word is one over the letters of the table's transitions
pub lasso-word : (codes m : List ℕ) (start : Set) (s : ℕ) → ((t : ℕ) → Memᴰ t m → letter_of_lem t < s) → (lead cycle : List ℕ) → 0 < length cycle → Lasso codes m start lead cycle →
    WordOver s lead cycle
lasso-word codes m start s low lead cycle h L = record {
  repeats = h;
  lead_letters = λ a k. way-letters s low L.there k;
  cycle_letters = λ a k. way-letters s low (join m L.onto L.back) (rw (← L.parts) k);
}
