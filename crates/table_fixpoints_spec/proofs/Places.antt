-- Edges by their places: what marking does at one place.
use mathlib.Core.Path.{◌≡◌, refl, sym, ap, ◌∙◌}
use mathlib.Core.Logic.{◌⊎◌, ⊎_elim}
use mathlib.Core.Bool.{true, false}
use mathlib.Core.List.{List, [], Memᴰ, ◌∷◌}
use Prim.Native.Nat.{ℕ, ◌+◌, ◌-◌, ◌*◌, ◌/◌, ◌≤◌, ◌<◌}
use native.Mathlib.Omega.{arith}
use native.Mathlib.Nat.{suc-mul, zero-mul, mul-le-mul_right}
use lib.Arith.{digits_lt, digits_div}
use lib.ListN.{length, get_or}
use Rattle.sets.specs.Lists.{tabulate}
use Rattle.theory.specs.Run.{source_of, target_of}
use Rattle.theory.specs.Word.{next_place_lem, letter_at_lem}
use Rattle.theory_laws.proofs.Places.{next-place-last, next-place-other, next-place-low}
use Rattle.graph_walks.specs.Walks.{Toward}
use Rattle.graph_walks.specs.Marks.{is_due, marked, is_new}
use Rattle.graph_walks.specs.Rounds.{Marking}
use Rattle.graph_walks.proofs.Marking.{Round, round-of, marking-start}
use Rattle.table_fixpoints_spec.specs.Product.{NodeEdge, Fits}
use Rattle.table_fixpoints_spec.specs.Marks.{marked_at, is_new_at, turned, ordered, marked_over, is_new_over, marked_all, is_new_all}
use Rattle.table_fixpoints_spec.proofs.Marking.{Over, round-all, marking-all}

-- ---- examples: two codes, letters 0 and 1 in turn, a transition from 0 over 0 to 1 and one from 1 over 1 to 0: an endless walk along nodes 0 and 3

abbrev pub example_cycle : List ℕ
example_cycle = 0 ∷ 1 ∷ []

abbrev pub example_transitions : List ℕ
example_transitions = 1 ∷ 16842752 ∷ []

abbrev pub ExampleEdge : ℕ → ℕ → Type 0
ExampleEdge = NodeEdge 2 example_cycle example_transitions

pub on : ExampleEdge 0 3
unfolding next_place_lem letter_at_lem
on = record { place = 0; transition = 1; inside = omega arith; listed = Memᴰ.head refl; letter = refl; source = refl; target = refl }

pub around : ExampleEdge 3 0
unfolding next_place_lem letter_at_lem
around = record { place = 1; transition = 16842752; inside = omega arith; listed = Memᴰ.tail (Memᴰ.head refl); letter = refl; source = refl; target = refl }

-- node 0 accepting: the last place, then the first
last-place : marked_at 2 example_cycle example_transitions 1 (2 ∷ 1 ∷ 1 ∷ 1 ∷ []) ≡ 2 ∷ 1 ∷ 1 ∷ 3 ∷ []
unfolding is_due marked marked_over marked_all next_place_lem letter_at_lem
last-place = refl

first-place : (marked_at 2 example_cycle example_transitions 0 (2 ∷ 1 ∷ 1 ∷ 3 ∷ []) ≡ 4 ∷ 1 ∷ 1 ∷ 3 ∷ []) × (is_new_at 2 example_cycle example_transitions 0 (2 ∷ 1 ∷ 1 ∷ 3 ∷ []) ≡ false)
unfolding is_due marked is_new marked_over is_new_over marked_all is_new_all next_place_lem letter_at_lem
first-place = (refl, refl)

-- three codes and the cycle 0: transitions from 0 to 1 and from 1 to 2, which is accepting; from the first on one node is marked, from the last on both are
chain-forward : marked_at 3 (0 ∷ []) (ordered false (1 ∷ 16777218 ∷ [])) 0 (1 ∷ 1 ∷ 2 ∷ []) ≡ 1 ∷ 3 ∷ 2 ∷ []
unfolding is_due marked marked_over marked_all next_place_lem letter_at_lem
chain-forward = refl

chain_back : marked_at 3 (0 ∷ []) (ordered true (1 ∷ 16777218 ∷ [])) 0 (1 ∷ 1 ∷ 2 ∷ []) ≡ 3 ∷ 3 ∷ 2 ∷ []
unfolding is_due marked marked_over marked_all next_place_lem letter_at_lem turned tabulate
chain_back = refl

-- ---- numbers

-- place p has room for n nodes
pub place-room : (n p l : ℕ) → p < l → p * n + n ≤ l * n
place-room n p l h = rw (sym (suc-mul p n)) (mul-le-mul_right n h)

-- a node between p * n and p * n + n is one at place p
pub same_place : (n p q s : ℕ) → s < n → p * n ≤ q * n + s → q * n + s < p * n + n → q ≡ p
same_place n p q s l a b =
    let r : ℕ = q * n + s - p * n in
    let e : p * n + r ≡ q * n + s = omega arith in
    sym (digits_div q {m = n} {r = s} l) ∙ ap (λ (k : ℕ). k / n) (sym e) ∙ digits_div p {m = n} {r = r} (omega arith)

-- the first node of the place that follows
module _ (cycle : List ℕ) (p : ℕ) where
  pub there-last : (n : ℕ) → p + 1 ≡ length cycle → next_place_lem [] cycle p * n ≡ 0
  there-last n e = rw (next-place-last [] cycle p (omega arith)) (zero-mul n)

  pub there-other : (n : ℕ) → (p + 1 ≡ length cycle → ⊥) → next_place_lem [] cycle p * n ≡ p * n + n
  there-other n e = rw (next-place-other [] cycle p (λ x. e (omega arith))) (suc-mul p n)

-- ---- marks fit a table

module _ {n : ℕ} {cycle ts ms : List ℕ} where
  pub fits-long : {new : List ℕ} → length new ≡ length ms → Fits n cycle ts ms → Fits n cycle ts new
  fits-long e f = record { repeats = f.repeats; marked = e ∙ f.marked; sources = f.sources; targets = f.targets }

  -- both ends of a transition have marks
  pub ends-fit : Fits n cycle ts ms → (p : ℕ) → p < length cycle → (t : ℕ) → Memᴰ t ts
      → (p * n + source_of t < length ms) × (next_place_lem [] cycle p * n + target_of t < length ms)
  ends-fit f p l t m = (
    rw f.marked (digits_lt {q = p} {m = length cycle} {c = n} l (f.sources t m)),
    rw f.marked (digits_lt {q = next_place_lem [] cycle p} {m = length cycle} {c = n} (let k = next-place-low [] cycle f.repeats p (omega arith) in omega arith) (f.targets t m)),
  )

-- ---- marking at one place

toward-edge : (E : ℕ → ℕ → Type 0) (b : List ℕ) {x : ℕ} → Toward E b x → (y : ℕ) × E x y
toward-edge E b (Toward.arrives y e h) = (y, e)
toward-edge E b (Toward.passes y e h t) = (y, e)

module _ (n : ℕ) (cycle ts : List ℕ) where
  abbrev pub At : ℕ → ℕ → ℕ → Type 0
  At p x y = (e : NodeEdge n cycle ts x y) × (e.place ≡ p)

  abbrev OverAt : ℕ → ℕ → ℕ → Type 0
  OverAt p x y = Over (letter_at_lem [] cycle p) (p * n) (next_place_lem [] cycle p * n) ts x y

  edge-over : (p x y : ℕ) → At p x y → OverAt p x y
  edge-over p x y a = let e = a.0 in let t = e.transition in record {
    transition = t;
    listed = e.listed;
    over = e.letter ∙ ap (letter_at_lem [] cycle) a.1;
    source = e.source ∙ ap (λ (q : ℕ). q * n + source_of t) a.1;
    target = e.target ∙ ap (λ (q : ℕ). next_place_lem [] cycle q * n + target_of t) a.1;
  }

  over-edge : (p : ℕ) → p < length cycle → (x y : ℕ) → OverAt p x y → At p x y
  over-edge p l x y o = (
    record { place = p; transition = o.transition; inside = l; listed = o.listed; letter = o.over; source = o.source; target = o.target },
    refl,
  )

  pub round-at : (p : ℕ) (ms : List ℕ) → Round (At p) ms (marked_at n cycle ts p ms) (is_new_at n cycle ts p ms)
  round-at p ms = round-of _ _ (edge-over p) _ _ _ (round-all (letter_at_lem [] cycle p) (p * n) (next_place_lem [] cycle p * n) ts ms)

  pub at_long : (p : ℕ) (ms new : List ℕ) → new ≡ marked_at n cycle ts p ms → length new ≡ length ms
  at_long p ms new e = ap length e ∙ (round-at p ms).long

  module _ (E : ℕ → ℕ → Type 0) (b : List ℕ) where
    pub marking-at : (p : ℕ) → p < length cycle → ((x y : ℕ) → At p x y → E x y) → (ms : List ℕ) → Marking E b ms → Marking E b (marked_at n cycle ts p ms)
    marking-at p l e ms m = marking-all (letter_at_lem [] cycle p) (p * n) (next_place_lem [] cycle p * n) E b ts (λ x y o. e x y (over-edge p l x y o)) ms m

  -- nodes at other places stay as they are
  pub elsewhere : (ms : List ℕ) (p : ℕ) → Fits n cycle ts ms → p < length cycle → (x : ℕ) → (x < p * n) ⊎ (p * n + n ≤ x) → get_or (marked_at n cycle ts p ms) x 0 ≡ get_or ms x 0
  elsewhere ms p f l x o =
      ⊎_elim (λ e. e)
      (λ t. let a = (toward-edge (At p) ms {x = x} t.2).1 in
      let e = a.0 in
      let k : x ≡ p * n + source_of e.transition = e.source ∙ ap (λ (i : ℕ). i * n + source_of e.transition) a.1 in
      let h = f.sources _ e.listed in
      absurd (⊎_elim (λ a. omega arith) (λ a. omega arith) o))
      ((marking-at (At p) ms p l (λ x y a. a) ms (marking-start (At p) ms)).each x)
