-- A loop over a list that marks: what is done and what is left make the whole.
use mathlib.Core.Path.{◌≡◌, refl, sym, ap, ◌∙◌}
use mathlib.Core.Logic.{◌⊎◌, inl, inr, ⊎_elim}
use mathlib.Core.Bool.{Bool, true, false, ◌||◌, or-false, or-true, or_assoc}
use mathlib.Core.List.Memᴰ
use mathlib.Core.List.{List, [], ◌∷◌, Memᴰ}
use Prim.Native.Nat.{ℕ, ◌+◌, ◌≤◌, ◌<◌}
use lib.ListN.{length, get_or, drop, drop_of_length-le}
use Rattle.sets.proofs.Walks.{drop-next}
use Rattle.graph_walks.specs.Rounds.{Marking}
use Rattle.graph_walks.proofs.Marking.{Round, round-none, round-then}

-- whether something is new, with one turn more
pub or-now : (a b : Bool) → b ≡ true → true ≡ (a || b)
or-now a b e = rw e (sym (or-true a))

pub or-before : (a b : Bool) → b ≡ false → a ≡ (a || b)
or-before a b e = rw e (sym (or-false a))

-- one turn marks by `mark` and says by `new` whether others may be marked for it; a pass is a turn for each member
pub record Pass (mark : ℕ → List ℕ → List ℕ) (new : ℕ → List ℕ → Bool) (markAll : List ℕ → List ℕ → List ℕ) (newIn : List ℕ → List ℕ → Bool) : Type 0 where
  pub long : (t : ℕ) (ms : List ℕ) → length (mark t ms) ≡ length ms
  pub mark-none : (ms : List ℕ) → markAll [] ms ≡ ms
  pub mark-next : (t : ℕ) (ts ms : List ℕ) → markAll (t ∷ ts) ms ≡ markAll ts (mark t ms)
  pub new_none : (ms : List ℕ) → newIn [] ms ≡ false
  pub new-next : (t : ℕ) (ts ms : List ℕ) → newIn (t ∷ ts) ms ≡ (new t ms || newIn ts (mark t ms))

module _ {mark : ℕ → List ℕ → List ℕ} {new : ℕ → List ℕ → Bool} {markAll : List ℕ → List ℕ → List ℕ} {newIn : List ℕ → List ℕ → Bool}
    (D : Pass mark new markAll newIn) (ts old : List ℕ) where
  -- members from place i on are left
  pub record PassedTo (ms : List ℕ) (changed : Bool) (i : ℕ) : Type 0 where
    pub long : length ms ≡ length old
    pub marks : markAll (drop i ts) ms ≡ markAll ts old
    pub news : (changed || newIn (drop i ts) ms) ≡ newIn ts old

  pub passed_none : PassedTo old false 0
  passed_none = record { long = refl; marks = refl; news = refl }

  -- member t, at place i; r says whether it brought something new
  pub passed-next : (ms next : List ℕ) (changed r now : Bool) (i t : ℕ) → i < length ts → PassedTo ms changed i → t ≡ get_or ts i 0
      → next ≡ mark t ms → r ≡ new t ms → now ≡ (changed || r) → PassedTo next now (i + 1)
  passed-next ms next changed r now i t l w q e f g =
      let us = drop (i + 1) ts in
      let d : drop i ts ≡ t ∷ us = drop-next ts i l ∙ ap (λ (x : ℕ). x ∷ us) (sym q) in
      record {
        long = ap length e ∙ D.long t ms ∙ w.long;
        marks = ap (markAll us) e ∙ sym (D.mark-next t us ms) ∙ ap (λ (l : List ℕ). markAll l ms) (sym d) ∙ w.marks;
        news = ap (λ (l : List ℕ). now || newIn us l) e
            ∙ ap (λ (b : Bool). b || newIn us (mark t ms)) (g ∙ ap (λ (b : Bool). changed || b) f)
            ∙ or_assoc changed (new t ms) (newIn us (mark t ms))
            ∙ ap (λ (b : Bool). changed || b) (sym (D.new-next t us ms) ∙ ap (λ (l : List ℕ). newIn l ms) (sym d))
            ∙ w.news;
      }

  pub passed-all : (ms : List ℕ) (changed : Bool) (i : ℕ) → length ts ≤ i → PassedTo ms changed i → (ms ≡ markAll ts old) × (changed ≡ newIn ts old)
  passed-all ms changed i l w =
      let d : drop i ts ≡ [] = drop_of_length-le ts {i = i} l in (
        sym (D.mark-none ms) ∙ ap (λ (l : List ℕ). markAll l ms) (sym d) ∙ w.marks,
        sym (or-false changed) ∙ ap (λ (b : Bool). changed || b) (sym (D.new_none ms) ∙ ap (λ (l : List ℕ). newIn l ms) (sym d)) ∙ w.news,
      )

-- ---- the edges of a pass: E t are those of member t

module _ {mark : ℕ → List ℕ → List ℕ} {new : ℕ → List ℕ → Bool} {markAll : List ℕ → List ℕ → List ℕ} {newIn : List ℕ → List ℕ → Bool}
    (D : Pass mark new markAll newIn) (E : ℕ → ℕ → ℕ → Type 0) where
  pub round-pass : ((t : ℕ) (ms : List ℕ) → Round (E t) ms (mark t ms) (new t ms))
      → (ts ms : List ℕ) → Round (λ x y. (t : ℕ) × Memᴰ t ts × E t x y) ms (markAll ts ms) (newIn ts ms)
  round-pass h [] ms = rw (D.mark-none ms, D.new_none ms) (round-none _ (λ x y e. Memᴰ.not-nil e.1) ms)
  round-pass h (t ∷ ts) ms =
      rw (D.mark-next t ts ms, D.new-next t ts ms)
      (round-then (E t) (λ x y. (u : ℕ) × Memᴰ u ts × E u x y) _
      (λ x y e. ⊎_elim (λ q. inl (rw q at e.2)) (λ m. inr (e.0, m, e.2)) (Memᴰ.cases_cons e.1)) ms _ _ _ _ (h t ms) (round-pass h ts (mark t ms)))

  -- marks that only walks of F to an accepting node give
  pub marking-pass : (F : ℕ → ℕ → Type 0) (b : List ℕ) → ((t : ℕ) (ms : List ℕ) → ((x y : ℕ) → E t x y → F x y) → Marking F b ms → Marking F b (mark t ms))
      → (ts : List ℕ) → ((t x y : ℕ) → Memᴰ t ts → E t x y → F x y) → (ms : List ℕ) → Marking F b ms → Marking F b (markAll ts ms)
  marking-pass F b h [] e ms m = rw (D.mark-none ms) m
  marking-pass F b h (t ∷ ts) e ms m =
      rw (D.mark-next t ts ms)
      (marking-pass F b h ts (λ u x y k. e u x y (Memᴰ.tail k)) (mark t ms) (h t ms (λ x y. e t x y (Memᴰ.head refl)) m))
