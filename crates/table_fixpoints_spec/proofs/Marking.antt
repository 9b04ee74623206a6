-- The laws of marking along the transitions over a letter.
use mathlib.Core.Path.{◌≡◌, refl}
use mathlib.Core.Bool.{false}
use mathlib.Core.List.{List, [], ◌∷◌, Memᴰ}
use Prim.Native.Nat.{ℕ, ◌+◌}
use lib.Dec.{eqb}
use borrow.Author.Tests.{eqb-true, eqb-false, eq-eqb, ne_eqb}
use Rattle.sets.proofs.Bools.{bif}
use Rattle.theory.specs.Run.{source_of, letter_of_lem, target_of}
use Rattle.graph_walks.specs.Marks.{is_due, marked, is_new}
use Rattle.graph_walks.specs.Rounds.{Marking}
use Rattle.graph_walks.proofs.Loops.{Pass, round-pass, marking-pass}
use Rattle.graph_walks.proofs.Marking.{Round, round-none, round-one, round-of, marking-one}
use Rattle.table_fixpoints_spec.specs.Marks.{marked_over, is_new_over, marked_all, is_new_all}

-- ---- examples

-- a transition over another letter
other-letter : marked_over 0 2 0 16842752 (2 ∷ 1 ∷ 1 ∷ 1 ∷ []) ≡ 2 ∷ 1 ∷ 1 ∷ 1 ∷ []
unfolding is_due marked marked_over
other-letter = refl

-- and over the letter: from 1 at the last place to 0 at the first
that-letter : marked_over 1 2 0 16842752 (2 ∷ 1 ∷ 1 ∷ 1 ∷ []) ≡ 2 ∷ 1 ∷ 1 ∷ 3 ∷ []
unfolding is_due marked marked_over
that-letter = refl

-- ---- transitions over a letter

-- the edge of a listed transition
pub record Over (letter here there : ℕ) (ts : List ℕ) (x y : ℕ) : Type 0 where
  pub transition : ℕ
  pub listed : Memᴰ transition ts
  pub over : letter_of_lem transition ≡ letter
  pub source : x ≡ here + source_of transition
  pub target : y ≡ there + target_of transition

module _ (letter here there : ℕ) where
  -- the edge of one
  abbrev pub OverBy : ℕ → ℕ → ℕ → Type 0
  OverBy t x y = (letter_of_lem t ≡ letter) × (x ≡ here + source_of t) × (y ≡ there + target_of t)

  module _ (t : ℕ) (ms : List ℕ) where
    pub over_yes : letter_of_lem t ≡ letter → (marked (here + source_of t) (there + target_of t) ms ≡ marked_over letter here there t ms)
        × (is_new (here + source_of t) (there + target_of t) ms ≡ is_new_over letter here there t ms)
    unfolding marked_over is_new_over
    over_yes e = let q = eq-eqb (letter_of_lem t) letter e in (rw q, rw q)

    pub over_no : (letter_of_lem t ≡ letter → ⊥) → (ms ≡ marked_over letter here there t ms) × (false ≡ is_new_over letter here there t ms)
    unfolding marked_over is_new_over
    over_no n = let q = ne_eqb (letter_of_lem t) letter n in (rw q, rw q)

  pub round-over : (t : ℕ) (ms : List ℕ) → Round (OverBy t) ms (marked_over letter here there t ms) (is_new_over letter here there t ms)
  unfolding marked_over is_new_over
  round-over t ms =
      bif (eqb (letter_of_lem t) letter)
      (λ e. rw e (round-of _ _ (λ x y o. (o.1, o.2)) _ _ _ (round-one (here + source_of t) (there + target_of t) ms)))
      (λ e. rw e (round-none _ (λ x y o. eqb-false (letter_of_lem t) letter e o.0) ms))

  pub pass-over : Pass (marked_over letter here there) (is_new_over letter here there) (marked_all letter here there) (is_new_all letter here there)
  unfolding marked_all is_new_all
  pass-over = record {
    long = λ t ms. (round-over t ms).long;
    mark-none = λ ms. refl;
    mark-next = λ t ts ms. refl;
    new_none = λ ms. refl;
    new-next = λ t ts ms. refl;
  }

  pub round-all : (ts ms : List ℕ) → Round (Over letter here there ts) ms (marked_all letter here there ts ms) (is_new_all letter here there ts ms)
  round-all ts ms = round-of _ (Over letter here there ts) (λ x y o. (o.transition, o.listed, (o.over, o.source, o.target))) ms _ _ (round-pass pass-over OverBy round-over ts ms)

  -- ---- only what has a walk to an accepting node is marked

  module _ (E : ℕ → ℕ → Type 0) (b : List ℕ) where
    marking-over : (t : ℕ) (ms : List ℕ) → ((x y : ℕ) → OverBy t x y → E x y) → Marking E b ms → Marking E b (marked_over letter here there t ms)
    unfolding marked_over
    marking-over t ms e m =
        bif (eqb (letter_of_lem t) letter)
        (λ f. rw f (marking-one E b (here + source_of t) (there + target_of t) (e _ _ (eqb-true (letter_of_lem t) letter f, refl, refl)) ms m))
        (λ f. rw f m)

    pub marking-all : (ts : List ℕ) → ((x y : ℕ) → Over letter here there ts x y → E x y) → (ms : List ℕ) → Marking E b ms → Marking E b (marked_all letter here there ts ms)
    marking-all ts e =
        marking-pass pass-over OverBy E b marking-over ts (λ t x y m o. e x y (record { transition = t; listed = m; over = o.0; source = o.1; target = o.2 }))
