-- The steps of a pair, transition by transition of the second table's row.
use mathlib.Core.Path.{◌≡◌, refl, sym}
use mathlib.Core.List.{List}
use Prim.Native.Nat.{ℕ, ◌+◌, ◌*◌, ◌≤◌, ◌<◌}
use native.Mathlib.Omega.{arith}
use lib.Arith.{digits_lt}
use lib.ListN.{length, get_or}
use Rattle.slice_search.specs.Places.{below}
use Rattle.theory.specs.Run.{source_of, letter_of_lem, target_of}
use Rattle.stricter_spec.specs.Search.{Searchable}
use Rattle.stricter_laws.specs.Pairs.{PairStep, PairEdge, Paired, RowCut, Beside}
use Rattle.stricter_laws.proofs.Rows.{Walked, walked_next, beside-step, step-walked}
use Rattle.stricter_laws.specs.Forest.{Marked, Tried}
use Rattle.stricter_laws.proofs.Forest.{tried-start, tried-next, tried-end}

module _ {nb : ℕ} {ma mb : List ℕ} {size : ℕ} (paired : Paired nb ma mb size) (j : ℕ) (j-low : j < nb) (i : ℕ) (cuts : List ℕ) (cut : RowCut ma i cuts) (base : ℕ) where
  pub expand-start : (k : ℕ) (ms : List ℕ) → k ≡ below (j * 16777216) mb → Tried (PairStep nb ma mb (i * nb + j)) (Walked nb ma mb j cuts k) base ms ms
  expand-start k ms e = tried-start ms (λ y w. omega (arith, w.1, w.2))

  pub expand-next : 1 < base → (old ms new : List ℕ) (k a q : ℕ) → k < length mb → source_of (get_or mb k 0) ≡ j → a ≡ letter_of_lem (get_or mb k 0) → q ≡ target_of (get_or mb k 0)
      → Tried (PairStep nb ma mb (i * nb + j)) (Walked nb ma mb j cuts k) base old ms
      → Marked (Beside nb ma (get_or cuts a 0) (get_or cuts (a + 1) 0) q) (base + 4 * a) ms new
      → Tried (PairStep nb ma mb (i * nb + j)) (Walked nb ma mb j cuts (k + 1)) base old new
  expand-next big old ms new k a q l s e f t m =
      let u = get_or mb k 0 in
      let here : Marked (Beside nb ma (get_or cuts (letter_of_lem u) 0) (get_or cuts (letter_of_lem u + 1) 0) (target_of u)) (base + 4 * letter_of_lem u) ms new = rw (sym e, sym f) m in
      tried-next
      (Walked nb ma mb j cuts (k + 1)) (letter_of_lem u) big
      (λ y b. beside-step paired j j-low i cuts cut k l s b)
      (λ y w. walked_next nb ma mb j cuts k u refl w) t here

  pub expand-end : {old new : List ℕ} (k : ℕ) → below (j * 16777216) mb ≤ k → (k < length mb → source_of (get_or mb k 0) ≡ j → ⊥)
      → Tried (PairStep nb ma mb (i * nb + j)) (Walked nb ma mb j cuts k) base old new
      → Tried (PairStep nb ma mb (i * nb + j)) (PairEdge nb ma mb (i * nb + j)) base old new
  expand-end {old = old} {new = new} k l end t = tried-end (PairEdge nb ma mb (i * nb + j))
      (λ y e. step-walked paired j j-low i cuts cut k l end y e) t

-- ---- two tables that the search takes

module _ {ca ma cb mb : List ℕ} (A : Searchable ca ma) (B : Searchable cb mb) where
  pub searchable-paired : Paired (length cb) ma mb (length ca * length cb)
  searchable-paired = record {
    ascend_a = A.ascend;
    ascend_b = B.ascend;
    lettered = B.lettered;
    sources = B.inside.sources;
    targets = B.inside.targets;
    from = λ t q m l. digits_lt {q = source_of t} {m = length ca} {c = length cb} (A.inside.sources t m) l;
    onto = λ t q m l. digits_lt {q = target_of t} {m = length ca} {c = length cb} (A.inside.targets t m) l;
  }
