-- A loop that moves what is kept of a list to its front: w elements are made of the first i.
use mathlib.Core.Path.{◌≡◌, sym, ap, ap₂, ◌∙◌}
use mathlib.Core.List.{List, [], ◌∷◌, ◌++◌, append_assoc, append-nil}
use Prim.Native.Nat.{ℕ, ◌+◌, ◌-◌, ◌≤◌, ◌<◌}
use native.Mathlib.Omega.{arith}
use native.Mathlib.Nat.{add-zero}
use native.Mathlib.Numerals.{add-one}
use lib.ListN.{length, get_or, set, take, drop, replicate, length-set, drop_of_length-le}
use lib.Seq.{length-take-le, get_or-drop, drop-set-lt, take-suc-set}
use Rattle.sets.proofs.Walks.{drop-next}
use Rattle.slice_search.specs.Places.{zeroed_from}

module _ (F : List ℕ → List ℕ) (old : List ℕ) where
  pub record Compacting (cur : List ℕ) (w i : ℕ) : Type 0 where
    pub behind : w ≤ i
    pub inside : i ≤ length old
    pub long : length cur ≡ length old
    pub rest : drop i cur ≡ drop i old
    pub made : take w cur ++ F (drop i old) ≡ F old

  module _ (cur : List ℕ) (w i : ℕ) (l : i < length old) (c : Compacting cur w i) where
    -- the next element is as it was
    pub compact-at : get_or cur i 0 ≡ get_or old i 0
    compact-at =
        ap (λ (k : ℕ). get_or cur k 0) (sym (add-zero i)) ∙ sym (get_or-drop i cur 0 0) ∙ ap (λ (k : List ℕ). get_or k 0 0) c.rest ∙ get_or-drop i old 0 0 ∙ ap (λ (k : ℕ). get_or old k 0) (add-zero i)

    tail-same : (xs ys : List ℕ) → drop i xs ≡ drop i ys → i < length xs → i < length ys → drop (i + 1) xs ≡ drop (i + 1) ys
    tail-same xs ys e a b = ap (drop 1) (sym (drop-next xs i a) ∙ e ∙ drop-next ys i b)

    pub compact-skip : F (get_or old i 0 ∷ drop (i + 1) old) ≡ F (drop (i + 1) old) → Compacting cur w (i + 1)
    compact-skip e = record {
      behind = let b = c.behind in omega arith;
      inside = omega arith;
      long = c.long;
      rest = tail-same cur old c.rest (let n = c.long in omega arith) l;
      made = ap (λ (k : List ℕ). take w cur ++ k) (sym e ∙ ap F (sym (drop-next old i l))) ∙ c.made;
    }

    pub compact-keep : (v : ℕ) → F (get_or old i 0 ∷ drop (i + 1) old) ≡ v ∷ F (drop (i + 1) old) → Compacting (set cur w v) (w + 1) (i + 1)
    compact-keep v e =
        let n = c.long in let b = c.behind in
        record {
          behind = omega arith;
          inside = omega arith;
          long = length-set cur w v ∙ n;
          rest = drop-set-lt (i + 1) cur w v (omega arith) ∙ tail-same cur old c.rest (omega arith) l;
          made = ap (λ (k : List ℕ). k ++ F (drop (i + 1) old)) (ap (λ (k : ℕ). take k (set cur w v)) (add-one w) ∙ take-suc-set cur w v (omega arith))
              ∙ append_assoc (take w cur) (v ∷ []) (F (drop (i + 1) old))
              ∙ ap (λ (k : List ℕ). take w cur ++ k) (sym e ∙ ap F (sym (drop-next old i l)))
              ∙ c.made;
        }

  module _ (cur : List ℕ) (w i : ℕ) (l : length old ≤ i) (none : F [] ≡ []) (c : Compacting cur w i) where
    pub compact-front : take w cur ≡ F old
    compact-front =
        sym (append-nil (take w cur)) ∙ ap (λ (k : List ℕ). take w cur ++ k) (sym (ap F (drop_of_length-le old {i = i} l) ∙ none)) ∙ c.made

    pub compact-count : w ≡ length (F old)
    compact-count = let n = c.long in let b = c.behind in let h = c.inside in sym (length-take-le w cur (omega arith)) ∙ ap length compact-front

    -- and zeros behind them
    pub compact-end : zeroed_from w cur ≡ F old ++ replicate (length old - length (F old)) 0
    compact-end = ap₂ (λ (k : List ℕ) (m : ℕ). k ++ replicate m 0) compact-front (ap₂ (λ (a b : ℕ). a - b) c.long compact-count)
