-- A slice that is written from its start on, block after block.
use mathlib.Core.Path.{◌≡◌, refl, sym, ◌∙◌, ap, ap₂, subst}
use mathlib.Core.List.{List, [], ◌∷◌, ◌++◌, append_assoc, append-nil}
use Prim.Native.Nat.{ℕ, ◌+◌, ◌-◌, ◌≤◌, ◌<◌}
use native.Mathlib.Omega.{arith}
use native.Mathlib.Numerals.{add-one}
use lib.ListN.{length, take, drop, set, length-append, length-drop, take-append-drop}
use lib.Seq.{take_at, drop_at, drop-drop, length-take-le, set_split}
use Rattle.judge_spec.specs.Judge.{after}

-- the first k bytes of the slice xs and those left are the whole; from byte k on the slice is as lent
pub record Front (whole lent xs : List ℕ) (k : ℕ) (left : List ℕ) : Type 0 where
  pub long : length xs ≡ length lent
  pub within : k ≤ length lent
  pub front : take k xs ++ left ≡ whole
  pub rest : drop k xs ≡ drop k lent

pub front-start : {whole lent : List ℕ} → Front whole lent lent 0 whole
front-start = record { long = refl; within = omega arith; front = refl; rest = refl }

-- one block more
pub front-block : {whole lent xs left : List ℕ} {k e : ℕ} (b : List ℕ) → Front whole lent xs k (b ++ left) → e ≡ k + length b → e ≤ length lent
    → Front whole lent (take k xs ++ (b ++ drop (e - k) (drop k xs))) e left
front-block {whole} {lent} {xs} {left} {k} {e} b F q h =
    let front : length (take k xs) ≡ k = length-take-le k xs (omega (arith, F.long, F.within)) in
    let blocks : length (take k xs ++ b) ≡ e = length-append (take k xs) b ∙ omega (arith, front) in
    let tail = drop (e - k) (drop k xs) in
    let as_one : take k xs ++ (b ++ tail) ≡ (take k xs ++ b) ++ tail = sym (append_assoc (take k xs) b tail) in
    let sum : k + (e - k) ≡ e = omega arith in
    record {
      long = ap length as_one ∙ length-append (take k xs ++ b) tail ∙ omega (arith, blocks, length-drop (e - k) (drop k xs), length-drop k xs, F.long);
      within = h;
      front = rw (as_one, take_at (take k xs ++ b) tail e blocks, append_assoc (take k xs) b left) F.front;
      rest = rw (as_one, drop_at (take k xs ++ b) tail e blocks, F.rest, drop-drop (e - k) k lent, sum) refl;
    }

-- as many bytes, told otherwise
pub front_at : {whole lent xs left : List ℕ} {k j : ℕ} → k ≡ j → Front whole lent xs k left → Front whole lent xs j left
front_at {whole} {lent} {xs} {left} e F = subst (λ (n : ℕ). Front whole lent xs n left) e F

-- one byte more
pub front-byte : {whole lent xs left : List ℕ} {v k : ℕ} → Front whole lent xs k (v ∷ left) → k < length lent → Front whole lent (set xs k v) (k + 1) left
front-byte {whole} {lent} {xs} {left} {v} {k} F h =
    let one : k + 1 - k ≡ 1 = omega arith in
    let same : take k xs ++ ((v ∷ []) ++ drop (k + 1 - k) (drop k xs)) ≡ set xs k v
    = rw (one, drop-drop 1 k xs, add-one k) (sym (set_split xs k v (omega (arith, F.long)))) in
    rw same at (front-block (v ∷ []) F refl (omega arith))

-- nothing left
pub front-end : {whole lent xs : List ℕ} {k : ℕ} → Front whole lent xs k [] → xs ≡ after 0 whole lent
unfolding after
front-end {whole} {lent} {xs} {k} F =
    let written : take k xs ≡ whole = sym (append-nil (take k xs)) ∙ F.front in
    let long : length whole ≡ k = ap length (sym written) ∙ length-take-le k xs (omega (arith, F.long, F.within)) in
    sym (take-append-drop k xs) ∙ ap₂ ◌++◌ written (F.rest ∙ ap (λ (n : ℕ). drop n lent) (sym long))
