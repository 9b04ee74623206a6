-- The part of the marks that belongs to the cycle.
use mathlib.Core.Path.{◌≡◌, sym, ap, ◌∙◌}
use mathlib.Core.List.{List, ◌++◌}
use Prim.Native.Nat.{ℕ, ◌+◌, ◌-◌, ◌*◌, ◌<◌, ◌≤◌}
use native.Mathlib.Omega.{arith}
use native.Mathlib.Nat.{mul_comm, add-mul, one-mul, mul-le-mul_right}
use lib.ListN.{length, get_or, take, drop, length-append, length-take, length-drop, get_or-append}
use lib.Seq.{get_or-append-add, get_or-take, length-take-le}

-- ---- sizes

-- n is the number of codes, counted as k
module _ (lead cycle n k marks : ℕ) (same : k ≡ n) (e : marks ≡ n * (lead + cycle)) where
  pub parts-sum : lead * k + cycle * k ≡ marks
  parts-sum = rw same (sym (e ∙ mul_comm n (lead + cycle) ∙ add-mul lead cycle n))

  pub cycle-room : 0 < cycle → lead * k + k ≤ marks
  cycle-room l = let h : 1 * k ≤ cycle * k = mul-le-mul_right k l in omega (arith, parts-sum, one-mul k)

-- the end of a list
pub end-length : (xs : List ℕ) (a : ℕ) → a ≤ length xs → length (take (length xs - a) (drop a xs)) ≡ length xs - a
end-length xs a fits = simp (length-take, length-drop) (omega arith)

-- ---- a list with another one in place of its end

module _ (xs ys : List ℕ) (a : ℕ) (fits : a ≤ length xs) (long : length ys ≡ length xs - a) where
  abbrev whole : List ℕ
  whole = take a xs ++ (ys ++ drop (length xs - a) (drop a xs))

  pub whole_length : length whole ≡ length xs
  whole_length = simp (length-append, length-take, length-drop) (omega arith)

  pub whole-front : (x : ℕ) → x < a → get_or whole x 0 ≡ get_or xs x 0
  whole-front x l =
      let e = length-take-le a xs fits in
      get_or-append (take a xs) (ys ++ drop (length xs - a) (drop a xs)) 0 x (omega arith) ∙ get_or-take a xs x 0 l

  pub whole-end : (m : ℕ) → m < length ys → get_or whole (a + m) 0 ≡ get_or ys m 0
  whole-end m l =
      let e = length-take-le a xs fits in
      ap (λ (k : ℕ). get_or whole (k + m) 0) (sym e)
      ∙ get_or-append-add (take a xs) (ys ++ drop (length xs - a) (drop a xs)) m 0
      ∙ get_or-append ys (drop (length xs - a) (drop a xs)) 0 m l
