-- Parts written and read in the bytes of state.
use mathlib.Core.Path.{◌≡◌, refl, sym, ap, ◌∙◌}
use mathlib.Core.List.{List, [], ◌++◌, append_assoc}
use Prim.Native.Nat.{ℕ, ◌+◌, ◌≤◌, ◌<◌}
use native.Mathlib.Omega.{arith}
use lib.ListN.{length, get_or, take, drop, length-append, get_or-append}
use lib.Seq.{get_or-append-add}
use Rattle.live_spec.specs.State.{set_at, number_at_lem}
use Rattle.live_spec.specs.Effects.{put}
use Rattle.live_laws.proofs.Parts.{put_front, put-behind, put-part, part-front, drop-behind, number_read}

-- ---- a part B behind A, written and read

put_in : (at i : ℕ) (v A B C : List ℕ) → at ≡ length A + i → i + length v ≤ length B → put at v (A ++ (B ++ C)) ≡ A ++ (put i v B ++ C)
put_in at i v A B C e h = put-behind at i v A (B ++ C) e ∙ ap (λ (x : List ℕ). A ++ x) (put_front i v B C h)

part_in : (at i k : ℕ) (A B C : List ℕ) → at ≡ length A + i → i + k ≤ length B → take k (drop at (A ++ (B ++ C))) ≡ take k (drop i B)
part_in at i k A B C e h = ap (take k) (drop-behind at i A (B ++ C) e) ∙ part-front i k B C h

number_in : (at i : ℕ) (A B C : List ℕ) → at ≡ length A + i → i + 2 ≤ length B → number_at_lem (A ++ (B ++ C)) at ≡ number_at_lem B i
number_in at i A B C e h = number_read (A ++ (B ++ C)) at ∙ ap (λ (x : List ℕ). number_at_lem x 0) (part_in at i 2 A B C e h) ∙ sym (number_read B i)

-- ---- the parts of state

-- number of letters, flags, numbers of the marks' letters, letters, marks' letters, set; and the rest as lent
unfoldable pub laid : List ℕ → List ℕ → List ℕ → List ℕ → List ℕ → List ℕ → List ℕ → List ℕ
laid number flags numbers letters marks set rest = number ++ (flags ++ (numbers ++ (letters ++ (marks ++ (set ++ rest)))))

-- the lengths of the parts
pub record Long (number flags numbers letters marks set : List ℕ) : Type 0 where
  pub number-long : length number ≡ 2
  pub flags_long : length flags ≡ 16
  pub numbers-long : length numbers ≡ 32
  pub letters-long : length letters ≡ 512
  pub marks-long : length marks ≡ 8192
  pub set_long : length set ≡ 65536

module _ {number flags numbers letters marks set : List ℕ} (rest : List ℕ) (L : Long number flags numbers letters marks set) where
  -- what stands in front of the letters, of the marks' letters and of the set
  abbrev front : List ℕ
  front = (number ++ flags) ++ numbers

  front_long : length front ≡ 50
  front_long = simp length-append (omega arith)

  before-set : length ((front ++ letters) ++ marks) ≡ set_at
  before-set = simp length-append (omega arith)

  abbrev whole : List ℕ
  whole = laid number flags numbers letters marks set rest

  -- ---- written

  pub put-number : (v : List ℕ) → length v ≡ 2 → put 0 v whole ≡ laid v flags numbers letters marks set rest
  unfolding laid
  put-number v e = put-part v number (flags ++ (numbers ++ (letters ++ (marks ++ (set ++ rest))))) (e ∙ sym L.number-long)

  pub put-flag : (m : ℕ) (v : List ℕ) → m + length v ≤ 16 → put (2 + m) v whole ≡ laid number (put m v flags) numbers letters marks set rest
  unfolding laid
  put-flag m v h = put_in (2 + m) m v number flags (numbers ++ (letters ++ (marks ++ (set ++ rest)))) (omega arith) (omega arith)

  pub put-numbers : (at : ℕ) (v : List ℕ) → at + length v ≤ 32 → put (18 + at) v whole ≡ laid number flags (put at v numbers) letters marks set rest
  unfolding laid
  put-numbers at v h =
      simp append_assoc at (put_in (18 + at) at v (number ++ flags) numbers (letters ++ (marks ++ (set ++ rest))) (omega (arith, length-append number flags)) (omega arith))

  pub put-letters : (at : ℕ) (v : List ℕ) → at + length v ≤ 512 → put (50 + at) v whole ≡ laid number flags numbers (put at v letters) marks set rest
  unfolding laid
  put-letters at v h = simp append_assoc at (put_in (50 + at) at v front letters (marks ++ (set ++ rest)) (omega (arith, front_long)) (omega arith))

  pub put-marks : (at : ℕ) (v : List ℕ) → at + length v ≤ 8192 → put (562 + at) v whole ≡ laid number flags numbers letters (put at v marks) set rest
  unfolding laid
  put-marks at v h =
      simp append_assoc at (put_in (562 + at) at v (front ++ letters) marks (set ++ rest) (omega (arith, front_long, length-append front letters)) (omega arith))

  pub put-set : (v : List ℕ) → length v ≤ 65536 → put set_at v whole ≡ laid number flags numbers letters marks (put 0 v set) rest
  unfolding laid
  put-set v h = simp append_assoc at (put_in set_at 0 v ((front ++ letters) ++ marks) set rest (omega (arith, before-set)) (omega arith))

  -- ---- read

  pub read_number : number_at_lem whole 0 ≡ number_at_lem number 0
  unfolding laid
  read_number = number_in 0 0 [] number (flags ++ (numbers ++ (letters ++ (marks ++ (set ++ rest))))) refl (omega arith)

  pub read-numbers : (at : ℕ) → at + 2 ≤ 32 → number_at_lem whole (18 + at) ≡ number_at_lem numbers at
  unfolding laid
  read-numbers at h =
      simp append_assoc at (number_in (18 + at) at (number ++ flags) numbers (letters ++ (marks ++ (set ++ rest))) (omega (arith, length-append number flags)) (omega arith))

  pub read_letters : (k : ℕ) → k ≤ 512 → take k (drop 50 whole) ≡ take k letters
  unfolding laid
  read_letters k h = simp append_assoc at (part_in 50 0 k front letters (marks ++ (set ++ rest)) (omega (arith, front_long)) (omega arith))

  pub read-marks : (at k : ℕ) → at + k ≤ 8192 → take k (drop (562 + at) whole) ≡ take k (drop at marks)
  unfolding laid
  read-marks at k h =
      simp append_assoc at (part_in (562 + at) at k (front ++ letters) marks (set ++ rest) (omega (arith, front_long, length-append front letters)) (omega arith))

  pub read_set : drop set_at whole ≡ set ++ rest
  unfolding laid
  read_set = simp append_assoc at (drop-behind set_at 0 ((front ++ letters) ++ marks) (set ++ rest) (omega (arith, before-set)))

  pub read-flag : (m : ℕ) → m < 16 → get_or whole (2 + m) 0 ≡ get_or flags m 0
  unfolding laid
  read-flag m h =
      ap (λ (k : ℕ). get_or whole (k + m) 0) (sym L.number-long)
      ∙ get_or-append-add number (flags ++ (numbers ++ (letters ++ (marks ++ (set ++ rest))))) m 0
      ∙ get_or-append flags (numbers ++ (letters ++ (marks ++ (set ++ rest)))) 0 m (omega arith)
