-- Keys become codes, one after the other.
use mathlib.Core.Path.{◌≡◌, refl, ap, sym, ◌∙◌}
use mathlib.Core.List.{List, [], ◌∷◌, ◌++◌, map}
use Prim.Native.Nat.{ℕ, zero, suc, ◌+◌, ◌*◌, ◌/◌, ◌%◌, ◌^◌, ◌≤◌, ◌<◌}
use native.Mathlib.Omega.{arith}
use native.Mathlib.Nat.{mod-eq_of_lt}
use native.Mathlib.Numerals.{add-one}
use lib.ListN.{length, get_or, drop, set}
use lib.Bits.{bit_and, bit_or, and_mask, or_shifted}
use Rattle.build_spec.specs.Keys.{code_of}
use Rattle.build_closure.specs.Closure.{keys_of}

-- the first i elements as codes, the others as they were
abbrev pub coded : ℕ → List ℕ → List ℕ
coded i xs = map code_of (keys_of i xs) ++ drop i xs

here : (i : ℕ) (xs : List ℕ) → get_or (coded i xs) i 0 ≡ get_or xs i 0
here zero xs = refl
here (suc i) [] = refl
here (suc i) (x ∷ xs) = here i xs

coded-suc : (i : ℕ) (xs : List ℕ) → i < length xs → set (coded i xs) i (code_of (get_or xs i 0 % 2 ^ 48)) ≡ coded (suc i) xs
coded-suc i [] h = absurd (omega arith)
coded-suc zero (x ∷ xs) h = refl
coded-suc (suc i) (x ∷ xs) h = ap (λ (l : List ℕ). code_of (x % 2 ^ 48) ∷ l) (coded-suc i xs (omega arith))

-- the codes, one by one
pub coded-at : (n p : ℕ) (xs : List ℕ) → p < n → n ≤ length xs → get_or (coded n xs) p 0 ≡ code_of (get_or xs p 0 % 2 ^ 48)
coded-at zero p xs h l = absurd (omega arith)
coded-at (suc n) p [] h l = absurd (omega arith)
coded-at (suc n) zero (x ∷ xs) h l = refl
coded-at (suc n) (suc p) (x ∷ xs) h l = coded-at n p xs (omega arith) (omega arith)

pub coded-long : (n : ℕ) (xs : List ℕ) → n ≤ length xs → length (coded n xs) ≡ length xs
coded-long zero xs l = refl
coded-long (suc n) [] l = absurd (omega arith)
coded-long (suc n) (x ∷ xs) l = ap suc (coded-long n xs (omega arith))

-- a code from its element, by shifts and masks
code_put : (y : ℕ) → bit_or (bit_and y 255 * 2 ^ 40 % 2 ^ 64) (bit_and y 281474976710655 / 2 ^ 8) ≡ code_of (y % 2 ^ 48)
unfolding code_of
code_put y =
    let fits : y % 256 * 2 ^ 40 < 2 ^ 64 = omega arith in
    let same : y % 256 ≡ y % 2 ^ 48 % 256 = omega arith in
    ap (λ (x : ℕ). bit_or (x * 2 ^ 40 % 2 ^ 64) (bit_and y 281474976710655 / 2 ^ 8)) (and_mask y 8)
    ∙ ap (λ (x : ℕ). bit_or (y % 256 * 2 ^ 40 % 2 ^ 64) (x / 2 ^ 8)) (and_mask y 48)
    ∙ ap (λ (x : ℕ). bit_or x (y % 2 ^ 48 / 2 ^ 8)) (mod-eq_of_lt fits)
    ∙ or_shifted (y % 256) 40 (y % 2 ^ 48 / 2 ^ 8) (omega arith)
    ∙ ap (λ (x : ℕ). x * 2 ^ 40 + y % 2 ^ 48 / 2 ^ 8) same

-- one turn of to_codes
pub coded-next : (i : ℕ) (xs ys : List ℕ) → i < length xs → ys ≡ coded i xs →
    set ys i (bit_or (bit_and (get_or ys i 0) 255 * 2 ^ 40 % 2 ^ 64) (bit_and (get_or ys i 0) 281474976710655 / 2 ^ 8)) ≡ coded (i + 1) xs
coded-next i xs ys h e = ap (set ys i) (code_put (get_or ys i 0))
    ∙ ap (λ (l : List ℕ). set l i (code_of (get_or l i 0 % 2 ^ 48))) e
    ∙ ap (λ (x : ℕ). set (coded i xs) i (code_of (x % 2 ^ 48))) (here i xs)
    ∙ coded-suc i xs h
    ∙ ap (λ (k : ℕ). coded k xs) (sym (add-one i))
