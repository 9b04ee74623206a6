-- Round trips: what is packed comes back, and what is taken apart packs to the same.
use mathlib.Core.Path.{◌≡◌, refl, sym, ◌∙◌, ap}
use mathlib.Core.List.{List, [], ◌∷◌, ◌++◌}
use Prim.Native.Nat.{ℕ, zero, suc, ◌+◌, ◌*◌, ◌/◌, ◌%◌, ◌^◌, ◌<◌}
use native.Mathlib.Omega.{arith}
use native.Mathlib.Nat.{mod-eq_of_lt, zero-add}
use lib.ListN.{length, get_or, length-append, get_or-append}
use lib.Seq.{ext_get_or, get_or-append-add}
use Rattle.sets.proofs.Digits.{num-ext, num-digits, digit-num}
use Rattle.sets.proofs.Lists.{tabulate-at, length-tabulate}
use Rattle.theory.specs.Run.{source_of, letter_of_lem, target_of}
use Rattle.codes.specs.Codes.{transition_of}
use Rattle.codes.specs.Bytes.{word_at, words_of, bytes_of, bytes_of_all}

-- ---- transitions

module _ (x a y : ℕ) (ha : a < 256) (hy : y < 65536) where
  pub source-back : source_of (transition_of x a y) ≡ x
  source-back = omega arith

  pub letter-back : letter_of_lem (transition_of x a y) ≡ a
  letter-back = omega arith

  pub target-back : target_of (transition_of x a y) ≡ y
  target-back = omega arith

pub transition-back : (t : ℕ) → transition_of (source_of t) (letter_of_lem t) (target_of t) ≡ t
transition-back t = omega arith

-- ---- bytes

byte_at : (x j : ℕ) → j < 8 → get_or (bytes_of x) j 0 ≡ x / 256 ^ j % 256
unfolding bytes_of
byte_at x j l = tabulate-at 8 (λ i. x / 256 ^ i % 256) 0 j l ∙ ap (λ (i : ℕ). x / 256 ^ i % 256) (zero-add j)

-- the bytes of a number give the number
pub word_back : (x : ℕ) → x < 2 ^ 64 → word_at (bytes_of x) 0 ≡ x
unfolding word_at
word_back x h = num-ext 256 (omega arith) 8 (λ j. get_or (bytes_of x) (0 + j) 0) (λ j. x / 256 ^ j % 256)
    (λ j l. ap (λ (i : ℕ). get_or (bytes_of x) i 0) (zero-add j) ∙ byte_at x j l)
    ∙ num-digits 256 (omega arith) 8 x ∙ mod-eq_of_lt h

bytes-long : (x : ℕ) → length (bytes_of x) ≡ 8
unfolding bytes_of
bytes-long x = length-tabulate 8 (λ j. x / 256 ^ j % 256) 0

word-digit : (bs : List ℕ) → ((j : ℕ) → j < 8 → get_or bs j 0 < 256) → (j : ℕ) → j < 8 → word_at bs 0 / 256 ^ j % 256 ≡ get_or bs j 0
unfolding word_at
word-digit bs h j l =
    digit-num 256 (omega arith) 8 (λ i. get_or bs (0 + i) 0) (λ i m. rw (zero-add i) (h i m)) j l ∙ ap (λ (i : ℕ). get_or bs i 0) (zero-add j)

-- the number of eight bytes gives the bytes
pub bytes_back : (bs : List ℕ) → length bs ≡ 8 → ((j : ℕ) → j < 8 → get_or bs j 0 < 256) → bytes_of (word_at bs 0) ≡ bs
bytes_back bs long h = ext_get_or 0 (bytes_of (word_at bs 0)) bs (bytes-long (word_at bs 0) ∙ sym long)
    (λ j l. byte_at (word_at bs 0) j (omega (arith, bytes-long (word_at bs 0))) ∙ word-digit bs h j (omega (arith, bytes-long (word_at bs 0))))

-- number i of the numbers whose bytes follow each other
pub words-at : (n : ℕ) (bytes : List ℕ) (i : ℕ) → i < n → get_or (words_of n bytes) i 0 ≡ word_at bytes (i * 8)
unfolding words_of
words-at n bytes i l = tabulate-at n (λ k. word_at bytes (k * 8)) 0 i l ∙ ap (λ (k : ℕ). word_at bytes (k * 8)) (zero-add i)

pub words-length : (n : ℕ) (bytes : List ℕ) → length (words_of n bytes) ≡ n
unfolding words_of
words-length n bytes = length-tabulate n (λ k. word_at bytes (k * 8)) 0

-- ---- the bytes of a list

pub all-bytes-length : (xs : List ℕ) → length (bytes_of_all xs) ≡ 8 * length xs
unfolding bytes_of_all
all-bytes-length [] = refl
all-bytes-length (x ∷ xs) = omega (arith, length-append (bytes_of x) (bytes_of_all xs), bytes-long x, all-bytes-length xs)

word-front : (x : ℕ) (ys : List ℕ) → x < 2 ^ 64 → word_at (bytes_of x ++ ys) 0 ≡ x
unfolding word_at
word-front x ys h = num-ext 256 (omega arith) 8 (λ j. get_or (bytes_of x ++ ys) (0 + j) 0) (λ j. get_or (bytes_of x) (0 + j) 0)
    (λ j l. get_or-append (bytes_of x) ys 0 (0 + j) (omega (arith, bytes-long x)))
    ∙ word_back x h

word-behind : (x : ℕ) (ys : List ℕ) (k : ℕ) → word_at (bytes_of x ++ ys) (8 + k) ≡ word_at ys k
unfolding word_at
word-behind x ys k = num-ext 256 (omega arith) 8 (λ j. get_or (bytes_of x ++ ys) (8 + k + j) 0) (λ j. get_or ys (k + j) 0)
    (λ j l. let e : 8 + k + j ≡ length (bytes_of x) + (k + j) = omega (arith, bytes-long x) in
    ap (λ (i : ℕ). get_or (bytes_of x ++ ys) i 0) e ∙ get_or-append-add (bytes_of x) ys (k + j) 0)

word-of-all : (xs : List ℕ) → ((i : ℕ) → i < length xs → get_or xs i 0 < 2 ^ 64) → (i : ℕ) → i < length xs → word_at (bytes_of_all xs) (i * 8) ≡ get_or xs i 0
unfolding bytes_of_all
word-of-all [] h i l = absurd (omega arith)
word-of-all (x ∷ xs) h zero l = word-front x (bytes_of_all xs) (h 0 l)
word-of-all (x ∷ xs) h (suc i) l = let e : suc i * 8 ≡ 8 + i * 8 = omega arith in
    ap (λ (k : ℕ). word_at (bytes_of x ++ bytes_of_all xs) k) e ∙ word-behind x (bytes_of_all xs) (i * 8)
    ∙ word-of-all xs (λ j m. h (suc j) (omega arith)) i (omega arith)

-- a list that is written low byte first reads back as the same list
pub all-words-back : (xs : List ℕ) → ((i : ℕ) → i < length xs → get_or xs i 0 < 2 ^ 64) → words_of (length xs) (bytes_of_all xs) ≡ xs
all-words-back xs h = ext_get_or 0 (words_of (length xs) (bytes_of_all xs)) xs (words-length (length xs) (bytes_of_all xs))
    (λ i l. let m : i < length xs = omega (arith, words-length (length xs) (bytes_of_all xs)) in words-at (length xs) (bytes_of_all xs) i m ∙ word-of-all xs h i m)
