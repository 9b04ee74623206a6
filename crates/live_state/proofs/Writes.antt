-- What the writes of each effect come to.
use mathlib.Core.Path.{◌≡◌, sym, ◌∙◌, ap}
use mathlib.Core.List.{List, [], ◌∷◌, ◌++◌}
use Prim.Native.Nat.{ℕ, ◌+◌, ◌≤◌, ◌<◌}
use native.Mathlib.Nat.{zero-add}
use native.Mathlib.Omega.{arith}
use lib.ListN.{length, take, drop}
use Rattle.live_spec.specs.Afresh.{stepped}
use Rattle.live_spec.specs.State.{set_at, state_length_lem, mark_number_at, mark_letters_at, letters_at_byte, two_bytes, number_in, set_bytes}
use Rattle.live_spec.specs.Effects.{put, numbered, with_set, arrived, marked}
use Rattle.live_set.proofs.Puts.{put-long, drop-put}

-- zeros at the start
pub put_front : (k : ℕ) (part bytes : List ℕ) → length part ≡ k → part ++ drop k bytes ≡ put 0 part bytes
unfolding put
put_front k part bytes e = ap (λ (i : ℕ). part ++ drop i bytes) (sym e ∙ sym (zero-add (length part)))

module _ (bytes : List ℕ) (long : state_length_lem ≤ length bytes) where
  pub numbered-long : (n : ℕ) → length (numbered n bytes) ≡ length bytes
  unfolding numbered two_bytes
  numbered-long n = put-long 0 (two_bytes n) bytes (omega arith)

  -- bytes behind the number
  behind-number : (n k : ℕ) → 2 ≤ k → drop k (numbered n bytes) ≡ drop k bytes
  unfolding numbered two_bytes
  behind-number n k l = drop-put 0 (two_bytes n) bytes (omega arith) k (omega arith)

  -- the set is read before the letter is written or after it
  pub arrived-end : (q a : ℕ) (codes ts : List ℕ) → number_in bytes < 512
      → (let now = put (letters_at_byte + number_in bytes) (a ∷ []) (numbered (number_in bytes + 1) bytes) in with_set (stepped (length codes) ts a (set_bytes now)) now)
      ≡ arrived q codes ts a bytes
  unfolding arrived
  arrived-end q a codes ts l =
      let n = number_in bytes in
      let now = put (letters_at_byte + n) (a ∷ []) (numbered (n + 1) bytes) in
      let e : set_bytes now ≡ set_bytes bytes =
      drop-put (letters_at_byte + n) (a ∷ []) (numbered (n + 1) bytes) (omega (arith, numbered-long (n + 1))) set_at (omega arith) ∙ behind-number (n + 1) set_at (omega arith) in
      ap (λ (s : List ℕ). with_set (stepped (length codes) ts a s) now) e

  -- so are the letters of a mark
  pub marked-end : (m : ℕ) → m < 16
      → (let now = put (mark_number_at m) (two_bytes (number_in bytes)) (put (2 + m) (1 ∷ []) bytes) in put (mark_letters_at m) (take 512 (drop letters_at_byte now)) now)
      ≡ marked m bytes
  unfolding marked two_bytes
  marked-end m l =
      let first = put (2 + m) (1 ∷ []) bytes in
      let f : length first ≡ length bytes = put-long (2 + m) (1 ∷ []) bytes (omega arith) in
      let now = put (mark_number_at m) (two_bytes (number_in bytes)) first in
      let e : drop letters_at_byte now ≡ drop letters_at_byte bytes =
      drop-put (mark_number_at m) (two_bytes (number_in bytes)) first (omega arith) letters_at_byte (omega arith) ∙ drop-put (2 + m) (1 ∷ []) bytes (omega arith) letters_at_byte (omega arith) in
      ap (λ (s : List ℕ). put (mark_letters_at m) (take 512 s) now) e

  -- and those that a return brings back
  pub returned-letters : (m n : ℕ) → put letters_at_byte (take 512 (drop (mark_letters_at m) (numbered n bytes))) (numbered n bytes)
      ≡ put letters_at_byte (take 512 (drop (mark_letters_at m) bytes)) (numbered n bytes)
  returned-letters m n = ap (λ (s : List ℕ). put letters_at_byte (take 512 s) (numbered n bytes)) (behind-number n (mark_letters_at m) (omega arith))
