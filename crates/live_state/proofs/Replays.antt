-- The set in its part of state, a letter a turn.
use mathlib.Core.Path.{◌≡◌, sym, ◌∙◌, ap}
use mathlib.Core.List.{List}
use Prim.Native.Nat.{ℕ, ◌+◌, ◌≤◌, ◌<◌}
use native.Mathlib.Numerals.{add-one}
use native.Mathlib.Omega.{arith}
use lib.Dec.{ltb}
use lib.ListN.{length, get_or, take, drop, length-drop}
use lib.Seq.{length-take-le, get_or-take, get_or-drop, take-suc, take_all}
use Rattle.theory.specs.Run.{source_of}
use Rattle.trim_spec.specs.Graph.{Inside}
use Rattle.live_spec.specs.Afresh.{stepped, stepped_over, initial_set, afresh}
use Rattle.live_spec.specs.State.{set_at, set_bytes, letters_at_byte, number_at_lem, number_in, letters_in}
use Rattle.live_spec.specs.Effects.{put, with_set, refreshed}
use Rattle.live_set.proofs.Puts.{put-long, put-before, put_in, put-over, put_back, part-before, part-there, number-before}
use Rattle.live_spec.proofs.Steps.{step-ext, initial-length, over-length, over-more}

-- one letter more of a list
over-next : (n : ℕ) (ts l s : List ℕ) (i : ℕ) → i < length l → stepped_over n ts (take (i + 1) l) s ≡ stepped n ts (get_or l i 0) (stepped_over n ts (take i l) s)
over-next n ts l s i h = rw (add-one i, take-suc l i 0 h) (over-more n ts (take i l) s (get_or l i 0))

-- ---- a part of a list, and a list that begins with a set

-- sources are in the first n
within : (n : ℕ) (ts xs ys : List ℕ) (a : ℕ) → Inside n ts → ((x : ℕ) → x < n → get_or xs x 0 ≡ get_or ys x 0) → stepped n ts a xs ≡ stepped n ts a ys
within n ts xs ys a inside h = step-ext n ts a xs ys (λ t m. ap (λ (v : ℕ). ltb 0 v) (h (source_of t) (inside.sources t m)))

pub step_part : (at k n a : ℕ) (ts bytes : List ℕ) → k ≡ n → at + n ≤ length bytes → Inside n ts
    → stepped (length (take k (drop at bytes))) ts a (take k (drop at bytes)) ≡ stepped n ts a (drop at bytes)
step_part at k n a ts bytes e fits inside =
    let long : length (take n (drop at bytes)) ≡ n = length-take-le n (drop at bytes) (omega (arith, length-drop at bytes)) in
    rw (e, long) (within n ts (take n (drop at bytes)) (drop at bytes) a inside (λ x l. get_or-take n (drop at bytes) x 0 l))

step-there : (at n a : ℕ) (ts set bytes : List ℕ) → length set ≡ n → at + n ≤ length bytes → Inside n ts → stepped n ts a (drop at (put at set bytes)) ≡ stepped n ts a set
step-there at n a ts set bytes e fits inside =
    within n ts (drop at (put at set bytes)) set a inside
    (λ x l. get_or-drop at (put at set bytes) x 0 ∙ put_in at set bytes (omega arith) x (omega arith))

-- ---- the turns of a replay

-- how many letters are held
pub number-at-low : (bytes : List ℕ) (at : ℕ) → number_at_lem bytes at ≤ 512
unfolding number_at_lem
number-at-low bytes at = omega arith

pub number-low : (bytes : List ℕ) → number_in bytes ≤ 512
number-low bytes = number-at-low bytes 0

pub letters-long : (bytes : List ℕ) → 562 ≤ length bytes → length (letters_in bytes) ≡ number_in bytes
unfolding letters_in
letters-long bytes l = length-take-le (number_in bytes) (drop letters_at_byte bytes) (omega (arith, number-low bytes, length-drop letters_at_byte bytes))

-- the set after the first i of them
abbrev pub after : ℕ → List ℕ → List ℕ → ℕ → List ℕ
after n ts bytes i = stepped_over n ts (take i (letters_in bytes)) (take n (set_bytes bytes))

module _ (n : ℕ) (ts bytes : List ℕ) (fits : set_at + n ≤ length bytes) where
  pub set_long : length (take n (set_bytes bytes)) ≡ n
  set_long = length-take-le n (set_bytes bytes) (omega (arith, length-drop set_at bytes))

  after-long : (i : ℕ) → length (after n ts bytes i) ≡ n
  after-long i = over-length n ts (take i (letters_in bytes)) (take n (set_bytes bytes)) set_long

  pub replay-start : bytes ≡ with_set (after n ts bytes 0) bytes
  unfolding with_set stepped_over
  replay-start = sym (put_back set_at n bytes fits)

  pub replay-letter : (i : ℕ) → i < number_in bytes → get_or (with_set (after n ts bytes i) bytes) (letters_at_byte + i) 0 ≡ get_or (letters_in bytes) i 0
  unfolding with_set letters_in
  replay-letter i l =
      put-before set_at (after n ts bytes i) bytes (omega (arith, after-long i)) (letters_at_byte + i) (omega (arith, number-low bytes))
      ∙ sym (get_or-take (number_in bytes) (drop letters_at_byte bytes) i 0 l ∙ get_or-drop letters_at_byte bytes i 0)

  pub replay-next : (i : ℕ) → i < number_in bytes → Inside n ts
      → with_set (stepped n ts (get_or (letters_in bytes) i 0) (set_bytes (with_set (after n ts bytes i) bytes))) (with_set (after n ts bytes i) bytes) ≡ with_set (after n ts bytes (i + 1)) bytes
  unfolding with_set
  replay-next i l inside =
      let a = get_or (letters_in bytes) i 0 in
      let e : stepped n ts a (drop set_at (put set_at (after n ts bytes i) bytes)) ≡ after n ts bytes (i + 1) =
      step-there set_at n a ts (after n ts bytes i) bytes (after-long i) fits inside
      ∙ sym (over-next n ts (letters_in bytes) (take n (set_bytes bytes)) i (omega (arith, letters-long bytes (omega arith)))) in
      ap (λ (s : List ℕ). put set_at s (put set_at (after n ts bytes i) bytes)) e
      ∙ put-over set_at (after n ts bytes i) bytes (omega (arith, after-long i)) (after n ts bytes (i + 1)) (after-long (i + 1) ∙ sym (after-long i))

  pub replay-end : (i : ℕ) → number_in bytes ≤ i → with_set (after n ts bytes i) bytes ≡ with_set (stepped_over n ts (letters_in bytes) (take n (set_bytes bytes))) bytes
  replay-end i l = rw (take_all i (letters_in bytes) (omega (arith, letters-long bytes (omega arith))))

-- ---- worked out afresh

module _ (q : ℕ) (codes ts bytes : List ℕ) (fits : set_at + length codes ≤ length bytes) where
  room : set_at + length (initial_set q codes) ≤ length bytes
  room = omega (arith, initial-length q codes)

  pub begun-long : length (with_set (initial_set q codes) bytes) ≡ length bytes
  unfolding with_set
  begun-long = put-long set_at (initial_set q codes) bytes room

  begun-letters : letters_in (with_set (initial_set q codes) bytes) ≡ letters_in bytes
  unfolding with_set letters_in
  begun-letters =
      let e : number_in (put set_at (initial_set q codes) bytes) ≡ number_in bytes = number-before set_at (initial_set q codes) bytes room 0 (omega arith) in
      ap (λ (k : ℕ). take k (drop letters_at_byte (put set_at (initial_set q codes) bytes))) e
      ∙ part-before set_at (initial_set q codes) bytes room letters_at_byte (number_in bytes) (omega (arith, number-low bytes))

  begun-set : take (length codes) (set_bytes (with_set (initial_set q codes) bytes)) ≡ initial_set q codes
  unfolding with_set
  begun-set = part-there set_at (initial_set q codes) bytes room (length codes) (initial-length q codes)

  pub refresh-end : (n : ℕ) → n ≡ length codes
      → (let begun = with_set (initial_set q codes) bytes in with_set (stepped_over n ts (letters_in begun) (take n (set_bytes begun))) begun) ≡ refreshed q codes ts bytes
  unfolding refreshed afresh with_set
  refresh-end n e =
      rw (e, begun-letters, begun-set)
      (put-over set_at (initial_set q codes) bytes room (stepped_over (length codes) ts (letters_in bytes) (initial_set q codes))
      (over-length (length codes) ts (letters_in bytes) (initial_set q codes) (initial-length q codes) ∙ sym (initial-length q codes)))
