-- A list that is written low byte first is lent as the same list.
use mathlib.Core.Path.{◌≡◌, ◌∙◌, ap, ap₂}
use mathlib.Core.Bool.{Bool, not}
use mathlib.Core.List.{List}
use Prim.Native.Nat.{ℕ, ◌/◌, ◌%◌, ◌^◌, ◌<◌}
use native.Mathlib.Omega.{arith}
use lib.ListN.{length, get_or}
use borrow.Author.Tests.{eq-eqb}
use Rattle.codes.specs.Bytes.{words_of, bytes_of_all}
use Rattle.codes.proofs.Round.{all-bytes-length, all-words-back}
use Rattle.table_lent.specs.Lent.{words_in, in_words, in_bytes_lem}

pub bytes-lent : (xs : List ℕ) → ((i : ℕ) → i < length xs → get_or xs i 0 < 2 ^ 64) → in_bytes_lem (bytes_of_all xs) ≡ in_words xs
unfolding in_bytes_lem in_words words_in
bytes-lent xs h =
    let long = all-bytes-length xs in
    let count : length (bytes_of_all xs) / 8 ≡ length xs = omega arith in
    let even : length (bytes_of_all xs) % 8 ≡ 0 = omega arith in
    ap₂ (λ (numbers : List ℕ) (ragged : Bool). record { numbers = numbers; ragged = ragged })
    (ap (λ (n : ℕ). words_of n (bytes_of_all xs)) count ∙ all-words-back xs h)
    (ap not (eq-eqb (length (bytes_of_all xs) % 8) 0 even))
