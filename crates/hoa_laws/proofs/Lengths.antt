-- The lengths of the lines.
use mathlib.Core.Path.{◌≡◌, refl}
use mathlib.Core.Bool.{Bool, true, false}
use mathlib.Core.List.{[], ◌∷◌, ◌++◌}
use Prim.Native.Nat.{ℕ, zero, suc, ◌+◌, ◌*◌, ◌≤◌}
use native.Mathlib.Omega.{arith}
use lib.ListN.{length, length-append}
use Rattle.sets.specs.Masks.{bit}
use Rattle.sets.proofs.Bools.{bif}
use Rattle.slice_text.specs.Decimal.{digit, digits_in, decimal, word}
use Rattle.slice_text.proofs.Decimal.{decimal-length, word-length}
use Rattle.listing_lines_spec.specs.Lines.{newline}
use Rattle.hoa_spec.specs.Lines.{states_line, start_line, names, ap_line, acceptance_mark, state_line, literal, label, edge_line}

-- a number of at most five digits, and the blank before it
pub word-short : (x : ℕ) → x ≤ 65536 → length (word x) ≤ 6
word-short x h = omega (arith, word-length x, decimal-length 4 x (omega arith))

pub states-length : (n : ℕ) → length (states_line n) ≡ length (word n) + 8
unfolding states_line
states-length n = omega (arith, length-append (word n) newline)

pub start-length : (i : ℕ) → length (start_line i) ≡ length (word i) + 7
unfolding start_line
start-length i = omega (arith, length-append (word i) newline)

-- for at most four propositions
pub ap-length : (b : ℕ) → b ≤ 4 → length (ap_line b) ≡ 5 * b + 6
unfolding ap_line names word decimal digits_in
ap-length zero h = refl
ap-length (suc zero) h = refl
ap-length (suc (suc zero)) h = refl
ap-length (suc (suc (suc zero))) h = refl
ap-length (suc (suc (suc (suc zero)))) h = refl
ap-length (suc (suc (suc (suc (suc b))))) h = absurd (omega arith)

pub state-length : (i : ℕ) (accepting : Bool) → length (state_line i accepting) ≡ length (word i) + length (acceptance_mark accepting) + 7
unfolding state_line
state-length i accepting = omega (arith, length-append (word i) (acceptance_mark accepting ++ newline), length-append (acceptance_mark accepting) newline)

pub mark-length : (accepting : Bool) → length (acceptance_mark accepting) ≤ 4
mark-length true = omega arith
mark-length false = omega arith

-- ---- labels

pub literal-yes : (letter i : ℕ) → bit letter i ≡ true → literal letter i ≡ digit i ∷ []
unfolding literal
literal-yes letter i e = rw e

pub literal-no : (letter i : ℕ) → bit letter i ≡ false → literal letter i ≡ 33 ∷ digit i ∷ []
unfolding literal
literal-no letter i e = rw e

pub literal-length : (letter i : ℕ) → length (literal letter i) ≤ 2
literal-length letter i =
    bif (bit letter i)
    (λ t. rw (literal-yes letter i t) (omega arith))
    (λ t. rw (literal-no letter i t) (omega arith))

label-from : (b letter : ℕ) → length (label (suc b) letter) ≤ 3 * b + 2
unfolding label
label-from zero letter = omega (arith, literal-length letter 0)
label-from (suc b) letter = omega (arith, label-from b letter, literal-length letter (suc b), length-append (label (suc b) letter) (38 ∷ literal letter (suc b)))

pub label-length : (b letter : ℕ) → b ≤ 4 → length (label b letter) ≤ 11
unfolding label
label-length zero letter h = omega arith
label-length (suc b) letter h = omega (arith, label-from b letter)

pub edge-length : (b letter target : ℕ) → length (edge_line b letter target) ≡ length (label b letter) + length (word target) + 3
unfolding edge_line
edge-length b letter target =
    omega (arith, length-append (label b letter) ((93 ∷ []) ++ (word target ++ newline)), length-append (word target) newline)

-- ---- no line is longer

pub start-short : (i : ℕ) → i ≤ 65536 → length (start_line i) ≤ 13
start-short i h = omega (arith, start-length i, word-short i h)

pub state-short : (i : ℕ) (accepting : Bool) → i ≤ 65536 → length (state_line i accepting) ≤ 17
state-short i accepting h = omega (arith, state-length i accepting, mark-length accepting, word-short i h)

pub edge-short : (b letter target : ℕ) → b ≤ 4 → target ≤ 65536 → length (edge_line b letter target) ≤ 20
edge-short b letter target h l = omega (arith, edge-length b letter target, label-length b letter h, word-short target l)
