-- While pairs of cores are sorted out, the free bits of codes and transitions hold what a step says of cores: tags.
use Rattle.std.specs.Prelude.{◌≡◌, Bool, ◌&&◌, ◌||◌, cond, List, ℕ, ◌+◌, ◌*◌, ◌/◌, ◌%◌, ◌<◌, eqb, ltb, leb, length, get_or}
use Rattle.sets.specs.Tests.{first}
use Rattle.sets.specs.Masks.{bit, mask}
use Rattle.slice_search.specs.LowParts.{low_parts}
use Rattle.theory.specs.Automaton.{Automaton}
use Rattle.theory.specs.Run.{source_of, letter_of_lem, target_of}
use Rattle.trim_spec.specs.Trimmed.{is_live}
use Rattle.spare_spec.specs.SpareComputed.{spares}

-- 01: "bits 0 to 7 S, four bits from 8 + 4 × q for the rank of q": the core of a code
abbrev pub core_in : ℕ → ℕ
core_in c = c % 1099511627776

-- the first number whose code has the core of number i; it stands for the core
unfoldable pub first_of : List ℕ → ℕ → ℕ
first_of codes i = first (length codes) (λ j. eqb (core_in (get_or codes j 0)) (core_in (get_or codes i 0))) 0

-- whether the transition t spares component K
unfoldable pub spares_at : Automaton → List ℕ → ℕ → ℕ → Bool
spares_at A codes t K = spares A (letter_of_lem t) (get_or codes (source_of t) 0) (get_or codes (target_of t) 0) K

-- ---- tags

-- the number of its core above the 48 bits of a code
pub record TaggedCodes (codes tagged : List ℕ) : Type 0 where
  pub long : length tagged ≡ length codes
  pub each : (i : ℕ) → i < length codes → get_or tagged i 0 ≡ get_or codes i 0 + 281474976710656 * first_of codes i

-- above the 40 bits of a transition the number of its target's core, and above that the components it spares
unfoldable pub tag_of : Automaton → List ℕ → ℕ → ℕ
tag_of A codes t = first_of codes (target_of t) + 65536 * mask 8 (λ K. ltb K A.components && spares_at A codes t K)

pub record TaggedMoves (A : Automaton) (codes moves tagged : List ℕ) : Type 0 where
  pub long : length tagged ≡ length moves
  pub each : (k : ℕ) → k < length moves → get_or tagged k 0 ≡ get_or moves k 0 + 1099511627776 * tag_of A codes (get_or moves k 0)

-- Numbers from which no accepting run goes on take no part; marks has 0 for them. Their core then has the number of none: the length of the list.
-- A list of 65,536 has no such number of 16 bits, and there all take part.
unfoldable pub told_of : List ℕ → List ℕ → ℕ → ℕ
told_of codes marks i = cond (is_live marks i || leb 65536 (length codes)) (first_of codes i) (length codes)

pub record ToldCodes (codes marks tagged : List ℕ) : Type 0 where
  pub long : length tagged ≡ length codes
  pub each : (i : ℕ) → i < length codes → get_or tagged i 0 ≡ get_or codes i 0 + 281474976710656 * told_of codes marks i

-- ---- what is read from them

-- the number of a code's core
abbrev pub core_number_lem : ℕ → ℕ
core_number_lem c = c / 281474976710656

-- source, and number of the target's core, of a tagged transition; its letter is `letter_of_lem`
abbrev pub row_of_lem : ℕ → ℕ
row_of_lem t = t / 16777216 % 65536

abbrev pub onto_of_lem : ℕ → ℕ
onto_of_lem t = t / 1099511627776 % 65536

-- it spares component K
unfoldable pub sparing : ℕ → ℕ → Bool
sparing t K = bit t (56 + K)

-- the transitions without tags
abbrev pub untagged : List ℕ → List ℕ
untagged = low_parts 1099511627776

-- the codes without tags
abbrev pub plain : List ℕ → List ℕ
plain = low_parts 281474976710656
