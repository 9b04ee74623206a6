-- The event table and the log: which line holds an event, and the letter it gives. 02, M-108.
use Rattle.std.specs.Prelude.{Bool, ◌&&◌, List, ℕ, ◌+◌, ◌-◌, ◌*◌, ◌/◌, leb, length, get_or}
use Rattle.sets.specs.Tests.{Set, every, some_below, first}
use Rattle.sets.specs.Lists.{tabulate}

-- x is from a to b
abbrev pub within : ℕ → ℕ → ℕ → Bool
within a b x = leb a x && leb x b

-- the test holds at every number from a to b
abbrev pub between : ℕ → ℕ → Set → Bool
between a b f = every (b + 1 - a) (λ i. f (a + i))

-- 02: "a table of up to 64 lines, five bytes each": how many whole lines there are
abbrev pub line_count : List ℕ → ℕ
line_count t = length t / 5

-- 02: "lowest and highest kind, lowest and highest drive, letter": bytes 0 to 4 of line j
abbrev pub line_byte : List ℕ → ℕ → ℕ → ℕ
line_byte t j i = get_or t (5 * j + i) 0

-- whether x is from byte i to byte i + 1 of line j: i is 0 for kinds and 2 for drives
unfoldable pub spans : List ℕ → ℕ → ℕ → Set
spans t i x j = within (line_byte t j i) (line_byte t j (i + 1)) x

-- line j "holds an event's two bytes"
unfoldable pub holds : List ℕ → ℕ → ℕ → Set
holds t kind drive j = spans t 0 kind j && spans t 2 drive j

-- 02: "The first line that holds an event's two bytes", or the number of lines
unfoldable pub first_line : List ℕ → ℕ → ℕ → ℕ
first_line t kind drive = first (line_count t) (holds t kind drive) 0

-- it "gives its letter"
unfoldable pub event_letter : List ℕ → ℕ → ℕ → ℕ
event_letter t kind drive = line_byte t (first_line t kind drive) 4

-- line j has all its pairs of a kind and a drive "in earlier lines"
unfoldable pub covered : List ℕ → Set
covered t j =
    between (line_byte t j 0) (line_byte t j 1) (λ kind.
    between (line_byte t j 2) (line_byte t j 3) (λ drive.
    some_below j (holds t kind drive)))

-- 02: "Log events have a kind byte and a drive byte", "an odd last byte is no event yet": how many events there are
abbrev pub event_count : List ℕ → ℕ
event_count log = length log / 2

abbrev pub kind_at : List ℕ → ℕ → ℕ
kind_at log k = get_or log (2 * k) 0

abbrev pub drive_at : List ℕ → ℕ → ℕ
drive_at log k = get_or log (2 * k + 1) 0

-- some line holds event k
unfoldable pub known : List ℕ → List ℕ → Set
known t log k = some_below (line_count t) (holds t (kind_at log k) (drive_at log k))

-- 02: "Translate a log into letters, one per event, in order"
unfoldable pub letters_of : List ℕ → List ℕ → List ℕ
letters_of t log = tabulate (event_count log) (λ k. event_letter t (kind_at log k) (drive_at log k)) 0
