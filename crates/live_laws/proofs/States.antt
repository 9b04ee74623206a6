-- The bytes that a call leaves, of the bytes of a log and a set.
use mathlib.Core.Path.{◌≡◌, refl, sym, ap, ap₂, ◌∙◌}
use mathlib.Core.Bool.{Bool, cond}
use mathlib.Core.List.{List, [], ◌∷◌, ◌++◌, append_assoc, Memᴰ}
use Prim.Native.Nat.{ℕ, ◌+◌, ◌*◌, ◌-◌, ◌≤◌, ◌<◌}
use native.Mathlib.Omega.{arith}
use native.Mathlib.Nat.{zero-add}
use lib.Dec.{eqb, ltb}
use lib.ListN.{length, get_or, take, drop, length-append, get_or-append}
use lib.Seq.{length-take-le, take_all, get_or-take, get_or-drop}
use borrow.Author.Tests.{eq-eqb, ne_eqb}
use Rattle.sets.specs.Lists.{tabulate, flat}
use Rattle.sets.specs.Tests.{one}
use Rattle.sets.proofs.Bools.{bif}
use Rattle.theory.specs.Run.{source_of}
use Rattle.live_spec.specs.Afresh.{stepped, initial_set, afresh}
use Rattle.live_spec.specs.History.{Moment, unset, at, is_set, letters_at, Log}
use Rattle.live_spec.specs.State.{mark_number_at, letters_at_byte, mark_letters_at, set_at, state_length_lem, two_bytes, padded, for_marks, log_bytes, number_at_lem, number_in, letters_in, set_bytes}
use Rattle.live_spec.specs.Effects.{put, numbered, with_set, refreshed, started, arrived, withdrawn, marked, returned}
use Rattle.live_spec.proofs.Steps.{initial-length, step-ext}
use Rattle.live_laws.proofs.Reached.{afresh-length, afresh-next, afresh-none}
use Rattle.live_laws.proofs.Parts.{parts-length, parts-read, parts-put, padded-length, padded-read, padded-put, padded-none, padded-zeros, padded-next, padded-last, put_all, zeros}
use Rattle.live_laws.proofs.Parts.{zeros-put, zeros-parts, zeros-split, number_read, number-two}
use Rattle.live_laws.proofs.Laid.{laid, Long, put-number, put-flag, put-numbers, put-letters, put-marks, put-set, read_number, read-numbers, read_letters, read-marks, read_set, read-flag}

-- ---- the parts of a log

unfoldable pub flag_bytes : (ℕ → Moment) → List ℕ
flag_bytes k = for_marks (λ m. one (is_set (k m)) ∷ [])

unfoldable pub number_bytes : (ℕ → Moment) → List ℕ
number_bytes k = for_marks (λ m. two_bytes (length (letters_at (k m))))

unfoldable pub mark_bytes : (ℕ → Moment) → List ℕ
mark_bytes k = for_marks (λ m. padded 512 (letters_at (k m)))

-- a log and a set, and the rest as lent
unfoldable pub bytes_of : List ℕ → (ℕ → Moment) → List ℕ → List ℕ → List ℕ
bytes_of letters marks set rest = laid (two_bytes (length letters)) (flag_bytes marks) (number_bytes marks) (padded 512 letters) (mark_bytes marks) (padded 65536 set) rest

pub log-bytes : (g : Log) (set rest : List ℕ) → log_bytes g ++ padded 65536 set ++ rest ≡ bytes_of g.letters g.marks set rest
unfolding bytes_of laid log_bytes flag_bytes number_bytes mark_bytes
log-bytes g set rest = simp append_assoc

two-long : (n : ℕ) → length (two_bytes n) ≡ 2
unfolding two_bytes
two-long n = refl

pub flags_long : (k : ℕ → Moment) → length (flag_bytes k) ≡ 16
unfolding flag_bytes for_marks
flags_long k = parts-length 16 0 1 (λ m. one (is_set (k m)) ∷ []) (λ j. refl)

pub numbers-long : (k : ℕ → Moment) → length (number_bytes k) ≡ 32
unfolding number_bytes for_marks
numbers-long k = parts-length 16 0 2 (λ m. two_bytes (length (letters_at (k m)))) (λ j. two-long (length (letters_at (k j))))

pub marks-long : (k : ℕ → Moment) → ((m : ℕ) → length (letters_at (k m)) ≤ 512) → length (mark_bytes k) ≡ 8192
unfolding mark_bytes for_marks
marks-long k h = parts-length 16 0 512 (λ m. padded 512 (letters_at (k m))) (λ j. padded-length 512 (letters_at (k j)) (h j))

-- at most 512 letters, of the marks too, and a set with room for it
pub record Held (letters : List ℕ) (marks : ℕ → Moment) (set : List ℕ) : Type 0 where
  pub few : length letters ≤ 512
  pub low : (m : ℕ) → length (letters_at (marks m)) ≤ 512
  pub narrow : length set ≤ 65536

-- with any number, and with the flags and numbers of any marks
pub long : {letters : List ℕ} {marks : ℕ → Moment} {set : List ℕ} (n : ℕ) (f k : ℕ → Moment) → Held letters marks set
    → Long (two_bytes n) (flag_bytes f) (number_bytes k) (padded 512 letters) (mark_bytes marks) (padded 65536 set)
long {letters} {marks} {set} n f k H = record {
  number-long = two-long n;
  flags_long = flags_long f;
  numbers-long = numbers-long k;
  letters-long = padded-length 512 letters H.few;
  marks-long = marks-long marks H.low;
  set_long = padded-length 65536 set H.narrow;
}

-- ---- a start

flags-none : flag_bytes (λ k. unset) ≡ zeros 16
unfolding flag_bytes for_marks
flags-none = zeros-parts 16 0 1

numbers-none : number_bytes (λ k. unset) ≡ zeros 32
unfolding number_bytes for_marks two_bytes
numbers-none = zeros-parts 16 0 2

marks-none : mark_bytes (λ k. unset) ≡ zeros 8192
unfolding mark_bytes for_marks
marks-none = ap (λ (z : List ℕ). flat (tabulate 16 (λ m. m) 0) (λ j. z)) (padded-none 512) ∙ zeros-parts 16 0 512

blank : (a b c d e f : ℕ) (rest : List ℕ) → zeros (a + (b + (c + (d + (e + f))))) ++ rest ≡ laid (zeros a) (zeros b) (zeros c) (zeros d) (zeros e) (zeros f) rest
unfolding laid
blank a b c d e f rest = simp zeros-split

-- all zeros are the log that has nothing
blank-bytes : (rest : List ℕ) → zeros state_length_lem ++ rest ≡ bytes_of [] (λ k. unset) [] rest
unfolding bytes_of two_bytes
blank-bytes rest = blank 2 16 32 512 8192 65536 rest
    ∙ ap (λ (x : List ℕ). laid (zeros 2) x (zeros 32) (zeros 512) (zeros 8192) (zeros 65536) rest) (sym flags-none)
    ∙ ap (λ (x : List ℕ). laid (zeros 2) (flag_bytes (λ k. unset)) x (zeros 512) (zeros 8192) (zeros 65536) rest) (sym numbers-none)
    ∙ ap (λ (x : List ℕ). laid (zeros 2) (flag_bytes (λ k. unset)) (number_bytes (λ k. unset)) x (zeros 8192) (zeros 65536) rest) (sym (padded-none 512))
    ∙ ap (λ (x : List ℕ). laid (zeros 2) (flag_bytes (λ k. unset)) (number_bytes (λ k. unset)) (padded 512 []) x (zeros 65536) rest) (sym marks-none)
    ∙ ap (λ (x : List ℕ). laid (zeros 2) (flag_bytes (λ k. unset)) (number_bytes (λ k. unset)) (padded 512 []) (mark_bytes (λ k. unset)) x rest) (sym (padded-none 65536))

-- ---- parts written and read

flag-part : (marks : ℕ → Moment) (m : ℕ) → m < 16 → get_or (flag_bytes marks) m 0 ≡ one (is_set (marks m))
unfolding flag_bytes for_marks
flag-part marks m h =
    let f : ℕ → List ℕ = λ j. one (is_set (marks j)) ∷ [] in
    let i : m ≡ 1 * m + 0 = omega arith in
    ap (λ (k : ℕ). get_or (flag_bytes marks) k 0) i
    ∙ sym (get_or-take 1 (drop (1 * m) (flag_bytes marks)) 0 0 (omega arith) ∙ get_or-drop (1 * m) (flag_bytes marks) 0 0)
    ∙ ap (λ (l : List ℕ). get_or l 0 0) (parts-read 16 0 1 f m (λ j. refl) h ∙ ap f (zero-add m))

module _ {letters : List ℕ} {marks : ℕ → Moment} {set : List ℕ} (rest : List ℕ) (H : Held letters marks set) where
  abbrev bytes : List ℕ
  bytes = bytes_of letters marks set rest

  abbrev L : Long (two_bytes (length letters)) (flag_bytes marks) (number_bytes marks) (padded 512 letters) (mark_bytes marks) (padded 65536 set)
  L = long (length letters) marks marks H

  pub number-held : number_in bytes ≡ length letters
  unfolding bytes_of
  number-held = read_number rest L ∙ number-two (length letters) H.few

  pub letters-held : letters_in bytes ≡ letters
  unfolding letters_in bytes_of
  letters-held = ap (λ (k : ℕ). take k (drop letters_at_byte bytes)) number-held ∙ read_letters rest L (length letters) H.few ∙ padded-read 512 letters

  -- all 512 bytes
  pub letters-whole : take 512 (drop letters_at_byte bytes) ≡ padded 512 letters
  unfolding bytes_of
  letters-whole = read_letters rest L 512 (omega arith) ∙ take_all 512 (padded 512 letters) (omega (arith, L.letters-long))

  pub set-held : set_bytes bytes ≡ padded 65536 set ++ rest
  unfolding bytes_of
  set-held = read_set rest L

  pub set-at : (y : ℕ) → y < length set → get_or (set_bytes bytes) y 0 ≡ get_or set y 0
  unfolding padded
  set-at y l = ap (λ (x : List ℕ). get_or x y 0) (set-held ∙ append_assoc set (zeros (65536 - length set)) rest) ∙ get_or-append set (zeros (65536 - length set) ++ rest) 0 y l

  pub flag-held : (m : ℕ) → m < 16 → get_or bytes (2 + m) 0 ≡ one (is_set (marks m))
  unfolding bytes_of
  flag-held m h = read-flag rest L m h ∙ flag-part marks m h

  pub mark-number : (m : ℕ) → m < 16 → number_at_lem bytes (mark_number_at m) ≡ length (letters_at (marks m))
  unfolding bytes_of number_bytes for_marks
  mark-number m h =
      let f : ℕ → List ℕ = λ j. two_bytes (length (letters_at (marks j))) in
      read-numbers rest L (2 * m) (omega arith)
      ∙ number_read (number_bytes marks) (2 * m)
      ∙ ap (λ (x : List ℕ). number_at_lem x 0) (parts-read 16 0 2 f m (λ j. two-long (length (letters_at (marks j)))) h ∙ ap f (zero-add m))
      ∙ number-two (length (letters_at (marks m))) (H.low m)

  pub mark-letters : (m : ℕ) → m < 16 → take 512 (drop (mark_letters_at m) bytes) ≡ padded 512 (letters_at (marks m))
  unfolding bytes_of mark_bytes for_marks
  mark-letters m h =
      let f : ℕ → List ℕ = λ j. padded 512 (letters_at (marks j)) in
      read-marks rest L (512 * m) 512 (omega arith) ∙ parts-read 16 0 512 f m (λ j. padded-length 512 (letters_at (marks j)) (H.low j)) h ∙ ap f (zero-add m)

  -- with another set of as many macrostates
  pub put_other : (v : List ℕ) → length v ≡ length set → put set_at v bytes ≡ bytes_of letters marks v rest
  unfolding bytes_of
  put_other v e =
      put-set rest L v (omega (arith, H.narrow))
      ∙ ap (λ (x : List ℕ). laid (two_bytes (length letters)) (flag_bytes marks) (number_bytes marks) (padded 512 letters) (mark_bytes marks) x rest) (padded-put 65536 v set e)

  -- with other letters and their number
  put-log : (k i : ℕ) (v other : List ℕ) → k ≡ length other → i + length v ≤ 512 → put i v (padded 512 letters) ≡ padded 512 other
      → put (letters_at_byte + i) v (numbered k bytes) ≡ bytes_of other marks set rest
  unfolding numbered bytes_of
  put-log k i v other c h e =
      ap (put (letters_at_byte + i) v) (put-number rest L (two_bytes k) (two-long k))
      ∙ put-letters rest (long k marks marks H) i v h
      ∙ ap₂ (λ (j : ℕ) (x : List ℕ). laid (two_bytes j) (flag_bytes marks) (number_bytes marks) x (mark_bytes marks) (padded 65536 set) rest) c e

-- ---- a mark set

-- the marks with mark m at the letters
abbrev pub remark : ℕ → List ℕ → (ℕ → Moment) → ℕ → Moment
remark m letters marks k = cond (eqb k m) (at letters) (marks k)

remark-same : (m : ℕ) (letters : List ℕ) (marks : ℕ → Moment) → remark m letters marks m ≡ at letters
remark-same m letters marks = ap (λ (b : Bool). cond b (at letters) (marks m)) (eq-eqb m m refl)

remark-other : (m : ℕ) (letters : List ℕ) (marks : ℕ → Moment) (k : ℕ) → (k ≡ m → ⊥) → marks k ≡ remark m letters marks k
remark-other m letters marks k h = ap (λ (b : Bool). cond b (at letters) (marks k)) (sym (ne_eqb k m h))

module _ (m : ℕ) (letters : List ℕ) (marks : ℕ → Moment) (known : m < 16) where
  abbrev marks' : ℕ → Moment
  marks' = remark m letters marks

  -- the parts of one kind, for each mark
  mark-put : (k : ℕ) (f : Moment → List ℕ) → ((j : ℕ) → length (f (marks j)) ≡ k) → length (f (at letters)) ≡ k
      → put (k * m) (f (at letters)) (for_marks (λ j. f (marks j))) ≡ for_marks (λ j. f (marks' j))
  unfolding for_marks
  mark-put k f e w =
      let same : f (marks' (0 + m)) ≡ f (at letters) = ap (λ (j : ℕ). f (marks' j)) (zero-add m) ∙ ap f (remark-same m letters marks) in
      ap (λ (v : List ℕ). put (k * m) v (for_marks (λ j. f (marks j)))) (sym same)
      ∙ parts-put 16 0 k (λ j. f (marks j)) (λ j. f (marks' j)) m e known (ap length same ∙ w) (λ j h. ap f (remark-other m letters marks j (λ c. h (c ∙ sym (zero-add m)))))

  flag-put : put m (1 ∷ []) (flag_bytes marks) ≡ flag_bytes marks'
  unfolding flag_bytes
  flag-put = ap (λ (k : ℕ). put k (1 ∷ []) (flag_bytes marks)) (let i : m ≡ 1 * m = omega arith in i) ∙ mark-put 1 (λ k. one (is_set k) ∷ []) (λ j. refl) refl

  number_put : put (2 * m) (two_bytes (length letters)) (number_bytes marks) ≡ number_bytes marks'
  unfolding number_bytes
  number_put = mark-put 2 (λ k. two_bytes (length (letters_at k))) (λ j. two-long (length (letters_at (marks j)))) (two-long (length letters))

  letters-put : length letters ≤ 512 → ((j : ℕ) → length (letters_at (marks j)) ≤ 512) → put (512 * m) (padded 512 letters) (mark_bytes marks) ≡ mark_bytes marks'
  unfolding mark_bytes
  letters-put few low = mark-put 512 (λ k. padded 512 (letters_at k)) (λ j. padded-length 512 (letters_at (marks j)) (low j)) (padded-length 512 letters few)

  pub remark-low : length letters ≤ 512 → ((j : ℕ) → length (letters_at (marks j)) ≤ 512) → (j : ℕ) → length (letters_at (marks' j)) ≤ 512
  remark-low few low j = bif (eqb j m) (λ e. rw e few) (λ e. rw e (low j))

-- ---- the five calls

module _ (q : ℕ) (codes ts : List ℕ) (room : length codes ≤ 65536) (inside : (t : ℕ) → Memᴰ t ts → source_of t < length codes) where
  -- a start has the initial set
  pub start-leaves : (state : List ℕ) → started q codes ts state ≡ bytes_of [] (λ k. unset) (afresh q codes ts []) (drop state_length_lem state)
  unfolding started with_set bytes_of
  start-leaves state =
      let rest = drop state_length_lem state in
      let v = initial_set q codes in
      let e : length v ≤ 65536 = omega (arith, initial-length q codes) in
      ap (put set_at v) (zeros-put state_length_lem state ∙ blank-bytes rest)
      ∙ put-set rest (long {marks = λ k. unset} 0 (λ k. unset) (λ k. unset) (record { few = omega arith; low = λ m. omega arith; narrow = omega arith })) v e
      ∙ ap (λ (x : List ℕ). laid (two_bytes 0) (flag_bytes (λ k. unset)) (number_bytes (λ k. unset)) (padded 512 []) (mark_bytes (λ k. unset)) x rest)
      (ap (put 0 v) (padded-none 65536) ∙ padded-zeros 65536 v e ∙ ap (padded 65536) (sym (afresh-none q codes ts)))

  -- the set worked out afresh over the letters that are there
  refresh-leaves : {letters : List ℕ} {marks : ℕ → Moment} {set : List ℕ} (rest : List ℕ) → Held letters marks set → length set ≡ length codes
      → refreshed q codes ts (bytes_of letters marks set rest) ≡ bytes_of letters marks (afresh q codes ts letters) rest
  unfolding refreshed with_set
  refresh-leaves {letters} {marks} {set} rest H e =
      ap (λ (l : List ℕ). put set_at (afresh q codes ts l) (bytes_of letters marks set rest)) (letters-held rest H)
      ∙ put_other rest H (afresh q codes ts letters) (afresh-length q codes ts letters ∙ sym e)

  module _ (letters : List ℕ) (marks : ℕ → Moment) (rest : List ℕ) (few : length letters ≤ 512) (low : (m : ℕ) → length (letters_at (marks m)) ≤ 512) where
    abbrev set : List ℕ
    set = afresh q codes ts letters

    set-length : length set ≡ length codes
    set-length = afresh-length q codes ts letters

    held : (other : List ℕ) → length other ≤ 512 → Held other marks set
    held other l = record { few = l; low = low; narrow = omega (arith, set-length) }

    abbrev state : List ℕ
    state = bytes_of letters marks set rest

    -- an arrival
    pub arrive-leaves : (a : ℕ) → length letters < 512 → arrived q codes ts a state ≡ bytes_of (letters ++ (a ∷ [])) marks (afresh q codes ts (letters ++ (a ∷ []))) rest
    unfolding arrived with_set
    arrive-leaves a h =
        let n = length letters in
        let more = letters ++ (a ∷ []) in
        let longer : length more ≡ n + 1 = length-append letters (a ∷ []) in
        let next : stepped (length codes) ts a (set_bytes state) ≡ afresh q codes ts more =
        step-ext (length codes) ts a (set_bytes state) set (λ t m. ap (ltb 0) (set-at rest (held letters few) (source_of t) (omega (arith, inside t m, set-length))))
        ∙ sym (afresh-next q codes ts letters a) in
        let log : put (letters_at_byte + number_in state) (a ∷ []) (numbered (number_in state + 1) state) ≡ bytes_of more marks set rest =
        ap (λ (k : ℕ). put (letters_at_byte + k) (a ∷ []) (numbered (k + 1) state)) (number-held rest (held letters few))
        ∙ put-log rest (held letters few) (n + 1) n (a ∷ []) more (sym longer) (omega arith) (padded-next 512 letters a h) in
        ap₂ (put set_at) next log ∙ put_other rest (held more (omega arith)) (afresh q codes ts more) (afresh-length q codes ts more ∙ sym set-length)

    -- a withdrawal
    pub withdraw-leaves : 0 < length letters
        → withdrawn q codes ts state ≡ bytes_of (take (length letters - 1) letters) marks (afresh q codes ts (take (length letters - 1) letters)) rest
    unfolding withdrawn
    withdraw-leaves h =
        let n = length letters in
        let left = take (n - 1) letters in
        let shorter : length left ≡ n - 1 = length-take-le (n - 1) letters (omega arith) in
        let log : put (letters_at_byte + (number_in state - 1)) (0 ∷ []) (numbered (number_in state - 1) state) ≡ bytes_of left marks set rest =
        ap (λ (k : ℕ). put (letters_at_byte + (k - 1)) (0 ∷ []) (numbered (k - 1) state)) (number-held rest (held letters few))
        ∙ put-log rest (held letters few) (n - 1) (n - 1) (0 ∷ []) left (sym shorter) (omega arith) (padded-last 512 letters h few) in
        ap (refreshed q codes ts) log ∙ refresh-leaves rest (held left (omega arith)) set-length

    -- a return
    pub return-leaves : (m : ℕ) → m < 16 → returned q codes ts m state ≡ bytes_of (letters_at (marks m)) marks (afresh q codes ts (letters_at (marks m))) rest
    unfolding returned
    return-leaves m h =
        let back = letters_at (marks m) in
        let H = held letters few in
        let full : length (padded 512 back) ≡ 512 = padded-length 512 back (low m) in
        let log : put letters_at_byte (take 512 (drop (mark_letters_at m) state)) (numbered (number_at_lem state (mark_number_at m)) state) ≡ bytes_of back marks set rest =
        ap₂ (λ (v : List ℕ) (j : ℕ). put letters_at_byte v (numbered j state)) (mark-letters rest H m h) (mark-number rest H m h)
        ∙ put-log rest H (length back) 0 (padded 512 back) back refl (omega arith) (put_all (padded 512 back) (padded 512 letters) (full ∙ sym (padded-length 512 letters few))) in
        ap (refreshed q codes ts) log ∙ refresh-leaves rest (held back (low m)) set-length

    -- a mark
    pub mark-leaves : (m : ℕ) → m < 16 → marked m state ≡ bytes_of letters (remark m letters marks) set rest
    unfolding marked bytes_of
    mark-leaves m h =
        let n = length letters in
        let t = two_bytes n in
        let k = number_bytes marks in
        let l = padded 512 letters in
        let b = mark_bytes marks in
        let s = padded 65536 set in
        let marks' = remark m letters marks in
        let H = held letters few in
        let flagged : put (2 + m) (1 ∷ []) state ≡ laid t (flag_bytes marks') k l b s rest =
        put-flag rest (long n marks marks H) m (1 ∷ []) (omega arith) ∙ ap (λ (x : List ℕ). laid t x k l b s rest) (flag-put m letters marks h) in
        let counted : put (mark_number_at m) (two_bytes (number_in state)) (put (2 + m) (1 ∷ []) state) ≡ laid t (flag_bytes marks') (number_bytes marks') l b s rest =
        ap₂ (λ (j : ℕ) (x : List ℕ). put (mark_number_at m) (two_bytes j) x) (number-held rest H) flagged
        ∙ put-numbers rest (long n marks' marks H) (2 * m) t (omega (arith, two-long n))
        ∙ ap (λ (x : List ℕ). laid t (flag_bytes marks') x l b s rest) (number_put m letters marks h) in
        ap₂ (put (mark_letters_at m)) (letters-whole rest H) counted
        ∙ put-marks rest (long n marks' marks' H) (512 * m) l (omega (arith, padded-length 512 letters few))
        ∙ ap (λ (x : List ℕ). laid t (flag_bytes marks') (number_bytes marks') l x s rest) (letters-put m letters marks h few low)
