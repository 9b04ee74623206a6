-- The word that begins at a byte, and the next.
use mathlib.Core.Path.{◌≡◌, sym, ◌∙◌, ap}
use mathlib.Core.Logic.{by_cases}
use mathlib.Core.List.{List}
use Prim.Native.Nat.{ℕ, suc, ◌+◌, ◌≤◌, ◌<◌}
use native.Mathlib.Omega.{arith}
use native.Mathlib.Decide.{dec_lt}
use lib.ListN.{length, get_or, take, drop, length-take, length-drop}
use lib.Seq.{take-take, take-add, take_at, drop_at, drop-drop}
use borrow.Author.Tests.{lt-ltb, le-ltb, eq-eqb, ne_eqb}
use Rattle.refusals.specs.Rows.{first_row}
use Rattle.word_rows.specs.Words.{word_row_lem}
use Rattle.theory.specs.Word.{WordOver}
use Rattle.sheet_spec.specs.Words.{lone, spelled, words_of, lead_of, cycle_of, length_faults, fault_of}
use Rattle.sheet_laws.proofs.Walk.{words-end, words_last, words-next}
use Rattle.sheet_laws.proofs.Alone.{fault-alone, sound}
use Rattle.sheet_words.specs.Places.{lead_at, cycle_at, letters_at, word_from, Next}

module _ (s : List ℕ) (at : ℕ) where
  pub from-spelled : at + 1 < length s → word_from s at ≡ spelled (lead_at s at) (cycle_at s at) (letters_at s at)
  unfolding word_from
  from-spelled h = rw (lt-ltb (at + 1) (length s) h, word_from)

  pub from-lone : at + 1 ≡ length s → word_from s at ≡ lone (get_or s at 0)
  unfolding word_from
  from-lone e = rw (le-ltb (at + 1) (length s) (omega arith), word_from)

  -- a lone length byte is the last
  pub next-lone : at + 1 ≡ length s → Next s at (length s)
  next-lone e = record {
    later = omega arith;
    within = omega arith;
    words = words_last s at e ∙ rw (from-lone e, words-end s (length s) (omega arith));
  }

  module _ (two : at + 1 < length s) where
    abbrev size : ℕ
    size = lead_at s at + cycle_at s at

    -- the word's end is there
    pub next-whole : at + 2 + size ≤ length s → Next s at (at + 2 + size)
    next-whole h = record { later = omega arith; within = h; words = words-next s at two ∙ rw (from-spelled two) }

    -- the sheet's end cuts the word off
    pub next-cut : length s < at + 2 + size → Next s at (length s)
    next-cut h = record {
      later = omega arith;
      within = omega arith;
      words = words-next s at two ∙ rw (from-spelled two, words-end s (at + 2 + size) (omega arith), words-end s (length s) (omega arith));
    }

    -- ---- its number

    module _ (n : ℕ) where
      pub cut-fault : length s < at + 2 + size → 0 < cycle_at s at → fault_of n (word_from s at) ≡ 13
      unfolding fault_of length_faults first_row
      cut-fault h p =
          let short : length (letters_at s at) < size = simp (length-take, length-drop) (omega arith) in
          rw (from-spelled two, ne_eqb (cycle_at s at) 0 (λ e. omega arith), lt-ltb (length (letters_at s at)) size short)

      pub cut-no-cycle : cycle_at s at ≡ 0 → fault_of n (word_from s at) ≡ 12
      unfolding fault_of length_faults first_row
      cut-no-cycle e = rw (from-spelled two, eq-eqb (cycle_at s at) 0 e)

      pub whole-fault : (lead cycle : List ℕ) → at + 2 + size ≤ length s → lead ≡ take (lead_at s at) (drop (at + 2) s) → cycle ≡ take (cycle_at s at) (drop (at + 2 + lead_at s at) s)
          → fault_of n (word_from s at) ≡ word_row_lem n lead cycle
      whole-fault lead cycle h e f =
          let long : length (letters_at s at) ≡ size = simp (length-take, length-drop) (omega arith) in
          let front : length (take (lead_at s at) (drop (at + 2) s)) ≡ lead_at s at = simp (length-take, length-drop) (omega arith) in
          let u = take (lead_at s at) (drop (at + 2) s) in
          let v = take (cycle_at s at) (drop (lead_at s at) (drop (at + 2) s)) in
          let parts = take-add (lead_at s at) (cycle_at s at) (drop (at + 2) s) in
          let one : take (lead_at s at) (letters_at s at) ≡ lead = ap (take (lead_at s at)) parts ∙ take_at u v (lead_at s at) front ∙ sym e in
          let two' : drop (lead_at s at) (letters_at s at) ≡ cycle
          = ap (drop (lead_at s at)) parts ∙ drop_at u v (lead_at s at) front ∙ ap (take (cycle_at s at)) (drop-drop (lead_at s at) (at + 2) s) ∙ sym f in
          ap (fault_of n) (from-spelled two) ∙ fault-alone (lead_at s at) (cycle_at s at) (letters_at s at) long n ∙ rw (one, two')

  pub lone-fault : (n : ℕ) → at + 1 ≡ length s → fault_of n (word_from s at) ≡ 13
  unfolding fault_of
  lone-fault n e = rw (from-lone e)

-- ---- a word that is not faulty

module _ (s : List ℕ) (at : ℕ) where
  abbrev a : ℕ
  a = lead_at s at

  abbrev b : ℕ
  b = cycle_at s at

  -- it is all there, and its lead-in and cycle stand one after the other
  pub record SoundAt (n : ℕ) : Type 0 where
    pub two : at + 1 < length s
    pub room : at + 2 + a + b ≤ length s
    pub repeats : 0 < b
    pub lead-short : a ≤ 32
    pub cycle-short : b ≤ 32
    pub lead : lead_of (word_from s at) ≡ take a (drop (at + 2) s)
    pub cycle : cycle_of (word_from s at) ≡ take b (drop (at + 2 + a) s)
    pub word : WordOver n (take a (drop (at + 2) s)) (take b (drop (at + 2 + a) s))

  lead-part : take a (letters_at s at) ≡ take a (drop (at + 2) s)
  lead-part = take-take a (a + b) (drop (at + 2) s) (omega arith)

  cycle-part : at + 2 + a + b ≤ length s → drop a (letters_at s at) ≡ take b (drop (at + 2 + a) s)
  cycle-part h =
      let front : length (take a (drop (at + 2) s)) ≡ a = simp (length-take, length-drop) (omega arith) in
      ap (drop a) (take-add a b (drop (at + 2) s))
      ∙ drop_at (take a (drop (at + 2) s)) (take b (drop a (drop (at + 2) s))) a front
      ∙ ap (take b) (drop-drop a (at + 2) s)

  there : (n : ℕ) → at + 1 < length s → fault_of n (word_from s at) ≡ 0 → SoundAt n
  unfolding lead_of cycle_of
  there n two e =
      let most : length (letters_at s at) ≤ a + b = simp (length-take, length-drop) (omega arith) in
      let S = sound n a b (letters_at s at) most (ap (fault_of n) (sym (from-spelled s at two)) ∙ e) in
      let long : length (letters_at s at) ≡ a + b = S.whole in
      let room : at + 2 + a + b ≤ length s = omega (arith, simp (length-take, length-drop) at long, S.repeats) in
      record {
        two = two;
        room = room;
        repeats = S.repeats;
        lead-short = S.lead-short;
        cycle-short = S.cycle-short;
        lead = ap lead_of (from-spelled s at two) ∙ lead-part;
        cycle = ap cycle_of (from-spelled s at two) ∙ cycle-part room;
        word = rw (lead-part, cycle-part room) at S.word;
      }

  pub sound-at : (n : ℕ) → at < length s → fault_of n (word_from s at) ≡ 0 → SoundAt n
  sound-at n l e =
      by_cases (dec_lt (at + 1) (length s)) (λ two. there n two e)
      (λ h. let z : 13 ≡ 0 = sym (lone-fault s at n (omega arith)) ∙ e in absurd (omega arith))

-- ---- counting

-- n words counted, those from byte at on left
abbrev pub CountedTo : List ℕ → ℕ → ℕ → Type 0
CountedTo s at n = length (words_of s) ≡ n + length (words_of (drop at s))

pub counted_next : (s : List ℕ) (at r n : ℕ) → Next s at r → CountedTo s at n → CountedTo s r (n + 1)
counted_next s at r n N e = let f : length (words_of (drop at s)) ≡ suc (length (words_of (drop r s))) = ap length N.words in omega arith

pub counted-end : (s : List ℕ) (at n : ℕ) → length s ≤ at → CountedTo s at n → n ≡ length (words_of s)
counted-end s at n h e = let f : length (words_of (drop at s)) ≡ 0 = ap length (words-end s at h) in omega arith
