-- The tidy spelling of a word of a sheet as parts of the sheet, and the masks of the word from those of its tidy cycle.
use mathlib.Core.Path.{◌≡◌, sym, ◌∙◌, ap}
use mathlib.Core.List.{List, [], ◌++◌}
use Prim.Native.Nat.{ℕ, ◌+◌, ◌-◌, ◌<◌}
use native.Mathlib.Omega.{arith}
use lib.ListN.{length, get_or, take, drop, replicate, length-take, length-drop}
use lib.Seq.{get_or-take}
use Rattle.sets.proofs.Lists.{mem-at}
use Rattle.theory.specs.Passing.{Passing}
use Rattle.theory.specs.Rule.{Rule}
use Rattle.theory.specs.Truth.{truth_masks}
use Rattle.theory.specs.Word.{places, letters, WordOver}
use Rattle.judge_place.specs.Starts.{back_over}
use Rattle.word_spelling_spec.specs.SpellingComputed.{cycle_length_lem, shortened, lead_length_lem, tidy_lead, tidy_cycle}
use Rattle.word_spelling_spec.proofs.Tidied.{lead-max, tidy-lead-length}
use Rattle.sheet_spec.specs.Words.{lead_of, cycle_of, fault_of}
use Rattle.sheet_spec.specs.Computed.{masks_by}
use Rattle.sheet_laws.proofs.Shared.{cycle_long, lead_long, lead-within, cycle-within, tidy-part, tidy-front, tidy-over}
use Rattle.sheet_words.specs.Places.{lead_at, cycle_at, word_from}
use Rattle.sheet_words.proofs.Places.{SoundAt, sound-at}
use Rattle.sheet_cycles.specs.Repeats.{repeated}
use Rattle.sheet_cycles.proofs.Repeated.{word-masks}
use Rattle.sheet_word.specs.declared.TidyPart.{TidyPart}
use Rattle.sheet_word.specs.Word.{TidyAt}

-- a word that is not faulty is one over s letters
pub word_at : (s : ℕ) (sheet : List ℕ) (at : ℕ) → at < length sheet → fault_of s (word_from sheet at) ≡ 0 → WordOver s (lead_of (word_from sheet at)) (cycle_of (word_from sheet at))
word_at s sheet at l e = let S = sound-at sheet at s l e in rw (S.lead, S.cycle) S.word

-- ---- where the tidy spelling stands

module _ {sheet : List ℕ} {at s : ℕ} (S : SoundAt sheet at s) where
  abbrev u : ℕ → List ℕ
  u x = take x (drop (at + 2) sheet)

  abbrev v : ℕ → List ℕ
  v y = take y (drop (at + 2 + lead_at sheet at) sheet)

  -- the lengths of the parts that are lent
  abbrev x : ℕ
  x = at + 2 + lead_at sheet at - (at + 2)

  abbrev y : ℕ
  y = at + 2 + lead_at sheet at + cycle_at sheet at - (at + 2 + lead_at sheet at)

  pub tidy-there : {p m : ℕ} → p ≡ cycle_length_lem (v y) → m ≡ shortened (letters (u x) (v y)) p (length (u x))
      → TidyAt sheet at (record { first = at + 2; begin = at + 2 + m; size = p; places = at + 2 + lead_at sheet at + cycle_at sheet at - (at + 2) })
  unfolding lead_length_lem tidy_lead
  tidy-there {p} {m} hp hm =
      let a = lead_at sheet at in let b = cycle_at sheet at in
      let ex : x ≡ a = omega arith in
      let ey : y ≡ b = omega arith in
      let ep : p ≡ cycle_length_lem (v b) = hp ∙ ap (λ (z : ℕ). cycle_length_lem (v z)) ey in
      let em : m ≡ lead_length_lem (u a) (v b)
      = hm ∙ ap (λ (z : ℕ). shortened (letters (u z) (v y)) p (length (u z))) ex ∙ ap (λ (z : ℕ). shortened (letters (u a) (v z)) p (length (u a))) ey
      ∙ ap (λ (z : ℕ). shortened (letters (u a) (v b)) z (length (u a))) ep in
      let lw = lead-within sheet (at + 2) a b S.room S.repeats in
      let cw = cycle-within sheet (at + 2) a b S.room S.repeats in
      let behind : at + 2 + m - (at + 2) ≡ lead_length_lem (u a) (v b) = omega arith in
      record {
        order = omega arith;
        within = omega (arith, S.room);
        short = omega (arith, S.cycle-short);
        few = omega (arith, S.lead-short, S.cycle-short);
        all = rw (S.lead, S.cycle) (omega (arith, lead_long sheet (at + 2) a b S.room S.repeats, cycle_long sheet (at + 2) a b S.room S.repeats));
        lead = rw (S.lead, S.cycle, behind) (sym (tidy-front sheet (at + 2) a b S.room S.repeats));
        cycle = rw (S.lead, S.cycle, ep, em) (sym (tidy-part sheet (at + 2) a b S.room S.repeats));
      }

-- ---- what is lent and written for it

module _ {sheet : List ℕ} {at : ℕ} {t : TidyPart} (T : TidyAt sheet at t) {s : ℕ} (W : WordOver s (lead_of (word_from sheet at)) (cycle_of (word_from sheet at))) where
  abbrev lead : List ℕ
  lead = lead_of (word_from sheet at)

  abbrev cycle : List ℕ
  cycle = cycle_of (word_from sheet at)

  abbrev front : List ℕ
  front = take (t.begin - t.first) (drop t.first sheet)

  abbrev part : List ℕ
  part = take t.size (drop t.begin sheet)

  pub part-over : WordOver s [] part
  part-over = rw T.cycle (tidy-over s lead cycle W)

  pub part-long : length part ≡ t.size
  part-long = simp (length-take, length-drop) (omega (arith, T.within))

  pub part-some : 0 < t.size
  part-some = omega (arith, part-over.repeats, part-long)

  -- the letters of the tidy lead-in are the word's
  pub front-letters : (j : ℕ) → j < length front → get_or front j 0 < s
  unfolding tidy_lead
  front-letters j l =
      let k : j < length (tidy_lead lead cycle) = rw T.lead at l in
      let here : j < lead_length_lem lead cycle = omega (arith, tidy-lead-length lead cycle W.repeats) in
      let there : j < length lead = omega (arith, lead-max lead cycle W.repeats) in
      rw (T.lead, get_or-take (lead_length_lem lead cycle) lead j 0 here) (W.lead_letters (get_or lead j 0) (mem-at lead j there))

  pub front-short : length front < t.places
  front-short = rw T.lead (omega (arith, T.all, tidy-lead-length lead cycle W.repeats, lead-max lead cycle W.repeats, W.repeats))

  -- what is written is the masks of the word, and zeros
  pub served-masks : {r : Rule} → Passing r → {masks block : List ℕ} {n : ℕ} → masks ≡ truth_masks r [] part → n ≡ 64
      → block ≡ back_over r front (repeated masks (t.places - length front) ++ replicate (n - t.places) 0) → block ≡ masks_by r 0 (word_from sheet at)
  unfolding tidy_lead
  served-masks {r} P {masks} {block} {n} e f h =
      let size = tidy-lead-length lead cycle W.repeats in
      let all : masks ≡ truth_masks r [] (tidy_cycle lead cycle) = e ∙ ap (truth_masks r []) T.cycle in
      let w : back_over r (tidy_lead lead cycle) (repeated masks (places lead cycle - length (tidy_lead lead cycle)) ++ replicate (64 - places lead cycle) 0) ≡ masks_by r 0 (word_from sheet at)
      = rw (all, size) (word-masks lead cycle W.repeats r P (replicate (64 - places lead cycle) 0)) in
      h ∙ rw (T.lead, T.all, f) w
