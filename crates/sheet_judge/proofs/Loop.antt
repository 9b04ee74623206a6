-- The loop over the words of a sheet.
use mathlib.Core.Path.{◌≡◌, refl, sym, ◌∙◌, ap}
use mathlib.Core.Logic.{by_cases}
use mathlib.Core.List.Memᴰ
use mathlib.Core.List.{List, [], ◌∷◌, ◌++◌, map}
use Prim.Native.Nat.{ℕ, ◌+◌, ◌-◌, ◌*◌, ◌≤◌, ◌<◌}
use native.Mathlib.Omega.{arith}
use native.Mathlib.Decide.{dec_lt}
use lib.ListN.{length, drop, set, take}
use Rattle.theory.specs.Rule.{Rule}
use Rattle.sheet_spec.specs.Words.{words_of}
use Rattle.sheet_spec.specs.Computed.{answer_of, all_masks, cycles_after, cycle_count}
use Rattle.sheet_laws.proofs.Walk.{words-end, words_last, words-next}
use Rattle.sheet_laws.proofs.Meaning.{sheet-sized, masks-long}
use Rattle.sheet_words.specs.Places.{word_from, Next}
use Rattle.sheet_words.proofs.Places.{CountedTo, counted_next}
use Rattle.sheet_cycles.specs.Known.{known_of}
use Rattle.sheet_cycles.specs.Filled.{Filled}
use Rattle.sheet_cycles.proofs.Known.{known-length}
use Rattle.sheet_word.specs.declared.WordAnswer.{WordAnswer}
use Rattle.sheet_word.specs.Word.{WordJudged}
use Rattle.sheet_judge.specs.Called.{WordsJudged}
use Rattle.sheet_judge.proofs.Fronts.{Front, front-start, front-block, front_at, front-byte, front-end}

-- a word begins before the sheet's end
some_left : (sheet : List ℕ) (at : ℕ) → at < length sheet → 0 < length (words_of (drop at sheet))
some_left sheet at h =
    by_cases (dec_lt (at + 1) (length sheet))
    (λ l. rw (words-next sheet at l) (omega arith))
    (λ l. rw (words_last sheet at (omega arith)) (omega arith))

-- i words are judged, those from byte at on left
pub record Done (r : Rule) (sheet answers masks answers' masks' from size filled : List ℕ) (cycles at i : ℕ) : Type 0 where
  pub within : at ≤ length sheet
  pub counted : CountedTo sheet at i
  pub answered : Front (map (answer_of r) (words_of sheet)) answers answers' i (map (answer_of r) (words_of (drop at sheet)))
  pub masked : Front (all_masks r (words_of sheet)) masks masks' (64 * i) (all_masks r (words_of (drop at sheet)))
  pub known : cycles_after r.s [] (words_of sheet) ≡ cycles_after r.s (known_of sheet from size cycles) (words_of (drop at sheet))
  pub held : Filled r sheet from size filled cycles
  pub few : cycles ≤ i

-- nothing is known yet
pub done-start : {r : Rule} {sheet answers masks from size filled : List ℕ} → length from ≡ 64 → length size ≡ 64 → length filled ≡ 2048
    → Done r sheet answers masks answers masks from size filled 0 0 0
unfolding known_of
done-start a b c = record {
  within = omega arith;
  counted = omega arith;
  answered = front-start;
  masked = front-start;
  known = refl;
  held = record {
    parts = record { few = omega arith; froms = a; sizes = b; within = λ k l. absurd (omega arith); short = λ k l. absurd (omega arith) };
    room = c;
    masks = λ k l. absurd (omega arith);
  };
  few = omega arith;
}

module _ {r : Rule} {sheet answers masks answers' masks' from size filled : List ℕ} {cycles at i : ℕ} (D : Done r sheet answers masks answers' masks' from size filled cycles at i) where
  -- where a word is left there is room for one more
  pub words_more : at < length sheet → i < length (words_of sheet)
  words_more more = omega (arith, some_left sheet at more, D.counted)

  module _ (more : at < length sheet) {next : ℕ} (N : Next sheet at next) {from' size' filled' block : List ℕ} {v : WordAnswer}
      (J : WordJudged r sheet at from size cycles from' size' filled' block v) where
    answers-left : map (answer_of r) (words_of (drop at sheet)) ≡ v.answer ∷ map (answer_of r) (words_of (drop next sheet))
    answers-left = rw (N.words, J.answer)

    masks-left : all_masks r (words_of (drop at sheet)) ≡ block ++ all_masks r (words_of (drop next sheet))
    unfolding all_masks
    masks-left = rw (N.words, J.served.masks)

    known-left : cycles_after r.s (known_of sheet from size cycles) (words_of (drop at sheet)) ≡ cycles_after r.s (known_of sheet from' size' v.cycles) (words_of (drop next sheet))
    unfolding cycles_after
    known-left = rw (N.words, J.served.known)

    pub done_next : length (words_of sheet) ≤ length answers → 64 * length (words_of sheet) ≤ length masks
        → Done r sheet answers masks (set answers' i v.answer) (take (64 * i) masks' ++ (block ++ drop (64 * i + 64 - 64 * i) (drop (64 * i) masks'))) from' size' filled' v.cycles next (i + 1)
    done_next room space =
        let end : 64 * i + 64 ≡ 64 * (i + 1) = omega arith in
        let sized = sheet-sized (drop at sheet) (word_from sheet at) (rw N.words (Memᴰ.head refl)) in
        let long : length block ≡ 64 = ap length J.served.masks ∙ masks-long r (word_from sheet at) sized in
        let F = front-block {e = 64 * i + 64} block (rw masks-left at D.masked) (omega (arith, long)) (omega (arith, words_more more)) in
        record {
          within = N.within;
          counted = counted_next sheet at next i N D.counted;
          answered = front-byte (rw answers-left at D.answered) (omega (arith, words_more more));
          masked = front_at end F;
          known = D.known ∙ known-left;
          held = J.served.filled;
          few = omega (arith, J.served.one, D.few);
        }

  pub done_end : length sheet ≤ at → WordsJudged r sheet answers masks answers' masks' cycles
  unfolding cycle_count cycles_after all_masks
  done_end h =
      let none = words-end sheet at h in
      record {
        answers_written = front-end (rw none at D.answered);
        masks_written = front-end (rw none at D.masked);
        count = sym (ap length (D.known ∙ ap (cycles_after r.s (known_of sheet from size cycles)) none) ∙ known-length sheet from size cycles);
      }
