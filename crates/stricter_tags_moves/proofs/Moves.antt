-- The transitions of a rule's table: what their tags are made of.
use mathlib.Core.Path.{◌≡◌, sym, ◌∙◌, ap, ap₂}
use mathlib.Core.Bool.{◌&&◌}
use mathlib.Core.List.{List, Memᴰ}
use Prim.Native.Nat.{ℕ, ◌+◌, ◌*◌, ◌/◌, ◌%◌, ◌^◌, ◌≤◌, ◌<◌}
use native.Mathlib.Omega.{arith}
use lib.Bits.{bit_and, and_mask}
use lib.Dec.{ltb}
use lib.ListN.{length, get_or}
use Rattle.sets.specs.Masks.{mask}
use Rattle.sets.specs.Tests.{Set}
use Rattle.sets.proofs.Masks.{mask_lt}
use Rattle.theory.specs.Automaton.{automaton}
use Rattle.theory.specs.Code.{rank_in}
use Rattle.theory.specs.Macrostate.{Macrostate, Goes}
use Rattle.theory.specs.Rule.{Rule}
use Rattle.theory.specs.Run.{source_of, letter_of_lem, target_of}
use Rattle.theory.specs.TableComputed.{macrostates_from, transitions_from}
use Rattle.theory_laws.proofs.Layers.{layered}
use Rattle.build_cores.specs.Parts.{set_of, vector_of}
use Rattle.build_step_back.specs.Earlier.{core_of, level_left}
use Rattle.build_step_back.specs.Step.{Back}
use Rattle.build_step_back.proofs.Codes.{pair-component}
use Rattle.build_step_back.proofs.Tables.{level-is}
use Rattle.build_spec.specs.Keys.{Cored}
use Rattle.build_spec.specs.Tables.{RuleTables, Lowest}
use Rattle.build_spec.specs.declared.Shape.{Shape}
use Rattle.build_spec.proofs.Link.{vector-cored, vector-core}
use Rattle.build_spec.proofs.Starting.{within_all}
use Rattle.spare_spec.specs.SpareComputed.{spares}
use Rattle.stricter_spec.specs.Tags.{first_of, spares_at, TaggedCodes, tag_of}
use Rattle.stricter_laws.proofs.OneParent.{macrostate-at, letter-low, table-inside}
use Rattle.stricter_laws.proofs.CoreTables.{goes, codes-low, moves-low}
use Rattle.stricter_laws.proofs.First.{first-low}
use Rattle.stricter_laws.proofs.Tags.{core-number}
use Rattle.stricter_tags_moves.specs.Spared.{spared_in_lem}
use Rattle.stricter_tags_moves.proofs.Spared.{mask_is}

module _ {r : Rule} {opens parts : List ℕ} {shape : Shape} (T : RuleTables r opens parts shape) where
  -- ---- the step back from a core

  module _ {a ranks : ℕ} (known : a < shape.s) (w : Cored parts shape.components ranks) {low : List ℕ} (L : Lowest ranks low)
      {back : ℕ} {levels : List ℕ} (B : Back opens a (get_or low 15 0) parts shape.components low back levels) where
    top-level : (K : ℕ) → K < (automaton r).components → get_or levels K 0 / 2 ^ 60 % 16 ≡ level_left (automaton r) a ranks K 15
    top-level K l = level-is (automaton r) (layered r T.shaped.passing) r.s opens parts T.shaped.masks T.table a ranks (omega (arith, T.shaped.letters_are))
        (within_all T.shaped ranks w.within) low L back levels (rw T.shaped.components_are at B) K 15 l (omega arith)

    pub over-is : {c d : ℕ} → Macrostate (automaton r) d → vector_of (automaton r) (rank_in (automaton r) d) ≡ ranks → Goes (automaton r) c a d
        → mask shape.components (spared_in_lem ranks parts levels) ≡ mask 8 (λ K. ltb K (automaton r).components && spares (automaton r) a c d K)
    over-is N e G =
        ap₂ (λ (n x : ℕ). mask n (spared_in_lem x parts levels)) T.shaped.components_are (sym e)
        ∙ mask_is (layered r T.shaped.passing) T.shaped.masks N G levels
        (λ K l. top-level K l ∙ ap (λ (x : ℕ). level_left (automaton r) a x K 15) (sym e))

  -- ---- the codes

  module _ (start : Set) where
    abbrev codes : List ℕ
    codes = macrostates_from r start

    pub code-known : length codes ≤ 65536 → (i : ℕ) → i < length codes → get_or codes i 0 / 1099511627776 % 16 < shape.components
    code-known room i l =
        let M = macrostate-at T.shaped.passing start room i l in
        omega (arith, pair-component (automaton r) (get_or codes i 0) M.coded, M.component, T.shaped.components_are)

    -- ---- a transition between them

    module _ {tagged : List ℕ} (few : length tagged ≤ 65536) (C : TaggedCodes codes tagged) {t : ℕ} (m : Memᴰ t (transitions_from r start)) where
      room : length codes ≤ 65536
      room = omega (arith, C.long)

      pub target-low : target_of t < length codes
      target-low = (table-inside T.shaped.passing start room).targets t m

      pub letter_known : letter_of_lem t < shape.s
      letter_known = omega (arith, letter-low T.shaped.passing start room m, T.shaped.letters_are)

      pub step : Goes (automaton r) (get_or codes (source_of t) 0) (letter_of_lem t) (get_or codes (target_of t) 0)
      step = goes T.shaped.passing start room m

      -- the code of the target, and the vector of its ranks
      abbrev code : ℕ
      code = get_or codes (target_of t) 0

      pub target : Macrostate (automaton r) code
      target = macrostate-at T.shaped.passing start room (target_of t) target-low

      pub vector-cores : Cored parts shape.components (vector_of (automaton r) (rank_in (automaton r) code))
      vector-cores = rw T.shaped.components_are (vector-cored (automaton r) (layered r T.shaped.passing) parts T.shaped.masks code target)

      pub ranks-are : vector_of (automaton r) (rank_in (automaton r) code) ≡ bit_and (get_or tagged (target_of t) 0 / 2 ^ 8) 4294967295
      unfolding core_of
      ranks-are =
          let e = vector-core (automaton r) (layered r T.shaped.passing) parts T.shaped.masks code target in
          omega (
            arith,
            C.each (target_of t) target-low,
            mask_lt 8 (set_of (automaton r) (vector_of (automaton r) (rank_in (automaton r) code))),
            and_mask (get_or tagged (target_of t) 0 / 2 ^ 8) 32,
          )

      top-is : get_or tagged (target_of t) 0 / 281474976710656 ≡ first_of codes (target_of t)
      top-is = core-number C (codes-low T.shaped.passing start room) (target_of t) target-low

      pub top-low : {x : ℕ} → x ≡ target_of t → get_or tagged x 0 / 281474976710656 < 65536
      top-low e = rw e (omega (arith, top-is, first-low codes (target_of t), target-low))

      pub move-low : t < 1099511627776
      move-low = moves-low T.shaped.passing start room t m

      -- the tags, above the transition
      pub tags-are : (spared : ℕ) → spared ≡ mask 8 (λ K. ltb K (automaton r).components && spares (automaton r) (letter_of_lem t) (get_or codes (source_of t) 0) code K)
          → t + get_or tagged (target_of t) 0 / 281474976710656 * 1099511627776 + spared * 72057594037927936 ≡ t + 1099511627776 * tag_of (automaton r) codes t
      unfolding tag_of spares_at
      tags-are spared e = omega (arith, top-is, e)
