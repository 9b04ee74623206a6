-- The second pass over a text: what it stores.
use mathlib.Core.Path.{◌≡◌, sym, ◌∙◌, ap}
use mathlib.Core.List.{List, ◌++◌}
use mathlib.Core.Logic.{by_cases}
use Prim.Native.Nat.{ℕ, ◌≤◌, ◌<◌}
use native.Mathlib.Omega.{arith}
use native.Mathlib.Nat.{zero-add}
use native.Mathlib.Decide.{dec_lt}
use lib.ListN.{length, get_or, drop}
use lib.Seq.{sets, sets-eq, ext_get_or}
use Rattle.sets.proofs.Bits.{bit-ext}
use Rattle.sets.specs.Masks.{bit}
use Rattle.hoa_spec.specs.Lines.{end_line}
use Rattle.std.specs.Prelude.{Ok}
use Rattle.hoa_spec.specs.Reading.{Carries, NoTable, ReadBack, table}
use Rattle.hoa_spec.specs.Shape.{flags_from, Marked}
use Rattle.hoa_laws.proofs.Blocks.{blocks-left, moves-same}
use Rattle.hoa_laws.proofs.Carried.{carried, carries}
use Rattle.hoa_laws.proofs.Marks.{initial-bit, marked-length}
use Rattle.hoa_laws.proofs.Once.{ap-no-start, end-no-edge}
use Rattle.hoa_laws.specs.Parts.{Started, accepting_first, BlocksOf, TookBlocks}
use Rattle.hoa_laws.proofs.Blocking.{first-length}
use Rattle.hoa_read.specs.Survey.{NoShape, Whole}

pub no-shape : {text : List ℕ} → NoShape text → NoTable text
no-shape n fs ts C = let p = carried C in n p.0 fs ts p.1 p.2

pub whole_carries : {text : List ℕ} {n b accepting m starts blocks : ℕ} (W : Whole text n b accepting m starts blocks) → Carries text W.flags W.moves
whole_carries W = rw W.text_is (carries W.shaped)

-- a start is told by its bit
start-same : (x y : ℕ) → x ≤ 1 → y ≤ 1 → bit x 0 ≡ bit y 0 → x ≡ y
start-same x y h k e = bit-ext 1 x y (omega arith) (omega arith) (λ q l. let z : q ≡ 0 = omega arith in rw z e)

module _ {text : List ℕ} {n b accepting m starts blocks : ℕ} (W : Whole text n b accepting m starts blocks) where
  abbrev M : Marked W.flags
  M = W.shaped.marked

  -- the flags
  module _ {old : List ℕ} {last r : ℕ} {new : List ℕ} (S : Started text starts n accepting old last r new) where
    starts-same : S.starts ≡ M.starts
    starts-same =
        let R = S.read in
        let len = marked-length M in
        let cnt = W.macrostates in
        let o = R.only W.flags _ (sym W.macrostates) (ap-no-start b _) W.high in
        let l = R.long in
        ext_get_or 0 S.starts M.starts (omega arith) (λ i h.
        start-same (get_or S.starts i 0) (get_or M.starts i 0) (R.each i) (M.each i)
        (sym (o.1 i (omega arith))
        ∙ ap (λ (gs : List ℕ). bit (get_or gs i 0) 0) M.flags_are
        ∙ initial-bit M.accepting M.starts M.each M.begins i (omega arith)))

    flags-same : flags_from accepting 0 S.starts ≡ W.flags
    flags-same =
        ap (λ (a : ℕ). flags_from a 0 S.starts) W.first ∙ ap (λ (ss : List ℕ). flags_from M.accepting 0 ss) starts-same ∙ sym M.flags_are

    pub flags-stored : n ≤ length old → new ≡ W.flags ++ drop (length W.flags) old
    flags-stored h =
        let c = W.macrostates in
        S.stored
        ∙ ap (λ (fs : List ℕ). sets old 0 fs) flags-same
        ∙ sets-eq W.flags old 0 (omega arith)
        ∙ ap (λ (k : ℕ). W.flags ++ drop k old) (zero-add (length W.flags))

  -- the transitions
  module _ {old : List ℕ} {accepting' count r : ℕ} {new : List ℕ} (B : TookBlocks text blocks b n old accepting' count r new) where
    goes-well : 0 < r
    goes-well = by_cases (dec_lt 0 r) (λ l. l) (λ z. absurd (B.absent (omega arith) W.flags W.moves end_line W.shaped (sym W.macrostates) end-no-edge W.body))

    again : BlocksOf text blocks b n old accepting' count r new
    again = B.found goes-well

    moves-again : again.moves ≡ W.moves
    moves-again =
        let R = again.read in let P = W.shaped in let c = W.macrostates in
        let w = first-length accepting' n R.first in
        let s = blocks-left b again.moves W.moves R.letter (λ t i. (P.ranges t i).letter) 0 (accepting_first accepting' n) W.flags (drop r text) end_line
        (omega arith) (λ z. R.next (omega arith)) end-no-edge (sym R.is ∙ W.body) in
        moves-same n again.moves W.moves R.ascending P.ascend R.source (λ t i. let x = (P.ranges t i).source in omega arith)
        (λ i l. rw (zero-add i) at (s.moves i (omega arith)))

    pub moves-stored : m ≤ length old → new ≡ W.moves ++ drop (length W.moves) old
    moves-stored h =
        let c = W.transitions in
        again.stored
        ∙ ap (λ (ts : List ℕ). sets old 0 ts) moves-again
        ∙ sets-eq W.moves old 0 (omega arith)
        ∙ ap (λ (k : ℕ). W.moves ++ drop k old) (zero-add (length W.moves))

  pub all_read : {flags transitions : List ℕ} {flags' transitions' : List ℕ} → n ≤ length flags → m ≤ length transitions
      → flags' ≡ W.flags ++ drop (length W.flags) flags → transitions' ≡ W.moves ++ drop (length W.moves) transitions
      → ReadBack text flags transitions (Ok record { macrostates = n; transitions = m }) flags' transitions'
  all_read h k e f =
      rw (e, f, W.macrostates, W.transitions)
      (table (whole_carries W) (let c = W.macrostates in omega arith) (let c = W.transitions in omega arith))
