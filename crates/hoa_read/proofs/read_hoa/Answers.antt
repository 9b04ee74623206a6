-- `read_hoa` meets its contract: the second pass reads what the first found, and stores it.
use mathlib.Core.Logic.{inl, inr}
use Rattle.std.specs.Prelude.{Option, None, Some, MatchOption}
use Rattle.std.proofs.Common.{arith}
use Rattle.hoa_spec.specs.Reading.{no_table, short}
use Rattle.hoa_read.proofs.Surveys.{text-ended}
use Rattle.hoa_read.proofs.Stores.{no-shape, whole_carries, flags-stored, moves-stored, all_read}
use Rattle.hoa_read.proofs.read_hoa.Goals as goal

-- in both cases
either : {A P R : Type 0} {Q : A → Type 0} (o : Option A) → (P → R) → ((x : A) → Q x → R) → MatchOption o P Q → R
either None f g h = f h
either (Some x) f g h = g x h

pub returns-then-s-eq0 : goal.returns-then-s-eq0
returns-then-s-eq0 c = no_table (no-shape (c.take_text-s.ensures.absent c.if-s-eq0.true))

pub returns-then-flags-n : goal.returns-then-flags-n
returns-then-flags-n c = let W = c.take_text-s.ensures.found (omega arith) in let n = W.macrostates in short (whole_carries W) (inl (omega arith))

pub returns-then-transitions-m : goal.returns-then-transitions-m
returns-then-transitions-m c = let W = c.take_text-s.ensures.found (omega arith) in let n = W.transitions in short (whole_carries W) (inr (omega arith))

pub take_starts-requires : goal.take_starts-requires
take_starts-requires c = let W = c.take_text-s.ensures.found (omega arith) in let n = W.macrostates in let f = W.shaped.few in
    (text-ended _ W.flags W.moves W.text_is, W.within, omega arith)

pub take_blocks-requires : goal.take_blocks-requires
take_blocks-requires c = let W = c.take_text-s.ensures.found (omega arith) in let n = W.macrostates in let f = W.shaped.few in
    (text-ended _ W.flags W.moves W.text_is, W.some, W.goes_on, W.shaped.propositions, omega arith)

pub returns : goal.returns
returns c = let W = c.take_text-s.ensures.found (omega arith) in
    all_read W (omega arith) (omega arith) (flags-stored W c.take_starts.ensures (omega arith))
    (either c.take_blocks.result (λ B. moves-stored W B (omega arith)) (λ r B. moves-stored W B.1 (omega arith)) c.take_blocks.ensures)
