-- `move_from` meets its contract: the transitions before i are swept, if those before `from` were.
use Rattle.std.proofs.Common.{◌≡◌, ◌∙◌, ℕ, ◌/◌, ◌<◌, List, length, get_or, sym, ap, arith}
use Rattle.sets.proofs.Lists.{mem-at}
use Rattle.theory.specs.Run.{target_of}
use Rattle.codes.specs.Codes.{transition_of}
use Rattle.trim_spec.specs.Graph.{Inside}
use Rattle.table_lent.specs.Lent.{words_in}
use Rattle.table_lent.proofs.Reading.{words-in-length, words-in-at}
use Rattle.follow_set.specs.Sweeping.{Sweeping}
use Rattle.follow_set.proofs.Sweeps.{sweeping-out, range-start, range-next, range-end, still-in}
use Rattle.follow_set.proofs.move_from.Goals as goal

-- what is stepped has the length of the set before
within : (x : ℕ) {a p : ℕ} {ts before after : List ℕ} → Sweeping a ts before after x p → Inside (length after) ts → Inside (length before) ts
within x s i = rw s.swept.long at i

pub returns-then-set-x-eq0 : goal.returns-then-set-x-eq0
returns-then-set-x-eq0 c = let a = c.args in let pre = c.requires in
    (λ before low s. sweeping-out a.letter (words_in a.transitions.now) before low (within a.x s pre.4) a.set.now a.x a.from (omega (arith, s.swept.long)) c.if-set-x-eq0.true s, pre.5)

pub loop-i-init : goal.loop-i-init
loop-i-init c = let a = c.args in λ before low s.
    range-start a.letter (words_in a.transitions.now) before low (within a.x s c.requires.4) c.requires.2 a.set.now a.x a.from _ (rw c.pack_transition-key.ensures at c.place_from-i.ensures) s

-- the transition that is read is the one at its place, and its target is in range
target : (n y t : ℕ) (bytes : List ℕ) (i : ℕ) → i < length bytes / 8 → Inside n (words_in bytes) → t ≡ get_or (words_in bytes) i 0 → y ≡ target_of t → y < n
target n y t bytes i l h e f =
    let m = mem-at (words_in bytes) i (omega (arith, words-in-length bytes)) in omega (arith, f ∙ ap target_of e, h.targets (get_or (words_in bytes) i 0) m)

pub bounds-set-y : goal.bounds-set-y
bounds-set-y c = let bytes = c.args.transitions.now in let i = c.loop-i.i in let l : i < length bytes / 8 = omega arith in
    omega (arith, target (length c.args.set.now) _ _ bytes i l c.requires.4 (c.word_at-t.ensures ∙ sym (words-in-at bytes i l)) c.target_of-y.ensures)

pub bounds-set-y-in-loop-i : goal.bounds-set-y-in-loop-i
bounds-set-y-in-loop-i c = let bytes = c.args.transitions.now in let i = c.loop-i.i in let l : i < length bytes / 8 = omega arith in
    omega (arith, target (length c.args.set.now) _ _ bytes i l c.requires.4 (c.word_at-t.ensures ∙ sym (words-in-at bytes i l)) c.target_of-y.ensures)

pub loop-i-preserved : goal.loop-i-preserved
loop-i-preserved c =
    let a = c.args in let pre = c.requires in let i = c.loop-i.i in let ts = words_in a.transitions.now in
    let inside : i < length ts = omega (arith, words-in-length a.transitions.now) in
    let e : c.word_at-t.result ≡ get_or ts i 0 = c.word_at-t.ensures ∙ sym (words-in-at a.transitions.now i (omega arith)) in
    let y : c.target_of-y.result ≡ target_of (get_or ts i 0) = c.target_of-y.ensures ∙ ap target_of e in
    let same : get_or ts i 0 / 65536 ≡ transition_of a.x a.letter 0 / 65536 = omega (arith, e, c.pack_transition-key.ensures, c.if-t-key.false) in
    λ before low s. let one_in = still-in a.letter ts before low (within a.x s pre.4) a.set.now a.x a.from (omega (arith, s.swept.long)) c.if-set-x-eq0.false s in
    rw y (range-next a.letter ts before low (within a.x s pre.4) pre.2 c.loop-i.set a.x i inside same one_in (c.loop-i.invariant before low s))

pub returns-then-t-key : goal.returns-then-t-key
returns-then-t-key c =
    let a = c.args in let pre = c.requires in let i = c.loop-i.i in let ts = words_in a.transitions.now in let long = words-in-length a.transitions.now in
    let P = rw c.pack_transition-key.ensures at c.place_from-i.ensures in
    let t : c.word_at-t.result ≡ get_or ts i 0 = c.word_at-t.ensures ∙ sym (words-in-at a.transitions.now i (omega arith)) in (
      λ before low s. range-end a.letter ts before low (within a.x s pre.4) pre.2 pre.3 a.set.now c.loop-i.set a.x a.from _ i P (omega arith)
          (λ k e. c.if-t-key.true (omega (arith, t, e, c.pack_transition-key.ensures))) (omega (arith, P.ordered)) s (c.loop-i.invariant before low s),
      omega (arith, long),
    )

pub returns : goal.returns
returns c =
    let a = c.args in let pre = c.requires in let ts = words_in a.transitions.now in let long = words-in-length a.transitions.now in
    let P = rw c.pack_transition-key.ensures at c.place_from-i.ensures in let all : c.loop-i.i ≡ length a.transitions.now / 8 = omega (arith, P.within, long) in (
      λ before low s. range-end a.letter ts before low (within a.x s pre.4) pre.2 pre.3 a.set.now c.loop-i.set a.x a.from _ (length a.transitions.now / 8) P (omega (arith, P.within, long))
          (λ k e. absurd (omega (arith, long))) (omega (arith, P.ordered, P.within, long)) s (rw all at (c.loop-i.invariant before low s)),
      omega (arith, long),
    )
