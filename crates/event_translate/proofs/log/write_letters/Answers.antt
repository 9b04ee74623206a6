-- `write_letters` meets its contract: the least of the lines in both masks is the event's first line.
use Rattle.std.proofs.Common.{◌≡◌, ◌<◌, ◌++◌, ◌+◌, ◌*◌, ℕ, List, get_or, set, take, drop, ap, sym, ◌∙◌, arith}
use Rattle.std.specs.Int.Count.{count_trailing_zeros}
use Rattle.event_spec.specs.Events.{line_count, event_count, letters_of}
use Rattle.event_translate.proofs.Letters.{least-below, least-letter, known_at, letters-length, put-letter, put_all}
use Rattle.event_translate.proofs.log.write_letters.Goals as goal

pub bounds-events-line : goal.bounds-events-line
bounds-events-line c = let a = c.args in let k = c.loop-k.k in let byte = c.type_inv.log in let held = known_at a.events.now a.log.now k c.requires.1 c.loop-k-test.true in
    let line : count_trailing_zeros 64 c.lines_of.result < line_count a.events.now =
    rw c.lines_of.ensures (least-below a.events.now a.kinds.now a.drives.now a.log.now c.requires.0 k (byte (2 * k)).fits (byte (2 * k + 1)).fits held) in omega arith

pub loop-k-preserved : goal.loop-k-preserved
loop-k-preserved c =
    let a = c.args in let l = c.loop-k in let k = l.k in let byte = c.type_inv.log in let new = letters_of a.events.now a.log.now in
    let held = known_at a.events.now a.log.now k c.requires.1 c.loop-k-test.true in
    let letter : get_or a.events.now (5 * count_trailing_zeros 64 c.lines_of.result + 4) 0 ≡ get_or new k 0 =
    ap (λ (m : ℕ). get_or a.events.now (5 * count_trailing_zeros 64 m + 4) 0) c.lines_of.ensures
    ∙ least-letter a.events.now a.kinds.now a.drives.now a.log.now c.requires.0 k (byte (2 * k)).fits (byte (2 * k + 1)).fits held c.loop-k-test.true in
    ap (λ (x : List ℕ). set x k (get_or a.events.now (5 * count_trailing_zeros 64 c.lines_of.result + 4) 0)) l.invariant
    ∙ ap (set (take k new ++ drop k a.letters.now) k) letter
    ∙ put-letter new a.letters.now k (omega (arith, letters-length a.events.now a.log.now)) (omega (arith, c.requires.2))

pub returns : goal.returns
returns c = let a = c.args in let e : event_count a.log.now ≡ c.loop-k.k = omega arith in
    c.loop-k.invariant ∙ put_all (letters_of a.events.now a.log.now) a.letters.now c.loop-k.k (letters-length a.events.now a.log.now ∙ e)
    ∙ ap (λ (n : ℕ). letters_of a.events.now a.log.now ++ drop n a.letters.now) (sym e)
