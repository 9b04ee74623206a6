-- `tag_move` meets its contract: the code of the target tells the number of its core and the ranks that the step leads to.
use Rattle.std.proofs.Common.{◌≡◌, ◌/◌, ◌&&◌, ltb, get_or, bit_and, arith}
use Rattle.sets.specs.Masks.{mask}
use Rattle.theory.specs.Automaton.{automaton}
use Rattle.theory.specs.Code.{rank_in}
use Rattle.theory.specs.Run.{source_of, letter_of_lem, target_of}
use Rattle.theory.specs.TableComputed.{macrostates_from}
use Rattle.build_cores.specs.Parts.{vector_of}
use Rattle.spare_spec.specs.SpareComputed.{spares}
use Rattle.stricter_tags_moves.proofs.Moves.{target-low, letter_known, step, target, vector-cores, ranks-are, top-low, move-low, tags-are}
use Rattle.stricter_tags_moves.proofs.tag_move.Goals as goal

pub bounds-codes-target_of : goal.bounds-codes-target_of
bounds-codes-target_of c = let (r, s, T, few, C, m) = c.requires in omega (arith, c.target_of.ensures, C.long, target-low T s few C m)

pub spared_over-spared-requires : goal.spared_over-spared-requires
spared_over-spared-requires c =
    let (r, s, T, few, C, m) = c.requires in let e = ranks-are T s few C m in let h = vector-cores T s few C m in
    ((r, T), rw c.target_of.ensures (rw e at h), omega (arith, c.letter_of.ensures, letter_known T s few C m))

pub overflow_add-result : goal.overflow_add-result
overflow_add-result c = let (r, s, T, few, C, m) = c.requires in omega (arith, top-low T s few C m c.target_of.ensures, move-low T s few C m)

pub overflow_add-result-2 : goal.overflow_add-result-2
overflow_add-result-2 c =
    let (r, s, T, few, C, m) = c.requires in omega (arith, top-low T s few C m c.target_of.ensures, move-low T s few C m, c.spared_over-spared.ensures.0)

pub returns : goal.returns
returns c = λ r s T few C m.
    let a = c.args in let codes = macrostates_from r s in let from = get_or codes (source_of a.t) 0 in let to = get_or codes (target_of a.t) 0 in
    let v : vector_of (automaton r) (rank_in (automaton r) to) ≡ bit_and (get_or a.codes.now c.target_of.result 0 / 256) 4294967295
    = rw c.target_of.ensures (ranks-are T s few C m) in
    let spared : c.spared_over-spared.result ≡ mask 8 (λ K. ltb K (automaton r).components && spares (automaton r) (letter_of_lem a.t) from to K)
    = rw c.letter_of.ensures at (c.spared_over-spared.ensures.1 r T from to (target T s few C m) v (rw c.letter_of.ensures (step T s few C m))) in
    rw c.target_of.ensures (tags-are T s few C m c.spared_over-spared.result spared)
