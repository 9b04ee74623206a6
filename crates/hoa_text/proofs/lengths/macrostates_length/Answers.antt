-- `macrostates_length` meets its contract: the lines that are added are those of code i, and they are short.
use Rattle.std.proofs.Common.{◌∙◌, ◌≤◌, ◌<◌, cond, [], length, ap, arith}
use Rattle.theory.specs.Macrostate.{is_accepting_lem}
use Rattle.listing_lines_spec.specs.Lines.{initial_at}
use Rattle.table_lent.specs.Lent.{words_in}
use Rattle.table_lent.proofs.Reading.{words-in-length}
use Rattle.hoa_spec.specs.Lines.{start_line, state_line}
use Rattle.hoa_spec.specs.Text.{flags_of, start_of, state_of}
use Rattle.hoa_laws.proofs.Lengths.{state-short}
use Rattle.hoa_laws.proofs.Sums.{sum-none, sum-next, sum-all}
use Rattle.hoa_text.proofs.Parts.{flags-count, start_is, state-is, start-room}
use Rattle.hoa_text.proofs.lengths.macrostates_length.Goals as goal

pub loop-i-init : goal.loop-i-init
loop-i-init c = let flags = flags_of (initial_at c.args.initial) (words_in c.args.codes.now) in record {
  starts_so_far = sum-none start_of flags;
  states_so_far = sum-none state_of flags;
  starts_short = omega arith;
  states_short = omega arith;
}

pub number_at-code-requires : goal.number_at-code-requires
number_at-code-requires c = omega (arith, words-in-length c.args.codes.now)

pub start_length-starts-requires : goal.start_length-starts-requires
start_length-starts-requires c = omega (arith, words-in-length c.args.codes.now)

pub overflow_add-starts : goal.overflow_add-starts
overflow_add-starts c = let low : c.loop-i.i ≤ 65536 = omega (arith, words-in-length c.args.codes.now) in
    omega (arith, start-room c.is_initial-begins.result c.loop-i.i low)

pub state_length-states-requires : goal.state_length-states-requires
state_length-states-requires c = omega (arith, words-in-length c.args.codes.now)

pub overflow_add-states : goal.overflow_add-states
overflow_add-states c = let low : c.loop-i.i ≤ 65536 = omega (arith, words-in-length c.args.codes.now) in
    omega (arith, state-short c.loop-i.i c.is_accepting-accepts.result low)

pub loop-i-preserved : goal.loop-i-preserved
loop-i-preserved c =
    let codes = c.args.codes.now in let initial = initial_at c.args.initial in let flags = flags_of initial (words_in codes) in let i = c.loop-i.i in
    let begins = c.is_initial-begins.result in let accepts = c.is_accepting-accepts.result in let code = c.number_at-code.ensures in
    let among : i < length flags = omega (arith, flags-count initial codes) in let low : i ≤ 65536 = omega (arith, words-in-length codes) in
    let starts = sum-next start_of flags i c.loop-i.starts (cond begins (start_line i) []) among c.loop-i.invariant.starts_so_far
    (start_is initial codes i c.loop-i-test.true begins (c.is_initial-begins.ensures ∙ ap initial code)) in
    let states = sum-next state_of flags i c.loop-i.states (state_line i accepts) among c.loop-i.invariant.states_so_far
    (state-is initial codes i c.loop-i-test.true accepts (c.is_accepting-accepts.ensures ∙ ap is_accepting_lem code)) in record {
      starts_so_far = omega arith;
      states_so_far = omega arith;
      starts_short = omega (arith, start-room begins i low);
      states_short = omega (arith, state-short i accepts low);
    }

pub overflow_add-result : goal.overflow_add-result
overflow_add-result c = omega (arith, words-in-length c.args.codes.now)

pub returns : goal.returns
returns c = let initial = initial_at c.args.initial in let flags = flags_of initial (words_in c.args.codes.now) in
    let all : length flags ≤ c.loop-i.i = omega (arith, flags-count initial c.args.codes.now) in
    omega (arith, sum-all start_of flags c.loop-i.i c.loop-i.starts all c.loop-i.invariant.starts_so_far, sum-all state_of flags c.loop-i.i c.loop-i.states all c.loop-i.invariant.states_so_far)
