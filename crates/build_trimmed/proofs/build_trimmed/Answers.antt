-- `build_trimmed` meets its contract: the build, and then, where it leaves a table, the trimming of the parts that hold it.
use Rattle.std.proofs.Common.{◌≡◌, sym, Err, rules}
use lib.Seq.{length-take-le}
use Rattle.theory.specs.TableComputed.{macrostates, transitions}
use Rattle.file_spec.specs.File.{rule_in}
use Rattle.build_trimmed.specs.Trimming.{Trimming}
use Rattle.build_trimmed.proofs.Answer.{refused-answer, refused-codes, refused-moves, codes-front, moves_front, codes-room, moves-room, trimmable, table-answer, codes-left, moves-left, contract}
use Rattle.build_trimmed.proofs.build_trimmed.Goals as goal

pub returns-in_err-n : goal.returns-in_err-n
returns-in_err-n c =
    let a = c.args in
    let b = c.build.ensures in
    let e : c.build.result ≡ Err c.in_err-n.field-0.0 = c.in_err-n.was in
    let x : c.from_residual.result ≡ Err c.in_err-n.field-0.0 = search rules in
    rw x (contract a.file.now a.codes.now a.transitions.now _ _ _ (refused-answer b e) (refused-codes b e) (refused-moves b e))

pub slice_bounds-trim-end : goal.slice_bounds-trim-end
slice_bounds-trim-end c = codes-room c.build.ensures c.in_ok-n.was

pub slice_bounds-trim-end-2 : goal.slice_bounds-trim-end-2
slice_bounds-trim-end-2 c = sym (length-take-le _ _ (codes-room c.build.ensures c.in_ok-n.was))

pub slice_bounds-trim-end-3 : goal.slice_bounds-trim-end-3
slice_bounds-trim-end-3 c = moves-room c.build.ensures c.in_ok-n.was

pub slice_bounds-trim-end-4 : goal.slice_bounds-trim-end-4
slice_bounds-trim-end-4 c = sym (length-take-le _ _ (moves-room c.build.ensures c.in_ok-n.was))

pub trim-requires : goal.trim-requires
trim-requires c = let b = c.build.ensures in rw (codes-front b c.in_ok-n.was, moves_front b c.in_ok-n.was) (trimmable b c.in_ok-n.was)

pub returns : goal.returns
returns c =
    let a = c.args in
    let r = rule_in a.file.now in
    let b = c.build.ensures in
    let T : Trimming (macrostates r) (transitions r) c.trim.result c.trim.new.codes c.trim.new.transitions = rw (codes-front b c.in_ok-n.was, moves_front b c.in_ok-n.was) at c.trim.ensures in
    contract a.file.now a.codes.now a.transitions.now _ _ _ (table-answer b c.in_ok-n.was T (search) (search)) (codes-left b c.in_ok-n.was T (search) (search)) (moves-left b c.in_ok-n.was T (search) (search))
