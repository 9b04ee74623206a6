-- `show_set` meets its contract: the bytes before i are written and counted.
use Rattle.std.proofs.Common.{◌≡◌, ◌∙◌, arith}
use Rattle.live_spec.specs.Afresh.{is_in, members_of}
use Rattle.live_spec.specs.State.{set_bytes}
use Rattle.live_spec.specs.Effects.{shown}
use Rattle.live_set.proofs.Shown.{showing-start, showing-next, showing-end, shown-at}
use Rattle.live_set.proofs.show_set.Goals as goal

pub loop-i-init : goal.loop-i-init
loop-i-init c = showing-start (is_in (set_bytes c.args.state.now)) c.args.set.now

pub loop-i-preserved : goal.loop-i-preserved
loop-i-preserved c = let l = c.loop-i in
    showing-next (is_in (set_bytes c.args.state.now)) c.args.set.now l.set l.members l.i c.flag-v.result (omega arith) (c.flag-v.ensures ∙ shown-at c.args.state.now l.i) l.invariant

pub returns : goal.returns
unfolding shown members_of
returns c = let l = c.loop-i in let all : l.i ≡ c.args.n = omega arith in let s = rw all at l.invariant in
    (showing-end (is_in (set_bytes c.args.state.now)) c.args.set.now l.set l.members c.args.n c.requires.1 s, s.counted)
