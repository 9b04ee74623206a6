-- `take_over` meets its contract: the flags of the bytes are a set of bytes 0 and 1.
use Rattle.std.proofs.Common.{◌≡◌, ◌∙◌, ℕ, List, length, ap, sym, arith}
use Rattle.std.proofs.lemmas.List.{length-map}
use Rattle.table_lent.specs.Lent.{words_in}
use Rattle.live_spec.specs.Afresh.{members_of}
use Rattle.live_set.specs.Sweeps.{flag_of_lem}
use Rattle.live_set.proofs.Sets.{flags-low}
use Rattle.follow_set.proofs.take_over.Goals as goal

pub step_over-requires : goal.step_over-requires
step_over-requires c =
    let set = c.args.set.now in let v = c.flag_all-members in
    let long : length v.new.set ≡ length set = ap (λ (x : List ℕ). length x) v.ensures.0 ∙ length-map set flag_of_lem in (
      omega (arith, long, c.requires.0),
      rw v.ensures.0 (flags-low 0 (words_in c.args.transitions.now) set),
      v.ensures.1 ∙ ap (λ (n : ℕ). members_of n v.new.set) (sym long),
      c.requires.1,
      rw long c.requires.2,
    )
