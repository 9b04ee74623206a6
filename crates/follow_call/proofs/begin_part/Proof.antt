-- `follow_call::begin_part` meets its contract.
use mathlib.Core.Path.{◌≡◌, sym, ap, ◌∙◌}
use mathlib.Core.List.{List, map}
use Prim.Native.Nat.{ℕ}
use lib.ListN.{length}
use borrow.Author.Rules.{rules}
use Rattle.table_lent.specs.Lent.{words_in}
use Rattle.live_spec.specs.Afresh.{members_of}
use Rattle.live_spec.proofs.Steps.{initial-length}
use Rattle.live_set.specs.Sweeps.{flag_of_lem}
use Rattle.follow_call.proofs.Served.{initial-flags}
use Rattle.follow_call.proofs.begin_part.Statement.{statement}
use Rattle.follow_call.proofs.begin_part.Tie as tie

returns : tie.Need-returns
returns c =
    let start : tie.Start = search in let at-begin : tie.After-begin_set = search in let at-flags : tie.After-flag_all = search in let a = start.args in
    let codes = words_in a.codes.now in let e = at-begin.begin_set.ensures in let f = at-flags.flag_all.ensures in (
      f.0 ∙ ap (map flag_of_lem) e ∙ initial-flags a.initial codes,
      f.1 ∙ ap (λ (n : ℕ). members_of n at-flags.flag_all.new.set) (ap (λ (x : List ℕ). length x) e ∙ initial-length a.initial codes),
    )

pub begin_part_spec : {M : Type 1} → statement M
begin_part_spec = tie.close (tie.spec (λ c κs. search rules) (λ c κs. search rules) (λ c. search rules) returns)
