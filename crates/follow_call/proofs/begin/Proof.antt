-- `follow_call::begin` meets its contract.
use mathlib.Core.Path.{◌≡◌, refl, sym, ap, ◌∙◌}
use mathlib.Core.List.{List, ◌++◌}
use Prim.Native.Nat.{ℕ, ◌/◌, ◌≤◌}
use native.Mathlib.Omega.{arith}
use lib.ListN.{length, take, drop}
use lib.Seq.{length-take-le}
use borrow.Author.Rules.{rules}
use Rattle.table_lent.specs.Lent.{words_in}
use Rattle.table_lent.proofs.Reading.{words-in-length}
use Rattle.live_spec.specs.Afresh.{members_of, initial_set}
use Rattle.follow_call.proofs.begin.Statement.{statement}
use Rattle.follow_call.proofs.begin.Tie as tie

-- the part has a byte for each code
fits : (c : tie.Start) → length c.args.codes.now / 8 ≤ length c.args.set.now
fits c = omega (arith, words-in-length c.args.codes.now, c.requires.1)

long : (c : tie.Start) → length (take (length c.args.codes.now / 8) c.args.set.now) ≡ length c.args.codes.now / 8
long c = length-take-le (length c.args.codes.now / 8) c.args.set.now (fits c)

begin-part-requires : tie.Need-begin_part-left-requires
begin-part-requires c κs =
    let start : tie.Start = search in
    (start.requires.0, long start ∙ sym (words-in-length start.args.codes.now))

returns : tie.Need-returns
returns c =
    let start : tie.Start = search in let at_part : tie.After-begin_part-left = search in let a = start.args in
    let codes = words_in a.codes.now in let e = at_part.begin_part-left.ensures.0 in let many = words-in-length a.codes.now in
    record {
      set_left = ap (λ (x : List ℕ). x ++ drop (length a.codes.now / 8) a.set.now) e
          ∙ ap (λ (k : ℕ). initial_set a.initial codes ++ drop k a.set.now) (sym many);
      counts = ap (λ (k : ℕ). record { left = k; letters = 0 }) (at_part.begin_part-left.ensures.1 ∙ ap (members_of (length codes)) e);
    }

pub begin_spec : {M : Type 1} → statement M
begin_spec = tie.close (tie.spec (λ c. omega (arith, fits (search))) (λ c. sym (long (search))) begin-part-requires (λ c. search rules) returns)
