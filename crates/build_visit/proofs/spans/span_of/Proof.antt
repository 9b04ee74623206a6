-- `build_visit::spans::span_of` meets its contract.
use native.Mathlib.Omega.{arith}
use borrow.Author.Rules.{rules}
use Rattle.build_spec.proofs.Sets.{base-le, span_of}
use Rattle.build_spec.proofs.Starting.{few}
use Rattle.build_visit.proofs.spans.span_of.Statement.{statement}
use Rattle.build_visit.proofs.spans.span_of.Tie as tie

largest-ranks-requires : tie.Need-largest_ranks-requires
largest-ranks-requires c κs = let start : tie.Start = search in let a = start.args in let p = start.requires in few p.0.1

sub-caps : tie.Need-overflow_sub-caps
sub-caps c =
    let start : tie.Start = search in let a = start.args in let p = start.requires in let at-open-parts : tie.After-open_parts-those = search in let at-nibbles-of : tie.After-nibbles_of-base = search in
    omega (
      arith,
      base-le p.0.1 a.x p.1 at-open-parts.open_parts-those.result at-open-parts.open_parts-those.ensures,
      at-nibbles-of.nibbles_of-base.ensures,
      c.largest_ranks.ensures,
    )

returns : tie.Need-returns
returns c =
    let start : tie.Start = search in let a = start.args in let p = start.requires in let at-nibbles-of : tie.After-nibbles_of-base = search in let at-open-parts : tie.After-open_parts-those = search in
    rw (at-nibbles-of.nibbles_of-base.ensures, c.largest_ranks.ensures)
    (span_of p.0.1 a.x p.1 at-open-parts.open_parts-those.result at-open-parts.open_parts-those.ensures)

pub span_of_spec : {M : Type 1} → statement M
span_of_spec = tie.close (tie.spec (λ c κs. search rules) (λ c. search rules) (λ c κs. search rules) largest-ranks-requires sub-caps returns)
