-- `word_same::agree` meets its contract: p and q are the places of the next step, and the words agree so far.
use Rattle.std.proofs.Common.{◌≡◌, ◌<◌}
use Rattle.theory.specs.Word.{places, next_place_lem, place}
use Rattle.word_same.proofs.Sameness.{AgreeTo}
use Rattle.word_same.proofs.agree.Given as goal

abbrev pub invariant-loop : goal.invariant-loop
invariant-loop l = record {
  first : l.p ≡ place (next_place_lem l.lead1 l.cycle1) l.counter;
  first_low : l.p < places l.lead1 l.cycle1;
  second : l.q ≡ place (next_place_lem l.lead2 l.cycle2) l.counter;
  second_low : l.q < places l.lead2 l.cycle2;
  agree : AgreeTo l.lead1 l.cycle1 l.lead2 l.cycle2 l.counter;
}
