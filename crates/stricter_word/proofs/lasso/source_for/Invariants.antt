-- `source_for` meets its contract: no transition before t suits.
use Rattle.std.proofs.Common.{◌≡◌, ℕ, ◌<◌, get_or}
use Rattle.theory.specs.Macrostate.{is_accepting_lem}
use Rattle.theory.specs.Run.{source_of, letter_of_lem, target_of}
use Rattle.stricter_word.proofs.lasso.source_for.Given as goal

abbrev pub invariant-loop-t : goal.invariant-loop-t
invariant-loop-t l = (p : ℕ) → p < l.t-index → letter_of_lem (get_or l.moves p 0) ≡ l.letter → target_of (get_or l.moves p 0) ≡ l.target
    → is_accepting_lem (get_or l.codes (source_of (get_or l.moves p 0)) 0) ≡ l.accepting → ⊥
