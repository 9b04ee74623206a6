-- `suits` meets its contract.
use mathlib.Core.Path.{◌≡◌, sym, ap, ◌∙◌}
use mathlib.Core.Bool.{true, false, not, false≢true}
use Prim.Native.Nat.{ℕ}
use native.Mathlib.Omega.{arith}
use borrow.Author.Rules.{rules}
use lib.ListN.{get_or}
use Rattle.sets.proofs.Bools.{not_t}
use Rattle.theory.specs.Macrostate.{is_accepting_lem}
use Rattle.theory.specs.Run.{source_of}
use Rattle.stricter_word.proofs.lasso.suits.Statement.{statement}
use Rattle.stricter_word.proofs.lasso.suits.Tie as tie

never : {C : Type 0} → false ≡ true → C
never e = absurd (false≢true e)

returns : tie.Need-returns-then-letter_of-letter
returns c = record { over = never; to = never; from = never; all = λ e f g. absurd (omega (arith, c.before.letter_of.ensures)) }

returns-2 : tie.Need-returns-then-target_of-target
returns-2 c = record { over = never; to = never; from = never; all = λ e f g. absurd (omega (arith, c.before.target_of.ensures)) }

abbrev start-of-after-is-accepting : tie.After-is_accepting → tie.Start
start-of-after-is-accepting c = search

-- what `is_accepting` answers
accepts : (c : tie.After-is_accepting) → c.is_accepting.result ≡ is_accepting_lem (get_or (start-of-after-is-accepting c).args.codes.now (source_of (start-of-after-is-accepting c).args.t) 0)
accepts c = let at-source-of : tie.After-source_of = search in
    c.is_accepting.ensures ∙ ap (λ (n : ℕ). is_accepting_lem (get_or (start-of-after-is-accepting c).args.codes.now n 0)) at-source-of.source_of.ensures

returns-3 : tie.Need-returns-then-is_accepting
returns-3 c =
    let e = sym (accepts c.before) ∙ c.if-is_accepting.true in let at-letter-of : tie.After-letter_of = search in let at-target-of : tie.After-target_of = search in
    record {
      over = λ r. omega (arith, at-letter-of.letter_of.ensures);
      to = λ r. omega (arith, at-target-of.target_of.ensures);
      from = λ r. e ∙ sym r;
      all = λ f g h. sym h ∙ e;
    }

returns-4 : tie.Need-returns
returns-4 c =
    let e = sym (accepts c.before) ∙ c.if-is_accepting.false in let at-letter-of : tie.After-letter_of = search in let at-target-of : tie.After-target_of = search in
    record {
      over = λ r. omega (arith, at-letter-of.letter_of.ensures);
      to = λ r. omega (arith, at-target-of.target_of.ensures);
      from = λ r. e ∙ sym (not_t _ r);
      all = λ f g h. ap not (sym h ∙ e);
    }

pub suits_spec : {M : Type 1} → statement M
suits_spec = tie.close (tie.spec
    (λ c κs. search rules) returns (λ c κs. search rules) returns-2 (λ c κs. search rules) (λ c. search rules) (λ c. search rules) (λ c κs. search rules)
    returns-3 returns-4)
