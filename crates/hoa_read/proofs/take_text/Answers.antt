-- `take_text` meets its contract: what stands there is that of any table with the text.
use Rattle.std.proofs.Common.{◌∙◌, refl, arith}
use Rattle.hoa_read.proofs.Surveys.{no-newline, no-survey, survey-no-blocks, survey-rejecting, survey-no-end, survey-more, survey-done}
use Rattle.hoa_read.proofs.take_text.Goals as goal

pub returns-then-last_byte-ne10 : goal.returns-then-last_byte-ne10
returns-then-last_byte-ne10 c = no-survey c.no_survey.ensures (no-newline (λ e. c.if-last_byte-ne10.true (c.last_byte.ensures ∙ e)))

pub returns-in_default-take_blocks : goal.returns-in_default-take_blocks
returns-in_default-take_blocks c = no-survey c.no_survey-in_default-take_blocks.ensures (survey-no-blocks c.in-Some.ensures.1 c.in_default-take_blocks.ensures refl)

pub returns-then-e-h : goal.returns-then-e-h
returns-then-e-h c = let B = c.in-Some-take_blocks.ensures in no-survey c.no_survey-then-e-h.ensures (survey-rejecting c.in-Some.ensures.1 B.1 B.0 c.if-e-h.true)

pub returns-in_default-take : goal.returns-in_default-take
returns-in_default-take c = let B = c.in-Some-take_blocks.ensures in
    no-survey c.no_survey-in_default-take.ensures (survey-no-end c.in-Some.ensures.1 B.1 B.0 c.in_default-take.ensures refl)

pub returns-then-r-text : goal.returns-then-r-text
returns-then-r-text c = let B = c.in-Some-take_blocks.ensures in let E = c.in-Some-take.ensures in
    no-survey c.no_survey-then-r-text.ensures (survey-more c.in-Some.ensures.1 B.1 B.0 E.1 E.0 (λ e. omega (arith, e, c.if-r-text.true)))

pub returns : goal.returns
returns c = let H = c.in-Some.ensures in let B = c.in-Some-take_blocks.ensures in let E = c.in-Some-take.ensures in
    survey-done H.1 B.1 B.0 E.1 E.0 c.if-e-h.false (omega (arith, c.if-r-text.false)) H.0
