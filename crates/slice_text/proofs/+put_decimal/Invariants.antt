-- `put_decimal` ends: x / 10 is below x.
use Rattle.slice_text.proofs.+put_decimal.Given as goal

abbrev pub decreases-put_decimal : goal.decreases-put_decimal
decreases-put_decimal l = l.x
