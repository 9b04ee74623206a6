-- Digits, computed from the definitions.
use mathlib.Core.Path.{◌≡◌, refl}
use mathlib.Core.List.{[], ◌∷◌}
use Rattle.slice_text.specs.Decimal.{digits_in, decimal}

-- `0`, `9`, `10`, `4096` and the highest code, `281474976710655`
pub decimal-0 : decimal 0 ≡ 48 ∷ []
unfolding decimal digits_in
decimal-0 = refl

pub decimal-9 : decimal 9 ≡ 57 ∷ []
unfolding decimal digits_in
decimal-9 = refl

pub decimal-10 : decimal 10 ≡ 49 ∷ 48 ∷ []
unfolding decimal digits_in
decimal-10 = refl

pub decimal-4096 : decimal 4096 ≡ 52 ∷ 48 ∷ 57 ∷ 54 ∷ []
unfolding decimal digits_in
decimal-4096 = refl

pub decimal-highest : decimal 281474976710655 ≡ 50 ∷ 56 ∷ 49 ∷ 52 ∷ 55 ∷ 52 ∷ 57 ∷ 55 ∷ 54 ∷ 55 ∷ 49 ∷ 48 ∷ 54 ∷ 53 ∷ 53 ∷ []
unfolding decimal digits_in
decimal-highest = refl
