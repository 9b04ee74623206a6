-- The union over the states of a set, as the walk over the set builds it.
use mathlib.Core.Path.{◌≡◌, sym, ◌∙◌, ap}
use mathlib.Core.Bool.{Bool, ◌||◌}
use mathlib.Core.List.{List, [], ◌∷◌}
use Prim.Native.Nat.{ℕ, ◌-◌, ◌<◌}
use lib.ListN.{get_or}
use lib.Bits.{bit_and, bit_or, or_zero_r}
use lib.Count.{count_trailing_zeros}
use Rattle.sets.specs.Masks.{bit, members}
use Rattle.sets.specs.Lists.{any_of}
use Rattle.sets.proofs.Lists.{any-cons}
use Rattle.sets.proofs.Bits.{bit-or, bit-none, bit-or-assoc}
use Rattle.sets.proofs.Members.{members-cons, members-none}
use Rattle.set_masks.specs.Sets.{union_over_lem}

-- p is in the union exactly if it is in the mask of some listed state
pub union-over-bit : (es qs : List ℕ) (p : ℕ) → bit (union_over_lem es qs) p ≡ any_of qs (λ q. bit (get_or es q 0) p)
unfolding union_over_lem any_of
union-over-bit es [] p = bit-none p
union-over-bit es (q ∷ qs) p =
    bit-or (get_or es q 0) (union_over_lem es qs) p ∙ ap (λ (b : Bool). bit (get_or es q 0) p || b) (union-over-bit es qs p) ∙ sym (any-cons (λ x. bit (get_or es x 0) p) q qs)

-- the union so far, r, with that over the states left is the union over m
abbrev pub Joined : List ℕ → ℕ → ℕ → ℕ → Type 0
Joined es m r left = bit_or r (union_over_lem es (members left)) ≡ union_over_lem es (members m)

pub turn : (es : List ℕ) (m r left : ℕ) → 0 < left → left < 256 → Joined es m r left → Joined es m (bit_or r (get_or es (count_trailing_zeros 8 left) 0)) (bit_and left (left - 1))
unfolding union_over_lem
turn es m r left h k j =
    bit-or-assoc r (get_or es (count_trailing_zeros 8 left) 0) (union_over_lem es (members (bit_and left (left - 1))))
    ∙ ap (λ (s : List ℕ). bit_or r (union_over_lem es s)) (sym (members-cons left h k))
    ∙ j

pub done : (es : List ℕ) (m r left : ℕ) → left ≡ 0 → Joined es m r left → r ≡ union_over_lem es (members m)
unfolding union_over_lem
done es m r left z j = sym (ap (λ (s : List ℕ). bit_or r (union_over_lem es s)) (ap members z ∙ members-none 8 0) ∙ or_zero_r r) ∙ j
