-- Codes become keys with chains through them, one after the other, and codes again.
use mathlib.Core.Path.{◌≡◌, refl, ap, sym, ◌∙◌}
use mathlib.Core.Logic.{by_cases}
use mathlib.Core.List.{List}
use Prim.Native.Nat.{ℕ, ◌+◌, ◌*◌, ◌/◌, ◌%◌, ◌^◌, ◌≤◌, ◌<◌}
use native.Mathlib.Omega.{arith}
use native.Mathlib.Decide.{ℕ_discrete}
use native.Mathlib.Nat.{mod-eq_of_lt}
use lib.Bits.{bit_and, bit_or, and_mask, or_shifted}
use lib.ListN.{length, get_or, set, length-set}
use lib.Seq.{get_or-set_other}
use Rattle.sets.specs.Lists.{Ascending}
use Rattle.sets.proofs.Ascending.{asc-at}
use Rattle.build_spec.specs.Chains.{key_at, bucket_of, Lists, Chained}
use Rattle.build_spec.proofs.Chains.{put_same, key-new, put-chained}
use Rattle.build_spec.specs.Keys.{key_of, code_of}
use Rattle.build_spec.proofs.Keys.{code-key, key-parts}

-- a key from its code, by shifts and masks
key-put : (c : ℕ) → c < 2 ^ 48 → bit_or (bit_and c 1099511627775 * 2 ^ 8 % 2 ^ 64) (c / 2 ^ 40) ≡ key_of c
key-put c h = let fits : c % 2 ^ 40 * 2 ^ 8 < 2 ^ 64 = omega arith in
    ap (λ (x : ℕ). bit_or (x * 2 ^ 8 % 2 ^ 64) (c / 2 ^ 40)) (and_mask c 40)
    ∙ ap (λ (x : ℕ). bit_or x (c / 2 ^ 40)) (mod-eq_of_lt fits)
    ∙ or_shifted (c % 2 ^ 40) 8 (c / 2 ^ 40) (omega arith)
    ∙ sym (key-parts c)

pub key-low : (c : ℕ) → c < 2 ^ 48 → key_of c < 2 ^ 48
key-low c h = rw (key-parts c) (omega arith)

-- the codes xs are ys, of which the first p are keys with chains
pub record Chaining (xs ys heads last : List ℕ) (p : ℕ) : Type 0 where
  pub long : length ys ≡ length xs
  pub chained : Chained ys heads last p
  pub done : (q : ℕ) → q < p → key_at ys q ≡ key_of (get_or xs q 0)
  pub rest : (q : ℕ) → p ≤ q → get_or ys q 0 ≡ get_or xs q 0

pub chaining-start : {xs heads last : List ℕ} → Chained xs heads last 0 → Chaining xs xs heads last 0
chaining-start C = record { long = refl; chained = C; done = λ q l. absurd (omega arith); rest = λ q l. refl }

-- the key of the code that is read at place p
pub key-read : {xs ys heads last : List ℕ} {p : ℕ} → Chaining xs ys heads last p → get_or xs p 0 < 2 ^ 48 →
    bit_or (bit_and (get_or ys p 0) 1099511627775 * 2 ^ 8 % 2 ^ 64) (get_or ys p 0 / 2 ^ 40) ≡ key_of (get_or xs p 0)
key-read {xs} {p = p} h low = ap (λ (c : ℕ). bit_or (bit_and c 1099511627775 * 2 ^ 8 % 2 ^ 64) (c / 2 ^ 40)) (h.rest p (omega arith)) ∙ key-put (get_or xs p 0) low

module _ {xs ys heads last : List ℕ} {p : ℕ} (h : Chaining xs ys heads last p) (up : Ascending xs) (low : (p : ℕ) → p < length xs → get_or xs p 0 < 2 ^ 48) (l : p < length xs) {y : ℕ}
    (e : y ≡ key_of (get_or xs p 0)) where
  back : (q : ℕ) → q < length xs → code_of (key_of (get_or xs q 0)) ≡ get_or xs q 0
  back q k = code-key (get_or xs q 0) (let z = low q k in omega arith)

  new : Lists ys p y → ⊥
  new s =
      let b : get_or xs s.0 0 ≡ get_or xs p 0 = sym (back s.0 (omega (arith, s.1))) ∙ ap code_of (sym (h.done s.0 s.1) ∙ s.2 ∙ e) ∙ back p l in
      omega (arith, asc-at xs up s.0 p s.1 l)

  room : p < length ys
  room = omega (arith, h.long)

  y-low : y < 2 ^ 48
  y-low = rw e (key-low (get_or xs p 0) (low p l))

  abbrev element : ℕ
  element = get_or heads (bucket_of (y / 256)) 0 * 2 ^ 48 + y

  pub chaining-next : Chaining xs (set ys p element) (set heads (bucket_of (y / 256)) p) (set last (y / 256 % 256) (p + 1)) (p + 1)
  chaining-next = record {
    long = length-set ys p element ∙ h.long;
    chained = put-chained h.chained y room y-low new;
    done = λ q k. by_cases (ℕ_discrete q p)
        (λ d. rw d (key-new h.chained y room y-low new ∙ e))
        (λ d. ap (λ (x : ℕ). x % 2 ^ 48) (put_same h.chained y room y-low new q (omega arith)) ∙ h.done q (omega arith));
    rest = λ q k. get_or-set_other ys p q element 0 (λ d. omega arith) ∙ h.rest q (omega arith);
  }
