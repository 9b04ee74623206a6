-- Keys and codes are each other's.
use mathlib.Core.Path.{◌≡◌, refl}
use Prim.Native.Nat.{ℕ, ◌+◌, ◌*◌, ◌/◌, ◌%◌, ◌^◌, ◌<◌}
use native.Mathlib.Omega.{arith}
use Rattle.build_spec.specs.Keys.{key_of, code_of}

pub key-core : (c : ℕ) → c / 2 ^ 40 < 256 → key_of c / 256 ≡ c % 2 ^ 40
unfolding key_of
key-core c h = omega arith

pub key-pair : (c : ℕ) → c / 2 ^ 40 < 256 → key_of c % 256 ≡ c / 2 ^ 40
unfolding key_of
key-pair c h = omega arith

pub code-key : (c : ℕ) → c / 2 ^ 40 < 256 → code_of (key_of c) ≡ c
unfolding code_of
code-key c h = omega (arith, key-core c h, key-pair c h)

pub key-parts : (c : ℕ) → key_of c ≡ c % 2 ^ 40 * 256 + c / 2 ^ 40
unfolding key_of
key-parts c = refl

-- the code of a pair above a core
pub key-of : (pair core : ℕ) → core < 2 ^ 40 → key_of (pair * 2 ^ 40 + core) ≡ core * 256 + pair
unfolding key_of
key-of pair core h = omega arith

-- the third macrostate of rule F: core 257, K 0, k 1
third-of-F : (key_of 17592186044673 ≡ 257 * 256 + 16) × (code_of (257 * 256 + 16) ≡ 17592186044673)
unfolding key_of code_of
third-of-F = (refl, refl)
