-- Names for letters, at the end of a preface: bytes, 8 a name.
use Rattle.std.specs.Prelude.{ℕ, ◌+◌, ◌-◌, ◌*◌, ◌/◌, List, [], ◌∷◌, ◌++◌, Bool, ◌&&◌, cond, length, get_or, take, drop, leb, eqb}
use Rattle.sets.specs.Tests.{every, some_below}

-- 02: "4E 4D"
abbrev pub names_tag : List ℕ
names_tag = 0x4E ∷ 0x4D ∷ []

-- 02: "A preface may end with s names of 8 bytes, then 4E 4D, right before the clauses.": the preface p ends with 4E 4D
unfoldable pub has_names_lem : List ℕ → Bool
has_names_lem p =
    leb 2 (length p)
    && (eqb (get_or p (length p - 2) 0) (get_or names_tag 0 0) && eqb (get_or p (length p - 1) 0) (get_or names_tag 1 0))

-- the bytes of the s names in the preface p, or none
unfoldable pub names_before : ℕ → List ℕ → List ℕ
names_before s p = cond (has_names_lem p) (take (8 * s) (drop (length p - 2 - 8 * s) p)) []

-- the names of the letters a and b are equal
abbrev pub same_name_lem : List ℕ → ℕ → ℕ → Bool
same_name_lem names a b = every 8 (λ i. eqb (get_or names (8 * a + i) 0) (get_or names (8 * b + i) 0))

-- 02: "two equal names"
unfoldable pub repeats_name_lem : List ℕ → Bool
repeats_name_lem names = some_below (length names / 8) (λ b. some_below b (λ a. same_name_lem names a b))

-- 02: "The writer writes the names, with 4E 4D, as its whole preface"
unfoldable pub preface_from : List ℕ → List ℕ
preface_from [] = []
preface_from (x ∷ xs) = (x ∷ xs) ++ names_tag
