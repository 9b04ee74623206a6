-- Parts written and read in a list that is joined from parts.
use mathlib.Core.Path.{◌≡◌, refl, sym, ap, ap₂, ◌∙◌}
use mathlib.Core.List.{List, [], ◌∷◌, ◌++◌, append_assoc, append-nil}
use Prim.Native.Nat.{ℕ, zero, suc, ◌+◌, ◌*◌, ◌-◌, ◌/◌, ◌%◌, ◌≤◌, ◌<◌, min}
use native.Mathlib.Omega.{arith}
use native.Mathlib.Nat.{add-zero, zero-add, add_assoc, zero-mul, suc-mul, mul-zero, mul-suc}
use lib.ListN.{length, get_or, take, drop, replicate, length-append, length-drop, length-replicate, replicate-append-replicate, drop_of_length-le}
use lib.Seq.{length-take-le, take-length, take-append-le, drop-append-le, take-append-add, drop-append-add, take-append_seam, take-suc, drop-append_seam, get_or-take}
use lib.Seq.{get_or-drop}
use Rattle.sets.specs.Lists.{tabulate, flat}
use Rattle.live_spec.specs.State.{two_bytes, padded, number_at_lem}
use Rattle.live_spec.specs.Effects.{put}

-- ---- put

pub put_front : (at : ℕ) (v A B : List ℕ) → at + length v ≤ length A → put at v (A ++ B) ≡ put at v A ++ B
unfolding put
put_front at v A B h =
    let l : at ≤ length A = omega arith in
    simp (take-append-le at A B l, drop-append-le (at + length v) A B h, append_assoc)

pub put-behind : (at i : ℕ) (v A B : List ℕ) → at ≡ length A + i → put at v (A ++ B) ≡ A ++ put i v B
unfolding put
put-behind at i v A B e = rw (e, take-append-add A B i, add_assoc, drop-append-add A B (i + length v)) (append_assoc A (take i B) (v ++ drop (i + length v) B))

-- a part in place of one as long
pub put-part : (v A B : List ℕ) → length v ≡ length A → put 0 v (A ++ B) ≡ v ++ B
unfolding put
put-part v A B e = rw (zero-add, e, drop-append_seam)

-- ---- parts read

pub part-front : (at k : ℕ) (A B : List ℕ) → at + k ≤ length A → take k (drop at (A ++ B)) ≡ take k (drop at A)
part-front at k A B h = ap (take k) (drop-append-le at A B (omega arith)) ∙ take-append-le k (drop at A) B (omega (arith, length-drop at A))

pub drop-behind : (at i : ℕ) (A B : List ℕ) → at ≡ length A + i → drop at (A ++ B) ≡ drop i B
drop-behind at i A B e = rw (e, drop-append-add A B i)

-- ---- parts of one length

-- the parts f a, f (a + 1), .., n of them
abbrev pub parts : ℕ → ℕ → (ℕ → List ℕ) → List ℕ
parts n a f = flat (tabulate n (λ m. m) a) f

pub parts-length : (n a k : ℕ) (f : ℕ → List ℕ) → ((j : ℕ) → length (f j) ≡ k) → length (parts n a f) ≡ n * k
unfolding tabulate flat
parts-length zero a k f e = sym (zero-mul k)
parts-length (suc n) a k f e = length-append (f a) (parts n (suc a) f) ∙ omega (arith, e a, parts-length n (suc a) k f e, suc-mul n k)

-- the part at place m
pub parts-read : (n a k : ℕ) (f : ℕ → List ℕ) (m : ℕ) → ((j : ℕ) → length (f j) ≡ k) → m < n → take k (drop (k * m) (parts n a f)) ≡ f (a + m)
unfolding tabulate flat
parts-read zero a k f m e l = absurd (omega arith)
parts-read (suc n) a k f zero e l =
    rw (mul-zero k, add-zero a) (ap (λ (i : ℕ). take i (f a ++ parts n (suc a) f)) (sym (e a)) ∙ take-append_seam (f a) (parts n (suc a) f))
parts-read (suc n) a k f (suc m) e l =
    let h : k * suc m ≡ length (f a) + k * m = mul-suc k m ∙ omega (arith, e a) in
    let i : suc a + m ≡ a + suc m = omega arith in
    ap (take k) (drop-behind (k * suc m) (k * m) (f a) (parts n (suc a) f) h) ∙ parts-read n (suc a) k f m e (omega arith) ∙ ap f i

parts_same : (n a : ℕ) (f g : ℕ → List ℕ) → ((j : ℕ) → a ≤ j → f j ≡ g j) → parts n a f ≡ parts n a g
unfolding tabulate flat
parts_same zero a f g h = refl
parts_same (suc n) a f g h = ap₂ (λ (x y : List ℕ). x ++ y) (h a (omega arith)) (parts_same n (suc a) f g (λ j l. h j (omega arith)))

-- with another part at place m
pub parts-put : (n a k : ℕ) (f g : ℕ → List ℕ) (m : ℕ) → ((j : ℕ) → length (f j) ≡ k) → m < n → length (g (a + m)) ≡ k → ((j : ℕ) → (j ≡ a + m → ⊥) → f j ≡ g j)
    → put (k * m) (g (a + m)) (parts n a f) ≡ parts n a g
unfolding tabulate flat
parts-put zero a k f g m e l w h = absurd (omega arith)
parts-put (suc n) a k f g zero e l w h =
    rw (mul-zero k) (put-part (g (a + 0)) (f a) (parts n (suc a) f) (w ∙ sym (e a))
    ∙ ap₂ (λ (x y : List ℕ). x ++ y) (ap g (add-zero a)) (parts_same n (suc a) f g (λ j b. h j (λ c. omega (arith, b, c)))))
parts-put (suc n) a k f g (suc m) e l w h =
    let i : k * suc m ≡ length (f a) + k * m = mul-suc k m ∙ omega (arith, e a) in
    let s : a + suc m ≡ suc a + m = omega arith in
    put-behind (k * suc m) (k * m) (g (a + suc m)) (f a) (parts n (suc a) f) i
    ∙ ap₂ (λ (x y : List ℕ). x ++ y) (h a (λ c. omega (arith, c)))
    (ap (λ (j : ℕ). put (k * m) (g j) (parts n (suc a) f)) s ∙ parts-put n (suc a) k f g m e (omega arith) (ap (λ (j : ℕ). length (g j)) (sym s) ∙ w) (λ j c. h j (λ d. c (d ∙ s))))

-- ---- a list, and zeros after it

abbrev pub zeros : ℕ → List ℕ
zeros n = replicate n 0

pub zeros-length : (n : ℕ) → length (zeros n) ≡ n
zeros-length n = length-replicate {A = ℕ} n 0

pub padded-length : (long : ℕ) (l : List ℕ) → length l ≤ long → length (padded long l) ≡ long
unfolding padded
padded-length long l h = simp (length-append, length-replicate) (omega arith)

-- the list itself
pub padded-read : (long : ℕ) (l : List ℕ) → take (length l) (padded long l) ≡ l
unfolding padded
padded-read long l = take-append_seam l (zeros (long - length l))

-- another list as long
pub padded-put : (long : ℕ) (v l : List ℕ) → length v ≡ length l → put 0 v (padded long l) ≡ padded long v
unfolding padded
padded-put long v l e = rw e (put-part v l (zeros (long - length l)) e)

-- zeros are a list with nothing before them
pub padded-none : (long : ℕ) → padded long [] ≡ zeros long
unfolding padded
padded-none long = ap zeros (let i : long - 0 ≡ long = omega arith in i)

-- a list written over zeros
pub padded-zeros : (long : ℕ) (v : List ℕ) → length v ≤ long → put 0 v (zeros long) ≡ padded long v
unfolding put padded
padded-zeros long v h =
    let i : long ≡ length v + (long - length v) = omega arith in
    ap (λ (k : ℕ). put 0 v (zeros k)) i
    ∙ ap (put 0 v) (sym (replicate-append-replicate {A = ℕ} (length v) (long - length v) 0))
    ∙ put-part v (zeros (length v)) (zeros (long - length v)) (sym (zeros-length (length v)))

-- one more element behind the list
pub padded-next : (long : ℕ) (l : List ℕ) (a : ℕ) → length l < long → put (length l) (a ∷ []) (padded long l) ≡ padded long (l ++ (a ∷ []))
unfolding padded
padded-next long l a h =
    let rest = long - length (l ++ (a ∷ [])) in
    let i : long - length l ≡ suc rest = simp length-append (omega arith) in
    rw (i, append_assoc) (put-behind (length l) 0 (a ∷ []) l (0 ∷ zeros rest) (sym (add-zero (length l))) ∙ ap (λ (z : List ℕ). l ++ z) (put-part (a ∷ []) (0 ∷ []) (zeros rest) refl))

-- the last element of the list becomes 0
pub padded-last : (long : ℕ) (l : List ℕ) → 0 < length l → length l ≤ long → put (length l - 1) (0 ∷ []) (padded long l) ≡ padded long (take (length l - 1) l)
unfolding padded
padded-last long l h b =
    let n = length l - 1 in
    let m : length (take n l) ≡ n = length-take-le n l (omega arith) in
    let last : l ≡ take n l ++ (get_or l n 0 ∷ []) = sym (take-length l) ∙ ap (λ (k : ℕ). take k l) (let i : length l ≡ suc n = omega (arith, h) in i) ∙ take-suc l n 0 (omega (arith, h)) in
    let filled : ◌≡◌ {A = List ℕ} (0 ∷ zeros (long - length l)) (zeros (long - length (take n l))) =
    ap (λ (k : ℕ). zeros k) (let i : suc (long - length l) ≡ long - length (take n l) = omega (arith, m, h, b) in i) in
    let split : l ++ zeros (long - length l) ≡ take n l ++ (get_or l n 0 ∷ zeros (long - length l)) =
    ap (λ (x : List ℕ). x ++ zeros (long - length l)) last ∙ append_assoc (take n l) (get_or l n 0 ∷ []) (zeros (long - length l)) in
    ap (λ (x : List ℕ). put n (0 ∷ []) x) split
    ∙ put-behind n 0 (0 ∷ []) (take n l) (get_or l n 0 ∷ zeros (long - length l)) (sym (add-zero (length (take n l)) ∙ m))
    ∙ ap (λ (z : List ℕ). take n l ++ z) (put-part (0 ∷ []) (get_or l n 0 ∷ []) (zeros (long - length l)) refl ∙ filled)

-- ---- numbers in two bytes

pub number_read : (s : List ℕ) (at : ℕ) → number_at_lem s at ≡ number_at_lem (take 2 (drop at s)) 0
unfolding number_at_lem
number_read s at =
    let l : 0 < 2 = omega arith in
    let h : 1 < 2 = omega arith in
    let i : at + 1 ≡ suc at = omega arith in
    rw (get_or-take 2 (drop at s) 0 0 l, get_or-take 2 (drop at s) 1 0 h, get_or-drop, get_or-drop, add-zero at, i)

pub number-two : (n : ℕ) → n ≤ 512 → number_at_lem (two_bytes n) 0 ≡ n
unfolding number_at_lem two_bytes
number-two n h = let e : n % 256 + 256 * (n / 256) ≡ n = omega arith in ap (min 512) e ∙ omega (arith, h)

-- ---- zeros

pub zeros-put : (n : ℕ) (s : List ℕ) → put 0 (zeros n) s ≡ zeros n ++ drop n s
unfolding put
zeros-put n s = ap (λ (k : ℕ). zeros n ++ drop k s) (zero-add (length (zeros n)) ∙ zeros-length n)

pub zeros-parts : (n a k : ℕ) → parts n a (λ j. zeros k) ≡ zeros (n * k)
unfolding tabulate flat
zeros-parts zero a k = ap zeros (sym (zero-mul k))
zeros-parts (suc n) a k =
    ap (λ (l : List ℕ). zeros k ++ l) (zeros-parts n (suc a) k)
    ∙ replicate-append-replicate {A = ℕ} k (n * k) 0
    ∙ ap zeros (let e = suc-mul n k in let i : k + n * k ≡ suc n * k = omega (arith, e) in i)

pub zeros-split : (a b : ℕ) (rest : List ℕ) → zeros (a + b) ++ rest ≡ zeros a ++ (zeros b ++ rest)
zeros-split a b rest = ap (λ (l : List ℕ). l ++ rest) (sym (replicate-append-replicate {A = ℕ} a b 0)) ∙ append_assoc (zeros a) (zeros b) rest

-- a whole in place of one as long
pub put_all : (v A : List ℕ) → length v ≡ length A → put 0 v A ≡ v
unfolding put
put_all v A e = ap (λ (l : List ℕ). v ++ l) (drop_of_length-le A {i = 0 + length v} (omega (arith, e))) ∙ append-nil v
