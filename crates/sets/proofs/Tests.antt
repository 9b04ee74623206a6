-- Laws of `every`, `some_below`, `count`, `first` and `largest`.
use mathlib.Core.Path.{◌≡◌, refl, sym, ◌∙◌, ap, ap₂}
use mathlib.Core.Logic.{⊎_elim, by_cases}
use mathlib.Core.Bool.{Bool, true, false, ◌&&◌, true≢false, false≢true, and-true, and-false, or-true, or-false}
use Prim.Native.Nat.{ℕ, zero, suc, ◌+◌, ◌≤◌, ◌<◌, max}
use native.Mathlib.Decide.{dec_lt, dec_le, ℕ_discrete}
use native.Mathlib.Omega.{arith}
use native.Mathlib.Nat.{zero-add}
use lib.Dec.{leb, ltb}
use borrow.Author.Tests.{leb-true, le-leb, lt-leb, lt-ltb}
use native.Mathlib.Numerals.{add-one}
use Rattle.sets.specs.Tests.{Set, every, some_below, count, one, first, largest}
use Rattle.sets.proofs.Bools.{bif, clash, and_l, and_r, and_i, and-fl, or_cases}
use Rattle.sets.proofs.Digits.{stays-from}

-- `every`, read at a number
pub every-at : (n : ℕ) (f : Set) → every n f ≡ true → (q : ℕ) → q < n → f q ≡ true
unfolding every
every-at zero f e q h = absurd (omega arith)
every-at (suc n) f e q h =
    by_cases (dec_lt q n) (λ l. every-at n f (and_l (every n f) (f n) e) q l)
    (λ l. let x : q ≡ n = omega arith in rw x (and_r (every n f) (f n) e))

pub every-all : (n : ℕ) (f : Set) → ((q : ℕ) → q < n → f q ≡ true) → every n f ≡ true
unfolding every
every-all zero f h = refl
every-all (suc n) f h = and_i (every-all n f (λ q l. h q (omega arith))) (h n (omega arith))

-- a number where `every` fails
pub every-not : (n : ℕ) (f : Set) → every n f ≡ false → (q : ℕ) × (q < n) × (f q ≡ false)
unfolding every
every-not zero f e = absurd (true≢false e)
every-not (suc n) f e = bif (f n) (λ t. let r = every-not n f (and-fl (every n f) (f n) e t) in (r.0, omega arith, r.2)) (λ t. (n, omega arith, t))

pub every-ext : (n : ℕ) (f g : Set) → ((q : ℕ) → q < n → f q ≡ g q) → every n f ≡ every n g
unfolding every
every-ext zero f g h = refl
every-ext (suc n) f g h = rw (every-ext n f g (λ q l. h q (omega arith)), h n (omega arith))

pub some-ext : (n : ℕ) (f g : Set) → ((q : ℕ) → q < n → f q ≡ g q) → some_below n f ≡ some_below n g
unfolding some_below
some-ext zero f g h = refl
some-ext (suc n) f g h = rw (some-ext n f g (λ q l. h q (omega arith)), h n (omega arith))

pub count-ext : (n : ℕ) (f g : Set) → ((q : ℕ) → q < n → f q ≡ g q) → count n f ≡ count n g
unfolding count
count-ext zero f g h = refl
count-ext (suc n) f g h = rw (count-ext n f g (λ q l. h q (omega arith)), h n (omega arith))

pub some-get : (n : ℕ) (f : Set) → some_below n f ≡ true → (q : ℕ) × (q < n) × (f q ≡ true)
unfolding some_below
some-get zero f e = absurd (false≢true e)
some-get (suc n) f e =
    bif (f n) (λ t. (n, omega arith, t))
    (λ t. let r = some-get n f (⊎_elim (λ x. x) (λ x. clash x t) (or_cases (some_below n f) (f n) e)) in (r.0, omega arith, r.2))

-- ---- `some_below`, `count`, `first`

pub some_at : (n : ℕ) (f : Set) (q : ℕ) → q < n → f q ≡ true → some_below n f ≡ true
unfolding some_below
some_at zero f q l e = absurd (omega arith)
some_at (suc n) f q l e =
    by_cases (dec_lt q n) (λ k. rw (some_at n f q k e))
    (λ k. let x : q ≡ n = omega arith in rw (ap f (sym x) ∙ e) (or-true (some_below n f)))

pub some-none : (n : ℕ) (f : Set) → ((q : ℕ) → q < n → f q ≡ false) → some_below n f ≡ false
unfolding some_below
some-none zero f h = refl
some-none (suc n) f h = rw (some-none n f (λ q l. h q (omega arith)), h n (omega arith))

pub count-le : (a b : ℕ) (f : Set) → a ≤ b → count a f ≤ count b f
unfolding count
count-le a zero f h = let x : a ≡ 0 = omega arith in rw x (omega arith)
count-le a (suc b) f h =
    by_cases (dec_le a b) (λ k. let ih = count-le a b f k in omega arith)
    (λ k. let x : a ≡ suc b = omega arith in rw x (omega arith))

pub count-lt : (a b : ℕ) (f : Set) → a < b → f a ≡ true → count a f < count b f
unfolding count
count-lt a b f h e = let x = count-le (suc a) b f h in let y : count a f + one (f a) ≡ count a f + 1 = rw e in omega arith

pub first-yes : (k : ℕ) (f : Set) (a : ℕ) → f a ≡ true → first (suc k) f a ≡ a
unfolding first
first-yes k f a e = rw (e, first)

pub first-no : (k : ℕ) (f : Set) (a : ℕ) → f a ≡ false → first (suc k) f a ≡ first k f (suc a)
unfolding first
first-no k f a e = rw (e, first)

pub first-max : (k : ℕ) (f : Set) (a : ℕ) → first k f a ≤ a + k
unfolding first
first-max zero f a = omega arith
first-max (suc k) f a = bif (f a) (λ t. rw (first-yes k f a t) (omega arith)) (λ t. let ih = first-max k f (suc a) in rw (first-no k f a t) (omega arith))

-- the least number from a to a + k, where one of them passes
first-meets : (k : ℕ) (f : Set) (a j : ℕ) → a ≤ j → j ≤ a + k → f j ≡ true → f (first k f a) ≡ true
unfolding first
first-meets zero f a j h l e = let x : a ≡ j = omega arith in ap f x ∙ e
first-meets (suc k) f a j h l e =
    bif (f a) (λ t. ap f (first-yes k f a t) ∙ t)
    (λ t. ap f (first-no k f a t) ∙ by_cases (ℕ_discrete a j) (λ x. clash e (ap f (sym x) ∙ t)) (λ x. first-meets k f (suc a) j (omega arith) (omega arith) e))

pub first-hits : (k : ℕ) (f : Set) (a : ℕ) → f (a + k) ≡ true → f (first k f a) ≡ true
first-hits k f a e = first-meets k f a (a + k) (omega arith) (omega arith) e

pub first-at : (k : ℕ) (f : Set) (a j : ℕ) → a ≤ j → j < a + k → f j ≡ true → f (first k f a) ≡ true
first-at k f a j h l e = first-meets k f a j h (omega arith) e

pub first-le : (k : ℕ) (f : Set) (a j : ℕ) → a ≤ j → f j ≡ true → first k f a ≤ j
unfolding first
first-le zero f a j h e = h
first-le (suc k) f a j h e =
    bif (f a) (λ t. rw (first-yes k f a t) h)
    (λ t. rw (first-no k f a t) (by_cases (ℕ_discrete a j) (λ x. clash e (ap f (sym x) ∙ t)) (λ x. first-le k f (suc a) j (omega arith) e)))

-- of a test that goes on holding, and holds at b: the least number is at largest c exactly if it holds at c
pub first-leb : (b : ℕ) (f : Set) → ((i j : ℕ) → i ≤ j → f i ≡ true → f j ≡ true) → f b ≡ true → (c : ℕ) → leb (first b f 0) c ≡ f c
first-leb b f up e c =
    let hit = first-hits b f 0 (rw zero-add e) in
    bif (f c) (λ t. le-leb _ c (first-le b f 0 c (omega arith) t) ∙ sym t)
    (λ t. bif (leb (first b f 0) c) (λ k. clash (up (first b f 0) c (leb-true _ c k) hit) t) (λ k. k ∙ sym t))

pub largest-yes : (n : ℕ) (f : Set) (g : ℕ → ℕ) → f n ≡ true → largest (suc n) f g ≡ max (g n) (largest n f g)
unfolding largest
largest-yes n f g e = rw (e, largest)

pub largest-no : (n : ℕ) (f : Set) (g : ℕ → ℕ) → f n ≡ false → largest (suc n) f g ≡ largest n f g
unfolding largest
largest-no n f g e = rw (e, largest)

pub largest-ge : (n : ℕ) (f : Set) (g : ℕ → ℕ) (q : ℕ) → q < n → f q ≡ true → g q ≤ largest n f g
largest-ge zero f g q l e = absurd (omega arith)
largest-ge (suc n) f g q l e =
    by_cases (ℕ_discrete q n)
    (λ x. let y = largest-yes n f g (ap f (sym x) ∙ e) in let z = ap g x in omega arith)
    (λ x. let ih = largest-ge n f g q (omega arith) e in
    bif (f n) (λ t. let y = largest-yes n f g t in omega arith) (λ t. let y = largest-no n f g t in omega arith))

pub largest-le : (n : ℕ) (f : Set) (g : ℕ → ℕ) (b : ℕ) → ((q : ℕ) → q < n → f q ≡ true → g q ≤ b) → largest n f g ≤ b
unfolding largest
largest-le zero f g b h = omega arith
largest-le (suc n) f g b h =
    let ih = largest-le n f g b (λ q l e. h q (omega arith) e) in
    bif (f n) (λ t. let y = largest-yes n f g t in let z = h n (omega arith) t in omega arith) (λ t. let y = largest-no n f g t in omega arith)

-- ---- how many

pub count-max : (M : ℕ) (f : Set) → count M f ≤ M
unfolding count
count-max zero f = omega arith
count-max (suc M) f = let ih = count-max M f in bif (f M) (λ t. let x : one (f M) ≡ 1 = rw t in omega arith) (λ t. let x : one (f M) ≡ 0 = rw t in omega arith)

one-le : (a b : Bool) → (a ≡ true → b ≡ true) → one a ≤ one b
one-le true b h = let x : one b ≡ 1 = rw (h refl) in omega arith
one-le false b h = omega arith

pub count-sub : (M : ℕ) (f g : Set) → ((x : ℕ) → x < M → f x ≡ true → g x ≡ true) → count M f ≤ count M g
unfolding count
count-sub zero f g h = omega arith
count-sub (suc M) f g h = let ih = count-sub M f g (λ x l. h x (omega arith)) in let k = one-le (f M) (g M) (h M (omega arith)) in omega arith

-- as many: the same
pub count_same : (M : ℕ) (f g : Set) → ((x : ℕ) → x < M → f x ≡ true → g x ≡ true) → count M g ≤ count M f → (x : ℕ) → x < M → f x ≡ g x
unfolding count
count_same zero f g h e x l = absurd (omega arith)
count_same (suc M) f g h e x l =
    let a = count-sub M f g (λ y m. h y (omega arith)) in
    let b = one-le (f M) (g M) (h M (omega arith)) in
    by_cases (dec_lt x M) (λ m. count_same M f g (λ y n. h y (omega arith)) (omega arith) x m)
    (λ m. let y : x ≡ M = omega arith in
    bif (f M) (λ t. rw y (t ∙ sym (h M (omega arith) t)))
    (λ t. bif (g M)
    (λ v. let z1 : one (f M) ≡ 0 = rw t in let z2 : one (g M) ≡ 1 = rw v in absurd (omega arith))
    (λ v. rw y (t ∙ sym v))))

-- more members: a larger count
pub count-more : (M : ℕ) (f g : Set) → ((x : ℕ) → x < M → f x ≡ true → g x ≡ true) → (x : ℕ) → x < M → f x ≡ false → g x ≡ true → count M f < count M g
count-more M f g h x l e t = by_cases (dec_le (count M g) (count M f)) (λ k. clash (count_same M f g h k x l ∙ t) e) (λ k. omega arith)

-- `some_below` fails at each number
pub some-no : (n : ℕ) (f : Set) → some_below n f ≡ false → (q : ℕ) → q < n → f q ≡ false
some-no n f e q l = bif (f q) (λ t. clash (some_at n f q l t) e) (λ t. t)

-- ---- tests that agree

largest-alike : (n : ℕ) (f g : Set) (h i : ℕ → ℕ) → ((q : ℕ) → q < n → f q ≡ g q) → ((q : ℕ) → q < n → f q ≡ true → h q ≡ i q) → largest n f h ≡ largest n g i
unfolding largest
largest-alike zero f g h i e v = refl
largest-alike (suc n) f g h i e v =
    let ih = largest-alike n f g h i (λ q l. e q (omega arith)) (λ q l. v q (omega arith)) in
    bif (f n)
    (λ t. largest-yes n f h t ∙ ap₂ max (v n (omega arith) t) ih ∙ sym (largest-yes n g i (sym (e n (omega arith)) ∙ t)))
    (λ t. largest-no n f h t ∙ ih ∙ sym (largest-no n g i (sym (e n (omega arith)) ∙ t)))

pub largest-ext : (n : ℕ) (f g : Set) (h : ℕ → ℕ) → ((q : ℕ) → q < n → f q ≡ g q) → largest n f h ≡ largest n g h
largest-ext n f g h e = largest-alike n f g h h e (λ q l t. refl)

pub largest-values : (n : ℕ) (f : Set) (g h : ℕ → ℕ) → ((q : ℕ) → q < n → f q ≡ true → g q ≡ h q) → largest n f g ≡ largest n f h
largest-values n f g h e = largest-alike n f f g h (λ q l. refl) e

pub first-ext : (k a : ℕ) (f g : Set) → ((j : ℕ) → a ≤ j → j < a + k → f j ≡ g j) → first k f a ≡ first k g a
unfolding first
first-ext zero a f g h = refl
first-ext (suc k) a f g h =
    let e = h a (omega arith) (omega arith) in
    bif (f a) (λ t. first-yes k f a t ∙ sym (first-yes k g a (sym e ∙ t)))
    (λ t. first-no k f a t ∙ first-ext k (suc a) f g (λ j l m. h j (omega arith) (omega arith)) ∙ sym (first-no k g a (sym e ∙ t)))

-- ---- numbers from n on that make no difference

pub every-trim : (m n : ℕ) (f : Set) → n ≤ m → ((p : ℕ) → n ≤ p → p < m → f p ≡ true) → every m f ≡ every n f
unfolding every
every-trim m n f l h = stays-from (λ k. every k f) n m l (λ p a b. rw (h p a b) (and-true (every p f)))

pub some-trim : (m n : ℕ) (f : Set) → n ≤ m → ((p : ℕ) → n ≤ p → p < m → f p ≡ false) → some_below m f ≡ some_below n f
unfolding some_below
some-trim m n f l h = stays-from (λ k. some_below k f) n m l (λ p a b. rw (h p a b) (or-false (some_below p f)))

pub count-trim : (m n : ℕ) (f : Set) → n ≤ m → ((p : ℕ) → n ≤ p → p < m → f p ≡ false) → count m f ≡ count n f
unfolding count
count-trim m n f l h = stays-from (λ k. count k f) n m l (λ p a b. let z : one (f p) ≡ 0 = rw (h p a b) in omega arith)

pub largest-trim : (m n : ℕ) (f : Set) (g : ℕ → ℕ) → n ≤ m → ((p : ℕ) → n ≤ p → p < m → f p ≡ false) → largest m f g ≡ largest n f g
largest-trim m n f g l h = stays-from (λ k. largest k f g) n m l (λ p a b. largest-no p f g (h p a b))

-- the largest value is that of some number
pub largest-hit : (n : ℕ) (f : Set) (g : ℕ → ℕ) → 0 < largest n f g → (q : ℕ) × (q < n) × (f q ≡ true) × (g q ≡ largest n f g)
unfolding largest
largest-hit zero f g h = absurd (omega arith)
largest-hit (suc n) f g h =
    bif (f n)
    (λ t. let y = largest-yes n f g t in
    by_cases (dec_le (largest n f g) (g n)) (λ k. (n, omega arith, t, omega arith))
    (λ k. let r = largest-hit n f g (omega arith) in (r.0, omega (arith, r.1), r.2, omega (arith, r.3))))
    (λ t. let y = largest-no n f g t in let r = largest-hit n f g (omega arith) in (r.0, omega (arith, r.1), r.2, omega (arith, r.3)))

-- ---- counts have no gap

-- each number below the count is the count up to some member
pub count-hit : (m : ℕ) (f : Set) (j : ℕ) → j < count m f → (x : ℕ) × (x < m) × (f x ≡ true) × (count x f ≡ j)
unfolding count
count-hit zero f j l = absurd (omega arith)
count-hit (suc m) f j l =
    by_cases (dec_lt j (count m f)) (λ h. let r = count-hit m f j h in (r.0, omega (arith, r.1), r.2, r.3))
    (λ h. bif (f m) (λ t. let e : one (f m) ≡ 1 = rw t in (m, omega arith, t, omega arith))
    (λ t. let e : one (f m) ≡ 0 = rw t in absurd (omega arith)))

-- the numbers above 0
count-above : (n : ℕ) → count n (λ j. ltb 0 j) + one (ltb 0 n) ≡ n
unfolding count
count-above zero = refl
count-above (suc n) = let ih = count-above n in let z : one (ltb 0 (suc n)) ≡ 1 = ap one (lt-ltb 0 (suc n) (omega arith)) in omega arith

-- the numbers from 1 to M
pub count-upto : (n M : ℕ) → M < n → count n (λ j. ltb 0 j && leb j M) ≡ M
unfolding count
count-upto zero M h = absurd (omega arith)
count-upto (suc n) M h =
    by_cases (dec_lt M n)
    (λ k. let z : one (ltb 0 n && leb n M) ≡ 0 = ap (λ (b : Bool). one (ltb 0 n && b)) (lt-leb n M k) ∙ ap one (and-false (ltb 0 n)) in
    let ih = count-upto n M k in omega arith)
    (λ k. let e : M ≡ n = omega arith in
    let below = count-ext n (λ j. ltb 0 j && leb j M) (λ j. ltb 0 j) (λ j l. ap (λ (b : Bool). ltb 0 j && b) (le-leb j M (omega arith)) ∙ and-true (ltb 0 j)) in
    let here : one (ltb 0 n && leb n M) ≡ one (ltb 0 n) = ap (λ (b : Bool). one (ltb 0 n && b)) (le-leb n M (omega arith)) ∙ ap one (and-true (ltb 0 n)) in
    omega (arith, count-above n))

-- ---- a walk up to n that stops at the first failure

pub every-next : (k : ℕ) (f : Set) → every k f ≡ true → f k ≡ true → every (k + 1) f ≡ true
unfolding every
every-next k f h e = rw (add-one k, h, e)

pub every-stop : (n : ℕ) (f : Set) (k : ℕ) → k < n → f k ≡ false → every n f ≡ false
every-stop n f k l e = bif (every n f) (λ t. clash (every-at n f t k l) e) (λ t. t)
