-- What histories leave: letters and marks, and the bytes of state.
use mathlib.Core.Path.{◌≡◌, refl, sym, ap, ◌∙◌}
use mathlib.Core.Bool.{Bool, cond}
use mathlib.Core.List.{List, [], ◌∷◌, ◌++◌, Memᴰ}
use Prim.Native.Nat.{ℕ, ◌-◌, ◌≤◌, ◌<◌}
use native.Mathlib.Omega.{arith}
use lib.ListN.{length, take, drop, length-append}
use lib.Seq.{length-take-le, take-append_seam}
use borrow.Author.Tests.{eq-eqb, ne_eqb}
use Rattle.theory.specs.Run.{source_of}
use Rattle.live_spec.specs.declared.LiveCall.{LiveCall}
use Rattle.live_spec.specs.declared.LiveCall.TheVariants.{Start, Arrive, Withdraw, Mark, Return}
use Rattle.live_spec.specs.Afresh.{afresh}
use Rattle.live_spec.specs.History.{History, at_start, later, unset, at, letters_at, Log, empty, called, log_of, held, mark_of, Serves, Served, followed, Keeps}
use Rattle.live_spec.specs.State.{state_length_lem, log_bytes, state_of, padded}
use Rattle.live_spec.specs.Called.{effect}
use Rattle.live_laws.proofs.Reached.{afresh-length}
use Rattle.live_laws.proofs.States.{flag_bytes, number_bytes, mark_bytes, bytes_of, Held, long, log-bytes, remark-low, start-leaves, arrive-leaves, withdraw-leaves, return-leaves, mark-leaves}

-- ---- served calls keep to 512 letters

-- at most 512 letters are held, and were when a mark was set
pub record Small (g : Log) : Type 0 where
  pub few_letters : length g.letters ≤ 512
  pub few-marked : (m : ℕ) → length (letters_at (g.marks m)) ≤ 512

small-empty : Small empty
unfolding empty
small-empty = record { few_letters = omega arith; few-marked = λ m. omega arith }

small-called : (s : ℕ) (g : Log) (c : LiveCall) → Small g → Serves s g c → Small (called c g)
unfolding called
small-called s g Start S h = small-empty
small-called s g (Arrive a) S h = record { few_letters = let e = length-append g.letters (a ∷ []) in let k = h.1 in omega (arith, e, k); few-marked = S.few-marked }
small-called s g Withdraw S h =
    record { few_letters = let e = length-take-le (length g.letters - 1) g.letters (omega arith) in let k = S.few_letters in omega (arith, e, k); few-marked = S.few-marked }
small-called s g (Mark m) S h = record { few_letters = S.few_letters; few-marked = remark-low m g.letters g.marks h S.few_letters S.few-marked }
small-called s g (Return m) S h = record { few_letters = S.few-marked m; few-marked = S.few-marked }

pub small : (s : ℕ) (h : History) → Served s h → Small (log_of h)
unfolding log_of
small s at_start S = small-empty
small s (later h c) S = small-called s (log_of h) c (small s h S.0) S.1

-- ---- what state holds is a function of the history

-- every call but a start
abbrev pub Onward : LiveCall → Type 0
Onward Start = ⊥
Onward (Arrive a) = Unit {0}
Onward Withdraw = Unit {0}
Onward (Mark m) = Unit {0}
Onward (Return m) = Unit {0}

module _ (q : ℕ) (codes ts : List ℕ) where
  pub held_by : length codes ≤ 65536 → (g : Log) → Small g → Held g.letters g.marks (afresh q codes ts g.letters)
  held_by room g S = record { few = S.few_letters; low = S.few-marked; narrow = omega (arith, afresh-length q codes ts g.letters) }

  -- in front of the rest as lent
  abbrev pub held_bytes : Log → List ℕ → List ℕ
  held_bytes g rest = bytes_of g.letters g.marks (afresh q codes ts g.letters) rest

  pub state-bytes : (h : History) (rest : List ℕ) → state_of q codes ts h ++ rest ≡ held_bytes (log_of h) rest
  unfolding state_of
  state-bytes h rest = log-bytes (log_of h) (afresh q codes ts (log_of h).letters) rest

  module _ (room : length codes ≤ 65536) (inside : (t : ℕ) → Memᴰ t ts → source_of t < length codes) where
    log-goes : (s : ℕ) (g : Log) (c : LiveCall) (rest : List ℕ) → Small g → Serves s g c → Onward c → effect c q codes ts (held_bytes g rest) ≡ held_bytes (called c g) rest
    unfolding effect called
    log-goes s g Start rest S h n = absurd n
    log-goes s g (Arrive a) rest S h n = arrive-leaves q codes ts room inside g.letters g.marks rest S.few_letters S.few-marked a h.1
    log-goes s g Withdraw rest S h n = withdraw-leaves q codes ts room inside g.letters g.marks rest S.few_letters S.few-marked h
    log-goes s g (Mark m) rest S h n = mark-leaves q codes ts room inside g.letters g.marks rest S.few_letters S.few-marked m h
    log-goes s g (Return m) rest S h n = return-leaves q codes ts room inside g.letters g.marks rest S.few_letters S.few-marked m h.0

    -- a start leaves what the history of no call leaves, of any bytes
    pub start-goes : (h : History) (state : List ℕ) → effect Start q codes ts state ≡ state_of q codes ts (later h Start) ++ drop state_length_lem state
    unfolding effect log_of called empty
    start-goes h state = start-leaves q codes ts room inside state ∙ sym (state-bytes (later h Start) (drop state_length_lem state))

    -- every other call, what the longer history leaves, of what the history left
    pub call-goes : (s : ℕ) (h : History) (c : LiveCall) (rest : List ℕ) → Served s h → Serves s (log_of h) c → Onward c
        → effect c q codes ts (state_of q codes ts h ++ rest) ≡ state_of q codes ts (later h c) ++ rest
    unfolding log_of
    call-goes s h c rest S k n = ap (effect c q codes ts) (state-bytes h rest) ∙ log-goes s (log_of h) c rest (small s h S) k n ∙ sym (state-bytes (later h c) rest)

  -- it has as many bytes as state
  pub state-long : (s : ℕ) (h : History) → Served s h → length codes ≤ 65536 → length (state_of q codes ts h) ≡ state_length_lem
  unfolding state_of log_bytes flag_bytes number_bytes mark_bytes
  state-long s h S room =
      let g = log_of h in
      let K = small s h S in
      let H : Held g.letters g.marks (afresh q codes ts g.letters) = held_by room g K in
      let L = long (length g.letters) g.marks g.marks H in
      simp length-append (omega (arith, L.number-long, L.flags_long, L.numbers-long, L.letters-long, L.marks-long, L.set_long))

  -- ---- an arrival and then a withdrawal

  pub arrive-withdraw : (h : History) (a : ℕ) → held (later (later h (Arrive a)) Withdraw) ≡ held h
  unfolding log_of called
  arrive-withdraw h a =
      let l = held h in
      ap (λ (k : ℕ). take k (l ++ (a ∷ []))) (let e = length-append l (a ∷ []) in let i : length (l ++ (a ∷ [])) - 1 ≡ length l = omega (arith, e) in i) ∙ take-append_seam l (a ∷ [])

  -- give back letters and set, and every byte of state
  pub arrive-withdraw-state : (h : History) (a : ℕ) → state_of q codes ts (later (later h (Arrive a)) Withdraw) ≡ state_of q codes ts h
  unfolding state_of log_of called
  arrive-withdraw-state h a =
      ap (λ (l : List ℕ). log_bytes (record { letters = l; marks = (log_of h).marks }) ++ padded 65536 (afresh q codes ts l)) (arrive-withdraw h a)

-- ---- marks

-- a mark keeps its moment through calls that neither start nor set it
pub mark-kept : (m : ℕ) (cs : List LiveCall) (h : History) → Keeps m cs → mark_of (followed h cs) m ≡ mark_of h m
unfolding log_of called followed
mark-kept m [] h k = refl
mark-kept m (Start ∷ cs) h k = absurd k
mark-kept m (Arrive a ∷ cs) h k = mark-kept m cs (later h (Arrive a)) k
mark-kept m (Withdraw ∷ cs) h k = mark-kept m cs (later h Withdraw) k
mark-kept m (Mark j ∷ cs) h k = mark-kept m cs (later h (Mark j)) k.1 ∙ ap (λ (b : Bool). cond b (at (held h)) (mark_of h m)) (ne_eqb m j k.0)
mark-kept m (Return j ∷ cs) h k = mark-kept m cs (later h (Return j)) k

pub mark_set : (m : ℕ) (h : History) → mark_of (later h (Mark m)) m ≡ at (held h)
unfolding log_of called
mark_set m h = ap (λ (b : Bool). cond b (at (held h)) (mark_of h m)) (eq-eqb m m refl)

-- 02: "Returning restores the letters and set held when that mark was last set"
pub return-restores : (m : ℕ) (cs : List LiveCall) (h : History) → Keeps m cs → held (later (followed (later h (Mark m)) cs) (Return m)) ≡ held h
unfolding log_of called
return-restores m cs h k = ap letters_at (mark-kept m cs (later h (Mark m)) k ∙ mark_set m h)

pub return-set : (q : ℕ) (codes ts : List ℕ) (m : ℕ) (cs : List LiveCall) (h : History) → Keeps m cs
    → afresh q codes ts (held (later (followed (later h (Mark m)) cs) (Return m))) ≡ afresh q codes ts (held h)
return-set q codes ts m cs h k = ap (afresh q codes ts) (return-restores m cs h k)

-- "marks themselves are not rewound": every mark stays as it is, also one that was set after the moment returned to
pub marks_stay : (h : History) (m k : ℕ) → mark_of (later h (Return m)) k ≡ mark_of h k
unfolding log_of called
marks_stay h m k = refl

-- two returns to one mark give the same letters, and so the same set, whatever was done between them that neither starts nor sets the mark
pub returns-same : (m : ℕ) (cs : List LiveCall) (h : History) → Keeps m cs → held (later (followed (later h (Return m)) cs) (Return m)) ≡ held (later h (Return m))
unfolding log_of called
returns-same m cs h k = ap letters_at (mark-kept m cs (later h (Return m)) k)

pub returns-same-set : (q : ℕ) (codes ts : List ℕ) (m : ℕ) (cs : List LiveCall) (h : History) → Keeps m cs
    → afresh q codes ts (held (later (followed (later h (Return m)) cs) (Return m))) ≡ afresh q codes ts (held (later h (Return m)))
returns-same-set q codes ts m cs h k = ap (afresh q codes ts) (returns-same m cs h k)

-- a start clears every mark: none is set before it is set again
pub start-clears : (h : History) (m : ℕ) → mark_of (later h Start) m ≡ unset
unfolding log_of called empty
start-clears h m = refl
