-- Histories of calls, and the letters and marks that they leave.
use Rattle.std.specs.Prelude.{◌≡◌, Bool, true, false, cond, List, [], ◌∷◌, ◌++◌, ℕ, ◌-◌, ◌<◌, eqb, length, take}
use Rattle.live_spec.specs.declared.LiveCall.{LiveCall}
use Rattle.live_spec.specs.declared.LiveCall.TheVariants.{Start, Arrive, Withdraw, Mark, Return}

-- the calls that were served, from a start on
pub data History : Type 0 where
  at_start : History
  later : History → LiveCall → History

-- the moment that a mark has: the letters held when it was last set
pub data Moment : Type 0 where
  unset : Moment
  at : List ℕ → Moment

abbrev pub is_set : Moment → Bool
is_set unset = false
is_set (at l) = true

abbrev pub letters_at : Moment → List ℕ
letters_at unset = []
letters_at (at l) = l

-- the letters held, and the marks
pub record Log : Type 0 where
  pub letters : List ℕ
  pub marks : ℕ → Moment

-- 02: "From a start with none"; "a mark not set since the start"
unfoldable pub empty : Log
empty = record { letters = []; marks = λ k. unset }

-- the log after one more call
unfoldable pub called : LiveCall → Log → Log
called Start g = empty
called (Arrive a) g = record { letters = g.letters ++ (a ∷ []); marks = g.marks }
-- "withdraw the last one"
called Withdraw g = record { letters = take (length g.letters - 1) g.letters; marks = g.marks }
-- "may be set, set again"
called (Mark m) g = record { letters = g.letters; marks = λ k. cond (eqb k m) (at g.letters) (g.marks k) }
-- "Returning restores the letters .. held when that mark was last set; marks themselves are not rewound."
called (Return m) g = record { letters = letters_at (g.marks m); marks = g.marks }

-- what a history leaves
unfoldable pub log_of : History → Log
log_of at_start = empty
log_of (later h c) = called c (log_of h)

-- the letters held
abbrev pub held : History → List ℕ
held h = (log_of h).letters

-- "the letters .. held when that mark was last set", since the start
abbrev pub mark_of : History → ℕ → Moment
mark_of h m = (log_of h).marks m

-- ---- what is served

-- the next call is one that no row refuses, for a rule of s letters: "keep up to 512 letters", "Sixteen marks, each a number 0 to 15"
abbrev pub Serves : ℕ → Log → LiveCall → Type 0
Serves s g Start = Unit {0}
Serves s g (Arrive a) = (a < s) × (length g.letters < 512)
Serves s g Withdraw = 0 < length g.letters
Serves s g (Mark m) = m < 16
Serves s g (Return m) = (m < 16) × (is_set (g.marks m) ≡ true)

-- every call of the history was
abbrev pub Served : ℕ → History → Type 0
Served s at_start = Unit {0}
Served s (later h c) = Served s h × Serves s (log_of h) c

-- ---- more calls

-- a history with more calls
unfoldable pub followed : History → List LiveCall → History
followed h [] = h
followed h (c ∷ cs) = followed (later h c) cs

-- calls that neither start nor set mark m
abbrev pub Keeps : ℕ → List LiveCall → Type 0
Keeps m [] = Unit {0}
Keeps m (Start ∷ cs) = ⊥
Keeps m (Arrive a ∷ cs) = Keeps m cs
Keeps m (Withdraw ∷ cs) = Keeps m cs
Keeps m (Mark k ∷ cs) = (m ≡ k → ⊥) × Keeps m cs
Keeps m (Return k ∷ cs) = Keeps m cs
