-- The published rules of the four machines, registers aside. A rule says at which states it can fire and which state it gives; it is named as it was published.
use Rattle.std.specs.Prelude.{◌≡◌, ℕ, zero, suc, ◌<◌, ◌≤◌, List, [], ◌∷◌, ◌++◌, map, ◌≢◌}
use Rattle.model.specs.Lists.{upd}
use Rattle.port.specs.Holdings.{Held}

-- ## Buffers

-- pairs of address and word, oldest first
abbrev pub Buffer : Type 0
Buffer = List (ℕ × ℕ)

-- exist(a) is false
pub data Absent (a : ℕ) : Buffer → Type 0 where
  absent_nil : Absent a []
  absent_next : (b v : ℕ) (rest : Buffer) → (b ≢ a) → Absent a rest → Absent a ((b, v) ∷ rest)

-- exist(a) is true
pub data Present (a : ℕ) : Buffer → Type 0 where
  present_here : (v : ℕ) (rest : Buffer) → Present a ((a, v) ∷ rest)
  present_later : (b v : ℕ) (rest : Buffer) → Present a rest → Present a ((b, v) ∷ rest)

-- youngest(a) is v
pub data Youngest (a : ℕ) : Buffer → ℕ → Type 0 where
  youngest_here : (v : ℕ) (rest : Buffer) → Absent a rest → Youngest a ((a, v) ∷ rest) v
  youngest_later : (b w : ℕ) (rest : Buffer) (v : ℕ) → Youngest a rest v → Youngest a ((b, w) ∷ rest) v

-- rmOldest(a) answers v and leaves the last buffer
pub data RmOldest (a : ℕ) : Buffer → ℕ → Buffer → Type 0 where
  oldest_here : (v : ℕ) (rest : Buffer) → RmOldest a ((a, v) ∷ rest) v rest
  oldest_later : (b w : ℕ) (rest : Buffer) (v : ℕ) (left : Buffer) → (b ≢ a) → RmOldest a rest v left → RmOldest a ((b, w) ∷ rest) v ((b, w) ∷ left)

-- rmAddr(a) leaves the last buffer
pub data RmAddr (a : ℕ) : Buffer → Buffer → Type 0 where
  removes_nil : RmAddr a [] []
  removes_this : (v : ℕ) (rest left : Buffer) → RmAddr a rest left → RmAddr a ((a, v) ∷ rest) left
  removes_other : (b v : ℕ) (rest left : Buffer) → (b ≢ a) → RmAddr a rest left → RmAddr a ((b, v) ∷ rest) ((b, v) ∷ left)

-- getRandom(a) answers some v of a, and takes out the values of a that were inserted before it
pub data GetRandom (a : ℕ) : Buffer → ℕ → Buffer → Type 0 where
  random_here : (v : ℕ) (rest : Buffer) → GetRandom a ((a, v) ∷ rest) v ((a, v) ∷ rest)
  random_older : (w : ℕ) (rest : Buffer) (v : ℕ) (left : Buffer) → GetRandom a rest v left → GetRandom a ((a, w) ∷ rest) v left
  random_other : (b w : ℕ) (rest : Buffer) (v : ℕ) (left : Buffer) → (b ≢ a) → GetRandom a rest v left → GetRandom a ((b, w) ∷ rest) v ((b, w) ∷ left)

-- ## States and actions

-- atomic memory, and for each processor a store buffer and an invalidation buffer
pub record State : Type 0 where
  pub memory : ℕ → ℕ
  pub sb : ℕ → Buffer
  pub ib : ℕ → Buffer

-- what is held, with serials and origins forgotten
abbrev pub forget : Held → State
forget h =
    record {
      memory = λ a. (h.cell a).word;
      sb = λ p. map (λ w. (w.address, w.word)) (h.waits p);
      ib = λ p. map (λ c. (c.address, c.cell.word)) (h.copies p);
    }

pub data Action : Type 0 where
  load : ℕ → ℕ → ℕ → Action  -- i, a, v: processor i loads v at a
  load_stale : ℕ → ℕ → ℕ → Action  -- i, a, v: it loads a stale v
  store : ℕ → ℕ → ℕ → Action  -- i, a, v
  commit : ℕ → Action
  reconcile : ℕ → Action
  dequeue : ℕ → ℕ → ℕ → Action  -- i, a, v: a store of i reaches memory

-- ## SC

abbrev pub wrote : State → ℕ → ℕ → State
wrote s a v = record { memory = upd s.memory a v; sb = s.sb; ib = s.ib }

-- with no buffer the fences have nothing to do
pub data Sc : Action → State → State → Type 0 where
  sc-Ld : (i a : ℕ) (s : State) → Sc (load i a (s.memory a)) s s
  sc-St : (i a v : ℕ) (s : State) → Sc (store i a v) s (wrote s a v)
  sc-Com : (i : ℕ) (s : State) → Sc (commit i) s s
  sc-Rec : (i : ℕ) (s : State) → Sc (reconcile i) s s

-- ## TSO and PSO

-- enq(a, v)
abbrev pub enqueued : State → ℕ → ℕ → ℕ → State
enqueued s i a v = record { memory = s.memory; sb = upd s.sb i (s.sb i ++ (a, v) ∷ []); ib = s.ib }

-- the store buffer of i is then the last one, and v is in memory
abbrev pub dequeued : State → ℕ → ℕ → ℕ → Buffer → State
dequeued s i a v left = record { memory = upd s.memory a v; sb = upd s.sb i left; ib = s.ib }

-- what TSO and PSO share; with no invalidation buffer Reconcile has nothing to do
pub data Buffering : Action → State → State → Type 0 where
  buffer-LdSb : (i a v : ℕ) (s : State) → Youngest a (s.sb i) v → Buffering (load i a v) s s
  buffer-LdMem : (i a : ℕ) (s : State) → Absent a (s.sb i) → Buffering (load i a (s.memory a)) s s
  buffer-St : (i a v : ℕ) (s : State) → Buffering (store i a v) s (enqueued s i a v)
  buffer-Com : (i : ℕ) (s : State) → s.sb i ≡ [] → Buffering (commit i) s s
  buffer-Rec : (i : ℕ) (s : State) → Buffering (reconcile i) s s

-- deq(): the oldest store of all
pub data Tso : Action → State → State → Type 0 where
  tso : (x : Action) (s t : State) → Buffering x s t → Tso x s t
  tso-DeqSb : (i a v : ℕ) (s : State) (left : Buffer) → s.sb i ≡ (a, v) ∷ left → Tso (dequeue i a v) s (dequeued s i a v left)

-- the oldest store of any address
pub data Pso : Action → State → State → Type 0 where
  pso : (x : Action) (s t : State) → Buffering x s t → Pso x s t
  pso-DeqSb : (i a v : ℕ) (s : State) (left : Buffer) → RmOldest a (s.sb i) v left → Pso (dequeue i a v) s (dequeued s i a v left)

-- ## WMM

-- the invalidation buffer of i is then the last one
abbrev pub invalidated : State → ℕ → Buffer → State
invalidated s i left = record { memory = s.memory; sb = s.sb; ib = upd s.ib i left }

-- what j's invalidation buffer becomes as a store of i to a reaches memory: another processor without a store to a gets the old value
pub data Inserts (i a : ℕ) (s : State) (j : ℕ) : Buffer → Type 0 where
  inserts : j < 4 → (j ≢ i) → Absent a (s.sb j) → Inserts i a s j (s.ib j ++ (a, s.memory a) ∷ [])
  inserts_not_self : j ≡ i → Inserts i a s j (s.ib j)
  inserts_not_there : Present a (s.sb j) → Inserts i a s j (s.ib j)
  inserts_nobody : 4 ≤ j → Inserts i a s j (s.ib j)

pub data Wmm : Action → State → State → Type 0 where
  wmm-LdSb : (i a v : ℕ) (s : State) → Youngest a (s.sb i) v → Wmm (load i a v) s s
  wmm-LdMem : (i a : ℕ) (s : State) (left : Buffer) → Absent a (s.sb i) → RmAddr a (s.ib i) left → Wmm (load i a (s.memory a)) s (invalidated s i left)
  wmm-LdIb : (i a v : ℕ) (s : State) (left : Buffer) → Absent a (s.sb i) → GetRandom a (s.ib i) v left → Wmm (load_stale i a v) s (invalidated s i left)
  wmm-St : (i a v : ℕ) (s : State) (left : Buffer) → RmAddr a (s.ib i) left → Wmm (store i a v) s (invalidated (enqueued s i a v) i left)
  wmm-Com : (i : ℕ) (s : State) → s.sb i ≡ [] → Wmm (commit i) s s
  wmm-Rec : (i : ℕ) (s : State) → Wmm (reconcile i) s (invalidated s i [])
  wmm-DeqSb : (i a v : ℕ) (s : State) (left : Buffer) (ib : ℕ → Buffer) → RmOldest a (s.sb i) v left → ((j : ℕ) → Inserts i a s j (ib j)) → Wmm (dequeue i a v) s (record { memory = upd s.memory a v; sb = upd s.sb i left; ib = ib })

-- ## The rules of a kind

abbrev pub Rule : ℕ → Action → State → State → Type 0
Rule zero = Sc
Rule (suc zero) = Tso
Rule (suc (suc zero)) = Pso
Rule (suc (suc (suc k))) = Wmm
