-- What the calls of WMM make of an eager machine.
use Rattle.std.specs.Prelude.{◌≡◌, ℕ, zero, suc, ◌+◌, ◌<◌, ◌≤◌, Bool, true, false, cond, not, ◌&&◌, List, [], ◌∷◌, ◌++◌, length, Some, None, Option, ◌==◌, ◌≢◌, nat_le, nat_lt}
use Rattle.std.proofs.Common.{◌∙◌, arith}
use Rattle.std.proofs.Math.Path.{refl, sym, ap, fun_ext}
use Rattle.std.proofs.lemmas.List.{nil_from_length}
use Rattle.std.proofs.lemmas.Bool.{and_from, and_right, cond-true, eq-eqb, eqb-false, lt-ltb, ltb-true}
use Rattle.kinds.specs.Kinds.{choice_of}
use Rattle.model.specs.Lists.{oldest, none_of, upd, without}
use Rattle.model.proofs.Lists.{upd_all, upd_same, upd_other, length_without, oldest_pushed}
use Rattle.model.specs.declared.fault.Fault.{Fault}
use Rattle.model.specs.declared.fault.Refusal.{Refusal}
use Rattle.model.specs.declared.fault.Refusal.TheVariants.{Held as HeldBack, NoCore, OffMap, Spent}
use Rattle.model.specs.declared.memory.Origin.{Origin}
use Rattle.model.specs.declared.memory.StaleCopy.{StaleCopy}
use Rattle.model.specs.declared.memory.WaitingStore.{WaitingStore}
use Rattle.port.specs.Calls.{Outcome, gives, refuses, unless, map_refusal, spent_refusal, landing_found, landing_outcome, put_taken, put_outcome}
use Rattle.port.specs.Holdings.{Held, total, store_at, copy_at, store_of, after_put, after_direct, after_landing, landed, shown, may_keep, overwritten, keeping}
use Rattle.port.specs.Laws.{Sound}
use Rattle.port.specs.declared.stored.Stored.{Stored}
use Rattle.port.specs.declared.stored.Stored.TheVariants.{Waiting, Landed}
use Rattle.port.proofs.Holdings.{on_map, direct_is_landing}
use Rattle.machine.proofs.Keeping.{may_not}
use Rattle.foreign.specs.Eager.{odd, eager_choice, evens, without_even, full}
use Rattle.foreign.proofs.Loads.{accepted}

-- ## Copies of the even processors

no_copies : (h : Held) → evens h ≤ 0 → (h.copies 0 ≡ []) × (h.copies 2 ≡ [])
no_copies h e = (nil_from_length (h.copies 0) (omega arith), nil_from_length (h.copies 2) (omega arith))

-- with fewer copies of one processor, the even ones hold none still
pub fewer : (h : Held) (p : ℕ) (cs : List StaleCopy) → length cs ≤ length (h.copies p) → evens h ≤ 0 → length (upd h.copies p cs 0) + length (upd h.copies p cs 2) ≤ 0
fewer h p cs l none =
    let less = upd_all (λ j y. length y ≤ length (h.copies j)) h.copies p cs l (λ j ne. omega arith) in
    omega (arith, less 0, less 2)

pub even_put : (h : Held) (p : ℕ) (w : WaitingStore) → evens h ≤ 0 → evens (after_put h p w) ≤ 0
even_put h p w none = fewer h p (without (copy_at w.address) (h.copies p)) (length_without (copy_at w.address) (h.copies p)) none

-- ## Landings

module _ (h : Held) (none : evens h ≤ 0) (p a : ℕ) where
  -- of what a landing left there is nothing once copies of the address are gone
  kept_none : (b : Bool) (cs : List StaleCopy) → cs ≡ [] → without (copy_at a) (cond b (cs ++ overwritten h a ∷ []) cs) ≡ []
  kept_none true cs e =
      ap (λ l. without (copy_at a) (l ++ overwritten h a ∷ [])) e ∙ cond-true (a == a) [] (overwritten h a ∷ []) (eq-eqb a a refl)
  kept_none false cs e = ap (without (copy_at a)) e

  kept : ℕ → List StaleCopy
  kept = keeping (may_keep h p a) (overwritten h a) h.copies

  odd_keep : (q : ℕ) → upd (upd kept 0 (without (copy_at a) (kept 0))) 2 (without (copy_at a) (kept 2)) q ≡ keeping (λ q. odd q && may_keep h p a q) (overwritten h a) h.copies q
  unfolding kept
  odd_keep zero = kept_none (may_keep h p a 0) (h.copies 0) (no_copies h none).0 ∙ sym (no_copies h none).0
  odd_keep (suc zero) = refl
  odd_keep (suc (suc zero)) = kept_none (may_keep h p a 2) (h.copies 2) (no_copies h none).1 ∙ sym (no_copies h none).1
  odd_keep (suc (suc (suc zero))) = refl
  odd_keep (suc (suc (suc (suc q)))) =
      let n = suc (suc (suc (suc q))) in
      let nobody = may_not h.waits p a n (omega arith) in
      upd_other (upd kept 0 (without (copy_at a) (kept 0))) 2 (without (copy_at a) (kept 2)) n (λ e. omega arith)
      ∙ upd_other kept 0 (without (copy_at a) (kept 0)) n (λ e. omega arith)
      ∙ ap (λ b. cond b (h.copies n ++ overwritten h a ∷ []) (h.copies n)) (nobody ∙ sym (and_right (odd n) (may_keep h p a n) nobody))

  odd_landing : (w : WaitingStore) → without_even (after_landing h p a w (may_keep h p a)) a ≡ after_landing h p a w (λ q. odd q && may_keep h p a q)
  unfolding kept
  odd_landing w = ap (λ cs. record { cell = (after_landing h p a w (may_keep h p a)).cell; waits = (after_landing h p a w (may_keep h p a)).waits; copies = cs }) (fun_ext odd_keep)

-- what is held once a call is accepted
abbrev after : {X : Type 0} → (Held → Held) → Outcome X → Outcome X
after f (refuses e) = refuses e
after f (gives x g) = gives x (f g)

eager_landing : (h : Held) → evens h ≤ 0 → (p a : ℕ) → landing_outcome (eager_choice h) h p a ≡ after (λ g. without_even g a) (landing_outcome (choice_of 3 h) h p a)
eager_landing h none p a = go (map_refusal p a) (oldest (store_at a) (h.waits p))
  where
    go : (o : Option Refusal) (f : Option WaitingStore) → unless o p (landing_found (eager_choice h) h p a f) ≡ after (λ g. without_even g a) (unless o p (landing_found (choice_of 3 h) h p a f))
    go (Some r) f = refl
    go None None = refl
    go None (Some w) = ap (gives (shown (landed (h.cell a) w))) (sym (odd_landing h none p a w))

pub landed_eagerly : (h : Held) → evens h ≤ 0 → (p a : ℕ) (x : ℕ × ℕ × Origin) (g k : Held) → landing_outcome (choice_of 3 h) h p a ≡ gives x g → k ≡ without_even g a → landing_outcome (eager_choice h) h p a ≡ gives x k
landed_eagerly h none p a x g k e d = eager_landing h none p a ∙ ap (after (λ g. without_even g a)) e ∙ ap (gives x) (sym d)

-- ## Puts

-- what is known of a put that WMM takes
pub record Taken (h : Held) (p a word place : ℕ) (x : Stored) (g : Held) : Type 0 where
  pub core : p < 4
  pub map : a < 8
  pub waits : x ≡ Waiting
  pub held : g ≡ after_put h p (store_of p a word place)
  pub outcome : put_outcome (eager_choice h) h p a word place ≡ put_taken (eager_choice h) h p (store_of p a word place) (length (h.waits p) == 0)

module _ (h : Held) (sound : Sound h) (p a word place : ℕ) where
  pub put_taken_is : full h p a ≡ false → (x : Stored) (g : Held) → put_outcome (choice_of 3 h) h p a word place ≡ gives x g → Taken h p a word place x g
  put_taken_is f x g e =
      let w = store_of p a word place in
      let i = accepted (map_refusal p a) p (unless (spent_refusal h) p (gives Waiting (after_put h p w))) x g e in
      let j = accepted (spent_refusal h) p (gives Waiting (after_put h p w)) x g i.1 in
      let on = exists (nat_lt p 4) (nat_lt a 8) i.0 in
      let lp = ltb-true p 4 on.0 in
      let la = ltb-true a 8 on.1 in
      let ne = eqb-false (total h) 64 (unspent (total h == 64) j.0) in
      let l : total h < 64 = below (total h) sound.bounded ne in
      let taken = put_taken (eager_choice h) h p w (length (h.waits p) == 0) in
      record {
        core = lp;
        map = la;
        waits = (gave j.1).0;
        held = (gave j.1).1;
        outcome =
            on_map p a (unless (spent_refusal h) p (unless ((eager_choice h).refuses_put p a) p taken)) lp la
            ∙ ap (λ o. unless o p (unless ((eager_choice h).refuses_put p a) p taken)) j.0
            ∙ ap (λ b. unless (cond b (Some HeldBack) None) p taken) (free (nat_le 2 (length (h.waits p))) (nat_lt a 8) (nat_lt (total h) 64) on.1 (lt-ltb (total h) 64 l) f);
      }
    where
      exists : (b c : Bool) → cond b (cond c None (Some OffMap)) (Some NoCore) ≡ None → (b ≡ true) × (c ≡ true)
      exists true true e = (refl, refl)
      exists true false e = absurd cc
      exists false c e = absurd cc

      unspent : (b : Bool) → cond b (Some Spent) None ≡ None → b ≡ false
      unspent true e = absurd cc
      unspent false e = refl

      below : (n : ℕ) → n ≤ 64 → (n ≢ 64) → n < 64
      below n l ne = omega arith

      free : (b c d : Bool) → c ≡ true → d ≡ true → (b && (c && d)) ≡ false → b ≡ false
      free true c d i j e = sym (and_from c d i j) ∙ e
      free false c d i j e = refl

      gave : {x y : Stored} {g k : Held} → gives x g ≡ gives y k → (y ≡ x) × (k ≡ g)
      gave e = (cc, cc)

-- as p's store lands, the same keep a copy whether or not p has just put it
keep_same : (h : Held) (p : ℕ) (w : WaitingStore) (a : ℕ) → (eager_choice (after_put h p w)).keeps p a ≡ (eager_choice h).keeps p a
keep_same h p w a = fun_ext (λ q. go q (q == p))
  where
    go : (q : ℕ) (b : Bool) → (odd q && (nat_lt q 4 && (not b && none_of (store_at a) (cond b (h.waits p ++ w ∷ []) (h.waits q))))) ≡ (odd q && (nat_lt q 4 && (not b && none_of (store_at a) (h.waits q))))
    go q true = refl
    go q false = refl

-- a store that is put where nothing waits, and lands, has landed directly
lands_direct : (h : Held) (p : ℕ) (w : WaitingStore) → p < 4 → w.address < 8 → h.waits p ≡ [] → landing_outcome (eager_choice (after_put h p w)) (after_put h p w) p w.address ≡ gives (shown (landed (h.cell w.address) w)) (after_direct h p w ((eager_choice h).keeps p w.address))
lands_direct h p w lp la e =
    let g = after_put h p w in
    let a = w.address in
    let none = ap (none_of (store_at a)) e in
    on_map p a (landing_found (eager_choice g) g p a (oldest (store_at a) (g.waits p))) lp la
    ∙ ap (λ ws. landing_found (eager_choice g) g p a (oldest (store_at a) ws)) (upd_same h.waits p (h.waits p ++ w ∷ []))
    ∙ ap (landing_found (eager_choice g) g p a) (oldest_pushed (store_at a) (h.waits p) w none (eq-eqb a a refl))
    ∙ ap (λ (keep : ℕ → Bool). gives (shown (landed (h.cell a) w)) (after_landing g p a w keep)) (keep_same h p w a)
    ∙ ap (gives (shown (landed (h.cell a) w))) (sym (direct_is_landing h p w ((eager_choice h).keeps p a) none))

-- what WMM refuses, it refuses before a kind may
pub put_refused : (h : Held) (p a word place : ℕ) (f : Fault) → put_outcome (choice_of 3 h) h p a word place ≡ refuses f → put_outcome (eager_choice h) h p a word place ≡ refuses f
put_refused h p a word place f =
    go (map_refusal p a) (spent_refusal h)
    (unless ((eager_choice h).refuses_put p a) p (put_taken (eager_choice h) h p (store_of p a word place) (length (h.waits p) == 0)))
  where
    go : (o s : Option Refusal) (rest : Outcome Stored) → unless o p (unless s p (gives Waiting (after_put h p (store_of p a word place)))) ≡ refuses f → unless o p (unless s p rest) ≡ refuses f
    go (Some r) s rest e = e
    go None (Some r) rest e = e
    go None None rest e = absurd cc

-- ## A put that WMM has taken, and that the limit allows

module _ (h : Held) (sound : Sound h) (p a word place : ℕ) (free : full h p a ≡ false) (x : Stored) (g : Held) (e : put_outcome (choice_of 3 h) h p a word place ≡ gives x g) where
  t : Taken h p a word place x g
  t = put_taken_is h sound p a word place free x g e

  landing_is : length (h.waits p) ≡ 0 → landing_outcome (eager_choice g) g p a ≡ gives (shown (landed (h.cell a) (store_of p a word place))) (after_direct h p (store_of p a word place) ((eager_choice h).keeps p a))
  landing_is none =
      ap (λ k. landing_outcome (eager_choice k) k p a) t.held
      ∙ lands_direct h p (store_of p a word place) t.core t.map (nil_from_length (h.waits p) none)

  pub put_lands : length (h.waits p) ≡ 0 → (y : ℕ × ℕ × Origin) (k : Held) → landing_outcome (eager_choice g) g p a ≡ gives y k → put_outcome (eager_choice h) h p a word place ≡ gives (Landed y) k
  put_lands none y k l =
      t.outcome ∙ ap (put_taken (eager_choice h) h p (store_of p a word place)) (eq-eqb (length (h.waits p)) 0 none) ∙ told (sym (landing_is none) ∙ l)
    where
      told : {u v : ℕ × ℕ × Origin} {i j : Held} → gives u i ≡ gives v j → gives (Landed u) i ≡ gives (Landed v) j
      told q = cc

  pub never_refused : length (h.waits p) ≡ 0 → (f : Fault) → landing_outcome (eager_choice g) g p a ≢ refuses f
  never_refused none f l = let q = sym (landing_is none) ∙ l in cc
