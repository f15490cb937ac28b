-- A processor that loads the newest sees its own store, on every kind of machine.
use Rattle.std.specs.Prelude.{◌≡◌, ℕ, Bool, true, false, cond, List, [], ◌∷◌, ◌++◌, Some, None, Option, refl}
use Rattle.std.proofs.Common.{sym, ap, subst, ◌∙◌}
use Rattle.std.proofs.lemmas.Bool.{cond-true, eq-eqb}
use Rattle.kinds.proofs.Buffers.{youngest_none}
use Rattle.model.specs.Lists.{none_of, youngest_else, youngest, upd}
use Rattle.model.specs.declared.fault.Refusal.{Refusal}
use Rattle.model.specs.declared.memory.WaitingStore.{WaitingStore}
use Rattle.model.proofs.Lists.{upd_same}
use Rattle.port.specs.Calls.{Choice, Outcome, gives, unless, map_refusal, spent_refusal, put_taken, put_outcome, newest_outcome}
use Rattle.port.specs.Holdings.{Held, Value, store_at, store_else, newest, after_newest, after_put, after_direct, store_of, landed}
use Rattle.port.specs.Laws.{Bounds}
use Rattle.port.specs.declared.stored.Stored.{Stored}

-- ## The youngest

module _ {T : Type 0} (test : T → Bool) where
  youngest_pushed : (o : Option T) (xs : List T) (x : T) → test x ≡ true → youngest_else test o (xs ++ x ∷ []) ≡ Some x
  youngest_pushed o [] x e = cond-true (test x) (Some x) o e
  youngest_pushed o (y ∷ xs) x e = youngest_pushed (cond (test y) (Some y) o) xs x e

-- ## Calls that are accepted

pub accepted : {X : Type 0} (o : Option Refusal) (p : ℕ) (rest : Outcome X) (x : X) (h : Held) → unless o p rest ≡ gives x h → (o ≡ None) × (rest ≡ gives x h)
accepted None p rest x h e = (refl, e)
accepted (Some r) p rest x h e = absurd cc

taken : (choice : Choice) (h : Held) (p : ℕ) (w : WaitingStore) (b : Bool) (s : Stored) (g : Held) → (b ≡ true → none_of (store_at w.address) (h.waits p) ≡ true) → put_taken choice h p w b ≡ gives s g → newest g p w.address ≡ (w.word, w.origin)
taken choice h p w true s g none e =
    let i : after_direct h p w (choice.keeps p w.address) ≡ g = cc in
    subst (λ g. newest g p w.address ≡ (w.word, w.origin)) i
    (ap (λ o. store_else o (upd h.cell w.address (landed (h.cell w.address) w) w.address)) (youngest_none (store_at w.address) None (h.waits p) (none refl))
    ∙ ap (store_else None) (upd_same h.cell w.address (landed (h.cell w.address) w)))
taken choice h p w false s g none e =
    let i : after_put h p w ≡ g = cc in
    subst (λ g. newest g p w.address ≡ (w.word, w.origin)) i
    (ap (λ ws. store_else (youngest (store_at w.address) ws) (h.cell w.address)) (upd_same h.waits p (h.waits p ++ w ∷ []))
    ∙ ap (λ o. store_else o (h.cell w.address)) (youngest_pushed (store_at w.address) None (h.waits p) w (eq-eqb w.address w.address refl)))

-- what is put and then loaded
pub loads_put : (choice : Choice) (h : Held) (p a word place : ℕ) (s : Stored) (g : Held) (v : Value) (f : Held) → Bounds h choice → put_outcome choice h p a word place ≡ gives s g → newest_outcome g p a ≡ gives v f → v.0 ≡ word
loads_put choice h p a word place s g v f bounds e d =
    let i = accepted (map_refusal p a) p (unless (spent_refusal h) p (unless (choice.refuses_put p a) p (put_taken choice h p (store_of p a word place) (choice.lands p a)))) s g e in
    let j = accepted (spent_refusal h) p (unless (choice.refuses_put p a) p (put_taken choice h p (store_of p a word place) (choice.lands p a))) s g i.1 in
    let k = accepted (choice.refuses_put p a) p (put_taken choice h p (store_of p a word place) (choice.lands p a)) s g j.1 in
    let t = taken choice h p (store_of p a word place) (choice.lands p a) s g (bounds.lands p a k.0) k.1 in
    let l = accepted (map_refusal p a) p (gives (newest g p a) (after_newest g p a)) v f d in
    let n : newest g p a ≡ v = (let q = l.1 in cc) in
    ap (λ (x : Value). x.0) (sym n ∙ t)
