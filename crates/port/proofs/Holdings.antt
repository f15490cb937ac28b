-- Lemmas on what a machine holds: sums, and a direct landing as a put with its landing.
use Rattle.std.proofs.Common.{◌≡◌, ℕ, ◌+◌, ◌<◌, Bool, true, cond, not, ◌&&◌, eqb, ltb, List, [], ◌∷◌, ◌++◌, length, Some, None, sym, refl, ap, ◌∙◌, arith}
use mathlib.Core.Path.{fun_ext}
use Rattle.std.proofs.lemmas.List.{length_push}
use Rattle.std.proofs.lemmas.Bool.{and_parts, and_from, eq-eqb, eqb-false, lt-ltb, not-true}
use Rattle.model.specs.Lists.{upd, none_of, oldest, without_oldest, without}
use Rattle.model.proofs.Lists.{upd_all, upd_same, upd_other, sum_upd, length_without_oldest, without_pushed}
use Rattle.model.specs.declared.fault.Refusal.TheVariants.{NoCore, OffMap}
use Rattle.model.specs.declared.memory.Cell.{Cell}
use Rattle.model.specs.declared.memory.WaitingStore.{WaitingStore}
use Rattle.port.specs.Calls.{Outcome, unless, map_refusal}
use Rattle.port.specs.Holdings.{Held, serials, pending, total, store_at, copy_at, landed, overwritten, may_keep, keeping, after_put, after_direct, after_landing}

-- ## Sums

pub pending_push : (waits : ℕ → List WaitingStore) (p : ℕ) (w : WaitingStore) → p < 4 → pending (upd waits p (waits p ++ w ∷ [])) ≡ pending waits + 1
pending_push waits p w l =
    let s : pending (upd waits p (waits p ++ w ∷ [])) + length (waits p) ≡ pending waits + length (waits p ++ w ∷ []) = sum_upd length waits p (waits p ++ w ∷ []) 4 l in
    omega (arith, length_push (waits p) w)

pub serials_land : (cell : ℕ → Cell) (a : ℕ) (c : Cell) → a < 8 → c.serial ≡ (cell a).serial + 1 → serials (upd cell a c) ≡ serials cell + 1
serials_land cell a c l e =
    let s : serials (upd cell a c) + (cell a).serial ≡ serials cell + c.serial = sum_upd (λ (x : Cell). x.serial) cell a c 8 l in
    omega arith

pub total_put : (h : Held) (p : ℕ) (w : WaitingStore) → p < 4 → total (after_put h p w) ≡ total h + 1
total_put h p w l = omega (arith, pending_push h.waits p w l)

pub total_landing : (h : Held) (p a : ℕ) (w : WaitingStore) (keep : ℕ → Bool) → p < 4 → a < 8 → oldest (store_at a) (h.waits p) ≡ Some w → total (after_landing h p a w keep) ≡ total h
total_landing h p a w keep lp la e =
    let ws = without_oldest (store_at a) (h.waits p) in
    let s : pending (upd h.waits p ws) + length (h.waits p) ≡ pending h.waits + length ws = sum_upd length h.waits p ws 4 lp in
    omega (arith, serials_land h.cell a (landed (h.cell a) w) la refl, length_without_oldest (store_at a) (h.waits p) w e)

-- ## Refusals

-- a processor and an address that exist
pub on_map : {X : Type 0} (p a : ℕ) (rest : Outcome X) → p < 4 → a < 8 → unless (map_refusal p a) p rest ≡ rest
on_map p a rest lp la =
    ap (λ b. unless (cond b (cond (ltb a 8) None (Some OffMap)) (Some NoCore)) p rest) (lt-ltb p 4 lp)
    ∙ ap (λ b. unless (cond b None (Some OffMap)) p rest) (lt-ltb a 8 la)

-- ## A direct landing

-- a store that lands directly is put, and lands
pub direct_is_landing : (h : Held) (p : ℕ) (w : WaitingStore) (keep : ℕ → Bool) → none_of (store_at w.address) (h.waits p) ≡ true → after_direct h p w keep ≡ after_landing (after_put h p w) p w.address w keep
direct_is_landing h p w keep none =
    ap (λ ws. record { cell = upd h.cell w.address (landed (h.cell w.address) w); waits = ws; copies = keeping keep (overwritten h w.address) (upd h.copies p (without (copy_at w.address) (h.copies p))) })
    (sym (fun_ext (upd_all (λ j y. y ≡ h.waits j) (upd h.waits p pushed) p (without_oldest (store_at w.address) (upd h.waits p pushed p)) (ap (without_oldest (store_at w.address)) (upd_same h.waits p pushed) ∙ without_pushed (store_at w.address) (h.waits p) w none (eq-eqb w.address w.address refl)) (λ j ne. upd_other h.waits p pushed j ne))))
  where
    pushed : List WaitingStore
    pushed = h.waits p ++ w ∷ []

-- who may keep a copy as p's store lands may still once p has put another
pub may_still : (h : Held) (p : ℕ) (w : WaitingStore) (a q : ℕ) → may_keep h p a q ≡ true → may_keep (after_put h p w) p a q ≡ true
may_still h p w a q e =
    let o = and_parts (ltb q 4) (not (eqb q p) && none_of (store_at a) (h.waits q)) e in
    let k = and_parts (not (eqb q p)) (none_of (store_at a) (h.waits q)) o.1 in
    let s : upd h.waits p (h.waits p ++ w ∷ []) q ≡ h.waits q = upd_other h.waits p (h.waits p ++ w ∷ []) q (eqb-false q p (not-true (eqb q p) k.0)) in
    and_from (ltb q 4) _ o.0 (and_from (not (eqb q p)) _ k.0 (ap (none_of (store_at a)) s ∙ k.1))
