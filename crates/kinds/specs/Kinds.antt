-- The four kinds by number: 0 SC, 1 TSO, 2 PSO, 3 (and above) WMM. Three traits tell them apart.
use Rattle.std.specs.Prelude.{◌≡◌, ℕ, zero, suc, Bool, true, false, cond, not, ◌&&◌, List, [], ◌∷◌, length, Some, None, ◌==◌, nat_le}
use Rattle.model.specs.Tables.{sc_table, tso_table, pso_table, wmm_table}
use Rattle.model.specs.declared.fault.Refusal.TheVariants.{Held as HeldBack}
use Rattle.model.specs.Orders.{Table}
use Rattle.port.specs.Calls.{Choice}
use Rattle.port.specs.Holdings.{Held, store_at, may_keep}

abbrev pub table_of : ℕ → Table
table_of zero = sc_table
table_of (suc zero) = tso_table
table_of (suc (suc zero)) = pso_table
table_of (suc (suc (suc k))) = wmm_table

-- puts land directly: SC
abbrev pub lands_directly : ℕ → Bool
lands_directly k = k == 0

-- only a processor's oldest store lands: TSO
abbrev pub lands_in_order : ℕ → Bool
lands_in_order k = k == 1

-- every copy that a landing allows is kept: WMM
abbrev pub keeps_copies : ℕ → Bool
keeps_copies k = nat_le 3 k

-- the oldest of all does not pass
abbrev pub behind : {T : Type 0} → (T → Bool) → List T → Bool
behind test [] = false
behind test (x ∷ xs) = not (test x)

abbrev pub choice_of : ℕ → Held → Choice
choice_of k h =
    record {
      lands = λ p a. lands_directly k;
      keeps = λ p a q. keeps_copies k && may_keep h p a q;
      refuses_old = λ p a s. None;
      refuses_put = λ p a. None;
      refuses_landing = λ p a. cond (lands_in_order k && behind (store_at a) (h.waits p)) (Some HeldBack) None;
    }

-- where puts land directly nothing waits, and where no copies are kept there are none
abbrev pub Plain : ℕ → Held → Type 0
Plain k h =
    ((p : ℕ) → lands_directly k ≡ true → length (h.waits p) ≡ 0)
    × ((p : ℕ) → keeps_copies k ≡ false → length (h.copies p) ≡ 0)
