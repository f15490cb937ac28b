-- Every call keeps what the four machines keep true.
use Rattle.std.proofs.Common.{◌≡◌, ℕ, ◌+◌, ◌<◌, ◌≤◌, Bool, true, false, cond, not, ◌&&◌, ◌||◌, eqb, ltb, List, [], ◌∷◌, ◌++◌, length, Some, sym, refl, ap, ◌∙◌, subst, arith}
use Rattle.std.specs.List.{AllByRecursion, list_all}
use Rattle.std.proofs.lemmas.List.{length_push, nil_from_length}
use Rattle.std.proofs.lemmas.List.Folds.{list_all-append}
use Rattle.std.proofs.lemmas.Bool.{and_parts, and_from, ltb-true, lt-ltb, eqb-true, eqb-false, eq-eqb, ne_eqb, both_ways}
use Rattle.model.specs.Lists.{upd, none_of, oldest, without_oldest, without, Pairs}
use Rattle.model.specs.Memory.{initial_cell}
use Rattle.model.specs.declared.memory.Cell.{Cell}
use Rattle.model.specs.declared.memory.StaleCopy.{StaleCopy}
use Rattle.model.specs.declared.memory.WaitingStore.{WaitingStore}
use Rattle.model.proofs.Lists.{upd_all, upd_same, length_without, length_without_oldest, none_left, none_pushed, oldest_pushed}
use Rattle.port.specs.Holdings.{Held, nothing_yet, serials, total, store_at, copy_at, landed, overwritten, may_keep, keeping, with_copies, after_put, after_direct, after_landing}
use Rattle.port.specs.Laws.{Sound}
use Rattle.port.proofs.Holdings.{serials_land, total_put, total_landing, direct_is_landing, may_still}
use Rattle.kinds.specs.Invariants.{stale_copy, fresher, stale_copies, Stale, Few}
use Rattle.kinds.specs.Kinds.{lands_directly, keeps_copies, choice_of, Plain}

-- ## Copies

all_without : {T : Type 0} (f test : T → Bool) (xs : List T) → list_all f xs ≡ true → list_all f (without test xs) ≡ true
all_without f test [] h = refl
all_without f test (x ∷ xs) h = go (test x) (all_without f test xs (and_parts (f x) (list_all f xs) h).1)
  where
    go : (b : Bool) → list_all f (without test xs) ≡ true → list_all f (cond b (without test xs) (x ∷ without test xs)) ≡ true
    go true r = r
    go false r = and_from (f x) (list_all f (without test xs)) (and_parts (f x) (list_all f xs) h).0 r

all_push : {T : Type 0} (f : T → Bool) (xs : List T) (y : T) → list_all f xs ≡ true → f y ≡ true → list_all f (xs ++ y ∷ []) ≡ true
all_push f xs y h e = list_all-append f xs (y ∷ []) ∙ and_from (list_all f xs) (f y && true) h (and_from (f y) true e refl)

-- the parts of stale_copies
record First (cell : ℕ → Cell) (ws : List WaitingStore) (c : StaleCopy) (cs : List StaleCopy) : Type 0 where
  stale : stale_copy cell ws c ≡ true
  rises : list_all (fresher c) cs ≡ true
  rest : stale_copies cell ws cs ≡ true

first : (cell : ℕ → Cell) (ws : List WaitingStore) (c : StaleCopy) (cs : List StaleCopy) → stale_copies cell ws (c ∷ cs) ≡ true → First cell ws c cs
first cell ws c cs h =
    let o = and_parts (stale_copy cell ws c) (list_all (fresher c) cs && stale_copies cell ws cs) h in
    let r = and_parts (list_all (fresher c) cs) (stale_copies cell ws cs) o.1 in
    record { stale = o.0; rises = r.0; rest = r.1 }

firstly : (cell : ℕ → Cell) (ws : List WaitingStore) (c : StaleCopy) (cs : List StaleCopy) → First cell ws c cs → stale_copies cell ws (c ∷ cs) ≡ true
firstly cell ws c cs f =
    and_from (stale_copy cell ws c) _ f.stale (and_from (list_all (fresher c) cs) (stale_copies cell ws cs) f.rises f.rest)

-- those that stay are as stale as they were
stay : (cell cell' : ℕ → Cell) (ws ws' : List WaitingStore) (test : StaleCopy → Bool) (cs : List StaleCopy)
    → ((c : StaleCopy) → test c ≡ false → stale_copy cell ws c ≡ true → stale_copy cell' ws' c ≡ true)
    → stale_copies cell ws cs ≡ true → stale_copies cell' ws' (without test cs) ≡ true
stay cell cell' ws ws' test [] g h = refl
stay cell cell' ws ws' test (c ∷ cs) g h = go (test c) refl (stay cell cell' ws ws' test cs g (first cell ws c cs h).rest)
  where
    go : (b : Bool) → test c ≡ b → stale_copies cell' ws' (without test cs) ≡ true → stale_copies cell' ws' (cond b (without test cs) (c ∷ without test cs)) ≡ true
    go true e r = r
    go false e r =
        let f = first cell ws c cs h in
        firstly cell' ws' c (without test cs) (record { stale = g c e f.stale; rises = all_without (fresher c) test cs f.rises; rest = r })

all_stay : (cell cell' : ℕ → Cell) (ws ws' : List WaitingStore) (cs : List StaleCopy) → ((c : StaleCopy) → stale_copy cell ws c ≡ true → stale_copy cell' ws' c ≡ true) → stale_copies cell ws cs ≡ true → stale_copies cell' ws' cs ≡ true
all_stay cell cell' ws ws' [] g h = refl
all_stay cell cell' ws ws' (c ∷ cs) g h =
    let f = first cell ws c cs h in
    firstly cell' ws' c cs (record { stale = g c f.stale; rises = f.rises; rest = all_stay cell cell' ws ws' cs g f.rest })

-- a cell that rises
rise : (cell : ℕ → Cell) (a : ℕ) (x : Cell) (ws : List WaitingStore) (c : StaleCopy) → x.serial ≡ (cell a).serial + 1 → stale_copy cell ws c ≡ true → stale_copy (upd cell a x) ws c ≡ true
rise cell a x ws c e h =
    let o = and_parts (ltb c.cell.serial (cell c.address).serial) (none_of (store_at c.address) ws) h in
    and_from _ (none_of (store_at c.address) ws) (lt-ltb c.cell.serial (upd cell a x c.address).serial (higher (ltb-true c.cell.serial (cell c.address).serial o.0))) o.1
  where
    higher : c.cell.serial < (cell c.address).serial → c.cell.serial < (upd cell a x c.address).serial
    higher l = upd_all (λ j y. c.cell.serial < (cell j).serial → c.cell.serial < y.serial) cell a x (λ m. omega arith) (λ j ne m. m) c.address l

-- the copy that a landing leaves
land : (cell : ℕ → Cell) (a : ℕ) (x : Cell) (ws : List WaitingStore) (cs : List StaleCopy) → x.serial ≡ (cell a).serial + 1 → none_of (store_at a) ws ≡ true → stale_copies cell ws cs ≡ true
    → stale_copies (upd cell a x) ws (cs ++ (record { address = a; cell = cell a }) ∷ []) ≡ true
land cell a x ws [] e n h =
    and_from (ltb (cell a).serial (upd cell a x a).serial && none_of (store_at a) ws) true
    (and_from _ (none_of (store_at a) ws) (lt-ltb (cell a).serial (upd cell a x a).serial (omega (arith, ap (λ (y : Cell). y.serial) (upd_same cell a x)))) n)
    refl
land cell a x ws (c ∷ cs) e n h =
    let f = first cell ws c cs h in
    firstly (upd cell a x) ws c (cs ++ new ∷ [])
    (record { stale = rise cell a x ws c e f.stale; rises = all_push (fresher c) cs new f.rises (last f.stale); rest = land cell a x ws cs e n f.rest })
  where
    new : StaleCopy
    new = record { address = a; cell = cell a }

    last : stale_copy cell ws c ≡ true → fresher c (record { address = a; cell = cell a }) ≡ true
    last o = go (eqb c.address a) refl
      where
        go : (b : Bool) → eqb c.address a ≡ b → (not b || ltb c.cell.serial (cell a).serial) ≡ true
        go false q = refl
        go true q =
            let l = ltb-true c.cell.serial (cell c.address).serial (and_parts (ltb c.cell.serial (cell c.address).serial) (none_of (store_at c.address) ws) o).0 in
            lt-ltb c.cell.serial (cell a).serial (omega (arith, ap (λ j. (cell j).serial) (eqb-true c.address a q)))

-- ## What every kind keeps

record Core (h : Held) : Type 0 where
  bounded : total h ≤ 64
  few : Few h
  stale : Stale h

core_fewer : (h : Held) (p : ℕ) (cs : List StaleCopy) → length cs ≤ length (h.copies p) → stale_copies h.cell (h.waits p) cs ≡ true → Core h → Core (with_copies h p cs)
core_fewer h p cs l s c =
    record {
      bounded = c.bounded;
      few = upd_all (λ j y. length y ≤ serials h.cell) h.copies p cs (omega (arith, c.few p)) (λ j ne. c.few j);
      stale = upd_all (λ j y. stale_copies h.cell (h.waits j) y ≡ true) h.copies p cs s (λ j ne. c.stale j);
    }

core_drop : (h : Held) (p : ℕ) (test : StaleCopy → Bool) → Core h → Core (with_copies h p (without test (h.copies p)))
core_drop h p test c =
    core_fewer h p (without test (h.copies p)) (length_without test (h.copies p))
    (stay h.cell h.cell (h.waits p) (h.waits p) test (h.copies p) (λ k e o. o) (c.stale p)) c

core_put : (h : Held) (p : ℕ) (w : WaitingStore) → p < 4 → total h < 64 → Core h → Core (after_put h p w)
core_put h p w lp room c =
    record {
      bounded = omega (arith, total_put h p w lp);
      few = upd_all (λ j y. length y ≤ serials h.cell) h.copies p left (omega (arith, c.few p, length_without (copy_at w.address) (h.copies p))) (λ j ne. c.few j);
      stale = λ j. go j (eqb j p);
    }
  where
    left : List StaleCopy
    left = without (copy_at w.address) (h.copies p)

    other : (k : StaleCopy) → copy_at w.address k ≡ false → stale_copy h.cell (h.waits p) k ≡ true → stale_copy h.cell (h.waits p ++ w ∷ []) k ≡ true
    other k n o =
        let q = and_parts (ltb k.cell.serial (h.cell k.address).serial) (none_of (store_at k.address) (h.waits p)) o in
        and_from (ltb k.cell.serial (h.cell k.address).serial) _ q.0
        (none_pushed (store_at k.address) (h.waits p) w q.1 (ne_eqb w.address k.address (λ e. eqb-false k.address w.address n (sym e))))

    go : (j : ℕ) (b : Bool) → stale_copies h.cell (cond b (h.waits p ++ w ∷ []) (h.waits j)) (cond b (without (copy_at w.address) (h.copies p)) (h.copies j)) ≡ true
    go j true = stay h.cell h.cell (h.waits p) (h.waits p ++ w ∷ []) (copy_at w.address) (h.copies p) other (c.stale p)
    go j false = c.stale j

core_landing : (h : Held) (p a : ℕ) (w : WaitingStore) (keep : ℕ → Bool) → p < 4 → a < 8 → oldest (store_at a) (h.waits p) ≡ Some w → ((q : ℕ) → keep q ≡ true → may_keep h p a q ≡ true) → Core h → Core (after_landing h p a w keep)
core_landing h p a w keep lp la found may c =
    record {
      bounded = omega (arith, total_landing h p a w keep lp la found, c.bounded);
      few = λ q. fewer q (keep q);
      stale = upd_all (λ q ws. stale_copies (upd h.cell a (landed (h.cell a) w)) ws (keeping keep (overwritten h a) h.copies q) ≡ true) h.waits p (without_oldest (store_at a) (h.waits p)) (taken p (h.waits p) (h.copies p) (kept p (keep p) refl)) (λ q ne. kept q (keep q) refl);
    }
  where
    one : serials (upd h.cell a (landed (h.cell a) w)) ≡ serials h.cell + 1
    one = serials_land h.cell a (landed (h.cell a) w) la refl

    fewer : (q : ℕ) (b : Bool) → length (cond b (h.copies q ++ overwritten h a ∷ []) (h.copies q)) ≤ serials (upd h.cell a (landed (h.cell a) w))
    fewer q true = omega (arith, serials_land h.cell a (landed (h.cell a) w) la refl, length_push (h.copies q) (overwritten h a), c.few q)
    fewer q false = omega (arith, serials_land h.cell a (landed (h.cell a) w) la refl, c.few q)

    kept : (q : ℕ) (b : Bool) → keep q ≡ b → stale_copies (upd h.cell a (landed (h.cell a) w)) (h.waits q) (cond b (h.copies q ++ overwritten h a ∷ []) (h.copies q)) ≡ true
    kept q true e =
        let m = (and_parts (ltb q 4) (not (eqb q p) && none_of (store_at a) (h.waits q)) (may q e)).1 in
        land h.cell a (landed (h.cell a) w) (h.waits q) (h.copies q) refl (and_parts (not (eqb q p)) (none_of (store_at a) (h.waits q)) m).1 (c.stale q)
    kept q false e = all_stay h.cell (upd h.cell a (landed (h.cell a) w)) (h.waits q) (h.waits q) (h.copies q) (λ k o. rise h.cell a (landed (h.cell a) w) (h.waits q) k refl o) (c.stale q)

    taken : (q : ℕ) (ws : List WaitingStore) (cs : List StaleCopy) → stale_copies (upd h.cell a (landed (h.cell a) w)) ws (keeping keep (overwritten h a) h.copies q) ≡ true → stale_copies (upd h.cell a (landed (h.cell a) w)) (without_oldest (store_at a) ws) (keeping keep (overwritten h a) h.copies q) ≡ true
    taken q ws cs s =
        all_stay (upd h.cell a (landed (h.cell a) w)) (upd h.cell a (landed (h.cell a) w)) ws (without_oldest (store_at a) ws) (keeping keep (overwritten h a) h.copies q)
        (λ k o. let m = and_parts (ltb k.cell.serial (upd h.cell a (landed (h.cell a) w) k.address).serial) (none_of (store_at k.address) ws) o in and_from _ _ m.0 (none_left (store_at k.address) (store_at a) ws m.1)) s

-- ## What each of the four keeps

pub record Good (k : ℕ) (h : Held) : Type 0 where
  pub bounded : total h ≤ 64
  pub few : Few h
  pub stale : Stale h
  pub plain : Plain k h

core : (k : ℕ) (h : Held) → Good k h → Core h
core k h g = record { bounded = g.bounded; few = g.few; stale = g.stale }

good : (k : ℕ) (h : Held) → Core h → Plain k h → Good k h
good k h c p = record { bounded = c.bounded; few = c.few; stale = c.stale; plain = p }

pub good_new : (k : ℕ) → Good k nothing_yet
good_new k = record { bounded = omega arith; few = λ p. omega arith; stale = λ p. refl; plain = (λ p e. refl, λ p e. refl) }

module _ (k : ℕ) (h : Held) (g : Good k h) where
  pub good_drop : (p : ℕ) (test : StaleCopy → Bool) → Good k (with_copies h p (without test (h.copies p)))
  good_drop p test =
      good k (with_copies h p (without test (h.copies p))) (core_drop h p test (core k h g))
      (g.plain.0, upd_all (λ j y. keeps_copies k ≡ false → length y ≡ 0) h.copies p (without test (h.copies p)) (λ e. omega (arith, g.plain.1 p e, length_without test (h.copies p))) (λ j ne. g.plain.1 j))

  pub good_clear : (p : ℕ) → Good k (with_copies h p [])
  good_clear p =
      good k (with_copies h p []) (core_fewer h p [] (omega arith) refl (core k h g))
      (g.plain.0, upd_all (λ j y. keeps_copies k ≡ false → length y ≡ 0) h.copies p [] (λ e. refl) (λ j ne. g.plain.1 j))

  pub good_put : (p : ℕ) (w : WaitingStore) → p < 4 → total h < 64 → lands_directly k ≡ false → Good k (after_put h p w)
  good_put p w lp room e =
      good k (after_put h p w) (core_put h p w lp room (core k h g))
      ((λ j d. absurd (both_ways (lands_directly k) e d)), (good_drop p (copy_at w.address)).plain.1)

  keeps_may : (p a q : ℕ) → (choice_of k h).keeps p a q ≡ true → may_keep h p a q ≡ true
  keeps_may p a q e = (and_parts (keeps_copies k) (may_keep h p a q) e).1

  -- no copy is kept where none may be
  none_kept : (p a : ℕ) (c : StaleCopy) (copies : ℕ → List StaleCopy) → ((j : ℕ) → keeps_copies k ≡ false → length (copies j) ≡ 0) → (j : ℕ) → keeps_copies k ≡ false → length (keeping ((choice_of k h).keeps p a) c copies j) ≡ 0
  none_kept p a c copies none j e = ap (λ b. length (cond (b && may_keep h p a j) (copies j ++ c ∷ []) (copies j))) e ∙ none j e

  pub good_landing : (p a : ℕ) (w : WaitingStore) → p < 4 → a < 8 → oldest (store_at a) (h.waits p) ≡ Some w → Good k (after_landing h p a w ((choice_of k h).keeps p a))
  good_landing p a w lp la found =
      good k (after_landing h p a w ((choice_of k h).keeps p a)) (core_landing h p a w ((choice_of k h).keeps p a) lp la found (keeps_may p a) (core k h g))
      (upd_all (λ j y. lands_directly k ≡ true → length y ≡ 0) h.waits p (without_oldest (store_at a) (h.waits p)) (λ e. omega (arith, g.plain.0 p e, length_without_oldest (store_at a) (h.waits p) w found)) (λ j ne. g.plain.0 j), none_kept p a (overwritten h a) h.copies g.plain.1)

  pub good_direct : (p : ℕ) (w : WaitingStore) → p < 4 → w.address < 8 → total h < 64 → lands_directly k ≡ true → Good k (after_direct h p w ((choice_of k h).keeps p w.address))
  good_direct p w lp la room e =
      good k (after_direct h p w ((choice_of k h).keeps p w.address))
      (subst Core (sym (direct_is_landing h p w ((choice_of k h).keeps p w.address) none))
      (core_landing (after_put h p w) p w.address w ((choice_of k h).keeps p w.address) lp la waits (λ q t. may_still h p w w.address q (keeps_may p w.address q t)) (core_put h p w lp room (core k h g))))
      (g.plain.0, none_kept p w.address (overwritten h w.address) (upd h.copies p (without (copy_at w.address) (h.copies p))) (good_drop p (copy_at w.address)).plain.1)
    where
      none : none_of (store_at w.address) (h.waits p) ≡ true
      none = ap (none_of (store_at w.address)) (nil_from_length (h.waits p) (g.plain.0 p e))

      waits : oldest (store_at w.address) (upd h.waits p (h.waits p ++ w ∷ []) p) ≡ Some w
      waits =
          ap (oldest (store_at w.address)) (upd_same h.waits p (h.waits p ++ w ∷ []))
          ∙ oldest_pushed (store_at w.address) (h.waits p) w (ap (none_of (store_at w.address)) (nil_from_length (h.waits p) (g.plain.0 p e))) (eq-eqb w.address w.address refl)

-- ## In the words of the port

module _ (cell : ℕ → Cell) (ws : List WaitingStore) where
  overwrites_from : (cs : List StaleCopy) → stale_copies cell ws cs ≡ true → AllByRecursion (λ c. c.cell.serial < (cell c.address).serial) cs
  overwrites_from [] h = tt
  overwrites_from (c ∷ cs) h =
      let f = first cell ws c cs h in
      (ltb-true c.cell.serial (cell c.address).serial (and_parts (ltb c.cell.serial (cell c.address).serial) (none_of (store_at c.address) ws) f.stale).0, overwrites_from cs f.rest)

  apart_from : (cs : List StaleCopy) → stale_copies cell ws cs ≡ true → AllByRecursion (λ c. none_of (store_at c.address) ws ≡ true) cs
  apart_from [] h = tt
  apart_from (c ∷ cs) h =
      let f = first cell ws c cs h in
      ((and_parts (ltb c.cell.serial (cell c.address).serial) (none_of (store_at c.address) ws) f.stale).1, apart_from cs f.rest)

  above_from : (c : StaleCopy) (cs : List StaleCopy) → list_all (fresher c) cs ≡ true → AllByRecursion (λ d. c.address ≡ d.address → c.cell.serial < d.cell.serial) cs
  above_from c [] h = tt
  above_from c (d ∷ cs) h = (above (and_parts (fresher c d) (list_all (fresher c) cs) h).0, above_from c cs (and_parts (fresher c d) (list_all (fresher c) cs) h).1)
    where
      above : fresher c d ≡ true → c.address ≡ d.address → c.cell.serial < d.cell.serial
      above f e = ltb-true c.cell.serial d.cell.serial (sym (ap (λ b. not b || ltb c.cell.serial d.cell.serial) (eq-eqb c.address d.address e)) ∙ f)

  rising_from : (cs : List StaleCopy) → stale_copies cell ws cs ≡ true → Pairs (λ c d. c.address ≡ d.address → c.cell.serial < d.cell.serial) cs
  rising_from [] h = tt
  rising_from (c ∷ cs) h = let f = first cell ws c cs h in (above_from c cs f.rises, rising_from cs f.rest)

pub sound_of : (h : Held) → total h ≤ 64 → Stale h → ((p : ℕ) → 4 ≤ p → (h.waits p ≡ []) × (h.copies p ≡ [])) → ((a : ℕ) → 8 ≤ a → h.cell a ≡ initial_cell) → Sound h
sound_of h bounded stale processors addresses =
    record {
      overwrites = λ p. overwrites_from h.cell (h.waits p) (h.copies p) (stale p);
      apart = λ p. apart_from h.cell (h.waits p) (h.copies p) (stale p);
      rising = λ p. rising_from h.cell (h.waits p) (h.copies p) (stale p);
      bounded = bounded;
      processors = processors;
      addresses = addresses;
    }
