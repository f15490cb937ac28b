-- Lemmas on functions changed at one place, and on searches and removals.
use Rattle.std.proofs.Common.{◌≡◌, ℕ, zero, suc, ◌+◌, ◌-◌, ◌<◌, ◌≤◌, Bool, true, false, cond, not, ◌&&◌, eqb, List, [], ◌∷◌, ◌++◌, length, get_or, set, Some, None, sym, refl, ap, ◌∙◌, subst, ⊎_elim, arith}
use mathlib.Core.Path.{fun_ext}
use Rattle.std.specs.List.{remove}
use Rattle.std.proofs.lemmas.List.{get_or-set_same, get_or-set_other}
use Rattle.std.proofs.lemmas.Bool.{cases_Bool, cond-true, cond-false, eqb-true, eqb-false, eq-eqb, ne_eqb, and_parts, and_from, not-true}
use Rattle.model.specs.Lists.{upd, sum_to, none_of, oldest, oldest_from, without_oldest, without}

-- ## A function changed at one place

-- what holds of v at k, and of f elsewhere, holds of the changed function everywhere
pub upd_all : {A : Type 0} (P : ℕ → A → Type 0) (f : ℕ → A) (k : ℕ) (v : A) → P k v → ((j : ℕ) → (j ≡ k → ⊥) → P j (f j)) → (j : ℕ) → P j (upd f k v j)
upd_all P f k v here there j = go (eqb j k) refl
  where
    go : (b : Bool) → eqb j k ≡ b → P j (cond b v (f j))
    go true e = subst (λ i. P i v) (sym (eqb-true j k e)) here
    go false e = there j (eqb-false j k e)

pub upd_same : {A : Type 0} (f : ℕ → A) (k : ℕ) (v : A) → upd f k v k ≡ v
upd_same f k v = ap (λ b. cond b v (f k)) (eq-eqb k k refl)

pub upd_other : {A : Type 0} (f : ℕ → A) (k : ℕ) (v : A) (j : ℕ) → (j ≡ k → ⊥) → upd f k v j ≡ f j
upd_other f k v j ne = ap (λ b. cond b v (f j)) (ne_eqb j k ne)

-- what is written back changes nothing
pub upd_self : {A : Type 0} (f : ℕ → A) (k : ℕ) → upd f k (f k) ≡ f
upd_self {A} f k = fun_ext (upd_all (λ j y. y ≡ f j) f k (f k) refl (λ j ne. refl))

-- a write to a list is a change of the function that it stands for
pub set_is_upd : {A : Type 0} (xs : List A) (k : ℕ) (v d : A) → k < length xs → ◌≡◌ {A = ℕ → A} (λ j. get_or (set xs k v) j d) (upd (λ j. get_or xs j d) k v)
set_is_upd {A} xs k v d lt =
    fun_ext (λ j. sym (upd_all (λ i y. y ≡ get_or (set xs k v) i d) (λ i. get_or xs i d) k v (sym (get_or-set_same xs k v d lt)) (λ i ne. sym (get_or-set_other xs k i v d ne)) j))

-- ## Sums

module _ {A : Type 0} (m : A → ℕ) where
  sum_past : (f : ℕ → A) (k : ℕ) (v : A) (n : ℕ) → n ≤ k → sum_to (λ j. m (upd f k v j)) n ≡ sum_to (λ j. m (f j)) n
  sum_past f k v zero h = refl
  sum_past f k v (suc n) h =
      let r = sum_past f k v n (omega arith) in
      let s : m (upd f k v n) ≡ m (f n) = ap m (upd_other f k v n (λ q. omega arith)) in
      omega arith

  -- one change of a sum's terms
  pub sum_upd : (f : ℕ → A) (k : ℕ) (v : A) (n : ℕ) → k < n → sum_to (λ j. m (upd f k v j)) n + m (f k) ≡ sum_to (λ j. m (f j)) n + m v
  sum_upd f k v zero h = absurd (omega arith)
  sum_upd f k v (suc n) h = go (eqb n k) refl (λ l. sum_upd f k v n l)
    where
      go : (b : Bool) → eqb n k ≡ b → (k < n → sum_to (λ j. m (upd f k v j)) n + m (f k) ≡ sum_to (λ j. m (f j)) n + m v) → (sum_to (λ j. m (upd f k v j)) n + m (cond (eqb n k) v (f n))) + m (f k) ≡ (sum_to (λ j. m (f j)) n + m (f n)) + m v
      go true e rec =
          let r = sum_past f k v n (omega (arith, eqb-true n k e)) in
          let s : m (cond (eqb n k) v (f n)) ≡ m v = ap (λ b. m (cond b v (f n))) e in
          let q : m (f n) ≡ m (f k) = ap (λ j. m (f j)) (eqb-true n k e) in
          omega arith
      go false e rec =
          let ne : n ≡ k → ⊥ = eqb-false n k e in
          let r = rec (less ne h) in
          let s : m (cond (eqb n k) v (f n)) ≡ m (f n) = ap (λ b. m (cond b v (f n))) e in
          omega arith
        where
          less : (n ≡ k → ⊥) → k < suc n → k < n
          less ne h = omega arith

  -- one term is at most the sum
  pub term_at_most : (f : ℕ → A) (k n : ℕ) → k < n → m (f k) ≤ sum_to (λ j. m (f j)) n
  term_at_most f k zero h = absurd (omega arith)
  term_at_most f k (suc n) h = go (eqb n k) refl (λ l. term_at_most f k n l)
    where
      go : (b : Bool) → eqb n k ≡ b → (k < n → m (f k) ≤ sum_to (λ j. m (f j)) n) → m (f k) ≤ sum_to (λ j. m (f j)) n + m (f n)
      go true e rec = let q : m (f n) ≡ m (f k) = ap (λ j. m (f j)) (eqb-true n k e) in omega arith
      go false e rec = let ne : n ≡ k → ⊥ = eqb-false n k e in omega (arith, rec (less ne h))
        where
          less : (n ≡ k → ⊥) → k < suc n → k < n
          less ne h = omega arith

-- ## Searches

module _ {T : Type 0} (test : T → Bool) where
  -- what a place that was found says
  pub record Found (n : ℕ) (xs : List T) (i : ℕ) : Type 0 where
    pub within : (i < n + length xs) × (n ≤ i)
    pub some : none_of test xs ≡ false
    pub there : (k : ℕ) (d : T) → i ≡ n + k → oldest test xs ≡ Some (get_or xs k d)
    pub left : (k : ℕ) → i ≡ n + k → without_oldest test xs ≡ remove xs k
    pub rest : (k : ℕ) → i ≡ n + k → without test (remove xs k) ≡ without test xs

  pub found : (n : ℕ) (xs : List T) (i : ℕ) → oldest_from test n xs ≡ Some i → Found n xs i
  found n [] i e = let z : ◌≡◌ {A = ℕ} 0 1 = cc in absurd (omega arith)
  found n (x ∷ xs) i e =
      ⊎_elim
      (λ q.
      let s = cond-true (test x) (Some n) (oldest_from test (n + 1) xs) q in
      let m : n ≡ i = cc in
      record {
        within = (omega arith, omega arith);
        some = ap (λ b. not b && none_of test xs) q;
        there = λ k d h. let z : 0 ≡ k = omega arith in
            cond-true (test x) (Some x) (oldest test xs) q ∙ ap (λ j. Some (get_or (x ∷ xs) j d)) z;
        left = λ k h. let z : 0 ≡ k = omega arith in
            cond-true (test x) xs (x ∷ without_oldest test xs) q ∙ ap (λ j. remove (x ∷ xs) j) z;
        rest = λ k h. let z : 0 ≡ k = omega arith in
            subst (λ j. without test (remove (x ∷ xs) j) ≡ without test (x ∷ xs)) z (sym (cond-true (test x) (without test xs) (x ∷ without test xs) q));
      })
      (λ q.
      let r = found (n + 1) xs i (sym (cond-false (test x) (Some n) (oldest_from test (n + 1) xs) q) ∙ e) in
      record {
        within = (omega (arith, r.within), omega (arith, r.within));
        some = ap (λ b. not b && none_of test xs) q ∙ r.some;
        there = λ k d h. let z : suc (k - 1) ≡ k = omega (arith, r.within) in
            cond-false (test x) (Some x) (oldest test xs) q ∙ r.there (k - 1) d (omega (arith, r.within))
            ∙ ap (λ j. Some (get_or (x ∷ xs) j d)) z;
        left = λ k h. let z : suc (k - 1) ≡ k = omega (arith, r.within) in
            cond-false (test x) xs (x ∷ without_oldest test xs) q ∙ ap (λ ys. x ∷ ys) (r.left (k - 1) (omega (arith, r.within)))
            ∙ ap (λ j. remove (x ∷ xs) j) z;
        rest = λ k h. let z : suc (k - 1) ≡ k = omega (arith, r.within) in
            subst (λ j. without test (remove (x ∷ xs) j) ≡ without test (x ∷ xs)) z
            (cond-false (test x) (without test (remove xs (k - 1))) (x ∷ without test (remove xs (k - 1))) q
            ∙ ap (λ ys. x ∷ ys) (r.rest (k - 1) (omega (arith, r.within)))
            ∙ sym (cond-false (test x) (without test xs) (x ∷ without test xs) q));
      })
      (cases_Bool (test x))

  -- what it says that none was found
  pub record Nowhere (xs : List T) : Type 0 where
    pub none : none_of test xs ≡ true
    pub there : oldest test xs ≡ None
    pub left : without_oldest test xs ≡ xs
    pub rest : without test xs ≡ xs

  pub nowhere : (n : ℕ) (xs : List T) → oldest_from test n xs ≡ None → Nowhere xs
  nowhere n [] e = record { none = refl; there = refl; left = refl; rest = refl }
  nowhere n (x ∷ xs) e =
      ⊎_elim
      (λ q.
      let s = cond-true (test x) (Some n) (oldest_from test (n + 1) xs) q in
      let z : ◌≡◌ {A = ℕ} 0 1 = cc in absurd (omega arith))
      (λ q.
      let r = nowhere (n + 1) xs (sym (cond-false (test x) (Some n) (oldest_from test (n + 1) xs) q) ∙ e) in
      record {
        none = ap (λ b. not b && none_of test xs) q ∙ r.none;
        there = cond-false (test x) (Some x) (oldest test xs) q ∙ r.there;
        left = cond-false (test x) xs (x ∷ without_oldest test xs) q ∙ ap (λ ys. x ∷ ys) r.left;
        rest = cond-false (test x) (without test xs) (x ∷ without test xs) q ∙ ap (λ ys. x ∷ ys) r.rest;
      })
      (cases_Bool (test x))

  pub length_without : (xs : List T) → length (without test xs) ≤ length xs
  length_without [] = omega arith
  length_without (x ∷ xs) = go (test x) (length_without xs)
    where
      go : (b : Bool) → length (without test xs) ≤ length xs → length (cond b (without test xs) (x ∷ without test xs)) ≤ suc (length xs)
      go true h = omega arith
      go false h = omega arith

-- ## What is pushed, and what is left

module _ {T : Type 0} (test : T → Bool) where
  -- one list without its oldest that passes is one shorter
  pub length_without_oldest : (xs : List T) (x : T) → oldest test xs ≡ Some x → length (without_oldest test xs) + 1 ≡ length xs
  length_without_oldest [] x e = let z : ◌≡◌ {A = ℕ} 0 1 = cc in absurd (omega arith)
  length_without_oldest (y ∷ xs) x e = go (test y) e (λ r. length_without_oldest xs x r)
    where
      go : (b : Bool) → cond b (Some y) (oldest test xs) ≡ Some x → (oldest test xs ≡ Some x → length (without_oldest test xs) + 1 ≡ length xs) → length (cond b xs (y ∷ without_oldest test xs)) + 1 ≡ length (y ∷ xs)
      go true r rec = omega arith
      go false r rec = omega (arith, rec r)

  pub oldest_passes : (xs : List T) (x : T) → oldest test xs ≡ Some x → test x ≡ true
  oldest_passes [] x e = let z : ◌≡◌ {A = ℕ} 0 1 = cc in absurd (omega arith)
  oldest_passes (y ∷ xs) x e = go (test y) refl e (λ r. oldest_passes xs x r)
    where
      go : (b : Bool) → test y ≡ b → cond b (Some y) (oldest test xs) ≡ Some x → (oldest test xs ≡ Some x → test x ≡ true) → test x ≡ true
      go true q r rec = let i : y ≡ x = cc in sym (ap test i) ∙ q
      go false q r rec = rec r

  -- the one pushed behind others that do not pass
  pub oldest_pushed : (xs : List T) (x : T) → none_of test xs ≡ true → test x ≡ true → oldest test (xs ++ x ∷ []) ≡ Some x
  oldest_pushed [] x n e = cond-true (test x) (Some x) None e
  oldest_pushed (y ∷ xs) x n e =
      let o = and_parts (not (test y)) (none_of test xs) n in
      cond-false (test y) (Some y) (oldest test (xs ++ x ∷ [])) (not-true (test y) o.0) ∙ oldest_pushed xs x o.1 e

  pub without_pushed : (xs : List T) (x : T) → none_of test xs ≡ true → test x ≡ true → without_oldest test (xs ++ x ∷ []) ≡ xs
  without_pushed [] x n e = cond-true (test x) [] (x ∷ []) e
  without_pushed (y ∷ xs) x n e =
      let o = and_parts (not (test y)) (none_of test xs) n in
      cond-false (test y) (xs ++ x ∷ []) (y ∷ without_oldest test (xs ++ x ∷ [])) (not-true (test y) o.0)
      ∙ ap (λ ys. y ∷ ys) (without_pushed xs x o.1 e)

  pub none_pushed : (xs : List T) (x : T) → none_of test xs ≡ true → test x ≡ false → none_of test (xs ++ x ∷ []) ≡ true
  none_pushed [] x n e = ap (λ b. not b && true) e
  none_pushed (y ∷ xs) x n e =
      let o = and_parts (not (test y)) (none_of test xs) n in
      and_from (not (test y)) (none_of test (xs ++ x ∷ [])) o.0 (none_pushed xs x o.1 e)

-- where none passes, none passes once the oldest of another test is gone
pub none_left : {T : Type 0} (test other : T → Bool) (xs : List T) → none_of test xs ≡ true → none_of test (without_oldest other xs) ≡ true
none_left test other [] n = refl
none_left test other (x ∷ xs) n = go (other x) (none_left test other xs (and_parts (not (test x)) (none_of test xs) n).1)
  where
    go : (b : Bool) → none_of test (without_oldest other xs) ≡ true → none_of test (cond b xs (x ∷ without_oldest other xs)) ≡ true
    go true r = (and_parts (not (test x)) (none_of test xs) n).1
    go false r = and_from (not (test x)) (none_of test (without_oldest other xs)) (and_parts (not (test x)) (none_of test xs) n).0 r
