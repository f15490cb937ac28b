-- Buffers as lists: what the relations on them say is what searches and removals answer.
use Rattle.std.proofs.Common.{◌≡◌, ℕ, ◌<◌, Bool, true, false, cond, not, ◌&&◌, eqb, ltb, ◌⊎◌, List, [], ◌∷◌, map, Some, None, Option, sym, refl, ap, ◌∙◌, subst, inl, inr, ⊎_elim, arith}
use mathlib.Core.Path.{fun_ext}
use Rattle.std.specs.List.{AllByRecursion}
use Rattle.std.proofs.lemmas.Bool.{cases_Bool, cond-true, cond-false, eqb-true, eqb-false, eq-eqb, ne_eqb, le-ltb, lt-ltb, and_parts, and_from, and_left, and_right, not-true, not_from_true, not_from_false, true≢false, both_ways}
use Rattle.model.specs.Lists.{upd, none_of, oldest, without_oldest, youngest_else, without, Pairs}
use Rattle.model.specs.declared.memory.StaleCopy.{StaleCopy}
use Rattle.model.proofs.Lists.{oldest_passes}
use Rattle.port.specs.Holdings.{older_copy, exact_copy}
use Rattle.kinds.specs.Published.{Buffer, Absent, absent_nil, absent_next, Present, present_here, present_later, Youngest, youngest_here, youngest_later, RmOldest, oldest_here, oldest_later, RmAddr, removes_nil, removes_this, removes_other, GetRandom, random_here, random_older, random_other}

-- ## Functions of what a list maps to

abbrev pub mapped : {T U : Type 0} → (T → U) → Option T → Option U
mapped f None = None
mapped f (Some x) = Some (f x)

module _ {T U : Type 0} (f : T → U) where
  pub through : (b : Bool) (x y : T) → f (cond b x y) ≡ cond b (f x) (f y)
  through true x y = refl
  through false x y = refl

  pub upd_through : (g : ℕ → T) (k : ℕ) (v : T) → ◌≡◌ {A = ℕ → U} (λ j. f (upd g k v j)) (upd (λ j. f (g j)) k (f v))
  upd_through g k v = fun_ext (λ j. through (eqb j k) v (g j))

module _ {T U : Type 0} (f : T → U) (test : U → Bool) where
  pub none_map : (xs : List T) → none_of test (map f xs) ≡ none_of (λ x. test (f x)) xs
  none_map [] = refl
  none_map (x ∷ xs) = ap (λ b. not (test (f x)) && b) (none_map xs)

  pub oldest_map : (xs : List T) → oldest test (map f xs) ≡ mapped f (oldest (λ x. test (f x)) xs)
  oldest_map [] = refl
  oldest_map (x ∷ xs) = ap (cond (test (f x)) (Some (f x))) (oldest_map xs) ∙ sym (through (mapped f) (test (f x)) (Some x) (oldest (λ x. test (f x)) xs))

  pub left_map : (xs : List T) → without_oldest test (map f xs) ≡ map f (without_oldest (λ x. test (f x)) xs)
  left_map [] = refl
  left_map (x ∷ xs) = ap (λ l. cond (test (f x)) (map f xs) (f x ∷ l)) (left_map xs) ∙ sym (through (map f) (test (f x)) xs (x ∷ without_oldest (λ x. test (f x)) xs))

  pub rest_map : (xs : List T) → without test (map f xs) ≡ map f (without (λ x. test (f x)) xs)
  rest_map [] = refl
  rest_map (x ∷ xs) = ap (λ l. cond (test (f x)) l (f x ∷ l)) (rest_map xs) ∙ sym (through (map f) (test (f x)) (without (λ x. test (f x)) xs) (x ∷ without (λ x. test (f x)) xs))

  pub youngest_map : (o : Option T) (xs : List T) → youngest_else test (mapped f o) (map f xs) ≡ mapped f (youngest_else (λ x. test (f x)) o xs)
  youngest_map o [] = refl
  youngest_map o (x ∷ xs) = ap (λ q. youngest_else test q (map f xs)) (sym (through (mapped f) (test (f x)) (Some x) o)) ∙ youngest_map (cond (test (f x)) (Some x) o) xs

-- ## Searches where none passes, and removals of what is not there

module _ {T : Type 0} (test : T → Bool) where
  pub rest_none : (xs : List T) → none_of test xs ≡ true → without test xs ≡ xs
  rest_none [] n = refl
  rest_none (x ∷ xs) n =
      let o = and_parts (not (test x)) (none_of test xs) n in
      cond-false (test x) (without test xs) (x ∷ without test xs) (not-true (test x) o.0) ∙ ap (λ l. x ∷ l) (rest_none xs o.1)

  pub youngest_none : (o : Option T) (xs : List T) → none_of test xs ≡ true → youngest_else test o xs ≡ o
  youngest_none o [] n = refl
  youngest_none o (x ∷ xs) n =
      let e = and_parts (not (test x)) (none_of test xs) n in
      youngest_none (cond (test x) (Some x) o) xs e.1 ∙ cond-false (test x) (Some x) o (not-true (test x) e.0)

  pub all_oldest : (P : T → Type 0) (xs : List T) (x : T) → AllByRecursion P xs → oldest test xs ≡ Some x → P x
  all_oldest P [] x h e = absurd cc
  all_oldest P (y ∷ xs) x h e = go (test y) e (λ r. all_oldest P xs x h.1 r)
    where
      go : (b : Bool) → cond b (Some y) (oldest test xs) ≡ Some x → (oldest test xs ≡ Some x → P x) → P x
      go true r rec = let i : y ≡ x = cc in subst P i h.0
      go false r rec = rec r

  pub none_from_all : (xs : List T) → AllByRecursion (λ x. test x ≡ false) xs → none_of test xs ≡ true
  none_from_all [] h = refl
  none_from_all (x ∷ xs) h = and_from (not (test x)) (none_of test xs) (not_from_false (test x) h.0) (none_from_all xs h.1)

-- ## Buffers

-- the entries of an address, and the word of one
abbrev pub entry_at : ℕ → ℕ × ℕ → Bool
entry_at a e = eqb e.0 a

abbrev pub word_else : Option (ℕ × ℕ) → ℕ → ℕ
word_else None m = m
word_else (Some e) m = e.1

module _ (a : ℕ) where
  pub absent_from : (b : Buffer) → none_of (entry_at a) b ≡ true → Absent a b
  absent_from [] n = absent_nil
  absent_from (e ∷ b) n =
      let o = and_parts (not (eqb e.0 a)) (none_of (entry_at a) b) n in
      absent_next e.0 e.1 b (eqb-false e.0 a (not-true (eqb e.0 a) o.0)) (absent_from b o.1)

  pub absent_is : {b : Buffer} → Absent a b → none_of (entry_at a) b ≡ true
  absent_is absent_nil = refl
  absent_is (absent_next c v rest ne r) = and_from (not (eqb c a)) (none_of (entry_at a) rest) (not_from_false (eqb c a) (ne_eqb c a ne)) (absent_is r)

  first_is : (b : Buffer) (v : ℕ) → none_of (entry_at a) ((a, v) ∷ b) ≡ false
  first_is b v = and_left (not (eqb a a)) (none_of (entry_at a) b) (not_from_true (eqb a a) (eq-eqb a a refl))

  pub present_from : (b : Buffer) → none_of (entry_at a) b ≡ false → Present a b
  present_from [] n = absurd (true≢false n)
  present_from (e ∷ b) n = go (eqb e.0 a) refl n (λ r. present_from b r)
    where
      go : (t : Bool) → eqb e.0 a ≡ t → (not t && none_of (entry_at a) b) ≡ false → (none_of (entry_at a) b ≡ false → Present a b) → Present a (e ∷ b)
      go true q n rec = subst (λ c. Present a ((c, e.1) ∷ b)) (sym (eqb-true e.0 a q)) (present_here e.1 b)
      go false q n rec = present_later e.0 e.1 b (rec n)

  pub present_is : {b : Buffer} → Present a b → none_of (entry_at a) b ≡ false
  present_is (present_here v rest) = first_is rest v
  present_is (present_later c v rest r) = and_right (not (eqb c a)) (none_of (entry_at a) rest) (present_is r)

  pub youngest_from : (b : Buffer) (o : Option (ℕ × ℕ)) (m : ℕ) → none_of (entry_at a) b ≡ false → Youngest a b (word_else (youngest_else (entry_at a) o b) m)
  youngest_from [] o m n = absurd (true≢false n)
  youngest_from (e ∷ b) o m n =
      ⊎_elim
      (λ q.
      let i : eqb e.0 a ≡ true = here (eqb e.0 a) (none_of (entry_at a) b) q n in
      let w : word_else (youngest_else (entry_at a) (cond (eqb e.0 a) (Some e) o) b) m ≡ e.1 =
      ap (λ y. word_else y m) (youngest_none (entry_at a) (cond (eqb e.0 a) (Some e) o) b q ∙ cond-true (eqb e.0 a) (Some e) o i) in
      subst (Youngest a (e ∷ b)) (sym w) (subst (λ c. Youngest a ((c, e.1) ∷ b) e.1) (sym (eqb-true e.0 a i)) (youngest_here e.1 b (absent_from b q))))
      (λ q. youngest_later e.0 e.1 b _ (youngest_from b (cond (eqb e.0 a) (Some e) o) m q))
      (cases_Bool (none_of (entry_at a) b))
    where
      here : (x y : Bool) → y ≡ true → (not x && y) ≡ false → x ≡ true
      here true y p q = refl
      here false y p q = absurd (both_ways y q p)

  pub youngest_is : {b : Buffer} {v : ℕ} → Youngest a b v → (o : Option (ℕ × ℕ)) (m : ℕ) → word_else (youngest_else (entry_at a) o b) m ≡ v
  youngest_is (youngest_here v rest n) o m =
      ap (λ y. word_else y m) (youngest_none (entry_at a) (cond (eqb a a) (Some (a, v)) o) rest (absent_is n) ∙ cond-true (eqb a a) (Some (a, v)) o (eq-eqb a a refl))
  youngest_is (youngest_later c w rest v r) o m = youngest_is r (cond (eqb c a) (Some (c, w)) o) m

  pub youngest_there : {b : Buffer} {v : ℕ} → Youngest a b v → none_of (entry_at a) b ≡ false
  youngest_there (youngest_here v rest n) = first_is rest v
  youngest_there (youngest_later c w rest v r) = and_right (not (eqb c a)) (none_of (entry_at a) rest) (youngest_there r)

  pub oldest_from_is : (b : Buffer) (e : ℕ × ℕ) → oldest (entry_at a) b ≡ Some e → RmOldest a b e.1 (without_oldest (entry_at a) b)
  oldest_from_is [] e q = absurd cc
  oldest_from_is (x ∷ b) e q = go (eqb x.0 a) refl q (λ r. oldest_from_is b e r)
    where
      go : (t : Bool) → eqb x.0 a ≡ t → cond t (Some x) (oldest (entry_at a) b) ≡ Some e → (oldest (entry_at a) b ≡ Some e → RmOldest a b e.1 (without_oldest (entry_at a) b)) → RmOldest a (x ∷ b) e.1 (cond t b (x ∷ without_oldest (entry_at a) b))
      go true m q rec =
          let i : x ≡ e = cc in
          subst (λ (y : ℕ × ℕ). RmOldest a (x ∷ b) y.1 b) i (subst (λ c. RmOldest a ((c, x.1) ∷ b) x.1 b) (sym (eqb-true x.0 a m)) (oldest_here x.1 b))
      go false m q rec = oldest_later x.0 x.1 b e.1 (without_oldest (entry_at a) b) (eqb-false x.0 a m) (rec q)

  pub oldest_is : {b : Buffer} {v : ℕ} {left : Buffer} → RmOldest a b v left → (oldest (entry_at a) b ≡ Some (a, v)) × (left ≡ without_oldest (entry_at a) b)
  oldest_is (oldest_here v rest) =
      let t = eq-eqb a a refl in
      (cond-true (eqb a a) (Some (a, v)) (oldest (entry_at a) rest) t, sym (cond-true (eqb a a) rest ((a, v) ∷ without_oldest (entry_at a) rest) t))
  oldest_is (oldest_later c w rest v left ne r) =
      let t = ne_eqb c a ne in
      let o = oldest_is r in
      (cond-false (eqb c a) (Some (c, w)) (oldest (entry_at a) rest) t ∙ o.0, ap (λ l. (c, w) ∷ l) o.1 ∙ sym (cond-false (eqb c a) rest ((c, w) ∷ without_oldest (entry_at a) rest) t))

  pub removed_from : (b : Buffer) → RmAddr a b (without (entry_at a) b)
  removed_from [] = removes_nil
  removed_from (e ∷ b) = go (eqb e.0 a) refl (removed_from b)
    where
      go : (t : Bool) → eqb e.0 a ≡ t → RmAddr a b (without (entry_at a) b) → RmAddr a (e ∷ b) (cond t (without (entry_at a) b) (e ∷ without (entry_at a) b))
      go true q r = subst (λ c. RmAddr a ((c, e.1) ∷ b) (without (entry_at a) b)) (sym (eqb-true e.0 a q)) (removes_this e.1 b (without (entry_at a) b) r)
      go false q r = removes_other e.0 e.1 b (without (entry_at a) b) (eqb-false e.0 a q) r

  pub removed_is : {b left : Buffer} → RmAddr a b left → left ≡ without (entry_at a) b
  removed_is removes_nil = refl
  removed_is (removes_this v rest left r) = removed_is r ∙ sym (cond-true (eqb a a) (without (entry_at a) rest) ((a, v) ∷ without (entry_at a) rest) (eq-eqb a a refl))
  removed_is (removes_other c v rest left ne r) =
      ap (λ l. (c, v) ∷ l) (removed_is r) ∙ sym (cond-false (eqb c a) (without (entry_at a) rest) ((c, v) ∷ without (entry_at a) rest) (ne_eqb c a ne))

-- ## Stale copies whose serials rise

abbrev pub copy_entry : StaleCopy → ℕ × ℕ
copy_entry c = (c.address, c.cell.word)

abbrev Rises : StaleCopy → StaleCopy → Type 0
Rises c d = c.address ≡ d.address → c.cell.serial < d.cell.serial

module _ (a : ℕ) where
  -- the three ways to a random entry
  abbrev Random : Buffer → ℕ → Buffer → Type 0
  Random [] v left = ⊥
  Random (e ∷ rest) v left =
      ((e.0 ≡ a) × (e.1 ≡ v) × (e ∷ rest ≡ left))
      ⊎ (((e.0 ≡ a) × GetRandom a rest v left)
      ⊎ ((e.0 ≡ a → ⊥) × (l : Buffer) × GetRandom a rest v l × (e ∷ l ≡ left)))

  random_ways : {b : Buffer} {v : ℕ} {left : Buffer} → GetRandom a b v left → Random b v left
  random_ways (random_here v rest) = inl (refl, refl, refl)
  random_ways (random_older w rest v left r) = inr (inl (refl, r))
  random_ways (random_other c w rest v left ne r) = inr (inr (ne, left, r, refl))

  -- no younger copy is older
  none_older : (c : StaleCopy) (cs : List StaleCopy) → c.address ≡ a → AllByRecursion (Rises c) cs → without (older_copy a c.cell.serial) cs ≡ cs
  none_older c cs at rises = rest_none (older_copy a c.cell.serial) cs (none cs rises)
    where
      none : (ds : List StaleCopy) → AllByRecursion (Rises c) ds → none_of (older_copy a c.cell.serial) ds ≡ true
      none [] r = refl
      none (d ∷ ds) r = and_from (not (older_copy a c.cell.serial d)) (none_of (older_copy a c.cell.serial) ds) (not_from_false (older_copy a c.cell.serial d) (go (eqb d.address a) refl)) (none ds r.1)
        where
          go : (t : Bool) → eqb d.address a ≡ t → (t && ltb d.cell.serial c.cell.serial) ≡ false
          go true q = let l = r.0 (at ∙ sym (eqb-true d.address a q)) in le-ltb d.cell.serial c.cell.serial (omega arith)
          go false q = refl

  -- the copies that stay once c, with some serial, is read
  abbrev Read : List StaleCopy → ℕ → StaleCopy → List StaleCopy → Type 0
  Read cs s c left = (oldest (exact_copy a s) cs ≡ Some c) × (without (older_copy a s) cs ≡ left)

  read_here : (c : StaleCopy) (cs : List StaleCopy) → c.address ≡ a → AllByRecursion (Rises c) cs → Read (c ∷ cs) c.cell.serial c (c ∷ cs)
  read_here c cs at rises =
      let s = c.cell.serial in
      let t = eq-eqb c.address a at in (
        cond-true (exact_copy a s c) (Some c) (oldest (exact_copy a s) cs) (and_from (eqb c.address a) (eqb s s) t (eq-eqb s s refl)),
        cond-false (older_copy a s c) (without (older_copy a s) cs) (c ∷ without (older_copy a s) cs) (and_right (eqb c.address a) (ltb s s) (le-ltb s s (omega arith)))
            ∙ ap (λ l. c ∷ l) (none_older c cs at rises),
      )

  read_older : (d : StaleCopy) (cs : List StaleCopy) (s : ℕ) (c : StaleCopy) (left : List StaleCopy) → d.address ≡ a → AllByRecursion (Rises d) cs → Read cs s c left → Read (d ∷ cs) s c left
  read_older d cs s c left at rises r =
      let p = and_parts (eqb c.address a) (eqb c.cell.serial s) (oldest_passes (exact_copy a s) cs c r.0) in
      let l : d.cell.serial < c.cell.serial = all_oldest (exact_copy a s) (Rises d) cs c rises r.0 (at ∙ sym (eqb-true c.address a p.0)) in
      let e : c.cell.serial ≡ s = eqb-true c.cell.serial s p.1 in (
        cond-false (exact_copy a s d) (Some d) (oldest (exact_copy a s) cs) (and_right (eqb d.address a) (eqb d.cell.serial s) (ne_eqb d.cell.serial s (λ q. omega arith))) ∙ r.0,
        cond-true (older_copy a s d) (without (older_copy a s) cs) (d ∷ without (older_copy a s) cs) (and_from (eqb d.address a) (ltb d.cell.serial s) (eq-eqb d.address a at) (lt-ltb d.cell.serial s (omega arith))) ∙ r.1,
      )

  read_other : (d : StaleCopy) (cs : List StaleCopy) (s : ℕ) (c : StaleCopy) (left : List StaleCopy) → (d.address ≡ a → ⊥) → Read cs s c left → Read (d ∷ cs) s c (d ∷ left)
  read_other d cs s c left ne r =
      let t = ne_eqb d.address a ne in (
        cond-false (exact_copy a s d) (Some d) (oldest (exact_copy a s) cs) (and_left (eqb d.address a) (eqb d.cell.serial s) t) ∙ r.0,
        cond-false (older_copy a s d) (without (older_copy a s) cs) (d ∷ without (older_copy a s) cs) (and_left (eqb d.address a) (ltb d.cell.serial s) t) ∙ ap (λ l. d ∷ l) r.1,
      )

  pub random_is : (cs : List StaleCopy) → Pairs Rises cs → (v : ℕ) (left : Buffer) → GetRandom a (map copy_entry cs) v left → (c : StaleCopy) × (oldest (exact_copy a c.cell.serial) cs ≡ Some c) × (c.cell.word ≡ v) × (map copy_entry (without (older_copy a c.cell.serial) cs) ≡ left)
  random_is [] rises v left g = absurd (random_ways g)
  random_is (d ∷ cs) rises v left g =
      ⊎_elim
      (λ w. let r = read_here d cs w.0 rises.0 in (d, r.0, w.1, ap (map copy_entry) r.1 ∙ w.2))
      (⊎_elim
      (λ w.
      let o = random_is cs rises.1 v left w.1 in
      let r = read_older d cs o.0.cell.serial o.0 _ w.0 rises.0 (o.1, refl) in
      (o.0, r.0, o.2, ap (map copy_entry) r.1 ∙ o.3))
      (λ w.
      let o = random_is cs rises.1 v w.1 w.2 in
      let r = read_other d cs o.0.cell.serial o.0 _ w.0 (o.1, refl) in
      (o.0, r.0, o.2, ap (map copy_entry) r.1 ∙ ap (λ l. copy_entry d ∷ l) o.3 ∙ w.3)))
      (random_ways g)

  abbrev Gets : List StaleCopy → StaleCopy → List StaleCopy → Type 0
  Gets cs c left = GetRandom a (map copy_entry cs) c.cell.word (map copy_entry left)

  pub random_from : (s : ℕ) (cs : List StaleCopy) → Pairs Rises cs → (c : StaleCopy) → oldest (exact_copy a s) cs ≡ Some c → GetRandom a (map copy_entry cs) c.cell.word (map copy_entry (without (older_copy a s) cs))
  random_from s [] rises c e = absurd cc
  random_from s (d ∷ cs) rises c e = go (eqb d.address a) refl (eqb d.cell.serial s) refl e (λ r. random_from s cs rises.1 c r)
    where
      go : (t : Bool) → eqb d.address a ≡ t → (u : Bool) → eqb d.cell.serial s ≡ u → cond (t && u) (Some d) (oldest (exact_copy a s) cs) ≡ Some c
          → (oldest (exact_copy a s) cs ≡ Some c → Gets cs c (without (older_copy a s) cs)) → Gets (d ∷ cs) c (without (older_copy a s) (d ∷ cs))
      go true p true q e rec =
          let i : d ≡ c = cc in
          let r = read_here d cs (eqb-true d.address a p) rises.0 in
          subst (λ (n : ℕ). Gets (d ∷ cs) c (without (older_copy a n) (d ∷ cs))) (eqb-true d.cell.serial s q)
          (subst (Gets (d ∷ cs) c) (sym r.1)
          (subst (λ (y : StaleCopy). Gets (d ∷ cs) y (d ∷ cs)) i
          (subst (λ b. GetRandom a ((b, d.cell.word) ∷ map copy_entry cs) d.cell.word ((b, d.cell.word) ∷ map copy_entry cs)) (sym (eqb-true d.address a p)) (random_here d.cell.word (map copy_entry cs)))))
      go true p false q e rec =
          let at = eqb-true d.address a p in
          let r = read_older d cs s c _ at rises.0 (e, refl) in
          subst (Gets (d ∷ cs) c) (sym r.1)
          (subst (λ b. GetRandom a ((b, d.cell.word) ∷ map copy_entry cs) c.cell.word (map copy_entry (without (older_copy a s) cs))) (sym at)
          (random_older d.cell.word (map copy_entry cs) c.cell.word (map copy_entry (without (older_copy a s) cs)) (rec e)))
      go false p u q e rec =
          let ne = eqb-false d.address a p in
          let r = read_other d cs s c _ ne (e, refl) in
          subst (Gets (d ∷ cs) c) (sym r.1)
          (random_other d.address d.cell.word (map copy_entry cs) c.cell.word (map copy_entry (without (older_copy a s) cs)) ne (rec e))
