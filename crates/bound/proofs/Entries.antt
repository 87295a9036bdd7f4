-- Entries: amounts that go into cells of a row, one after another; tallies over them; and what a cell of the row holds
-- after them. Assumes nothing.
use mathlib.Core.Path.{◌≡◌, refl, sym, ap, ◌∙◌, subst}
use mathlib.Core.Logic.{◌≢◌}
use mathlib.Core.List.{List, [], ◌∷◌, ◌++◌}
use mathlib.Core.Bool.{Bool, true, false, not, cond}
use Prim.Native.Nat.{ℕ, zero, suc, ◌+◌, ◌≤◌, ◌<◌}
use native.Mathlib.Nat.{le_refl, not-suc-le-zero, le_of_suc-le-suc, not-le_of_lt}
use native.Mathlib.Omega.{arith}
use lib.Dec.{T, ltb, eqb, eqb→eq, ltb→lt, nltb→le, lt→ltb, eqb_refl, eqb-suc-suc, eqb-zero-suc, eqb-suc-zero, T_not, not_T}
use lib.Ieee.Bits.{is_true, is_false}
use lib.ListN.{length, get_or, set}
use lib.Ieee.{Float, nan, binary32, fits, ne}
use lib.Ieee.Scale.{finite}
use Rattle.fraction.specs.Fraction.{Fraction, ◌≤ᶠ◌, ◌≈ᶠ◌, natᶠ, ◌+ᶠ◌, absᶠ, Within}
use Rattle.fraction.proofs.Linear.{at_le, at_eq, le_at, eq_at, add_at, over, lit}
use Rattle.fraction.proofs.Order.{refl≤, refl≈, trans≈, add_mono}
use Rattle.fraction.proofs.Ring.{cong_add}
use Rattle.fraction.proofs.Near.{within_add, within_self, sumᶠ}
use Rattle.fraction.proofs.Abs.{abs_nonneg, within_abs}
use Rattle.rounding.specs.Value.{val}
use Rattle.float.specs.Ops.{◌⊕◌, f0}
use Rattle.accumulation.proofs.Adding.{length_add}
use Rattle.accumulation.specs.Area.{Cells, add_of}

pub record Entry : Type 0 where
  pub cell : ℕ
  pub amount : Float

abbrev pub entry : ℕ → Float → Entry
entry cell amount = record { cell = cell; amount = amount }

-- each of them added to a row's cells, from the first on
unfoldable pub added : Cells → List Entry → Cells
added cells [] = cells
added cells (e ∷ es) = added (add_of cells e.cell e.amount) es

-- finite values of the format
abbrev pub Fine : List Entry → Type 0
Fine [] = Unit {0}
Fine (e ∷ es) = T (finite e.amount) × T (fits binary32 e.amount) × Fine es

-- nothing left of column k
abbrev pub From : ℕ → List Entry → Type 0
From k [] = Unit {0}
From k (e ∷ es) = (k ≤ e.cell) × From k es

-- the columns grow, from k on
abbrev pub Rising : ℕ → List Entry → Type 0
Rising k [] = Unit {0}
Rising k (e ∷ es) = (k ≤ e.cell) × Rising (suc e.cell) es

-- ---- a tally: the sum of a worth over the entries that a test takes
abbrev pub pick : Bool → Fraction → Fraction
pick true x = x
pick false x = natᶠ 0

abbrev pub tally : (Entry → Fraction) → (Entry → Bool) → List Entry → Fraction
tally g t [] = natᶠ 0
tally g t (e ∷ es) = pick (t e) (g e) +ᶠ tally g t es

abbrev pub count : (Entry → Bool) → List Entry → ℕ
count t [] = 0
count t (e ∷ es) = cond (t e) 1 0 + count t es

abbrev pub worth : Entry → Fraction
worth e = val e.amount

abbrev pub size : Entry → Fraction
size e = absᶠ (val e.amount)

-- at column i, left of column n, and anywhere
abbrev pub here : ℕ → Entry → Bool
here i e = eqb e.cell i

abbrev pub before : ℕ → Entry → Bool
before n e = ltb e.cell n

abbrev pub anywhere : Entry → Bool
anywhere e = true

-- what entries at or left of column c come to, and all their sizes
unfoldable pub prefix : List Entry → ℕ → Fraction
prefix l c = tally worth (before (suc c)) l

unfoldable pub total : List Entry → Fraction
total l = tally size anywhere l

-- ---- over a list of anything: how many a test takes, and the sum of a worth
abbrev pub number : {A : Type 0} → (A → Bool) → List A → ℕ
number t [] = 0
number t (x ∷ l) = cond (t x) 1 0 + number t l

abbrev pub sum_over : {A : Type 0} → (A → Fraction) → List A → Fraction
sum_over g [] = natᶠ 0
sum_over g (x ∷ l) = g x +ᶠ sum_over g l

pub number_le : {A : Type 0} (t : A → Bool) (l : List A) → number t l ≤ length l
number_le t [] = omega arith
number_le t (x ∷ l) = go (t x) (number_le t l)
  where
    go : (b : Bool) → number t l ≤ length l → cond b 1 0 + number t l ≤ suc (length l)
    go true h = omega arith
    go false h = omega arith

-- ---- laws of tallies
pub plus_none : (x : Fraction) → x +ᶠ natᶠ 0 ≈ᶠ x
plus_none x = over (x ∷ natᶠ 0 ∷ []) (λ N n X O. eq_at N (add_at N X O) X n (omega (arith, O.is)))

pub none_plus : (x : Fraction) → natᶠ 0 +ᶠ x ≈ᶠ x
none_plus x = over (x ∷ natᶠ 0 ∷ []) (λ N n X O. eq_at N (add_at N O X) X n (omega (arith, O.is)))

pick_nonneg : (b : Bool) (x : Fraction) → natᶠ 0 ≤ᶠ x → natᶠ 0 ≤ᶠ pick b x
pick_nonneg true x h = h
pick_nonneg false x h = refl≤ (natᶠ 0)

pub tally_nonneg : (t : Entry → Bool) (l : List Entry) → natᶠ 0 ≤ᶠ tally size t l
tally_nonneg t [] = refl≤ (natᶠ 0)
tally_nonneg t (e ∷ es) =
    let p = pick_nonneg (t e) (size e) (abs_nonneg (val e.amount)) in
    let q = tally_nonneg t es in
    over (natᶠ 0 ∷ pick (t e) (size e) ∷ tally size t es ∷ []) (λ N n O P Q. le_at N O (add_at N P Q) n (omega (arith, O.is, at_le N O P p, at_le N O Q q)))

-- a tally of values is at most that of sizes
pub tally_within : (t : Entry → Bool) (l : List Entry) → Within (tally worth t l) (tally size t l)
tally_within t [] = within_self (lit tt)
tally_within t (e ∷ es) = within_add (go (t e)) (tally_within t es)
  where
    go : (b : Bool) → Within (pick b (worth e)) (pick b (size e))
    go true = within_abs (val e.amount)
    go false = within_self (lit tt)

pub tally_append : (g : Entry → Fraction) (t : Entry → Bool) (l m : List Entry) → tally g t (l ++ m) ≈ᶠ tally g t l +ᶠ tally g t m
tally_append g t [] m = over (natᶠ 0 ∷ tally g t m ∷ []) (λ N n O M. eq_at N M (add_at N O M) n (omega (arith, O.is)))
tally_append g t (e ∷ es) m =
    let i = tally_append g t es m in
    over (pick (t e) (g e) ∷ tally g t (es ++ m) ∷ tally g t es ∷ tally g t m ∷ []) (λ N n P Q A B. eq_at N (add_at N P Q) (add_at N (add_at N P A) B) n (omega (arith, at_eq N Q (add_at N A B) i)))

pub count_append : (t : Entry → Bool) (l m : List Entry) → count t (l ++ m) ≡ count t l + count t m
count_append t [] m = omega arith
count_append t (e ∷ es) m = omega (arith, count_append t es m)

pub fine_append : (l m : List Entry) → Fine l → Fine m → Fine (l ++ m)
fine_append [] m p q = q
fine_append (e ∷ es) m p q = (p.0, p.1, fine_append es m p.2 q)

-- a wider test
pub tally_wider : (t u : Entry → Bool) (l : List Entry) → ((e : Entry) → T (t e) → T (u e)) → tally size t l ≤ᶠ tally size u l
tally_wider t u [] h = refl≤ (natᶠ 0)
tally_wider t u (e ∷ es) h = add_mono (go (t e) (u e) (h e)) (tally_wider t u es h)
  where
    go : (a b : Bool) → (T a → T b) → pick a (size e) ≤ᶠ pick b (size e)
    go true true k = refl≤ (size e)
    go true false k = absurd (k tt)
    go false b k = pick_nonneg b (size e) (abs_nonneg (val e.amount))

-- ---- which entries a column counts
pub pick_in : (i n : ℕ) (x : Fraction) → i < n → pick (ltb i n) x ≈ᶠ x
pick_in i n x h = go (ltb i n) (nltb→le i n)
  where
    go : (b : Bool) → (T (not b) → n ≤ i) → pick b x ≈ᶠ x
    go true g = refl≈ x
    go false g = absurd (not-le_of_lt h (g tt))

pub pick_out : (i n : ℕ) (x : Fraction) → n ≤ i → pick (ltb i n) x ≈ᶠ natᶠ 0
pick_out i n x h = go (ltb i n) (ltb→lt i n)
  where
    go : (b : Bool) → (T b → i < n) → pick b x ≈ᶠ natᶠ 0
    go true g = absurd (not-le_of_lt (g tt) h)
    go false g = refl≈ (natᶠ 0)

-- entries from column n on count for none left of it
pub from_none : (g : Entry → Fraction) (n : ℕ) (l : List Entry) → From n l → tally g (before n) l ≈ᶠ natᶠ 0
from_none g n [] h = refl≈ (natᶠ 0)
from_none g n (e ∷ es) h =
    over (pick (before n e) (g e) ∷ tally g (before n) es ∷ natᶠ 0 ∷ []) (λ N m P Q O.
    eq_at N (add_at N P Q) O m (omega (arith, O.is, at_eq N P O (pick_out e.cell n (g e) h.0), at_eq N Q O (from_none g n es h.1))))

-- ---- columns that grow
pub rising_weaken : (j k : ℕ) (l : List Entry) → j ≤ k → Rising k l → Rising j l
rising_weaken j k [] h r = tt
rising_weaken j k (e ∷ es) h r = (omega (arith, r.0), r.1)

pub rising_from : (j k : ℕ) (l : List Entry) → j ≤ k → Rising k l → From j l
rising_from j k [] h r = tt
rising_from j k (e ∷ es) h r = (omega (arith, r.0), rising_from j (suc e.cell) es (omega (arith, r.0)) r.1)

-- an entry at or left of column c counts there, and entries right of it do not
pub prefix_in : (e : Entry) (l : List Entry) (c : ℕ) → e.cell ≤ c → prefix (e ∷ l) c ≈ᶠ val e.amount +ᶠ prefix l c
unfolding prefix
prefix_in e l c h = cong_add (pick_in e.cell (suc c) (val e.amount) (omega arith)) (refl≈ (tally worth (before (suc c)) l))

pub prefix_none : (l : List Entry) (c : ℕ) → Rising (suc c) l → prefix l c ≈ᶠ natᶠ 0
unfolding prefix
prefix_none l c h = from_none worth (suc c) l (rising_from (suc c) (suc c) l (le_refl (suc c)) h)

pub prefix_one : (e : Entry) (l : List Entry) (c : ℕ) → e.cell ≤ c → Rising (suc c) l → prefix (e ∷ l) c ≈ᶠ val e.amount
prefix_one e l c h k = trans≈ (prefix_in e l c h) (trans≈ (cong_add (refl≈ (val e.amount)) (prefix_none l c k)) (plus_none (val e.amount)))

pub prefix_append : (l m : List Entry) (c : ℕ) → prefix (l ++ m) c ≈ᶠ prefix l c +ᶠ prefix m c
unfolding prefix
prefix_append l m c = tally_append worth (before (suc c)) l m

rising_none : (i k : ℕ) (l : List Entry) → i < k → Rising k l → count (here i) l ≡ 0
rising_none i k [] h r = refl
rising_none i k (e ∷ es) h r = go (eqb e.cell i) (eqb→eq e.cell i) (rising_none i (suc e.cell) es (omega (arith, r.0)) r.1)
  where
    go : (b : Bool) → (T b → e.cell ≡ i) → count (here i) es ≡ 0 → cond b 1 0 + count (here i) es ≡ 0
    go true g z = omega (arith, g tt, r.0)
    go false g z = omega (arith, z)

-- hold each cell at most once
pub rising_once : (i k : ℕ) (l : List Entry) → Rising k l → count (here i) l ≤ 1
rising_once i k [] r = omega arith
rising_once i k (e ∷ es) r = go (eqb e.cell i) (eqb→eq e.cell i) (rising_once i (suc e.cell) es r.1)
  where
    go : (b : Bool) → (T b → e.cell ≡ i) → count (here i) es ≤ 1 → cond b 1 0 + count (here i) es ≤ 1
    go true g z = omega (arith, rising_none i (suc e.cell) es (omega (arith, g tt)) r.1)
    go false g z = omega (arith, z)

-- ---- sums over cells
sum_add : (n : ℕ) (f g : ℕ → Fraction) → sumᶠ n (λ i. f i +ᶠ g i) ≈ᶠ sumᶠ n f +ᶠ sumᶠ n g
unfolding sumᶠ
sum_add zero f g = over (natᶠ 0 ∷ []) (λ N n O. eq_at N O (add_at N O O) n (omega (arith, O.is)))
sum_add (suc n) f g =
    let i = sum_add n f g in
    over (sumᶠ n (λ i. f i +ᶠ g i) ∷ sumᶠ n f ∷ sumᶠ n g ∷ f n ∷ g n ∷ []) (λ N m S F G X Y.
    eq_at N (add_at N S (add_at N X Y)) (add_at N (add_at N F X) (add_at N G Y)) m (omega (arith, at_eq N S (add_at N F G) i)))

sum_none : (n : ℕ) → sumᶠ n (λ i. natᶠ 0) ≈ᶠ natᶠ 0
unfolding sumᶠ
sum_none zero = refl≈ (natᶠ 0)
sum_none (suc n) = let i = sum_none n in over (sumᶠ n (λ i. natᶠ 0) ∷ natᶠ 0 ∷ []) (λ N m S O. eq_at N (add_at N S O) O m (omega (arith, O.is, at_eq N S O i)))

eqb_no : (j n : ℕ) → (j ≡ n → ⊥) → eqb j n ≡ false
eqb_no j n f = is_false (eqb j n) (not_T (eqb j n) (λ t. f (eqb→eq j n t)))

ltb_yes : (j n : ℕ) → j < n → ltb j n ≡ true
ltb_yes j n h = is_true (ltb j n) (lt→ltb j n h)

ltb_no : (j n : ℕ) → n ≤ j → ltb j n ≡ false
ltb_no j n h = is_false (ltb j n) (not_T (ltb j n) (λ t. not-le_of_lt (ltb→lt j n t) h))

-- one term more
pick_step : (n j : ℕ) (x : Fraction) → sumᶠ n (λ i. pick (eqb j i) x) ≈ᶠ pick (ltb j n) x → sumᶠ n (λ i. pick (eqb j i) x) +ᶠ pick (eqb j n) x ≈ᶠ pick (ltb j (suc n)) x
pick_step n j x i = go (eqb j n) refl (ltb j n) refl
  where
    put : (a b c : Bool) → eqb j n ≡ a → ltb j n ≡ b → ltb j (suc n) ≡ c → pick b x +ᶠ pick a x ≈ᶠ pick c x → sumᶠ n (λ i. pick (eqb j i) x) +ᶠ pick (eqb j n) x ≈ᶠ pick (ltb j (suc n)) x
    put a b c p q r h =
        let sum = sumᶠ n (λ i. pick (eqb j i) x) in
        let e = subst (λ (z : Bool). sumᶠ n (λ i. pick (eqb j i) x) ≈ᶠ pick z x) q i in
        rw (p, r) (trans≈ (over (sum ∷ pick b x ∷ pick a x ∷ []) (λ N m S B A. eq_at N (add_at N S A) (add_at N B A) m (omega (arith, at_eq N S B e)))) h)

    go : (a : Bool) → eqb j n ≡ a → (b : Bool) → ltb j n ≡ b → sumᶠ n (λ i. pick (eqb j i) x) +ᶠ pick (eqb j n) x ≈ᶠ pick (ltb j (suc n)) x
    go true p true q = absurd (clash (eqb→eq j n (subst T (sym p) tt)) (ltb→lt j n (subst T (sym q) tt)))
      where
        clash : j ≡ n → j < n → ⊥
        clash h k = omega arith
    go true p false q = put true false true p q (ltb_yes j (suc n) (omega (arith, eqb→eq j n (subst T (sym p) tt)))) (none_plus x)
    go false p true q = put false true true p q (ltb_yes j (suc n) (omega (arith, ltb→lt j n (subst T (sym q) tt)))) (plus_none x)
    go false p false q = put false false false p q (ltb_no j (suc n) (omega (arith, nltb→le j n (subst (λ (z : Bool). T (not z)) (sym q) tt), apart))) (plus_none (natᶠ 0))
      where
        apart : j ≢ n
        apart h = T_not (eqb j n) (subst (λ (z : Bool). T (not z)) (sym p) tt) (subst (λ (z : ℕ). T (eqb j z)) h (eqb_refl j))

-- only the cell's own term is there
sum_pick : (n j : ℕ) (x : Fraction) → sumᶠ n (λ i. pick (eqb j i) x) ≈ᶠ pick (ltb j n) x
unfolding sumᶠ
sum_pick zero j x = rw (ltb_no j 0 (omega arith)) (refl≈ (natᶠ 0))
sum_pick (suc n) j x = pick_step n j x (sum_pick n j x)

-- ---- the cells' tallies add up to that of all left of n
pub swap : (g : Entry → Fraction) (n : ℕ) (l : List Entry) → sumᶠ n (λ i. tally g (here i) l) ≈ᶠ tally g (before n) l
swap g n [] = sum_none n
swap g n (e ∷ es) =
    trans≈ (sum_add n (λ i. pick (eqb e.cell i) (g e)) (λ i. tally g (here i) es))
    (over (sumᶠ n (λ i. pick (eqb e.cell i) (g e)) ∷ sumᶠ n (λ i. tally g (here i) es) ∷ pick (ltb e.cell n) (g e) ∷ tally g (before n) es ∷ [])
    (λ N m A B C D. eq_at N (add_at N A B) (add_at N C D) m (omega (arith, at_eq N A C (sum_pick n e.cell (g e)), at_eq N B D (swap g n es)))))

-- ---- what a cell of the row holds after the entries
abbrev pub bump : Bool → Float → Float → Float
bump true a f = cond (ne f f0) (a ⊕ f) a
bump false a f = a

abbrev pub area : ℕ → Float → List Entry → Float
area i a [] = a
area i a (e ∷ es) = area i (bump (eqb e.cell i) a e.amount) es

get_d_set : {A : Type 0} (l : List A) (j i : ℕ) (x d : A) → j < length l → get_or (set l j x) i d ≡ cond (eqb j i) x (get_or l i d)
get_d_set [] j i x d h = absurd (not-suc-le-zero h)
get_d_set (y ∷ l) zero zero x d h = refl
get_d_set (y ∷ l) zero (suc i) x d h = rw (eqb-zero-suc i)
get_d_set (y ∷ l) (suc j) zero x d h = rw (eqb-suc-zero j)
get_d_set (y ∷ l) (suc j) (suc i) x d h = rw (eqb-suc-suc j i) (get_d_set l j i x d (le_of_suc-le-suc h))

add_get : (cells : Cells) (j i : ℕ) (f : Float) → i < length cells → get_or (add_of cells j f) i nan ≡ bump (eqb j i) (get_or cells i nan) f
unfolding add_of
add_get cells j i f h = go (ltb j (length cells)) refl (ne f f0) refl
  where
    idle : (z b : Bool) → ne f f0 ≡ b → b ≡ false → get_or cells i nan ≡ bump z (get_or cells i nan) f
    idle true b p q = rw (p ∙ q)
    idle false b p q = refl

    moved : (z : Bool) → eqb j i ≡ z → ne f f0 ≡ true
        → get_or (set cells j (get_or cells j nan ⊕ f)) i nan ≡ cond z (get_or cells j nan ⊕ f) (get_or cells i nan) → get_or (set cells j (get_or cells j nan ⊕ f)) i nan ≡ bump z (get_or cells i nan) f
    moved true e p q = q ∙ rw (p, eqb→eq j i (subst T (sym e) tt))
    moved false e p q = q

    go : (a : Bool) → ltb j (length cells) ≡ a → (b : Bool) → ne f f0 ≡ b → get_or (cond a (cond b (set cells j (get_or cells j nan ⊕ f)) cells) cells) i nan ≡ bump (eqb j i) (get_or cells i nan) f
    go true p true q = moved (eqb j i) refl q (get_d_set cells j i (get_or cells j nan ⊕ f) nan (ltb→lt j (length cells) (subst T (sym p) tt)))
    go true p false q = idle (eqb j i) false q refl
    go false p b q = rw (eqb_no j i (λ e. clash j i (length cells) h e (nltb→le j (length cells) (subst (λ (z : Bool). T (not z)) (sym p) tt))))
      where
        clash : (j i n : ℕ) → i < n → j ≡ i → n ≤ j → ⊥
        clash j i n h e k = omega arith

pub added_length : (cells : Cells) (l : List Entry) → length (added cells l) ≡ length cells
unfolding added
added_length cells [] = refl
added_length cells (e ∷ es) = added_length (add_of cells e.cell e.amount) es ∙ length_add cells e.cell e.amount

pub added_get : (cells : Cells) (l : List Entry) (i : ℕ) → i < length cells → get_or (added cells l) i nan ≡ area i (get_or cells i nan) l
unfolding added
added_get cells [] i h = refl
added_get cells (e ∷ es) i h =
    added_get (add_of cells e.cell e.amount) es i (omega (arith, length_add cells e.cell e.amount))
    ∙ ap (λ (z : Float). area i z es) (add_get cells e.cell i e.amount h)

pub added_append : (cells : Cells) (l m : List Entry) → added cells (l ++ m) ≡ added (added cells l) m
unfolding added
added_append cells [] m = refl
added_append cells (e ∷ es) m = added_append (add_of cells e.cell e.amount) es m
