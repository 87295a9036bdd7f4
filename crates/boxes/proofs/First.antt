-- The first place is the lowest whose box passes (specs/Laws.antt, LowestPlace). Assumes nothing.
use Prim.Native.Nat.{ℕ, zero, suc, ◌+◌, ◌<◌}
use mathlib.Core.Path.{◌≡◌, refl, sym, subst}
use mathlib.Core.Bool.{Bool, true, false, true≢false, cond}
use mathlib.Core.List.{List, [], ◌∷◌}
use native.Mathlib.Nat.{not-suc-le-zero, le_of_suc-le-suc}
use native.Mathlib.Omega.{arith}
use lib.ListN.{length}
use Rattle.std.specs.Prelude.{Option, Some, None}
use Rattle.shape.specs.declared.RoundedBox.{RoundedBox}
use Rattle.boxes.specs.First.{first_from}
use Rattle.boxes.specs.Laws.{passes_at, LowestPlace}

-- the place k of boxes that stand at place i and after it is place j of theirs, and the lowest
record Lowest (bs : List RoundedBox) (test : RoundedBox → Bool) (i k : ℕ) : Type 0 where
  j : ℕ
  place : i + j ≡ k
  holds : passes_at bs test j ≡ true
  lowest : (m : ℕ) → m < j → passes_at bs test m ≡ false

-- what is found among boxes that stand at place i and after it
abbrev Told : List RoundedBox → (RoundedBox → Bool) → ℕ → Option ℕ → Type 0
Told bs test i (Some k) = Lowest bs test i k
Told bs test i None = (k : ℕ) → passes_at bs test k ≡ false

module _ (b : RoundedBox) (bs : List RoundedBox) (test : RoundedBox → Bool) (e : test b ≡ false) where
  untold : (k : ℕ) → ((m : ℕ) → m < k → passes_at bs test m ≡ false) → (m : ℕ) → m < suc k → passes_at (b ∷ bs) test m ≡ false
  untold k h zero l = e
  untold k h (suc m) l = h m (le_of_suc-le-suc l)

  none : ((k : ℕ) → passes_at bs test k ≡ false) → (k : ℕ) → passes_at (b ∷ bs) test k ≡ false
  none h zero = e
  none h (suc k) = h k

  later : (i : ℕ) (r : Option ℕ) → Told bs test (suc i) r → Told (b ∷ bs) test i r
  later i (Some k) h = let p : suc i + h.j ≡ k = h.place in record {
    j = suc h.j;
    place = omega arith;
    holds = h.holds;
    lowest = untold h.j h.lowest;
  }
  later i None h = none h

first_from_lem : (i : ℕ) (bs : List RoundedBox) (test : RoundedBox → Bool) → Told bs test i (first_from i bs test)
first_from_lem i [] test = λ k. refl
first_from_lem i (b ∷ bs) test = go (test b) refl (first_from_lem (suc i) bs test)
  where
    go : (t : Bool) → test b ≡ t → Told bs test (suc i) (first_from (suc i) bs test)
        → Told (b ∷ bs) test i (cond t (Some i) (first_from (suc i) bs test))
    go true e h = record { j = 0; place = omega arith; holds = e; lowest = λ m l. absurd (not-suc-le-zero l) }
    go false e h = later b bs test e i (first_from (suc i) bs test) h

inside : (bs : List RoundedBox) (test : RoundedBox → Bool) (k : ℕ) → passes_at bs test k ≡ true → k < length bs
inside [] test k e = absurd (true≢false (sym e))
inside (b ∷ bs) test zero e = omega arith
inside (b ∷ bs) test (suc k) e = let l = inside bs test k e in omega arith

told : (bs : List RoundedBox) (test : RoundedBox → Bool) (r : Option ℕ) → first_from 0 bs test ≡ r → Told bs test 0 r
told bs test r e = subst (Told bs test 0) e (first_from_lem 0 bs test)

pub lowest_place : LowestPlace
lowest_place = record {
  within = inside;
  holds = λ bs test k e. let h = told bs test (Some k) e in let p : h.j ≡ k = omega arith in rw p at h.holds;
  lowest = λ bs test k e. let h = told bs test (Some k) e in let p : h.j ≡ k = omega arith in rw p at h.lowest;
  nowhere = λ bs test e. told bs test None e;
}
