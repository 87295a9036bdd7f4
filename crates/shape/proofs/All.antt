-- A loop that asks a test of each number below n, over any test: what it knows at number i, and what it answers.
-- Assumes nothing.
use mathlib.Core.Path.{◌≡◌, refl, sym}
use mathlib.Core.Bool.{Bool, true, false, ◌&&◌}
use Prim.Native.Nat.{ℕ, ◌+◌, ◌≤◌, ◌<◌}
use native.Mathlib.Decide.{le_ind}
use native.Mathlib.Nat.{le_antisymm}
use native.Mathlib.Numerals.{add-one}
use native.Mathlib.Omega.{arith}
use Rattle.shape.specs.Outline.{all_below}

-- each number below i passed
pub record Passed (test : ℕ → Bool) (n i : ℕ) : Type 0 where
  pub most : i ≤ n
  pub all : all_below test i ≡ true

pub none_yet : {test : ℕ → Bool} {n : ℕ} → Passed test n 0
unfolding all_below
none_yet = record { most = omega arith; all = refl }

pub one_more : {test : ℕ → Bool} {n i : ℕ} → Passed test n i → i < n → test i ≡ true → Passed test n (i + 1)
unfolding all_below
one_more {test} {n} {i} p l h = record { most = omega arith; all = rw (add-one i, p.all, h) }

-- a number that fails
pub one_out : {test : ℕ → Bool} {n i : ℕ} → Passed test n i → i < n → test i ≡ false → false ≡ all_below test n
unfolding all_below
one_out {test} {n} {i} p l h = sym (le_ind (λ (m : ℕ). all_below test m ≡ false) (fails (all_below test i)) (λ m k q. rw q) n l)
  where
    fails : (a : Bool) → a && test i ≡ false
    fails true = h
    fails false = refl

-- the end
pub all_passed : {test : ℕ → Bool} {n i : ℕ} → Passed test n i → n ≤ i → true ≡ all_below test n
all_passed p l = sym (rw (le_antisymm p.most l) at p.all)
