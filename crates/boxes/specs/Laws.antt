-- When a list is too long, by document 02's number; the first place read back: it is the lowest of those whose box passes. Proved in proofs/Few.antt and proofs/First.antt.
use Rattle.std.specs.Prelude.{ℕ, zero, suc, ◌<◌, ◌≡◌, Bool, true, false, List, [], ◌∷◌, length, Some, None, Err}
use Rattle.fault.specs.declared.Fault.TheVariants as fault
use Rattle.shape.specs.declared.RoundedBox.{RoundedBox}
use Rattle.boxes.specs.Checks.{list_check_of}
use Rattle.boxes.specs.First.{first_from}

-- Document 02, change 7: 'Number 12 is now for more than 4,096, at the same place in the order', which is the first:
-- whatever the boxes hold
pub record TooManyExactlyWhen : Type 0 where
  pub only : (bs : List RoundedBox) → list_check_of bs ≡ Err fault.TooManyBoxes → 4096 < length bs
  pub always : (bs : List RoundedBox) → 4096 < length bs → list_check_of bs ≡ Err fault.TooManyBoxes

-- something holds of each element of a list
abbrev pub All : {A : Type 0} → (A → Type 0) → List A → Type 0
All P [] = Unit
All P (x ∷ xs) = P x × All P xs

-- at place k, counted from 0, there is a box that passes the test
abbrev pub passes_at : List RoundedBox → (RoundedBox → Bool) → ℕ → Bool
passes_at [] test k = false
passes_at (b ∷ bs) test zero = test b
passes_at (b ∷ bs) test (suc k) = passes_at bs test k

pub record LowestPlace : Type 0 where
  pub within : (bs : List RoundedBox) (test : RoundedBox → Bool) (k : ℕ) → passes_at bs test k ≡ true → k < length bs
  pub holds : (bs : List RoundedBox) (test : RoundedBox → Bool) (k : ℕ) → first_from 0 bs test ≡ Some k → passes_at bs test k ≡ true
  pub lowest : (bs : List RoundedBox) (test : RoundedBox → Bool) (k : ℕ) → first_from 0 bs test ≡ Some k
      → (j : ℕ) → j < k → passes_at bs test j ≡ false
  pub nowhere : (bs : List RoundedBox) (test : RoundedBox → Bool) → first_from 0 bs test ≡ None → (k : ℕ) → passes_at bs test k ≡ false
