-- `square_sums::root_of_squares` meets its contract: two squares in either order have one sum. Assumes nothing.
use mathlib.Core.Path.{subst}
use native.Mathlib.Nat.{add_comm}
use Prim.Native.Nat.{ℕ}
use Rattle.square_sums.specs.Squares.{RootOfSquares}
use Rattle.square_sums.proofs.root_of_squares.Goals as goal

pub returns-then-e-f : goal.returns-then-e-f
returns-then-e-f c = subst (λ (z : ℕ). RootOfSquares z c.joined.result) (add_comm _ _) c.joined.ensures
