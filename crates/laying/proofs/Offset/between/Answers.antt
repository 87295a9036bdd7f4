-- `laying::Offset::between` meets its contract: no difference overflows. Assumes nothing.
use mathlib.Core.Path.{◌≡◌, refl}
use borrow.Author.Rules.{rules}
use lib.IntN.{ℤ, ◌-ℤ◌}
use mir.Syntax.{w32}
use mir.Val.{SFits, to_z, of_z}
use mir.ValLaws.{to_z-of_z}
use Rattle.laying.proofs.Placed.{difference_fits}
use Rattle.laying.proofs.Offset.between.Goals as goal

-- the machine's difference of two numbers: it fits, and it is theirs
abbrev machine : ℤ → ℤ → ℤ
machine a b = to_z w32 (of_z w32 a) -ℤ to_z w32 (of_z w32 b)

abbrev Exact : ℤ → ℤ → Type 0
Exact a b = SFits w32 (machine a b) × (to_z w32 (of_z w32 (machine a b)) ≡ a -ℤ b)

exact : (a b : ℤ) → SFits w32 a → SFits w32 b → SFits w32 (a -ℤ b) → Exact a b
exact a b p q d = rw (to_z-of_z w32 a p, to_z-of_z w32 b q) (d, to_z-of_z w32 (a -ℤ b) d)

pub returns : goal.returns
returns c =
    let across = exact c.args.own.x c.args.other.x (search rules) (search rules) (difference_fits c.args.own.x c.args.other.x c.requires.0.0 c.requires.1.0) in
    let down = exact c.args.own.y c.args.other.y (search rules) (search rules) (difference_fits c.args.own.y c.args.other.y c.requires.0.1 c.requires.1.1) in
    rw (across.1, down.1) refl
