-- `boundary::hand_record` meets its contract, case by case of the answer. Assumes nothing.
use mathlib.Core.Path.{◌≡◌, refl}
use mathlib.Core.List.{List, [], ◌∷◌}
use Prim.Native.Nat.{◌≤◌}
use native.Mathlib.Omega.{arith}
use lib.ListN.{length, set, drop}
use mir.Syntax.{w32}
use mir.Val.{SFits}
use mir.ValLaws.{to_z-of_z}
use borrow.Author.Rules.{rules}
use Rattle.boundary.proofs.hand_record.Goals as goal

-- two numbers, written to the front
both : {A : Type 0} (lent : List A) (a b : A) → 2 ≤ length lent → set (set lent 0 a) 1 b ≡ a ∷ b ∷ drop 2 lent
both [] a b h = absurd (omega arith)
both (x ∷ []) a b h = absurd (omega arith)
both (x ∷ y ∷ rest) a b h = refl

pub returns-in-Ok : goal.returns-in-Ok
returns-in-Ok c =
    let r = c.in-Ok.read in
    let x : SFits w32 r.corner.x = search rules in
    let y : SFits w32 r.corner.y = search rules in
    rw (c.in-Ok.is, to_z-of_z w32 r.corner.x x, to_z-of_z w32 r.corner.y y)
    (record {
      value = refl;
      size_after = both c.args.size.now r.size.width r.size.height c.requires.0;
      corner_after = both c.args.corner.now r.corner.x r.corner.y c.requires.1;
    })
