-- Folds over a list of points. Definitions only.
use Rattle.std.specs.Prelude.{List, [], ◌∷◌, fold}
use Rattle.geometry.specs.declared.Position.{Position}

-- `iter().fold(..)`
abbrev pub fold_of : {S : Type 0} → (S → Position → S) → S → List Position → S
fold_of step s points = fold step s points

-- the same over `windows(2)`: each point and the next
unfoldable pub pairs_of : {S : Type 0} → (S → Position → Position → S) → S → List Position → S
pairs_of step s [] = s
pairs_of step s (p ∷ []) = s
pairs_of step s (p ∷ q ∷ ps) = pairs_of step (step s p q) (q ∷ ps)
