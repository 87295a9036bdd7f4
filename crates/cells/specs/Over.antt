-- Lent bytes with others written over them. Definitions only.
use Rattle.std.specs.Prelude.{ℕ, ◌+◌, List, ◌++◌, length, take, drop}

-- a text written over a list from a place on: all before the place and all past the text stay
abbrev pub over : List ℕ → ℕ → List ℕ → List ℕ
over text at list = take at list ++ (text ++ drop (at + length text) list)
