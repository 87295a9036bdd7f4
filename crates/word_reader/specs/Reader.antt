-- The word reader: 'a reader that holds the lent list and its position' (document 01); and what is read of one word
-- (word_list/specs/Words.antt), as the code hands it on. Definitions only.
use Rattle.std.specs.Prelude.{List, [], ◌∷◌, Bool, not, false, ℕ, ℤ, drop, Option, Some, None, Result, Ok, Err}
use Rattle.fault.specs.declared.Fault.{Fault}
use Rattle.fault.specs.Check.{Check}
use Rattle.word_list.specs.Words.{Read, ok, fault, is_zero}
use Rattle.word_reader.specs.declared.WordReader.{WordReader}

-- the words that a reader has ahead
abbrev pub ahead : WordReader → List ℤ
ahead r = drop r.at r.words.now

-- the first of some words, or the list's end
abbrev pub word_of : List ℤ → Option ℤ
word_of [] = None
word_of (w ∷ ws) = Some w

-- a word as a list of its own: what is read of it alone
abbrev pub alone_of : Option ℤ → List ℤ
alone_of (Some w) = w ∷ []
alone_of None = []

-- 'a rule word (0 non-zero, any other value even-odd)'
abbrev pub is_even_odd : Option ℤ → Bool
is_even_odd (Some w) = not (is_zero w)
is_even_odd None = false

-- a count, and what is only checked, with the words behind them left out
abbrev pub counted_of : Read ℕ → Result ℕ Fault
counted_of (ok n rest) = Ok n
counted_of (fault f) = Err f

abbrev pub checked_of : {A : Type 0} → Read A → Check
checked_of (ok a rest) = Ok tt
checked_of (fault f) = Err f
