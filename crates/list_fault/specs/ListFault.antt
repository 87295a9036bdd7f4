-- What is at fault in a word list (document 01, 'What a call hands back': 5, 6 and 7), said of the lists that are
-- written (word_list/specs/Writer.antt) and without the reader's steps. `ListFault` is proved in proofs/ListFault.antt.
use Rattle.std.specs.Prelude.{◌≡◌, ◌⊎◌, List, [], ◌∷◌, ◌++◌, ℤ, pos, negsuc}
use Rattle.fault.specs.declared.Fault.{Fault}
use Rattle.fault.specs.declared.Fault.TheVariants.{ListEndsEarly, CountOutOfRange, CoordinateOutOfRange}
use Rattle.word_list.specs.Words.{Group, fault, read_words}
use Rattle.word_list.specs.Writer.{words_of, Allowed}

-- a list that is written: the words of groups that are allowed
abbrev pub Writing : List ℤ → Type 0
Writing ws = (gs : List Group) × Allowed gs × (ws ≡ words_of gs)

-- a list that begins a writing: with some words behind it, it is one
abbrev pub Begins : List ℤ → Type 0
Begins ws = (rest : List ℤ) × Writing (ws ++ rest)

-- 'the first word at fault': the words before it begin a writing, and with it they begin none
pub record WrongWord (ws : List ℤ) : Type 0 where
  pub front : List ℤ
  pub word : ℤ
  pub behind : List ℤ
  pub here : ws ≡ front ++ (word ∷ behind)
  pub begins : Begins front
  pub wrong : ¬ Begins (front ++ (word ∷ []))

-- Where a count should stand -1 is no word of a writing, where a coordinate should it is one. (A rule word is never
-- wrong.)
abbrev pub MinusOneBegins : {ws : List ℤ} → WrongWord ws → Type 0
MinusOneBegins u = Begins (u.front ++ (negsuc 0 ∷ []))

-- the fault of a list, from its cause
pub data FaultOf (ws : List ℤ) : Fault → Type 0 where
  -- 'a word list ends inside a group': it begins a writing and is none
  ends_early : Begins ws → ¬ Writing ws → FaultOf ws ListEndsEarly
  -- 'a count word below 0, or points passing 2,048 in the list': the wrong word stands at a count's place
  at_count : (u : WrongWord ws) → ¬ MinusOneBegins u → FaultOf ws CountOutOfRange
  -- 'a coordinate word beyond ±1,048,576': it stands at a coordinate's place
  at_coordinate : (u : WrongWord ws) → MinusOneBegins u → FaultOf ws CoordinateOutOfRange

pub record ListFault : Type 0 where
  -- every list is a writing, or begins one, or has a wrong word
  pub one_of_three : (ws : List ℤ) → Writing ws ⊎ ((Begins ws × ¬ Writing ws) ⊎ WrongWord ws)
  -- a list begins no writing exactly when it has a wrong word, and it has one alone
  pub wrong_word : (ws : List ℤ) → ¬ Begins ws → WrongWord ws
  pub wrong_word_only : (ws : List ℤ) → WrongWord ws → ¬ Begins ws
  pub one_wrong_word : (ws : List ℤ) (u v : WrongWord ws) → (u.front ≡ v.front) × (u.word ≡ v.word)
  -- the reading has a fault exactly when the list has it
  pub only : (ws : List ℤ) (f : Fault) → read_words ws ≡ fault f → FaultOf ws f
  pub always : (ws : List ℤ) (f : Fault) → FaultOf ws f → read_words ws ≡ fault f

-- a list with each fault
abbrev pub OneOfEach : Type 0
OneOfEach =
    (read_words (pos 0 ∷ []) ≡ fault ListEndsEarly)
    × (read_words (pos 0 ∷ negsuc 0 ∷ []) ≡ fault CountOutOfRange)
    × (read_words (pos 0 ∷ pos 1 ∷ pos 1 ∷ pos 1048577 ∷ []) ≡ fault CoordinateOutOfRange)
