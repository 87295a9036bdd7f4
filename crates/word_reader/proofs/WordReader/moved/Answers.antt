-- `word_reader::WordReader::moved` meets its contract. Assumes nothing.
use mathlib.Core.Path.{sym, ◌∙◌}
use Rattle.std.proofs.lemmas.List.{drop-drop}
use Rattle.word_reader.proofs.WordReader.moved.Goals as goal

pub returns : goal.returns
returns c = c.place_behind.ensures ∙ sym (drop-drop 1 c.args.self.at c.args.self.words.now)
