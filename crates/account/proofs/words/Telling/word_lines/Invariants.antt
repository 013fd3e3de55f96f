use Rattle.std.proofs.Common.{◌≡◌, ◌++◌, string_bytes}
use Rattle.scale.specs.Told.{listing}
use Rattle.account.specs.Words.{head_text, like_text}
use Rattle.account.proofs.words.Telling.word_lines.Given as goal

abbrev pub invariant-loop-g : goal.invariant-loop-g
invariant-loop-g g l =
    string_bytes l.text ≡
    head_text (g.V.Vocabulary.model l.self.words.now) (g.L.Lexicon.spellings l.self.lexicon.now) l.f ++
    listing l.g
    (like_text g.D.Scale.operations g.D.Told.told (g.V.Vocabulary.model l.self.words.now) (g.L.Lexicon.spellings l.self.lexicon.now) l.f)
