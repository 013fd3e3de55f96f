use Rattle.std.proofs.Common.{◌≡◌, [], ◌++◌, string_bytes}
use Rattle.scale.specs.Told.{listing}
use Rattle.account.specs.Words.{word_text}
use Rattle.account.proofs.words.account.Given as goal

abbrev pub invariant-loop-f : goal.invariant-loop-f
invariant-loop-f g l =
    string_bytes l.text ≡
    [] ++
    listing l.f
    (word_text g.D.Scale.operations g.D.Told.told (g.V.Vocabulary.model l.words) (g.L.Lexicon.spellings l.lexicon))
