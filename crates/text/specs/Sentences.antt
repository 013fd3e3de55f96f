use Rattle.std.specs.Prelude.{ℕ, List, codes}
use Rattle.text.specs.declared.causes.TextFault.{TextFault}
use Rattle.text.specs.declared.causes.TextFault.TheVariants.{Empty, TooLong, TooDeep, NoText, UnknownWord, WrongArguments}

-- What a fault says to a reader who is shown its place.
abbrev pub says : TextFault → List ℕ
says Empty = codes "the text is empty"
says TooLong = codes "the text has more than 4096 bytes"
says (TooDeep p) = codes "more than 31 brackets are open with this one"
says (NoText p) = codes "no text can go on so"
says (UnknownWord p) = codes "there is no such word"
says (WrongArguments p) = codes "the word takes another number of arguments"
