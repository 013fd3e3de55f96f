use Rattle.std.specs.Prelude.{ℕ, List, codes}
use Rattle.script.specs.declared.verb.Verb.{Verb}
use Rattle.script.specs.declared.verb.Verb.TheVariants.{Variable, Compose, Read, Equate, Back, Mark, Degree, Resolve}

-- How a verb is written.
abbrev pub spelled : Verb → List ℕ
spelled Variable = codes "variable"
spelled Compose = codes "compose"
spelled Read = codes "read"
spelled Equate = codes "equate"
spelled Back = codes "back"
spelled Mark = codes "mark"
spelled Degree = codes "degree"
spelled Resolve = codes "resolve"
