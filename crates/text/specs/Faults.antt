use Rattle.fault.specs.declared.fault.Fault.{Fault}
use Rattle.fault.specs.declared.layer.Layer.{Layer}
use Rattle.text.specs.declared.causes.TextFault.{TextFault}
use Rattle.text.specs.declared.causes.TextFault.TheVariants.{Empty, TooLong, TooDeep, NoText, UnknownWord, WrongArguments}

-- What a refused text is told as, in the layer that the text stands in.
abbrev pub text_refusal : Layer → TextFault → Fault
text_refusal l Empty = record { layer = l; number = 11; place = 0 }
text_refusal l TooLong = record { layer = l; number = 11; place = 0 }
text_refusal l (TooDeep p) = record { layer = l; number = 12; place = p }
text_refusal l (NoText p) = record { layer = l; number = 13; place = p }
text_refusal l (UnknownWord p) = record { layer = l; number = 14; place = p }
text_refusal l (WrongArguments p) = record { layer = l; number = 15; place = p }
