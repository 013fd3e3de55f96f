use Rattle.fault.specs.declared.fault.Fault.{Fault}
use Rattle.fault.specs.declared.layer.Layer.{Layer}
use Rattle.text.specs.Faults.{text_refusal}
use Rattle.reading.specs.declared.causes.ReadFault.{ReadFault}
use Rattle.reading.specs.declared.causes.ReadFault.TheVariants.{Text, Full}

-- What a text that was not read is told as, in the layer that it stands in.
abbrev pub read_refusal : Layer → ReadFault → Fault
read_refusal l (Text f) = text_refusal l f
read_refusal l Full = record { layer = l; number = 24; place = 0 }
