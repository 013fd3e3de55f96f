use Rattle.fault.specs.declared.fault.Fault.{Fault}
use Rattle.fault.specs.declared.layer.Layer.TheVariants.{Vocabulary}
use Rattle.scale.specs.declared.causes.DegreeFault.{DegreeFault}
use Rattle.scale.specs.declared.causes.DegreeFault.TheVariants.{NoDegree}

-- A number that is no degree: layer 1, number 4, place 0.
abbrev pub degree_refusal : DegreeFault → Fault
degree_refusal (NoDegree n) = record { layer = Vocabulary; number = 4; place = 0 }
