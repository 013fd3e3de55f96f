use Rattle.std.specs.Prelude.{ℕ, List, ◌++◌, codes, decimal}
use Rattle.fault.specs.Layers.{layer_number}
use Rattle.fault.specs.declared.fault.Fault.{Fault}

-- The line that a program prints of a fault: its three numbers in decimal, parted by one blank.
abbrev pub fault_line : Fault → List ℕ
fault_line f =
    codes "fault " ++ (decimal (layer_number f.layer) ++ (codes " " ++ (decimal f.number ++ (codes " " ++ decimal f.place))))
