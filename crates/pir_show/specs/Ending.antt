-- The exit code of each fault.
use Rattle.std.specs.Prelude.{ℕ}
use Rattle.pir_show.specs.declared.fault.Fault.{Fault}
use Rattle.pir_show.specs.declared.fault.Fault.TheVariants.{Usage, ReadFault, WriteFault, BadInput, Memory}

-- that of `pir` for the same fault
abbrev pub code_of : Fault → ℕ
code_of Usage = 2
code_of ReadFault = 8
code_of WriteFault = 9
code_of (BadInput place) = 10
code_of Memory = 12
